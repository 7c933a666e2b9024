-- What is left to show of `runs::find_run`.
use native.Mathlib.Omega.{arith}
use Prim.Native.Nat.{◌≤◌}
use mathlib.Core.Path.{◌≡◌, ap}
use mathlib.Core.List.{map}
use lib.ListN.{length, length-map, length-drop}
use borrow.Author.Rules.{rules}
use Rattle.std.proofs.lemmas.List.Sorted.{answers_always}
use Rattle.words.specs.held.Words.{key_from}
use Rattle.shell.specs.laws.Keys.{find_out, find-here, find-more, keys_sorted, key_below, key_above}
use Rattle.shell.proofs.Cuts.{one_edge, cut_inside, cut_rest, cut_run}
use Rattle.shell.proofs.runs.find_run.Goals as goal
use Rattle.shell.proofs.runs.find_run.Goals.{else-least-n-via-then-least-n+else-n-most, else-least-n-via-else-least-n}

pub returns-then-n-most : goal.returns-then-n-most
returns-then-n-most c = let l = c.args.words.now in
    let s = c.in-Some.ensures.steps in
    let y = c.loop-run.invariant in
    let inside = cut_inside l _ _ _ c.loop-run.i y.left s.0 s.1 in
    let run = cut_run l _ _ _ c.loop-run.i y.left s.0 s.1 (s.2 one_edge (answers_always _ _ _ (λ f a r q k. search rules))).1 in
    (inside, find-here _ _ (map key_from l) _ (keys_sorted l c.requires.0) c.requires.1 y.finding _ (key_below l _ inside) run (omega arith) (omega arith))

pub loop-run-preserved : goal.loop-run-preserved
loop-run-preserved c = let l = c.args.words.now in
    let s = c.in-Some.ensures.steps in
    let y = c.loop-run.invariant in
    let run = cut_run l _ _ _ c.loop-run.i y.left s.0 s.1 (s.2 one_edge (answers_always _ _ _ (λ f a r q k. search rules))).1 in
    record {
      left = cut_rest l _ _ _ c.loop-run.i y.left s.0 s.1;
      finding = find-more _ _ (map key_from l) _ (keys_sorted l c.requires.0) c.requires.1 y.finding _ (key_below l _ (cut_inside l _ _ _ c.loop-run.i y.left s.0 s.1)) run
          (λ b. elim c.else-least-n.branch [ else-least-n-via-then-least-n+else-n-most w ↦ omega arith | else-least-n-via-else-least-n w ↦ omega arith ]);
    }

pub returns : goal.returns
returns c = let l = c.args.words.now in
    let y = c.loop-run.invariant in
    let within : c.loop-run.i ≤ length l = rw length-map at y.finding.within in
    let end : c.loop-run.i ≡ length l = omega (arith, c.in-None.ensures.steps.0, ap length y.left, length-drop c.loop-run.i l) in
    rw end at (find_out _ _ (map key_from l) c.loop-run.i (keys_sorted l c.requires.0) c.requires.1 y.finding (key_above l _ (omega arith)))
