-- What is left to show of `lowest_cut`.
use Rattle.std.specs.Prelude.{◌<◌, ◌≡◌, min, MatchOption}
use Rattle.std.proofs.Common.{rules}
use mathlib.Core.Path.{refl, sym, ◌∙◌}
use native.Mathlib.Omega.{arith}
use Rattle.bits.specs.held.Bits.{marks_of}
use Rattle.bits.specs.laws.Words.{spread_small}
use Rattle.reach.specs.laws.Marks.{marked_is, bare_is}
use Rattle.links.proofs.Firsts.{cut_skip_at, cut_lower_at, lower}
use Rattle.links.proofs.lowest_cut.Goals as goal
use Rattle.links.proofs.lowest_cut.Goals.{else-not-is_marked, then-not-is_marked}

pub loop-w-preserved : goal.loop-w-preserved
loop-w-preserved c = let lp = c.loop-w in
    let m = marks_of c.args.marks.now in
    let s = c.step_of-s in
    let is = c.is_marked.ensures in
    elim c.if-not-is_marked.branch [
      | then-not-is_marked w ↦
          let small : w.from-v.result < 65536 = omega (arith, w.from-v.ensures, c.fits-entries s.result) in
          let told : MatchOption lp.best (w.map_or.result ≡ w.from-v.result) (λ b. w.map_or.result ≡ min b w.from-v.result) = search rules in
          let least = lower lp.best _ _ told small in
          let bare = bare_is m s.result (spread_small 64 c.args.marks.now) (sym w.if-not-is_marked.true ∙ is) in
          (rw w.best-is (omega (arith, least)), rw w.best-is (cut_lower_at _ _ _ _ _ _ _ s.ensures.0 w.from-v.ensures lp.invariant.1 c.loop-w-test.true bare _ least))
      | else-not-is_marked w ↦
          let marked = marked_is m s.result (sym w.if-not-is_marked.false ∙ is) in
          (rw w.best-is lp.invariant.0, rw w.best-is (cut_skip_at _ _ _ _ _ _ _ s.ensures.0 refl lp.invariant.1 c.loop-w-test.true (λ z. absurd (omega (arith, marked)))))
    ]
