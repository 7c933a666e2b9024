-- `taken::clear` meets its contract: 512 times 0, and what stood behind the heads.
use Rattle.std.proofs.Common.{◌≡◌, ℕ, ◌≤◌, ◌<◌, ◌++◌, List, length, replicate, take, drop, get_or, arith, ap, ◌∙◌, length-take-le, ltb-true}
use Rattle.std.specs.Prelude.{ltb}
use Rattle.std.proofs.lemmas.Bool.{ltb-false}
use Rattle.std.proofs.lemmas.Grind.{same_number_lists, common_steps}
use Rattle.whole.specs.held.Stored.{zeroed}
use Rattle.whole.specs.laws.Stores.{cases, length-upto, upto_done, upto_rest}
use Rattle.taken.proofs.clear.Goals as goal

module _ (l : List ℕ) (m : ℕ) (h : m ≤ length l) where
  filled : replicate m 0 ++ drop m l ≡ zeroed l m
  filled =
      let n : length (zeroed l m) ≡ length l = length-upto (λ p old. 0) 0 l m in
      same_number_lists (replicate m 0 ++ drop m l) (zeroed l m) (grind (arith, common_steps, n)) each
    where
      each : (k : ℕ) → k < length (replicate m 0 ++ drop m l) → get_or (replicate m 0 ++ drop m l) k 0 ≡ get_or (zeroed l m) k 0
      each k g =
          cases (ltb k m)
          (λ t. let s : k < m = ltb-true k m t in grind (arith, common_steps, upto_done (λ p old. 0) 0 l m k s h))
          (λ t. let s : m ≤ k = ltb-false k m t in grind (arith, common_steps, upto_rest (λ p old. 0) 0 l m k s))

pub returns : goal.returns
returns c =
    let s = c.args.table.now in
    let n : length (take 512 s) ≡ 512 = length-take-le 512 s (omega arith) in
    ap (λ (t : List ℕ). t ++ drop 512 s) (rw n at (c.fill.ensures.after (λ y f. f))) ∙ filled s 512 (omega arith)
