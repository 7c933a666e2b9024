-- What is left to show of `faults_in`.
use Rattle.std.specs.Prelude.{ℕ, ◌+◌, ◌<◌, ◌≡◌, refl, Bool, true, false, not, List, eqb, length, get_or}
use Rattle.std.proofs.Common.{eqb-true, subst}
use Rattle.std.proofs.lemmas.Bool.{eqb-false}
use Rattle.std.proofs.Math.Nat.{add-zero}
use mir.Val.{bool_byte}
use Rattle.totals.specs.laws.Scans.{Counted, counted_skip, counted_more, counted_done}
use Rattle.totals.proofs.faults_in.Goals as goal

-- one finding more
module _ (l : List ℕ) (i : ℕ) (h : i < length l) (count : ℕ) (s : Counted l i count) where
  counted_on : (is_zero : Bool) → eqb (get_or l i 0) 0 ≡ is_zero → Counted l (i + 1) (count + bool_byte (not is_zero))
  counted_on true e = rw add-zero (counted_skip l i h count s (eqb-true _ _ e))
  counted_on false e = counted_more l i h count s (eqb-false _ _ e)

pub loop-finding-preserved : goal.loop-finding-preserved
loop-finding-preserved c = let lp = c.loop-finding in
    subst (Counted c.args.part.now (lp.finding-index + 1)) (cc) (counted_on c.args.part.now lp.finding-index c.loop-finding-test.true lp.count lp.invariant _ refl)

pub returns : goal.returns
returns c = let lp = c.loop-finding in
    counted_done c.args.part.now lp.finding-index lp.count lp.invariant c.loop-finding-test.false
