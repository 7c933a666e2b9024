-- `ring::is_closed` meets its contract. The last entry is the one at the length less one.
use Rattle.std.specs.Prelude.{ℕ, ◌-◌, ◌≡◌, refl, not, List, [], ◌∷◌, eqb, length, Option, None, Some, option_copied, slice_get}
use Rattle.std.specs.Option.{option_eq}
use Rattle.std.proofs.Common.{Bor, arith}
use Rattle.std.proofs.lemmas.Option.{slice_get-get_or}
use Rattle.ring.specs.Entries.{is_unclosed}
use Rattle.ring.specs.laws.Rings.{none-closed, closed_is}
use Rattle.ring.proofs.is_closed.Goals as goal

-- what borrowed entries compare is the entries
borrowed : (a b : Option (Bor ℕ)) → option_eq (λ x y. eqb x.now y.now) a b ≡ option_eq eqb (option_copied a) (option_copied b)
borrowed None None = refl
borrowed None (Some y) = refl
borrowed (Some x) None = refl
borrowed (Some x) (Some y) = refl

ends : (ring : List ℕ) → option_eq eqb (slice_get ring 0) (slice_get ring (length ring - 1)) ≡ not (is_unclosed ring)
ends [] = none-closed [] refl
ends (a ∷ l) = rw (slice_get-get_or (a ∷ l) (length (a ∷ l) - 1) 0 (omega arith)) (closed_is (a ∷ l) _ refl (omega arith))

pub returns : goal.returns
returns c = cc (borrowed c.first.result c.last.result, ends c.args.ring.now)
