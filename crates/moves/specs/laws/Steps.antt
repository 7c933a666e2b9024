-- The polygons looked at again one by one.
use Rattle.std.specs.Prelude.{ℕ, ◌≡◌, true, false, List, length, set, ℤ, pos}
use Rattle.std.proofs.Math.Path.{refl}
use Rattle.std.proofs.Common.{sym, ap, ◌∙◌}
use Rattle.std.proofs.lemmas.List.{set-get_or}
use Rattle.whole.specs.Lists.{lists}
use Rattle.whole.specs.held.Stored.{upto}
use Rattle.ring.specs.Polygon.{entries_from}
use Rattle.ring.specs.held.Rings.{polygon_at}
use Rattle.renew.specs.held.Renewed.{Refreshed}
use Rattle.whole.specs.laws.Stores.{length-upto}
use Rattle.moves.specs.held.Steps.{restamp, refind, repart, Touched, Looked}

module _ (tolerance : ℕ) (points : List ℤ) (entries starts firsts : List ℕ) (number n : ℕ) where
  module _ {p : ℕ} {stamps findings : List ℕ} {parts : List ℤ} where
    pub touched-yes : lists n (entries_from (polygon_at entries starts firsts p)) ≡ true → {findings' : List ℕ} {parts' : List ℤ} → Refreshed tolerance points entries starts firsts p findings parts findings' parts'
        → Touched tolerance points entries starts firsts number n p stamps findings parts (set stamps p number) findings' parts'
    touched-yes t r = record { stamped = rw t; found = r.found ∙ rw t; summed = r.summed ∙ rw t }

    pub touched-no : lists n (entries_from (polygon_at entries starts firsts p)) ≡ false → Touched tolerance points entries starts firsts number n p stamps findings parts stamps findings parts
    touched-no t =
        record {
          stamped = rw t (sym (set-get_or stamps p 0));
          found = rw t (sym (set-get_or findings p 0));
          summed = rw t (sym (set-get_or parts p (pos 0)));
        }

  module _ {stamps findings : List ℕ} {parts : List ℤ} where
    pub looked_none : Looked tolerance points entries starts firsts number n 0 stamps findings parts stamps findings parts
    unfolding upto
    looked_none = record { stamped = refl; found = refl; summed = refl }

    module _ {m : ℕ} {stamps' findings' : List ℕ} {parts' : List ℤ} (lo : Looked tolerance points entries starts firsts number n m stamps findings parts stamps' findings' parts') where
      pub looked-stamps : length stamps' ≡ length stamps
      looked-stamps = ap length lo.stamped ∙ length-upto (restamp entries starts firsts number n) 0 stamps m

      pub looked-findings : length findings' ≡ length findings
      looked-findings = ap length lo.found ∙ length-upto (refind tolerance points entries starts firsts n) 0 findings m

      pub looked-parts : length parts' ≡ length parts
      looked-parts = ap length lo.summed ∙ length-upto (repart points entries starts firsts n) (pos 0) parts m
