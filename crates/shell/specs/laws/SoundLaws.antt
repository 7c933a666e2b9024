-- A ring that checks 01, 02 and 03 let pass, as those checks say it, is sound.
use Rattle.std.specs.Prelude.{ℕ, zero, suc, ◌-◌, ◌<◌, ◌≡◌, true, false, List, [], ◌∷◌, eqb, ltb, length, get_or}
use Rattle.std.proofs.Common.{le_of_suc-le-suc, not-suc-le-zero, arith, sym, ap, ◌∙◌, true≢false, ltb-false, eqb-true, eq-eqb}
use Rattle.whole.specs.Lists.{any_two, front, last_of}
use Rattle.whole.specs.laws.Front.{last-at, front_length, front_at}
use Rattle.whole.specs.laws.Search.{two-parts}
use Rattle.shell.specs.laws.Closure.{in_any}
use Rattle.edges.specs.laws.Tallies.{place_in}
use Rattle.shell.specs.held.Kept.{Sound}

no_two : (m : List ℕ) → any_two eqb m ≡ false → (i j : ℕ) → i < j → j < length m → get_or m i 0 ≡ get_or m j 0 → ⊥
no_two [] h i j a b e = not-suc-le-zero b
no_two (x ∷ m) h zero zero a b e = not-suc-le-zero a
no_two (x ∷ m) h zero (suc j) a b e = true≢false (sym (in_any (eqb x) (get_or m j 0) m (place_in m j (le_of_suc-le-suc b)) (eq-eqb x (get_or m j 0) e)) ∙ (two-parts eqb x m h).0)
no_two (x ∷ m) h (suc i) zero a b e = not-suc-le-zero a
no_two (x ∷ m) h (suc i) (suc j) a b e = no_two m (two-parts eqb x m h).1 i j (le_of_suc-le-suc a) (le_of_suc-le-suc b) e

pub sound_ring : (a : ℕ) (l : List ℕ) → ltb (length (a ∷ l)) 4 ≡ false → eqb a (last_of a l) ≡ true → any_two eqb (front (a ∷ l)) ≡ false → Sound (a ∷ l)
sound_ring a l short closed twice = record {
  long = ltb-false (length (a ∷ l)) 4 short;
  closed = ap (λ (k : ℕ). get_or (a ∷ l) k 0) (one_less (length l)) ∙ (sym (last-at 0 a l) ∙ sym (eqb-true a (last_of a l) closed));
  once = λ i j h k e. no_two (front (a ∷ l)) twice i j h (omega (arith, front_length (a ∷ l))) (front_at (a ∷ l) i 0 (omega arith) ∙ (e ∙ sym (front_at (a ∷ l) j 0 k)));
}
  where
    one_less : (n : ℕ) → suc n - 1 ≡ n
    one_less n = omega arith
