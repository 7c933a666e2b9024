-- The points that a list of numbers holds: each by its number, one that is written, and those that a ring lists.
use Rattle.std.specs.Prelude.{ℕ, zero, suc, ◌+◌, ◌*◌, ◌<◌, ◌≡◌, refl, List, [], ◌∷◌, length, get_or, set, ℤ, pos}
use Rattle.std.proofs.Common.{arith, sym, ap, ap₂, ◌∙◌}
use Rattle.space.specs.Space.{Point, origin, places}
use Rattle.space.specs.held.Points.{place_at, points_of}

third : (p : ℕ) → 3 * suc p ≡ suc (suc (suc (3 * p)))
third p = omega arith

third_and : (p k : ℕ) → 3 * suc p + k ≡ suc (suc (suc (3 * p + k)))
third_and p k = omega arith

place_at-next : (x y z : ℤ) (l : List ℤ) (p : ℕ) → place_at l p ≡ place_at (x ∷ y ∷ z ∷ l) (suc p)
place_at-next x y z l p =
    λ i. record {
      x = get_or (x ∷ y ∷ z ∷ l) (sym (third p) i) (pos 0);
      y = get_or (x ∷ y ∷ z ∷ l) (sym (third_and p 1) i) (pos 0);
      z = get_or (x ∷ y ∷ z ∷ l) (sym (third_and p 2) i) (pos 0);
    }

pub points_of-at : (flat : List ℤ) (p : ℕ) → 3 * p + 2 < length flat → get_or (points_of flat) p origin ≡ place_at flat p
unfolding points_of
points_of-at [] p h = absurd (omega arith)
points_of-at (x ∷ []) p h = absurd (omega arith)
points_of-at (x ∷ y ∷ []) p h = absurd (omega arith)
points_of-at (x ∷ y ∷ z ∷ l) zero h = refl
points_of-at (x ∷ y ∷ z ∷ l) (suc p) h = points_of-at l p (omega arith) ∙ place_at-next x y z l p

-- writing the three numbers of point p puts it there
pub points_of-set : (flat : List ℤ) (p : ℕ) (x y z : ℤ) → 3 * p + 2 < length flat
    → points_of (set (set (set flat (3 * p) x) (3 * p + 1) y) (3 * p + 2) z) ≡ set (points_of flat) p (record { x = x; y = y; z = z })
unfolding points_of
points_of-set [] p x y z h = absurd (omega arith)
points_of-set (a ∷ []) p x y z h = absurd (omega arith)
points_of-set (a ∷ b ∷ []) p x y z h = absurd (omega arith)
points_of-set (a ∷ b ∷ c ∷ l) zero x y z h = refl
points_of-set (a ∷ b ∷ c ∷ l) (suc p) x y z h =
    (λ i. points_of (set (set (set (a ∷ b ∷ c ∷ l) (third p i) x) (third_and p 1 i) y) (third_and p 2 i) z))
    ∙ ap (λ (m : List Point). record { x = a; y = b; z = c } ∷ m) (points_of-set l p x y z (omega arith))

-- there are a third as many points as numbers
pub points_of-length : (flat : List ℤ) (n : ℕ) → length flat ≡ 3 * n → length (points_of flat) ≡ n
unfolding points_of
points_of-length [] n h = omega arith
points_of-length (x ∷ []) n h = absurd (omega arith)
points_of-length (x ∷ y ∷ []) n h = absurd (omega arith)
points_of-length (x ∷ y ∷ z ∷ l) zero h = absurd (omega arith)
points_of-length (x ∷ y ∷ z ∷ l) (suc n) h = ap suc (points_of-length l n (omega arith))

-- ---- only the points that a ring lists tell its places
pub places_same : (points others : List Point) (ring : List ℕ) → ((i : ℕ) → i < length ring → get_or points (get_or ring i 0) origin ≡ get_or others (get_or ring i 0) origin) → places points ring ≡ places others ring
unfolding places
places_same points others [] h = refl
places_same points others (e ∷ ring) h = ap₂ (λ (x : Point) (l : List Point). x ∷ l) (h 0 (omega arith)) (places_same points others ring (λ i g. h (suc i) (omega arith)))
