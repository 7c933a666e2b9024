-- A polygon of one ring, and a polygon turned: it lists the same numbers, as many of them, and turned twice it is as it was.
use Rattle.std.specs.Prelude.{ℕ, ◌+◌, ◌-◌, ◌≡◌, refl, Bool, ◌||◌, List, [], ◌∷◌, map, reverse, eqb, length, get_or}
use Rattle.std.proofs.Common.{arith, sym, ap₂, ◌∙◌, append-nil, length-append}
use Rattle.std.proofs.lemmas.List.{reverse-reverse, length-reverse}
use Rattle.whole.specs.Lists.{any, lists}
use Rattle.whole.specs.laws.Reverse.{any-reverse, any_append}
use Rattle.whole.specs.held.Spans.{span}
use Rattle.ring.specs.Polygon.{Polygon, rings_of, one, all, entries_from, turned_over}
use Rattle.ring.specs.held.Rings.{ring_at, polygon_at}

-- ---- of one ring
pub entries-one : (ring : List ℕ) → entries_from (one ring) ≡ ring
unfolding one entries_from rings_of all
entries-one ring = append-nil ring

pub turned-one : (ring : List ℕ) → turned_over (one ring) ≡ one (reverse ring)
unfolding one turned_over
turned-one ring = refl

-- a polygon whose first ring is followed by the next one's
pub polygon-one : (es st ft : List ℕ) (p : ℕ) → get_or ft p 0 ≡ p → get_or ft (p + 1) 0 ≡ p + 1 → polygon_at es st ft p ≡ one (ring_at es st p)
unfolding one span
polygon-one es st ft p a b =
    let e : get_or ft (p + 1) 0 - get_or ft p 0 - 1 ≡ 0 = omega arith in
    ap₂ (λ (r k : ℕ). record { outer = ring_at es st r; inner = span (ring_at es st) (r + 1) k }) a e

-- ---- turned
reverse_each : (l : List (List ℕ)) → map reverse (map reverse l) ≡ l
reverse_each [] = refl
reverse_each (r ∷ l) = ap₂ (λ (a : List ℕ) (b : List (List ℕ)). a ∷ b) (reverse-reverse r) (reverse_each l)

pub twice-over : (p : Polygon) → turned_over (turned_over p) ≡ p
unfolding turned_over
twice-over p = ap₂ (λ (a : List ℕ) (b : List (List ℕ)). record { outer = a; inner = b }) (reverse-reverse p.outer) (reverse_each p.inner)

any-rings : (t : ℕ → Bool) (rs : List (List ℕ)) → any t (all (λ r. r) (map reverse rs)) ≡ any t (all (λ r. r) rs)
unfolding all
any-rings t [] = refl
any-rings t (r ∷ rs) =
    any_append t (reverse r) (all (λ r. r) (map reverse rs)) ∙ (ap₂ (λ (a b : Bool). a || b) (any-reverse t r) (any-rings t rs) ∙ sym (any_append t r (all (λ r. r) rs)))

pub any-turned : (t : ℕ → Bool) (p : Polygon) → any t (entries_from (turned_over p)) ≡ any t (entries_from p)
unfolding entries_from turned_over rings_of
any-turned t p = any-rings t (p.outer ∷ p.inner)

pub lists-turned : (n : ℕ) (p : Polygon) → lists n (entries_from (turned_over p)) ≡ lists n (entries_from p)
unfolding lists
lists-turned n p = any-turned (eqb n) p

length-rings : (rs : List (List ℕ)) → length (all (λ r. r) (map reverse rs)) ≡ length (all (λ r. r) rs)
unfolding all
length-rings [] = refl
length-rings (r ∷ rs) =
    length-append (reverse r) (all (λ r. r) (map reverse rs)) ∙ (ap₂ (λ (a b : ℕ). a + b) (length-reverse r) (length-rings rs) ∙ sym (length-append r (all (λ r. r) rs)))

pub length-turned : (p : Polygon) → length (entries_from (turned_over p)) ≡ length (entries_from p)
unfolding entries_from turned_over rings_of
length-turned p = length-rings (p.outer ∷ p.inner)
