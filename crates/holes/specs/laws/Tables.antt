-- The rings that lie in the tables: those after one, and where a ring's first entry stands.
use Rattle.std.specs.Prelude.{ℕ, ◌+◌, ◌-◌, ◌≤◌, ◌<◌, ◌≡◌, List, length, get_or, drop}
use Rattle.std.proofs.Common.{arith, sym, ap, ◌∙◌, subst, length-take, length-drop, get_or-take, get_or-drop}
use Rattle.ring.specs.held.Rings.{ring_at}
use Rattle.holes.specs.held.Rings.{Ring, Rings, Filled}

module _ {entries starts : List ℕ} {from to : ℕ} where
  pub rings-from : Rings entries starts from to → (p : ℕ) → from ≤ p → Rings entries starts p to
  rings-from h p l = record { few = h.few; each = λ r g k. h.each r (omega arith) k }

  pub filled-from : Filled entries starts from to → (p : ℕ) → from ≤ p → Filled entries starts p to
  filled-from h p l = record { each = λ r g k. h.each r (omega arith) k }

-- ---- the first entry of a ring that has one
module _ {entries starts : List ℕ} {p : ℕ} (h : Ring entries starts p) (some : 1 ≤ length (ring_at entries starts p)) where
  abbrev s : ℕ
  s = get_or starts p 0

  abbrev e : ℕ
  e = get_or starts (p + 1) 0

  pub first_lies : s < 1024
  first_lies = omega (arith, some, length-take (e - s) (drop s entries), length-drop s entries, h.entries-size)

  long : 0 < e - s
  long = omega (arith, some, length-take (e - s) (drop s entries))

  pub first_is : get_or entries s 0 ≡ get_or (ring_at entries starts p) 0 0
  first_is = let z : s ≡ s + 0 = omega arith in ap (λ (n : ℕ). get_or entries n 0) z ∙ sym (get_or-take (e - s) (drop s entries) 0 0 long ∙ get_or-drop s entries 0 0)

  pub first_known : get_or entries s 0 < 512
  first_known = subst (λ (n : ℕ). n < 512) (sym first_is) (h.known.each 0 some)
