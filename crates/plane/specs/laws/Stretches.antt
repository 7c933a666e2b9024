-- Stretches that have no number in common: by the ends of the one, as the definition says, and by its least and largest.
use Rattle.std.specs.Prelude.{◌≡◌, refl, Bool, false, cond, not, ◌&&◌, ℤ, ◌≤ℤ◌, ◌<ℤ◌}
use Rattle.std.proofs.Common.{sym, ◌∙◌, arith}
use Rattle.std.proofs.Math.Path.{ap₂}
use Rattle.std.proofs.Math.Bool.{true, ◌||◌}
use Rattle.std.specs.Int.Signed.{lt_z}
use Rattle.whole.specs.laws.Linear.{lin, ◌≼◌, ◌≺◌, ◌⇒◌}
use Rattle.whole.specs.laws.Tests.{lt_yes, lt_no, lt_test, lt_le}
use Rattle.plane.specs.Plane.{under, overlap}
use Rattle.whole.specs.laws.Bools.{and_left, and_right}
use Rattle.plane.specs.held.Edges.{least, most}

-- ---- tests that say the same
same_test : (a b : Bool) → (a ≡ true → b ≡ true) → (b ≡ true → a ≡ true) → a ≡ b
same_test true b f g = sym (f refl)
same_test false true f g = g refl
same_test false false f g = refl

both : {a b : Bool} → a ≡ true → b ≡ true → (a && b) ≡ true
both p q = ap₂ ◌&&◌ p q

four : {a b c d : Bool} → a ≡ true → b ≡ true → c ≡ true → d ≡ true → (a && b && c && d) ≡ true
four p q r s = both (both (both p q) r) s

apart_or : (a b : Bool) → (a || b) ≡ not (not a && not b)
apart_or true b = refl
apart_or false true = refl
apart_or false false = refl

-- ---- what is below
le_lt : (p q c : ℤ) → p ≤ℤ q → q <ℤ c → p <ℤ c
le_lt = lin 3 (λ p q c. p ≼ q ⇒ q ≺ c ⇒ p ≺ c) (λ p q c h l. omega arith)

lt_le_lt : (c p q : ℤ) → c <ℤ p → p ≤ℤ q → c <ℤ q
lt_le_lt = lin 3 (λ c p q. c ≺ p ⇒ p ≼ q ⇒ c ≺ q) (λ c p q h l. omega arith)

below : (p q c : ℤ) → p ≤ℤ q → lt_z q c ≡ true → lt_z p c ≡ true
below p q c h e = lt_test (le_lt p q c h (lt_yes refl refl e))

above : (c p q : ℤ) → p ≤ℤ q → lt_z c p ≡ true → lt_z c q ≡ true
above c p q h e = lt_test (lt_le_lt c p q (lt_yes refl refl e) h)

module _ (p q : ℤ) where
  -- the larger of two is below what both are below, and only then
  pub most_below : (c : ℤ) → lt_z p c ≡ true → lt_z q c ≡ true → lt_z (most p q) c ≡ true
  most_below c a b = go (lt_z q p)
    where
      go : (t : Bool) → lt_z (cond t p q) c ≡ true
      go true = a
      go false = b

  below_most : (c : ℤ) → lt_z (most p q) c ≡ true → (lt_z p c ≡ true) × (lt_z q c ≡ true)
  below_most c e = go (lt_z q p) refl e
    where
      go : (t : Bool) → lt_z q p ≡ t → lt_z (cond t p q) c ≡ true → (lt_z p c ≡ true) × (lt_z q c ≡ true)
      go true z e = (e, below q p c (lt_le (lt_yes refl refl z)) e)
      go false z e = (below p q c (lt_no refl refl z) e, e)

  pub least_above : (c : ℤ) → lt_z c p ≡ true → lt_z c q ≡ true → lt_z c (least p q) ≡ true
  least_above c a b = go (lt_z q p)
    where
      go : (t : Bool) → lt_z c (cond t q p) ≡ true
      go true = b
      go false = a

  above-least : (c : ℤ) → lt_z c (least p q) ≡ true → (lt_z c p ≡ true) × (lt_z c q ≡ true)
  above-least c e = go (lt_z q p) refl e
    where
      go : (t : Bool) → lt_z q p ≡ t → lt_z c (cond t q p) ≡ true → (lt_z c p ≡ true) × (lt_z c q ≡ true)
      go true z e = (above c q p (lt_le (lt_yes refl refl z)) e, e)
      go false z e = (e, above c p q (lt_no refl refl z) e)

  module _ (c d : ℤ) where
    under-most : (lt_z (most p q) c && lt_z (most p q) d) ≡ under p q c d
    unfolding under
    under-most = same_test _ _ forth back
      where
        forth : (lt_z (most p q) c && lt_z (most p q) d) ≡ true → (lt_z p c && lt_z p d && lt_z q c && lt_z q d) ≡ true
        forth e =
            let m = below_most c (and_left (lt_z (most p q) c) (lt_z (most p q) d) e) in
            let n = below_most d (and_right (lt_z (most p q) c) (lt_z (most p q) d) e) in
            four m.0 n.0 m.1 n.1

        back : (lt_z p c && lt_z p d && lt_z q c && lt_z q d) ≡ true → (lt_z (most p q) c && lt_z (most p q) d) ≡ true
        back e =
            let e₁ = and_left (lt_z p c && lt_z p d && lt_z q c) (lt_z q d) e in
            let e₂ = and_left (lt_z p c && lt_z p d) (lt_z q c) e₁ in
            both (most_below c (and_left (lt_z p c) (lt_z p d) e₂) (and_right (lt_z p c && lt_z p d) (lt_z q c) e₁)) (most_below d (and_right (lt_z p c) (lt_z p d) e₂) (and_right (lt_z p c && lt_z p d && lt_z q c) (lt_z q d) e))

    under-least : (lt_z c (least p q) && lt_z d (least p q)) ≡ under c d p q
    unfolding under
    under-least = same_test _ _ forth back
      where
        forth : (lt_z c (least p q) && lt_z d (least p q)) ≡ true → (lt_z c p && lt_z c q && lt_z d p && lt_z d q) ≡ true
        forth e =
            let m = above-least c (and_left (lt_z c (least p q)) (lt_z d (least p q)) e) in
            let n = above-least d (and_right (lt_z c (least p q)) (lt_z d (least p q)) e) in
            four m.0 m.1 n.0 n.1

        back : (lt_z c p && lt_z c q && lt_z d p && lt_z d q) ≡ true → (lt_z c (least p q) && lt_z d (least p q)) ≡ true
        back e =
            let e₁ = and_left (lt_z c p && lt_z c q && lt_z d p) (lt_z d q) e in
            let e₂ = and_left (lt_z c p && lt_z c q) (lt_z d p) e₁ in
            both (least_above c (and_left (lt_z c p) (lt_z c q) e₂) (and_right (lt_z c p) (lt_z c q) e₂)) (least_above d (and_right (lt_z c p && lt_z c q) (lt_z d p) e₁) (and_right (lt_z c p && lt_z c q && lt_z d p) (lt_z d q) e))

    -- what the code tests
    pub apart_is : (lt_z (most p q) c && lt_z (most p q) d || lt_z c (least p q) && lt_z d (least p q)) ≡ not (overlap p q c d)
    unfolding overlap
    apart_is = ap₂ ◌||◌ under-most under-least ∙ apart_or (under p q c d) (under c d p q)

-- what the code tests of boxes
box_under : (p q c d : ℤ) → lt_z (most p q) (least c d) ≡ under p q c d
box_under p q c d = same_test _ _ forth back ∙ under-most p q c d
  where
    forth : lt_z (most p q) (least c d) ≡ true → (lt_z (most p q) c && lt_z (most p q) d) ≡ true
    forth e = let m = above-least c d (most p q) e in both m.0 m.1

    back : (lt_z (most p q) c && lt_z (most p q) d) ≡ true → lt_z (most p q) (least c d) ≡ true
    back e = least_above c d (most p q) (and_left (lt_z (most p q) c) (lt_z (most p q) d) e) (and_right (lt_z (most p q) c) (lt_z (most p q) d) e)

pub box_apart : (p q c d : ℤ) → (lt_z (most p q) (least c d) || lt_z (most c d) (least p q)) ≡ not (overlap p q c d)
unfolding overlap
box_apart p q c d = ap₂ ◌||◌ (box_under p q c d) (box_under c d p q) ∙ apart_or (under p q c d) (under c d p q)
