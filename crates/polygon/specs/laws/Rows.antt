-- Rows that come after those of checks 01 to 05: they are looked at exactly where none of these fails.
use Rattle.std.specs.Prelude.{ℕ, zero, suc, ◌+◌, ◌*◌, ◌≤◌, ◌≡◌, Bool, true, false, ◌⊎◌, length}
use Rattle.std.proofs.Common.{arith, sym, ap, ◌∙◌, subst, inl, inr}
use Rattle.std.proofs.Math.Path.{refl}
use mathlib.Core.List.{List, [], ◌∷◌, ◌++◌}
use Rattle.std.proofs.Math.Option.{Option, none, some, some-injective, none-ne-some}
use Rattle.whole.specs.Lists.{given, first}
use Rattle.whole.specs.All as all
use Rattle.whole.specs.All.{All}
use Rattle.space.specs.Space.{Point, places}
use Rattle.plane.specs.Plane.{largest_axis_of}
use Rattle.normal.specs.Normal.{normal}
use Rattle.ring.specs.Entries.{repeated_at}
use Rattle.crossing.specs.Crossed.{crossed_at}
use Rattle.even.specs.Even.{is_uneven, uneven_at}
use Rattle.polygon.specs.declared.Finding.{Finding}
use Rattle.polygon.specs.declared.Finding.TheVariants.{Sound, Short, Unclosed, Repeated, NoNormal, Crossed, Uneven}
use Rattle.polygon.specs.Ring.{edges_in, ring_rows, ring_finding, finding, finding_number_of, finding_position_of}
use Rattle.polygon.specs.held.Findings.{kept_finding}
use Rattle.polygon.specs.held.Position.{has_position_of}
use Rattle.polygon.specs.laws.Position.{number_same, position_few}

-- ---- any rows
module _ {A : Type 0} where
  -- what rows after others tell is told where none of the others is given
  pub first-after : (a : A) (l m : List (Option A)) → first a (l ++ m) ≡ first (first a m) l
  unfolding first
  first-after a [] m = refl
  first-after a (none ∷ l) m = first-after a l m
  first-after a (some b ∷ l) m = refl

  -- rows none of which gives a
  abbrev pub Others : A → List (Option A) → Type 0
  Others a l = All (λ (o : Option A). o ≡ some a → ⊥) l

  module _ (a d : A) where
    -- they give nothing exactly where a is what they tell
    pub first-left : (l : List (Option A)) → Others a l → first a l ≡ a → first d l ≡ d
    unfolding first
    first-left [] all.none e = refl
    first-left (none ∷ l) (all.more q n) e = first-left l n e
    first-left (some b ∷ l) (all.more q n) e = absurd (q (ap some e))

    pub first_taken : (l : List (Option A)) → (first a l ≡ a → ⊥) → first d l ≡ first a l
    unfolding first
    first_taken [] f = absurd (f refl)
    first_taken (none ∷ l) f = first_taken l f
    first_taken (some b ∷ l) f = refl

-- ---- findings
pub fault : (t : Bool) (f : Finding) → (finding_number_of f ≡ 0 → ⊥) → given t f ≡ some Sound → ⊥
unfolding given finding_number_of
fault true f h e = h (ap finding_number_of (some-injective f Sound e))
fault false f h e = none-ne-some Sound e

pub above_zero : (f : Finding) {n : ℕ} → finding_number_of f ≡ suc n → finding_number_of f ≡ 0 → ⊥
above_zero f e h = omega arith

-- no row of 01 to 05 gives `Sound`
pub ring_others : (points : List Point) (ring : List ℕ) → Others Sound (ring_rows points ring)
unfolding ring_rows finding_number_of
ring_others points ring =
    let ps = places points ring in
    let at = crossed_at (edges_in (largest_axis_of (normal ps)) ps) in
    all.more (fault _ Short (above_zero Short refl)) (all.more (fault _ Unclosed (above_zero Unclosed refl)) (all.more (fault _ (Repeated (repeated_at ring)) (above_zero (Repeated (repeated_at ring)) refl)) (all.more (fault _ NoNormal (above_zero NoNormal refl)) (all.more (fault _ (Crossed at) (above_zero (Crossed at) refl)) all.none))))

-- what is kept is 0 exactly for `Sound`
pub kept_sound : (f : Finding) → kept_finding f ≡ 0 → f ≡ Sound
unfolding kept_finding finding_number_of has_position_of
kept_sound f e = sym (number_same Sound f refl (lowest (finding_number_of f) (finding_position_of f) e))
  where
    lowest : (m i : ℕ) → 16 * i + m ≡ 0 → 0 ≡ m
    lowest m i h = omega arith

pub kept_fault : (f : Finding) → (kept_finding f ≡ 0 → ⊥) → f ≡ Sound → ⊥
unfolding kept_finding finding_number_of finding_position_of
kept_fault f h e = h (ap kept_finding e)

-- a finding is `Sound` or not
pub sound_or : (f : Finding) → (f ≡ Sound) ⊎ (f ≡ Sound → ⊥)
sound_or f = go (kept_finding f) refl
  where
    go : (k : ℕ) → kept_finding f ≡ k → (f ≡ Sound) ⊎ (f ≡ Sound → ⊥)
    go zero e = inl (kept_sound f e)
    go (suc k) e = inr (kept_fault f (λ z. omega arith))

-- ---- then 06
module _ (tolerance : ℕ) (points : List Point) (ring : List ℕ) where
  -- what 01 to 05 tell is the finding
  pub finding_taken : (ring_finding points ring ≡ Sound → ⊥) → finding tolerance points ring ≡ ring_finding points ring
  unfolding finding ring_finding
  finding_taken h = first-after Sound (ring_rows points ring) _ ∙ first_taken Sound _ (ring_rows points ring) h

  -- where they tell nothing, 06 does
  pub finding-left : ring_finding points ring ≡ Sound → let ps = places points ring in let n = normal ps in finding tolerance points ring ≡ first Sound (given (is_uneven tolerance n ps) (Uneven (uneven_at tolerance n ps)) ∷ [])
  unfolding finding ring_finding
  finding-left e = first-after Sound (ring_rows points ring) _ ∙ first-left Sound _ (ring_rows points ring) (ring_others points ring) e

-- a position that they tell is one of the ring
pub ring_position_few : (points : List Point) (ring : List ℕ) → finding_position_of (ring_finding points ring) ≤ length ring
unfolding finding_position_of
ring_position_few points ring = go (sound_or (ring_finding points ring))
  where
    go : (ring_finding points ring ≡ Sound) ⊎ (ring_finding points ring ≡ Sound → ⊥) → finding_position_of (ring_finding points ring) ≤ length ring
    go (inl e) = subst (λ (f : Finding). finding_position_of f ≤ length ring) (sym e) (omega arith)
    go (inr h) = subst (λ (f : Finding). finding_position_of f ≤ length ring) (finding_taken 0 points ring h) (position_few 0 points ring)
