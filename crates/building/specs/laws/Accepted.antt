-- A building is accepted exactly when no check fails.
use Rattle.std.specs.Prelude.{ℕ, suc, ◌≡◌, refl, Bool, true, false, List, [], ◌∷◌, map, ltb, pos}
use Rattle.std.proofs.Common.{sym, ap, ◌∙◌, true≢false}
use Rattle.std.proofs.lemmas.Bool.{false≢true}
use Rattle.std.proofs.Math.Option.{Option, none, some, some-ne-none}
use Rattle.std.specs.Int.Signed.{le_z}
use Rattle.whole.specs.Lists.{given, first, first_given, numbered_from, numbered, tally}
use Rattle.whole.specs.All as A
use Rattle.whole.specs.All.{All}
use Rattle.polygon.specs.declared.Finding.{Finding}
use Rattle.polygon.specs.declared.Finding.TheVariants.{Sound, Short, Unclosed, Repeated, NoNormal, Crossed, Uneven, Shared, Misplaced}
use Rattle.polygon.specs.Ring.{finding_number_of}
use Rattle.inner.specs.Finding.{finding}
use Rattle.shell.specs.declared.Shape.{Shape}
use Rattle.shell.specs.declared.Shape.TheVariants.{Whole, Few, Once, Often, Alike, Apart, Unlinked}
use Rattle.shell.specs.Shell.{shape, shape_number_of}
use Rattle.building.specs.declared.Verdict.{Verdict}
use Rattle.building.specs.declared.Verdict.TheVariants.{Accepted, Faulty, Unsound, Inward}
use Rattle.ring.specs.Polygon.{Polygon}
use Rattle.building.specs.Tables.{Tables}
use Rattle.building.specs.Report.{check_number_of, shape_fault, findings, is_fault, lowest_fault, six_volume_of, verdict}

-- no polygon has a finding, no check of the whole fails, and the six-volume is above zero
pub record NoneFails (t : Tables) : Type 0 where
  pub each : All (λ (r : Polygon). finding t.tolerance t.points r ≡ Sound) t.polygons
  pub closed : shape t.polygons ≡ Whole
  pub outward : le_z (six_volume_of t) (pos 0) ≡ false

is_sound : (f : Finding) → is_fault f ≡ false → f ≡ Sound
unfolding is_fault finding_number_of
is_sound Sound e = refl
is_sound Short e = absurd (true≢false e)
is_sound Unclosed e = absurd (true≢false e)
is_sound (Repeated i) e = absurd (true≢false e)
is_sound NoNormal e = absurd (true≢false e)
is_sound (Crossed i) e = absurd (true≢false e)
is_sound (Uneven i) e = absurd (true≢false e)
is_sound Shared e = absurd (true≢false e)
is_sound Misplaced e = absurd (true≢false e)

-- the rows of the findings, from number n on
unfoldable pub rows : ℕ → List Finding → List (Option Verdict)
rows n fs = map (λ f. given (is_fault f.1) (Faulty f.0 f.1)) (numbered_from n fs)

rows_none : (n : ℕ) (fs : List Finding) → first_given (rows n fs) ≡ none → All (λ (f : Finding). f ≡ Sound) fs
unfolding rows first_given given numbered_from
rows_none n [] e = A.none
rows_none n (f ∷ fs) e = go (is_fault f) refl e (rows_none (suc n) fs)
  where
    go : (b : Bool) → is_fault f ≡ b → first_given (given b (Faulty n f) ∷ rows (suc n) fs) ≡ none → (first_given (rows (suc n) fs) ≡ none → All (λ (f : Finding). f ≡ Sound) fs) → All (λ (f : Finding). f ≡ Sound) (f ∷ fs)
    go true q e ih = absurd (some-ne-none (Faulty n f) e)
    go false q e ih = A.more (is_sound f q) (ih e)

pub rows_sound : (n : ℕ) (fs : List Finding) → All (λ (f : Finding). f ≡ Sound) fs → first_given (rows n fs) ≡ none
unfolding rows first_given given numbered_from is_fault finding_number_of
rows_sound n [] A.none = refl
rows_sound n (f ∷ fs) (A.more q a) = let ih : first_given (rows (suc n) fs) ≡ none = rows_sound (suc n) fs a in rw q ih

-- what the row of the findings gives is never acceptance
data OfFault : Option Verdict → Type 0 where
  no_fault : OfFault none
  a_fault : (n : ℕ) (f : Finding) → is_fault f ≡ true → OfFault (some (Faulty n f))

rows_fault : (n : ℕ) (fs : List Finding) → OfFault (first_given (rows n fs))
unfolding rows first_given given numbered_from
rows_fault n [] = no_fault
rows_fault n (f ∷ fs) = go (is_fault f) refl (rows_fault (suc n) fs)
  where
    go : (b : Bool) → is_fault f ≡ b → OfFault (first_given (rows (suc n) fs)) → OfFault (first_given (given b (Faulty n f) ∷ rows (suc n) fs))
    go true q ih = a_fault n f q
    go false q ih = ih

accepts : Verdict → Bool
accepts Accepted = true
accepts (Faulty n f) = false
accepts (Unsound s) = false
accepts Inward = false

is_whole : (s : Shape) → ltb 0 (shape_number_of s) ≡ false → s ≡ Whole
unfolding shape_number_of
is_whole Whole e = refl
is_whole (Few n) e = absurd (true≢false e)
is_whole (Once a b) e = absurd (true≢false e)
is_whole (Often a b) e = absurd (true≢false e)
is_whole (Alike a b) e = absurd (true≢false e)
is_whole (Apart p) e = absurd (true≢false e)
is_whole (Unlinked v) e = absurd (true≢false e)

only_accepted : {o : Option Verdict} → OfFault o → (s : Shape) (f b : Bool) → ltb 0 (shape_number_of s) ≡ f → first Accepted (o ∷ given f (Unsound s) ∷ given b Inward ∷ []) ≡ Accepted → (o ≡ none) × (s ≡ Whole) × (b ≡ false)
unfolding first given accepts
only_accepted no_fault s false false q e = (refl, is_whole s q, refl)
only_accepted no_fault s false true q e = absurd (false≢true (ap accepts e))
only_accepted no_fault s true b q e = absurd (false≢true (ap accepts e))
only_accepted (a_fault n f _) s g b q e = absurd (false≢true (ap accepts e))

-- no other verdict has the number 0
above_zero : (n : ℕ) → ltb 0 n ≡ true → n ≡ 0 → ⊥
above_zero n t e = true≢false (sym t ∙ ap (ltb 0) e)

zero_only : {o : Option Verdict} → OfFault o → (s : Shape) (f b : Bool) → ltb 0 (shape_number_of s) ≡ f → check_number_of (first Accepted (o ∷ given f (Unsound s) ∷ given b Inward ∷ [])) ≡ 0
    → first Accepted (o ∷ given f (Unsound s) ∷ given b Inward ∷ []) ≡ Accepted
unfolding first given check_number_of is_fault
zero_only no_fault s false false q e = refl
zero_only no_fault s false true q e = absurd (above_zero 13 refl e)
zero_only no_fault s true b q e = absurd (above_zero (shape_number_of s) q e)
zero_only (a_fault n f t) s g b q e = absurd (above_zero (finding_number_of f) t e)

pub zero_accepted : (t : Tables) → check_number_of (verdict t) ≡ 0 → verdict t ≡ Accepted
unfolding verdict lowest_fault shape_fault numbered rows findings
zero_accepted t e = zero_only (rows_fault 0 (findings t)) (shape t.polygons) (ltb 0 (shape_number_of (shape t.polygons))) (le_z (six_volume_of t) (pos 0)) refl e

from-map : {A B : Type 0} (f : A → B) (P : B → Type 0) (l : List A) → All P (map f l) → All (λ (x : A). P (f x)) l
from-map f P [] A.none = A.none
from-map f P (x ∷ l) (A.more p a) = A.more p (from-map f P l a)

pub to_map : {A B : Type 0} (f : A → B) (P : B → Type 0) (l : List A) → All (λ (x : A). P (f x)) l → All P (map f l)
to_map f P [] A.none = A.none
to_map f P (x ∷ l) (A.more p a) = A.more p (to_map f P l a)

-- "Check 00 with 0, 0 is acceptance."
pub accepted_none_fails : (t : Tables) → verdict t ≡ Accepted → NoneFails t
unfolding verdict lowest_fault shape_fault numbered rows findings
accepted_none_fails t e =
    let r = only_accepted (rows_fault 0 (findings t)) (shape t.polygons) (ltb 0 (shape_number_of (shape t.polygons))) (le_z (six_volume_of t) (pos 0)) refl e in
    record {
      each = from-map (finding t.tolerance t.points) (λ f. f ≡ Sound) t.polygons (rows_none 0 (findings t) r.0);
      closed = r.1;
      outward = r.2;
    }

pub none_fails_accepted : (t : Tables) → NoneFails t → verdict t ≡ Accepted
unfolding verdict lowest_fault shape_fault shape_number_of numbered rows findings first given
none_fails_accepted t n =
    let a : first_given (rows 0 (findings t)) ≡ none = rows_sound 0 (findings t) (to_map (finding t.tolerance t.points) (λ f. f ≡ Sound) t.polygons n.each) in
    rw (a, n.closed, n.outward)

-- and then no polygon is counted
pub none-counted : (t : Tables) → NoneFails t → tally is_fault (findings t) ≡ 0
unfolding findings tally is_fault finding_number_of
none-counted t n = go t.polygons n.each
  where
    go : (rs : List Polygon) → All (λ (r : Polygon). finding t.tolerance t.points r ≡ Sound) rs → tally is_fault (map (finding t.tolerance t.points) rs) ≡ 0
    go [] A.none = refl
    go (r ∷ rs) (A.more q a) = let ih : tally is_fault (map (finding t.tolerance t.points) rs) ≡ 0 = go rs a in rw q ih
