-- 01 to 05 ring by ring: the first ring that fails one of them tells, its position counted from the entries before it.
use Rattle.std.specs.Prelude.{ℕ, ◌+◌, ◌≡◌, refl, Bool, true, false, List, [], ◌∷◌, ◌++◌, map, ◌⊎◌}
use Rattle.std.proofs.Common.{zero-add, arith, sym, ◌∙◌, inl, inr, length-append}
use Rattle.std.proofs.Math.Path.{ap}
use Rattle.std.proofs.Math.Option
use Rattle.std.proofs.Math.Option.{Option, none, some, some-injective, none-ne-some}
use Rattle.std.proofs.Math.ListN.{length}
use Rattle.whole.specs.Lists.{given, first}
use Rattle.whole.specs.All as all
use Rattle.whole.specs.All.{All}
use Rattle.whole.specs.laws.Alls.{all_append}
use Rattle.space.specs.Space.{Point, places}
use Rattle.plane.specs.Plane.{largest_axis_of}
use Rattle.ring.specs.Entries.{is_unclosed, is_repeated, repeated_at}
use Rattle.ring.specs.Polygon.{all}
use Rattle.normal.specs.Normal.{normal, is_zero_of}
use Rattle.crossing.specs.Crossed.{is_crossed, crossed_at}
use Rattle.polygon.specs.declared.Finding.{Finding}
use Rattle.polygon.specs.declared.Finding.TheVariants.{Sound, Short, Unclosed, Repeated, NoNormal, Crossed, Uneven, Shared, Misplaced}
use Rattle.polygon.specs.Ring.{is_short, edges_in, ring_rows, ring_finding, finding_number_of}
use Rattle.polygon.specs.laws.Rows.{first-after, Others, first-left, first_taken, ring_others, sound_or}
use Rattle.inner.specs.Finding.{later, rings_rows}

-- ---- positions in a later ring
pub later-none : (f : Finding) → later 0 f ≡ f
unfolding later
later-none Sound = refl
later-none Short = refl
later-none Unclosed = refl
later-none (Repeated i) = ap Repeated (zero-add i)
later-none NoNormal = refl
later-none (Crossed i) = ap Crossed (zero-add i)
later-none (Uneven i) = ap Uneven (zero-add i)
later-none Shared = refl
later-none Misplaced = refl

pub later-number : (before : ℕ) (f : Finding) → finding_number_of (later before f) ≡ finding_number_of f
unfolding later finding_number_of
later-number before Sound = refl
later-number before Short = refl
later-number before Unclosed = refl
later-number before (Repeated i) = refl
later-number before NoNormal = refl
later-number before (Crossed i) = refl
later-number before (Uneven i) = refl
later-number before Shared = refl
later-number before Misplaced = refl

pub fault_number : (f : Finding) → (f ≡ Sound → ⊥) → finding_number_of f ≡ 0 → ⊥
unfolding finding_number_of
fault_number Sound h e = h refl
fault_number Short h e = omega arith
fault_number Unclosed h e = omega arith
fault_number (Repeated i) h e = omega arith
fault_number NoNormal h e = omega arith
fault_number (Crossed i) h e = omega arith
fault_number (Uneven i) h e = omega arith
fault_number Shared h e = omega arith
fault_number Misplaced h e = omega arith

pub number_fault : (f : Finding) → (finding_number_of f ≡ 0 → ⊥) → f ≡ Sound → ⊥
unfolding finding_number_of
number_fault f h e = h (ap finding_number_of e)

pub later_fault : (before : ℕ) (f : Finding) → later before f ≡ Sound → f ≡ Sound
unfolding finding_number_of
later_fault before f e = go (sound_or f)
  where
    go : (f ≡ Sound) ⊎ (f ≡ Sound → ⊥) → f ≡ Sound
    go (inl h) = h
    go (inr h) = absurd (fault_number f h (sym (later-number before f) ∙ ap finding_number_of e))

-- ---- rows of a later ring
unfoldable pub later_rows_of : List Point → ℕ → List ℕ → List (Option Finding)
later_rows_of points before ring = map (Option.map (later before)) (ring_rows points ring)

-- a row's answer is carried along
given-map : (before : ℕ) (t : Bool) (f : Finding) → Option.map (later before) (given t f) ≡ given t (later before f)
unfolding given
given-map before true f = refl
given-map before false f = refl

-- the five rows, written out
pub later_rows : (points : List Point) (before : ℕ) (ring : List ℕ) →
    let ps = places points ring in
    let n = normal ps in
    let es = edges_in (largest_axis_of n) ps in
    later_rows_of points before ring ≡
    given (is_short ring) Short ∷
    given (is_unclosed ring) Unclosed ∷
    given (is_repeated ring) (Repeated (before + repeated_at ring)) ∷
    given (is_zero_of n) NoNormal ∷
    given (is_crossed es) (Crossed (before + crossed_at es)) ∷
    []
unfolding later_rows_of ring_rows later
later_rows points before ring =
    let ps = places points ring in
    let n = normal ps in
    let es = edges_in (largest_axis_of n) ps in
    λ i.
    given-map before (is_short ring) Short i ∷
    given-map before (is_unclosed ring) Unclosed i ∷
    given-map before (is_repeated ring) (Repeated (repeated_at ring)) i ∷
    given-map before (is_zero_of n) NoNormal i ∷
    given-map before (is_crossed es) (Crossed (crossed_at es)) i ∷
    []

first-later : (before : ℕ) (l : List (Option Finding)) → first Sound (map (Option.map (later before)) l) ≡ later before (first Sound l)
unfolding first later
first-later before [] = refl
first-later before (none ∷ l) = first-later before l
first-later before (some f ∷ l) = refl

map-others : (before : ℕ) (l : List (Option Finding)) → Others Sound l → Others Sound (map (Option.map (later before)) l)
map-others before [] all.none = all.none
map-others before (none ∷ l) (all.more q n) = all.more (λ e. none-ne-some Sound e) (map-others before l n)
map-others before (some f ∷ l) (all.more q n) = all.more (λ e. q (ap some (later_fault before f (some-injective (later before f) Sound e)))) (map-others before l n)

-- ---- all rings
-- the first of checks 01 to 05 that one of them fails
unfoldable pub rings_finding : List Point → ℕ → List (List ℕ) → Finding
rings_finding points before rings = first Sound (rings_rows points before rings)

pub rings-others : (points : List Point) (before : ℕ) (rings : List (List ℕ)) → Others Sound (rings_rows points before rings)
unfolding rings_rows
rings-others points before [] = all.none
rings-others points before (r ∷ rs) = all_append (map-others before (ring_rows points r) (ring_others points r)) (rings-others points (before + length r) rs)

module _ (points : List Point) (before : ℕ) (r : List ℕ) (rs : List (List ℕ)) where
  step : rings_finding points before (r ∷ rs) ≡ first (rings_finding points (before + length r) rs) (later_rows_of points before r)
  unfolding rings_finding rings_rows later_rows_of
  step = first-after Sound (later_rows_of points before r) (rings_rows points (before + length r) rs)

  own : first Sound (later_rows_of points before r) ≡ later before (ring_finding points r)
  unfolding later_rows_of ring_finding
  own = first-later before (ring_rows points r)

  -- a ring that passes them is passed over
  pub ring_passes : ring_finding points r ≡ Sound → rings_finding points before (r ∷ rs) ≡ rings_finding points (before + length r) rs
  unfolding later_rows_of later
  ring_passes e = step ∙ first-left Sound _ (later_rows_of points before r) (map-others before (ring_rows points r) (ring_others points r)) (own ∙ ap (later before) e)

  -- a ring that fails one of them ends the search
  pub ring_fails : (ring_finding points r ≡ Sound → ⊥) → rings_finding points before (r ∷ rs) ≡ later before (ring_finding points r)
  ring_fails h = step ∙ first_taken Sound _ (later_rows_of points before r) (λ e. h (later_fault before (ring_finding points r) (sym own ∙ e))) ∙ own

-- where the rings before pass them, the next one's finding is told, its position counted from their entries
pub rings-at : (points : List Point) (before : ℕ) (done : List (List ℕ)) (r : List ℕ) (rest : List (List ℕ)) → All (λ (s : List ℕ). ring_finding points s ≡ Sound) done → (ring_finding points r ≡ Sound → ⊥)
    → rings_finding points before (done ++ r ∷ rest) ≡ later (before + length (all (λ s. s) done)) (ring_finding points r)
unfolding all
rings-at points before [] r rest all.none h = let z : before ≡ before + 0 = omega arith in ring_fails points before r rest h ∙ ap (λ (n : ℕ). later n (ring_finding points r)) z
rings-at points before (s ∷ done) r rest (all.more q a) h =
    let m = length (all (λ t. t) done) in
    let z : before + length s + m ≡ before + (length s + m) = omega arith in
    ring_passes points before s (done ++ r ∷ rest) q
    ∙ rings-at points (before + length s) done r rest a h
    ∙ ap (λ (n : ℕ). later n (ring_finding points r)) (z ∙ ap (λ (n : ℕ). before + n) (sym (length-append s (all (λ t. t) done))))

-- no ring fails one of them exactly where nothing is told
pub none_fails : (points : List Point) (before : ℕ) (rings : List (List ℕ)) → All (λ (s : List ℕ). ring_finding points s ≡ Sound) rings → rings_finding points before rings ≡ Sound
unfolding rings_finding rings_rows first
none_fails points before [] all.none = refl
none_fails points before (r ∷ rs) (all.more q a) = ring_passes points before r rs q ∙ none_fails points (before + length r) rs a

pub all_pass : (points : List Point) (before : ℕ) (rings : List (List ℕ)) → rings_finding points before rings ≡ Sound → All (λ (s : List ℕ). ring_finding points s ≡ Sound) rings
all_pass points before [] e = all.none
all_pass points before (r ∷ rs) e = go (sound_or (ring_finding points r)) (all_pass points (before + length r) rs)
  where
    go : (ring_finding points r ≡ Sound) ⊎ (ring_finding points r ≡ Sound → ⊥) → (rings_finding points (before + length r) rs ≡ Sound → All (λ (s : List ℕ). ring_finding points s ≡ Sound) rs) → All (λ (s : List ℕ). ring_finding points s ≡ Sound) (r ∷ rs)
    go (inl h) f = all.more h (f (sym (ring_passes points before r rs h) ∙ e))
    go (inr h) f = absurd (h (later_fault before (ring_finding points r) (sym (ring_fails points before r rs h) ∙ e)))
