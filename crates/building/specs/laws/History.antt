-- Correcting a held building step by step gives what its history tells.
use Prim.Native.Nat.{ℕ, zero, suc, ◌+◌, ◌≤◌, ◌<◌}
use native.Mathlib.Omega.{arith}
use Rattle.std.specs.Prelude.{◌≡◌, Bool, not, length, get_or, set}
use Rattle.std.proofs.Math.Path.{refl, ap}
use Rattle.std.proofs.Common.{◌∙◌, eq-eqb, ne_eqb, zero-add}
use Rattle.std.proofs.Math.Bool.{true, false, cond}
use mathlib.Core.List.{List, [], ◌∷◌, map}
use Rattle.whole.specs.Lists.{at, lists}
use Rattle.space.specs.Space.{Point}
use Rattle.ring.specs.Polygon.{Polygon, one, entries_from, turned_over}
use Rattle.ring.specs.laws.Turned.{twice-over, lists-turned}
use Rattle.building.specs.Tables.{Tables, loaded, moved, turned, stamp_users}
use Rattle.building.specs.Corrections.{Correction, move, turn, map_from, place_of, odd_turns, after_turns, touches, number_of, stamp_of, last_number, corrected, told, corrects}

-- ---- changing one of a list

pub set_is_at : {A : Type 0} (l : List A) (n : ℕ) (q : A) → set l n q ≡ at n (λ _. q) l
unfolding at
set_is_at [] n q = refl
set_is_at (x ∷ l) zero q = refl
set_is_at (x ∷ l) (suc n) q = ap (λ (m : List _). x ∷ m) (set_is_at l n q)

module _ {A B : Type 0} (f g : ℕ → A → B) where
  -- two functions that agree from a number on
  pub map_from-same : (l : List A) (k : ℕ) → ((i : ℕ) (x : A) → k ≤ i → f i x ≡ g i x) → map_from k f l ≡ map_from k g l
  unfolding map_from
  map_from-same [] k h = refl
  map_from-same (x ∷ l) k h =
      let e : f k x ≡ g k x = h k x (omega arith) in
      let r : map_from (suc k) f l ≡ map_from (suc k) g l = map_from-same l (suc k) (λ i y p. h i y (omega arith)) in
      rw (e, r)

  module _ (φ : B → B) (m : ℕ) (here : (x : A) → φ (f m x) ≡ g m x) (else' : (i : ℕ) (x : A) → (i ≡ m → ⊥) → f i x ≡ g i x) where
    -- changing number m is mapping by a function that differs there alone
    pub at-map_from : (l : List A) (k j : ℕ) → m ≡ k + j → at j φ (map_from k f l) ≡ map_from k g l
    unfolding map_from at
    at-map_from [] k j e = refl
    at-map_from (x ∷ l) k zero e =
        let q : m ≡ k = omega arith in
        let a : φ (f k x) ≡ g k x = rw q at (here x) in
        let r : map_from (suc k) f l ≡ map_from (suc k) g l = map_from-same l (suc k) (λ i y p. else' i y (λ z. omega arith)) in
        rw (a, r)
    at-map_from (x ∷ l) k (suc j) e =
        let a : f k x ≡ g k x = else' k x (λ z. omega arith) in
        let r : at j φ (map_from (suc k) f l) ≡ map_from (suc k) g l = at-map_from l (suc k) j (omega arith) in
        rw (a, r)

-- ---- a polygon lists the same numbers turned

lists-after : (h : List Correction) (n k : ℕ) (p : Polygon) → lists n (entries_from (after_turns h k p)) ≡ lists n (entries_from p)
unfolding after_turns
lists-after h n k p = go (odd_turns h k)
  where
    go : (b : Bool) → lists n (entries_from (cond b (turned_over p) p)) ≡ lists n (entries_from p)
    go true = lists-turned n p
    go false = refl

-- ---- one correction more

module _ (h : List Correction) (number n : ℕ) where
  move_points : (p : Point) (ps : List Point) → set (map_from 0 (place_of h) ps) n p ≡ map_from 0 (place_of (move number n p ∷ h)) ps
  unfolding place_of
  move_points p ps =
      set_is_at (map_from 0 (place_of h) ps) n p
      ∙ at-map_from (place_of h) (place_of (move number n p ∷ h)) (λ _. p) n (λ x. rw (eq-eqb n n refl, place_of)) (λ i x z. rw (ne_eqb i n z, place_of)) ps 0 n (omega arith)

  move_stamps : (p : Point) (rs : List Polygon) (k : ℕ)
      → stamp_users number n (map_from k (after_turns h) rs) (map_from k (stamp_of h) rs) ≡ map_from k (stamp_of (move number n p ∷ h)) rs
  unfolding stamp_users map_from stamp_of touches number_of
  move_stamps p [] k = refl
  move_stamps p (r ∷ rs) k =
      let e : stamp_users number n (map_from (suc k) (after_turns h) rs) (map_from (suc k) (stamp_of h) rs) ≡ map_from (suc k) (stamp_of (move number n p ∷ h)) rs = move_stamps p rs (suc k) in
      rw (e, lists-after h n k r) (go (lists n (entries_from r)) refl)
    where
      go : (b : Bool) → lists n (entries_from r) ≡ b → (cond b number (stamp_of h k r) ∷ map_from (suc k) (stamp_of (move number n p ∷ h)) rs) ≡ map_from k (stamp_of (move number n p ∷ h)) (r ∷ rs)
      go true e = rw (e, stamp_of, touches)
      go false e = rw (e, stamp_of, touches)

  turn-polygons : (rs : List Polygon) → at n turned_over (map_from 0 (after_turns h) rs) ≡ map_from 0 (after_turns (turn number n ∷ h)) rs
  unfolding after_turns odd_turns
  turn-polygons rs =
      at-map_from (after_turns h) (after_turns (turn number n ∷ h)) turned_over n (λ x. rw (eq-eqb n n refl, after_turns, odd_turns) (go x (odd_turns h n))) (λ i x z. rw (ne_eqb i n z, after_turns, odd_turns)) rs 0 n (omega arith)
    where
      go : (x : Polygon) (b : Bool) → turned_over (cond b (turned_over x) x) ≡ cond (not b) (turned_over x) x
      go x true = twice-over x
      go x false = refl

  turn_stamps : (rs : List Polygon) → set (map_from 0 (stamp_of h) rs) n number ≡ map_from 0 (stamp_of (turn number n ∷ h)) rs
  unfolding stamp_of touches number_of
  turn_stamps rs =
      set_is_at (map_from 0 (stamp_of h) rs) n number
      ∙ at-map_from (stamp_of h) (stamp_of (turn number n ∷ h)) (λ _. number) n (λ x. rw (eq-eqb n n refl, stamp_of, touches)) (λ i x z. rw (ne_eqb i n z, stamp_of, touches)) rs 0 n (omega arith)

-- a correction of what the history tells is what the longer history tells
pub corrects-told : (t : Tables) (h : List Correction) (c : Correction) → corrects c (told t h) ≡ told t (c ∷ h)
unfolding corrects told corrected last_number number_of moved turned place_of after_turns odd_turns
corrects-told t h (move number n p) =
    let a : set (map_from 0 (place_of h) t.points) n p ≡ map_from 0 (place_of (move number n p ∷ h)) t.points = move_points h number n p t.points in
    let b : stamp_users number n (map_from 0 (after_turns h) t.polygons) (map_from 0 (stamp_of h) t.polygons) ≡ map_from 0 (stamp_of (move number n p ∷ h)) t.polygons = move_stamps h number n p t.polygons 0 in
    rw (a, b)
corrects-told t h (turn number n) =
    let a : at n turned_over (map_from 0 (after_turns h) t.polygons) ≡ map_from 0 (after_turns (turn number n ∷ h)) t.polygons = turn-polygons h number n t.polygons in
    let b : set (map_from 0 (stamp_of h) t.polygons) n number ≡ map_from 0 (stamp_of (turn number n ∷ h)) t.polygons = turn_stamps h number n t.polygons in
    rw (a, b)

-- an empty history tells the building as loaded
map_from_id : {A : Type 0} (l : List A) (k : ℕ) → map_from k (λ i x. x) l ≡ l
unfolding map_from
map_from_id [] k = refl
map_from_id (x ∷ l) k = ap (λ (m : List _). x ∷ m) (map_from_id l (suc k))

map_from-zero : (l : List Polygon) (k : ℕ) → map_from {B = ℕ} k (λ i x. 0) l ≡ map (λ x. 0) l
unfolding map_from
map_from-zero [] k = refl
map_from-zero (x ∷ l) k = ap (λ (m : List ℕ). 0 ∷ m) (map_from-zero l (suc k))

pub told-loaded : (t : Tables) → told t [] ≡ loaded t
unfolding told corrected place_of after_turns odd_turns stamp_of last_number loaded
told-loaded t =
    let a : map_from 0 (λ i x. x) t.points ≡ t.points = map_from_id t.points 0 in
    let b : map_from 0 (λ i x. x) t.polygons ≡ t.polygons = map_from_id t.polygons 0 in
    let d : map_from {B = ℕ} 0 (λ i x. 0) t.polygons ≡ map (λ x. 0) t.polygons = map_from-zero t.polygons 0 in
    rw (a, b, d)

-- ---- one point, polygon or stamp of what the history tells

get_d_map_from : {A B : Type 0} (f : ℕ → A → B) (l : List A) (k n : ℕ) (x : A) (y : B) → n < length l → get_or (map_from k f l) n y ≡ f (k + n) (get_or l n x)
unfolding map_from
get_d_map_from f [] k n x y h = absurd (omega arith)
get_d_map_from f (z ∷ l) k zero x y h = let e : k ≡ k + 0 = omega arith in ap (λ (i : ℕ). f i z) e
get_d_map_from f (z ∷ l) k (suc n) x y h =
    let e : suc k + n ≡ k + suc n = omega arith in
    get_d_map_from f l (suc k) n x y (omega arith) ∙ ap (λ (i : ℕ). f i (get_or l n x)) e

module _ (t : Tables) (h : List Correction) (n : ℕ) where
  pub place-told : (o : Point) → n < length t.points → get_or (told t h).tables.points n o ≡ place_of h n (get_or t.points n o)
  unfolding told corrected
  place-told o l = get_d_map_from (place_of h) t.points 0 n o o l ∙ ap (λ (i : ℕ). place_of h i (get_or t.points n o)) (zero-add n)

  pub polygon-told : n < length t.polygons → get_or (told t h).tables.polygons n (one []) ≡ after_turns h n (get_or t.polygons n (one []))
  unfolding told corrected
  polygon-told l = get_d_map_from (after_turns h) t.polygons 0 n (one []) (one []) l ∙ ap (λ (i : ℕ). after_turns h i (get_or t.polygons n (one []))) (zero-add n)

  pub stamp_told : n < length t.polygons → get_or (told t h).stamps n 0 ≡ stamp_of h n (get_or t.polygons n (one []))
  unfolding told
  stamp_told l = get_d_map_from (stamp_of h) t.polygons 0 n (one []) 0 l ∙ ap (λ (i : ℕ). stamp_of h i (get_or t.polygons n (one []))) (zero-add n)

length-map_from : {A B : Type 0} (f : ℕ → A → B) (l : List A) (k : ℕ) → length (map_from k f l) ≡ length l
unfolding map_from
length-map_from f [] k = refl
length-map_from f (x ∷ l) k = ap suc (length-map_from f l (suc k))

-- corrections leave the number of polygons
pub polygons-told : (t : Tables) (h : List Correction) → length (told t h).tables.polygons ≡ length t.polygons
unfolding told corrected
polygons-told t h = length-map_from (after_turns h) t.polygons 0
