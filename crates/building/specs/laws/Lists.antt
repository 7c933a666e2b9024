-- Laws of lists as arrays: a list told by its index, a part of a list, stores into one.
use Prim.Native.Nat.{ℕ, zero, suc, ◌+◌, ◌-◌, ◌≤◌, ◌<◌}
use Rattle.std.specs.Prelude.{◌≡◌, get_or, take, drop, set}
use Rattle.std.proofs.Math.Path.{refl, ap}
use Rattle.std.proofs.Common.{sym, ◌∙◌, zero-add, suc-add, length-drop, get_or-set_other, drop_at, drop-set-lt, length-take-le, get_or-take, get_or-drop}
use mathlib.Core.List.{List, [], ◌∷◌, ◌++◌, map, append_assoc}
use native.Mathlib.Omega.{arith}
use Rattle.std.proofs.Math.ListN.{length}
use Rattle.std.proofs.lemmas.List.Edits.{sets, sets-eq}
use Rattle.std.proofs.lemmas.List.{take-set-le}
use Rattle.std.proofs.Math.Seq.{take-append_seam, take-nil, take-suc}
use Rattle.whole.specs.Lists.{tab}
use Rattle.whole.specs.All.{All, none, more}
use Rattle.building.specs.held.Rings.{cut}

module _ {A : Type 0} where
  -- ---- told by index
  pub tab_ext : (f g : ℕ → A) (n : ℕ) → ((p : ℕ) → p < n → f p ≡ g p) → tab f n ≡ tab g n
  unfolding tab
  tab_ext f g zero h = refl
  tab_ext f g (suc n) h =
      let t : tab f n ≡ tab g n = tab_ext f g n (λ p q. h p (omega arith)) in
      let e : f n ≡ g n = h n (omega arith) in
      rw (t, e)

  pub take_is_tab : (l : List A) (n : ℕ) (d : A) → n ≤ length l → take n l ≡ tab (λ p. get_or l p d) n
  unfolding tab
  take_is_tab l zero d h = refl
  take_is_tab l (suc n) d h =
      let i : n < length l = omega arith in
      take-suc l n d i ∙ ap (λ (r : List A). r ++ (get_or l n d ∷ [])) (take_is_tab l n d (omega arith))

  -- ---- parts
  drop-take : (a k : ℕ) (l : List A) → take k (drop a l) ≡ drop a (take (a + k) l)
  drop-take zero k l = rw zero-add
  drop-take (suc a) k [] = rw (take-nil k, take-nil (suc a + k))
  drop-take (suc a) k (x ∷ l) = drop-take a k l ∙ rw suc-add

  pub length_cut : (a e : ℕ) (l : List A) → e ≤ length l → length (cut a e l) ≡ e - a
  length_cut a e l h = length-take-le (e - a) (drop a l) (simp length-drop (omega arith))

  pub get_d_cut : (a e i : ℕ) (l : List A) (d : A) → i < e - a → get_or (cut a e l) i d ≡ get_or l (a + i) d
  get_d_cut a e i l d h = get_or-take (e - a) (drop a l) i d h ∙ get_or-drop a l i d

  -- a store past the part, or before it
  pub cut-set_past : (a e i : ℕ) (l : List A) (v : A) → a ≤ e → e ≤ i → cut a e (set l i v) ≡ cut a e l
  cut-set_past a e i l v h g =
      let k : a + (e - a) ≤ i = omega arith in
      drop-take a (e - a) (set l i v) ∙ (rw (take-set-le (a + (e - a)) l i v k) (sym (drop-take a (e - a) l)))

  pub cut-set-before : (a e i : ℕ) (l : List A) (v : A) → i < a → cut a e (set l i v) ≡ cut a e l
  cut-set-before a e i l v h = ap (take (e - a)) (drop-set-lt a l i v h)

  pub cut-sets_past : (a e i : ℕ) (l vs : List A) → a ≤ e → e ≤ i → cut a e (sets l i vs) ≡ cut a e l
  cut-sets_past a e i l [] h g = refl
  cut-sets_past a e i l (v ∷ vs) h g = cut-sets_past a e (suc i) (set l i v) vs h (omega arith) ∙ cut-set_past a e i l v h g

  pub cut-sets-before : (a e i : ℕ) (l vs : List A) → i + length vs ≤ a → cut a e (sets l i vs) ≡ cut a e l
  cut-sets-before a e i l [] h = refl
  cut-sets-before a e i l (v ∷ vs) h = cut-sets-before a e (suc i) (set l i v) vs (omega arith) ∙ cut-set-before a e i l v (omega arith)

  -- the part that the stores filled
  pub cut-sets : (a e : ℕ) (l vs : List A) → a ≤ e → e ≤ length l → length vs ≡ e - a → cut a e (sets l a vs) ≡ vs
  cut-sets a e l vs h g n =
      let w : a + length vs ≤ length l = omega arith in
      let b : a ≤ length l = omega arith in
      let t : length (take a l) ≡ a = length-take-le a l b in
      rw (← n, sets-eq vs l a w, append_assoc, drop_at (take a l) (vs ++ drop (a + length vs) l) a t) (take-append_seam vs (drop (a + length vs) l))

pub map-tab : {A B : Type 0} (g : A → B) (f : ℕ → A) (n : ℕ) → map g (tab f n) ≡ tab (λ p. g (f p)) n
unfolding tab
map-tab {A} {B} g f zero = refl
map-tab {A} {B} g f (suc n) = map_append g (tab f n) (f n ∷ []) ∙ ap (λ (r : List B). r ++ (g (f n) ∷ [])) (map-tab g f n)
  where
    map_append : {A B : Type 0} (g : A → B) (xs ys : List A) → map g (xs ++ ys) ≡ map g xs ++ map g ys
    map_append {A} {B} g [] ys = refl
    map_append {A} {B} g (x ∷ xs) ys = ap (λ (r : List B). g x ∷ r) (map_append g xs ys)

-- ---- what stands in a run of stores
module _ {A : Type 0} where
  pub get_d_sets_before : (l vs : List A) (a i : ℕ) (d : A) → i < a → get_or (sets l a vs) i d ≡ get_or l i d
  get_d_sets_before l [] a i d h = refl
  get_d_sets_before l (v ∷ vs) a i d h = get_d_sets_before (set l a v) vs (suc a) i d (omega arith) ∙ get_or-set_other l a i v d (λ e. omega arith)

  pub get_d_sets : (l vs : List A) (a i : ℕ) (d : A) → i < length vs → a + length vs ≤ length l → get_or (sets l a vs) (a + i) d ≡ get_or vs i d
  get_d_sets l vs a i d h w =
      let n : length vs ≡ a + length vs - a = omega arith in
      let b : i < a + length vs - a = omega arith in
      sym (get_d_cut a (a + length vs) i (sets l a vs) d b) ∙ ap (λ (r : List A). get_or r i d) (cut-sets a (a + length vs) l vs (omega arith) w n)

  -- ---- what holds of every element, by its index
  pub each_all : (P : A → Type 0) (d : A) (l : List A) → ((i : ℕ) → i < length l → P (get_or l i d)) → All P l
  each_all P d [] h = none
  each_all P d (x ∷ l) h = more (h 0 (omega arith)) (each_all P d l (λ i g. h (suc i) (omega arith)))

  pub all_each : (P : A → Type 0) (d : A) {l : List A} → All P l → (i : ℕ) → i < length l → P (get_or l i d)
  all_each P d none i h = absurd (omega arith)
  all_each P d (more p a) zero h = p
  all_each P d (more p a) (suc i) h = all_each P d a i (omega arith)
