-- The words of the rings: what each of them tells, and that each step of a ring has one.
use Prim.Native.Nat.{ℕ, zero, suc, ◌+◌, ◌*◌, ◌-◌, ◌/◌, ◌%◌, ◌≤◌, ◌<◌, min, zero-le}
use Rattle.std.proofs.Math.Decide.{ℕ_discrete}
use native.Mathlib.Omega.{arith}
use Rattle.std.proofs.Common.{le_refl, not-suc-le-zero, add-one, subst, ◌∙◌, inl, inr, length-take, length-append, drop-cons}
use Rattle.std.specs.Prelude.{◌≡◌, Bool, true, false, eqb, take, drop}
use Rattle.std.proofs.Math.Path.{refl, sym, ap, ap₂}
use Rattle.std.proofs.Math.Logic.{⊎_elim, by_cases}
use mathlib.Core.List.{List, [], ◌∷◌, ◌++◌, map, append-nil, append_assoc}
use Rattle.std.proofs.Math.ListN.{length, get_or}
use Rattle.whole.specs.Lists.{steps, steps_from, tab}
use Rattle.whole.specs.held.Spans.{span}
use Rattle.whole.specs.laws.Spans.{length-span, map-span, span_same}
use Rattle.ring.specs.Polygon.{all, all_rings}
use Rattle.ring.specs.held.Rings.{ring_at, polygons, owner_of}
use Rattle.ring.specs.laws.Owners.{owner_few, rings-all}
use Rattle.edges.specs.Edges.{edge, way, edges_of, ways_of}
use Rattle.edges.specs.held.Ascending.{In}
use Rattle.edges.specs.laws.Tallies.{in_left, in_right, in_either}
use Rattle.words.specs.held.Words.{key_from, poly_from, step_of, next_of, dir_of}
use Rattle.edges.specs.held.Table.{word_of, step_word, next_at, ring_words_of, words_to, words_of}
use Rattle.shell.specs.held.Kept.{Loaded}

-- ---- the fields of a word
module _ (e p s t d : ℕ) (hp : p < 256) (hs : s < 1024) (ht : t < 1024) (hd : d < 2) where
  pub word_key : ((((e * 256 + p) * 1024 + s) * 1024 + t) * 2 + d) / 536870912 ≡ e
  word_key = omega arith

  pub word_poly : ((((e * 256 + p) * 1024 + s) * 1024 + t) * 2 + d) / 2097152 % 256 ≡ p
  word_poly = omega arith

  word-step : ((((e * 256 + p) * 1024 + s) * 1024 + t) * 2 + d) / 2048 % 1024 ≡ s
  word-step = omega arith

  word_next : ((((e * 256 + p) * 1024 + s) * 1024 + t) * 2 + d) / 2 % 1024 ≡ t
  word_next = omega arith

  word_dir : ((((e * 256 + p) * 1024 + s) * 1024 + t) * 2 + d) % 2 ≡ d
  word_dir = omega arith

-- ---- lists of numbers that follow one another
pub map_append : {A B : Type 0} (g : A → B) (a b : List A) → map g (a ++ b) ≡ map g a ++ map g b
map_append g [] b = refl
map_append {A} {B} g (x ∷ a) b = ap (λ (l : List B). g x ∷ l) (map_append g a b)

pub in_span : (f : ℕ → ℕ) (x i n : ℕ) → In x (span f i n) → (k : ℕ) × (i ≤ k) × (k < i + n) × (x ≡ f k)
unfolding span
in_span f x i zero h = absurd h
in_span f x i (suc n) (inl e) = (i, le_refl i, omega arith, e)
in_span f x i (suc n) (inr h) = let r = in_span f x (i + 1) n h in (r.0, omega (arith, r.1), omega (arith, r.2), r.3)

pub span_in : (f : ℕ → ℕ) (i n k : ℕ) → i ≤ k → k < i + n → In (f k) (span f i n)
unfolding span
span_in f i zero k a b = absurd (bad a b)
  where
    bad : i ≤ k → k < i + 0 → ⊥
    bad a b = omega arith
span_in f i (suc n) k a b = by_cases (ℕ_discrete k i) (λ e. inl (ap f e)) (λ d. inr (span_in f (i + 1) n k (omega arith) (omega arith)))

pub all_append : (f : List ℕ → List ℕ) (rs : List (List ℕ)) (r : List ℕ) → all f (rs ++ (r ∷ [])) ≡ all f rs ++ f r
unfolding all
all_append f [] r = append-nil (f r)
all_append f (s ∷ rs) r = ap (λ (l : List ℕ). f s ++ l) (all_append f rs r) ∙ sym (append_assoc (f s) (all f rs) (f r))

-- ---- the steps of a part of the entries
abbrev pub pair_at : List ℕ → ℕ → ℕ × ℕ
pair_at es k = (get_or es k 0, get_or es (k + 1) 0)

steps_from_lem : (es : List ℕ) (n i : ℕ) → i + n < length es → steps_from (get_or es i 0) (take n (drop (suc i) es)) ≡ span (pair_at es) i n
unfolding steps_from span
steps_from_lem es zero i h = refl
steps_from_lem es (suc n) i h =
    ap (λ (l : List ℕ). steps_from (get_or es i 0) (take (suc n) l)) (drop-cons es (suc i) 0 (omega arith))
    ∙ ap (λ (z : List (ℕ × ℕ)). (get_or es i 0, get_or es (suc i) 0) ∷ z) (steps_from_lem es n (suc i) (omega arith))
    ∙ ap (λ (k : ℕ). (get_or es i 0, get_or es k 0) ∷ span (pair_at es) k n) (sym (add-one i))

pub steps-part : (es : List ℕ) (n i : ℕ) → i + n < length es → steps (take (suc n) (drop i es)) ≡ span (pair_at es) i n
unfolding steps
steps-part es n i h = ap (λ (l : List ℕ). steps (take (suc n) l)) (drop-cons es i 0 (omega arith)) ∙ steps_from_lem es n i h

-- ---- the rings of loaded arrays
-- the word w stands for the step at `at` of ring `ring`
pub record Use (es st ft : List ℕ) (n w : ℕ) : Type 0 where
  pub ring : ℕ
  pub at : ℕ
  pub below : ring < get_or ft n 0
  pub from : get_or st ring 0 ≤ at
  pub to : at + 1 < get_or st (ring + 1) 0
  pub is : w ≡ step_word es (owner_of ft n ring) (get_or st ring 0) (get_or st (ring + 1) 0) at

pub next_below : (from to i : ℕ) → from < to → i + 1 < to → to ≤ 1024 → next_at from to i < 1024
next_below from to i a b c = go (eqb (i + 2) to)
  where
    go : (z : Bool) → elim z as (λ _. ℕ) [ true ↦ from | false ↦ i + 1 ] < 1024
    go true = omega arith
    go false = omega arith

module _ (es st ft : List ℕ) (n : ℕ) (l : Loaded es st ft n) where
  abbrev many : ℕ
  many = get_or ft n 0

  abbrev of : ℕ → ℕ
  of = owner_of ft n

  -- ring p stands in the entries, and is long enough
  pub ring_long : (p : ℕ) → p < many → get_or st p 0 + 4 ≤ get_or st (p + 1) 0
  ring_long p h = wide (get_or st p 0) (get_or st (p + 1) 0) (rw (length-take (get_or st (p + 1) 0 - get_or st p 0) (drop (get_or st p 0) es)) at (l.sound p h).long)
    where
      wide : (a b : ℕ) → 4 ≤ min (b - a) (length (drop a es)) → a + 4 ≤ b
      wide a b h = omega arith

  pub used_within : (r : ℕ) → r < many → get_or st (r + 1) 0 ≤ get_or st many 0
  used_within r h = l.layout.ordered (r + 1) many (omega arith) (le_refl many)

  pub ring_within : (p : ℕ) → p < many → get_or st (p + 1) 0 ≤ 1024
  ring_within p h = omega (arith, used_within p h, l.layout.inside)

  pub polys_few : n ≤ 256
  polys_few = l.layout.few

  pub poly_few : (r : ℕ) → r < many → of r < 256
  poly_few r h = owner_few es st ft n l.layout r h

  -- the entries of a ring are few
  pub entry_small : (p i : ℕ) → p < many → i < get_or st (p + 1) 0 → get_or es i 0 < 512
  entry_small p i h k = omega (arith, l.held.below i (omega (arith, used_within p h)), l.held.few)

  ring_part : (p : ℕ) → p < many → ring_at es st p ≡ take (suc (get_or st (p + 1) 0 - get_or st p 0 - 1)) (drop (get_or st p 0) es)
  ring_part p h = ap (λ (k : ℕ). take k (drop (get_or st p 0) es)) (some (get_or st p 0) (get_or st (p + 1) 0) (ring_long p h))
    where
      some : (a b : ℕ) → a + 4 ≤ b → b - a ≡ suc (b - a - 1)
      some a b h = omega arith

  pub ring_steps : (p : ℕ) → p < many → steps (ring_at es st p) ≡ span (pair_at es) (get_or st p 0) (get_or st (p + 1) 0 - get_or st p 0 - 1)
  ring_steps p h = ap steps (ring_part p h) ∙ steps-part es (get_or st (p + 1) 0 - get_or st p 0 - 1) (get_or st p 0) (short (get_or st p 0) (get_or st (p + 1) 0) (ring_long p h) (ring_within p h))
    where
      short : (a b : ℕ) → a + 4 ≤ b → b ≤ 1024 → a + (b - a - 1) < length es
      short a b h k = omega (arith, l.held.size)

  -- the fields of a use
  module _ (w : ℕ) (u : Use es st ft n w) where
    abbrev a : ℕ
    a = get_or es u.at 0

    abbrev b : ℕ
    b = get_or es (u.at + 1) 0

    small : (s to : ℕ) → s + 1 < to → to ≤ 1024 → s < 1024
    small s to k m = omega arith

    hp : of u.ring < 256
    hp = poly_few u.ring u.below

    hs : u.at < 1024
    hs = small u.at (get_or st (u.ring + 1) 0) u.to (ring_within u.ring u.below)

    ht : next_at (get_or st u.ring 0) (get_or st (u.ring + 1) 0) u.at < 1024
    ht = next_below (get_or st u.ring 0) (get_or st (u.ring + 1) 0) u.at (omega (arith, u.from, u.to)) u.to (ring_within u.ring u.below)

    hd : (x y : ℕ) → min 1 (x - y) < 2
    hd x y = omega arith

    pub use-key : key_from w ≡ edge a b
    unfolding word_of
    use-key = ap key_from u.is ∙ word_key (edge a b) (of u.ring) u.at (next_at (get_or st u.ring 0) (get_or st (u.ring + 1) 0) u.at) (min 1 (a - b)) hp hs ht (hd a b)

    pub use-poly : poly_from w ≡ of u.ring
    unfolding word_of
    use-poly = ap poly_from u.is ∙ word_poly (edge a b) (of u.ring) u.at (next_at (get_or st u.ring 0) (get_or st (u.ring + 1) 0) u.at) (min 1 (a - b)) hp hs ht (hd a b)

    pub use-step : step_of w ≡ u.at
    unfolding word_of
    use-step = ap step_of u.is ∙ word-step (edge a b) (of u.ring) u.at (next_at (get_or st u.ring 0) (get_or st (u.ring + 1) 0) u.at) (min 1 (a - b)) hp hs ht (hd a b)

    pub use-next : next_of w ≡ next_at (get_or st u.ring 0) (get_or st (u.ring + 1) 0) u.at
    unfolding word_of
    use-next = ap next_of u.is ∙ word_next (edge a b) (of u.ring) u.at (next_at (get_or st u.ring 0) (get_or st (u.ring + 1) 0) u.at) (min 1 (a - b)) hp hs ht (hd a b)

    pub use-dir : dir_of w ≡ min 1 (a - b)
    unfolding word_of
    use-dir = ap dir_of u.is ∙ word_dir (edge a b) (of u.ring) u.at (next_at (get_or st u.ring 0) (get_or st (u.ring + 1) 0) u.at) (min 1 (a - b)) hp hs ht (hd a b)

  -- the step at i of ring p, as a use
  abbrev pub step_use : (p i : ℕ) → p < many → get_or st p 0 ≤ i → i + 1 < get_or st (p + 1) 0 → Use es st ft n (step_word es (of p) (get_or st p 0) (get_or st (p + 1) 0) i)
  step_use p i h f t = record { ring = p; at = i; below = h; from = f; to = t; is = refl }

  -- each word is a use, and each use has a word
  ring_uses : (p w : ℕ) → p < many → In w (ring_words_of es st (of p) p) → Use es st ft n w
  ring_uses p w h i =
      let r = in_span (step_word es (of p) (get_or st p 0) (get_or st (p + 1) 0)) w (get_or st p 0) (get_or st (p + 1) 0 - get_or st p 0 - 1) i in
      record { ring = p; at = r.0; below = h; from = r.1; to = inner (get_or st p 0) (get_or st (p + 1) 0) r.0 r.2 r.1; is = r.3 }
    where
      inner : (a b k : ℕ) → k < a + (b - a - 1) → a ≤ k → k + 1 < b
      inner a b k h g = omega arith

  pub words_use : (m w : ℕ) → m ≤ many → In w (words_to es st of m) → Use es st ft n w
  unfolding words_to
  words_use zero w h i = absurd i
  words_use (suc m) w h i = ⊎_elim (λ (j : In w (words_to es st of m)). words_use m w (omega arith) j) (λ (j : In w (ring_words_of es st (of m) m)). ring_uses m w h j) (in_either w (words_to es st of m) (ring_words_of es st (of m) m) i)

  pub use_words : (m p i : ℕ) → p < m → m ≤ many → get_or st p 0 ≤ i → i + 1 < get_or st (p + 1) 0 → In (step_word es (of p) (get_or st p 0) (get_or st (p + 1) 0) i) (words_to es st of m)
  unfolding words_to
  use_words zero p i h k f t = absurd (not-suc-le-zero h)
  use_words (suc m) p i h k f t =
      by_cases
      (ℕ_discrete m p)
      (λ e. in_right (step_word es (of p) (get_or st p 0) (get_or st (p + 1) 0) i) (words_to es st of m) (ring_words_of es st (of m) m) (subst (λ (q : ℕ). In (step_word es (of p) (get_or st p 0) (get_or st (p + 1) 0) i) (ring_words_of es st (of q) q)) (sym e) (span_in (step_word es (of p) (get_or st p 0) (get_or st (p + 1) 0)) (get_or st p 0) (get_or st (p + 1) 0 - get_or st p 0 - 1) i f (inner (get_or st p 0) (get_or st (p + 1) 0) i f t))))
      (λ d. in_left (step_word es (of p) (get_or st p 0) (get_or st (p + 1) 0) i) (words_to es st of m) (ring_words_of es st (of m) m) (use_words m p i (omega arith) (omega arith) f t))
    where
      inner : (a b k : ℕ) → a ≤ k → k + 1 < b → k < a + (b - a - 1)
      inner a b k g h = omega arith

  -- there are fewer words than entries
  words_within : (m : ℕ) → m ≤ many → length (words_to es st of m) ≤ get_or st m 0
  unfolding words_to
  words_within zero h = zero-le
  words_within (suc m) h = sum (get_or st m 0) (get_or st (m + 1) 0) (get_or st (suc m) 0) (length (words_to es st of m)) (length (words_to es st of m ++ ring_words_of es st (of m) m)) (l.layout.ordered m (m + 1) (omega arith) (omega arith)) (ap (λ (k : ℕ). get_or st k 0) (add-one m)) (words_within m (omega arith)) (length-append (words_to es st of m) (ring_words_of es st (of m) m) ∙ ap (λ (k : ℕ). length (words_to es st of m) + k) (length-span (step_word es (of m) (get_or st m 0) (get_or st (m + 1) 0)) (get_or st m 0) (get_or st (m + 1) 0 - get_or st m 0 - 1)))
    where
      sum : (a b c x y : ℕ) → a ≤ b → b ≡ c → x ≤ a → y ≡ x + (b - a - 1) → y ≤ c
      sum a b c x y h e k q = omega arith

  pub words_few : length (words_of es st ft n) ≤ 1024
  words_few = omega (arith, words_within many (le_refl many), l.layout.inside)

  -- the edges of ring p
  pub ring_edges : (p : ℕ) → p < many → edges_of (ring_at es st p) ≡ span (λ i. edge (get_or es i 0) (get_or es (i + 1) 0)) (get_or st p 0) (get_or st (p + 1) 0 - get_or st p 0 - 1)
  unfolding edges_of
  ring_edges p h = ap (map (λ s. edge s.0 s.1)) (ring_steps p h) ∙ map-span (λ s. edge s.0 s.1) (pair_at es) (get_or st p 0) (get_or st (p + 1) 0 - get_or st p 0 - 1)

  pub ring_ways : (p : ℕ) → p < many → ways_of (ring_at es st p) ≡ span (λ i. way (get_or es i 0) (get_or es (i + 1) 0)) (get_or st p 0) (get_or st (p + 1) 0 - get_or st p 0 - 1)
  unfolding ways_of
  ring_ways p h = ap (map (λ s. way s.0 s.1)) (ring_steps p h) ∙ map-span (λ s. way s.0 s.1) (pair_at es) (get_or st p 0) (get_or st (p + 1) 0 - get_or st p 0 - 1)

  -- the keys of the words are the edges of the rings, in the same order
  ring_keys : (p : ℕ) → p < many → map key_from (ring_words_of es st (of p) p) ≡ edges_of (ring_at es st p)
  ring_keys p h =
      map-span key_from (step_word es (of p) (get_or st p 0) (get_or st (p + 1) 0)) (get_or st p 0) (get_or st (p + 1) 0 - get_or st p 0 - 1)
      ∙ span_same (λ i. key_from (step_word es (of p) (get_or st p 0) (get_or st (p + 1) 0) i)) (λ i. edge (get_or es i 0) (get_or es (i + 1) 0)) (get_or st p 0) (get_or st (p + 1) 0 - get_or st p 0 - 1) (λ k f t. use-key (step_word es (of p) (get_or st p 0) (get_or st (p + 1) 0) k) (step_use p k h f (inner (get_or st p 0) (get_or st (p + 1) 0) k t f)))
      ∙ sym (ring_edges p h)
    where
      inner : (a b k : ℕ) → k < a + (b - a - 1) → a ≤ k → k + 1 < b
      inner a b k h g = omega arith

  keys_to : (m : ℕ) → m ≤ many → map key_from (words_to es st of m) ≡ all edges_of (tab (ring_at es st) m)
  unfolding words_to tab all
  keys_to zero h = refl
  keys_to (suc m) h =
      map_append key_from (words_to es st of m) (ring_words_of es st (of m) m)
      ∙ ap₂ (λ (a b : List ℕ). a ++ b) (keys_to m (omega arith)) (ring_keys m h)
      ∙ sym (all_append edges_of (tab (ring_at es st) m) (ring_at es st m))

  pub keys_all : map key_from (words_of es st ft n) ≡ all edges_of (all_rings (polygons es st ft n))
  keys_all = keys_to many (le_refl many) ∙ ap (all edges_of) (sym (rings-all es st ft n l.layout))
