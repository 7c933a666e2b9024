-- Boxes that are parted: what they tell of two edges, of a block of edges, and of a row of edges.
use Prim.Native.Nat.{ℕ, ◌+◌, ◌*◌, ◌/◌, ◌≤◌, ◌<◌, max}
use native.Mathlib.Omega.{arith}
use native.Mathlib.Decide.{dec_lt}
use mathlib.Core.Path.{◌≡◌, refl, sym, ap, ◌∙◌}
use mathlib.Core.Bool.{Bool, true, false, not, ◌||◌}
use mathlib.Core.List.{List}
use borrow.Author.Tests.{ltb-true, lt-ltb}
use lib.Dec.{ltb}
use lib.ListN.{get_or}
use lib.IntN.{ℤ, pos}
use lib.Signed.{lt_z}
use Rattle.plane.specs.Plane.{overlap}
use Rattle.crossing.specs.Crossed.{forbidden}
use Rattle.plane.specs.held.Edges.{least, most}
use Rattle.crossing.specs.declared.Columns.{Columns}
use Rattle.crossing.specs.held.Between.{segment, edge, clashes_from}
use Rattle.extents.specs.declared.Extents.{Extents}
use Rattle.extents.specs.held.Extents.{step, Covered, Sides}
use Rattle.boxes.specs.held.Boxes.{Boxes, parted, Parted, Apart}
use Rattle.boxes.specs.held.Around.{Beside}
use Rattle.plane.specs.laws.Stretches.{most_below, least_above, box_apart}
use Rattle.extents.specs.laws.Steps.{step_order}
use Rattle.crossing.proofs.laws.Pairs.{clash-other, row-over}
use Rattle.plane.specs.laws.Sharing.{share-apart, share-beside}

-- ---- a test of two parts
or_both : (a b c d : Bool) → (a ≡ true → c ≡ true) → (b ≡ true → d ≡ true) → (a || b) ≡ true → (c || d) ≡ true
or_both true b c d f g e = ap (λ (t : Bool). t || d) (f refl)
or_both false b true d f g e = refl
or_both false b false d f g e = g e

-- ---- two edges
module _ {us : List ℤ} {m : ℕ} {x : Extents} (s : Sides us m x) where
  -- where box i is under box k, each end of the one edge is under each of the other
  box_under : (i j : ℕ) → i < m → j < m → get_or x.highs i 0 < get_or x.lows j 0
      → lt_z (most (get_or us i (pos 0)) (get_or us (i + 1) (pos 0))) (least (get_or us j (pos 0)) (get_or us (j + 1) (pos 0))) ≡ true
  box_under i j a b e =
      most_below (get_or us i (pos 0)) (get_or us (i + 1) (pos 0)) (least (get_or us j (pos 0)) (get_or us (j + 1) (pos 0)))
      (least_above (get_or us j (pos 0)) (get_or us (j + 1) (pos 0)) (get_or us i (pos 0)) (end-under i j (omega arith) (omega arith) (omega (arith, s.high i a, s.low j b))) (end-under i (j + 1) (omega arith) (omega arith) (omega (arith, s.high i a, s.low j b))))
      (least_above (get_or us j (pos 0)) (get_or us (j + 1) (pos 0)) (get_or us (i + 1) (pos 0)) (end-under (i + 1) j (omega arith) (omega arith) (omega (arith, s.high i a, s.low j b))) (end-under (i + 1) (j + 1) (omega arith) (omega arith) (omega (arith, s.high i a, s.low j b))))
    where
      end-under : (p q : ℕ) → p ≤ m → q ≤ m → step (get_or us p (pos 0)) < step (get_or us q (pos 0)) → lt_z (get_or us p (pos 0)) (get_or us q (pos 0)) ≡ true
      end-under p q f g l = step_order (s.line.close p f) (s.line.close q g) l

  pub parted-apart : (i j : ℕ) → i < m → j < m → parted x i j ≡ true → not (overlap (get_or us i (pos 0)) (get_or us (i + 1) (pos 0)) (get_or us j (pos 0)) (get_or us (j + 1) (pos 0))) ≡ true
  parted-apart i j a b e =
      sym (box_apart (get_or us i (pos 0)) (get_or us (i + 1) (pos 0)) (get_or us j (pos 0)) (get_or us (j + 1) (pos 0)))
      ∙ or_both (ltb (get_or x.highs i 0) (get_or x.lows j 0)) (ltb (get_or x.highs j 0) (get_or x.lows i 0)) _ _ (λ t. box_under i j a b (ltb-true (get_or x.highs i 0) (get_or x.lows j 0) t)) (λ t. box_under j i b a (ltb-true (get_or x.highs j 0) (get_or x.lows i 0) t)) e

module _ {cs : Columns} {u v : Extents} (x : Boxes cs u v) (i : ℕ) {end : ℕ} (p : Apart cs.m i end) where
  pub parted-edges : (k : ℕ) → i + 1 < k → k < cs.m → k < end → (parted u i k || parted v i k) ≡ true → forbidden cs.m (edge cs i) (edge cs k) ≡ false
  parted-edges k a b c e =
      sym (share-apart (segment cs i) (segment cs k) refl refl (or_both (parted u i k) (parted v i k) _ _ (parted-apart x.on_u i k (omega arith) b) (parted-apart x.on-v i k (omega arith) b) e)
      ∙ clash-other cs.m i k (segment cs i) (segment cs k) (omega arith) (λ z. omega arith) (p.each k c))

  pub beside-edges : {j : ℕ} {r : Bool} → Beside cs i j r → r ≡ true → (k : ℕ) → i + 1 < k → k < cs.m → k < end → j ≤ k → k < j + 8 → forbidden cs.m (edge cs i) (edge cs k) ≡ false
  beside-edges q t k a b c f g =
      sym (share-beside (segment cs i) (segment cs k) refl refl refl (q.each t k f g)
      ∙ clash-other cs.m i k (segment cs i) (segment cs k) (omega arith) (λ z. omega arith) (p.each k c))

  -- ---- a row: a stretch of edges that are parted, or lie beside, tells nothing
  pub parted-row : {j e : ℕ} {r : Bool} → Parted u v i j e r → r ≡ true → i + 1 < j → (n : ℕ) → j ≤ n → n ≤ cs.m → n ≤ e → n ≤ end
      → clashes_from cs i j ≡ clashes_from cs i n
  parted-row {j} q t a n b c d g =
      row-over cs.us.now cs.vs.now cs.m (forbidden cs.m (edge cs i)) j n b c (λ k f h. parted-edges k (omega arith) (omega arith) (omega arith) (q.each t k f (omega arith)))

  pub beside-row : {j : ℕ} {r : Bool} → Beside cs i j r → r ≡ true → i + 1 < j → (n : ℕ) → j ≤ n → n ≤ cs.m → n ≤ j + 8 → n ≤ end
      → clashes_from cs i j ≡ clashes_from cs i n
  beside-row {j} q t a n b c d g =
      row-over cs.us.now cs.vs.now cs.m (forbidden cs.m (edge cs i)) j n b c (λ k f h. beside-edges q t k (omega arith) (omega arith) (omega arith) f (omega arith))

-- ---- one box more
pub parted_more : {u v : Extents} {i j e f : ℕ} → Parted u v i j e true → f ≡ e + 1 → (parted u i e || parted v i e) ≡ true → Parted u v i j f true
parted_more {u} {v} {i} {j} {e} {f} p z h = record { each = λ t k a b. go k a b (dec_lt k e) }
  where
    go : (k : ℕ) → j ≤ k → k < f → Dec (k < e) → (parted u i k || parted v i k) ≡ true
    go k a b (yes l) = p.each refl k a l
    go k a b (no l) = let y : k ≡ e = omega arith in ap (λ (k : ℕ). parted u i k || parted v i k) y ∙ h

-- ---- a block's box: what is parted from it is parted from the boxes of its edges
module _ {m : ℕ} {x : Extents} (s : Covered m x) (i k : ℕ) (h : k < m) where
  pub parted_block : parted x i (144 + k / 8) ≡ true → parted x i k ≡ true
  parted_block e =
      or_both (ltb (get_or x.highs i 0) (get_or x.lows (144 + k / 8) 0)) (ltb (get_or x.highs (144 + k / 8) 0) (get_or x.lows i 0)) (ltb (get_or x.highs i 0) (get_or x.lows k 0)) (ltb (get_or x.highs k 0) (get_or x.lows i 0))
      (λ t. lt-ltb (get_or x.highs i 0) (get_or x.lows k 0) (omega (arith, ltb-true (get_or x.highs i 0) (get_or x.lows (144 + k / 8) 0) t, s.low k h)))
      (λ t. lt-ltb (get_or x.highs k 0) (get_or x.lows i 0) (omega (arith, ltb-true (get_or x.highs (144 + k / 8) 0) (get_or x.lows i 0) t, s.high k h)))
      e

pub parted-blocks : {m : ℕ} {u v : Extents} → Covered m u → Covered m v → {i : ℕ} (e c : ℕ) → Parted u v i (144 + e / 8) (144 + c) true
    → (r : ℕ) → r ≤ m → r ≤ max e (8 * c) → Parted u v i e r true
parted-blocks {m} {u} {v} x y {i} e c p r h l =
    record { each = λ t k a b. or_both (parted u i (144 + k / 8)) (parted v i (144 + k / 8)) (parted u i k) (parted v i k) (parted_block x i k (omega arith)) (parted_block y i k (omega arith)) (p.each refl (144 + k / 8) (omega arith) (omega arith)) }

-- ---- a row that is told in two parts
pub or_end : (r a b : Bool) → a ≡ (r || b) → b ≡ false → r ≡ a
or_end r a b e f = sym (e ∙ ap (λ (t : Bool). r || t) f ∙ go r)
  where
    go : (r : Bool) → (r || false) ≡ r
    go true = refl
    go false = refl

pub or_next : (r a b : Bool) → a ≡ (r || b) → r ≡ false → b ≡ a
or_next r a b e f = sym (e ∙ ap (λ (t : Bool). t || b) f)
