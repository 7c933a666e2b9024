-- A move's loop over a span of the polygons, from one up to another: each is looked at again if its ring lists the point, and where the
-- entries of the whole span do not list it none is.
use Prim.Native.Nat.{ℕ, zero, suc, ◌+◌, ◌-◌, ◌≤◌, ◌<◌}
use native.Mathlib.Omega.{arith}
use Rattle.std.specs.Prelude.{◌≡◌, false, ltb, eqb, length, ℤ, pos}
use Rattle.std.proofs.Math.Path.{refl, sym, ap}
use Rattle.std.proofs.Common.{◌∙◌}
use mathlib.Core.List.{List}
use borrow.Author.Tests.{ltb-true, ltb-false, le-ltb}
use Rattle.std.proofs.Math.ListN.{get_or, set}
use Rattle.std.proofs.Math.Seq.{set-get_or}
use Rattle.whole.specs.Lists.{lists}
use Rattle.whole.specs.laws.Alls.{any_none, none_any}
use Rattle.whole.specs.laws.Stores.{cases, length-upto, upto_more, upto_rest}
use Rattle.whole.specs.held.Stored.{upto}
use Rattle.ring.specs.Polygon.{entries_from}
use Rattle.ring.specs.held.Rings.{polygon_at}
use Rattle.ring.specs.laws.Owners.{firsts_ordered}
use Rattle.building.specs.declared.Scalars.{Scalars}
use Rattle.building.specs.held.Holds.{Loaded}
use Rattle.building.specs.laws.Rings.{stands_of}
use Rattle.moves.specs.laws.Rings.{lists-entries}
use Rattle.building.specs.held.Rings.{cut}
use Rattle.building.specs.laws.Lists.{length_cut, get_d_cut, all_each, each_all}
use Rattle.moves.specs.held.Steps.{restamp, refind, repart, Touched, Looked, from, LookedFrom}

-- ---- what a part of a list does not list, no smaller part does
pub smaller-lists-not : (n : ℕ) (l : List ℕ) (a b a' b' : ℕ) → a ≤ a' → b' ≤ b → b ≤ length l → lists n (cut a b l) ≡ false → lists n (cut a' b' l) ≡ false
unfolding lists
smaller-lists-not n l a b a' b' h g w e =
    none_any (eqb n) (cut a' b' l)
    (each_all (λ (x : ℕ). eqb n x ≡ false) 0 (cut a' b' l)
    (λ i q. let k : i < b' - a' = omega (arith, length_cut a' b' l (omega arith)) in
    let j : a' - a + i < b - a = omega arith in
    let s : a + (a' - a + i) ≡ a' + i = omega arith in
    rw (get_d_cut a' b' i l 0 k, ← s, ← get_d_cut a b (a' - a + i) l 0 j)
    (all_each (λ (x : ℕ). eqb n x ≡ false) 0 (any_none (eqb n) (cut a b l) e) (a' - a + i) (omega (arith, length_cut a b l w)))))

-- no polygon of the span lists what its entries do not list
pub none-listed : {points : List ℤ} {entries starts firsts : List ℕ} {s : Scalars} → Loaded points entries starts firsts s → (n p q : ℕ) → q ≤ s.polygons
    → lists n (cut (get_or starts (get_or firsts p 0) 0) (get_or starts (get_or firsts q 0) 0) entries) ≡ false → (r : ℕ) → p ≤ r → r < q → lists n (entries_from (polygon_at entries starts firsts r)) ≡ false
none-listed {entries = entries} {starts = starts} {firsts = firsts} {s = s} ld n p q w e r h g =
    let st = ld.layout in
    let o : (a b : ℕ) → a ≤ b → b ≤ s.polygons → get_or firsts a 0 ≤ get_or firsts b 0 = firsts_ordered entries starts firsts s.polygons st in
    let m : get_or firsts q 0 ≤ get_or firsts s.polygons 0 = o q s.polygons w (omega arith) in
    let i : get_or starts (get_or firsts s.polygons 0) 0 ≤ 1024 = st.inside in
    let j : get_or starts (get_or firsts q 0) 0 ≤ get_or starts (get_or firsts s.polygons 0) 0 = st.ordered (get_or firsts q 0) (get_or firsts s.polygons 0) m (omega arith) in
    let z : length entries ≡ 1024 = st.entries-size in
    sym (lists-entries entries starts firsts r n (stands_of ld r (omega arith)))
    ∙ smaller-lists-not n entries (get_or starts (get_or firsts p 0) 0) (get_or starts (get_or firsts q 0) 0) (get_or starts (get_or firsts r 0) 0) (get_or starts (get_or firsts (r + 1) 0) 0)
    (st.ordered (get_or firsts p 0) (get_or firsts r 0) (o p r h (omega arith)) (omega (arith, o r s.polygons (omega arith) (omega arith))))
    (st.ordered (get_or firsts (r + 1) 0) (get_or firsts q 0) (o (r + 1) q (omega arith) w) m) (omega arith) e

module _ {A : Type 0} (f : ℕ → A → A) (d : A) (a : ℕ) where
  from_is : (k : ℕ) → a ≤ k → (old : A) → from a f k old ≡ f k old
  from_is k h old = rw (le-ltb k a h)

  -- no place is changed if none below n would be, from a on
  pub from-same : (l : List A) (n : ℕ) → ((k : ℕ) → a ≤ k → k < n → f k (get_or l k d) ≡ get_or l k d) → l ≡ upto (from a f) d l n
  unfolding upto
  from-same l zero h = refl
  from-same l (suc n) h =
      let e : l ≡ upto (from a f) d l n = from-same l n (λ k g b. h k g (omega arith)) in
      let s : from a f n (get_or l n d) ≡ get_or l n d = cases (ltb n a) (λ t. rw t) (λ t. from_is n (ltb-false n a t) (get_or l n d) ∙ h n (ltb-false n a t) (omega arith)) in
      sym (ap (λ (x : A). set (upto (from a f) d l n) n x) s ∙ ap (λ (r : List A). set r n (get_or l n d)) (sym e) ∙ set-get_or l n d)

  pub from-none : (l : List A) → l ≡ upto (from a f) d l a
  from-none l = from-same l a (λ k h b. absurd (omega arith))

  pub from_more : (l : List A) (k : ℕ) → a ≤ k → {l' : List A} → l' ≡ upto (from a f) d l k → set l' k (f k (get_or l' k d)) ≡ upto (from a f) d l (k + 1)
  from_more l k h e =
      ap (λ (r : List A). set r k (f k (get_or r k d))) e
      ∙ ap (λ (x : A). set (upto (from a f) d l k) k x) (sym (from_is k h (get_or (upto (from a f) d l k) k d)))
      ∙ upto_more (from a f) d l k

  -- those below a before them: all below n
  pub from-joined : (l : List A) (n : ℕ) → a ≤ n → upto (from a f) d (upto f d l a) n ≡ upto f d l n
  unfolding upto
  from-joined l zero h = let e : a ≡ 0 = omega arith in rw e
  from-joined l (suc n) h =
      cases (ltb n a)
      (λ t. let e : a ≡ suc n = omega (arith, ltb-true n a t) in
      sym (from-none (upto f d l a) ∙ ap (λ (k : ℕ). upto (from a f) d (upto f d l a) k) e) ∙ ap (λ (k : ℕ). upto f d l k) e)
      (λ t. let b : a ≤ n = ltb-false n a t in
      ap (λ (r : List A). set r n (from a f n (get_or (upto f d l a) n d))) (from-joined l n b)
      ∙ ap (λ (x : A). set (upto f d l n) n x) (from_is n b (get_or (upto f d l a) n d) ∙ ap (f n) (upto_rest f d l a n b)))

-- ---- the polygons from a up to m looked at again
module _ (tolerance : ℕ) (points : List ℤ) (entries starts firsts : List ℕ) (number n a : ℕ) where
  module _ {stamps findings : List ℕ} {parts : List ℤ} where
    pub looked-from-none : LookedFrom tolerance points entries starts firsts number n a a stamps findings parts stamps findings parts
    looked-from-none =
        record {
          stamped = from-none (restamp entries starts firsts number n) 0 a stamps;
          found = from-none (refind tolerance points entries starts firsts n) 0 a findings;
          summed = from-none (repart points entries starts firsts n) (pos 0) a parts;
        }

    -- nothing is looked at where no ring of the span lists the point
    pub looked-from-same : (m : ℕ) → ((r : ℕ) → a ≤ r → r < m → lists n (entries_from (polygon_at entries starts firsts r)) ≡ false) → LookedFrom tolerance points entries starts firsts number n a m stamps findings parts stamps findings parts
    looked-from-same m e =
        record {
          stamped = from-same (restamp entries starts firsts number n) 0 a stamps m (λ k h b. rw (e k h b));
          found = from-same (refind tolerance points entries starts firsts n) 0 a findings m (λ k h b. rw (e k h b));
          summed = from-same (repart points entries starts firsts n) (pos 0) a parts m (λ k h b. rw (e k h b));
        }

    module _ {m : ℕ} {stamps' findings' : List ℕ} {parts' : List ℤ} (lo : LookedFrom tolerance points entries starts firsts number n a m stamps findings parts stamps' findings' parts') where
      pub from-stamps : length stamps' ≡ length stamps
      from-stamps = ap length lo.stamped ∙ length-upto (from a (restamp entries starts firsts number n)) 0 stamps m

      pub from-findings : length findings' ≡ length findings
      from-findings = ap length lo.found ∙ length-upto (from a (refind tolerance points entries starts firsts n)) 0 findings m

      pub from_parts : length parts' ≡ length parts
      from_parts = ap length lo.summed ∙ length-upto (from a (repart points entries starts firsts n)) (pos 0) parts m

      pub looked-from-more : a ≤ m → {stamps'' findings'' : List ℕ} {parts'' : List ℤ} → Touched tolerance points entries starts firsts number n m stamps' findings' parts' stamps'' findings'' parts''
          → LookedFrom tolerance points entries starts firsts number n a (m + 1) stamps findings parts stamps'' findings'' parts''
      looked-from-more h t =
          record {
            stamped = t.stamped ∙ from_more (restamp entries starts firsts number n) 0 a stamps m h lo.stamped;
            found = t.found ∙ from_more (refind tolerance points entries starts firsts n) 0 a findings m h lo.found;
            summed = t.summed ∙ from_more (repart points entries starts firsts n) (pos 0) a parts m h lo.summed;
          }

      -- those before them are looked at already
      pub looked-joined : a ≤ m → {stamps₀ findings₀ : List ℕ} {parts₀ : List ℤ} → Looked tolerance points entries starts firsts number n a stamps₀ findings₀ parts₀ stamps findings parts
          → Looked tolerance points entries starts firsts number n m stamps₀ findings₀ parts₀ stamps' findings' parts'
      looked-joined h {stamps₀} {findings₀} {parts₀} l =
          record {
            stamped = lo.stamped ∙ ap (λ (r : List ℕ). upto (from a (restamp entries starts firsts number n)) 0 r m) l.stamped ∙ from-joined (restamp entries starts firsts number n) 0 a stamps₀ m h;
            found = lo.found ∙ ap (λ (r : List ℕ). upto (from a (refind tolerance points entries starts firsts n)) 0 r m) l.found ∙ from-joined (refind tolerance points entries starts firsts n) 0 a findings₀ m h;
            summed = lo.summed ∙ ap (λ (r : List ℤ). upto (from a (repart points entries starts firsts n)) (pos 0) r m) l.summed ∙ from-joined (repart points entries starts firsts n) (pos 0) a parts₀ m h;
          }
