-- Check 03 by its position: some number stands twice exactly where an entry's number stood earlier, and that entry is the least such.
use Rattle.std.specs.Prelude.{ℕ, ◌+◌, ◌-◌, ◌<◌, ◌≡◌, Bool, List, eqb, ltb, take}
use Rattle.std.proofs.Common.{arith, ◌∙◌}
use Rattle.std.proofs.Math.Path.{sym, ap, subst}
use borrow.Author.Tests.{eqb-true, eq-eqb, lt-ltb, le-ltb, ltb-true, ltb-false}
use Rattle.std.proofs.Math.ListN.{length, get_or, length-take}
use Rattle.std.proofs.Math.Seq.{get_or-take}
use Rattle.whole.specs.Lists.{any_two, front, least_index, numbered, lists}
use Rattle.whole.specs.Least.{LeastBelow}
use Rattle.whole.specs.laws.Front.{front_length, front_at}
use Rattle.whole.specs.laws.Index.{any_index, any-holds, holds-any, HoldsAt, index_least, two_is, to_earlier}
use Rattle.whole.specs.laws.Least.{below_as}
use Rattle.whole.specs.laws.Places.{numbered-at, numbered-length}
use Rattle.whole.specs.laws.Same.{eqb-sym}
use Rattle.whole.specs.laws.Stores.{cases}
use Rattle.ring.specs.Entries.{is_repeated, stood_earlier, repeated_at}
use Rattle.ring.specs.Position.{Stood}

below_last : (i n : ℕ) → ltb i (n - 1) ≡ ltb (i + 1) n
below_last i n = cases (ltb (i + 1) n) (λ e. lt-ltb i (n - 1) (omega (arith, ltb-true (i + 1) n e)) ∙ sym e) (λ e. le-ltb i (n - 1) (omega (arith, ltb-false (i + 1) n e)) ∙ sym e)

-- "with the last entry left aside, some number stands twice" exactly where an entry before the closing one is told
pub repeated_is : (ring : List ℕ) → is_repeated ring ≡ ltb (repeated_at ring + 1) (length ring)
unfolding is_repeated repeated_at stood_earlier to_earlier lists
repeated_is ring =
    let l = front ring in
    ap (λ (r : ℕ → ℕ → Bool). any_two r l) (λ i x y. eqb-sym x y i)
    ∙ two_is (λ x y. eqb y x) l
    ∙ any_index (stood_earlier l) (numbered l)
    ∙ ap (ltb (repeated_at ring)) (numbered-length l ∙ front_length ring)
    ∙ below_last (repeated_at ring) (length ring)

-- ---- in plain words
module _ (ring : List ℕ) where
  abbrev entries : List (ℕ × ℕ)
  entries = numbered (front ring)

  abbrev Told : ℕ → Type 0
  Told = HoldsAt (stood_earlier (front ring)) (0, 0) entries

  -- what is told of entry i
  pub stood_at : (i : ℕ) → i + 1 < length ring → stood_earlier (front ring) (get_or entries i (0, 0)) ≡ lists (get_or ring i 0) (take i (front ring))
  unfolding stood_earlier
  stood_at i h =
      ap (stood_earlier (front ring)) (numbered-at (front ring) i (0, 0) 0 (omega (arith, front_length ring)))
      ∙ ap (λ (x : ℕ). lists x (take i (front ring))) (front_at ring i 0 h)

  stood : (i : ℕ) → Told i → Stood ring i
  unfolding lists
  stood i p =
      let h : i + 1 < length ring = omega (arith, p.0, numbered-length (front ring), front_length ring) in
      let q = any-holds (eqb (get_or ring i 0)) 0 (take i (front ring)) (sym (stood_at i h) ∙ p.1) in
      let k = least_index (eqb (get_or ring i 0)) (take i (front ring)) in
      let b : k < i = omega (arith, q.0, length-take i (front ring)) in
      record {
        inside = h;
        earlier = k;
        before = b;
        same = sym (front_at ring k 0 (omega arith)) ∙ sym (get_or-take i (front ring) k 0 b) ∙ sym (eqb-true (get_or ring i 0) (get_or (take i (front ring)) k 0) q.1);
      }

  told : (i : ℕ) → Stood ring i → Told i
  unfolding lists
  told i s =
      let h = s.inside in
      let j = s.earlier in
      let at_j : get_or (take i (front ring)) j 0 ≡ get_or ring i 0 = get_or-take i (front ring) j 0 s.before ∙ front_at ring j 0 (omega (arith, s.before)) ∙ s.same in (
        omega (arith, numbered-length (front ring), front_length ring),
        stood_at i h
            ∙ holds-any (eqb (get_or ring i 0)) 0 (take i (front ring)) j
            (omega (arith, s.before, length-take i (front ring), front_length ring), eq-eqb (get_or ring i 0) (get_or (take i (front ring)) j 0) (sym at_j)),
      )

  -- "the least entry index whose number stood earlier, the closing entry aside"
  pub repeated-least : LeastBelow (Stood ring) (length ring - 1) (repeated_at ring)
  unfolding repeated_at
  repeated-least =
      subst (λ (n : ℕ). LeastBelow (Stood ring) n (repeated_at ring)) (numbered-length (front ring) ∙ front_length ring)
      (below_as stood told (index_least (stood_earlier (front ring)) (0, 0) entries))
