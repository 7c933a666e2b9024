-- A polygon of one ring has the finding and the part that document 01 gives that ring.
use Rattle.std.specs.Prelude.{ℕ, ◌≡◌, refl, Bool, true, false, ℤ, pos, ◌+ℤ◌}
use Rattle.std.proofs.Math.Path.{sym, ap}
use Rattle.std.proofs.Common.{◌∙◌}
use mathlib.Core.List.{List, [], ◌∷◌, ◌++◌, map, append-nil}
use Rattle.std.proofs.Math.Option
use Rattle.std.proofs.Math.Option.{Option, none, some}
use Rattle.whole.specs.laws.Solve.{k, ◌⊕◌, ◌≔◌}
use Rattle.whole.specs.laws.Solve.{ring as solve}
use Rattle.whole.specs.Lists.{given, first, any, any_two, sum_of}
use Rattle.space.specs.Space.{Point, places}
use Rattle.normal.specs.Normal.{normal}
use Rattle.even.specs.Even.{is_uneven, uneven_at}
use Rattle.ring.specs.Polygon.{one, all, rings_of, entries_from}
use Rattle.volume.specs.Part.{part as ringPart}
use Rattle.holes.specs.Holes.{is_shared, is_misplaced_of}
use Rattle.polygon.specs.declared.Finding.{Finding}
use Rattle.polygon.specs.declared.Finding.TheVariants.{Sound, Uneven}
use Rattle.polygon.specs.Ring as ring
use Rattle.polygon.specs.Ring.{ring_rows}
use Rattle.polygon.specs.laws.Rows.{first-after}
use Rattle.inner.specs.Finding.{later, rings_rows, finding, part}
use Rattle.inner.specs.laws.Rows.{later-none}

-- positions in the first ring are those of the ring
first_rows : (l : List (Option Finding)) → map (Option.map (later 0)) l ≡ l
first_rows [] = refl
first_rows (none ∷ l) = ap (λ (m : List (Option Finding)). none ∷ m) (first_rows l)
first_rows (some f ∷ l) = λ i. some (later-none f i) ∷ first_rows l i

-- rows that are not given
past : (t : Bool) (f : Finding) → first Sound (given t f ∷ none ∷ none ∷ []) ≡ first Sound (given t f ∷ [])
unfolding first given
past true f = refl
past false f = refl

none_more : (z : ℤ) → z +ℤ pos 0 ≡ z
none_more = solve 1 (λ z. z ⊕ k (pos 0) ≔ z) tt

module _ (points : List Point) (r : List ℕ) where
  rows-one : rings_rows points 0 (r ∷ []) ≡ ring_rows points r
  unfolding rings_rows
  rows-one = append-nil (map (Option.map (later 0)) (ring_rows points r)) ∙ first_rows (ring_rows points r)

  pub one_ring : (tolerance : ℕ) → finding tolerance points (one r) ≡ ring.finding tolerance points r
  unfolding finding ring.finding one rings_of entries_from all is_shared is_misplaced_of any any_two given
  one_ring tolerance =
      let n = normal (places points r) in
      let row : List Point → Option Finding = λ ps. given (is_uneven tolerance n ps) (Uneven (uneven_at tolerance n ps)) in
      (λ i. first Sound (rows-one i ++ row (places points (append-nil r i)) ∷ none ∷ none ∷ []))
      ∙ first-after Sound (ring_rows points r) (row (places points r) ∷ none ∷ none ∷ [])
      ∙ ap (λ (f : Finding). first f (ring_rows points r)) (past (is_uneven tolerance n (places points r)) (Uneven (uneven_at tolerance n (places points r))))
      ∙ sym (first-after Sound (ring_rows points r) (row (places points r) ∷ []))

  pub one-part : part points (one r) ≡ ringPart points r
  unfolding part one rings_of sum_of
  one-part = none_more (ringPart points r)
