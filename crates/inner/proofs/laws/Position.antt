-- That the position of a polygon's finding says what `Position` has.
use Prim.Native.Nat.{ℕ, ◌+◌, ◌≤◌}
use Rattle.std.proofs.Common.{arith, sym, ap, ◌∙◌, true≢false, inl, inr, ltb-true}
use Rattle.std.specs.Prelude.{◌≡◌, Bool, true, false, List, [], ◌∷◌, ◌++◌, map, ◌⊎◌}
use Rattle.std.proofs.Math.Path.{refl, subst}
use Rattle.std.proofs.Math.ListN.{length}
use Rattle.whole.specs.Lists.{given, first}
use Rattle.whole.specs.Least.{Least}
use Rattle.whole.specs.All as all
use Rattle.whole.specs.All.{All}
use Rattle.whole.specs.held.Rows.{rows}
use Rattle.space.specs.Space.{Point, places}
use Rattle.plane.specs.Plane.{largest_axis_of}
use Rattle.ring.specs.Polygon.{Polygon, rings_of, entries_from, all}
use Rattle.ring.specs.Position.{Stood}
use Rattle.normal.specs.Normal.{normal}
use Rattle.crossing.specs.Position.{Meets}
use Rattle.even.specs.Even.{is_uneven, uneven_at}
use Rattle.even.proofs.laws.Least.{uneven_is, uneven-least}
use Rattle.holes.specs.Holes.{seen, component, component_of, is_shared, is_misplaced_of}
use Rattle.polygon.specs.declared.Finding.{Finding}
use Rattle.polygon.specs.declared.Finding.TheVariants.{Sound, Short, Unclosed, Repeated, NoNormal, Crossed, Uneven, Shared, Misplaced}
use Rattle.polygon.specs.Ring.{edges_in, ring_rows, ring_finding, finding_number_of, finding_position_of}
use Rattle.polygon.specs.Ring as ring
use Rattle.polygon.specs.laws.Position as ringed
use Rattle.polygon.specs.held.Findings.{is_placed}
use Rattle.polygon.specs.held.Position.{has_position_of}
use Rattle.polygon.specs.laws.Position.{placed_is, position_is}
use Rattle.polygon.specs.laws.Rows.{first-after, first_taken, sound_or}
use Rattle.inner.specs.Finding.{later, finding}
use Rattle.inner.specs.Position.{Placed, Position}
use Rattle.inner.specs.laws.Rows.{later-number, ring_fails, none_fails}
use Rattle.inner.specs.held.LastChecks.{last_checks}
use Rattle.inner.proofs.laws.Checks.{rings_few, in_ring, finding_late}

-- ---- positions in a later ring
later_adds : (before : ℕ) (f : Finding) → has_position_of f ≡ true → finding_position_of (later before f) ≡ before + finding_position_of f
unfolding later has_position_of finding_position_of
later_adds before Sound e = absurd (true≢false (sym e))
later_adds before Short e = absurd (true≢false (sym e))
later_adds before Unclosed e = absurd (true≢false (sym e))
later_adds before (Repeated i) e = refl
later_adds before NoNormal e = absurd (true≢false (sym e))
later_adds before (Crossed i) e = refl
later_adds before (Uneven i) e = refl
later_adds before Shared e = absurd (true≢false (sym e))
later_adds before Misplaced e = absurd (true≢false (sym e))

has : (f : Finding) {k : ℕ} → is_placed k ≡ true → finding_number_of f ≡ k → has_position_of f ≡ true
has f t e = sym (placed_is f) ∙ ap is_placed e ∙ t

-- the others have none
bare : (f : Finding) → (finding_number_of f ≡ 3 → ⊥) → (finding_number_of f ≡ 5 → ⊥) → (finding_number_of f ≡ 6 → ⊥) → finding_position_of f ≡ 0
unfolding finding_number_of finding_position_of
bare Sound a b c = refl
bare Short a b c = refl
bare Unclosed a b c = refl
bare (Repeated i) a b c = absurd (a refl)
bare NoNormal a b c = refl
bare (Crossed i) a b c = absurd (b refl)
bare (Uneven i) a b c = absurd (c refl)
bare Shared a b c = refl
bare Misplaced a b c = refl

-- ---- the first ring that fails
module _ (points : List Point) where
  abbrev Passing : List (List ℕ) → Type 0
  Passing rings = All (λ (r : List ℕ). ring_finding points r ≡ Sound) rings

  record Failing (rings : List (List ℕ)) : Type 0 where
    done : List (List ℕ)
    ring : List ℕ
    rest : List (List ℕ)
    is : rings ≡ done ++ ring ∷ rest
    pass : Passing done
    fails : ring_finding points ring ≡ Sound → ⊥

  first_failing_lem : (rings : List (List ℕ)) → Passing rings ⊎ Failing rings
  first_failing_lem [] = inl all.none
  first_failing_lem (r ∷ rs) = go (sound_or (ring_finding points r)) (first_failing_lem rs)
    where
      go : (ring_finding points r ≡ Sound) ⊎ (ring_finding points r ≡ Sound → ⊥) → Passing rs ⊎ Failing rs → Passing (r ∷ rs) ⊎ Failing (r ∷ rs)
      go (inl h) (inl a) = inl (all.more h a)
      go (inl h) (inr f) = inr (record { done = r ∷ f.done; ring = f.ring; rest = f.rest; is = ap (λ (l : List (List ℕ)). r ∷ l) f.is; pass = all.more h f.pass; fails = f.fails })
      go (inr h) x = inr (record { done = []; ring = r; rest = rs; is = refl; pass = all.none; fails = h })

  module _ (r : List ℕ) (h : ring_finding points r ≡ Sound → ⊥) where
    -- its finding by 01 to 05 is that by 01 to 06
    by-five : ring.finding 0 points r ≡ ring_finding points r
    unfolding ring.finding ring_finding
    by-five = first-after Sound (ring_rows points r) _ ∙ first_taken Sound _ (ring_rows points r) h

    own : ringed.Position 0 points r (ring_finding points r)
    own = subst (ringed.Position 0 points r) by-five (position_is 0 points r)

    few : finding_number_of (ring_finding points r) ≤ 5
    few = omega (arith, rings_few points 0 (r ∷ []), ap finding_number_of (ring_fails points 0 r [] h), later-number 0 (ring_finding points r))

-- ---- the polygon's finding
module _ (tolerance : ℕ) (points : List Point) (p : Polygon) where
  abbrev n : Point
  n = normal (places points p.outer)

  abbrev ps : List Point
  ps = places points (entries_from p)

  -- where a ring fails one of 01 to 05
  in_one : Failing points (rings_of p) → Position tolerance points p (finding tolerance points p)
  unfolding is_placed
  in_one x =
      subst (Position tolerance points p) (sym (in_ring tolerance points p x.done x.ring x.rest x.is x.pass x.fails))
      (record {
        of_03 = λ e. placed Stood (has f refl (same e)) ((own points x.ring x.fails).of_03 (same e));
        of_05 = λ e. placed (λ r. Meets (edges_in (largest_axis_of (normal (places points r))) (places points r))) (has f refl (same e)) ((own points x.ring x.fails).of_05 (same e));
        of_06 = λ e. absurd (six (same e));
        of_others = bare (later before f);
      })
    where
      before : ℕ
      before = length (all (λ r. r) x.done)

      f : Finding
      f = ring_finding points x.ring

      same : {k : ℕ} → finding_number_of (later before f) ≡ k → finding_number_of f ≡ k
      same e = sym (later-number before f) ∙ e

      six : finding_number_of f ≡ 6 → ⊥
      six e = omega (arith, few points x.ring x.fails)

      placed : (P : List ℕ → ℕ → Type 0) → has_position_of f ≡ true → Least (P x.ring) (finding_position_of f) → Placed points p P (finding_position_of (later before f))
      placed P e l = record { done = x.done; ring = x.ring; rest = x.rest; rings = x.is; pass = x.pass; at = finding_position_of f; counted = later_adds before f e; least = l }

  -- where none does: 06, 0E and 0F
  in_none : Passing points (rings_of p) → Position tolerance points p (finding tolerance points p)
  unfolding last_checks rows first given finding_number_of finding_position_of
  in_none a =
      let axis = largest_axis_of n in
      subst (Position tolerance points p) (sym (finding_late tolerance points p (none_fails points 0 (rings_of p) a)))
      (go (is_uneven tolerance n ps) refl (is_shared (map (seen axis points) (rings_of p))) (is_misplaced_of (seen axis points p.outer) (map (seen axis points) p.inner) (component axis n) (map (component_of axis points) p.inner)))
    where
      without : (f : Finding) → (finding_number_of f ≡ 3 → ⊥) → (finding_number_of f ≡ 5 → ⊥) → (finding_number_of f ≡ 6 → ⊥) → Position tolerance points p f
      without f x y z = record { of_03 = λ e. absurd (x e); of_05 = λ e. absurd (y e); of_06 = λ e. absurd (z e); of_others = bare f }

      at-06 : is_uneven tolerance n ps ≡ true → Position tolerance points p (Uneven (uneven_at tolerance n ps))
      at-06 h =
          record {
            of_03 = λ e. absurd (omega arith);
            of_05 = λ e. absurd (omega arith);
            of_06 = λ e. (uneven-least tolerance n ps).found (ltb-true (uneven_at tolerance n ps) (length ps) (sym (uneven_is tolerance n ps) ∙ h));
            of_others = λ x y z. absurd (z refl);
          }

      go : (u : Bool) → is_uneven tolerance n ps ≡ u → (s m : Bool) → Position tolerance points p (first Sound (given u (Uneven (uneven_at tolerance n ps)) ∷ given s Shared ∷ given m Misplaced ∷ []))
      go true h s m = at-06 h
      go false h true m = without Shared (λ e. omega arith) (λ e. omega arith) (λ e. omega arith)
      go false h false true = without Misplaced (λ e. omega arith) (λ e. omega arith) (λ e. omega arith)
      go false h false false = without Sound (λ e. omega arith) (λ e. omega arith) (λ e. omega arith)

  pub position : Position tolerance points p (finding tolerance points p)
  position = go (first_failing_lem points (rings_of p))
    where
      go : Passing points (rings_of p) ⊎ Failing points (rings_of p) → Position tolerance points p (finding tolerance points p)
      go (inl a) = in_none a
      go (inr x) = in_one x
