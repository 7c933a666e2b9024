-- The loop that sums the part: what it has summed, and that first·N is the same.
use Rattle.std.specs.Prelude.{ℕ, ◌≤◌, ◌<◌, ◌≡◌, refl, List, [], ◌∷◌, length, get_or, ℤ, pos}
use Rattle.std.proofs.Common.{arith, sym, ◌∙◌, subst}
use Rattle.std.proofs.Math.IntN.{+ℤ_idl}
use Rattle.whole.specs.Lists.{steps, steps_from}
use Rattle.whole.specs.held.Small.{Small}
use Rattle.whole.specs.laws.Size.{small_zero}
use Rattle.whole.specs.laws.Sum.{next, Acc}
use Rattle.space.specs.Space.{Point, origin, determinant, places}
use Rattle.volume.specs.Part.{part_about, part}
use Rattle.space.specs.held.Points.{points_of, place_at, Coords, Known}
use Rattle.space.specs.laws.Sizes.{near-place, point_at}
use Rattle.volume.specs.laws.PartSizes.{part_step_small}
use Rattle.space.specs.laws.Sums.{Going, going_next, rest, rest_is, steps_next}

abbrev pub part_step : List Point → ℕ → ℕ → ℕ → ℤ
part_step points a = λ p q. determinant (get_or points a origin) (get_or points p origin) (get_or points q origin)

pub part_none : (points : List Point) (ring : List ℕ) → length ring ≡ 0 → pos 0 ≡ part points ring
unfolding part part_about places steps steps_from
part_none points [] e = refl
part_none points (a ∷ l) e = absurd (omega arith)

pub part_start : (points : List Point) (ring : List ℕ) → 1 ≤ length ring → Acc (part_step points (get_or ring 0 0)) 6000000000000000 (part points ring) ring (get_or ring 0 0) 1 (pos 0)
unfolding part part_about places steps steps_from
part_start points [] h = absurd (omega arith)
part_start points (a ∷ l) h =
    record {
      is = +ℤ_idl (next (part_step points a) a l) ∙ sym (steps_next (λ n. get_or points n origin) (λ p q. determinant (get_or points a origin) p q) a l);
      size = small_zero;
    }

-- the same over the entries after the first
pub part_first : (points : List Point) (ring : List ℕ) → 1 ≤ length ring → Acc (part_step points (get_or ring 0 0)) 6000000000000000 (part points ring) (rest ring) (get_or ring 0 0) 0 (pos 0)
unfolding part part_about places steps steps_from
part_first points [] h = absurd (omega arith)
part_first points (a ∷ l) h =
    subst (λ (r : List ℕ). Acc (part_step points a) 6000000000000000 (part points (a ∷ l)) r a 0 (pos 0))
    (sym (rest_is (a ∷ l)))
    (record {
      is = +ℤ_idl (next (part_step points a) a l) ∙ sym (steps_next (λ n. get_or points n origin) (λ p q. determinant (get_or points a origin) p q) a l);
      size = small_zero;
    })

pub part_step_is : {flat : List ℤ} → Coords flat → (a p q : ℕ) → a < 512 → p < 512 → q < 512
    → determinant (place_at flat a) (place_at flat p) (place_at flat q) ≡ part_step (points_of flat) a p q
part_step_is h a p q ka kp kq = λ i. determinant (sym (point_at h a ka) i) (sym (point_at h p kp) i) (sym (point_at h q kq) i)

-- the step that a loop adds
pub part_more : {flat : List ℤ} {a p q : ℕ} {r : ℤ} → Coords flat → a < 512 → p < 512 → q < 512
    → r ≡ determinant (place_at flat a) (place_at flat p) (place_at flat q)
    → (r ≡ part_step (points_of flat) a p q) × Small 6000000000000000 r
part_more {flat} {a} {p} {q} {r} h ka kp kq e = (
  e ∙ part_step_is h a p q ka kp kq,
  subst (λ (z : ℤ). Small 6000000000000000 z) (sym e) (part_step_small (near-place h a) (near-place h p) (near-place h q)),
)

-- the same by how far a loop has come
pub part-next : {flat : List ℤ} {ring : List ℕ} {n first last i : ℕ} {r : ℤ} → Coords flat → Known ring → Going ring n first last i → i < n
    → r ≡ determinant (place_at flat first) (place_at flat last) (place_at flat (get_or ring i 0))
    → (r ≡ part_step (points_of flat) first last (get_or ring i 0)) × Small 6000000000000000 r
part-next {flat} {ring} {n} {first} {last} {i} h k g l e = (
  e ∙ part_step_is h first last (get_or ring i 0) g.head_known g.last_known (going_next k g l).last_known,
  subst (λ (z : ℤ). Small 6000000000000000 z) (sym e) (part_step_small (near-place h first) (near-place h last) (near-place h (get_or ring i 0))),
)
