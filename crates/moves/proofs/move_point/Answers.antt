-- `moves::move_point` meets its contract, by the law of a move (`did_moved`).
use Rattle.std.proofs.Common.{◌≡◌, refl, sym, ap, ◌∙◌, subst, List, ℤ}
use Rattle.space.specs.Space.{Point}
use Rattle.space.specs.held.Points.{Coords}
use Rattle.places.specs.held.Places.{point3, placed}
use Rattle.places.specs.laws.Near.{near-place, near-bits, placed_coords}
use Rattle.building.specs.held.Holds.{Loaded}
use Rattle.moves.proofs.laws.Moved.{moved-loaded, did_moved}
use Rattle.moves.proofs.move_point.Goals as goal
use Rattle.moves.proofs.move_point.Goals.{After-place}

there : (c : After-place) → c.place.new.points ≡ placed c.args.arrays.now.points.flat c.args.n (point3 c.args.x c.args.y c.args.z)
there c = c.place.ensures ∙ ap (λ (q : Point). placed c.args.arrays.now.points.flat c.args.n q) (near-bits c.args.x c.args.y c.args.z c.requires.z_value)

pub invariant_of-arrays : goal.invariant_of-arrays
invariant_of-arrays c = let p = point3 c.args.x c.args.y c.args.z in
    record { coords = subst Coords (sym (there c)) (placed_coords c.args.arrays.now.points.flat c.args.n p c.requires.held.loaded.coords (near-place p c.requires.z_value)) }

pub look_again-requires : goal.look_again-requires
look_again-requires c = let a = c.args.arrays.now in
    let p = point3 c.args.x c.args.y c.args.z in
    subst (λ (l : List ℤ). Loaded l a.rings.entries a.rings.starts a.rings.firsts c.args.s) (sym (there ((goal.at.look_again-requires c).After-place)))
    (moved-loaded c.requires.held.loaded c.args.n p (near-place p c.requires.z_value))

pub returns : goal.returns
returns c = let a = c.args.arrays.now in
    let p = point3 c.args.x c.args.y c.args.z in
    let near = near-place p c.requires.z_value in
    let b = c.look_again.ensures.beside in
    let e = b.points ∙ there ((goal.at.returns c).After-place) in
    let looked = rw (sym b.points) at c.look_again.ensures.looked in
    record {
      did = did_moved a _ c.args.s c.requires.held c.args.number c.args.n p c.requires.n_lt_points near e b.rings b.table b.turned looked;
      rings = b.rings;
      table = b.table;
      turned = b.turned;
      move_writes = record { points = e; looked = looked; scalars = refl };
    }
