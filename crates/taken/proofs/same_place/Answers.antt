-- `taken::same_place` meets its contract: bits are the same exactly where the numbers are.
use Rattle.std.proofs.Common.{rules}
use Rattle.space.specs.held.Points.{place_at}
use Rattle.taken.specs.laws.Else.{place_is}
use Rattle.taken.proofs.same_place.Goals as goal

pub returns : goal.returns
returns c = let f = c.ranges in
    let a = c.from in
    let b = c.from-2 in
    let d = c.from-3 in
    place_is (place_at c.args.points.now c.args.p) f.x f.y f.z
    (record { sfits = a.type_inv }) (record { sfits = b.type_inv }) (record { sfits = d.type_inv })
    (search rules) (search rules) (search rules)
    a.ensures b.ensures d.ensures
