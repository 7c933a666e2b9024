-- `plane::share` meets its contract. The boxes first, then the sides.
use Rattle.plane.specs.laws.Sharing.{share-apart, share-beside, share-last}
use Rattle.plane.specs.laws.Numbers.{apart_u, apart_v}
use Rattle.plane.proofs.share.Goals as goal

pub returns-then-beside-above : goal.returns-then-beside-above
returns-then-beside-above c = let h = c.requires in
    share-apart _ _ (apart_u h.0 h.1 c.apart-beside.ensures) (apart_v h.0 h.1 c.apart-above.ensures) c.if-beside-above.true

pub returns-then-one_side : goal.returns-then-one_side
returns-then-one_side c = let h = c.requires in
    share-beside _ _ (apart_u h.0 h.1 c.apart-beside.ensures) (apart_v h.0 h.1 c.apart-above.ensures) c.one_side.ensures c.if-one_side.true

pub returns : goal.returns
returns c = let h = c.requires in
    share-last _ _ (apart_u h.0 h.1 c.apart-beside.ensures) (apart_v h.0 h.1 c.apart-above.ensures) c.one_side.ensures c.if-beside-above.false c.if-one_side.false c.one_side-2.ensures
