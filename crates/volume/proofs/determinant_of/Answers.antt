-- `volume::determinant_of` meets its contract. The three places are handed on as rows.
use Rattle.space.specs.laws.Sizes.{near-place}
use Rattle.space.specs.laws.Numbers.{near-back}
use Rattle.volume.proofs.Rows.{rows-three}
use Rattle.volume.proofs.determinant_of.Goals as goal

pub determinant-requires : goal.determinant-requires
determinant-requires c = let h = c.args.points.now.coords in
    rows-three (near-back tt c.place-a.ensures (near-place h _)) (near-back tt c.place-b.ensures (near-place h _)) (near-back tt c.place-c.ensures (near-place h _))
