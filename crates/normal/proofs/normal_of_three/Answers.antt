-- `normal::normal_of_three` meets its contract. The two ways are those from the first corner.
use mathlib.Core.Path.{◌∙◌}
use Rattle.space.specs.Space.{cross}
use Rattle.normal.specs.laws.Sums.{way-near}
use Rattle.normal.proofs.normal_of_three.Goals as goal

pub cross-requires : goal.cross-requires
cross-requires c = (way-near c.args.a c.args.b c.args.points.now.coords c.toward-p.ensures, way-near c.args.a c.args.c c.args.points.now.coords c.toward-q.ensures)

pub returns : goal.returns
returns c = c.cross.ensures ∙ (λ i. cross (c.toward-p.ensures i) (c.toward-q.ensures i))
