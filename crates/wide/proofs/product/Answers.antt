-- `wide::product` meets its contract. By the columns.
use Rattle.wide.proofs.Columns.{columns}
use Rattle.wide.proofs.product.Goals as goal

pub returns : goal.returns
returns c = columns c.args.a c.args.b
