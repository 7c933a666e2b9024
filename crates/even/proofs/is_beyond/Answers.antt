-- `even::is_beyond` meets its contract. By the product and the order of two words.
use mathlib.Core.Path.{◌∙◌, ap}
use lib.Dec.{ltb}
use Rattle.wide.specs.Value.{value}
use Rattle.even.proofs.is_beyond.Goals as goal

pub returns : goal.returns
returns c = c.is_less.ensures ∙ ap (ltb (value c.args.limit)) c.product.ensures
