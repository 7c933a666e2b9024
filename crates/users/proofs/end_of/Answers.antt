-- What is left to show of `end_of`.
use native.Mathlib.Omega.{arith}
use Rattle.users.proofs.Search.{counted}
use Rattle.users.proofs.end_of.Goals as goal

pub returns-then-e-key_of : goal.returns-then-e-key_of
returns-then-e-key_of c = let a = c.args in
    counted a.words.now a.e a.from c.requires.1 c.requires.0 (omega (arith, c.if-from-words.true)) (omega (arith, c.if-e-key_of.true)) c.from.result c.from-then-e-key_of.result
    (rw c.key_of-then-e-key_of.ensures at c.from.ensures) (rw c.key_of-then-e-key_of-2.ensures at c.from-then-e-key_of.ensures)
