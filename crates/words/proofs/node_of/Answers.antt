-- `words::node_of` meets its contract.
use Rattle.std.proofs.Common.{arith}
use Rattle.std.proofs.lemmas.Nat.{xor_lt}
use Rattle.words.specs.held.Words.{step_of, next_of}
use Rattle.words.specs.laws.Swap.{swap_small, swap-low, swap-high}
use Rattle.words.proofs.node_of.Goals as goal

pub returns-in-Smaller : goal.returns-in-Smaller
returns-in-Smaller c = let w = c.args.w in
    (rw c.in-Smaller.is (swap-low w), xor_lt 10 (step_of w) _ (omega arith) (swap_small w))

pub returns-in-Larger : goal.returns-in-Larger
returns-in-Larger c = let w = c.args.w in
    (rw c.in-Larger.is (swap-high w), xor_lt 10 (next_of w) _ (omega arith) (swap_small w))
