-- `bits::lowest_bare` meets its contract. The words before the i-th are full.
use Rattle.bits.specs.laws.Words.{Full}
use Rattle.bits.proofs.lowest_bare.Given as goal

abbrev pub invariant-loop-i : goal.invariant-loop-i
invariant-loop-i l = Full 64 l.marks l.i
