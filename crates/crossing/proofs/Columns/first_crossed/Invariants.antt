-- `crossing::Columns::first_crossed` meets its contract. The loop: no edge passed meets a later one.
use Rattle.crossing.proofs.laws.Pairs.{Clear}
use Rattle.crossing.proofs.Columns.first_crossed.Given as goal

abbrev pub invariant-loop-i : goal.invariant-loop-i
invariant-loop-i l = Clear l.self.us.now l.self.vs.now l.self.m l.i
