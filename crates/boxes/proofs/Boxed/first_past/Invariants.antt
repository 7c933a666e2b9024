-- `boxes::Boxed::first_past` meets its contract. The loop: no edge passed meets a later one; the first that does with a neighbour ends it.
use Rattle.crossing.proofs.laws.Pairs.{Clear}
use Rattle.boxes.proofs.Boxed.first_past.Given as goal

abbrev pub invariant-loop-i : goal.invariant-loop-i
invariant-loop-i l = Clear l.self.columns.us.now l.self.columns.vs.now l.self.columns.m l.i
