-- `count_lines` meets its contract. The invariant: the line feeds of the parts passed and those still to come are all of them.
use Rattle.std.specs.Prelude.{◌≡◌, ◌+◌, ◌≤◌, ◌-◌, length, take}
use Rattle.std.specs.Slice.Iter.{chunks_rest, chunks_size}
use Rattle.lines.specs.held.Offsets.{feeds}
use Rattle.lines.proofs.count_lines.Given as goal

abbrev pub invariant-loop-part : goal.invariant-loop-part
invariant-loop-part l = record {
  size : chunks_size l.part-iterator ≡ 240;
  few : l.n + length (chunks_rest l.part-iterator) ≤ length l.stream;
  all : l.n + feeds (chunks_rest l.part-iterator) ≡ feeds (take (length l.stream - 1) l.stream) + 1;
}
