-- `checker::checker_answer` meets its contract.
use mir.Syntax.{w64}
use mir.Facts.{to_z_pos}
use Rattle.checker.specs.laws.Entry.{entry_empty, entry-long, entry-many, entry-narrow, entry-answered}
use Rattle.service.proofs.laws.Short.{answers-short}
use native.Mathlib.Omega.{arith}
use borrow.Author.Rules.{rules}
use Rattle.checker.proofs.checker_answer.Goals as goal

pub returns-then-stream-eq0 : goal.returns-then-stream-eq0
returns-then-stream-eq0 c = entry_empty c.args.stream.now c.args.room.now c.if-stream-eq0.true

pub returns-then-stream-gt65535 : goal.returns-then-stream-gt65535
returns-then-stream-gt65535 c = entry-long c.args.stream.now c.args.room.now c.if-stream-gt65535.true

pub returns-then-n-gt1024 : goal.returns-then-n-gt1024
returns-then-n-gt1024 c = let n = c.count_lines-n.ensures in
    entry-many c.args.stream.now c.args.room.now c.if-stream-gt65535.false (omega arith)

pub returns-then-room-n : goal.returns-then-room-n
returns-then-room-n c = let n = c.count_lines-n.ensures in
    entry-narrow c.args.stream.now c.args.room.now c.if-stream-gt65535.false (omega arith) (omega arith)

pub all-r-requires : goal.all-r-requires
all-r-requires c = let n = c.count_lines-n.ensures in
    (c.if-stream-gt65535.false, omega arith)

pub overflow_cast-result : goal.overflow_cast-result
overflow_cast-result c = let n = c.count_lines-n.ensures in
    let a = answers-short c.args.stream.now in
    let e = c.all-r.ensures.count in
    search rules

pub returns : goal.returns
returns c = let n = c.count_lines-n.ensures in
    let a = answers-short c.args.stream.now in
    let e = c.all-r.ensures.count in
    entry-answered c.args.stream.now c.args.room.now c.if-stream-gt65535.false (omega arith) (omega arith) _ c.all-r.result _ c.all-r.ensures (to_z_pos w64 (omega arith))
