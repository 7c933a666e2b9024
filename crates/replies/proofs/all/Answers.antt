-- What is left to show of `all`.
use Rattle.replies.specs.laws.Loop.{running_idle, running_turn, running_end, room_left}
use Rattle.lines.specs.laws.LineLaws.{end_above, end_inside}
use native.Mathlib.Omega.{arith}
use Rattle.replies.proofs.all.Goals as goal

pub loop-from-init : goal.loop-from-init
loop-from-init c = running_idle c.args.stream.now c.args.room.now _ c.idle-d.result c.idle-d.ensures c.fresh-arrays.ensures c.requires.1

pub slice_bounds-one-count : goal.slice_bounds-one-count
slice_bounds-one-count c = let l = c.loop-from in
    let e = c.line_end-end.ensures in
    let h = end_above c.args.stream.now l.from in
    let i = end_inside c.args.stream.now l.from (omega arith) in
    omega arith

pub slice_bounds-one-start : goal.slice_bounds-one-start
slice_bounds-one-start c = let l = c.loop-from in
    let e = c.line_end-end.ensures in
    let h = end_above c.args.stream.now l.from in
    let i = end_inside c.args.stream.now l.from (omega arith) in
    omega arith

pub slice_bounds-one-end : goal.slice_bounds-one-end
slice_bounds-one-end c = let l = c.loop-from in
    let e = c.line_end-end.ensures in
    let h = end_above c.args.stream.now l.from in
    let i = end_inside c.args.stream.now l.from (omega arith) in
    omega arith

pub one-d-requires : goal.one-d-requires
one-d-requires c = let l = c.loop-from in
    (room_left c.args.stream.now c.args.room.now l.room l.arrays l.d l.from l.invariant c.loop-from-test.true, l.invariant.valid)

pub overflow_add-from : goal.overflow_add-from
overflow_add-from c = let l = c.loop-from in
    let e = c.line_end-end.ensures in
    let h = end_above c.args.stream.now l.from in
    let i = end_inside c.args.stream.now l.from (omega arith) in
    omega (arith, c.requires.0)

pub loop-from-smaller : goal.loop-from-smaller
loop-from-smaller c = let l = c.loop-from in
    let e = c.line_end-end.ensures in
    let h = end_above c.args.stream.now l.from in
    let i = end_inside c.args.stream.now l.from (omega arith) in
    omega arith

pub loop-from-preserved : goal.loop-from-preserved
loop-from-preserved c = let l = c.loop-from in
    running_turn c.args.stream.now c.args.room.now l.room l.arrays l.d l.from l.invariant c.loop-from-test.true c.line_end-end.result c.line_end-end.ensures _ _ _ c.one-d.ensures

pub returns : goal.returns
returns c = let l = c.loop-from in
    running_end c.args.stream.now c.args.room.now l.room l.arrays l.d l.from l.invariant c.loop-from-test.false
