-- `apart::note` meets its contract.
use mathlib.Core.Path.{sym, ◌∙◌}
use Rattle.bits.specs.held.Bits.{marks_of}
use Rattle.reach.specs.laws.Marks.{bare_is}
use Rattle.apart.proofs.Queues.{note-new, note-room}
use Rattle.apart.proofs.note.Goals as goal

pub push-requires : goal.push-requires
push-requires c = let s = c.requires in
    (note-room _ _ _ _ s.0 s.1 (bare_is (marks_of c.args.marks.now) c.args.q s.0.marks.bits (sym c.if-is_marked.false ∙ c.is_marked.ensures)), s.1)

pub returns : goal.returns
returns c = let s = c.requires in
    let p = c.push.ensures in
    rw (c.mark.ensures.1, p.0, p.1) (note-new _ _ _ _ s.0 s.1 (bare_is (marks_of c.args.marks.now) c.args.q s.0.marks.bits (sym c.if-is_marked.false ∙ c.is_marked.ensures)))
