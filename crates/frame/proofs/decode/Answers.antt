-- `decode` meets its contract: the two digits of the kind choose the reader, and each reader gives its kind's frame.
use Rattle.std.proofs.Common.{arith, sym, ap, ◌∙◌}
use Rattle.frame.specs.Frame.{Kind, kind_of}
use Rattle.frame.specs.held.Meaning.{meaning}
use Rattle.frame.specs.laws.Decoded.{decode-short, decode_other, decode_kind, decode_unknown, kind_unknown}
use Rattle.frame.proofs.decode.Goals as goal
use Rattle.frame.proofs.decode.Goals.{then-line-lt2-via-then-line-lt2, then-line-lt2-via-else-line-lt2+then-not-all_hex}

pub returns-then-line-lt2 : goal.returns-then-line-lt2
unfolding meaning
returns-then-line-lt2 c =
    elim c.then-line-lt2.branch [
      | then-line-lt2-via-then-line-lt2 w ↦ decode-short _ w.if-line-lt2.true
      | then-line-lt2-via-else-line-lt2+then-not-all_hex w ↦ decode_other _ (sym w.all_hex.ensures ∙ w.if-not-all_hex.true)
    ]

pub returns-in-1 : goal.returns-in-1
unfolding kind_of
returns-in-1 c = let hex = sym c.all_hex.ensures ∙ c.if-not-all_hex.false in
    c.read_begin.ensures ∙ decode_kind _ Kind.begin hex c.unsigned.ensures.0 (ap kind_of c.in-1.is)

pub returns-in-2 : goal.returns-in-2
unfolding kind_of
returns-in-2 c = let hex = sym c.all_hex.ensures ∙ c.if-not-all_hex.false in
    c.read_point.ensures ∙ decode_kind _ Kind.point hex c.unsigned.ensures.0 (ap kind_of c.in-2.is)

pub returns-in-3 : goal.returns-in-3
unfolding kind_of
returns-in-3 c = let hex = sym c.all_hex.ensures ∙ c.if-not-all_hex.false in
    c.read_polygon.ensures ∙ decode_kind _ Kind.polygon hex c.unsigned.ensures.0 (ap kind_of c.in-3.is)

pub returns-in-4 : goal.returns-in-4
unfolding kind_of
returns-in-4 c = let hex = sym c.all_hex.ensures ∙ c.if-not-all_hex.false in
    c.read_end_of_load.ensures ∙ decode_kind _ Kind.end_of_load hex c.unsigned.ensures.0 (ap kind_of c.in-4.is)

pub returns-in-5 : goal.returns-in-5
unfolding kind_of
returns-in-5 c = let hex = sym c.all_hex.ensures ∙ c.if-not-all_hex.false in
    c.read_move.ensures ∙ decode_kind _ Kind.move hex c.unsigned.ensures.0 (ap kind_of c.in-5.is)

pub returns-in-6 : goal.returns-in-6
unfolding kind_of
returns-in-6 c = let hex = sym c.all_hex.ensures ∙ c.if-not-all_hex.false in
    c.read_turn.ensures ∙ decode_kind _ Kind.turn hex c.unsigned.ensures.0 (ap kind_of c.in-6.is)

pub returns-in-7 : goal.returns-in-7
unfolding kind_of
returns-in-7 c = let hex = sym c.all_hex.ensures ∙ c.if-not-all_hex.false in
    c.read_question.ensures ∙ decode_kind _ Kind.question hex c.unsigned.ensures.0 (ap kind_of c.in-7.is)

pub returns-in-12 : goal.returns-in-12
unfolding kind_of
returns-in-12 c = let hex = sym c.all_hex.ensures ∙ c.if-not-all_hex.false in
    c.read_across.ensures ∙ decode_kind _ Kind.across hex c.unsigned.ensures.0 (ap kind_of c.in-12.is)

pub returns-in_default : goal.returns-in_default
unfolding meaning
returns-in_default c = let hex = sym c.all_hex.ensures ∙ c.if-not-all_hex.false in
    decode_unknown _ hex c.unsigned.ensures.0
    (kind_unknown c.unsigned.result (omega arith) (omega arith) (omega arith) (omega arith) (omega arith) (omega arith) (omega arith) (omega arith))
