-- What is left to show of `all_hex`.
use Rattle.std.proofs.Common.{◌≡◌, ℕ, ◌+◌, ◌-◌, ◌≤◌, true, Bool, ◌&&◌, List, length, take, drop, arith, sym, ap, ◌∙◌}
use Rattle.hexadecimal.specs.Hex.{all_hex_of}
use Rattle.hexadecimal.specs.laws.Digits.{hex_block, hex_last, hex_start, hex_finish}
use Rattle.hexadecimal.proofs.all_hex.Goals as goal
use Rattle.hexadecimal.proofs.all_hex.Goals.{else-loop-at-test, then-loop-at-test+else-not-each_hex+else-last-at-gt16}

-- sixteen bytes that are digits say nothing, others tell of all that comes
step : (s : List ℕ) (i : ℕ) (r : Bool) → r ≡ all_hex_of (take (i + 16 - i) (drop i s)) → (r && all_hex_of (drop (i + 16) s)) ≡ all_hex_of (drop i s)
step s i r e =
    let n : i + 16 - i ≡ 16 = omega arith in
    hex_block s i true r (rw n at e)

-- the last sixteen bytes, where those from one of them on tell of the whole line
ends : (s : List ℕ) (i : ℕ) (r : Bool) → 16 ≤ length s → length s - 16 ≤ i → all_hex_of (drop i s) ≡ all_hex_of s
    → r ≡ all_hex_of (take (length s - (length s - 16)) (drop (length s - 16) s)) → r ≡ all_hex_of s
ends s i r h g e f =
    let n : length s - (length s - 16) ≡ 16 = omega arith in
    let l : r ≡ all_hex_of (drop (length s - 16) s) = hex_last s (length s - 16) (omega arith) (rw n at f) in
    sym (hex_finish s (length s - 16) r i g (λ t. sym l ∙ t)) ∙ ap (λ (b : Bool). r && b) e ∙ hex_start s (length s - 16) l

pub returns-then-not-each_hex : goal.returns-then-not-each_hex
returns-then-not-each_hex c =
    let l = c.loop-at in
    let e = step _ l.at _ c.each_hex-in-loop-at.ensures in
    rw c.if-not-each_hex.true at e ∙ l.invariant

pub loop-at-preserved : goal.loop-at-preserved
loop-at-preserved c =
    let l = c.loop-at in
    let e = step _ l.at _ c.each_hex-in-loop-at.ensures in
    rw c.if-not-each_hex.false at e ∙ l.invariant

pub returns : goal.returns
returns c =
    let l = c.loop-at in
    elim c.loop-at-test.branch [
      | else-loop-at-test w ↦ ends _ l.at _ (omega arith) (omega arith) l.invariant c.each_hex-2.ensures
      | then-loop-at-test+else-not-each_hex+else-last-at-gt16 w ↦
          let e = step _ l.at _ w.each_hex-in-loop-at.ensures in
          ends _ (l.at + 16) _ (omega arith) (omega arith) (rw w.if-not-each_hex.false at e ∙ l.invariant) c.each_hex-2.ensures
    ]
