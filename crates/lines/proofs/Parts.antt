-- The line feeds of parts of a stream.
use Rattle.std.proofs.Common.{◌≡◌, ℕ, zero, suc, ◌+◌, ◌-◌, ◌<◌, ◌≤◌, Bool, true, false, cond, List, [], ◌∷◌, ◌++◌, length, take, drop, get_or, refl, ap, ◌∙◌, arith, drop-cons, take_all}
use Rattle.std.specs.Prelude.{eqb}
use Rattle.std.proofs.lemmas.Bool.{eqb-false}
use Rattle.lines.specs.Lines.{lines}
use Rattle.lines.specs.held.Offsets.{line_end_of, feeds}
use Rattle.lines.specs.laws.LineLaws.{end_byte, feeds_few, count-last, count-part}

pub feeds_append : (s t : List ℕ) → feeds (s ++ t) ≡ feeds s + feeds t
unfolding feeds
feeds_append [] t = omega arith
feeds_append (b ∷ s) t = omega (arith, feeds_append s t)

pub feeds-length : (s : List ℕ) → feeds s ≤ length s
feeds-length s = let e = take_all (length s) s (omega arith) in rw e at (feeds_few (length s) s)

-- a line goes on past bytes that are no line feeds
no_feed : (b n : ℕ) → cond (eqb b 10) 1 0 + n ≡ 0 → (b ≡ 10 → ⊥) × (n ≡ 0)
no_feed b n h = go (eqb b 10) refl h
  where
    go : (c : Bool) → eqb b 10 ≡ c → cond c 1 0 + n ≡ 0 → (b ≡ 10 → ⊥) × (n ≡ 0)
    go true e h = absurd (omega arith)
    go false e h = (eqb-false b 10 e, omega arith)

pub end_part : (k : ℕ) (s : List ℕ) (i : ℕ) → i + k ≤ length s → feeds (take k (drop i s)) ≡ 0 → line_end_of s (i + k) ≡ line_end_of s i
unfolding feeds
end_part zero s i h e = let z : i + 0 ≡ i = omega arith in ap (line_end_of s) z
end_part (suc k) s i h e =
    let g : i < length s = omega arith in
    let n = no_feed (get_or s i 0) (feeds (take k (drop (suc i) s))) (rw (drop-cons s i 0) at e) in
    let a : i + suc k ≡ i + 1 + k = omega arith in
    let p : suc i ≡ i + 1 = omega arith in
    ap (line_end_of s) a ∙ end_part k s (i + 1) (omega arith) (rw p at n.1) ∙ end_byte s i (omega arith) n.0

-- the lines of a stream by the line feeds before its last byte
pub lines_by_feeds : (s : List ℕ) → 0 < length s → length (lines s) ≡ feeds (take (length s - 1) s) + 1
lines_by_feeds s h =
    let z : length s - 1 - 0 ≡ length s - 1 = omega arith in
    let e : length (lines s) ≡ feeds (take (length s - 1) s) + length (lines (drop (length s - 1) s)) = rw z at (count-part s 0 (length s - 1) (omega arith) (omega arith)) in
    omega (arith, e, count-last s (length s - 1) (omega arith))
