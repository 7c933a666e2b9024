-- Laws of lines: how a loop over a stream meets them one by one, and that lines written one after another are read back.
use Prim.Native.Nat.{ℕ, zero, suc, ◌+◌, ◌-◌, ◌≤◌, ◌<◌}
use native.Mathlib.Omega.{arith}
use Rattle.std.proofs.Math.Numerals.{add-one}
use Rattle.std.specs.Prelude.{◌≡◌, Bool, true, false, cond, ◌||◌, eqb, take, drop, get_or}
use Rattle.std.proofs.Math.Path.{refl}
use Rattle.std.proofs.Common.{ap, ◌∙◌, length-append, drop-drop}
use mathlib.Core.List.{List, [], ◌∷◌, ◌++◌}
use borrow.Author.Tests.{eq-eqb, ne_eqb, eqb-false}
use Rattle.std.proofs.Math.ListN.{length, length-drop, drop_of_length-le}
use Rattle.std.proofs.Math.Seq.{drop-cons}
use Rattle.whole.specs.All.{All, none, more}
use Rattle.whole.specs.laws.Bools.{or_left, or_right}
use Rattle.lines.specs.Lines.{on_first, put_byte, lines, ended, joined}
use Rattle.lines.specs.held.Offsets.{first_line, line_end_of, feeds}

-- ---- the first line of a stream

length-on_first : (b : ℕ) (ls : List (List ℕ)) → length (first_line (on_first b ls)) ≡ suc (length (first_line ls))
unfolding on_first first_line
length-on_first b [] = refl
length-on_first b (l ∷ ls) = refl

lines_feed : (s : List ℕ) (i : ℕ) → i < length s → get_or s i 0 ≡ 10 → lines (drop i s) ≡ [] ∷ lines (drop (suc i) s)
unfolding lines put_byte
lines_feed s i h e = rw (drop-cons s i 0, lines, eq-eqb (get_or s i 0) 10 e)

lines_byte : (s : List ℕ) (i : ℕ) → i < length s → (get_or s i 0 ≡ 10 → ⊥) → lines (drop i s) ≡ on_first (get_or s i 0) (lines (drop (suc i) s))
unfolding lines put_byte
lines_byte s i h n = rw (drop-cons s i 0, lines, ne_eqb (get_or s i 0) 10 n)

-- a stream that is not empty is its first line and the lines after it
module _ (b : ℕ) where
  on_first-cut : (t : List ℕ) → (0 < length t → lines t ≡ take (length (first_line (lines t))) t ∷ lines (drop (suc (length (first_line (lines t)))) t))
      → on_first b (lines t) ≡ take (length (first_line (on_first b (lines t)))) (b ∷ t) ∷ lines (drop (suc (length (first_line (on_first b (lines t))))) (b ∷ t))
  unfolding lines on_first first_line
  on_first-cut [] ih = refl
  on_first-cut (a ∷ t) ih = rw (length-on_first b (lines (a ∷ t))) (ap (on_first b) (ih (omega arith)))

first-cut : (s : List ℕ) → 0 < length s → lines s ≡ take (length (first_line (lines s))) s ∷ lines (drop (suc (length (first_line (lines s)))) s)
unfolding lines put_byte on_first first_line
first-cut [] h = absurd (omega arith)
first-cut (b ∷ s) h = go (eqb b 10) (first-cut s)
  where
    go : (c : Bool) → (0 < length s → lines s ≡ take (length (first_line (lines s))) s ∷ lines (drop (suc (length (first_line (lines s)))) s))
        → put_byte c b (lines s) ≡ take (length (first_line (put_byte c b (lines s)))) (b ∷ s) ∷ lines (drop (suc (length (first_line (put_byte c b (lines s))))) (b ∷ s))
    go true ih = refl
    go false ih = on_first-cut b s ih

first_short : (s : List ℕ) → length (first_line (lines s)) ≤ length s
unfolding lines put_byte first_line
first_short [] = omega arith
first_short (b ∷ s) = go (eqb b 10) (first_short s)
  where
    go : (c : Bool) → length (first_line (lines s)) ≤ length s → length (first_line (put_byte c b (lines s))) ≤ length (b ∷ s)
    go true h = omega arith
    go false h = omega (arith, length-on_first b (lines s))

-- ---- a line by its offsets, for a loop over the stream

cut_at : (s : List ℕ) (from n : ℕ) (ls : List (List ℕ)) → ls ≡ take n (drop from s) ∷ lines (drop (suc n) (drop from s))
    → ls ≡ take (from + n - from) (drop from s) ∷ lines (drop (from + n + 1) s)
cut_at s from n ls e =
    let a : from + n - from ≡ n = omega arith in
    let b : from + n + 1 ≡ from + suc n = omega arith in
    rw (a, b, ← drop-drop (suc n) from s) e

module _ (s : List ℕ) (from : ℕ) where
  pub end_above : from ≤ line_end_of s from
  unfolding line_end_of
  end_above = omega arith

  pub end_inside : from ≤ length s → line_end_of s from ≤ length s
  unfolding line_end_of
  end_inside h =
      let a : length (first_line (lines (drop from s))) ≤ length (drop from s) = first_short (drop from s) in
      let b : length (drop from s) ≡ length s - from = length-drop from s in
      omega arith

  -- the line that starts at an offset, and the lines after its line feed
  pub line-cut : from < length s → lines (drop from s) ≡ take (line_end_of s from - from) (drop from s) ∷ lines (drop (line_end_of s from + 1) s)
  unfolding line_end_of
  line-cut h =
      let d : length (drop from s) ≡ length s - from = length-drop from s in
      cut_at s from (length (first_line (lines (drop from s)))) (lines (drop from s)) (first-cut (drop from s) (omega arith))

  pub lines_done : length s ≤ from → lines (drop from s) ≡ []
  unfolding lines
  lines_done h = rw drop_of_length-le

  pub lines-some : from < length s → 0 < length (lines (drop from s))
  lines-some h = omega (arith, ap length (line-cut h))

-- ---- turns of the loop that looks for a line's end

module _ (s : List ℕ) (i : ℕ) where
  pub end_feed : i < length s → get_or s i 0 ≡ 10 → line_end_of s i ≡ i
  unfolding line_end_of first_line
  end_feed h e = rw (lines_feed s i h e) (omega arith)

  pub end_byte : i < length s → (get_or s i 0 ≡ 10 → ⊥) → line_end_of s (i + 1) ≡ line_end_of s i
  unfolding line_end_of
  end_byte h n =
      let a : length (first_line (on_first (get_or s i 0) (lines (drop (suc i) s)))) ≡ suc (length (first_line (lines (drop (suc i) s)))) = length-on_first (get_or s i 0) (lines (drop (suc i) s)) in
      rw (lines_byte s i h n, add-one, a) (omega arith)

  pub end_past : length s ≤ i → line_end_of s i ≡ i
  unfolding line_end_of first_line
  end_past h = rw (lines_done s i h) (omega arith)

-- a turn of the loop that looks for a line feed among some bytes
pub end_turn : (s : List ℕ) (at i : ℕ) (found : Bool) → at + i < length s → (found ≡ false → line_end_of s (at + i) ≡ line_end_of s at)
    → (found || eqb (get_or s (at + i) 0) 10) ≡ false → line_end_of s (at + (i + 1)) ≡ line_end_of s at
end_turn s at i found h g e =
    let a : at + (i + 1) ≡ at + i + 1 = omega arith in
    let n : get_or s (at + i) 0 ≡ 10 → ⊥ = eqb-false (get_or s (at + i) 0) 10 (or_right found (eqb (get_or s (at + i) 0) 10) e) in
    rw a (end_byte s (at + i) h n ∙ g (or_left found (eqb (get_or s (at + i) 0) 10) e))

-- ---- counting lines

module _ (s : List ℕ) (i : ℕ) where
  pub feeds_feed : i < length s → get_or s i 0 ≡ 10 → feeds (drop i s) ≡ feeds (drop (i + 1) s) + 1
  unfolding feeds
  feeds_feed h e = rw (add-one i, drop-cons s i 0, eq-eqb (get_or s i 0) 10 e) (omega arith)

  pub feeds_byte : i < length s → (get_or s i 0 ≡ 10 → ⊥) → feeds (drop i s) ≡ feeds (drop (i + 1) s)
  unfolding feeds
  feeds_byte h n = rw (add-one i, drop-cons s i 0, ne_eqb (get_or s i 0) 10 n) (omega arith)

  pub feeds_end : length s ≤ i → feeds (drop i s) ≡ 0
  unfolding feeds
  feeds_end h = rw drop_of_length-le

feed_few : (c : Bool) (m k : ℕ) → m ≤ k → cond c 1 0 + m ≤ suc k
feed_few true m k h = omega arith
feed_few false m k h = omega arith

pub feeds_few : (k : ℕ) (s : List ℕ) → feeds (take k s) ≤ k
unfolding feeds
feeds_few zero s = omega arith
feeds_few (suc k) [] = omega arith
feeds_few (suc k) (b ∷ s) = feed_few (eqb b 10) (feeds (take k s)) k (feeds_few k s)

length-many : (c : Bool) (b : ℕ) (ls : List (List ℕ)) → 0 < length ls → length (put_byte c b ls) ≡ cond c 1 0 + length ls
unfolding put_byte on_first
length-many true b ls h = omega arith
length-many false b [] h = absurd (omega arith)
length-many false b (l ∷ ls) h = omega arith

one_line : (c : Bool) (b : ℕ) → length (put_byte c b []) ≡ 1
unfolding put_byte on_first
one_line true b = refl
one_line false b = refl

-- up to its last byte, each line feed of a stream ends a line
feeds-lines : (k : ℕ) (s : List ℕ) → k < length s → length (lines s) ≡ feeds (take k s) + length (lines (drop k s))
unfolding feeds lines
feeds-lines zero s h = omega arith
feeds-lines (suc k) [] h = absurd (omega arith)
feeds-lines (suc k) (b ∷ s) h =
    let g : 0 < length s = omega arith in
    let ih : length (lines s) ≡ feeds (take k s) + length (lines (drop k s)) = feeds-lines k s (omega arith) in
    length-many (eqb b 10) b (lines s) (lines-some s 0 g) ∙ omega arith

pub count_none : (s : List ℕ) → length s ≡ 0 → length (lines s) ≡ 0
unfolding lines
count_none [] h = refl
count_none (b ∷ s) h = absurd (omega arith)

pub count-last : (s : List ℕ) (i : ℕ) → i + 1 ≡ length s → length (lines (drop i s)) ≡ 1
unfolding lines
count-last s i h =
    let a : i < length s = omega arith in
    let b : length s ≤ suc i = omega arith in
    rw (drop-cons s i 0, drop_of_length-le s b, lines) (one_line (eqb (get_or s i 0) 10) (get_or s i 0))

-- a part of the stream is counted: its line feeds, and the lines of what is left
pub count-part : (s : List ℕ) (from to : ℕ) → from ≤ to → to < length s
    → length (lines (drop from s)) ≡ feeds (take (to - from) (drop from s)) + length (lines (drop to s))
count-part s from to h g =
    let d : length (drop from s) ≡ length s - from = length-drop from s in
    let e : from + (to - from) ≡ to = omega arith in
    feeds-lines (to - from) (drop from s) (omega arith) ∙ rw (drop-drop (to - from) from s, e)

-- ---- lines written one after another are read back

-- no byte is a line feed
abbrev pub NoFeed : List ℕ → Type 0
NoFeed l = All (λ (b : ℕ). b ≡ 10 → ⊥) l

pub lines-ended : (l rest : List ℕ) → NoFeed l → lines (ended l ++ rest) ≡ l ∷ lines rest
unfolding lines put_byte ended on_first
lines-ended [] rest none = refl
lines-ended (b ∷ l) rest (more n h) =
    let ih : lines (ended l ++ rest) ≡ l ∷ lines rest = lines-ended l rest h in
    rw (ne_eqb b 10 n, ih)

pub lines-joined : (ls : List (List ℕ)) → All NoFeed ls → lines (joined ls) ≡ ls
unfolding lines joined
lines-joined [] none = refl
lines-joined (l ∷ ls) (more h hs) = lines-ended l (joined ls) h ∙ ap (λ (k : List (List ℕ)). l ∷ k) (lines-joined ls hs)

-- the lines of a stream hold no line feed
first_no_feed : (b : ℕ) (ls : List (List ℕ)) → (b ≡ 10 → ⊥) → All NoFeed ls → All NoFeed (on_first b ls)
unfolding on_first
first_no_feed b [] n none = more (more n none) none
first_no_feed b (l ∷ ls) n (more h hs) = more (more n h) hs

pub lines_no_feed : (s : List ℕ) → All NoFeed (lines s)
unfolding lines put_byte
lines_no_feed [] = none
lines_no_feed (b ∷ s) = go (eqb b 10) refl (lines_no_feed s)
  where
    go : (c : Bool) → eqb b 10 ≡ c → All NoFeed (lines s) → All NoFeed (put_byte c b (lines s))
    go true e h = more none h
    go false e h = first_no_feed b (lines s) (eqb-false b 10 e) h

-- written one after another they take at most one byte more: the last line feed, if the stream has none
pub length-ended : (l : List ℕ) → length (ended l) ≡ suc (length l)
unfolding ended
length-ended l = length-append l (10 ∷ []) ∙ add-one (length l)

pub length-joined : (l : List ℕ) (ls : List (List ℕ)) → length (joined (l ∷ ls)) ≡ suc (length l) + length (joined ls)
unfolding joined
length-joined l ls = length-append (ended l) (joined ls) ∙ ap (λ (n : ℕ). n + length (joined ls)) (length-ended l)

pub joined-short : (s : List ℕ) → length (joined (lines s)) ≤ length s + 1
unfolding lines put_byte on_first joined ended
joined-short [] = omega arith
joined-short (b ∷ s) = go (eqb b 10) (lines s) (joined-short s)
  where
    go : (c : Bool) (ls : List (List ℕ)) → length (joined ls) ≤ length s + 1 → length (joined (put_byte c b ls)) ≤ length (b ∷ s) + 1
    go true ls h = omega (arith, length-joined [] ls)
    go false [] h = omega arith
    go false (l ∷ ls) h = omega (arith, length-joined (b ∷ l) ls, length-joined l ls)

-- ---- for a loop over the stream

-- what the end of the line that starts at an offset tells
pub record Cut (s : List ℕ) (from e : ℕ) : Type 0 where
  pub above : from ≤ e
  pub inside : e ≤ length s
  pub first : lines (drop from s) ≡ take (e - from) (drop from s) ∷ lines (drop (e + 1) s)

pub cut_of : (s : List ℕ) (from e : ℕ) → e ≡ line_end_of s from → from < length s → Cut s from e
cut_of s from e p h =
    let a : from ≤ length s = omega arith in
    rw p (record { above = end_above s from; inside = end_inside s from a; first = line-cut s from h })
