-- Frames written as bytes: no line feed stands in a frame or an answer, so a stream of them splits into them again.
use Rattle.std.specs.Prelude.{ℕ, ◌≡◌, true, List, [], ◌∷◌, map}
use Rattle.std.proofs.Common.{sym, ap, ◌∙◌, true≢false}
use Rattle.whole.specs.All.{All, none, more}
use Rattle.hexadecimal.specs.Hex.{is_hex_of, all_hex_of}
use Rattle.lines.specs.Lines.{lines, joined}
use Rattle.frame.specs.Frame.{Frame}
use Rattle.frame.specs.Encode.{encode}
use Rattle.whole.specs.laws.Bools.{and_left, and_right}
use Rattle.frame.specs.laws.RoundTrip.{all_hex-encode}
use Rattle.hexadecimal.specs.laws.Digits.{all_hex_cons}
use Rattle.lines.specs.laws.LineLaws.{NoFeed, lines-joined}

-- a line feed is no digit
pub hex_no_feed : (l : List ℕ) → all_hex_of l ≡ true → NoFeed l
unfolding is_hex_of
hex_no_feed [] h = none
hex_no_feed (b ∷ l) h =
    let g = sym (all_hex_cons b l) ∙ h in
    more (λ e. feed (sym (ap is_hex_of e) ∙ and_left (is_hex_of b) (all_hex_of l) g)) (hex_no_feed l (and_right (is_hex_of b) (all_hex_of l) g))
  where
    feed : is_hex_of 10 ≡ true → ⊥
    feed d = true≢false (sym d)

pub encode_no_feed : (f : Frame) → NoFeed (encode f)
encode_no_feed f = hex_no_feed (encode f) (all_hex-encode f)

all_no_feed : (fs : List Frame) → All NoFeed (map encode fs)
all_no_feed [] = none
all_no_feed (f ∷ fs) = more (encode_no_feed f) (all_no_feed fs)

-- the bytes of some frames split into the line of each
pub lines_encoded : (fs : List Frame) → lines (joined (map encode fs)) ≡ map encode fs
lines_encoded fs = lines-joined (map encode fs) (all_no_feed fs)
