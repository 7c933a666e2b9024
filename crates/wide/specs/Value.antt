-- Two machine words as one exact number.
use Rattle.std.specs.Prelude.{ℕ, ◌+◌, ◌*◌, ◌^◌}
use Rattle.wide.specs.declared.Wide.{Wide}

-- the number that the two words are: the high one counts 2^64 each
abbrev pub value : Wide → ℕ
value w = w.high * 2 ^ 64 + w.low
