-- A ring that passes checks 01, 02 and 03 is one whose words the shell's checks take.
use Rattle.std.specs.Prelude.{ℕ, ◌≡◌, false, List, [], ◌∷◌, eqb}
use Rattle.std.proofs.Common.{true≢false}
use Rattle.std.proofs.lemmas.Bool.{not-false}
use Rattle.whole.specs.Lists.{last_of}
use Rattle.polygon.specs.Ring.{is_short}
use Rattle.ring.specs.Entries.{is_unclosed, is_repeated}
use Rattle.shell.specs.held.Kept.{Sound}
use Rattle.shell.specs.laws.SoundLaws.{sound_ring}

pub sound_of : (ring : List ℕ) → is_short ring ≡ false → is_unclosed ring ≡ false → is_repeated ring ≡ false → Sound ring
unfolding is_short is_unclosed is_repeated
sound_of [] s u r = absurd (true≢false s)
sound_of (a ∷ l) s u r = sound_ring a l s (not-false (eqb a (last_of a l)) u) r
