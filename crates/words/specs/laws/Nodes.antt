-- The nodes of a word.
use Rattle.std.specs.Prelude.{ℕ, zero, suc, ◌≡◌, refl}
use Rattle.std.proofs.Common.{arith}
use Rattle.words.specs.held.Words.{poly_from}
use Rattle.words.specs.held.Words.{pick, low_of, high_of, node_of}

pub pick_else : (d a b : ℕ) → (d ≡ 0 → ⊥) → b ≡ pick d a b
pick_else zero a b h = absurd (h refl)
pick_else (suc d) a b h = refl

pub pick_then : (d a b : ℕ) → d ≡ 0 → a ≡ pick d a b
pick_then zero a b h = refl
pick_then (suc d) a b h = omega arith

pub node_poly : (n w : ℕ) → n ≡ 0 → poly_from w ≡ node_of n w
node_poly zero w h = refl
node_poly (suc n) w h = omega arith

pub node-low : (n w x : ℕ) → n ≡ 1 → x ≡ low_of w → x ≡ node_of n w
node-low zero w x h e = omega arith
node-low (suc zero) w x h e = e
node-low (suc (suc n)) w x h e = omega arith

pub node-high : (n w x : ℕ) → (n ≡ 0 → ⊥) → (n ≡ 1 → ⊥) → x ≡ high_of w → x ≡ node_of n w
node-high zero w x g h e = absurd (g refl)
node-high (suc zero) w x g h e = absurd (h refl)
node-high (suc (suc n)) w x g h e = e
