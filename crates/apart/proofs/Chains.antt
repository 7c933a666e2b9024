-- Lists of the places of each polygon's words: what one word adds.
use Prim.Native.Nat.{ℕ, ◌<◌}
use native.Mathlib.Nat.{le_refl, not-suc-le-zero}
use native.Mathlib.Omega.{arith}
use mathlib.Core.Path.{◌≡◌, sym, subst}
use mathlib.Core.List.{List}
use lib.ListN.{length, get_or, replicate, length-replicate, get_or-replicate}
use Rattle.apart.specs.held.Reaching.{Last, Listed}

lists-none : (l head chain : List ℕ) → length head ≡ 256 → ((p : ℕ) → p < 256 → get_or head p 0 ≡ 0) → length chain ≡ 1024 → Listed l head chain 0
lists-none l head chain a z b = record {
  size = a;
  room = b;
  heads = λ p h. subst (λ (j : ℕ). Last l p 0 j) (sym (z p h)) (record { within = le_refl 0; own = λ c e. absurd (omega arith); none = λ k _ lt. absurd (not-suc-le-zero lt) });
  nexts = λ k h. absurd (not-suc-le-zero h);
}

pub lists-blank : (l : List ℕ) → Listed l (replicate 256 0) (replicate 1024 0) 0
lists-blank l = lists-none l (replicate 256 0) (replicate 1024 0) (length-replicate {A = ℕ} 256 0) (λ p h. get_or-replicate {A = ℕ} 256 p 0 0 h) (length-replicate {A = ℕ} 1024 0)
