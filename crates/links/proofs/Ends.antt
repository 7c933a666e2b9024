-- The two corners of a word: where its step starts and where it ends, each at one end of the word's edge.
use Prim.Native.Nat.{ℕ, zero, suc, ◌+◌, ◌-◌, ◌<◌}
use native.Mathlib.Decide.{ℕ_discrete}
use native.Mathlib.Omega.{arith}
use mathlib.Core.Path.{◌≡◌, refl, sym, ap, subst, ◌∙◌}
use mathlib.Core.Logic.{◌⊎◌, inl, inr, by_cases}
use Rattle.words.specs.held.Words.{step_of, next_of, dir_of, node_of}
use Rattle.words.specs.laws.Nodes.{pick_then, pick_else}

-- the ends are 1, the smaller, and 2
abbrev pub End : ℕ → Type 0
End h = (h ≡ 1) ⊎ (h ≡ 2)

-- the end at which a word's step starts, and the other one
abbrev pub out_end : ℕ → ℕ
out_end v = 1 + dir_of v

abbrev pub inn_end : ℕ → ℕ
inn_end v = 3 - (1 + dir_of v)

-- the step of a word of direction d starts at one end of its edge, and ends at the other
starts_at : (d v : ℕ) → d ≡ dir_of v → d < 2 → (step_of v ≡ node_of (1 + d) v) × (next_of v ≡ node_of (3 - (1 + d)) v)
starts_at zero v e h = (pick_then (dir_of v) (step_of v) (next_of v) (sym e), pick_then (dir_of v) (next_of v) (step_of v) (sym e))
starts_at (suc zero) v e h = (pick_else (dir_of v) (next_of v) (step_of v) (λ z. omega arith), pick_else (dir_of v) (step_of v) (next_of v) (λ z. omega arith))
starts_at (suc (suc d)) v e h = absurd (omega arith)

dir_small : (v : ℕ) → dir_of v < 2
dir_small v = omega arith

pub step-node : (v : ℕ) → step_of v ≡ node_of (out_end v) v
step-node v = (starts_at (dir_of v) v refl (dir_small v)).0

pub next-node : (v : ℕ) → next_of v ≡ node_of (inn_end v) v
next-node v = (starts_at (dir_of v) v refl (dir_small v)).1

pub out_end_lem : (v : ℕ) → End (out_end v)
out_end_lem v = by_cases (ℕ_discrete (dir_of v) 0) (λ e. inl (omega arith)) (λ n. inr (omega (arith, dir_small v)))

pub inn_end_lem : (v : ℕ) → End (inn_end v)
inn_end_lem v = by_cases (ℕ_discrete (dir_of v) 0) (λ e. inr (omega arith)) (λ n. inl (omega (arith, dir_small v)))

pub side : (h v : ℕ) → End h → (h ≡ out_end v) ⊎ (h ≡ inn_end v)
side h v (inl a) = by_cases (ℕ_discrete (dir_of v) 0) (λ e. inl (omega arith)) (λ n. inr (omega (arith, dir_small v)))
side h v (inr a) = by_cases (ℕ_discrete (dir_of v) 0) (λ e. inr (omega arith)) (λ n. inl (omega (arith, dir_small v)))

-- the corner at an end is where the step starts, or where it ends
pub node_either : (h v : ℕ) → End h → (step_of v ≡ node_of h v) ⊎ (next_of v ≡ node_of h v)
node_either h v z = go (side h v z)
  where
    go : (h ≡ out_end v) ⊎ (h ≡ inn_end v) → (step_of v ≡ node_of h v) ⊎ (next_of v ≡ node_of h v)
    go (inl e) = inl (step-node v ∙ ap (λ (k : ℕ). node_of k v) (sym e))
    go (inr e) = inr (next-node v ∙ ap (λ (k : ℕ). node_of k v) (sym e))

-- a corner is an entry's number
pub node_small : (h v : ℕ) → End h → node_of h v < 1024
node_small h v z = go (node_either h v z)
  where
    step_small : (w : ℕ) → step_of w < 1024
    step_small w = omega arith

    next_small : (w : ℕ) → next_of w < 1024
    next_small w = omega arith

    go : (step_of v ≡ node_of h v) ⊎ (next_of v ≡ node_of h v) → node_of h v < 1024
    go (inl e) = subst (λ (k : ℕ). k < 1024) e (step_small v)
    go (inr e) = subst (λ (k : ℕ). k < 1024) e (next_small v)
