-- The corners of words that stand in pairs: those at one end of an edge are joined both ways, and each is where a step starts.
use Prim.Native.Nat.{ℕ, ◌+◌, ◌%◌, ◌<◌}
use native.Mathlib.Omega.{arith}
use mathlib.Core.Path.{◌≡◌, refl, subst, ◌∙◌}
use mathlib.Core.Logic.{◌⊎◌, inl, inr, ⊎_elim}
use mathlib.Core.List.{List}
use lib.ListN.{length, get_or}
use Rattle.words.specs.held.Words.{step_of, next_of, node_of}
use Rattle.reach.specs.Reach.{Reach, start, step}
use Rattle.reach.specs.held.Marking.{Joined, Marked}
use Rattle.links.specs.held.Linking.{Joins, Cornered}
use Rattle.links.proofs.Ends.{End, node_either}

module _ (l : List ℕ) where
  pub joins_at : (h p q : ℕ) → End h → Joined l (node_of h) p q → Joins 1 2 l p q
  joins_at h p q (inl e) j = inl (subst (λ (x : ℕ). Joined l (node_of x) p q) e j)
  joins_at h p q (inr e) j = inr (subst (λ (x : ℕ). Joined l (node_of x) p q) e j)

  joined_even : (h p q : ℕ) → Joined l (node_of h) p q → Joined l (node_of h) q p
  joined_even h p q j = record { at = j.at; even = j.even; within = j.within; ends = ⊎_elim (λ w. inr (w.1, w.0)) (λ w. inl (w.1, w.0)) j.ends }

  pub joins_even : (p q : ℕ) → Joins 1 2 l p q → Joins 1 2 l q p
  joins_even p q (inl j) = inl (joined_even 1 p q j)
  joins_even p q (inr j) = inr (joined_even 2 p q j)

  pub pair_joins : (h i : ℕ) → End h → i % 2 ≡ 0 → i + 1 < length l → Joins 1 2 l (node_of h (get_or l i 0)) (node_of h (get_or l (i + 1) 0))
  pair_joins h i z e lt = joins_at h (node_of h (get_or l i 0)) (node_of h (get_or l (i + 1) 0)) z (record { at = i; even = e; within = lt; ends = inl (refl, refl) })

  -- a step starts at e
  abbrev pub Starts : ℕ → Type 0
  Starts e = (i : ℕ) × (i < length l) × (step_of (get_or l i 0) ≡ e)

  pub starts_small : (e : ℕ) → Starts e → e < 1024
  starts_small e s = subst (λ (k : ℕ). k < 1024) s.2 (small (get_or l s.0 0))
    where
      small : (w : ℕ) → step_of w < 1024
      small w = omega arith

  module _ (es : List ℕ) (c : Cornered es l) where
    -- a step ends where one starts
    pub node-starts : (h i : ℕ) → End h → i < length l → Starts (node_of h (get_or l i 0))
    node-starts h i z lt = ⊎_elim (λ (e : step_of (get_or l i 0) ≡ node_of h (get_or l i 0)). (i, lt, e)) (λ (e : next_of (get_or l i 0) ≡ node_of h (get_or l i 0)). let r = c.rounds i lt in (r.0, r.1, r.2 ∙ e)) (node_either h (get_or l i 0) z)

    joined-starts : (h p q : ℕ) → End h → Joined l (node_of h) p q → Starts q
    joined-starts h p q z j = go j.ends
      where
        go : ((node_of h (get_or l j.at 0) ≡ p) × (node_of h (get_or l (j.at + 1) 0) ≡ q)) ⊎ ((node_of h (get_or l (j.at + 1) 0) ≡ p) × (node_of h (get_or l j.at 0) ≡ q)) → Starts q
        go (inl w) = subst Starts w.1 (node-starts h (j.at + 1) z j.within)
        go (inr w) = subst Starts w.1 (node-starts h j.at z (omega (arith, j.within)))

    pub joins-starts : (p q : ℕ) → Joins 1 2 l p q → Starts q
    joins-starts p q (inl j) = joined-starts 1 p q (inl refl) j
    joins-starts p q (inr j) = joined-starts 2 p q (inr refl) j

    -- what the first corners reach
    pub reach-starts : (m : List ℕ) → ((e : ℕ) → Marked m e → Starts e) → {p : ℕ} → Reach (Marked m) (Joins 1 2 l) p → Starts p
    reach-starts m f (start {p = p} h) = f p h
    reach-starts m f (step {p = p} {q = q} r j) = joins-starts p q j
