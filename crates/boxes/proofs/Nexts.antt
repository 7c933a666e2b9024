-- The first edge that has with a neighbour after it: the edges that follow one another, and the last and the first.
use Prim.Native.Nat.{ℕ, ◌+◌, ◌-◌, ◌≤◌, ◌<◌}
use native.Mathlib.Omega.{arith}
use native.Mathlib.Decide.{dec_lt}
use mathlib.Core.Path.{◌≡◌, ap, ◌∙◌}
use mathlib.Core.Bool.{true, false}
use Rattle.crossing.specs.Crossed.{forbidden, crossed_at}
use Rattle.crossing.specs.declared.Columns.{Columns}
use Rattle.crossing.specs.held.Between.{edge, edges, clashes_from}
use Rattle.boxes.specs.held.Around.{FirstNext, FirstNear}
use Rattle.crossing.proofs.laws.Pairs.{row_here, row-back_to, row_at, Clear, clear-found, clear-end}

module _ (cs : Columns) where
  -- an edge that has with a later one
  near-row : (r j : ℕ) → r < j → j < cs.m → forbidden cs.m (edge cs r) (edge cs j) ≡ true → clashes_from cs r (r + 1) ≡ true
  near-row r j a b e =
      let z : r + 1 + (j - (r + 1)) ≡ j = omega arith in
      row-back_to cs.us.now cs.vs.now cs.m (forbidden cs.m (edge cs r)) (r + 1) (j - (r + 1)) (omega arith)
      (ap (λ (n : ℕ). clashes_from cs r n) z ∙ row_here cs.us.now cs.vs.now cs.m (forbidden cs.m (edge cs r)) j b e)

  -- the first and the last have nothing in common that they may not
  abbrev Open : Type 0
  Open = 3 ≤ cs.m → forbidden cs.m (edge cs 0) (edge cs (cs.m - 1)) ≡ false

  pub near_next : {r : ℕ} → FirstNext cs r → Open → FirstNear cs r
  near_next {r} f o =
      record {
        within = f.within;
        none = λ i h. record { next = f.none i h; last = λ z. o };
        some = λ h. near-row r (r + 1) (omega arith) (f.some h).0 (f.some h).1;
      }

  pub near_last : 3 ≤ cs.m → forbidden cs.m (edge cs 0) (edge cs (cs.m - 1)) ≡ true → FirstNear cs 0
  near_last h e = record { within = omega arith; none = λ i l. absurd (omega arith); some = λ l. near-row 0 (cs.m - 1) (omega arith) (omega arith) e }

  -- where no edge before it meets a later one, it is the least that meets any
  pub clear-near : {r i : ℕ} → FirstNear cs r → Clear cs.us.now cs.vs.now cs.m i → i ≡ r → i ≡ crossed_at (edges cs)
  clear-near {r} {i} f c z = go (dec_lt i cs.m)
    where
      go : Dec (i < cs.m) → i ≡ crossed_at (edges cs)
      go (yes p) = clear-found cs.us.now cs.vs.now cs.m c (omega arith) p (ap (row_at cs.us.now cs.vs.now cs.m) z ∙ f.some (omega arith))
      go (no p) = let w = f.within in clear-end cs.us.now cs.vs.now cs.m c (omega arith) (omega arith)
