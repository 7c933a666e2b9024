-- Rows in which neighbours do not clash.
use Prim.Native.Nat.{ℕ, ◌+◌, ◌-◌, ◌≤◌, ◌<◌}
use native.Mathlib.Omega.{arith}
use native.Mathlib.Decide.{dec_lt}
use mathlib.Core.Path.{◌≡◌, sym, ap, ap₂, ◌∙◌}
use mathlib.Core.Bool.{Bool, false}
use mathlib.Core.Logic.{◌⊎◌, inl, inr}
use Rattle.crossing.specs.Crossed.{forbidden}
use Rattle.crossing.specs.declared.Columns.{Columns}
use Rattle.crossing.specs.held.Between.{edge, clashes_from}
use Rattle.boxes.specs.held.Around.{Free}
use Rattle.crossing.proofs.laws.Pairs.{row_next, row-end}

module _ {cs : Columns} {i : ℕ} (f : Free cs i) where
  abbrev rest_of : ℕ → Bool
  rest_of n = clashes_from cs i n

  pub row_past : i + 1 < cs.m → clashes_from cs i (i + 2) ≡ clashes_from cs i (i + 1)
  row_past h =
      let z : i + 2 ≡ i + 1 + 1 = omega arith in
      ap rest_of z ∙ row_next cs.us.now cs.vs.now cs.m (forbidden cs.m (edge cs i)) (i + 1) h (f.next h)

  -- past the end stands at most the last edge
  pub row-left : (e : ℕ) → 2 ≤ e → (e ≡ cs.m) ⊎ ((i ≡ 0) × (e + 1 ≡ cs.m)) → clashes_from cs i e ≡ false
  row-left e h (inl z) = row-end cs.us.now cs.vs.now cs.m (forbidden cs.m (edge cs i)) e z
  row-left e h (inr (z, y)) =
      let l : e ≡ cs.m - 1 = omega arith in
      sym (row_next cs.us.now cs.vs.now cs.m (forbidden cs.m (edge cs i)) e (omega arith)
      (ap₂ (λ (a b : ℕ). forbidden cs.m (edge cs a) (edge cs b)) z l ∙ f.last z (omega arith)))
      ∙ row-end cs.us.now cs.vs.now cs.m (forbidden cs.m (edge cs i)) (e + 1) y

  pub row-short : i < cs.m → cs.m < i + 3 → clashes_from cs i (i + 1) ≡ false
  row-short h l = go (dec_lt (i + 1) cs.m)
    where
      go : Dec (i + 1 < cs.m) → rest_of (i + 1) ≡ false
      go (yes p) = sym (row_past p) ∙ row-end cs.us.now cs.vs.now cs.m (forbidden cs.m (edge cs i)) (i + 2) (omega arith)
      go (no p) = row-end cs.us.now cs.vs.now cs.m (forbidden cs.m (edge cs i)) (i + 1) (omega arith)
