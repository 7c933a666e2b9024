-- The runs of words of one edge, as `chunk_by` cuts them.
use Prim.Native.Nat.{ℕ, zero, suc, ◌+◌, ◌-◌, ◌≤◌, ◌<◌}
use native.Mathlib.Omega.{arith}
use mathlib.Core.Path.{◌≡◌, refl, sym, ap, ◌∙◌}
use mathlib.Core.Bool.{Bool}
use mathlib.Core.List.{List, ◌++◌, map}
use borrow.Author.Tests.{eqb-true, eqb-false}
use lib.Dec.{eqb}
use lib.ListN.{length, get_or, drop, length-drop, length-append, length-map}
use lib.Seq.{get_or-drop, drop-drop, drop_at}
use Rattle.std.specs.List.{IsChunkByPrefix}
use Rattle.words.specs.held.Words.{key_from}
use Rattle.shell.specs.held.Runs.{RunEnd}
use Rattle.shell.specs.laws.Keys.{key_at}

-- whether two words are of one edge
abbrev pub one_edge : ℕ → ℕ → Bool
one_edge v w = eqb (key_from v) (key_from w)

module _ (l rest run more : List ℕ) (i : ℕ) (at-i : rest ≡ drop i l) (cut : rest ≡ run ++ more) (some : 0 < length run) where
  long : length run + length more ≡ length l - i
  long = omega (arith, ap length cut, ap length at-i, length-append run more, length-drop i l)

  pub cut_inside : i < length l
  cut_inside = omega (arith, long)

  pub cut_within : i + length run ≤ length l
  cut_within = omega (arith, long)

  pub cut_rest : more ≡ drop (i + length run) l
  cut_rest = sym (drop_at run more (length run) refl) ∙ ap (drop (length run)) (sym cut ∙ at-i) ∙ drop-drop (length run) i l

  keys : (k : ℕ) → key_from (get_or rest k 0) ≡ get_or (map key_from l) (i + k) 0
  keys k = ap (λ (z : List ℕ). key_from (get_or z k 0)) at-i ∙ ap key_from (get_or-drop i l k 0) ∙ sym (key_at l (i + k))

  pub cut_run : IsChunkByPrefix one_edge rest (length run) → RunEnd (map key_from l) i (i + length run)
  cut_run p = record {
    above = omega arith;
    within = rw length-map cut_within;
    same = λ k a b. same (k - i) k (omega arith) (omega arith);
    stop = λ h e. stop h (last ∙ sym e);
  }
    where
      step : (m : ℕ) → m < length run → get_or (map key_from l) (i + m) 0 ≡ get_or (map key_from l) (i + 0) 0
      step zero h = refl
      step (suc m) h =
          let same : key_from (get_or rest m 0) ≡ key_from (get_or rest (m + 1) 0) = eqb-true _ _ (p.0 m 0 (omega arith)) in
          ap (λ (x : ℕ). get_or (map key_from l) x 0) (omega arith) ∙ sym (keys (m + 1)) ∙ sym same ∙ keys m ∙ step m (omega arith)

      same : (m k : ℕ) → i + m ≡ k → m < length run → get_or (map key_from l) k 0 ≡ get_or (map key_from l) i 0
      same m k z h = ap (λ (x : ℕ). get_or (map key_from l) x 0) (sym z) ∙ step m h ∙ ap (λ (x : ℕ). get_or (map key_from l) x 0) (omega arith)

      last : get_or (map key_from l) (i + (length run - 1)) 0 ≡ get_or (map key_from l) i 0
      last = same (length run - 1) (i + (length run - 1)) refl (omega arith)

      stop : i + length run < length (map key_from l) → get_or (map key_from l) (i + (length run - 1)) 0 ≡ get_or (map key_from l) (i + length run) 0 → ⊥
      stop h e =
          let inside : i + length run < length l = rw length-map at h in
          let beyond : length run < length rest = omega (arith, long, ap length cut, length-append run more) in
          eqb-false _ _ (p.1 beyond 0) (keys (length run - 1) ∙ e ∙ sym (keys (length run)))
