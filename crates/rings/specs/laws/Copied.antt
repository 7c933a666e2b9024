-- The loop that copies a ring into the entries: what is copied, with what is still to copy, gives the whole.
use Rattle.std.specs.Prelude.{ℕ, suc, ◌+◌, ◌<◌, ◌≡◌, List, ◌∷◌, length, drop, get_or, set}
use Rattle.std.proofs.Common.{arith, sym, ap, ◌∙◌, length-set}
use Rattle.std.proofs.lemmas.List.Edits.{sets}
use Rattle.whole.specs.laws.Search.{drop-next, drop_end}

pub record Copied (ring entries₀ : List ℕ) (from i : ℕ) (entries : List ℕ) : Type 0 where
  pub size : length entries ≡ 1024
  pub rest : sets entries (from + i) (drop i ring) ≡ sets entries₀ from ring

pub copied_none : (ring entries : List ℕ) (from : ℕ) → length entries ≡ 1024 → Copied ring entries from 0 entries
copied_none ring entries from h = let z : from + 0 ≡ from = omega arith in record { size = h; rest = ap (λ (k : ℕ). sets entries k ring) z }

pub copied_more : {ring entries₀ entries : List ℕ} {from i : ℕ} → Copied ring entries₀ from i entries → i < length ring → (x : ℕ) → x ≡ get_or ring i 0 → Copied ring entries₀ from (i + 1) (set entries (from + i) x)
copied_more {ring} {entries₀} {entries} {from} {i} c h x e =
    let k : from + (i + 1) ≡ suc (from + i) = omega arith in
    record {
      size = length-set entries (from + i) x ∙ c.size;
      rest =
          ap (λ (n : ℕ). sets (set entries (from + i) x) n (drop (i + 1) ring)) k
          ∙ ap (λ (y : ℕ). sets entries (from + i) (y ∷ drop (i + 1) ring)) e
          ∙ ap (sets entries (from + i)) (sym (drop-next ring i 0 h))
          ∙ c.rest;
    }

pub copied_all : {ring entries₀ entries : List ℕ} {from i : ℕ} → Copied ring entries₀ from i entries → i ≡ length ring → entries ≡ sets entries₀ from ring
copied_all {ring} {entries₀} {entries} {from} {i} c e = sym (ap (sets entries (from + i)) (drop_end ring i e)) ∙ c.rest
