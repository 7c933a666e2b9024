-- The polygons checked one by one, and arrays set to 0.
use Rattle.std.specs.Prelude.{ℕ, ◌+◌, ◌≡◌, List, ltb, length, get_or, set, replicate, ℤ, pos}
use Rattle.std.proofs.Common.{arith, sym, ap, ◌∙◌, ltb-true, ltb-false, ext_get_or}
use Rattle.std.proofs.Math.Path.{refl}
use Rattle.std.proofs.Math.ListN.{get_or-eq_default}
use Rattle.std.proofs.lemmas.List.{length-replicate}
use Rattle.whole.specs.laws.Places.{all_alike}
use Rattle.whole.specs.laws.Stores.{cases, length-upto, upto_more, upto_done, upto_rest}
use Rattle.whole.specs.held.Stored.{upto, zeroed}
use Rattle.renew.specs.held.Renewed.{kept_at, part_at, Refreshed}
use Rattle.checks.specs.held.Steps.{Checked}

-- ---- all 256 are 0
module _ (l : List ℕ) where
  pub zeroed-all : length l ≡ 256 → (p : ℕ) → get_or (zeroed l 256) p 0 ≡ 0
  zeroed-all h p =
      cases (ltb p 256)
      (λ t. upto_done (λ p old. 0) 0 l 256 p (ltb-true p 256 t) (omega arith))
      (λ t. upto_rest (λ p old. 0) 0 l 256 p (ltb-false p 256 t) ∙ get_or-eq_default l 0 (omega (arith, ltb-false p 256 t)))

  -- so they stand after a fill
  pub zeroed-fill : length l ≡ 256 → replicate (length l) 0 ≡ zeroed l 256
  zeroed-fill h =
      ext_get_or 0 (replicate (length l) 0) (zeroed l 256) (length-replicate (length l) 0 ∙ sym (length-upto (λ p old. 0) 0 l 256))
      (λ p g. all_alike 0 (length l) p ∙ sym (zeroed-all h p))

-- ---- the first m are checked
module _ (tolerance : ℕ) (points : List ℤ) (entries starts firsts : List ℕ) where
  module _ {findings : List ℕ} {parts : List ℤ} where
    pub checked-none : Checked tolerance points entries starts firsts 0 findings parts findings parts
    unfolding upto
    checked-none = record { found = refl; summed = refl }

    module _ {m : ℕ} {findings' : List ℕ} {parts' : List ℤ} (ch : Checked tolerance points entries starts firsts m findings parts findings' parts') where
      pub checked-findings : length findings' ≡ length findings
      checked-findings = ap length ch.found ∙ length-upto (λ p _. kept_at tolerance points entries starts firsts p) 0 findings m

      pub checked-parts : length parts' ≡ length parts
      checked-parts = ap length ch.summed ∙ length-upto (λ p _. part_at points entries starts firsts p) (pos 0) parts m

      pub checked-more : {findings'' : List ℕ} {parts'' : List ℤ} → Refreshed tolerance points entries starts firsts m findings' parts' findings'' parts'' → Checked tolerance points entries starts firsts (m + 1) findings parts findings'' parts''
      checked-more r =
          record {
            found = r.found ∙ ap (λ (l : List ℕ). set l m (kept_at tolerance points entries starts firsts m)) ch.found ∙ upto_more (λ p _. kept_at tolerance points entries starts firsts p) 0 findings m;
            summed = r.summed ∙ ap (λ (l : List ℤ). set l m (part_at points entries starts firsts m)) ch.summed ∙ upto_more (λ p _. part_at points entries starts firsts p) (pos 0) parts m;
          }
