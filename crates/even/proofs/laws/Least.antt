-- Check 06 by its position: it fails exactly where an entry is told, and that is the least that fails.
use Rattle.std.specs.Prelude.{ℕ, ◌<◌, ◌≡◌, refl, List, [], ◌∷◌, ltb, length, get_or}
use Rattle.std.proofs.Common.{arith, sym, ◌∙◌}
use Rattle.std.proofs.Math.Path.{ap, subst}
use Rattle.std.proofs.lemmas.List.{length-map}
use Rattle.whole.specs.Least.{LeastBelow}
use Rattle.whole.specs.laws.Index.{any_index, HoldsAt, index_least}
use Rattle.whole.specs.laws.Least.{below_as}
use Rattle.whole.specs.laws.Places.{map_at}
use Rattle.space.specs.Space.{Point, origin, relative_to}
use Rattle.normal.specs.Normal.{relative}
use Rattle.even.specs.Even.{is_uneven, uneven_at}
use Rattle.even.specs.Position.{Off}
use Rattle.even.proofs.laws.Distance.{far}

-- ---- the places, relative to the first
pub relative-length : (ps : List Point) → length (relative ps) ≡ length ps
unfolding relative
relative-length [] = refl
relative-length (a ∷ l) = length-map (a ∷ l) (relative_to a)

pub relative-at : (ps : List Point) (i : ℕ) → i < length ps → get_or (relative ps) i origin ≡ relative_to (get_or ps 0 origin) (get_or ps i origin)
unfolding relative
relative-at [] i h = absurd (omega arith)
relative-at (a ∷ l) i h = map_at (relative_to a) (a ∷ l) i origin origin h

module _ (tolerance : ℕ) (n : Point) (ps : List Point) where
  -- some entry fails exactly where one is told
  pub uneven_is : is_uneven tolerance n ps ≡ ltb (uneven_at tolerance n ps) (length ps)
  unfolding is_uneven uneven_at
  uneven_is = any_index (far tolerance n) (relative ps) ∙ ap (ltb (uneven_at tolerance n ps)) (relative-length ps)

  abbrev Told : ℕ → Type 0
  Told = HoldsAt (far tolerance n) origin (relative ps)

  off : (i : ℕ) → Told i → Off tolerance n ps i
  off i p =
      let h : i < length ps = omega (arith, p.0, relative-length ps) in
      record { inside = h; off = ap (far tolerance n) (sym (relative-at ps i h)) ∙ p.1 }

  told : (i : ℕ) → Off tolerance n ps i → Told i
  told i o = (omega (arith, o.inside, relative-length ps), ap (far tolerance n) (relative-at ps i o.inside) ∙ o.off)

  -- "the least failing entry index"
  pub uneven-least : LeastBelow (Off tolerance n ps) (length ps) (uneven_at tolerance n ps)
  unfolding uneven_at
  uneven-least = subst (λ (m : ℕ). LeastBelow (Off tolerance n ps) m (uneven_at tolerance n ps)) (relative-length ps) (below_as off told (index_least (far tolerance n) origin (relative ps)))
