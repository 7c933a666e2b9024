-- Check 0C by one flood over corners. A corner is an entry of a ring: it has a point and a polygon. Links join corners of one point
-- whose polygons are linked across an edge that ends there.
use Rattle.std.specs.Prelude.{ℕ, ◌≡◌, refl, ◌⊎◌}
use Rattle.std.proofs.Common.{sym, ap, subst, ◌∙◌, ⊎_elim}
use Rattle.reach.specs.Reach.{Reach, start, step}
use Rattle.shell.specs.laws.Adequate.{reach_trans, reach_sym}
use Rattle.reach.specs.laws.Joins.{reach_map}

-- what the corners of rings are to their links
pub record Corners (N : ℕ → Type 0) (pt pl : ℕ → ℕ) (L : ℕ → ℕ → Type 0) (A : ℕ → ℕ → ℕ → Type 0) : Type 1 where
  -- a link joins corners of one point, and their polygons are one, or share an edge that ends there
  pub joins : (e f : ℕ) → L e f → (pt e ≡ pt f) × ((pl e ≡ pl f) ⊎ A (pt e) (pl e) (pl f))
  -- polygons that share an edge that ends at v have linked corners there
  pub meets : (v p q : ℕ) → A v p q → (e : ℕ) × (f : ℕ) × N e × N f × (pt e ≡ v) × (pl e ≡ p) × (pt f ≡ v) × (pl f ≡ q) × Reach (λ x. x ≡ e) L f
  -- a polygon's corners at one point are linked
  pub once : (e f : ℕ) → N e → N f → pt e ≡ pt f → pl e ≡ pl f → Reach (λ x. x ≡ e) L f
  pub even : (v p q : ℕ) → A v p q → A v q p

module _ (N : ℕ → Type 0) (pt pl : ℕ → ℕ) (L : ℕ → ℕ → Type 0) (A : ℕ → ℕ → ℕ → Type 0) (k : Corners N pt pl L A) where
  -- the corners that a corner reaches have its point, and polygons that its polygon reaches around the point
  around : (e f : ℕ) → Reach (λ x. x ≡ e) L f → (pt e ≡ pt f) × Reach (λ x. x ≡ pl e) (A (pt e)) (pl f)
  around e f (start q) = (ap pt (sym q), start (ap pl q))
  around e f (step {p = m} r l) = go (around e m r) (k.joins m f l)
    where
      go : (pt e ≡ pt m) × Reach (λ x. x ≡ pl e) (A (pt e)) (pl m) → (pt m ≡ pt f) × ((pl m ≡ pl f) ⊎ A (pt m) (pl m) (pl f)) → (pt e ≡ pt f) × Reach (λ x. x ≡ pl e) (A (pt e)) (pl f)
      go a b = (a.0 ∙ b.0, ⊎_elim (λ q. subst (λ (x : ℕ). Reach (λ x. x ≡ pl e) (A (pt e)) x) q a.1) (λ s. step a.1 (subst (λ (v : ℕ). A v (pl m) (pl f)) (sym a.0) s)) b.1)

  -- and the other way round
  fan : (e : ℕ) → N e → (q : ℕ) → Reach (λ x. x ≡ pl e) (A (pt e)) q → (f : ℕ) → N f → pt f ≡ pt e → pl f ≡ q → Reach (λ x. x ≡ e) L f
  fan e n q (start z) f nf a b = k.once e f n nf (sym a) (sym (b ∙ z))
  fan e n q (step {p = m} r s) f nf a b = go (k.meets (pt e) m q s) (fan e n m r)
    where
      go : (g : ℕ) × (h : ℕ) × N g × N h × (pt g ≡ pt e) × (pl g ≡ m) × (pt h ≡ pt e) × (pl h ≡ q) × Reach (λ x. x ≡ g) L h → ((g : ℕ) → N g → pt g ≡ pt e → pl g ≡ m → Reach (λ x. x ≡ e) L g) → Reach (λ x. x ≡ e) L f
      go w ih = reach_trans (reach_trans (ih w.0 w.2 w.4 w.5) w.8) (k.once w.1 f w.3 nf (w.6 ∙ sym a) (w.7 ∙ sym b))

  -- S holds of one corner of each point
  module _ (S : ℕ → Type 0) (first : (f : ℕ) → N f → (e : ℕ) × N e × S e × (pt e ≡ pt f)) (lone : (e f : ℕ) → S e → S f → pt e ≡ pt f → e ≡ f) where
    source : (f : ℕ) → Reach S L f → (e : ℕ) × S e × Reach (λ x. x ≡ e) L f
    source f (start s) = (f, s, start refl)
    source f (step {p = m} r l) = let w = source m r in (w.0, w.1, step w.2 l)

    -- a corner is reached from its point's first corner, where any first corner reaches it
    own : (e f : ℕ) → S e → pt e ≡ pt f → Reach S L f → Reach (λ x. x ≡ e) L f
    own e f s q r =
        let w = source f r in
        subst (λ (x : ℕ). Reach (λ y. y ≡ x) L f) (lone w.0 e w.1 s ((around w.0 f w.2).0 ∙ sym q)) w.2

    -- where two corners of a point are reached, their polygons are linked around it
    pub linked-around : (e f : ℕ) → N e → N f → pt e ≡ pt f → Reach S L e → Reach S L f → Reach (λ x. x ≡ pl e) (A (pt e)) (pl f)
    linked-around e f ne nf q re rf =
        let c = first e ne in
        let a : Reach (λ x. x ≡ c.0) L e = own c.0 e c.2 c.3 re in
        let b : Reach (λ x. x ≡ c.0) L f = own c.0 f c.2 (c.3 ∙ q) rf in
        let u : Reach (λ x. x ≡ pl c.0) (A (pt e)) (pl e) = rw c.3 at (around c.0 e a).1 in
        let v : Reach (λ x. x ≡ pl c.0) (A (pt e)) (pl f) = rw c.3 at (around c.0 f b).1 in
        reach_trans (reach_sym (pl c.0) (pl e) (k.even (pt e)) u) v

    -- where a corner is not reached, its polygon is not linked to that of its point's first corner
    pub apart-around : (f : ℕ) → N f → (Reach S L f → ⊥) → (e : ℕ) × N e × (pt e ≡ pt f) × (Reach (λ x. x ≡ pl e) (A (pt f)) (pl f) → ⊥)
    apart-around f nf no-reach =
        let c = first f nf in
        (c.0, c.1, c.3, λ r. no-reach (reach_map (λ q z. start (subst S (sym z) c.2)) (λ a b l. l) (fan c.0 c.1 (pl f) (rw c.3 r) f nf (sym c.3) refl)))
