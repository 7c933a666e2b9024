-- The edge table built, and the scalars after end of load.
use Rattle.std.specs.Prelude.{ℕ, ◌≡◌, Bool, List}
use Rattle.std.proofs.Common.{sym, ◌∙◌, subst}
use Rattle.shell.specs.declared.Shape.{Shape}
use Rattle.shell.specs.held.Kept.{Built}
use Rattle.building.specs.declared.Arrays.{Arrays}
use Rattle.building.specs.declared.Scalars.{Scalars}
use Rattle.building.specs.held.Holds.{Shown}
use Rattle.checks.specs.held.Writes.{checked}

module _ (a : Arrays) (s : Scalars) {edges : ℕ} {fixed shape : Shape} {r : Scalars} (e : r ≡ checked s edges fixed shape) where
  pub table-own : {sound : Bool} {table' : List ℕ} → Built a.rings.entries a.rings.starts a.rings.firsts s.polygons a.table table' edges sound fixed → Built a.rings.entries a.rings.starts a.rings.firsts s.polygons a.table table' r.edges sound r.fixed
  table-own {sound} {table'} b = subst (λ (x : Scalars). Built a.rings.entries a.rings.starts a.rings.firsts s.polygons a.table table' x.edges sound x.fixed) (sym e) b

  -- the scalars are told by their own edges and shapes
  pub scalars_own : r ≡ checked s r.edges r.fixed r.shape
  scalars_own = e ∙ sym (λ j. checked s (e j).edges (e j).fixed (e j).shape)

  pub shown_own : (table' turned' : List ℕ) → Shown table' edges turned' fixed shape → Shown table' r.edges turned' r.fixed r.shape
  shown_own table' turned' h = subst (λ (x : Scalars). Shown table' x.edges turned' x.fixed x.shape) (sym e) h
