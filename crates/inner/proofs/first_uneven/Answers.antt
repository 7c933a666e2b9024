-- `inner::first_uneven` meets its contract. The entries of all rings are those between the first start and the last.
use native.Mathlib.Nat.{le_refl}
use native.Mathlib.Omega.{arith}
use mathlib.Core.Path.{◌≡◌, subst}
use Rattle.std.specs.Prelude.{IfSome, unwrap_or}
use mathlib.Core.List.{List}
use Prim.Native.Nat.{ℕ, ◌≤◌, ◌<◌}
use lib.ListN.{length, get_or}
use borrow.Author.Rules.{rules}
use Rattle.space.specs.Space.{places}
use Rattle.space.specs.held.Points.{points_of, as_point}
use Rattle.even.specs.Even.{uneven_at}
use Rattle.inner.proofs.laws.Tables.{order, start-few, entries_are, entries-listed, entries-some}
use Rattle.inner.proofs.first_uneven.Goals as goal
use Rattle.inner.proofs.first_uneven.Goals.{Start}

-- ---- where the rings stand
lowest : (s : Start) → get_or s.args.rings.now.starts s.args.from 0 ≤ get_or s.args.rings.now.starts s.args.to 0
lowest s = order s.requires.lies.rings s.args.to (omega (arith, s.requires.lies.some)) (le_refl s.args.to)

highest : (s : Start) → get_or s.args.rings.now.starts s.args.to 0 ≤ 1024
highest s = start-few s.requires.lies.rings s.args.to s.requires.lies.some (le_refl s.args.to)

pub overflow_cast-first : goal.overflow_cast-first
overflow_cast-first c = omega (arith, lowest ((goal.at.overflow_cast-first c).Start), highest ((goal.at.overflow_cast-first c).Start))

pub overflow_cast-last : goal.overflow_cast-last
overflow_cast-last c = omega (arith, lowest ((goal.at.overflow_cast-last c).Start), highest ((goal.at.overflow_cast-last c).Start))

pub slice_bounds-first_uneven-count : goal.slice_bounds-first_uneven-count
slice_bounds-first_uneven-count c = lowest ((goal.at.slice_bounds-first_uneven-count c).Start)

pub slice_bounds-first_uneven-start : goal.slice_bounds-first_uneven-start
slice_bounds-first_uneven-start c = let a = lowest ((goal.at.slice_bounds-first_uneven-start c).Start) in
    let b = highest ((goal.at.slice_bounds-first_uneven-start c).Start) in
    search rules

pub slice_bounds-first_uneven-end : goal.slice_bounds-first_uneven-end
slice_bounds-first_uneven-end c = let a = lowest ((goal.at.slice_bounds-first_uneven-end c).Start) in
    let b = highest ((goal.at.slice_bounds-first_uneven-end c).Start) in
    search rules

pub first_uneven-requires : goal.first_uneven-requires
first_uneven-requires c = record { listed = entries-listed c.requires.lies.rings c.requires.lies.some; in_bounds = (entries-some c.requires.lies.rings c.requires.lies.some c.requires.in_bounds.0, c.requires.in_bounds.1); near = c.requires.near }

pub returns-clause-few : goal.returns-clause-few
returns-clause-few c = subst (λ (l : List ℕ). IfSome c.first_uneven.result (λ i. i < length l)) (entries_are c.requires.lies.rings c.requires.lies.some) c.first_uneven.ensures.few

pub returns-clause-first : goal.returns-clause-first
returns-clause-first c = subst (λ (l : List ℕ). unwrap_or c.first_uneven.result (length l) ≡ uneven_at c.args.tolerance (as_point c.args.n) (places (points_of c.args.points.now.flat) l)) (entries_are c.requires.lies.rings c.requires.lies.some) c.first_uneven.ensures.first
