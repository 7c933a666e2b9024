-- `across::ask` meets its contract.
use Rattle.across.specs.laws.Dids.{did_across}
use Rattle.desk.specs.laws.Dids.{did_refused}
use Rattle.frame.specs.Frame.{across}
use Rattle.edges.specs.Edges.{edge}
use Rattle.users.specs.held.Users.{users_in, Told}
use Rattle.std.proofs.Common.{arith, length-take-le}
use Prim.Native.Nat.{ℕ}
use lib.ListN.{take}
use mathlib.Core.List.{List}
use mathlib.Core.Path.{sym, subst}
use Rattle.across.proofs.ask.Goals as goal

pub users_of-users-requires : goal.users_of-users-requires
users_of-users-requires c =
    let p = c.requires.1 in
    let q = rw (c.from.ensures, c.from-2.ensures) at c.in_default.ensures in
    let fit = q.fit in
    let size = p.room fit.holding in
    (omega (arith, size, length-take-le c.args.d.held.edges c.args.table.now (omega (arith, size))), p.words fit.holding)

pub returns-in-Err : goal.returns-in-Err
returns-in-Err c = λ a e v.
    let g = c.args in
    let q = rw (c.from.ensures, c.from-2.ensures) at c.in-Err.ensures in
    did_refused a g.d v (across g.m g.n) c.in-Err.refusal g.room.now _ _ (q.is a tt v) (c.refuse.ensures a v)

pub returns : goal.returns
returns c = λ a e v.
    let g = c.args in
    let q = rw (c.from.ensures, c.from-2.ensures) at c.in_default.ensures in
    let u = c.users_of-users in
    did_across a g.d v g.m g.n q.fit _ _ _ (subst (λ (l : List ℕ). Told (users_in (edge g.m g.n) (take g.d.held.edges l)) u.result.count u.result.lowest u.result.second) (sym e) u.ensures)
    (q.is a tt v) g.room.now _ _ c.put_across-at.ensures
