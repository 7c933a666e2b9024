-- `users::users_of` meets its contract. The words of an edge stand between two bounds (`told_of`).
use Prim.Native.Nat.{ℕ, ◌-◌}
use mathlib.Core.Path.{subst}
use Rattle.users.specs.held.Users.{users_in, Told}
use Rattle.users.proofs.Search.{told_of}
use Rattle.users.proofs.users_of.Goals as goal

pub returns : goal.returns
returns c = let words = c.args.words.now in
    let e = c.edge_of-e in
    let from = c.first_of-from in
    let to = c.end_of-to in
    subst (λ (k : ℕ). Told (users_in k words) (to.result - from.result) c.user_at-lowest.result c.user_at-second.result) e.ensures.0
    (told_of words e.result from.result to.result from.ensures to.ensures c.user_at-lowest.result c.user_at-second.result c.user_at-lowest.ensures c.user_at-second.ensures)
