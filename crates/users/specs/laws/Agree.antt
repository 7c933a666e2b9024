-- Any two results that a public function's statement allows agree.
use Rattle.std.specs.Prelude.{ℕ, ◌≡◌, List}
use Rattle.whole.specs.laws.Agree.{agree}
use Rattle.users.specs.held.Users.{Told}

-- `users_of`: the number of users and the two lowest
pub users_of_agree : (us : List ℕ) (k k' l l' s s' : ℕ) → Told us k l s → Told us k' l' s' → (k ≡ k') × (l ≡ l') × (s ≡ s')
users_of_agree us k k' l l' s s' a b = (agree a.count_is b.count_is, agree a.lowest_is b.lowest_is, agree a.second_is b.second_is)
