-- For each public function: any two results that its statement allows are one.
use Rattle.std.specs.Prelude.{ℕ, ◌≡◌, List, ℤ}
use Rattle.whole.specs.laws.Agree.{agree}
use Rattle.renew.specs.held.Renewed.{Refreshed}

pub refresh_agrees : {tolerance : ℕ} {points : List ℤ} {entries starts firsts : List ℕ} {p : ℕ} {findings findings' findings'' : List ℕ} {parts parts' parts'' : List ℤ} → Refreshed tolerance points entries starts firsts p findings parts findings' parts' → Refreshed tolerance points entries starts firsts p findings parts findings'' parts''
    → (findings' ≡ findings'') × (parts' ≡ parts'')
refresh_agrees r r' = (agree r.found r'.found, agree r.summed r'.summed)
