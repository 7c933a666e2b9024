-- Check 06: how far a point may be off the plane of its ring, and where 06 is met.
use Rattle.std.specs.Prelude.{ℕ, Bool, List, ℤ, pos, ◌+ℤ◌, ◌*ℤ◌}
use Rattle.std.specs.Int.Signed.{lt_z}
use Rattle.whole.specs.Lists.{any, least_index}
use Rattle.space.specs.Space.{Point, dot}
use Rattle.normal.specs.Normal.{relative}

unfoldable pub square : ℤ → ℤ
square z = z *ℤ z

-- "the sum of the squares of N's components"
unfoldable pub squares : Point → ℤ
squares n = square n.x +ℤ square n.y +ℤ square n.z

-- "the square of N·(p - first) exceeds tolerance squared times the sum of the squares of N's components", d being N·(p - first)
unfoldable pub exceeds : ℕ → Point → ℤ → Bool
exceeds tolerance n d = lt_z (square (pos tolerance) *ℤ squares n) (square d)

-- 06: "for some point p"
unfoldable pub is_uneven : ℕ → Point → List Point → Bool
is_uneven tolerance n ps = any (λ p. exceeds tolerance n (dot n p)) (relative ps)

-- document 02 (iii): "for 06 the least failing entry index"; where none fails, how many entries there are
unfoldable pub uneven_at : ℕ → Point → List Point → ℕ
uneven_at tolerance n ps = least_index (λ p. exceeds tolerance n (dot n p)) (relative ps)

unfoldable pub even_computes : Unit {0}
unfolding square squares exceeds is_uneven uneven_at
even_computes = tt
