-- `taken::link` meets its contract: two stores.
use native.Mathlib.Omega.{arith}
use Rattle.taken.specs.laws.Buckets.{told_below}
use Rattle.taken.proofs.link.Goals as goal

pub offset_bounds-table-b : goal.offset_bounds-table-b
offset_bounds-table-b c = record { fits = omega (arith, told_below _ c.bucket-b.ensures) }

pub bounds-table-b : goal.bounds-table-b
bounds-table-b c = omega (arith, told_below _ c.bucket-b.ensures)

pub offset_bounds-table-b-2 : goal.offset_bounds-table-b-2
offset_bounds-table-b-2 c = record { fits = omega (arith, told_below _ c.bucket-b.ensures) }

pub bounds-table-b-2 : goal.bounds-table-b-2
bounds-table-b-2 c = omega (arith, told_below _ c.bucket-b.ensures)
