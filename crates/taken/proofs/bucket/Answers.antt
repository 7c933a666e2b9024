-- `taken::bucket` meets its contract: what is lifted is at most 200,000, so that the sum of the products stays below 2^64.
use native.Mathlib.Omega.{arith}
use mir.Syntax.{w64}
use Rattle.whole.specs.laws.Size.{back_small}
use Rattle.places.specs.held.Places.{point3}
use Rattle.places.specs.laws.Near.{near-place}
use Rattle.taken.specs.laws.Buckets.{told-few, bucket_is}
use Rattle.taken.proofs.bucket.Goals as goal

pub lifted-requires : goal.lifted-requires
lifted-requires c = back_small w64 tt (near-place _ c.requires).x

pub overflow_mul-sum : goal.overflow_mul-sum
overflow_mul-sum c = record { fits = omega (arith, told-few (near-place _ c.requires).x c.lifted.ensures) }

pub lifted-requires-2 : goal.lifted-requires-2
lifted-requires-2 c = back_small w64 tt (near-place _ c.requires).y

pub overflow_mul-sum-2 : goal.overflow_mul-sum-2
overflow_mul-sum-2 c = record { fits = omega (arith, told-few (near-place _ c.requires).y c.lifted-2.ensures) }

pub overflow_add-sum : goal.overflow_add-sum
overflow_add-sum c = let n = near-place _ c.requires in
    record { fits = omega (arith, told-few n.x c.lifted.ensures, told-few n.y c.lifted-2.ensures) }

pub lifted-requires-3 : goal.lifted-requires-3
lifted-requires-3 c = back_small w64 tt (near-place _ c.requires).z

pub overflow_mul-sum-3 : goal.overflow_mul-sum-3
overflow_mul-sum-3 c = record { fits = omega (arith, told-few (near-place _ c.requires).z c.lifted-3.ensures) }

pub overflow_add-sum-2 : goal.overflow_add-sum-2
overflow_add-sum-2 c = let n = near-place _ c.requires in
    record { fits = omega (arith, told-few n.x c.lifted.ensures, told-few n.y c.lifted-2.ensures, told-few n.z c.lifted-3.ensures) }

pub returns : goal.returns
returns c = bucket_is (point3 c.args.x c.args.y c.args.z) (near-place _ c.requires) _ _ _ c.lifted.ensures c.lifted-2.ensures c.lifted-3.ensures
