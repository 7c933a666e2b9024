-- The machine's numbers on the way to the bucket of a place.
use Prim.Native.Nat.{ℕ, suc, ◌+◌, ◌*◌, ◌-◌, ◌/◌, ◌%◌, ◌≤◌, ◌<◌}
use Rattle.std.proofs.Common.{arith, ◌∙◌, SFits, of_z, to_z}
use Rattle.std.specs.Prelude.{◌≡◌, Bool, ℤ, negsuc, nat_abs, ◌+ℤ◌}
use Rattle.std.proofs.Math.Path.{refl, sym, ap}
use Rattle.std.proofs.Math.Bool.{false, cond}
use borrow.Author.Tests.{le-ltb}
use Rattle.std.proofs.Math.Dec.{ltb}
use Rattle.std.proofs.Math.IntN.{pos}
use Rattle.std.specs.Int.{w64}
use Rattle.whole.specs.held.Small.{Small}
use Rattle.whole.specs.laws.Size.{small_add, small_fits, small_back, back_small}
use Rattle.space.specs.Space.{Point}
use Rattle.places.specs.Points.{is_far_of}
use Rattle.places.specs.held.Places.{point3, NearPlace}
use Rattle.places.specs.laws.Near.{near-bits}
use Rattle.taken.specs.held.Buckets.{lift, bucket_of}

pub bucket_below : (p : Point) → bucket_of p < 512
unfolding bucket_of
bucket_below p = omega arith

pub told_below : (p : Point) {b : ℕ} → b ≡ bucket_of p → b < 512
told_below p e = omega (arith, bucket_below p)

-- ---- a coordinate within its bound
module _ {x : ℤ} (h : Small 100000 x) where
  bound : Small 100000 (pos 100000)
  bound = record { small = omega arith }

  pub lift_few : lift x ≤ 200000
  unfolding lift
  lift_few = (small_add h bound).small

  lift_is : x +ℤ pos 100000 ≡ pos (lift x)
  unfolding lift
  lift_is = go x h
    where
      go : (z : ℤ) → Small 100000 z → z +ℤ pos 100000 ≡ pos (nat_abs (z +ℤ pos 100000))
      go (pos n) k = refl
      go (negsuc n) k =
          let e : ltb 100000 (suc n) ≡ false = le-ltb 100000 (suc n) k.small in
          ap (λ (t : Bool). cond t (negsuc (suc n - suc 100000)) (pos (100000 - suc n))) e
          ∙ sym (ap (λ (t : Bool). pos (nat_abs (cond t (negsuc (suc n - suc 100000)) (pos (100000 - suc n))))) e)

  -- the sum, and what is read back of it
  pub lift-fits : SFits w64 (to_z w64 (of_z w64 x) +ℤ pos 100000)
  lift-fits = small_fits {w = w64} {n = 200000} tt (small_add (back_small w64 tt h) bound)

  pub lift-seen : to_z w64 (of_z w64 (to_z w64 (of_z w64 x) +ℤ pos 100000)) ≡ pos (lift x)
  lift-seen = small_back w64 tt (small_add (back_small w64 tt h) bound) ∙ ap (λ (z : ℤ). z +ℤ pos 100000) (small_back w64 tt h) ∙ lift_is

  -- what a call that was handed its bits tells
  module _ {r : ℕ} (e : r ≡ lift (to_z w64 (of_z w64 x))) where
    pub told-lift : r ≡ lift x
    told-lift = e ∙ ap lift (small_back w64 tt h)

    pub told-few : r ≤ 200000
    told-few = omega (arith, told-lift, lift_few)

-- ---- the bucket of a place within its bounds
pub bucket_is : (p : Point) → NearPlace p → (a b c : ℕ) → a ≡ lift (to_z w64 (of_z w64 p.x)) → b ≡ lift (to_z w64 (of_z w64 p.y)) → c ≡ lift (to_z w64 (of_z w64 p.z))
    → (a * 2654435761 + b * 2246822519 + c * 3266489917) / 4194304 % 512 ≡ bucket_of p
unfolding bucket_of
bucket_is p n a b c e f g =
    λ i. (told-lift n.x e i * 2654435761 + told-lift n.y f i * 2246822519 + told-lift n.z g i * 3266489917) / 4194304 % 512

pub told-bucket : (x y z : ℤ) → is_far_of (point3 x y z) ≡ false → {b : ℕ} → b ≡ bucket_of (point3 (to_z w64 (of_z w64 x)) (to_z w64 (of_z w64 y)) (to_z w64 (of_z w64 z))) → b ≡ bucket_of (point3 x y z)
told-bucket x y z far e = e ∙ ap bucket_of (near-bits x y z far)
