-- The boxes around rings that code holds, and what it tests of them.
use Rattle.std.specs.Prelude.{ℕ, ◌<◌, ◌≡◌, Bool, true, false, cond, ◌&&◌, ◌||◌, List, get_or, ℤ, ◌≤ℤ◌}
use Rattle.std.specs.Int.Signed.{lt_z}
use Rattle.whole.specs.held.Small.{Small}
use Rattle.plane.specs.Plane.{Spot, Segment}
use Rattle.plane.specs.held.Edges.{least, most}
use Rattle.holes.specs.declared.bounds.Bounds.{Bounds}

-- the larger of two numbers, or the smaller
abbrev pub further : Bool → ℤ → ℤ → ℤ
further high p q = cond high (most p q) (least p q)

-- a box whose numbers are coordinates
pub record Sized (b : Bounds) : Type 0 where
  pub lu : Small 100000 b.lu
  pub hu : Small 100000 b.hu
  pub lv : Small 100000 b.lv
  pub hv : Small 100000 b.hv

-- box r is box b, made to hold p
pub record Widened (b : Bounds) (p : Spot) (r : Bounds) : Type 0 where
  pub lu : r.lu ≡ further false b.lu p.u
  pub hu : r.hu ≡ further true b.hu p.u
  pub lv : r.lv ≡ further false b.lv p.v
  pub hv : r.hv ≡ further true b.hv p.v

-- a place is in a box
pub record Within (b : Bounds) (p : Spot) : Type 0 where
  pub left : b.lu ≤ℤ p.u
  pub right : p.u ≤ℤ b.hu
  pub low : b.lv ≤ℤ p.v
  pub high : p.v ≤ℤ b.hv

-- the first n entries of a ring stand in a box
pub record Bounded (at : ℕ → Spot) (ring : List ℕ) (n : ℕ) (b : Bounds) : Type 0 where
  pub sized : Sized b
  pub each : (i : ℕ) → i < n → Within b (at (get_or ring i 0))

-- two boxes have no place in common
abbrev pub parted : Bounds → Bounds → Bool
parted a b = lt_z a.hu b.lu || lt_z b.hu a.lu || lt_z a.hv b.lv || lt_z b.hv a.lv

-- a segment lies wholly on one side of a box
abbrev pub beside : Bounds → Segment → Bool
beside b e =
    lt_z e.0.u b.lu && lt_z e.1.u b.lu
    || lt_z b.hu e.0.u && lt_z b.hu e.1.u
    || lt_z e.0.v b.lv && lt_z e.1.v b.lv
    || lt_z b.hv e.0.v && lt_z b.hv e.1.v
