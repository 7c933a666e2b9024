-- What is told of edges between the places of a ring: those that lie beside another's line, and neighbours.
use Rattle.std.specs.Prelude.{ℕ, ◌+◌, ◌<◌, ◌≤◌, ◌-◌, ◌≡◌, Bool, true, false}
use Rattle.plane.specs.Plane.{side, same_sign}
use Rattle.crossing.specs.Crossed.{forbidden}
use Rattle.crossing.specs.declared.Columns.{Columns}
use Rattle.crossing.specs.held.Between.{segment, edge, clashes_from}

-- where r holds, the eight edges from j on lie each on one side of edge i's line
pub record Beside (c : Columns) (i j : ℕ) (r : Bool) : Type 0 where
  pub each : r ≡ true → (k : ℕ) → j ≤ k → k < j + 8
      → same_sign (side (segment c i).0 (segment c i).1 (segment c k).0) (side (segment c i).0 (segment c i).1 (segment c k).1) ≡ true

-- edge i and its neighbours after it, the last being one of the first, have nothing in common that they may not
pub record Free (c : Columns) (i : ℕ) : Type 0 where
  pub next : i + 1 < c.m → forbidden c.m (edge c i) (edge c (i + 1)) ≡ false
  pub last : i ≡ 0 → 3 ≤ c.m → forbidden c.m (edge c 0) (edge c (c.m - 1)) ≡ false

-- one of the first n edges has, with the next one
pub record NextClash (c : Columns) (n : ℕ) : Type 0 where
  pub first : ℕ
  pub below : first < n
  pub followed : first + 1 < c.m
  pub clash : forbidden c.m (edge c first) (edge c (first + 1)) ≡ true

-- r tells whether one has
pub record Nexts (c : Columns) (n : ℕ) (r : Bool) : Type 0 where
  pub some : r ≡ true → NextClash c n
  pub none : r ≡ false → (i : ℕ) → i < n → i + 1 < c.m → forbidden c.m (edge c i) (edge c (i + 1)) ≡ false

-- edge r is the first that has, with the next one; as many as there are edges if there is none
pub record FirstNext (c : Columns) (r : ℕ) : Type 0 where
  pub within : r ≤ c.m
  pub none : (i : ℕ) → i < r → i + 1 < c.m → forbidden c.m (edge c i) (edge c (i + 1)) ≡ false
  pub some : r < c.m → (r + 1 < c.m) × (forbidden c.m (edge c r) (edge c (r + 1)) ≡ true)

-- edge r is the first that has with a neighbour after it, and so with a later edge; as many as there are edges if there is none
pub record FirstNear (c : Columns) (r : ℕ) : Type 0 where
  pub within : r ≤ c.m
  pub none : (i : ℕ) → i < r → Free c i
  pub some : r < c.m → clashes_from c r (r + 1) ≡ true
