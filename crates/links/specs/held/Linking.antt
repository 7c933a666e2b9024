-- What the single steps of check 0C leave: one corner of each point, marks that spread from corner to corner, and the lowest point cut off.
use Rattle.std.specs.Prelude.{ℕ, Bool, ◌+◌, ◌/◌, ◌%◌, ◌<◌, ◌≡◌, ◌⊎◌, List, length, get_or, set}
use Rattle.whole.specs.Least.{LeastBelow}
use Rattle.words.specs.held.Words.{key_from, step_of, next_of, node_of}
use Rattle.reach.specs.Reach.{Reach}
use Rattle.reach.specs.held.Marking.{Joined, Marked, Marks, Joint, Grown, Flooded}

abbrev pub Joins : ℕ → ℕ → List ℕ → ℕ → ℕ → Type 0
Joins low high l p q = Joined l (node_of low) p q ⊎ Joined l (node_of high) p q

-- 1,024 nodes, each below 1,024
pub record Nodes (t : List ℕ) : Type 0 where
  pub size : length t ≡ 1024
  pub small : (p : ℕ) → get_or t p 0 < 1024

pub record Selves (t : List ℕ) : Type 0 where
  pub size : length t ≡ 1024
  pub same : (p : ℕ) → p < 1024 → get_or t p 0 ≡ p

-- q stands across from p in one of two tables
abbrev pub Links : List ℕ → List ℕ → ℕ → ℕ → Type 0
Links out inn p q = (get_or out p 0 ≡ q) ⊎ (get_or inn p 0 ≡ q)

-- words that g does not tell apart are one word, and stand in one pair
pub record Lone (g : ℕ → ℕ) (l : List ℕ) : Type 0 where
  pub same : (i j : ℕ) → i < length l → j < length l → g (get_or l i 0) ≡ g (get_or l j 0) → (get_or l i 0 ≡ get_or l j 0) × (i / 2 ≡ j / 2)

-- the words of closed rings whose edges are used twice each: a step is told by where it starts and by where it ends, each ends where one
-- starts, the corners of a word stand at the ends of its edge, and the words stand in pairs of one edge
pub record Cornered (es l : List ℕ) : Type 0 where
  pub steps : Lone step_of l
  pub nexts : Lone next_of l
  pub rounds : (i : ℕ) → i < length l → (j : ℕ) × (j < length l) × (step_of (get_or l j 0) ≡ next_of (get_or l i 0))
  pub low : (i : ℕ) → i < length l → get_or es (node_of 1 (get_or l i 0)) 0 ≡ key_from (get_or l i 0) / 65536 % 1024
  pub high : (i : ℕ) → i < length l → get_or es (node_of 2 (get_or l i 0)) 0 ≡ key_from (get_or l i 0) % 1024
  pub pairs : (i : ℕ) → i % 2 ≡ 0 → i < length l → (i + 1 < length l) × (key_from (get_or l i 0) ≡ key_from (get_or l (i + 1) 0))

-- the tables have what the pairs join, where each corner has one pair of its own step and one of the step before
pub record Crossed (l out inn : List ℕ) : Type 0 where
  pub outs : Nodes out
  pub inns : Nodes inn
  pub sound : (p q : ℕ) → p < 1024 → Links out inn p q → (p ≡ q) ⊎ Joins 1 2 l p q
  pub whole : Lone step_of l → Lone next_of l → (p q : ℕ) → Joins 1 2 l p q → Links out inn p q

-- r is x or y, and the other of them where one is p
pub record Onward (x y p r : ℕ) : Type 0 where
  pub either : (x ≡ r) ⊎ (y ≡ r)
  pub other : (x ≡ p) ⊎ (y ≡ p) → (q : ℕ) → (x ≡ q) ⊎ (y ≡ q) → (q ≡ p) ⊎ (q ≡ r)

-- L goes both ways between nodes
abbrev pub Even : (ℕ → ℕ → Type 0) → Type 0
Even L = (p q : ℕ) → p < 1024 → L p q → L q p

-- marks along steps L that begin with one to `to`: where L goes both ways it leads out of no new mark
pub record Walked (L : ℕ → ℕ → Type 0) (to : ℕ) (m₀ m : List ℕ) : Type 0 where
  pub grows : (p : ℕ) → Marked m₀ p → Marked m p
  pub sound : (p : ℕ) → Marked m p → Reach (Marked m₀) L p
  pub begun : Marked m to
  pub closed : Even L → (p q : ℕ) → Marked m p → L p q → Marked m q ⊎ Marked m₀ p

-- the same of all marks
pub record Traced (L : ℕ → ℕ → Type 0) (m₀ m : List ℕ) : Type 0 where
  pub grows : (p : ℕ) → Marked m₀ p → Marked m p
  pub sound : (p : ℕ) → Marked m p → Reach (Marked m₀) L p
  pub closed : Even L → (p q : ℕ) → Marked m p → L p q → Marked m q

-- the point of a word's corner, where its step starts
abbrev pub point_of : List ℕ → ℕ → ℕ
point_of es w = get_or es (step_of w) 0

-- the points of the words' corners are few
pub record Pointed (es l : List ℕ) : Type 0 where
  pub size : length es ≡ 1024
  pub point : (i : ℕ) → i < length l → point_of es (get_or l i 0) < 1024

-- the marks hold one corner of each point
pub record Seeds (es l m : List ℕ) : Type 0 where
  pub node : (e : ℕ) → Marked m e → (i : ℕ) × (i < length l) × (step_of (get_or l i 0) ≡ e)
  pub first : (i : ℕ) → i < length l → (e : ℕ) × Marked m e × (get_or es e 0 ≡ point_of es (get_or l i 0))
  pub lone : (e f : ℕ) → Marked m e → Marked m f → get_or es e 0 ≡ get_or es f 0 → e ≡ f

-- what one end of an edge leaves, at point v with corners x and y there, of the points seen and the marks: where v was not seen it is, with
-- x as its first corner, and then the two are joined
pub record Met (v x y : ℕ) (s m s' m' : List ℕ) : Type 0 where
  pub to : Bool
  pub old : Marked s v → (s' ≡ s) × Joint x y m m' to
  pub new : (Marked s v → ⊥) → (s' ≡ set s v 1) × Joint x y (set m x 1) m' to

-- the marks have begun with one corner of each point
pub record Begun (es l m : List ℕ) : Type 0 where
  pub from : List ℕ
  pub seeds : Seeds es l from
  pub grown : Grown (Joins 1 2 l) from m

-- a corner at v has no mark
pub record Cut (es l m : List ℕ) (v : ℕ) : Type 0 where
  pub at : ℕ
  pub within : at < length l
  pub bare : get_or m (step_of (get_or l at 0)) 0 ≡ 0
  pub point : point_of es (get_or l at 0) ≡ v

-- r is the lowest point with a corner that the first corner of its point does not reach across pairs, or 65536
pub record Unlinks (es l : List ℕ) (r : ℕ) : Type 0 where
  pub from : List ℕ
  pub seeds : Seeds es l from
  pub to : List ℕ
  pub marks : Marks 1024 to
  pub flood : Flooded (Joins 1 2 l) from to
  pub least : LeastBelow (Cut es l to) 65536 r
