-- Any two results that a public function's statement allows agree.
use Rattle.std.specs.Prelude.{ℕ, ◌<◌, ◌≡◌, refl}
use Rattle.std.proofs.Common.{arith}
use Rattle.whole.specs.laws.Agree.{agree}
use Rattle.words.specs.declared.Node.{Node}
use Rattle.words.specs.declared.Node.TheVariants.{Polygon, Smaller, Larger}
use Rattle.words.specs.held.Words.{key_from, node_of, number_of, Mate}
use Rattle.words.specs.laws.Mates.{mate_one}

-- `key_of`: the edge
pub key_of_agree : (w r r' : ℕ) → r ≡ key_from w → r' ≡ key_from w → r ≡ r'
key_of_agree w r r' = agree

-- `node_of`: the node
pub node_of_agree : (which w r r' : ℕ) → (r ≡ node_of which w) × (r < 1024) → (r' ≡ node_of which w) × (r' < 1024) → r ≡ r'
node_of_agree which w r r' a b = agree a.0 b.0

-- `mate`: the place
pub mate_agree : (n i r r' : ℕ) → Mate n i r → Mate n i r' → r ≡ r'
mate_agree n i r r' a b = mate_one n i r r' a b

-- `Node::from`: the node, since a word may join a polygon and two corners of three numbers
module _ where
  -- polygon 1, a step from corner 2 to corner 3
  abbrev told : ℕ
  told = 2101254

  one_node : (r r' : Node) → node_of (number_of r) told ≡ node_of (number_of r') told → r ≡ r'
  one_node Polygon Polygon e = refl
  one_node Polygon Smaller e = absurd (omega (arith, e))
  one_node Polygon Larger e = absurd (omega (arith, e))
  one_node Smaller Polygon e = absurd (omega (arith, e))
  one_node Smaller Smaller e = refl
  one_node Smaller Larger e = absurd (omega (arith, e))
  one_node Larger Polygon e = absurd (omega (arith, e))
  one_node Larger Smaller e = absurd (omega (arith, e))
  one_node Larger Larger e = refl

  pub from_agree : (which : ℕ) (r r' : Node) → ((w : ℕ) → node_of (number_of r) w ≡ node_of which w) → ((w : ℕ) → node_of (number_of r') w ≡ node_of which w) → r ≡ r'
  from_agree which r r' h k = one_node r r' (agree (h told) (k told))
