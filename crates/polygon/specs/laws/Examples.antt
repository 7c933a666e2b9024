-- Single rings of document 01's examples, so that a slip in the definitions of this crate is refused here.
use Rattle.std.specs.Prelude.{ℕ, ◌≡◌, refl, true, List, [], ◌∷◌, ℤ, pos, negsuc}
use Rattle.whole.specs.Lists.{lists_compute}
use Rattle.space.specs.declared.Axis.TheVariants.{X, Y}
use Rattle.polygon.specs.declared.Finding.TheVariants.{Sound, Unclosed, Repeated, NoNormal, Crossed, Uneven}
use Rattle.space.specs.Space.{Point, places, space_computes}
use Rattle.plane.specs.Plane.{largest_axis_of, plane_computes}
use Rattle.normal.specs.Normal.{normal}
use Rattle.polygon.specs.Ring.{finding, ring_computes}
use Rattle.even.specs.held.Offs.{largest}
use Rattle.even.proofs.laws.Distance.{is_uneven_along}

abbrev place : ℤ → ℤ → ℤ → Point
place x y z = record { x = x; y = y; z = z }

abbrev closed : List ℕ
closed = 0 ∷ 1 ∷ 2 ∷ 3 ∷ 0 ∷ []

-- "ring (0,0,0), (1000,0,0), (1000,1000,0), (0,1000,h), closed"
abbrev lifted : ℕ → List Point
lifted h = place (pos 0) (pos 0) (pos 0) ∷ place (pos 1000) (pos 0) (pos 0) ∷ place (pos 1000) (pos 1000) (pos 0) ∷ place (pos 0) (pos 1000) (pos h) ∷ []

-- "flat ring (0,0), (1000,1000), (1000,0), (0,1000), closed"; and "with the last corner at" another height
abbrev tied : ℕ → List Point
tied y = place (pos 0) (pos 0) (pos 0) ∷ place (pos 1000) (pos 1000) (pos 0) ∷ place (pos 1000) (pos 0) (pos 0) ∷ place (pos 0) (pos y) (pos 0) ∷ []

pub at_the_tolerance : finding 10 (lifted 20) closed ≡ Sound
unfolding lists_compute space_computes plane_computes ring_computes
at_the_tolerance = refl

pub above_the_tolerance : finding 10 (lifted 21) closed ≡ Uneven 1
unfolding lists_compute space_computes plane_computes ring_computes
above_the_tolerance = refl

-- "A ring (0,0,0), (1000,0,1000), (1000,1000,1000), (0,1000,21) at tolerance 10 fails today and passes then."
abbrev steep : List Point
steep = place (pos 0) (pos 0) (pos 0) ∷ place (pos 1000) (pos 0) (pos 1000) ∷ place (pos 1000) (pos 1000) (pos 1000) ∷ place (pos 0) (pos 1000) (pos 21) ∷ []

pub steep_passes : finding 10 steep closed ≡ Sound
unfolding lists_compute space_computes plane_computes ring_computes
steep_passes = refl

pub steep_failed : is_uneven_along 10 (normal (places steep closed)) (places steep closed) ≡ true
unfolding lists_compute space_computes plane_computes ring_computes largest is_uneven_along
steep_failed = refl

-- a saddle, its second and fourth corners at a height: all corners are off the plane by just as much
abbrev saddle : ℕ → List Point
saddle h = place (pos 0) (pos 0) (pos 0) ∷ place (pos 1000) (pos 0) (pos h) ∷ place (pos 1000) (pos 1000) (pos 0) ∷ place (pos 0) (pos 1000) (pos h) ∷ []

pub saddle-at : finding 10 (saddle 10) closed ≡ Sound
unfolding lists_compute space_computes plane_computes ring_computes
saddle-at = refl

pub saddle-above : finding 10 (saddle 11) closed ≡ Uneven 1
unfolding lists_compute space_computes plane_computes ring_computes
saddle-above = refl

pub even_bow_tie : finding 0 (tied 1000) closed ≡ NoNormal
unfolding lists_compute space_computes plane_computes ring_computes
even_bow_tie = refl

pub uneven-bow_tie : finding 0 (tied 2000) closed ≡ Crossed 0
unfolding lists_compute space_computes plane_computes ring_computes
uneven-bow_tie = refl

-- "ties: x, then y", by size
pub tie_to_x : largest_axis_of (place (pos 5) (negsuc 4) (pos 5)) ≡ X
unfolding plane_computes
tie_to_x = refl

pub tie_to_y : largest_axis_of (place (pos 1) (pos 5) (negsuc 4)) ≡ Y
unfolding plane_computes
tie_to_y = refl

-- "with the last entry left aside, some number stands twice (the first entry's number too)"
pub first_again : finding 0 (lifted 0) (0 ∷ 1 ∷ 0 ∷ 0 ∷ []) ≡ Repeated 2
unfolding lists_compute space_computes plane_computes ring_computes
first_again = refl

pub unlike : finding 0 (lifted 0) (0 ∷ 1 ∷ 0 ∷ 1 ∷ []) ≡ Unclosed
unfolding lists_compute space_computes plane_computes ring_computes
unlike = refl
