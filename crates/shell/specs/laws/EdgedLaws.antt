-- What is kept belongs to the rings when it has been built, and still does when a polygon is turned and its flag flipped.
use Prim.Native.Nat.{ℕ, zero, suc, ◌-◌, ◌≤◌, ◌<◌}
use Rattle.std.proofs.Math.Decide.{ℕ_discrete}
use Rattle.std.proofs.Common.{arith, ◌∙◌, ext_get_or, get_or-set_same, get_or-set_other}
use Rattle.std.specs.Prelude.{◌≡◌, refl, Bool, true, List, [], set, take, drop}
use Rattle.std.proofs.Math.Path.{sym, ap, subst}
use Rattle.std.proofs.Math.Bool.{cond}
use Rattle.std.proofs.Math.Logic.{by_cases}
use Rattle.std.proofs.Math.ListN.{length, get_or, length-append}
use Rattle.std.proofs.Math.Seq.{take_at}
use Rattle.whole.specs.Lists.{at, tab}
use Rattle.shell.specs.declared.Shape.{Shape}
use Rattle.shell.specs.declared.Shape.TheVariants.{Few}
use Rattle.ring.specs.Polygon.{Polygon, one, turned_over}
use Rattle.ring.specs.held.Rings.{polygon_at, polygons, Layout}
use Rattle.ring.specs.laws.Turned.{twice-over}
use Rattle.edges.specs.held.Table.{words_of, table_of}
use Rattle.edges.specs.Order.{ascending}
use Rattle.shell.specs.held.Kept.{Loaded, Built, Listed, Edged, fixed_shape, turn, turned_polygons}
use Rattle.edges.specs.laws.Ascending.{length-ascending}
use Rattle.whole.specs.laws.Places.{tab-length, tab-at}
use Rattle.shell.specs.laws.Tabs.{length_at, get_d_at-same, get_d_at_other}

-- no flag is set
pub flags_none : (es st ft : List ℕ) (n : ℕ) (flags : List ℕ) → ((p : ℕ) → get_or flags p 0 ≡ 0) → turned_polygons es st ft n flags ≡ polygons es st ft n
unfolding turned_polygons polygons turn
flags_none es st ft n flags z i = tab (λ p. turn (z p i) (polygon_at es st ft p)) n

-- after end of load, with no flag set, all belongs to the rings that the arrays hold
module _ (es st ft : List ℕ) (n : ℕ) (room table : List ℕ) (count : ℕ) (flags : List ℕ) (sound : Bool) (fixed : Shape) (b : Built es st ft n room table count sound fixed) (z : (p : ℕ) → get_or flags p 0 ≡ 0) where
  pub built-long : length (ascending (words_of es st ft n)) ≡ count
  built-long = length-ascending (words_of es st ft n) ∙ sym b.count_is

  pub built-words : take count table ≡ ascending (words_of es st ft n)
  unfolding table_of
  built-words = ap (take count) b.table_is ∙ take_at (ascending (words_of es st ft n)) (drop (length (words_of es st ft n)) room) count built-long

  pub built_room : count ≤ length table
  unfolding table_of
  built_room = omega (arith, ap length b.table_is, length-append (ascending (words_of es st ft n)) (drop (length (words_of es st ft n)) room), built-long)

  unfoldable pub listed-built : Layout es st ft n → Listed (polygons es st ft n) table count flags
  listed-built layout = record {
    entries = es;
    starts = st;
    firsts = ft;
    number = n;
    layout = layout;
    flags = λ p. omega (arith, z p);
    present = sym (flags_none es st ft n flags z);
    words = built-words;
    room = built_room;
  }

  pub edged_built : sound ≡ true → Loaded es st ft n → Edged (polygons es st ft n) table count flags fixed
  unfolding listed-built
  edged_built s l = record {
    listed = listed-built l.layout;
    loaded = l;
    fixed_is = b.fixed_is ∙ ap (λ (t : Bool). cond t (fixed_shape (polygons es st ft n)) (Few 0)) s;
  }

turned-length : (es st ft : List ℕ) (n : ℕ) (flags : List ℕ) → length (turned_polygons es st ft n flags) ≡ n
unfolding turned_polygons
turned-length es st ft n flags = tab-length (λ q. turn (get_or flags q 0) (polygon_at es st ft q)) n

-- the flag the other way
turn_other : (k : ℕ) (p : Polygon) → k ≤ 1 → turn (1 - k) p ≡ turned_over (turn k p)
unfolding turn
turn_other zero p h = refl
turn_other (suc zero) p h = sym (twice-over p)
turn_other (suc (suc k)) p h = absurd (bad h)
  where
    bad : suc (suc k) ≤ 1 → ⊥
    bad h = omega arith

module _ (es st ft : List ℕ) (n : ℕ) (flags : List ℕ) (p : ℕ) (few : (q : ℕ) → get_or flags q 0 ≤ 1) (within : p < length flags) where
  abbrev flipped : List ℕ
  flipped = set flags p (1 - get_or flags p 0)

  long : length (at p turned_over (turned_polygons es st ft n flags)) ≡ n
  long = length_at p turned_over (turned_polygons es st ft n flags) ∙ turned-length es st ft n flags

  same : (q : ℕ) → q < n → get_or (at p turned_over (turned_polygons es st ft n flags)) q (one []) ≡ get_or (turned_polygons es st ft n flipped) q (one [])
  unfolding turned_polygons
  same q h =
      by_cases
      (ℕ_discrete q p)
      (λ e. subst (λ (k : ℕ). get_or (at p turned_over (tab old n)) k (one []) ≡ get_or (tab new n) k (one [])) (sym e) (here (subst (λ (k : ℕ). k < n) e h)))
      (λ d. get_d_at_other p q turned_over (tab old n) (one []) d ∙ (tab-at old n q (one []) h ∙ (ap (λ (k : ℕ). turn k (polygon_at es st ft q)) (sym (get_or-set_other flags p q (1 - get_or flags p 0) 0 d)) ∙ sym (tab-at new n q (one []) h))))
    where
      old : ℕ → Polygon
      old q = turn (get_or flags q 0) (polygon_at es st ft q)

      new : ℕ → Polygon
      new q = turn (get_or flipped q 0) (polygon_at es st ft q)

      here : p < n → get_or (at p turned_over (tab old n)) p (one []) ≡ get_or (tab new n) p (one [])
      here h =
          get_d_at-same p turned_over (tab old n) (one []) (subst (λ (k : ℕ). p < k) (sym (tab-length old n)) h)
          ∙ (ap turned_over (tab-at old n p (one []) h) ∙ (sym (turn_other (get_or flags p 0) (polygon_at es st ft p) (few p)) ∙ (ap (λ (k : ℕ). turn k (polygon_at es st ft p)) (sym (get_or-set_same flags p (1 - get_or flags p 0) 0 within)) ∙ sym (tab-at new n p (one []) h))))

  pub flag_flipped : at p turned_over (turned_polygons es st ft n flags) ≡ turned_polygons es st ft n flipped
  flag_flipped = ext_get_or (one []) (at p turned_over (turned_polygons es st ft n flags)) (turned_polygons es st ft n flipped) (long ∙ sym (turned-length es st ft n flipped)) (λ q h. same q (subst (λ (k : ℕ). q < k) long h))

-- a polygon turned, and its flag flipped
unfoldable pub listed-turned : (ps : List Polygon) (table : List ℕ) (count : ℕ) (flags : List ℕ) (p : ℕ) → p < length flags → Listed ps table count flags → Listed (at p turned_over ps) table count (set flags p (1 - get_or flags p 0))
listed-turned ps table count flags p h e = record {
  entries = e.entries;
  starts = e.starts;
  firsts = e.firsts;
  number = e.number;
  layout = e.layout;
  flags = λ q. by_cases (ℕ_discrete q p) (λ s. subst (λ (k : ℕ). get_or (set flags p (1 - get_or flags p 0)) k 0 ≤ 1) (sym s) (subst (λ (k : ℕ). k ≤ 1) (sym (get_or-set_same flags p (1 - get_or flags p 0) 0 h)) (omega arith))) (λ d. subst (λ (k : ℕ). k ≤ 1) (sym (get_or-set_other flags p q (1 - get_or flags p 0) 0 d)) (e.flags q));
  present = ap (at p turned_over) e.present ∙ flag_flipped e.entries e.starts e.firsts e.number flags p e.flags h;
  words = e.words;
  room = e.room;
}

pub edged_turned : (ps : List Polygon) (table : List ℕ) (count : ℕ) (flags : List ℕ) (fixed : Shape) (p : ℕ) → p < length flags → Edged ps table count flags fixed → Edged (at p turned_over ps) table count (set flags p (1 - get_or flags p 0)) fixed
unfolding listed-turned
edged_turned ps table count flags fixed p h e = record { listed = listed-turned ps table count flags p h e.listed; loaded = e.loaded; fixed_is = e.fixed_is }
