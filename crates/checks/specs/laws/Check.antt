-- End of load: what is kept is what the definitions give for the loaded tables.
use Rattle.std.specs.Prelude.{Option, Some, None, MatchOption, is_some, not, ltb, ℕ, zero, suc, ◌+◌, ◌-◌, ◌%◌, ◌≤◌, ◌<◌, ◌≡◌, refl, Bool, true, false, ◌&&◌, List, ◌++◌, map, ◌⊎◌, leb, length, get_or, take, drop, ℤ, pos}
use Rattle.std.proofs.Common.{ltb-true, ltb-false, le_refl, arith, sym, ap, ap₂, ◌∙◌, subst, true≢false, inl, inr, leb-true, le-leb, length-append, length-drop}
use Rattle.std.proofs.lemmas.Bool.{false≢true, lt-leb}
use Rattle.whole.specs.laws.Bools.{none_of}
use Rattle.whole.specs.laws.Stores.{cases, upto_done, length-upto}
use Rattle.whole.specs.held.Stored.{zeroed}
use Rattle.polygon.specs.Ring.{is_short, finding_number_of}
use Rattle.inner.specs.Finding.{finding}
use Rattle.ring.specs.Entries.{is_unclosed, is_repeated}
use Rattle.space.specs.held.Points.{points_of}
use Rattle.shell.specs.declared.Shape.{Shape}
use Rattle.whole.specs.laws.Spans.{length-span}
use Rattle.ring.specs.Polygon.{Polygon}
use Rattle.ring.specs.held.Rings.{ring_at, polygon_at, polygons, Layout, owner_of}
use Rattle.edges.specs.held.Table.{step_word, ring_words_of, words_to, words_of, table_of}
use Rattle.edges.specs.Order.{ascending}
use Rattle.edges.specs.laws.Ascending.{length-ascending}
use Rattle.shell.specs.held.Kept as S
use Rattle.shell.specs.laws.EdgedLaws.{listed-built, edged_built}
use Rattle.building.specs.declared.Arrays.{Arrays}
use Rattle.building.specs.declared.Scalars.{Scalars}
use Rattle.building.specs.Tables.{loaded}
use Rattle.building.specs.laws.Lists.{tab_ext, take_is_tab, map-tab}
use Rattle.building.specs.held.Holds.{is_broken, tables_in, LoadedIn, held_tables, held_building, Loaded, Sizes, Found, Summed, Broken, Shown, Did}
use Rattle.building.specs.laws.Findings.{Early, one_broken, broken_one, kept_number}
use Rattle.building.specs.laws.Rings.{one_each, rings-many}
use Rattle.building.specs.laws.Sound.{sound_of}
use Rattle.renew.specs.held.Renewed.{kept_at, part_at}
use Rattle.checks.specs.held.Steps.{Checked}
use Rattle.checks.specs.held.Early.{is_early_of, NoneEarly, EarlyAt}
use Rattle.checks.specs.laws.Steps.{zeroed-all}

early_yes : (k : ℕ) → is_early_of k ≡ true → Early (k % 16)
early_yes k e = go (leb 1 n) refl (leb n 3) refl e
  where
    n : ℕ
    n = k % 16

    go : (a : Bool) → leb 1 n ≡ a → (b : Bool) → leb n 3 ≡ b → (a && b) ≡ true → Early n
    go true p true q e = record { least = leb-true 1 n p; most = leb-true n 3 q }
    go true p false q e = absurd (false≢true e)
    go false p b q e = absurd (false≢true e)

early_no : (k : ℕ) → is_early_of k ≡ false → Early (k % 16) → ⊥
early_no k e y = true≢false (sym (ap₂ (λ (a b : Bool). a && b) (le-leb 1 (k % 16) y.least) (le-leb (k % 16) 3 y.most)) ∙ e)

-- ---- the search by index
module _ (l : List ℕ) (n : ℕ) where
  pub early-none : NoneEarly l n 0
  early-none = record { passed = omega arith; before = λ p h. absurd (never p h) }
    where
      never : (p : ℕ) → p < 0 → ⊥
      never p h = omega arith

  pub early_more : (i : ℕ) → NoneEarly l n i → i < n → is_early_of (get_or l i 0) ≡ false → NoneEarly l n (i + 1)
  early_more i s h f =
      record {
        passed = omega arith;
        before = λ p g. cases (ltb p i)
            (λ t. s.before p (ltb-true p i t))
            (λ t. let q : p ≡ i = omega (arith, ltb-false p i t) in subst (λ (k : ℕ). is_early_of (get_or l k 0) ≡ false) (sym q) f);
      }

  pub early_found : (i : ℕ) → NoneEarly l n i → is_early_of (get_or l i 0) ≡ true → EarlyAt l n i
  early_found i s e = record { none = s; here = λ g. e }

  pub early_done : (i : ℕ) → NoneEarly l n i → n ≤ i → EarlyAt l n i
  early_done i s h = record { none = s; here = λ g. absurd (clash i n g h) }
    where
      clash : (i n : ℕ) → i < n → n ≤ i → ⊥
      clash i n g h = omega arith

-- ---- the search for it: whether it found none, and where the lowest is
pub record Low (l : List ℕ) (n : ℕ) (sound : Bool) : Type 0 where
  pub low : ℕ
  pub early : EarlyAt l n low
  pub sound_is : leb n low ≡ sound

pub low_of : {l : List ℕ} {n : ℕ} (r : Option ℕ) {sound : Bool} → MatchOption r (NoneEarly l n n) (λ i. (i < n) × EarlyAt l n i) → is_some r ≡ not sound → Low l n sound
low_of {l} {n} None {sound = true} e s = record { low = n; early = early_done l n n e (le_refl n); sound_is = le-leb n n (le_refl n) }
low_of None {sound = false} e s = absurd (false≢true s)
low_of (Some i) {sound = true} e s = absurd (true≢false s)
low_of {n = n} (Some i) {sound = false} e s = record { low = i; early = e.1; sound_is = lt-leb n i e.0 }

-- ---- a ring that fails none of them is one that the shell's table takes
whole_sound : (ring : List ℕ) → is_broken ring ≡ false → S.Sound ring
unfolding is_broken
whole_sound ring e = let n = none_of (is_short ring) (is_unclosed ring) (is_repeated ring) e in sound_of ring n.0 n.1 n.2

-- ---- the table keeps its size

words_few : (es st ft : List ℕ) (n m : ℕ) → Layout es st ft n → m ≤ get_or ft n 0 → length (words_to es st (owner_of ft n) m) ≤ get_or st m 0
unfolding words_to
words_few es st ft n zero s h = omega arith
words_few es st ft n (suc m) s h =
    let of : ℕ → ℕ = owner_of ft n in
    let ih : length (words_to es st of m) ≤ get_or st m 0 = words_few es st ft n m s (omega arith) in
    let o : get_or st m 0 ≤ get_or st (m + 1) 0 = s.ordered m (m + 1) (omega arith) (omega arith) in
    let l : length (ring_words_of es st (of m) m) ≡ get_or st (m + 1) 0 - get_or st m 0 - 1 = length-span (step_word es (of m) (get_or st m 0) (get_or st (m + 1) 0)) (get_or st m 0) (get_or st (m + 1) 0 - get_or st m 0 - 1) in
    let a : length (words_to es st of m ++ ring_words_of es st (of m) m) ≡ length (words_to es st of m) + length (ring_words_of es st (of m) m) = length-append (words_to es st of m) (ring_words_of es st (of m) m) in
    let e : get_or st (suc m) 0 ≡ get_or st (m + 1) 0 = ap (λ (k : ℕ). get_or st k 0) (omega arith) in
    omega arith

pub table-length : (es st ft : List ℕ) (n : ℕ) (room table : List ℕ) → Layout es st ft n → length room ≡ 1024 → table ≡ table_of es st ft n room → length table ≡ 1024
unfolding table_of
table-length es st ft n room table s h e =
    let ws : List ℕ = words_of es st ft n in
    let w : length ws ≤ get_or st (get_or ft n 0) 0 = words_few es st ft n (get_or ft n 0) s (omega arith) in
    let l : length (ascending ws) ≡ length ws = length-ascending ws in
    let d : length (drop (length ws) room) ≡ length room - length ws = length-drop (length ws) room in
    ap length e ∙ length-append (ascending ws) (drop (length ws) room) ∙ omega (arith, s.inside)

-- ---- all of it
module _ {points : List ℤ} {entries starts firsts : List ℕ} {s : Scalars} (ld : Loaded points entries starts firsts s) {findings findings' : List ℕ} {parts parts' : List ℤ} (size-f : length findings ≡ 256) (size-p : length parts ≡ 256)
    (ch : Checked s.tolerance points entries starts firsts s.polygons findings parts findings' parts') where
  pub checked_found : Found points entries starts firsts findings' s
  checked_found =
      record {
        size = ap length ch.found ∙ length-upto (λ p _. kept_at s.tolerance points entries starts firsts p) 0 findings s.polygons ∙ size-f;
        each = λ p h. ap (λ (l : List ℕ). get_or l p 0) ch.found ∙ upto_done (λ p _. kept_at s.tolerance points entries starts firsts p) 0 findings s.polygons p h (omega (arith, ld.layout.few));
      }

  pub checked_summed : Summed points entries starts firsts parts' s
  checked_summed =
      record {
        size = ap length ch.summed ∙ length-upto (λ p _. part_at points entries starts firsts p) (pos 0) parts s.polygons ∙ size-p;
        each = λ p h. ap (λ (l : List ℤ). get_or l p (pos 0)) ch.summed ∙ upto_done (λ p _. part_at points entries starts firsts p) (pos 0) parts s.polygons p h (omega (arith, ld.layout.few));
      }

  number_at : (p : ℕ) → p < s.polygons → get_or findings' p 0 % 16 ≡ finding_number_of (finding s.tolerance (points_of points) (polygon_at entries starts firsts p))
  number_at p h = kept_number (finding s.tolerance (points_of points) (polygon_at entries starts firsts p)) (checked_found.each p h)

  -- some ring is broken
  pub early-is_broken : (r : ℕ) → EarlyAt findings' s.polygons r → r < s.polygons → Broken entries starts firsts s.polygons
  early-is_broken r e h =
      record {
        polygon = r;
        below = h;
        broken = one_broken s.tolerance (points_of points) (polygon_at entries starts firsts r) (ring_at entries starts r) (one_each ld r h) (subst Early (number_at r h) (early_yes (get_or findings' r 0) (e.here h)));
      }

  -- none is: the shell's table takes them all
  pub none_broken : (r : ℕ) → EarlyAt findings' s.polygons r → s.polygons ≤ r → S.Loaded entries starts firsts s.polygons
  none_broken r e h =
      record {
        points = s.points;
        layout = ld.layout;
        held = ld.entered;
        sound = λ p g. let k : p < s.polygons = omega (arith, rings-many ld) in whole_sound (ring_at entries starts p) (subst (λ (q : ℕ). is_broken (ring_at entries starts q) ≡ false) (ld.ones p (omega arith)) (whole p k (is_broken (polygon_at entries starts firsts p).outer) refl));
        apart = λ p q t i j g f u v a b c. absurd (alone p q t g f u v);
      }
    where
      whole : (p : ℕ) → p < s.polygons → (b : Bool) → is_broken (polygon_at entries starts firsts p).outer ≡ b → b ≡ false
      whole p g false q = refl
      whole p g true q = absurd (early_no (get_or findings' p 0) (e.none.before p (omega arith)) (subst Early (sym (number_at p g)) (broken_one s.tolerance (points_of points) (polygon_at entries starts firsts p) (ring_at entries starts p) (one_each ld p g) q)))

      -- a polygon of one ring has no second
      alone : (p q t : ℕ) → p < s.polygons → get_or firsts p 0 ≤ q → q < t → t < get_or firsts (p + 1) 0 → ⊥
      alone p q t g f u v = omega (arith, ld.ones p (omega arith), ld.ones (p + 1) (omega arith))

-- all stamps are 0
stamps_none : (entries starts firsts : List ℕ) (n : ℕ) (stamps : List ℕ) → length stamps ≡ 256 → n ≤ 256 → take n (zeroed stamps 256) ≡ map (λ (p : Polygon). 0) (polygons entries starts firsts n)
unfolding polygons
stamps_none entries starts firsts n stamps h few =
    take_is_tab (zeroed stamps 256) n 0 (omega (arith, length-upto (λ p old. 0) 0 stamps 256))
    ∙ tab_ext (λ p. get_or (zeroed stamps 256) p 0) (λ p. 0) n (λ p g. zeroed-all stamps h p)
    ∙ sym (map-tab (λ (p : Polygon). 0) (polygon_at entries starts firsts) n)

module _ (a a' : Arrays) (s : Scalars) (ld : LoadedIn a s) (sz : Sizes a) where
  pub did_loaded : a'.points.flat ≡ a.points.flat
      → a'.rings ≡ a.rings
      → Checked s.tolerance a.points.flat a.rings.entries a.rings.starts a.rings.firsts s.polygons a.findings a.parts a'.findings a'.parts
      → a'.stamps ≡ zeroed a.stamps 256
      → a'.turned ≡ zeroed a.turned 256
      → length a'.table ≡ 1024
      → (edges : ℕ) (fixed shape : Shape)
      → S.Listed (polygons a.rings.entries a.rings.starts a.rings.firsts s.polygons) a'.table edges a'.turned
      → Broken a.rings.entries a.rings.starts a.rings.firsts s.polygons ⊎ S.Edged (polygons a.rings.entries a.rings.starts a.rings.firsts s.polygons) a'.table edges a'.turned fixed
      → Shown a'.table edges a'.turned fixed shape
      → {r : Scalars} → r ≡ record { tolerance = s.tolerance; points = s.points; polygons = s.polygons; last = 0; edges = edges; fixed = fixed; shape = shape }
      → Did (loaded (tables_in a s)) a' r
  unfolding held_building held_tables loaded
  did_loaded pt rg ch e f w edges fixed shape li sh now g =
      let fo = checked_found ld sz.findings sz.parts ch in
      let su = checked_summed ld sz.findings sz.parts ch in
      rw g
      (record {
        held = record {
          loaded = rw (pt, rg) (record { coords = ld.coords; first = ld.first; layout = ld.layout; ones = ld.ones; entered = ld.entered; tolerant = ld.tolerant; short = ld.short });
          stamped = ap length e ∙ length-upto (λ p old. 0) 0 a.stamps 256 ∙ sz.stamps;
          kept = record {
            found = rw (pt, rg) (record { size = fo.size; each = fo.each });
            summed = rw (pt, rg) (record { size = su.size; each = su.each });
            table-size = w;
            turned-size = ap length f ∙ length-upto (λ p old. 0) 0 a.turned 256 ∙ sz.turned;
            listed = rw rg li;
            shaped = rw rg sh;
            shown = now;
          };
        };
        is = rw (pt, rg, e, stamps_none a.rings.entries a.rings.starts a.rings.firsts s.polygons a.stamps sz.stamps ld.layout.few);
      })

module _ (a : Arrays) (s : Scalars) (ld : LoadedIn a s) (sz : Sizes a) where
  -- the table that was built belongs to the rings, and the verdict too where none is broken
  module _ (room table' turned' : List ℕ) (count : ℕ) (sound : Bool) (fixed : Shape) (b : S.Built a.rings.entries a.rings.starts a.rings.firsts s.polygons room table' count sound fixed) (e : turned' ≡ zeroed a.turned 256) where
    none-turned : (p : ℕ) → get_or turned' p 0 ≡ 0
    none-turned p = ap (λ (k : List ℕ). get_or k p 0) e ∙ zeroed-all a.turned sz.turned p

    pub built-listed : S.Listed (polygons a.rings.entries a.rings.starts a.rings.firsts s.polygons) table' count turned'
    built-listed = listed-built a.rings.entries a.rings.starts a.rings.firsts s.polygons room table' count turned' sound fixed b none-turned ld.layout

    pub built-shaped : (sound ≡ true → S.Loaded a.rings.entries a.rings.starts a.rings.firsts s.polygons) → (sound ≡ false → Broken a.rings.entries a.rings.starts a.rings.firsts s.polygons)
        → Broken a.rings.entries a.rings.starts a.rings.firsts s.polygons ⊎ S.Edged (polygons a.rings.entries a.rings.starts a.rings.firsts s.polygons) table' count turned' fixed
    built-shaped whole broken =
        cases sound (λ t. inr (edged_built a.rings.entries a.rings.starts a.rings.firsts s.polygons room table' count turned' sound fixed b none-turned t (whole t))) (λ t. inl (broken t))
