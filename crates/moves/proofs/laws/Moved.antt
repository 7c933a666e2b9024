-- A move: what is kept after it is what the definitions give for the point's new place.
use Rattle.std.specs.Prelude.{ℕ, zero, suc, ◌+◌, ◌*◌, ◌≤◌, ◌<◌, ◌≡◌, refl, Bool, true, false, cond, List, [], ◌∷◌, get_or, take, ℤ, pos}
use Rattle.std.proofs.Common.{arith, sym, ap, ◌∙◌, length-take-le, get_or-take, ext_get_or}
use Rattle.std.proofs.Math.ListN.{length}
use Rattle.std.proofs.Math.Seq.{take-set-lt}
use Rattle.whole.specs.Lists.{lists, tab}
use Rattle.whole.specs.held.Stored.{upto}
use Rattle.whole.specs.laws.Stores.{upto_done, length-upto}
use Rattle.space.specs.Space.{Point}
use Rattle.inner.specs.Finding.{finding, part}
use Rattle.inner.proofs.laws.Kept.{finding_kept, part_kept}
use Rattle.space.specs.held.Points.{points_of}
use Rattle.places.specs.held.Places.{placed, NearPlace}
use Rattle.places.specs.laws.Near.{placed-points, placed_coords}
use Rattle.ring.specs.Polygon.{Polygon, one, entries_from}
use Rattle.ring.specs.held.Rings.{polygon_at, polygons}
use Rattle.building.specs.declared.Arrays.{Arrays}
use Rattle.building.specs.declared.Scalars.{Scalars}
use Rattle.polygon.specs.held.Findings.{kept_finding}
use Rattle.building.specs.Tables.{stamp_users, moved}
use Rattle.whole.specs.laws.Places.{tab-length, tab-at}
use Rattle.building.specs.held.Holds.{held_tables, held_building, Loaded, Found, Summed, Held, Did}
use Rattle.renew.specs.held.Renewed.{kept_at, part_at}
use Rattle.moves.specs.held.Steps.{restamp, refind, repart, Looked}

-- ---- looked at again, or as it was
again : {A : Type 0} (b : Bool) → {c : Bool} → c ≡ b → (new old : A) → (b ≡ false → old ≡ new) → cond c new old ≡ new
again true e new old f = ap (λ (t : Bool). cond t new old) e
again false e new old f = ap (λ (t : Bool). cond t new old) e ∙ f refl

module _ (points : List ℤ) (entries starts firsts : List ℕ) (s : Scalars) (few : s.polygons ≤ 256) (n : ℕ) (p : Point) (h : 3 * n + 2 < length points) where
  -- a ring that does not list the point keeps its finding and its part
  found_kept : (q : ℕ) → lists n (entries_from (polygon_at entries starts firsts q)) ≡ false → kept_at s.tolerance (placed points n p) entries starts firsts q ≡ kept_at s.tolerance points entries starts firsts q
  found_kept q f =
      ap (λ (ps : List Point). kept_finding (finding s.tolerance ps (polygon_at entries starts firsts q))) (placed-points points n p h)
      ∙ ap kept_finding (finding_kept (points_of points) n p (polygon_at entries starts firsts q) f s.tolerance)

  part_at_kept : (q : ℕ) → lists n (entries_from (polygon_at entries starts firsts q)) ≡ false → part_at (placed points n p) entries starts firsts q ≡ part_at points entries starts firsts q
  part_at_kept q f = ap (λ (ps : List Point). part ps (polygon_at entries starts firsts q)) (placed-points points n p h) ∙ part_kept (points_of points) n p (polygon_at entries starts firsts q) f

  pub moved_found : {findings : List ℕ} → Found points entries starts firsts findings s → Found (placed points n p) entries starts firsts (upto (refind s.tolerance (placed points n p) entries starts firsts n) 0 findings s.polygons) s
  moved_found {findings} k =
      record {
        size = length-upto (refind s.tolerance (placed points n p) entries starts firsts n) 0 findings s.polygons ∙ k.size;
        each = λ q g. upto_done (refind s.tolerance (placed points n p) entries starts firsts n) 0 findings s.polygons q g (omega (arith, k.size)) ∙
            again (lists n (entries_from (polygon_at entries starts firsts q))) refl (kept_at s.tolerance (placed points n p) entries starts firsts q) (get_or findings q 0) (λ f. k.each q g ∙ sym (found_kept q f));
      }

  pub moved_summed : {parts : List ℤ} → Summed points entries starts firsts parts s → Summed (placed points n p) entries starts firsts (upto (repart (placed points n p) entries starts firsts n) (pos 0) parts s.polygons) s
  moved_summed {parts} k =
      record {
        size = length-upto (repart (placed points n p) entries starts firsts n) (pos 0) parts s.polygons ∙ k.size;
        each = λ q g. upto_done (repart (placed points n p) entries starts firsts n) (pos 0) parts s.polygons q g (omega (arith, k.size)) ∙
            again (lists n (entries_from (polygon_at entries starts firsts q))) refl (part_at (placed points n p) entries starts firsts q) (get_or parts q (pos 0)) (λ f. k.each q g ∙ sym (part_at_kept q f));
      }

-- ---- the stamps
length_users : (number n : ℕ) (ps : List Polygon) (ss : List ℕ) → length ps ≡ length ss → length (stamp_users number n ps ss) ≡ length ss
unfolding stamp_users
length_users number n [] [] e = refl
length_users number n [] (x ∷ ss) e = e
length_users number n (q ∷ ps) [] e = refl
length_users number n (q ∷ ps) (x ∷ ss) e = ap suc (length_users number n ps ss (omega arith))

get_d_users : (number n : ℕ) (ps : List Polygon) (ss : List ℕ) → length ps ≡ length ss → (i : ℕ) → i < length ss → get_or (stamp_users number n ps ss) i 0 ≡ cond (lists n (entries_from (get_or ps i (one [])))) number (get_or ss i 0)
unfolding stamp_users
get_d_users number n [] [] e i h = absurd (omega arith)
get_d_users number n [] (x ∷ ss) e i h = absurd (omega arith)
get_d_users number n (q ∷ ps) [] e i h = absurd (omega arith)
get_d_users number n (q ∷ ps) (x ∷ ss) e zero h = refl
get_d_users number n (q ∷ ps) (x ∷ ss) e (suc i) h = get_d_users number n ps ss (omega arith) i (omega arith)

pub moved_stamps : (entries starts firsts : List ℕ) (number n m : ℕ) (stamps : List ℕ) → m ≤ length stamps
    → take m (upto (restamp entries starts firsts number n) 0 stamps m) ≡ stamp_users number n (polygons entries starts firsts m) (take m stamps)
unfolding polygons
moved_stamps entries starts firsts number n m stamps w =
    let f = restamp entries starts firsts number n in
    let u : m ≤ length (upto f 0 stamps m) = rw (length-upto f 0 stamps m) w in
    let l₁ : length (take m (upto f 0 stamps m)) ≡ m = length-take-le m (upto f 0 stamps m) u in
    let l₂ : length (take m stamps) ≡ m = length-take-le m stamps w in
    let l₃ : length (tab (polygon_at entries starts firsts) m) ≡ length (take m stamps) = tab-length (polygon_at entries starts firsts) m ∙ sym l₂ in
    ext_get_or 0 (take m (upto f 0 stamps m)) (stamp_users number n (tab (polygon_at entries starts firsts) m) (take m stamps))
    (l₁ ∙ sym (length_users number n (tab (polygon_at entries starts firsts) m) (take m stamps) l₃ ∙ l₂))
    (λ i h. let b : i < m = omega arith in
    let b₂ : i < length (take m stamps) = omega arith in
    get_or-take m (upto f 0 stamps m) i 0 b ∙ upto_done f 0 stamps m i b w
    ∙ sym (get_d_users number n (tab (polygon_at entries starts firsts) m) (take m stamps) l₃ i b₂ ∙ (rw (tab-at (polygon_at entries starts firsts) m i (one []) b, get_or-take m stamps i 0 b))))

-- ---- all of it
module _ {points : List ℤ} {entries starts firsts : List ℕ} {s : Scalars} (ld : Loaded points entries starts firsts s) (n : ℕ) (p : Point) where
  pub moved-loaded : NearPlace p → Loaded (placed points n p) entries starts firsts s
  moved-loaded near = record { coords = placed_coords points n p ld.coords near; first = ld.first; layout = ld.layout; ones = ld.ones; entered = ld.entered; tolerant = ld.tolerant; short = ld.short }

module _ (a a' : Arrays) (s : Scalars) (hd : Held a s) (number n : ℕ) (p : Point) (h : n < s.points) (near : NearPlace p) where
  pub did_moved : a'.points.flat ≡ placed a.points.flat n p
      → a'.rings ≡ a.rings
      → a'.table ≡ a.table
      → a'.turned ≡ a.turned
      → Looked s.tolerance a'.points.flat a.rings.entries a.rings.starts a.rings.firsts number n s.polygons a.stamps a.findings a.parts a'.stamps a'.findings a'.parts
      → Did (moved number n p (held_building a s)) a' (record { tolerance = s.tolerance; points = s.points; polygons = s.polygons; last = number; edges = s.edges; fixed = s.fixed; shape = s.shape })
  unfolding held_building held_tables moved
  did_moved e rg tb tu looked =
      let ld = hd.loaded in
      let kp = hd.kept in
      let lo : Looked s.tolerance (placed a.points.flat n p) a.rings.entries a.rings.starts a.rings.firsts number n s.polygons a.stamps a.findings a.parts a'.stamps a'.findings a'.parts = rw e at looked in
      let w : 3 * n + 2 < length a.points.flat = omega (arith, ld.coords.room, ld.entered.few) in
      let few : s.polygons ≤ 256 = ld.layout.few in
      let b : s.polygons ≤ length a.stamps = omega (arith, hd.stamped) in
      let lm = moved-loaded ld n p near in
      let fo = moved_found a.points.flat a.rings.entries a.rings.starts a.rings.firsts s few n p w kp.found in
      let su = moved_summed a.points.flat a.rings.entries a.rings.starts a.rings.firsts s few n p w kp.summed in
      record {
        held = record {
          loaded = rw (e, rg) (record { coords = lm.coords; first = lm.first; layout = lm.layout; ones = lm.ones; entered = lm.entered; tolerant = lm.tolerant; short = lm.short });
          stamped = ap length lo.stamped ∙ length-upto (restamp a.rings.entries a.rings.starts a.rings.firsts number n) 0 a.stamps s.polygons ∙ hd.stamped;
          kept = record {
            found = rw (e, rg, lo.found) (record { size = fo.size; each = fo.each });
            summed = rw (e, rg, lo.summed) (record { size = su.size; each = su.each });
            table-size = ap length tb ∙ kp.table-size;
            turned-size = ap length tu ∙ kp.turned-size;
            listed = rw (rg, tb, tu) kp.listed;
            shaped = rw (rg, tb, tu) kp.shaped;
            shown = rw (tb, tu) kp.shown;
          };
        };
        is = rw (e, rg, lo.stamped, placed-points a.points.flat n p w, take-set-lt s.points (points_of a.points.flat) n p h, moved_stamps a.rings.entries a.rings.starts a.rings.firsts number n s.polygons a.stamps b);
      }
