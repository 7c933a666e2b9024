-- From lines to bytes: what the entry's statement says of one line of a stream, and a fresh load as bytes.
use Rattle.std.specs.Prelude.{ℕ, ◌+◌, ◌*◌, ◌≤◌, ◌≡◌, ℤ, pos}
use native.Mathlib.Omega.{arith}
use Rattle.std.proofs.Math.Path.{refl, ap}
use Rattle.std.proofs.Common.{sym, ◌∙◌}
use mathlib.Core.List.{List, [], ◌∷◌, ◌++◌, map, append_assoc, append-nil}
use Rattle.std.proofs.Math.ListN.{length, drop, length-append, length-map}
use Rattle.whole.specs.laws.Agree.{agree}
use Rattle.whole.specs.All.{All, none, more}
use Rattle.whole.specs.laws.Alls.{all_append}
use Rattle.lines.specs.Lines.{lines, ended, joined}
use Rattle.lines.specs.laws.LineLaws.{NoFeed, lines-joined, length-joined}
use Rattle.hexadecimal.specs.Hex.{digits, bits32}
use Rattle.hexadecimal.specs.laws.Back.{length_digits}
use Rattle.frame.specs.laws.RoundTrip.{length-four_each}
use Rattle.frame.specs.Frame.{begin, point, polygon, end_of_load}
use Rattle.frame.specs.Encode.{encode, eight, four_each}
use Rattle.frame.specs.laws.Written.{encode_no_feed}
use Rattle.space.specs.Space.{Point}
use Rattle.ring.specs.Polygon.{Polygon}
use Rattle.building.specs.Tables.{Tables, entries}
use Rattle.building.specs.laws.Loadable.{Loadable, PolygonOver}
use Rattle.service.specs.Service.{State, nothing, step}
use Rattle.service.specs.Stream.{Served, run, answers, served, Answers, after, Stands}
use Rattle.service.specs.Fresh.{point_line, polygon_line, load_lines, fresh_report, fresh_stream}
use Rattle.service.proofs.laws.Fresh.{entries_alone}
use Rattle.service.proofs.laws.Room.{answered-stream}

-- any two results that the entry's statement allows agree
pub answer_agrees : (stream room : List ℕ) (c₁ c₂ : ℤ) (r₁ r₂ : List ℕ) → Answers stream room c₁ r₁ → Answers stream room c₂ r₂ → (c₁ ≡ c₂) × (r₁ ≡ r₂)
answer_agrees stream room c₁ c₂ r₁ r₂ a b = (agree a.number b.number, agree a.bytes b.bytes)

-- the answers to some lines, to one more, and to those after it
run_at : (st : State) (ls : List (List ℕ)) (l : List ℕ) (rest : List (List ℕ)) → run st (ls ++ l ∷ rest) ≡ run st ls ++ (ended (step (after st ls) l).answer ++ run (step (after st ls) l).next rest)
unfolding run after
run_at st [] l rest = refl
run_at st (m ∷ ls) l rest =
    ap (λ (q : List ℕ). ended (step st m).answer ++ q) (run_at (step st m).next ls l rest)
    ∙ sym (append_assoc (ended (step st m).answer) (run (step st m).next ls) (ended (step (after (step st m).next ls) l).answer ++ run (step (after (step st m).next ls) l).next rest))

-- what a stream answers last
pub answers-last : (stream : List ℕ) (ls : List (List ℕ)) (l : List ℕ) → lines stream ≡ ls ++ (l ∷ []) → answers stream ≡ run nothing ls ++ ended (step (after nothing ls) l).answer
unfolding answers run
answers-last stream ls l e =
    ap (run nothing) e
    ∙ run_at nothing ls l []
    ∙ ap (λ (q : List ℕ). run nothing ls ++ q) (append-nil (ended (step (after nothing ls) l).answer))

points_no_feed : (ps : List Point) → All NoFeed (map point_line ps)
unfolding point_line
points_no_feed [] = none
points_no_feed (p ∷ ps) = more (encode_no_feed (point p.x p.y p.z)) (points_no_feed ps)

polygons_no_feed : (ps : List Polygon) → All NoFeed (map polygon_line ps)
unfolding polygon_line
polygons_no_feed [] = none
polygons_no_feed (p ∷ ps) = more (encode_no_feed (polygon p.outer)) (polygons_no_feed ps)

pub fresh_lines : (t : Tables) → lines (fresh_stream t) ≡ load_lines t ++ (encode end_of_load ∷ [])
unfolding fresh_stream load_lines
fresh_lines t =
    lines-joined (load_lines t ++ (encode end_of_load ∷ []))
    (all_append (more (encode_no_feed (begin t.tolerance)) (all_append (points_no_feed t.points) (polygons_no_feed t.polygons))) (more (encode_no_feed end_of_load) none))

-- fed to the same service, it answers the fresh report last
pub fresh_answers : (t : Tables) → answers (fresh_stream t) ≡ run nothing (load_lines t) ++ ended (fresh_report t)
unfolding fresh_report
fresh_answers t = answers-last (fresh_stream t) (load_lines t) (encode end_of_load) (fresh_lines t)

-- ---- and it is a stream that is not refused as a whole

length_point : (p : Point) → length (point_line p) ≡ 26
unfolding point_line encode eight
length_point p =
    let x : length (eight p.x) ≡ 8 = length_digits 8 (bits32 p.x) in
    let y : length (eight p.y) ≡ 8 = length_digits 8 (bits32 p.y) in
    let z : length (eight p.z) ≡ 8 = length_digits 8 (bits32 p.z) in
    omega (arith, length-append (digits 2 2) (eight p.x ++ (eight p.y ++ eight p.z)), length_digits 2 2, length-append (eight p.x) (eight p.y ++ eight p.z), length-append (eight p.y) (eight p.z))

length-polygon : (p : Polygon) → length (polygon_line p) ≡ 2 + 4 * length p.outer
unfolding polygon_line encode
length-polygon p = omega (arith, length-append (digits 2 3) (four_each p.outer), length_digits 2 3, length-four_each p.outer)

joined_append : (ls ms : List (List ℕ)) → length (joined (ls ++ ms)) ≡ length (joined ls) + length (joined ms)
joined_append [] ms = unfold joined in (omega arith)
joined_append (l ∷ ls) ms = omega (arith, length-joined l (ls ++ ms), length-joined l ls, joined_append ls ms)

points-bytes : (ps : List Point) → length (joined (map point_line ps)) ≡ 27 * length ps
points-bytes [] = unfold joined in refl
points-bytes (p ∷ ps) = omega (arith, length-joined (point_line p) (map point_line ps), length_point p, points-bytes ps)

-- a polygon's line has the entries of its one ring
polygons-bytes : {n : ℕ} (ps : List Polygon) → All (PolygonOver n) ps → length (joined (map polygon_line ps)) ≡ 3 * length ps + 4 * entries ps
unfolding entries
polygons-bytes [] none = unfold joined in refl
polygons-bytes (p ∷ ps) (more r rs) = omega (arith, length-joined (polygon_line p) (map polygon_line ps), length-polygon p, entries_alone p r.alone, polygons-bytes ps rs)

length-begin : (t : ℕ) → length (encode (begin t)) ≡ 6
unfolding encode
length-begin t = length-append (digits 2 1) (digits 4 t) ∙ (rw (length_digits 2 1, length_digits 4 t))

length_end : length (encode end_of_load) ≡ 2
unfolding encode
length_end = length_digits 2 4

module _ (t : Tables) (ok : Loadable t) where
  pub fresh_few : length (lines (fresh_stream t)) ≤ 770
  unfolding load_lines
  fresh_few =
      omega (
        arith,
        ap length (fresh_lines t),
        length-append (load_lines t) (encode end_of_load ∷ []),
        length-append (map point_line t.points) (map polygon_line t.polygons),
        length-map t.points point_line,
        length-map t.polygons polygon_line,
        ok.points_few,
        ok.polygons_few,
      )

  pub fresh_short : length (fresh_stream t) ≤ 18698
  unfolding fresh_stream load_lines
  fresh_short =
      let e : length (joined []) ≡ 0 = unfold joined in refl in
      omega (
        arith,
        e,
        joined_append (load_lines t) (encode end_of_load ∷ []),
        length-joined (encode (begin t.tolerance)) (map point_line t.points ++ map polygon_line t.polygons),
        length-begin t.tolerance,
        joined_append (map point_line t.points) (map polygon_line t.polygons),
        points-bytes t.points,
        polygons-bytes t.polygons ok.each,
        length-joined (encode end_of_load) [],
        length_end,
        ok.points_few,
        ok.polygons_few,
        ok.entries_few,
      )

-- ---- what the entry left in the room

module _ (stream room : List ℕ) (code : ℤ) (room' : List ℕ) (returned : Answers stream room code room') where
  -- a stream that is not refused as a whole
  pub entry-bytes : length stream ≤ 65535 → length (lines stream) ≤ 1024 → 33 * length (lines stream) ≤ length room
      → (code ≡ pos (length (answers stream))) × (room' ≡ answers stream ++ drop (length (answers stream)) room)
  entry-bytes a b c =
      let s : served stream room ≡ _ = answered-stream stream room a b c in
      (returned.number ∙ ap (λ (q : Served). q.code) s, returned.bytes ∙ ap (λ (q : Served). q.room) s)

  -- a stream refused as a whole, with its number n
  pub entry-refused : (n : ℤ) → served stream room ≡ record { code = n; room = room } → (code ≡ n) × (room' ≡ room)
  entry-refused n s = (returned.number ∙ ap (λ (q : Served). q.code) s, returned.bytes ∙ ap (λ (q : Served). q.room) s)

  -- the answer to each of its lines stands behind those to the lines before
  pub entry-line : length stream ≤ 65535 → length (lines stream) ≤ 1024 → 33 * length (lines stream) ≤ length room
      → (ls : List (List ℕ)) (l : List ℕ) (rest : List (List ℕ)) → lines stream ≡ ls ++ l ∷ rest
      → Stands ls (step (after nothing ls) l).answer room'
  unfolding answers
  entry-line a b c ls l rest e =
      let tail = drop (length (answers stream)) room in
      let next = run (step (after nothing ls) l).next rest in
      record {
        behind = next ++ tail;
        is = (entry-bytes a b c).1
            ∙ ap (λ (q : List ℕ). q ++ tail) (ap (run nothing) e ∙ run_at nothing ls l rest)
            ∙ append_assoc (run nothing ls) (ended (step (after nothing ls) l).answer ++ next) tail
            ∙ ap (λ (q : List ℕ). run nothing ls ++ q) (append_assoc (ended (step (after nothing ls) l).answer) next tail);
      }
