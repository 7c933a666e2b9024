-- `rings::of_polygon` meets its contract.
use Rattle.rings.specs.laws.Rows.{polygon-misplaced, polygon-absent, polygon-many, polygon-full, polygon-accepted}
use Rattle.frame.specs.Frame.{numbers}
use lib.ListN.{drop, get_or}
use Prim.Native.Nat.{ℕ}
use native.Mathlib.Omega.{arith}
use mathlib.Core.Path.{◌≡◌, sym, ap, ◌∙◌}
use Rattle.rings.proofs.of_polygon.Goals as goal

pub returns-then-not-is_loading : goal.returns-then-not-is_loading
returns-then-not-is_loading c = polygon-misplaced c.args.rings.now.starts c.args.rings.now.firsts c.args.d (numbers (drop 2 c.args.line.now)) (sym c.is_loading.ensures ∙ c.if-not-is_loading.true)

pub returns-then-names_absent : goal.returns-then-names_absent
returns-then-names_absent c = polygon-absent c.args.rings.now.starts c.args.rings.now.firsts c.args.d (numbers (drop 2 c.args.line.now)) (sym c.is_loading.ensures ∙ c.if-not-is_loading.false) (sym c.names_absent.ensures ∙ c.if-names_absent.true)

pub returns-then-polygons-ge256 : goal.returns-then-polygons-ge256
returns-then-polygons-ge256 c = polygon-many c.args.rings.now.starts c.args.rings.now.firsts c.args.d (numbers (drop 2 c.args.line.now)) (sym c.is_loading.ensures ∙ c.if-not-is_loading.false) (sym c.names_absent.ensures ∙ c.if-names_absent.false) c.if-polygons-ge256.true

pub returns-then-used-n-gt1024 : goal.returns-then-used-n-gt1024
returns-then-used-n-gt1024 c = let n = c.requires.0.count in
    let u : c.from-used.result ≡ get_or c.args.rings.now.starts (get_or c.args.rings.now.firsts c.args.d.held.polygons 0) 0 = c.from-used.ensures ∙ ap (λ (k : ℕ). get_or c.args.rings.now.starts k 0) c.from-first.ensures in
    polygon-full c.args.rings.now.starts c.args.rings.now.firsts c.args.d (numbers (drop 2 c.args.line.now)) (sym c.is_loading.ensures ∙ c.if-not-is_loading.false) (sym c.names_absent.ensures ∙ c.if-names_absent.false) c.if-polygons-ge256.false (omega arith)

pub returns : goal.returns
returns c = let n = c.requires.0.count in
    let u : c.from-used.result ≡ get_or c.args.rings.now.starts (get_or c.args.rings.now.firsts c.args.d.held.polygons 0) 0 = c.from-used.ensures ∙ ap (λ (k : ℕ). get_or c.args.rings.now.starts k 0) c.from-first.ensures in
    polygon-accepted c.args.rings.now.starts c.args.rings.now.firsts c.args.d (numbers (drop 2 c.args.line.now)) (sym c.is_loading.ensures ∙ c.if-not-is_loading.false) (sym c.names_absent.ensures ∙ c.if-names_absent.false) c.if-polygons-ge256.false (omega arith)
