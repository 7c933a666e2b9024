-- `telling::put_report` meets its contract.
use Rattle.telling.specs.laws.Told.{wrote_report}
use Rattle.report.specs.laws.Told.{kept-faults, kept-volume, kept-summable}
use Rattle.building.specs.held.Holds.{tables_in}
use Rattle.whole.specs.laws.Size.{call_is}
use mir.Syntax.{w64}
use mathlib.Core.Path.{◌∙◌}
use Rattle.telling.proofs.put_report.Goals as goal

pub six_volume-volume-requires : goal.six_volume-volume-requires
six_volume-volume-requires c = let k = c.requires.loaded in kept-summable k.0 k.1.summed

pub verdict_of-v-requires : goal.verdict_of-v-requires
verdict_of-v-requires c = let k = c.requires.loaded in
    record { loaded = k.0; kept = k.1; faults_value = (c.faults_of-faults.ensures, call_is w64 c.six_volume-volume.type_inv c.six_volume-volume.ensures) }

pub returns : goal.returns
returns c = let a = c.args in
    let k = c.requires.loaded in
    wrote_report (tables_in a.arrays.now a.s) c.verdict_of-v.result c.check_number-check.result c.element_a-a.result c.element_b-b.result c.faults_of-faults.result _
    c.verdict_of-v.ensures c.check_number-check.ensures c.element_a-a.ensures c.element_b-b.ensures
    (c.faults_of-faults.ensures ∙ kept-faults k.0 k.1.found)
    (call_is w64 c.six_volume-volume.type_inv (c.six_volume-volume.ensures ∙ kept-volume k.0 k.1.summed))
    a.room.now _ _ _ c.put_report.ensures
