-- `holes::bounds::widened` meets its contract. Number by number.
use mathlib.Core.Path.{◌∙◌, ap₂}
use mir.Syntax.{w64}
use Rattle.whole.specs.laws.Size.{call_is, small_back}
use Rattle.plane.specs.held.Edges.{least, most}
use Rattle.holes.proofs.bounds.widened.Goals as goal

pub returns : goal.returns
returns c = let b = c.requires.0 in
    let p = c.requires.1 in
    record {
      lu = call_is w64 c.min-lu.type_inv (c.min-lu.ensures.value ∙ ap₂ least (small_back w64 tt b.lu) (small_back w64 tt p.on_u));
      hu = call_is w64 c.max-hu.type_inv (c.max-hu.ensures.value ∙ ap₂ most (small_back w64 tt b.hu) (small_back w64 tt p.on_u));
      lv = call_is w64 c.min-lv.type_inv (c.min-lv.ensures.value ∙ ap₂ least (small_back w64 tt b.lv) (small_back w64 tt p.on-v));
      hv = call_is w64 c.max-hv.type_inv (c.max-hv.ensures.value ∙ ap₂ most (small_back w64 tt b.hv) (small_back w64 tt p.on-v));
    }
