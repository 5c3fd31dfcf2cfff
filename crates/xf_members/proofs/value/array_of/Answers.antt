use Rattle.std.proofs.Common.{◌∙◌, Some, map, sym, ap}
use Rattle.std.specs.Prelude.{option_map}
use Rattle.serde_json.specs.View.{view}
use Rattle.xf_members.specs.Values.{list_of}
use Rattle.xf_members.proofs.Lists.{list_of-items}
use Rattle.xf_members.proofs.value.array_of.Goals as goal

pub returns-in-Some : goal.returns-in-Some
returns-in-Some c =
    ap (λ values. Some (map view values)) c.as_slice.ensures.value
    ∙ ap Some (sym (list_of-items (map view c.in-Some.values.now.items)))
    ∙ ap (option_map list_of) c.in-Some.ensures
