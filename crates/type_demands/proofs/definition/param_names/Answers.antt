use Rattle.std.proofs.Common.{◌++◌, ap, sym, ◌∙◌, map}
use Rattle.ls_places.specs.Patterns.{joined, names_of}
use Rattle.type_demands.proofs.Names.{names_all}
use Rattle.type_demands.proofs.definition.param_names.Goals as goal

pub returns : goal.returns
returns c = c.in_ok-add_all_names.ensures ∙ ap (λ z. z ++ joined (map names_of c.args.params.now)) c.new-list.ensures ∙ sym (names_all c.args.params.now)
