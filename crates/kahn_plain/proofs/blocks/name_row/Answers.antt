use Rattle.std.proofs.Common.{◌∙◌, ◌-◌, ap, length}
use Rattle.ls_places.specs.Search.{nth}
use Rattle.ls_places.specs.declared.definition.Definition.{Definition}
use Rattle.kahn_plain.proofs.Rights.{name_is, none_named}
use Rattle.kahn_plain.proofs.Standing.{ok_same}
use Rattle.kahn_plain.proofs.blocks.name_row.Goals as goal

pub returns-in-None : goal.returns-in-None
returns-in-None g c = ok_same c.absent_row.result _ _ (none_named c.args.body.now c.args.m
    (c.in-None.ensures ∙ ap (λ (d : Definition). nth d.places.names (c.args.m - length d.params)) c.definition.ensures)) c.absent_row.ensures

pub returns-in-Some : goal.returns-in-Some
returns-in-Some g c = ok_same c.named_row.result _ _ (name_is c.args.body.now c.args.m c.in-Some.name.now
    (c.in-Some.ensures ∙ ap (λ (d : Definition). nth d.places.names (c.args.m - length d.params)) c.definition.ensures)) c.named_row.ensures
