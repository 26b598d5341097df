use Rattle.std.specs.Prelude.{◌++◌, ◌∷◌, [], None, nat_eq}
use Rattle.std.proofs.Common.{ap, ◌∙◌}
use Rattle.indexmap.specs.IndexMap.{get}
use Rattle.scope_rules.specs.Claims.{Known}
use Rattle.scope_rules.specs.Faults.{or_later, or_next, place_of}
use Rattle.ls_scope.proofs.Tables.{enum_added, types_more}
use Rattle.ls_scope.proofs.known.Known.with_enum.Goals as goal

pub invariant_of-result : goal.invariant_of-result
invariant_of-result c = (
  c.self.invariant.0,
  types_more c.self.inside.enums c.push-2.new.self c.args.name c.args.names c.self.inside.types c.push.new.self c.in_ok-push-2.ensures.ok c.self.invariant.1 c.in_ok-push.ensures.ok,
  λ q. enum_added c.len-t.result q c.self.inside.enums c.push-2.new.self c.args.name c.args.names _ _ c.in_ok-push-2.ensures.ok c.len-t.ensures.value (c.self.invariant.2 q)
      (c.in_ok-add_cases.ensures q ∙ (λ i. or_later (get nat_eq c.self.inside.cases q) (or_next c.len-t.result (place_of q (c.as_slice.ensures.value i)) None))),
)

pub returns : goal.returns
returns c = λ i. record {
  enums = (c.in_ok-push-2.ensures.ok ∙ ap (λ (k : Known). k.enums ++ (c.args.name, c.args.names) ∷ []) c.self.view_is) i;
  defs = ap (λ (k : Known). k.defs) c.self.view_is i;
}
