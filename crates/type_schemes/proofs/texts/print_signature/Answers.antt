use Rattle.std.proofs.Common.{◌++◌, sym, map}
use Rattle.std.specs.Prelude.{codes}
use Rattle.type_schemes.proofs.Writing.{prints_more, prints_as}
use Rattle.type_schemes.specs.Texts as spec
use Rattle.type_schemes.proofs.texts.print_signature.Goals as goal

pub returns : goal.returns
returns g c =
    let names = c.args.by.now.names.now in
    let enums = c.args.by.now.enums.now in
    prints_as _ _ _ _ _ _ _ (spec.type_line names enums c.args.sig.now)
    (prints_more _ _ _ _ _ _ _ _ _ _ _ (prints_more _ _ _ _ _ _ _ _ _ _ _ (prints_more _ _ _ _ _ _ _ _ _ _ _ (prints_more _ _ _ _ _ _ _ _ _ _ _ c.put-begun.ensures c.put-named.ensures) c.put-told.ensures) c.print_params-listed.ensures) c.print_term.ensures)
    (λ i. (((codes "val " ++ sym c.spelled.ensures i) ++ codes " : ") ++ spec.arrows c.args.sig.now.kind (map (spec.shown names enums) (sym c.as_slice.ensures.value i))) ++ (spec.shown names enums c.args.sig.now.result).whole)
