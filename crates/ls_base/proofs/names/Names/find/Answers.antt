use Rattle.std.proofs.Common.{◌≡◌, sym, subst, slice_get, Some, Contains}
use Rattle.std.specs.String.{string_bytes}
use Rattle.ls_base.proofs.Spellings.{found, not_found}
use Rattle.ls_base.proofs.names.Names.find.Goals as goal

pub returns-in-Some-clause-found : goal.returns-in-Some-clause-found
returns-in-Some-clause-found c =
    subst (λ names. slice_get names c.in-Some.at ≡ Some c.args.spelling.now) c.self.view_is
    (found string_bytes c.args.spelling.now c.self.inside.set.keys c.in-Some.at (sym c.in-Some.ensures.index))

pub returns-in-None-clause-absent : goal.returns-in-None-clause-absent
returns-in-None-clause-absent c =
    subst (λ names. Contains names c.args.spelling.now → ⊥) c.self.view_is
    (not_found string_bytes c.args.spelling.now c.self.inside.set.keys (sym c.in-None.ensures.found))
