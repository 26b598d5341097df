use Rattle.std.specs.Prelude.{◌≡◌, IfOk, refl}
use Rattle.std.proofs.Common.{subst}
use Rattle.scope_rules.specs.Faults.{equation_sites}
use Rattle.ls_scope.specs.Unbound.{Binds}
use Rattle.ls_scope.proofs.Scenes.{unbound_is}
use Rattle.ls_scope.proofs.definition.is_unbound.Goals as goal

pub returns : goal.returns
returns g c =
    subst (λ z. IfOk c.unbound_by.result (λ r. r ≡ z))
    (unbound_is c.args.it.now c.requires
    (record { params = c.args.it.now.sight.params; equations = record { ref_ptr = (0, 0); now = c.in_ok-equations.equations }; known = c.args.it.now.judged.now.known })
    refl refl (subst (λ z. Binds (equation_sites z) c.in_ok-equations.equations) c.as_slice.ensures.value c.in_ok-equations.ensures))
    c.unbound_by.ensures
