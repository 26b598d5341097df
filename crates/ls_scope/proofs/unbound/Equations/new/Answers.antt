use Rattle.std.proofs.Common.{◌≡◌, ◌∙◌, [], ap, sym, map, drop, arith}
use Rattle.std.proofs.lemmas.Grind.{common_steps}
use Rattle.scope_rules.specs.Faults.{equation_sites}
use Rattle.ls_scope.specs.Keys.{key_of}
use Rattle.ls_scope.specs.Starts.{with_keys}
use Rattle.ls_scope.proofs.EquationLaws.{binds_all}
use Rattle.ls_scope.proofs.unbound.Equations.new.Goals as goal

pub returns : goal.returns
returns c =
    let none : drop c.loop-s.s-index c.args.sites.now ≡ [] = grind (arith, common_steps) in
    binds_all (equation_sites c.args.sites.now) _ (ap (λ l. with_keys c.loop-s.keys (map key_of (equation_sites l))) (sym none) ∙ c.loop-s.invariant)
