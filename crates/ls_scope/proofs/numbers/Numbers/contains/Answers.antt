use Rattle.std.specs.Prelude.{ℕ, is_some, ◌==◌}
use Rattle.std.proofs.Common.{◌∙◌, ap, sym}
use Rattle.ls_scope.proofs.Lists.{any_found}
use Rattle.ls_scope.proofs.numbers.Numbers.contains.Goals as goal

pub returns : goal.returns
returns c = c.is_some.ensures ∙ ap is_some c.place.ensures ∙ sym (any_found (λ (y : ℕ). y == c.args.x) c.args.self.now 0)
