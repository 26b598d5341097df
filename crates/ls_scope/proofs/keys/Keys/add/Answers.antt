use Rattle.std.proofs.Common.{◌∙◌, ap, map}
use Rattle.ls_scope.specs.Keys.{with_key}
use Rattle.ls_scope.proofs.KeyLaws.{key_put}
use Rattle.ls_scope.proofs.Lists.{past_error}
use Rattle.ls_scope.proofs.keys.Keys.add.Goals as goal

pub returns-clause-ok : goal.returns-clause-ok
returns-clause-ok c =
    ap (map (λ v. v.items)) (past_error c.insert.result _ c.is_err.result c.is_err.ensures.value c.if-is_err.false c.insert.ensures.keys)
    ∙ key_put (λ v. v.items) c.self.inside.set.keys c.args.key
    ∙ ap (λ l. with_key l c.args.key.items) c.self.view_is
