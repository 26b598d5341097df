use Rattle.std.specs.Prelude.{nat_eq}
use Rattle.std.proofs.Common.{◌∙◌, ap}
use Rattle.std.specs.Cmp.Lexicographic.{pointwise}
use Rattle.scope_rules.specs.Faults.{place_where}
use Rattle.ls_scope.proofs.KeyLaws.{found_key}
use Rattle.ls_scope.proofs.keys.Keys.place.Goals as goal

pub returns : goal.returns
returns c =
    c.get_index_of.ensures.index
    ∙ found_key (λ v. v.items) c.self.inside.set.keys c.args.key.now
    ∙ ap (place_where (pointwise nat_eq c.args.key.now)) c.self.view_is
