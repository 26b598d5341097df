use Rattle.std.specs.Prelude.{IfOk}
use Rattle.std.proofs.Common.{◌≡◌, ◌∙◌, ap, subst}
use Rattle.place_tables.specs.Lacks as own
use Rattle.place_tables.proofs.Inside.{lacks_whole}
use Rattle.place_tables.proofs.lacks.lacks.Goals as goal

pub returns : goal.returns
returns c =
    subst (λ z. IfOk c.lacks_within.result (λ r. r ≡ z))
    (lacks_whole c.args.d.now c.args.numbers.now c.all_lengths-all.result (c.all_lengths-all.ensures.value ∙ ap (λ z. own.all_lengths z c.args.numbers.now) c.as_slice.ensures.value))
    c.lacks_within.ensures
