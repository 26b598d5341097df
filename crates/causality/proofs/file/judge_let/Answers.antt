use Rattle.std.specs.Prelude.{IfOk}
use Rattle.std.proofs.Common.{false, subst, sym}
use Rattle.ls_places.specs.declared.definition.Definition.{Definition}
use Rattle.case_tables.specs.Cases.{place}
use Rattle.causality_rules.specs.Laws.{ModesPaired, ResetsNested}
use Rattle.causality_rules.proofs.Nested.{definition_nests, definition_pairs}
use Rattle.causality.specs.Decided.{Decided}
use Rattle.causality.proofs.file.judge_let.Goals as goal

pub judge-requires-clause-nested : goal.judge-requires-clause-nested
judge-requires-clause-nested c = subst ResetsNested (sym c.in_ok-d.ensures) (definition_nests (place c.args.cases.now) c.args.params.now c.args.notes.now c.args.body.now)

pub judge-requires-clause-paired : goal.judge-requires-clause-paired
judge-requires-clause-paired c =
    subst (λ (z : Definition). ModesPaired false z.places.names) (sym c.in_ok-d.ensures) (definition_pairs (place c.args.cases.now) c.args.params.now c.args.notes.now c.args.body.now)

pub returns : goal.returns
returns c = subst (λ (z : Definition). IfOk c.judge.result (Decided z)) c.in_ok-d.ensures c.judge.ensures
