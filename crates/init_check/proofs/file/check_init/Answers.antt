use Rattle.std.specs.Prelude.{[]}
use Rattle.case_tables.specs.Cases.{place}
use Rattle.ls_places.specs.Definitions.{case_place}
use Rattle.init_check.proofs.Items.{fault_there, judged_there, places_are}
use Rattle.init_check.proofs.file.check_init.Goals as goal

pub returns-in-Ok-clause-judged : goal.returns-in-Ok-clause-judged
returns-in-Ok-clause-judged c =
    judged_there (place c.in_ok-cases.cases) (case_place c.args.file.now.defs) [] c.new-none.result c.in-Ok.list c.as_slice-2.result.now c.args.file.now.defs
    (places_are _ c.as_slice.result.now c.args.file.now.defs c.in_ok-cases.ensures c.as_slice.ensures.value) c.as_slice-2.ensures.value c.new-none.ensures c.in-Ok.ensures.judged

pub returns-clause-fault : goal.returns-clause-fault
returns-clause-fault c =
    fault_there c.in-Err.fault (place c.in_ok-cases.cases) (case_place c.args.file.now.defs) [] c.new-none.result c.as_slice-2.result.now c.args.file.now.defs
    (places_are _ c.as_slice.result.now c.args.file.now.defs c.in_ok-cases.ensures c.as_slice.ensures.value) c.as_slice-2.ensures.value c.new-none.ensures c.in-Err.ensures.fault
