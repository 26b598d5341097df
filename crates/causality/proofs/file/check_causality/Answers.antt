use Rattle.case_tables.specs.Cases.{place}
use Rattle.ls_places.specs.Definitions.{case_place}
use Rattle.causality.proofs.Judging.{looped_there, places_are, ranked_there}
use Rattle.causality.proofs.file.check_causality.Goals as goal

pub returns-in-Ok-clause-ranked : goal.returns-in-Ok-clause-ranked
returns-in-Ok-clause-ranked c =
    ranked_there (place c.in_ok-cases.cases) (case_place c.args.file.now.defs) c.in-Ok.list c.as_slice-2.result.now c.args.file.now.defs
    (places_are _ c.as_slice.result.now c.args.file.now.defs c.in_ok-cases.ensures c.as_slice.ensures.value) c.as_slice-2.ensures.value c.in-Ok.ensures.ranked

pub returns-clause-looped : goal.returns-clause-looped
returns-clause-looped c =
    looped_there c.in-Err.fault (place c.in_ok-cases.cases) (case_place c.args.file.now.defs) c.as_slice-2.result.now c.args.file.now.defs
    (places_are _ c.as_slice.result.now c.args.file.now.defs c.in_ok-cases.ensures c.as_slice.ensures.value) c.as_slice-2.ensures.value c.in-Err.ensures.looped
