use Rattle.std.proofs.Common.{◌∙◌, ap, map}
use Rattle.clock_rules.specs.Files.{scheme_of}
use Rattle.ls_places.specs.Definitions.{case_place}
use Rattle.case_tables.specs.Cases.{place}
use Rattle.clock_infer.proofs.Filing.{file_judged, file_refused, file_same}
use Rattle.clock_infer.proofs.file.infer_clocks_after.Goals as goal

pub returns-in-Ok-clause-same : goal.returns-in-Ok-clause-same
returns-in-Ok-clause-same c =
    file_same (place c.in_ok-cases.cases) c.args.file.now.defs c.as_slice-3.result.now (c.in_ok-cases.ensures ∙ ap case_place c.as_slice.ensures.value) c.as_slice-3.ensures.value
    (map scheme_of c.args.env.now.sigs) c.in_ok-schemes.schemes (c.in_ok-schemes.ensures ∙ ap (map scheme_of) c.as_slice-2.ensures.value) c.in-Ok.defs c.in-Ok.ensures.clocked

pub returns-in-Ok-clause-principal : goal.returns-in-Ok-clause-principal
returns-in-Ok-clause-principal c =
    file_judged (place c.in_ok-cases.cases) c.args.file.now.defs c.as_slice-3.result.now (c.in_ok-cases.ensures ∙ ap case_place c.as_slice.ensures.value) c.as_slice-3.ensures.value
    (map scheme_of c.args.env.now.sigs) c.in_ok-schemes.schemes (c.in_ok-schemes.ensures ∙ ap (map scheme_of) c.as_slice-2.ensures.value) c.in-Ok.defs c.in-Ok.ensures.clocked

pub returns-clause-refused : goal.returns-clause-refused
returns-clause-refused c =
    file_refused (place c.in_ok-cases.cases) c.args.file.now.defs c.as_slice-3.result.now (c.in_ok-cases.ensures ∙ ap case_place c.as_slice.ensures.value) c.as_slice-3.ensures.value
    (map scheme_of c.args.env.now.sigs) c.in_ok-schemes.schemes (c.in_ok-schemes.ensures ∙ ap (map scheme_of) c.as_slice-2.ensures.value) c.in-Err.fault c.in-Err.ensures.ill
