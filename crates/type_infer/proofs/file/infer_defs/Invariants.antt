use Rattle.std.proofs.Common.{take}
use Rattle.type_rules.specs.Files.{lets}
use Rattle.type_infer.specs.Files.{AreFunctionsAll}
use Rattle.type_infer.proofs.Stages.{Stage}
use Rattle.type_infer.proofs.file.infer_defs.Given as goal

abbrev pub invariant-loop-def : goal.invariant-loop-def
invariant-loop-def g l =
    AreFunctionsAll (g.C.CaseTypes.case_type l.types) 4096 l.before (lets l.defs) → Stage (g.C.CaseTypes.case_type l.types) 4096 l.before (take l.def-index l.defs) l.done l.sigs
