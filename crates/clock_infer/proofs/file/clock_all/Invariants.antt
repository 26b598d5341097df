use Rattle.std.proofs.Common.{drop}
use Rattle.clock_infer.proofs.Filing.{Halfway}
use Rattle.clock_infer.proofs.file.clock_all.Given as goal

abbrev pub invariant-loop-def : goal.invariant-loop-def
invariant-loop-def g l =
    Halfway (g.C.CasePlaces.place l.cases) l.initial.so_far.schemes l.all l.so_far.defs l.so_far.schemes (drop l.def-index l.all)
