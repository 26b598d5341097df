use Rattle.std.proofs.Common.{◌≡◌, ◌+◌, ◌++◌, ◌∷◌, [], ap, sym, subst, arith, take, drop, Err}
use Rattle.std.proofs.lemmas.Grind.{common_steps}
use Rattle.type_infer.specs.Files as spec
use Rattle.type_infer.proofs.Inferred.{fault_in}
use Rattle.type_infer.proofs.Stages.{Stage, at_first, with_one, ill_at}
use Rattle.type_infer.proofs.file.infer_defs.Goals as goal

pub loop-def-init : goal.loop-def-init
loop-def-init g c = λ functions.
    subst (λ z. Stage (g.C.CaseTypes.case_type c.args.types.now) 4096 c.args.before.now [] z c.in_ok-sigs.sigs) (sym c.new-done.ensures)
    (subst (λ z. Stage (g.C.CaseTypes.case_type c.args.types.now) 4096 c.args.before.now [] [] z) (sym c.in_ok-sigs.ensures)
    (at_first (g.C.CaseTypes.case_type c.args.types.now) 4096 c.args.before.now))

pub returns-in-Err-clause-ill : goal.returns-in-Err-clause-ill
returns-in-Err-clause-ill g c = λ functions line e.
    let is : c.args.defs.now ≡ take c.loop-def.def-index c.args.defs.now ++ c.def-item.result ∷ drop (c.loop-def.def-index + 1) c.args.defs.now = grind (arith, common_steps) in
    ill_at (g.C.CaseTypes.case_type c.args.types.now) 4096 c.args.before.now c.args.defs.now (take c.loop-def.def-index c.args.defs.now) (drop (c.loop-def.def-index + 1) c.args.defs.now) c.loop-def.done
    c.loop-def.sigs c.def-item.result line is (c.loop-def.invariant functions)
    (subst (λ z. spec.IsIll (g.C.CaseTypes.case_type c.args.types.now) 4096 z c.def-item.result line) c.as_slice.ensures.value
    (c.in-Err.ensures.ill line (ap Err (ap (fault_in c.in-Err.fault) e))))

pub loop-def-preserved : goal.loop-def-preserved
loop-def-preserved g c = λ functions.
    let is : c.args.defs.now ≡ take c.loop-def.def-index c.args.defs.now ++ c.def-item.result ∷ drop (c.loop-def.def-index + 1) c.args.defs.now = grind (arith, common_steps) in
    let more : take (c.loop-def.def-index + 1) c.args.defs.now ≡ take c.loop-def.def-index c.args.defs.now ++ c.def-item.result ∷ [] = grind (arith, common_steps) in
    subst (λ z. Stage (g.C.CaseTypes.case_type c.args.types.now) 4096 c.args.before.now z c.push.new.self c.add_signature.new.sigs) (sym more)
    (subst (λ z. Stage (g.C.CaseTypes.case_type c.args.types.now) 4096 c.args.before.now (take c.loop-def.def-index c.args.defs.now ++ c.def-item.result ∷ []) z c.add_signature.new.sigs)
    (sym c.in_ok-push.ensures.ok)
    (with_one (g.C.CaseTypes.case_type c.args.types.now) 4096 c.args.before.now c.args.defs.now (take c.loop-def.def-index c.args.defs.now) (drop (c.loop-def.def-index + 1) c.args.defs.now) c.loop-def.done
    c.loop-def.sigs c.def-item.result c.in-Ok.typed c.add_signature.new.sigs is functions (c.loop-def.invariant functions)
    (subst (λ z. spec.IsTyped (g.C.CaseTypes.case_type c.args.types.now) 4096 z c.def-item.result c.in-Ok.typed) c.as_slice.ensures.value c.in-Ok.ensures.typed) c.in_ok-add_signature.ensures))
