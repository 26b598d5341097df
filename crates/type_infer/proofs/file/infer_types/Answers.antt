use Rattle.std.proofs.Common.{◌≡◌, subst, Err, IfOk}
use Rattle.ls_base.specs.declared.Line.{Line}
use Rattle.ls_sig.specs.declared.env.Env.{Env}
use Rattle.type_infer.specs.Constructors.{case_type}
use Rattle.type_infer.specs.Files as spec
use Rattle.type_infer.specs.declared.fault.TypeFault.{TypeFault}
use Rattle.type_rules.specs.Files.{Illtyped, lets}
use Rattle.type_infer.proofs.file.infer_types.Goals as goal

pub returns-clause-typed : goal.returns-clause-typed
returns-clause-typed c =
    subst (λ (e : Env). spec.AreFunctionsAll (case_type e c.args.file.now) 4096 e.sigs (lets c.args.file.now.defs)
    → IfOk c.infer_types_after.result (λ r. spec.AreTyped (case_type e c.args.file.now) 4096 e.sigs c.args.file.now.defs r.defs)) c.in_ok-env.ensures c.infer_types_after.ensures.typed

pub returns-clause-ill : goal.returns-clause-ill
returns-clause-ill c =
    subst (λ (e : Env). spec.AreFunctionsAll (case_type e c.args.file.now) 4096 e.sigs (lets c.args.file.now.defs)
    → (line : Line) → c.infer_types_after.result ≡ Err (TypeFault.IllTyped line) → Illtyped (case_type e c.args.file.now) 4096 e.sigs (lets c.args.file.now.defs) line) c.in_ok-env.ensures c.infer_types_after.ensures.ill
