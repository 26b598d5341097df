use Rattle.std.specs.Prelude.{OnOk}
use Rattle.std.proofs.Common.{◌≡◌, ◌++◌, ◌∙◌, subst, sym}
use Rattle.init_check.proofs.Calls.{used_some_sources}
use Rattle.init_check.proofs.sources.add_used.Goals as goal

pub returns-in-Some : goal.returns-in-Some
returns-in-Some c =
    subst (λ z. OnOk c.add_own.result (c.add_own.new.out ≡ c.args.out.now ++ z))
    (used_some_sources c.args.d.now c.args.sigs.now c.args.note.now c.args.x c.in-Def.k c.in-Some.sig.now c.in-Def.is (sym c.is_function.ensures ∙ c.if-is_function.false) (sym c.in-Some.ensures))
    c.add_own.ensures
