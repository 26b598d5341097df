-- From one judgement to the next.
use Rattle.std.specs.Prelude.{◌≡◌, ◌≢◌, List, Result, Ok, Err, None, IfOk, IfErr, IsErrOf, []}
use Rattle.std.proofs.Common.{refl, ap, sym, ◌∙◌, subst}
use Rattle.ls_base.specs.declared.Line.{Line}
use Rattle.ls_ast.specs.declared.tree.FileOf.{FileOf}
use Rattle.ls_ast.specs.declared.tree.Plain.{Plain}
use Rattle.ls_scope.specs.declared.fault.ScopeFault.{ScopeFault}
use Rattle.ls_scope.specs.declared.fault.ScopeFault.TheVariants as scope
use Rattle.ls_scope.specs.Answer.{Blames}
use Rattle.ls_sig.specs.Environment.{empty}
use Rattle.ls_sig.specs.declared.binder.Note.{Note}
use Rattle.ls_sig.specs.declared.binder.TypeNote.{TypeNote}
use Rattle.ls_sig.specs.declared.binder.Use.{Use}
use Rattle.ls_sig.specs.declared.sigs.InitSigs.{InitSigs}
use Rattle.ls_sig.specs.declared.sigs.Sig.{Sig}
use Rattle.scope_rules.specs.After.{scope_fault, resolved}
use Rattle.type_rules.specs.Constructors.{case_type}
use Rattle.type_rules.specs.Files.{Illtyped, lets}
use Rattle.type_infer.specs.declared.fault.TypeFault.{TypeFault}
use Rattle.type_infer.specs.declared.fault.TypeFault.TheVariants as types
use Rattle.type_premises.specs.Premises.{FunctionsOfScope}
use Rattle.clock_rules.specs.Files.{with_schemes}
use Rattle.accepted_rules.specs.Accepted.{type_limit, AreTypes, AreClocks, AreInits}
use Rattle.accepted_rules.specs.Enums.{enum_names, enum_constructors}
use Rattle.ls_front.specs.Front.{IsInside, IsSane, IllTypedAt, InitFails, ClocksFail, TypesFail, TypesAccepted, ClocksAccepted, InitAccepted, IsKept, BlamedAt, FileAccepted, FileFails, signatures_of_file}
use Rattle.ls_front.specs.declared.checked.Checked.{Checked}
use Rattle.ls_front.specs.declared.fault.FrontFault.{FrontFault}
use Rattle.ls_front.specs.declared.fault.FrontFault.TheVariants as fails

pub ok_to : {A E : Type 0} (P Q : A → Type 0) (r : Result A E) → ((x : A) → P x → Q x) → IfOk r P → IfOk r Q
ok_to P Q (Ok x) f p = f x p
ok_to P Q (Err e) f p = tt

pub err_to : {A E : Type 0} (P Q : E → Type 0) (r : Result A E) → ((e : E) → P e → Q e) → IfErr r P → IfErr r Q
err_to P Q (Ok x) f p = tt
err_to P Q (Err e) f p = f e p

-- ---- want of memory

pub memory_is : (P : FrontFault → Type 0) → P fails.NoMemory → {A : Type 0} (r : Result A FrontFault) → IfErr r (λ f. f ≡ fails.NoMemory) → IfErr r P
memory_is P p r h = err_to (λ f. f ≡ fails.NoMemory) P r (λ f is. subst P (sym is) p) h

-- ---- types

pub ill_at : {A : Type 0} (file : FileOf Use) (r : Result A TypeFault) (f : TypeFault) → r ≡ Err f → f ≢ types.NoMemory
    → ((line : Line) → r ≡ Err (types.IllTyped line) → Illtyped (case_type empty file) type_limit [] (lets file.defs) line) → IllTypedAt file f
ill_at file r (types.IllTyped line) is some ill = ill line is
ill_at file r types.NoMemory is some ill = absurd (some refl)

-- ---- a later judgement's fault is one of the file

pub init_fails : (typed : FileOf TypeNote) (ann : FileOf Note) → AreClocks typed ann → (f : FrontFault) → InitFails ann f → ClocksFail typed f
init_fails typed ann c (fails.Init f) h = (ann, c, h)
init_fails typed ann c fails.NoMemory h = tt
init_fails typed ann c (fails.Lex f) h = (ann, c, h)
init_fails typed ann c (fails.Syntax f) h = (ann, c, h)
init_fails typed ann c (fails.Scope f) h = (ann, c, h)
init_fails typed ann c (fails.Types f) h = (ann, c, h)
init_fails typed ann c (fails.Clocks f) h = absurd h

pub clocks_fail : (file : FileOf Use) (typed : FileOf TypeNote) (sigs : List Sig) → AreTypes file typed sigs → (f : FrontFault) → ClocksFail typed f → TypesFail file f
clocks_fail file typed sigs t (fails.Init f) h = (typed, sigs, t, h)
clocks_fail file typed sigs t (fails.Clocks f) h = (typed, sigs, t, h)
clocks_fail file typed sigs t fails.NoMemory h = tt
clocks_fail file typed sigs t (fails.Lex f) h = (typed, sigs, t, h)
clocks_fail file typed sigs t (fails.Syntax f) h = (typed, sigs, t, h)
clocks_fail file typed sigs t (fails.Scope f) h = (typed, sigs, t, h)
clocks_fail file typed sigs t (fails.Types f) (ann, c, never) = absurd never

pub blamed_at : (file : FileOf Plain) (f : ScopeFault) → f ≢ scope.NoMemory → Blames f (scope_fault empty file) → BlamedAt file f
blamed_at file (scope.Twice line) some b = b
blamed_at file (scope.Unbound line) some b = b
blamed_at file (scope.NotAllArms line) some b = b
blamed_at file (scope.Mixed line) some b = b
blamed_at file (scope.NotCombinatorial line) some b = b
blamed_at file scope.NoMemory some b = absurd (some refl)

later_fails : (file : FileOf Plain) → scope_fault empty file ≡ None → (f : FrontFault) → TypesFail (resolved empty file) f → FileFails file f
later_fails file fine (fails.Types f) h = (fine, h)
later_fails file fine (fails.Clocks f) h = (fine, h)
later_fails file fine (fails.Init f) h = (fine, h)
later_fails file fine fails.NoMemory h = tt
later_fails file fine (fails.Lex f) h = (fine, h)
later_fails file fine (fails.Syntax f) h = (fine, h)
later_fails file fine (fails.Scope f) (typed, sigs, t, (ann, c, never)) = absurd never

-- ---- all judgements hold

all_hold : (file : FileOf Plain) (r : Checked) → scope_fault empty file ≡ None → TypesAccepted (resolved empty file) r → FileAccepted file r
all_hold file r fine (typed, sigs, t, (ann, c, (inits, i, k))) = record {
  typed = typed;
  typed_sigs = sigs;
  scope = fine;
  are_types = t;
  are_clocks = subst (AreClocks typed) (sym k.same_ann) c;
  are_inits = subst (λ a. AreInits a r.inits) (sym k.same_ann) (subst (AreInits ann) (sym k.same_inits) i);
  are_sigs = k.signed ∙ ap (λ (a : FileOf Note). with_schemes sigs a.defs) (sym k.same_ann);
  are_enums = k.enums_named ∙ ap (λ (a : FileOf Note). enum_names a.defs) (sym k.same_ann);
  are_constructors = k.constructors_named ∙ ap (λ (a : FileOf Note). enum_constructors a.defs) (sym k.same_ann);
}

-- scope gives what the judgement on types supposes
sane_scope : FunctionsOfScope → (file : FileOf Plain) → IsSane (resolved empty file)
sane_scope law file = law (case_type empty (resolved empty file)) type_limit empty file tt

-- the judgements on a file whose names are resolved are those on the file
pub passed_on : FunctionsOfScope → (file : FileOf Plain) (names : FileOf Use) (r : Result Checked FrontFault) → scope_fault empty file ≡ None → names ≡ resolved empty file
    → (IsSane names → IfOk r (λ a. TypesAccepted names a)) → IfOk r (λ a. FileAccepted file a)
passed_on law file names r fine same h =
    ok_to (TypesAccepted names) (FileAccepted file) r (λ a t. all_hold file a fine (subst (λ f. TypesAccepted f a) same t)) (h (subst IsSane (sym same) (sane_scope law file)))

pub failed_on : FunctionsOfScope → (file : FileOf Plain) (names : FileOf Use) (r : Result Checked FrontFault) → scope_fault empty file ≡ None → names ≡ resolved empty file
    → (IsSane names → IfErr r (λ f. TypesFail names f)) → IfErr r (λ f. FileFails file f)
failed_on law file names r fine same h =
    err_to (TypesFail names) (FileFails file) r (λ f t. later_fails file fine f (subst (λ z. TypesFail z f) same t)) (h (subst IsSane (sym same) (sane_scope law file)))
