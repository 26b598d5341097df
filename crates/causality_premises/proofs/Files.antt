-- The definitions of an annotated file, one after the other.
use Rattle.std.specs.Prelude.{◌≡◌, ℕ, Bool, true, false, List, [], ◌∷◌, map, length, Option}
use Rattle.std.proofs.Common.{ap, sym, subst, arith}
use Rattle.ls_base.specs.declared.Name.{Name}
use Rattle.ls_ast.specs.declared.tree.BodyOf.{BodyOf}
use Rattle.ls_ast.specs.declared.tree.DefOf.{DefOf}
use Rattle.ls_ast.specs.declared.tree.DefOf.TheVariants as item
use Rattle.ls_ast.specs.declared.tree.FileOf.{FileOf}
use Rattle.ls_ast.specs.declared.tree.Pat.{Pat}
use Rattle.ls_ast.specs.declared.tree.Plain.{Plain}
use Rattle.ls_sig.specs.declared.binder.Note.{Note}
use Rattle.ls_sig.specs.declared.binder.Use.{Use}
use Rattle.ls_sig.specs.declared.env.Env.{Env}
use Rattle.ls_places.specs.Definitions.{definition_of, definitions}
use Rattle.ls_places.specs.declared.definition.Definition.{Definition}
use Rattle.tree_notes.specs.Each.{Each}
use Rattle.tree_notes.specs.Noted.{in_body, in_definition}
use Rattle.kahn_model.specs.Reads.{Shape}
use Rattle.scope_rules.specs.After as After
use Rattle.scope_rules.specs.Claims.{Known}
use Rattle.scope_rules.specs.Faults.{Judged}
use Rattle.scope_rules.specs.File.{known_after}
use Rattle.scope_rules.specs.Resolved.{resolved_defs, resolved_body}
use Rattle.causality_links.specs.Close.{Scoped}
use Rattle.causality_premises.specs.Premises.{ClocksKnown, use_of}
use Rattle.causality_premises.proofs.Scope.{reads_scoped}

abbrev rest_of : {A : Type 0} → List A → List A
rest_of [] = []
rest_of (x ∷ xs) = xs

abbrev first_or : {A : Type 0} → A → List A → A
first_or a [] = a
first_or a (x ∷ xs) = x

no_item : {A : Type 0} (x : A) (xs : List A) → x ∷ xs ≡ [] → ⊥
no_item x xs e = let l = ap length e in omega (arith, l)

abbrev is_let : DefOf Use → Bool
is_let (item.Cases line name all) = false
is_let (item.Let line node name params marks notes body) = true

abbrev params_or : List Pat → DefOf Use → List Pat
params_or z (item.Cases line name all) = z
params_or z (item.Let line node name params marks notes body) = params

abbrev body_or : BodyOf Use → DefOf Use → BodyOf Use
body_or z (item.Cases line name all) = z
body_or z (item.Let line node name params marks notes body) = body

abbrev Reads : Definition → Type 0
Reads d = (shapes : List Shape) → Scoped d shapes

module _ (cases : ℕ → Option ℕ) (words : List (List ℕ)) where
  abbrev judge : Known → Bool → Name → List Pat → BodyOf Plain → Judged Plain
  judge k node f params body = record { names = words; known = k; title = f.0; node = node; params = params; body = body }

  each_reads : (k : Known) (ds : List (DefOf Plain)) (tree : List (DefOf Note)) → map (in_definition Note Use use_of) tree ≡ resolved_defs words k ds → Each ClocksKnown (definitions cases tree) → Each Reads (definitions cases tree)
  each_reads k ds [] e c = tt
  each_reads k [] (x ∷ tree) e c = absurd (no_item (in_definition Note Use use_of x) (map (in_definition Note Use use_of) tree) e)
  each_reads k (DefOf.Cases line t cs ∷ ds) (item.Cases l n all ∷ tree) e c = each_reads (known_after {N = Plain} words k (DefOf.Cases line t cs)) ds tree (ap rest_of e) c
  each_reads k (DefOf.Cases line t cs ∷ ds) (item.Let l o n ps qs us b ∷ tree) e c = let z : true ≡ false = ap (λ x. is_let (first_or (item.Cases line t cs) x)) e in absurd (cc)
  each_reads k (DefOf.Let line node name params ms ns body ∷ ds) (item.Cases l n all ∷ tree) e c = let z : false ≡ true = ap (λ x. is_let (first_or (item.Cases l n all) x)) e in absurd (cc)
  each_reads k (DefOf.Let line node name params ms ns body ∷ ds) (item.Let l o n ps qs us b ∷ tree) e c =
      let j : Judged Plain = judge k node name params body in
      let same : ps ≡ params = ap (λ x. params_or ps (first_or (item.Cases line name []) x)) e in
      let is : in_body Note Use use_of b ≡ resolved_body j = ap (λ x. body_or (in_body Note Use use_of b) (first_or (item.Cases line name []) x)) e in (
        (λ shapes. subst (λ z. ClocksKnown (definition_of cases z us b) → Scoped (definition_of cases z us b) shapes) (sym same) (reads_scoped j cases us b shapes is) c.0),
        each_reads (known_after {N = Plain} words k (DefOf.Let line node name params ms ns body)) ds tree (ap rest_of e) c.1,
      )

pub files_read : (cases : ℕ → Option ℕ) (env : Env) (file : FileOf Plain) (tree : List (DefOf Note)) → map (in_definition Note Use use_of) tree ≡ (After.resolved env file).defs
    → Each ClocksKnown (definitions cases tree) → Each Reads (definitions cases tree)
files_read cases env file tree e c = each_reads cases (After.names_after env file.names) (After.known_by env file.names) file.defs tree e c
