-- What an answer says of the fault of one definition, and of the first fault of a file.
use Rattle.std.specs.Prelude.{◌≡◌, ℕ, ◌++◌, Bool, true, false, List, [], ◌∷◌, Option, Some, None, if◌then◌else◌, refl}
use Rattle.std.proofs.Common.{ap, sym, ◌∙◌, ◌+◌, subst, drop}
use Rattle.ls_base.specs.declared.Line.{Line}
use Rattle.ls_base.specs.declared.Name.{Name}
use Rattle.ls_ast.specs.declared.tree.BodyOf.{BodyOf}
use Rattle.ls_ast.specs.declared.tree.DefOf.{DefOf}
use Rattle.ls_ast.specs.declared.tree.Mark.{Mark}
use Rattle.ls_ast.specs.declared.tree.Pat.{Pat}
use Rattle.ls_sig.specs.declared.binder.Use.{Use}
use Rattle.ls_scope.specs.declared.definition.Judgement.{Judgement}
use Rattle.ls_scope.specs.declared.fault.ScopeFault.{ScopeFault}
use Rattle.ls_scope.specs.declared.fault.ScopeFault.TheVariants as f
use Rattle.ls_scope.specs.Answer.{Blames, made}
use Rattle.ls_scope.specs.Judgement.{Is, judgement_of}
use Rattle.scope_rules.specs.Claims.{Known}
use Rattle.scope_rules.specs.Faults.{Fault, Twice, Unbound, NotAllArms, Mixed, NotCombinatorial, Judged, fault}
use Rattle.scope_rules.specs.File.{with_line, or_else, def_fault, first_fault, known_after}
use Rattle.scope_rules.specs.Resolved.{no_uses}

-- the fault of a `let` definition

let_blames : (a : ScopeFault) (line : ℕ) (j : Option Fault) → Is a line j → Blames a (with_line line j)
let_blames (f.Twice l) line j h = ap (with_line line) h.0 ∙ ap (λ n. Some (Twice, n)) (sym h.1)
let_blames (f.Unbound l) line j h = ap (with_line line) h.0 ∙ ap (λ n. Some (Unbound, n)) (sym h.1)
let_blames (f.NotAllArms l) line j h = ap (with_line line) h.0 ∙ ap (λ n. Some (NotAllArms, n)) (sym h.1)
let_blames (f.Mixed l) line j h = ap (with_line line) h.0 ∙ ap (λ n. Some (Mixed, n)) (sym h.1)
let_blames (f.NotCombinatorial l) line j h = ap (with_line line) h.0 ∙ ap (λ n. Some (NotCombinatorial, n)) (sym h.1)
let_blames f.NoMemory line j h = tt

module _ {N : Type 0} (names : List (List ℕ)) (known : Known) (def : DefOf N) (line : Line) (node : Bool) (name : Name) (params ps : List Pat) (ms : List Mark) (ns : List N) (body : BodyOf N)
    (is : def ≡ DefOf.Let line node name params ms ns body) (same : ps ≡ params) where
  abbrev judged : List Pat → Judged N
  judged z = record { names = names; known = known; title = name.0; node = node; params = z; body = body }

  pub let_scoped : fault (judged ps) ≡ None → def_fault names known def ≡ None
  let_scoped h = ap (def_fault names known) is ∙ ap (with_line line.0) (ap (λ z. fault (judged z)) (sym same) ∙ h)

  pub let_blamed : (a : ScopeFault) → Is a line.0 (fault (judged ps)) → Blames a (def_fault names known def)
  let_blamed a h = subst (Blames a) (ap (with_line line.0) (ap (λ z. fault (judged z)) same) ∙ sym (ap (def_fault names known) is)) (let_blames a line.0 (fault (judged ps)) h)

  pub let_made : (j : Judgement) (copied again : List Pat) (notes : List Use) (after : Known) → j ≡ judgement_of (judged ps) → copied ≡ params → again ≡ params → notes ≡ no_uses again
      → after ≡ record { enums = known.enums; defs = known.defs ++ j.earlier ∷ [] }
      → ◌≡◌ {A = DefOf Use × Known} (DefOf.Let line node name copied j.marks notes j.body, after) (made names known def)
  let_made j copied again notes after jl cl al nl kl =
      let all : j ≡ judgement_of (judged params) = jl ∙ ap (λ z. judgement_of (judged z)) same in
      (λ i. (DefOf.Let line node name (cl i) (all i).marks ((nl ∙ ap no_uses al) i) (all i).body, (kl ∙ ap (λ (x : Judgement). record { enums = known.enums; defs = known.defs ++ x.earlier ∷ [] }) all) i))
      ∙ ap (made names known) (sym is)

-- the first fault of several definitions

pub first_blames : (a : ScopeFault) (o rest : Option (Fault × ℕ)) → Blames a o → Blames a (or_else o rest)
first_blames (f.Twice l) o rest h = ap (λ z. or_else z rest) h
first_blames (f.Unbound l) o rest h = ap (λ z. or_else z rest) h
first_blames (f.NotAllArms l) o rest h = ap (λ z. or_else z rest) h
first_blames (f.Mixed l) o rest h = ap (λ z. or_else z rest) h
first_blames (f.NotCombinatorial l) o rest h = ap (λ z. or_else z rest) h
first_blames f.NoMemory o rest h = tt

-- one definition after another

module _ {N : Type 0} (names : List (List ℕ)) (before known : Known) (defs : List (DefOf N)) (i : ℕ) (d : DefOf N) (e : drop i defs ≡ d ∷ drop (i + 1) defs) where
  pub all_blamed : (a : ScopeFault) → first_fault names known (drop i defs) ≡ first_fault names before defs → Blames a (def_fault names known d) → Blames a (first_fault names before defs)
  all_blamed a so h = subst (Blames a) (sym (ap (first_fault names known) e) ∙ so) (first_blames a (def_fault names known d) (first_fault names (known_after names known d) (drop (i + 1) defs)) h)
