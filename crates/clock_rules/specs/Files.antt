-- The clocks of a file: its definitions in order, each over the signatures of those before it.
use Rattle.std.specs.Prelude.{◌≡◌, ℕ, suc, ◌==◌, Bool, true, false, List, [], ◌∷◌, ◌++◌, map, Option, Some, None, if◌then◌else◌, ◌⊎◌}
use Rattle.ls_ast.specs.declared.tree.BodyOf.{BodyOf}
use Rattle.ls_ast.specs.declared.tree.DefOf.{DefOf}
use Rattle.ls_ast.specs.declared.tree.DefOf.TheVariants as item
use Rattle.ls_ast.specs.declared.tree.Mark.{Mark}
use Rattle.ls_ast.specs.declared.tree.Mark.TheVariants as mark
use Rattle.ls_ast.specs.declared.tree.Pat.{Pat}
use Rattle.ls_terms.specs.declared.clocks.ClockTerm.{ClockTerm, fold-ClockTerm}
use Rattle.ls_terms.specs.declared.clocks.ClockTerm.TheOpen.{ClockTerm-F}
use Rattle.ls_terms.specs.Clocks.{apply}
use Rattle.tree_notes.specs.Order.{joined}
use Rattle.ls_sig.specs.declared.binder.Note.{Note}
use Rattle.ls_sig.specs.declared.binder.TypeNote.{TypeNote}
use Rattle.clock_rules.specs.declared.scheme.ClockScheme.{ClockScheme}
use Rattle.ls_sig.specs.declared.sigs.Sig.{Sig}
use Rattle.ls_places.specs.Definitions.{note_clocks}
use Rattle.clock_rules.specs.Terms.{var}
use Rattle.tree_notes.specs.Noted as T
use Rattle.clock_rules.specs.Rules.{is_clock_mark}
use Rattle.clock_rules.specs.Fresh.{erase}
use Rattle.clock_rules.specs.Judged.{IsPrincipal, NoneObeys}

-- ---- signatures

-- the variables of a clock, in order
abbrev pub variables_step : ClockTerm-F (List ℕ) → List ℕ
variables_step (ClockTerm-F.Var v) = v ∷ []
variables_step (ClockTerm-F.On vs m k) = vs
variables_step ClockTerm-F.Pointwise = []
variables_step (ClockTerm-F.Arrow vss vs) = joined vss ++ vs

abbrev pub variables_in : ClockTerm → List ℕ
variables_in = fold-ClockTerm (List ℕ) variables_step

abbrev pub without : ℕ → List ℕ → List ℕ
without x [] = []
without x (y ∷ ys) = if x == y then without x ys else y ∷ without x ys

-- the place of a variable in a list
abbrev pub place_from : ℕ → List ℕ → ℕ → Option ℕ
place_from x [] k = None
place_from x (y ∷ ys) k = if y == x then Some k else place_from x ys (suc k)

abbrev pub firsts : List ℕ → List ℕ
firsts [] = []
firsts (x ∷ xs) = x ∷ without x (firsts xs)

abbrev pub place_option : Option ℕ → Option ClockTerm
place_option None = None
place_option (Some k) = Some (var k)

-- variables numbered by first appearance
abbrev pub renumbered : List ClockTerm → ClockTerm → ClockTerm
renumbered all = apply (λ x. place_option (place_from x (firsts (joined (map variables_in all))) 0))

abbrev pub clock_marks : List Mark → ℕ → List ℕ
clock_marks [] k = []
clock_marks (m ∷ ms) k = if is_clock_mark m then k ∷ clock_marks ms (suc k) else clock_marks ms (suc k)

-- the scheme of a definition, with the clocks of its annotation
abbrev pub scheme : List Mark → List Note → ClockTerm → ClockScheme
scheme marks notes ck = record {
  clocks = map (renumbered (note_clocks notes ++ ck ∷ [])) (note_clocks notes);
  result = renumbered (note_clocks notes ++ ck ∷ []) ck;
  names = clock_marks marks 0;
}

-- that of a signature
abbrev pub scheme_of : Sig → ClockScheme
scheme_of s = record { clocks = s.clocks; result = s.result_clock; names = s.clock_names }

-- a signature with a clock scheme
abbrev pub with_scheme : Sig → ClockScheme → Sig
with_scheme s c = record {
  name = s.name;
  kind = s.kind;
  marks = s.marks;
  params = s.params;
  result = s.result;
  clocks = c.clocks;
  result_clock = c.result;
  clock_names = c.names;
}

-- the signatures of definitions in order, with the clock schemes of their annotations
abbrev pub with_schemes : List Sig → List (DefOf Note) → List Sig
with_schemes sigs [] = []
with_schemes sigs (item.Cases line name all ∷ rest) = with_schemes sigs rest
with_schemes [] (item.Let line node name params marks notes body ∷ rest) = []
with_schemes (s ∷ sigs) (item.Let line node name params marks notes body ∷ rest) =
    with_scheme s (scheme marks notes body.result.note.ck) ∷ with_schemes sigs rest

-- ---- files, by the schemes of earlier definitions

module _ (cases : ℕ → Option ℕ) where
  -- each definition is annotated principally
  abbrev pub Judged : List ClockScheme → List (DefOf Note) → Type 0
  Judged schemes [] = Unit {0}
  Judged schemes (item.Cases line name all ∷ rest) = Judged schemes rest
  Judged schemes (item.Let line node name params marks notes body ∷ rest) =
      IsPrincipal schemes cases params marks (map erase notes) (T.in_body Note TypeNote erase body) notes body
      × Judged (schemes ++ scheme marks notes body.result.note.ck ∷ []) rest

  -- a principal annotation of a definition
  pub record HasPrincipal (schemes : List ClockScheme) (params : List Pat) (marks : List Mark) (types : List TypeNote) (tree : BodyOf TypeNote) : Type 0 where
    pub notes : List Note
    pub body : BodyOf Note
    pub principal : IsPrincipal schemes cases params marks types tree notes body

  -- the first definition of which no annotation obeys stands at this line
  abbrev pub FirstIllClocked : List ClockScheme → List (DefOf TypeNote) → ℕ → Type 0
  FirstIllClocked schemes [] at = ⊥
  FirstIllClocked schemes (item.Cases line name all ∷ rest) at = FirstIllClocked schemes rest at
  FirstIllClocked schemes (item.Let line node name params marks types tree ∷ rest) at =
      ((line.0 ≡ at) × NoneObeys schemes cases params marks types tree)
      ⊎ ((before : HasPrincipal schemes params marks types tree)
      × FirstIllClocked (schemes ++ scheme marks before.notes before.body.result.note.ck ∷ []) rest at)
