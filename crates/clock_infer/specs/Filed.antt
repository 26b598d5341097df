-- The definitions of a file with their clocks, one after the other.
use Rattle.std.specs.Prelude.{◌≡◌, ℕ, List, [], ◌∷◌, ◌++◌, Option}
use Rattle.ls_ast.specs.declared.tree.BodyOf.{BodyOf}
use Rattle.ls_ast.specs.declared.tree.DefOf.{DefOf}
use Rattle.ls_ast.specs.declared.tree.DefOf.TheVariants as item
use Rattle.ls_ast.specs.declared.tree.Mark.{Mark}
use Rattle.ls_ast.specs.declared.tree.Pat.{Pat}
use Rattle.ls_base.specs.declared.Line.{Line}
use Rattle.ls_sig.specs.declared.binder.Note.{Note}
use Rattle.ls_sig.specs.declared.binder.TypeNote.{TypeNote}
use Rattle.clock_rules.specs.declared.scheme.ClockScheme.{ClockScheme}
use Rattle.clock_rules.specs.Files.{scheme}
use Rattle.clock_rules.specs.Judged.{IsPrincipal, NoneObeys}
use Rattle.clock_infer.specs.declared.file.ClockFault.{ClockFault}
use Rattle.clock_infer.specs.declared.file.ClockFault.TheVariants as fault

abbrev pub line_of : DefOf TypeNote → Line
line_of (item.Cases line name all) = line
line_of (item.Let line node name params marks types tree) = line

-- the schemes behind a definition
abbrev pub schemes_after : List ClockScheme → DefOf Note → List ClockScheme
schemes_after schemes (item.Cases line name all) = schemes
schemes_after schemes (item.Let line node name params marks notes body) = schemes ++ scheme marks notes body.result.note.ck ∷ []

module _ (cases : ℕ → Option ℕ) where
  -- a definition with a principal annotation
  pub record IsAnnotated (schemes : List ClockScheme) (params : List Pat) (marks : List Mark) (types : List TypeNote) (tree : BodyOf TypeNote) (made : List Note → BodyOf Note → DefOf Note) (new : DefOf Note) : Type 0 where
    pub notes : List Note
    pub body : BodyOf Note
    pub is : new ≡ made notes body
    pub principal : IsPrincipal schemes cases params marks types tree notes body

  abbrev pub IsClockedAs : List ClockScheme → DefOf TypeNote → DefOf Note → Type 0
  IsClockedAs schemes (item.Cases line name all) new = new ≡ item.Cases line name all
  IsClockedAs schemes (item.Let line node name params marks types tree) new = IsAnnotated schemes params marks types tree (item.Let line node name params marks) new

  -- a definition that no annotation obeys
  abbrev pub IsIll : List ClockScheme → DefOf TypeNote → Type 0
  IsIll schemes (item.Cases line name all) = ⊥
  IsIll schemes (item.Let line node name params marks types tree) = NoneObeys schemes cases params marks types tree

  -- all of some definitions, each over the schemes of those before it
  abbrev pub AreClockedAs : List ClockScheme → List (DefOf TypeNote) → List (DefOf Note) → Type 0
  AreClockedAs schemes [] [] = Unit {0}
  AreClockedAs schemes [] (n ∷ ns) = ⊥
  AreClockedAs schemes (d ∷ ds) [] = ⊥
  AreClockedAs schemes (d ∷ ds) (n ∷ ns) = IsClockedAs schemes d n × AreClockedAs (schemes_after schemes n) ds ns

-- of a fault that is at a line
abbrev pub AtLine : ClockFault → (ℕ → Type 0) → Type 0
AtLine (fault.IllClocked line) P = P line.0
AtLine fault.NoMemory P = Unit {0}
