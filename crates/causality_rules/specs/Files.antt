-- Causality of a file: its definitions in order, each by itself, since a call reads all its arguments.
use Rattle.std.specs.Prelude.{◌≡◌, ℕ, List, [], ◌∷◌, ◌++◌, Option}
use Rattle.ls_base.specs.declared.Line.{Line}
use Rattle.ls_ast.specs.declared.tree.DefOf.{DefOf}
use Rattle.ls_ast.specs.declared.tree.DefOf.TheVariants as item
use Rattle.ls_sig.specs.declared.binder.Note.{Note}
use Rattle.ls_sig.specs.declared.sigs.Item.{Item}
use Rattle.ls_places.specs.declared.definition.Definition.{Definition}
use Rattle.ls_places.specs.Definitions.{definition_of}
use Rattle.causality_rules.specs.Items.{IsCausal, Ranked, WaitsForItself}

-- a `let`, with what stands where in it
pub record Let : Type 0 where
  pub line : Line
  pub body : Definition

-- `cases` is the place of a constructor in its enumeration; it does not matter here
abbrev pub lets : (ℕ → Option ℕ) → List (DefOf Note) → List Let
lets cases [] = []
lets cases (item.Cases line name all ∷ rest) = lets cases rest
lets cases (item.Let line node name params marks notes body ∷ rest) = record { line = line; body = definition_of cases params notes body } ∷ lets cases rest

-- each has such numbers
abbrev pub AllRanked : List Let → List (List (Item × ℕ)) → Type 0
AllRanked [] [] = Unit {0}
AllRanked (d ∷ ds) (l ∷ ls) = Ranked d.body l × AllRanked ds ls
AllRanked _ _ = ⊥

abbrev pub AllCausal : List Let → Type 0
AllCausal [] = Unit {0}
AllCausal (d ∷ ds) = IsCausal d.body × AllCausal ds

-- the definition at this line is the first that is not causal: these items wait for one another
abbrev pub Looped : List Let → Line → List Item → Type 0
Looped ds line found =
    (before : List Let) × (d : Let) × (after : List Let) × (ds ≡ before ++ d ∷ after)
    × AllCausal before × (d.line ≡ line) × WaitsForItself d.body found
