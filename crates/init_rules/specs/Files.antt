-- Initialisation of a file: its definitions in order, each over the signatures of those before it.
use Rattle.std.specs.Prelude.{◌≡◌, ℕ, Bool, true, false, List, [], ◌∷◌, ◌++◌, Option}
use Rattle.ls_base.specs.declared.Line.{Line}
use Rattle.ls_ast.specs.declared.tree.DefOf.{DefOf}
use Rattle.ls_ast.specs.declared.tree.DefOf.TheVariants as item
use Rattle.ls_ast.specs.declared.tree.Mark.{Mark}
use Rattle.ls_ast.specs.declared.tree.Mark.TheVariants as mark
use Rattle.ls_ast.specs.declared.tree.Pat.{Pat}
use Rattle.ls_sig.specs.declared.binder.Note.{Note}
use Rattle.ls_sig.specs.declared.sigs.InitSig.{InitSig}
use Rattle.ls_places.specs.declared.definition.Definition.{Definition}
use Rattle.ls_places.specs.Definitions.{definition_of}
use Rattle.init_rules.specs.Init.{Initialised, IsSignature}

-- a parameter that stands for a stream of values alone
abbrev pub is_data : Mark → Bool
is_data mark.Data = true
is_data _ = false

-- for each parameter whether it does
abbrev pub data_marks : List Pat → List Mark → List Bool
data_marks [] marks = []
data_marks (p ∷ params) [] = false ∷ data_marks params []
data_marks (p ∷ params) (m ∷ marks) = is_data m ∷ data_marks params marks

-- a `let`, with what stands where in it
pub record Let : Type 0 where
  pub line : Line
  pub are_data : List Bool
  pub body : Definition

-- `cases` is the place of a constructor in its enumeration; it does not matter here
abbrev pub lets : (ℕ → Option ℕ) → List (DefOf Note) → List Let
lets cases [] = []
lets cases (item.Cases line name all ∷ rest) = lets cases rest
lets cases (item.Let line node name params marks notes body ∷ rest) =
    record { line = line; are_data = data_marks params marks; body = definition_of cases params notes body } ∷ lets cases rest

-- after earlier signatures these are those of the definitions
abbrev pub Judged : List InitSig → List Let → List InitSig → Type 0
Judged sigs [] [] = Unit {0}
Judged sigs (d ∷ ds) (s ∷ ss) = (Initialised d.body sigs × IsSignature d.body sigs d.are_data s) × Judged (sigs ++ s ∷ []) ds ss
Judged sigs _ _ = ⊥

-- the definition at this line is the first that is not initialised
abbrev pub Uninitialised : List InitSig → List Let → Line → Type 0
Uninitialised sigs ds line =
    (before : List Let) × (d : Let) × (after : List Let) × (ss : List InitSig) × (ds ≡ before ++ d ∷ after)
    × Judged sigs before ss × (d.line ≡ line) × (Initialised d.body (sigs ++ ss) → ⊥)

-- ---- laws

-- a definition that is judged after those before is judged with them
abbrev pub JudgedWithMore : Type 0
JudgedWithMore =
    (sigs : List InitSig) (ds : List Let) (ss : List InitSig) (d : Let) (s : InitSig) → Judged sigs ds ss
    → Initialised d.body (sigs ++ ss) → IsSignature d.body (sigs ++ ss) d.are_data s → Judged sigs (ds ++ d ∷ []) (ss ++ s ∷ [])

-- a file has one list of signatures
abbrev pub OneJudgement : Type 0
OneJudgement = (sigs : List InitSig) (ds : List Let) (ss ss' : List InitSig) → Judged sigs ds ss → Judged sigs ds ss' → ss ≡ ss'

-- and either has it, or a first definition that is not initialised
abbrev pub NotBoth : Type 0
NotBoth = (sigs : List InitSig) (ds : List Let) (ss : List InitSig) (line : Line) → Judged sigs ds ss → Uninitialised sigs ds line → ⊥
