-- What the judgement on types supposes of a file, and what its scope gives.
use Rattle.std.specs.Prelude.{◌≡◌, ℕ, true, false, List, [], ◌∷◌, Option}
use Rattle.ls_ast.specs.declared.tree.FileOf.{FileOf}
use Rattle.ls_ast.specs.declared.tree.Mark.{Mark}
use Rattle.ls_ast.specs.declared.tree.Plain.{Plain}
use Rattle.ls_terms.specs.declared.types.TypeTerm.{TypeTerm}
use Rattle.ls_sig.specs.declared.binder.TypeNote.{TypeNote}
use Rattle.ls_sig.specs.declared.binder.Use.{Use}
use Rattle.ls_sig.specs.declared.env.Env.{Env}
use Rattle.ls_sig.specs.declared.sigs.Sig.{Sig}
use Rattle.tree_notes.specs.Each.{Each}
use Rattle.type_rules.specs.Schemes.{is_data}
use Rattle.type_rules.specs.Expressions.{is_functional}
use Rattle.type_rules.specs.Files.{LetOf, Judged, lets}
pub use Rattle.type_rules.specs.Laws.{AreFunctionsAll}
use Rattle.scope_rules.specs.After.{resolved}

-- at each mark of a function there is a type, which is no type of data
abbrev pub FunctionTypes : List Mark → List TypeTerm → Type 0
FunctionTypes [] ts = Unit {0}
FunctionTypes (m ∷ ms) [] = (is_functional m ≡ true → ⊥) × FunctionTypes ms []
FunctionTypes (m ∷ ms) (t ∷ ts) = (is_functional m ≡ true → is_data t ≡ false) × FunctionTypes ms ts

-- a parameter that is marked as a function is one
abbrev pub FunctionParams : Sig → Type 0
FunctionParams s = FunctionTypes s.marks s.params

-- the definitions of a file with its binders and marks
abbrev pub definitions : Env → FileOf Plain → List (LetOf Use)
definitions env file = lets (resolved env file).defs

-- What the judgement supposes of parameters holds of each file whose names are resolved.
abbrev pub FunctionsOfScope : Type 0
FunctionsOfScope =
    (case_type : ℕ → Option TypeTerm) (limit : ℕ) (env : Env) (file : FileOf Plain)
    → Each FunctionParams env.sigs → AreFunctionsAll case_type limit env.sigs (definitions env file)

-- And the signatures of its definitions are again such that what stands after the file may suppose it.
abbrev pub SignaturesOfScope : Type 0
SignaturesOfScope =
    (case_type : ℕ → Option TypeTerm) (limit : ℕ) (env : Env) (file : FileOf Plain) (as' : List (LetOf TypeNote)) (ss : List Sig)
    → Each FunctionParams env.sigs → Judged case_type limit env.sigs (definitions env file) as' ss → Each FunctionParams ss
