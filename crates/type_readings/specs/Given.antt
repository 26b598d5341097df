-- What the walk through a definition is given, as the rules cite it.
use Rattle.std.specs.Prelude.{ℕ, ◌+◌, ◌<◌, ◌^◌, Bool, List, length, slice_get, Option}
use Rattle.ls_ast.specs.declared.tree.Case.{Case}
use Rattle.ls_ast.specs.declared.tree.Expr.{Expr}
use Rattle.ls_ast.specs.declared.tree.Form.{Form}
use Rattle.ls_ast.specs.declared.tree.Mark.{Mark}
use Rattle.ls_sig.specs.declared.binder.Binder.{Binder}
use Rattle.ls_terms.specs.declared.types.TypeTerm.{TypeTerm}
use Rattle.type_readings.specs.declared.given.Given.{Given}
use Rattle.type_rules.specs.Bodies as B
use Rattle.type_rules.specs.Definitions.{mark_in, names_type}
use Rattle.type_rules.specs.Expressions as ex
use Rattle.type_rules.specs.Expressions.{Reading}
use Rattle.type_rules.specs.Numbers.{Placed, bound_of, place_of}

-- the mark of a parameter's name
abbrev pub mark_at : List Mark → ℕ → Mark
mark_at marks k = mark_in (slice_get marks k)

-- the places of names have numbers
abbrev pub fits : {C : Type 0} → Given C → Type 0
fits g = length g.params.now + length g.vars.now < 2 ^ 32

module _ {C : Type 0} (case_type : C → ℕ → Option TypeTerm) (g : Given C) where
  abbrev pub cases : ℕ → Option TypeTerm
  cases = case_type g.cases.now

  abbrev pub marks : ℕ → Mark
  marks = mark_at g.marks.now

  abbrev pub type_of : Binder → Option ℕ
  type_of = names_type g.sigs.now cases (length g.params.now) (length g.vars.now) (λ k. k)

  abbrev pub signal_at : ℕ → Bool
  signal_at k = B.is_signal_at Placed ℕ bound_of place_of g.sigs.now cases g.params.now marks g.vars.now type_of (slice_get g.vars.now k)

  abbrev pub type_of_case : Case → Option TypeTerm
  type_of_case = ex.type_of_case bound_of place_of g.sigs.now cases marks signal_at type_of

  abbrev pub said : Expr Placed → Reading ℕ
  said = B.said Placed ℕ bound_of place_of g.sigs.now cases g.params.now marks g.vars.now type_of

  abbrev pub said_form : Form Placed → Placed → Reading ℕ
  said_form = ex.reading_of_form bound_of place_of g.sigs.now cases marks signal_at type_of
