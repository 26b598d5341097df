-- The places of a body, where a note tells its own.
use Rattle.std.specs.Prelude.{ℕ, List, [], ◌∷◌, ◌++◌, map, Option, Some, None}
use Rattle.ls_ast.specs.declared.tree.BodyOf.{BodyOf}
use Rattle.ls_ast.specs.declared.tree.Case.{Case}
use Rattle.ls_ast.specs.declared.tree.Expr.{Expr, Expr-F, fold-Expr}
use Rattle.ls_ast.specs.declared.tree.Form.TheOpen.{Form-F}
use Rattle.ls_ast.specs.declared.tree.Equation.{Equation, fold-Equation}
use Rattle.ls_ast.specs.declared.tree.Equation.TheOpen.{Equation-F, Arm-F, Guard-F, Handler-F, State-F, Test-F}
use Rattle.type_rules.specs.Schemes.{joined}

module _ {N : Type 0} (ty : N → ℕ) where
  abbrev pub choice_places : List (Case × List ℕ) → List ℕ
  choice_places [] = []
  choice_places (c ∷ cs) = c.1 ++ choice_places cs

  abbrev pub option_places : Option (List ℕ) → List ℕ
  option_places None = []
  option_places (Some ks) = ks

  abbrev pub form_places : Form-F N (List ℕ) (List ℕ) → List ℕ
  form_places (Form-F.Op op args) = joined args
  form_places (Form-F.Tuple args) = joined args
  form_places (Form-F.Pre e) = e
  form_places (Form-F.Fby a c) = a ++ c
  form_places (Form-F.Init a c) = a ++ c
  form_places (Form-F.When e x case) = e
  form_places (Form-F.Merge x cs) = choice_places cs
  form_places (Form-F.Call run x args every) = joined args ++ option_places every
  form_places _ = []

  abbrev pub expr_places : Expr-F N (List ℕ) (List ℕ) → List ℕ
  expr_places e = ty e.note ∷ e.form

  -- the places of an expression and its parts
  abbrev pub places_of : Expr N → List ℕ
  places_of = fold-Expr N (List ℕ) (List ℕ) form_places expr_places

  abbrev pub K : Type 0
  K = List ℕ

  abbrev pub eq_places : Equation-F N K K K K K K → K
  eq_places (Equation-F.Plain p e) = places_of e
  eq_places (Equation-F.Clock x e) = places_of e
  eq_places (Equation-F.Initial x e) = places_of e
  eq_places (Equation-F.Emit x e) = places_of e
  eq_places (Equation-F.Reset qs e) = places_of e ++ joined qs
  eq_places (Equation-F.Match e all) = places_of e ++ joined all
  eq_places (Equation-F.Present tests None) = joined tests
  eq_places (Equation-F.Present tests (Some h)) = joined tests ++ h
  eq_places (Equation-F.Automaton all) = joined all

  abbrev pub arm_places : Arm-F N K K K K K K → K
  arm_places a = a.handler

  abbrev pub guard_places : Guard-F N K K K K K K → K
  guard_places g = joined g.eqs ++ places_of g.cond

  abbrev pub handler_places : Handler-F N K K K K K K → K
  handler_places h = joined h.locals ++ joined h.eqs

  abbrev pub state_places : State-F N K K K K K K → K
  state_places s = s.handler ++ joined s.strong ++ joined s.weak

  abbrev pub test_places : Test-F N K K K K K K → K
  test_places t = t.handler

  abbrev pub equation_places : Equation N → K
  equation_places = fold-Equation N K K K K K K eq_places arm_places guard_places handler_places state_places test_places

  -- the places of the expressions of a body
  abbrev pub body_places : BodyOf N → List ℕ
  body_places body = places_of body.result ++ joined (map equation_places body.eqs)
