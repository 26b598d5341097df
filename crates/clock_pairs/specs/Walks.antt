-- The pairs of expressions as they are collected, with new variables for those of signatures.
use Rattle.std.specs.Prelude.{ℕ, Bool, List, [], ◌∷◌, ◌++◌, map, Option}
use Rattle.ls_ast.specs.declared.tree.Case.{Case}
use Rattle.ls_ast.specs.declared.tree.Expr.{Expr}
use Rattle.ls_ast.specs.declared.tree.Form.{Form, fold-Form, out-Form}
use Rattle.ls_terms.specs.declared.clocks.ClockTerm.{ClockTerm}
use Rattle.ls_sig.specs.declared.binder.Note.{Note}
use Rattle.ls_places.specs.Clocks.{choice_parts, form_parts, option_part}
use Rattle.ls_places.specs.Places.{Place}
use Rattle.ls_places.specs.declared.places.Whole.{Whole}
use Rattle.clock_rules.specs.Constraints.{Annotation, Node}
use Rattle.clock_rules.specs.Facts.{nodes_of, placed}
use Rattle.clock_rules.specs.Fresh.{given_vars, some_vars}
use Rattle.clock_rules.specs.Layers.{Inside, Laid, expr_layers, form_layers, laid, layers, streams as laid_streams}
use Rattle.clock_rules.specs.Rules as R
use Rattle.clock_rules.specs.Rules.{count_at}
use Rattle.clock_pairs.specs.Scene.{cases, clocks, facts, form_of, function}
use Rattle.clock_pairs.specs.declared.expressions.Collected.{Collected}
use Rattle.clock_pairs.specs.declared.scene.Scene.{Scene}

-- ---- functions that hold a stream

abbrev pub holds : Expr Note → Bool
holds e = (laid Note function e).holds

abbrev pub inside : Form Note → Inside Note function
inside = fold-Form Note (Inside Note function) (Laid Note function) (form_layers Note function) (expr_layers Note function)

abbrev pub gives : Form Note → Bool
gives f = (inside f).given

abbrev pub streams : List (Expr Note) → Bool
streams all = laid_streams Note function (map (laid Note function) all)

-- ---- the parts of a form

abbrev pub parts : Form Note → List (Expr Note)
parts f = form_parts (out-Form Note f)

abbrev pub branches : List (Case × Expr Note) → List (Expr Note)
branches = choice_parts

abbrev pub maybe : Option (Expr Note) → List (Expr Note)
maybe = option_part

-- an expression without its parts
abbrev pub node : Expr Note → Place → Node
node e p = (record { note = e.note; form = form_of e.form; holds = holds e }, p)

abbrev pub nodes : Expr Note → Place → List Node
nodes e p = placed Note p (layers Note function e)

-- all expressions
abbrev pub all_nodes : List (Whole Note) → List Node
all_nodes = nodes_of Note function

module _ {C : Type 0} (place : C → ℕ → Option ℕ) (s : Scene C) where
  abbrev pub new_vars : Node → ℕ → List ClockTerm × ℕ
  new_vars n = some_vars (count_at s.schemes.now n.0.note.bound)

  -- one more expression
  abbrev pub took : Node → Collected → Collected
  took n c = record {
    list = c.list ++ R.node_pairs s.schemes.now (cases place s) (facts place s) (clocks place s) (new_vars n c.next).0 n;
    next = (new_vars n c.next).1;
  }

  abbrev pub collected : List Node → Collected → Collected
  collected [] c = c
  collected (n ∷ ns) c = collected ns (took n c)

  -- expressions at one place, with all in them
  abbrev pub walked : Place → List (Expr Note) → Collected → Collected
  walked p [] c = c
  walked p (e ∷ es) c = walked p es (collected (nodes e p) c)

  -- the annotation, with new variables from a number on for those of signatures
  abbrev pub annotation : ℕ → Annotation
  annotation next = record { facts = facts place s; clocks = clocks place s; given = (given_vars s.schemes.now (all_nodes s.index.now.places.exprs) next).0 }
