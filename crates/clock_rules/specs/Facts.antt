-- What the rules of clocks see of a definition: the places in it with the notes at them, and no trees.
use Rattle.std.specs.Prelude.{ℕ, Bool, List, [], ◌∷◌, ◌++◌, map, length, Option}
use Rattle.ls_ast.specs.declared.tree.BodyOf.{BodyOf}
use Rattle.ls_ast.specs.declared.tree.Mark.{Mark}
use Rattle.ls_ast.specs.declared.tree.Pat.{Pat}
use Rattle.ls_places.specs.Places.{Place, find}
use Rattle.ls_places.specs.declared.places.Named.{Named}
use Rattle.ls_places.specs.declared.places.Places.{Places}
use Rattle.ls_places.specs.declared.places.Site.{Site}
use Rattle.ls_places.specs.declared.places.Start.{Start}
use Rattle.ls_places.specs.declared.places.Variable.{Variable}
use Rattle.ls_places.specs.declared.places.Whole.{Whole}
use Rattle.clock_rules.specs.Layers.{Layer, layers}

-- `notes` are those of the parameters, `nodes` all expressions, `wholes` the notes of the whole expressions, by number
pub record Facts (N : Type 0) : Type 0 where
  pub params : List Pat
  pub marks : List Mark
  pub notes : List N
  pub result : N
  pub nodes : List (Layer N × Place)
  pub wholes : List N
  pub vars : List Variable
  pub sites : List Site
  pub starts : List Start
  pub names : List Named

module _ (N : Type 0) where
  abbrev pub whole_notes : List (Whole N) → List N
  whole_notes = map {A = Whole N} {B = N} (λ x. x.expr.note)

  abbrev pub placed : Place → List (Layer N) → List (Layer N × Place)
  placed p [] = []
  placed p (l ∷ ls) = (l, p) ∷ placed p ls

  module _ (function : N → Bool) where
    abbrev pub nodes_of : List (Whole N) → List (Layer N × Place)
    nodes_of [] = []
    nodes_of (x ∷ all) = placed x.place (layers N function x.expr) ++ nodes_of all

    abbrev pub facts_at : List Pat → List Mark → List N → N → Places N → Facts N
    facts_at params marks notes result found = record {
      params = params;
      marks = marks;
      notes = notes;
      result = result;
      nodes = nodes_of found.exprs;
      wholes = whole_notes found.exprs;
      vars = found.vars;
      sites = found.sites;
      starts = found.starts;
      names = found.names;
    }

    -- `cases` the place of a constructor, `signal` whether a note is that of a signal
    abbrev pub facts : (ℕ → Option ℕ) → (N → Bool) → List Pat → List Mark → List N → BodyOf N → Facts N
    facts cases signal params marks notes body =
        facts_at params marks notes body.result.note (find N (length params) cases (λ e. signal e.note) body)
