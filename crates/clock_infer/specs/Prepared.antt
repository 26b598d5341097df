-- A definition on the way to its principal annotation.
use Rattle.std.specs.Prelude.{◌≡◌, ℕ, ◌≤◌, true, List, [], map, length, Option, Some}
use Rattle.ls_ast.specs.declared.tree.BodyOf.{BodyOf}
use Rattle.ls_ast.specs.declared.tree.Mark.{Mark}
use Rattle.ls_ast.specs.declared.tree.Pat.{Pat}
use Rattle.ls_terms.specs.declared.clocks.ClockTerm.{ClockTerm}
use Rattle.ls_terms.specs.Clocks.{apply, size}
use Rattle.ls_places.specs.Places.{find}
use Rattle.ls_sig.specs.Notes.{is_signal}
use Rattle.ls_sig.specs.declared.binder.Note.{Note}
use Rattle.ls_sig.specs.declared.binder.TypeNote.{TypeNote}
use Rattle.term_unify.specs.Terms.{first}
use Rattle.term_unify.specs.declared.subst.Subst.{Subst}
use Rattle.tree_notes.specs.Noted.{in_body}
use Rattle.clock_rules.specs.declared.scheme.ClockScheme.{ClockScheme}
use Rattle.clock_rules.specs.Constraints.{Annotation, Admissible, Standing, Unifies, constraints}
use Rattle.clock_rules.specs.Facts.{Facts, facts_at, nodes_of}
use Rattle.clock_rules.specs.Fresh.{given_vars, fresh_notes, fresh_body, fresh_vars, fresh_blocks}
use Rattle.clock_rules.specs.Instances as In
use Rattle.clock_rules.specs.Instances.{in_note}
use Rattle.clock_rules.specs.Rules.{Clocks, Pair}
use Rattle.clock_rules.specs.Terms.{limit}
use Rattle.clock_conditions.specs.Met.{Met}
use Rattle.clock_infer.specs.Nodes.{nodes_small}
use Rattle.clock_pairs.specs.Scene.{function}
use Rattle.clock_infer.specs.declared.definition.Clocked.{Clocked}
use Rattle.clock_infer.specs.declared.definition.Prepared.{Prepared}

module _ (schemes : List ClockScheme) (cases : ℕ → Option ℕ) (params : List Pat) (marks : List Mark) (types : List TypeNote) (tree : BodyOf TypeNote) where
  -- it has a new variable wherever a clock may be
  pub record IsPrepared (p : Prepared) : Type 0 where
    pub params_same : p.index.params ≡ params
    pub notes : p.notes ≡ (fresh_notes schemes cases params marks types tree).0
    pub body : p.body ≡ (fresh_body schemes cases params marks types tree).0
    pub places : p.index.places ≡ find Note (length params) cases (λ e. is_signal e.note.ty) (fresh_body schemes cases params marks types tree).0
    pub vars : p.vars ≡ (fresh_vars schemes cases params marks types tree).0
    pub blocks : p.blocks ≡ (fresh_blocks schemes cases params marks types tree).0
    pub next : p.next ≡ (fresh_blocks schemes cases params marks types tree).1

module _ (schemes : List ClockScheme) (cases : ℕ → Option ℕ) (marks : List Mark) (p : Prepared) where
  abbrev pub annotation : Annotation
  annotation = record {
    facts = facts_at Note function p.index.params marks p.notes p.body.result.note p.index.places;
    clocks = record { vars = p.vars; blocks = p.blocks };
    given = (given_vars schemes (nodes_of Note function p.index.places.exprs) p.next).0;
  }

  abbrev pub pairs : List Pair
  pairs = constraints schemes cases annotation

-- ---- what unification finds

abbrev pub Put : Type 0
Put = Subst ClockTerm

pub record IsGeneral (ps : List Pair) (s : Put) : Type 0 where
  pub standing : Standing (first s.list)
  pub unifies : Unifies (first s.list) ps
  pub general : (by : In.Subst) → Unifies by ps → (t : ClockTerm) → apply by (apply (first s.list) t) ≡ apply by t
  pub small : (x : ℕ) (t : ClockTerm) → first s.list x ≡ Some t → size t ≤ limit

abbrev pub IsUnsolvable : List Pair → Type 0
IsUnsolvable ps = (by : In.Subst) → Unifies by ps → Admissible by → ⊥

-- ---- the conditions

module _ (params : List Pat) (marks : List Mark) (p : Prepared) (s : Put) where
  abbrev pub put : Note → Note
  put = in_note (first s.list)

  -- what the conditions see of the definition with these terms
  abbrev pub put_facts : Facts Note
  put_facts = record {
    params = params;
    marks = marks;
    notes = map put p.notes;
    result = put p.body.result.note;
    nodes = [];
    wholes = [];
    vars = p.index.places.vars;
    sites = [];
    starts = [];
    names = p.index.places.names;
  }

  abbrev pub put_clocks : Clocks
  put_clocks = record { vars = map (apply (first s.list)) p.vars; blocks = map (apply (first s.list)) p.blocks }

  pub record Meets : Type 0 where
    pub small : nodes_small s.list p.index.places.exprs ≡ true
    pub met : Met put_facts put_clocks

  pub record IsChecked (c : Clocked) : Type 0 where
    pub notes : c.notes ≡ map put p.notes
    pub body : c.body ≡ in_body Note Note put p.body
    pub meets : Meets
