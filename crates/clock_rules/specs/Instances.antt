-- Instances of annotations: terms in place of the variables of all clocks in them.
use Rattle.std.specs.Prelude.{ℕ, map, Option}
use Rattle.ls_ast.specs.declared.tree.Form.TheOpen.{Form-F}
use Rattle.ls_terms.specs.declared.clocks.ClockTerm.{ClockTerm}
use Rattle.ls_terms.specs.Clocks.{apply}
use Rattle.ls_places.specs.Places.{Place}
use Rattle.ls_sig.specs.declared.binder.Note.{Note}
use Rattle.clock_rules.specs.Layers.{Layer, remap}
use Rattle.clock_rules.specs.Facts.{Facts}
use Rattle.clock_rules.specs.Rules.{Clocks, Pair}

-- ---- other notes in the same places

module _ {N M : Type 0} (f : N → M) where
  abbrev pub map_form : Form-F N (Unit {0}) N → Form-F M (Unit {0}) M
  map_form x = remap f x

  abbrev pub map_layer : Layer N → Layer M
  map_layer l = record { note = f l.note; form = map_form l.form; holds = l.holds }

  abbrev pub map_node : Layer N × Place → Layer M × Place
  map_node n = (map_layer n.0, n.1)

  abbrev pub map_facts : Facts N → Facts M
  map_facts d = record {
    params = d.params;
    marks = d.marks;
    notes = map f d.notes;
    result = f d.result;
    nodes = map map_node d.nodes;
    wholes = map f d.wholes;
    vars = d.vars;
    sites = d.sites;
    starts = d.starts;
    names = d.names;
  }

-- ---- terms for variables

abbrev pub Subst : Type 0
Subst = ℕ → Option ClockTerm

abbrev pub in_note : Subst → Note → Note
in_note by n = record n { ck = apply by n.ck }

abbrev pub in_clocks : Subst → Clocks → Clocks
in_clocks by cs = record { vars = map (apply by) cs.vars; blocks = map (apply by) cs.blocks }

abbrev pub in_pair : Subst → Pair → Pair
in_pair by p = (apply by p.0, apply by p.1)

abbrev pub in_facts : Subst → Facts Note → Facts Note
in_facts by = map_facts (in_note by)

abbrev pub in_node : Subst → Layer Note × Place → Layer Note × Place
in_node by = map_node (in_note by)
