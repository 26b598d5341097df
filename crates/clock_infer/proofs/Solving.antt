-- A most general unifier, as unification gives it.
use Rattle.std.specs.Prelude.{◌≡◌, ℕ, ◌≤◌, ◌==◌, Bool, true, false, List, [], ◌∷◌, Option, Some, All, if◌then◌else◌}
use Rattle.std.proofs.Common.{subst}
use Rattle.ls_ast.specs.declared.tree.Mark.{Mark}
use Rattle.ls_terms.specs.declared.clocks.ClockTerm.{ClockTerm}
use Rattle.ls_terms.specs.Clocks.{apply, size, stands}
use Rattle.ls_sig.specs.declared.binder.Note.{Note}
use Rattle.term_unify.specs.Terms.{first}
use Rattle.tree_notes.specs.Each.{Each}
use Rattle.clock_rules.specs.declared.scheme.ClockScheme.{ClockScheme}
use Rattle.clock_rules.specs.Constraints.{constraints}
use Rattle.clock_rules.specs.Facts.{facts_at, nodes_of}
use Rattle.clock_rules.specs.Fresh.{given_vars}
use Rattle.clock_rules.specs.Instances as In
use Rattle.clock_rules.specs.Rules.{Pair}
use Rattle.clock_rules.specs.Terms.{limit}
use Rattle.clock_rules.proofs.Seen.{from_library, to_library}
use Rattle.clock_pairs.specs.Scene.{function}
use Rattle.clock_infer.specs.Prepared.{IsGeneral, IsUnsolvable, Put, pairs}
use Rattle.clock_infer.specs.declared.definition.Prepared.{Prepared}

-- ---- what is listed first

one_first : (P : ClockTerm → Type 0) (c : Bool) (u t : ClockTerm) (o : Option ClockTerm) → (if c then Some u else o) ≡ Some t → P u → (o ≡ Some t → P t) → P t
one_first P true u t o e here more = let same : u ≡ t = cc in subst P same here
one_first P false u t o e here more = more e

of_first : (P : ClockTerm → Type 0) (list : List (ℕ × ClockTerm)) → Each (λ e. P e.1) list → (x : ℕ) (t : ClockTerm) → first list x ≡ Some t → P t
of_first P [] h x t e = absurd (cc)
of_first P (p ∷ ps) h x t e = one_first P (p.0 == x) p.1 t (first ps x) e h.0 (of_first P ps h.1 x t)

-- ---- both answers

abbrev IsMet : In.Subst → Pair → Type 0
IsMet by p = apply by p.0 ≡ apply by p.1

pub general : (ps : List Pair) (s : Put) → All (IsMet (first s.list)) ps → ((by : In.Subst) → All (IsMet by) ps → (t : ClockTerm) → apply by (apply (first s.list) t) ≡ apply by t)
    → All (λ e. size e.1 ≤ limit) s.list → All (λ e. stands e.1 ≡ true) s.list → IsGeneral ps s
general ps s met most small stand = record {
  standing = of_first (λ t. stands t ≡ true) s.list (from_library (λ e. stands e.1 ≡ true) s.list stand);
  unifies = from_library (IsMet (first s.list)) ps met;
  general = λ by h t. most by (to_library (IsMet by) ps h) t;
  small = of_first (λ t. size t ≤ limit) s.list (from_library (λ e. size e.1 ≤ limit) s.list small);
}

pub unsolvable : (ps : List Pair) → ((by : In.Subst) → All (IsMet by) ps → ((x : ℕ) (t : ClockTerm) → by x ≡ Some t → (size t ≤ limit) × (stands t ≡ true)) → ⊥) → IsUnsolvable ps
unsolvable ps none by met clocks = none by (to_library (IsMet by) ps met) (λ x t e. let c = clocks x t e in (c.small, c.stands))

-- ---- the pairs

-- the pairs of a definition that is looked at through slices
pub pairs_seen : (schemes : List ClockScheme) (cases : ℕ → Option ℕ) (p : Prepared) (marks ms : List Mark) (ns : List Note) (vs bs : List ClockTerm) → ms ≡ marks → ns ≡ p.notes → vs ≡ p.vars → bs ≡ p.blocks
    → constraints schemes cases (record {
      facts = facts_at Note function p.index.params ms ns p.body.result.note p.index.places;
      clocks = record { vars = vs; blocks = bs };
      given = (given_vars schemes (nodes_of Note function p.index.places.exprs) p.next).0;
    }) ≡ pairs schemes cases marks p
pairs_seen schemes cases p marks ms ns vs bs m n v b = λ i. constraints schemes cases (record {
  facts = facts_at Note function p.index.params (m i) (n i) p.body.result.note p.index.places;
  clocks = record { vars = v i; blocks = b i };
  given = (given_vars schemes (nodes_of Note function p.index.places.exprs) p.next).0;
})
