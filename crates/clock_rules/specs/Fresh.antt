-- The annotation of a typed definition with a new variable wherever a clock may be.
use Rattle.std.specs.Prelude.{ℕ, zero, suc, List, [], ◌∷◌, length, Option}
use Rattle.ls_ast.specs.declared.tree.BodyOf.{BodyOf}
use Rattle.ls_ast.specs.declared.tree.Mark.{Mark}
use Rattle.ls_ast.specs.declared.tree.Pat.{Pat}
use Rattle.ls_terms.specs.declared.clocks.ClockTerm.{ClockTerm}
use Rattle.ls_terms.specs.declared.types.Kind.TheVariants as kind
use Rattle.ls_terms.specs.declared.types.TypeTerm.{TypeTerm, fold-TypeTerm}
use Rattle.ls_terms.specs.declared.types.TypeTerm.TheOpen.{TypeTerm-F}
use Rattle.ls_sig.specs.Notes.{is_signal}
use Rattle.ls_sig.specs.declared.binder.Note.{Note}
use Rattle.ls_sig.specs.declared.binder.TypeNote.{TypeNote}
use Rattle.clock_rules.specs.declared.scheme.ClockScheme.{ClockScheme}
use Rattle.clock_rules.specs.Terms.{var, arrow, pointwise, is_function}
use Rattle.clock_rules.specs.Facts.{Facts, facts}
use Rattle.clock_rules.specs.Rules.{count_at}
use Rattle.clock_rules.specs.Constraints.{Node, Annotation}
use Rattle.tree_notes.specs.Numbered.{From, two, all_from, number_notes, number_body}

-- the most general clock of a type, with variables from a number on
abbrev pub shape_step : TypeTerm-F (From ℕ ClockTerm) → From ℕ ClockTerm
shape_step (TypeTerm-F.Arrow kind.Comb fs f) k = (pointwise, k)
shape_step (TypeTerm-F.Arrow kind.Seq fs f) k = (arrow (all_from fs k).0 (var (all_from fs k).1), suc (all_from fs k).1)
shape_step _ k = (var k, suc k)

abbrev pub shape : TypeTerm → From ℕ ClockTerm
shape = fold-TypeTerm (From ℕ ClockTerm) shape_step

abbrev pub step : ℕ → TypeNote → Note
step k t = record { bound = t.bound; ty = t.ty; ck = (shape t.ty k).0; restarts = [] }

abbrev pub next : ℕ → TypeNote → ℕ
next k t = (shape t.ty k).1

abbrev pub some_vars : ℕ → From ℕ (List ClockTerm)
some_vars zero k = ([], k)
some_vars (suc n) k = (var k ∷ (some_vars n (suc k)).0, (some_vars n (suc k)).1)

abbrev pub given_vars : List ClockScheme → List Node → From ℕ (List (List ClockTerm))
given_vars sigs [] k = ([], k)
given_vars sigs (n ∷ ns) k = two (λ x xs. x ∷ xs) (some_vars (count_at sigs n.0.note.bound)) (given_vars sigs ns) k

abbrev pub erase : Note → TypeNote
erase n = record { bound = n.bound; ty = n.ty }

module _ (sigs : List ClockScheme) (cases : ℕ → Option ℕ) (params : List Pat) (marks : List Mark) where
  -- what the rules see of an annotated definition
  abbrev pub facts_of : List Note → BodyOf Note → Facts Note
  facts_of = facts Note (λ n. is_function n.ty) cases (λ n. is_signal n.ty) params marks

  module _ (notes : List TypeNote) (body : BodyOf TypeNote) where
    abbrev pub fresh_notes : List Note × ℕ
    fresh_notes = number_notes step next notes 0

    abbrev pub fresh_body : BodyOf Note × ℕ
    fresh_body = number_body step next body fresh_notes.1

    abbrev pub fresh_facts : Facts Note
    fresh_facts = facts_of fresh_notes.0 fresh_body.0

    abbrev pub fresh_vars : List ClockTerm × ℕ
    fresh_vars = some_vars (length fresh_facts.vars) fresh_body.1

    abbrev pub fresh_blocks : List ClockTerm × ℕ
    fresh_blocks = some_vars (length fresh_facts.names) fresh_vars.1

    abbrev pub fresh : Annotation
    fresh = record {
      facts = fresh_facts;
      clocks = record { vars = fresh_vars.0; blocks = fresh_blocks.0 };
      given = (given_vars sigs fresh_facts.nodes fresh_blocks.1).0;
    }
