-- Laws of well-formed clocks.
use Rattle.std.specs.Prelude.{ℕ, List, Option}
use Rattle.ls_ast.specs.declared.tree.BodyOf.{BodyOf}
use Rattle.ls_ast.specs.declared.tree.Mark.{Mark}
use Rattle.ls_ast.specs.declared.tree.Pat.{Pat}
use Rattle.ls_terms.specs.declared.clocks.ClockTerm.{ClockTerm}
use Rattle.ls_sig.specs.declared.binder.Note.{Note}
use Rattle.ls_sig.specs.declared.binder.TypeNote.{TypeNote}
use Rattle.tree_notes.specs.Each.{Each}
use Rattle.tree_notes.specs.Order.{notes_body}
use Rattle.clock_rules.specs.declared.scheme.ClockScheme.{ClockScheme}
use Rattle.clock_rules.specs.Files.{scheme}
use Rattle.clock_rules.specs.Fresh.{facts_of}
use Rattle.clock_rules.specs.Judged.{IsPrincipal}
use Rattle.clock_rules.specs.Rules.{Clocks}
use Rattle.clock_laws.specs.Scoped.{own, IsWell, IsScoped}
use Rattle.clock_laws.specs.WellFormed.{IsWellFormed}

-- all clocks of an annotated definition are well-formed
pub record AreWellFormed (own : ℕ → Option ClockTerm) (ns : List Note) (b : BodyOf Note) (cs : Clocks) : Type 0 where
  pub notes : Each (λ (n : Note). IsWellFormed own n.ck) ns
  pub body : Each (λ (n : Note). IsWellFormed own n.ck) (notes_body Note b)
  pub vars : Each (IsWellFormed own) cs.vars
  pub blocks : Each (IsWellFormed own) cs.blocks

-- over schemes whose clocks are well-formed, those of a principal annotation are
abbrev pub WellWherePrincipal : Type 0
WellWherePrincipal = (schemes : List ClockScheme) (cases : ℕ → Option ℕ) (params : List Pat) (marks : List Mark) (types : List TypeNote) (tree : BodyOf TypeNote) (notes : List Note) (body : BodyOf Note)
    → Each IsWell schemes → IsScoped schemes (facts_of schemes cases params marks notes body)
    → (p : IsPrincipal schemes cases params marks types tree notes body)
    → AreWellFormed (own (facts_of schemes cases params marks notes body) p.clocks) notes body p.clocks

-- and so are those of its scheme
abbrev pub SchemeWellWherePrincipal : Type 0
SchemeWellWherePrincipal = (schemes : List ClockScheme) (cases : ℕ → Option ℕ) (params : List Pat) (marks : List Mark) (types : List TypeNote) (tree : BodyOf TypeNote) (notes : List Note) (body : BodyOf Note)
    → Each IsWell schemes → IsScoped schemes (facts_of schemes cases params marks notes body)
    → IsPrincipal schemes cases params marks types tree notes body
    → IsWell (scheme marks notes body.result.note.ck)
