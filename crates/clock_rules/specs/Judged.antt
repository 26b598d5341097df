-- Definitions whose clocks obey the rules, and principal annotations.
use Rattle.std.specs.Prelude.{◌≡◌, ℕ, List, [], ◌++◌, map, Option}
use Rattle.ls_ast.specs.declared.tree.BodyOf.{BodyOf}
use Rattle.ls_ast.specs.declared.tree.Mark.{Mark}
use Rattle.ls_ast.specs.declared.tree.Pat.{Pat}
use Rattle.ls_sig.specs.declared.binder.Note.{Note}
use Rattle.ls_sig.specs.declared.binder.TypeNote.{TypeNote}
use Rattle.clock_rules.specs.declared.scheme.ClockScheme.{ClockScheme}
use Rattle.clock_rules.specs.Rules as R
use Rattle.clock_rules.specs.Rules.{Clocks}
use Rattle.clock_rules.specs.Instances.{Subst, in_note, in_clocks}
use Rattle.tree_notes.specs.Each.{Each}
use Rattle.tree_notes.specs.Noted as T
use Rattle.tree_notes.specs.Order.{notes_body}
use Rattle.clock_rules.specs.Fresh.{erase, facts_of}

-- an expression that restarts only where its place does
abbrev pub Unrestarted : Note → Type 0
Unrestarted n = n.restarts ≡ []

module _ (sigs : List ClockScheme) (cases : ℕ → Option ℕ) (params : List Pat) (marks : List Mark) where
  -- an annotated definition obeys the rules with some clocks for its variables and blocks
  pub record IsClocked (notes : List Note) (body : BodyOf Note) : Type 0 where
    pub clocks : Clocks
    pub obeys : R.Obeys sigs cases (facts_of sigs cases params marks notes body) clocks

  -- an annotation, with the clocks of variables and blocks, is an instance of another
  pub record IsInstance (notes : List Note) (body : BodyOf Note) (clocks : Clocks) (notes' : List Note) (body' : BodyOf Note) (clocks' : Clocks) : Type 0 where
    pub by : Subst
    pub of_notes : map (in_note by) notes ≡ notes'
    pub of_body : T.in_body Note Note (in_note by) body ≡ body'
    pub of_clocks : in_clocks by clocks ≡ clocks'

  -- an annotation of these trees, in which nothing restarts by a note
  pub record Annotates (types : List TypeNote) (tree : BodyOf TypeNote) (notes : List Note) (body : BodyOf Note) : Type 0 where
    pub of_types : map erase notes ≡ types
    pub of_tree : T.in_body Note TypeNote erase body ≡ tree
    pub unrestarted : Each Unrestarted (notes ++ notes_body Note body)

  -- principal: it obeys the rules, and every annotation of the same trees that does is an instance of it
  pub record IsPrincipal (types : List TypeNote) (tree : BodyOf TypeNote) (notes : List Note) (body : BodyOf Note) : Type 0 where
    pub annotates : Annotates types tree notes body
    pub clocks : Clocks
    pub obeys : R.Obeys sigs cases (facts_of sigs cases params marks notes body) clocks
    pub general : (notes' : List Note) (body' : BodyOf Note) (clocks' : Clocks) → Annotates types tree notes' body'
        → R.Obeys sigs cases (facts_of sigs cases params marks notes' body') clocks' → IsInstance notes body clocks notes' body' clocks'

  -- no annotation of these trees obeys the rules
  abbrev pub NoneObeys : List TypeNote → BodyOf TypeNote → Type 0
  NoneObeys types tree = (notes : List Note) (body : BodyOf Note) → Annotates types tree notes body → IsClocked notes body → ⊥
