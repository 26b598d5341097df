-- The signatures of the definitions of a file.
use Rattle.std.specs.Prelude.{Bool, List, [], ◌∷◌, ◌++◌, map}
use Rattle.ls_ast.specs.declared.tree.BodyOf.{BodyOf}
use Rattle.ls_ast.specs.declared.tree.Mark.{Mark}
use Rattle.ls_base.specs.declared.Name.{Name}
use Rattle.ls_sig.specs.declared.binder.TypeNote.{TypeNote}
use Rattle.ls_sig.specs.declared.sigs.Sig.{Sig}
use Rattle.ls_terms.specs.declared.clocks.ClockTerm.TheVariants as clock
use Rattle.ls_terms.specs.declared.types.TypeTerm.{TypeTerm}
use Rattle.type_rules.specs.Files.{LetOf, appearing, renumbered, signature, note_types}
pub use Rattle.type_rules.specs.Files.{kind_of}

-- the signature of these types, its variables numbered from 0 by first appearance, parameters first
abbrev pub signature_with : Bool → Name → List Mark → List TypeTerm → TypeTerm → Sig
signature_with node name marks types to =
    let order = appearing (types ++ to ∷ []) in
    record {
      name = name;
      kind = kind_of node;
      marks = marks;
      params = map (renumbered 0 order) types;
      result = renumbered 0 order to;
      clocks = [];
      result_clock = clock.Var 0;
      clock_names = [];
    }

abbrev pub signature_of_body : Bool → Name → List Mark → List TypeNote → BodyOf TypeNote → Sig
signature_of_body node name marks notes body = signature_with node name marks (note_types notes) body.result.note.ty

-- the signatures of annotated definitions
abbrev pub signatures_of : List (LetOf TypeNote) → List Sig
signatures_of [] = []
signatures_of (a ∷ as') = signature a.node a.name a.def ∷ signatures_of as'
