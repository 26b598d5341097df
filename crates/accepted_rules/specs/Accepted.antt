-- What the judgements on a file come to, one after the other: names, types, clocks, initialisation, causality.
use Rattle.std.specs.Prelude.{◌≡◌, ℕ, List, [], map, None}
use Rattle.ls_ast.specs.declared.tree.FileOf.{FileOf}
use Rattle.ls_ast.specs.declared.tree.Plain.{Plain}
use Rattle.ls_base.specs.declared.Name.{Name}
use Rattle.ls_places.specs.Definitions.{case_place}
use Rattle.ls_sig.specs.Environment.{empty}
use Rattle.ls_sig.specs.declared.binder.Note.{Note}
use Rattle.ls_sig.specs.declared.binder.TypeNote.{TypeNote}
use Rattle.ls_sig.specs.declared.binder.Use.{Use}
use Rattle.ls_sig.specs.declared.sigs.InitSigs.{InitSigs}
use Rattle.ls_sig.specs.declared.sigs.Ranks.{Ranks}
use Rattle.ls_sig.specs.declared.sigs.Sig.{Sig}
use Rattle.tree_notes.specs.Noted.{in_definition}
use Rattle.scope_rules.specs.After.{scope_fault, resolved}
use Rattle.type_rules.specs.Constructors.{case_type}
use Rattle.type_rules.specs.Files as types
use Rattle.type_rules.specs.Files.{LetOf}
use Rattle.clock_rules.specs.Files as clocks
use Rattle.clock_rules.specs.Fresh.{erase}
use Rattle.init_rules.specs.Files as init
use Rattle.causality_rules.specs.Files as causality
use Rattle.accepted_rules.specs.Enums.{enum_names, enum_constructors}

-- the greatest number of nodes of a type
abbrev pub type_limit : ℕ
type_limit = 4096

-- these are the principal types of a file with its binders, and these the signatures
pub record AreTypes (file : FileOf Use) (typed : FileOf TypeNote) (sigs : List Sig) : Type 0 where
  pub annotated : List (LetOf TypeNote)
  pub judged : types.Judged (case_type empty file) type_limit [] (types.lets file.defs) annotated sigs
  pub typed_as : typed ≡ record { defs = types.in_place file.defs annotated; names = file.names }

-- these are the principal clocks of a typed file
pub record AreClocks (typed : FileOf TypeNote) (ann : FileOf Note) : Type 0 where
  pub same : map (in_definition Note TypeNote erase) ann.defs ≡ typed.defs
  pub names : ann.names ≡ typed.names
  pub judged : clocks.Judged (case_place typed.defs) [] ann.defs

-- each definition is initialised, and these are the signatures
abbrev pub AreInits : FileOf Note → InitSigs → Type 0
AreInits ann inits = init.Judged [] (init.lets (case_place ann.defs) ann.defs) inits.list

-- each definition is causal: these numbers rise along each read
abbrev pub AreRanks : FileOf Note → Ranks → Type 0
AreRanks ann ranks = causality.AllRanked (causality.lets (case_place ann.defs) ann.defs) ranks.list

-- ---- the whole

-- all judgements hold of the file, and give these
pub record Accepts (file : FileOf Plain) (ann : FileOf Note) (sigs : List Sig) (inits : InitSigs) (ranks : Ranks) (enums : List Name) (constructors : List (List Name)) : Type 0 where
  pub typed : FileOf TypeNote
  pub typed_sigs : List Sig
  pub scope : scope_fault empty file ≡ None
  pub are_types : AreTypes (resolved empty file) typed typed_sigs
  pub are_clocks : AreClocks typed ann
  pub are_inits : AreInits ann inits
  pub are_ranks : AreRanks ann ranks
  pub are_sigs : sigs ≡ clocks.with_schemes typed_sigs ann.defs
  pub are_enums : enums ≡ enum_names ann.defs
  pub are_constructors : constructors ≡ enum_constructors ann.defs

-- some file of which all judgements hold has these
abbrev pub IsAccepted : FileOf Note → List Sig → InitSigs → Ranks → List Name → List (List Name) → Type 0
IsAccepted ann sigs inits ranks enums constructors = (file : FileOf Plain) × Accepts file ann sigs inits ranks enums constructors
