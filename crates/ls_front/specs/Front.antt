-- What the judgements on a file come to: they are judged one after the other, each over the whole file before the next.
use Rattle.std.specs.Prelude.{◌≡◌, ◌≢◌, ℕ, List, [], None}
use Rattle.ls_ast.specs.declared.tree.FileOf.{FileOf}
use Rattle.ls_ast.specs.declared.tree.Plain.{Plain}
use Rattle.ls_lexer.specs.declared.fault.LexFault.TheVariants as lex
use Rattle.ls_lexer.specs.declared.token.Tokens.{Tokens}
use Rattle.ls_lexer.specs.Lexing.{Lexes, IsLexFault}
use Rattle.ls_parser.specs.Grammar.{IsFile, StopsAt}
use Rattle.ls_parser.specs.declared.definitions.SyntaxFault.{SyntaxFault}
use Rattle.ls_parser.specs.declared.definitions.SyntaxFault.TheVariants as syntax
use Rattle.ls_places.specs.Definitions.{case_place}
use Rattle.ls_scope.specs.declared.fault.ScopeFault.{ScopeFault}
use Rattle.ls_scope.specs.declared.fault.ScopeFault.TheVariants as scope
use Rattle.ls_scope.specs.Answer.{Blames}
use Rattle.ls_sig.specs.Environment.{empty}
use Rattle.ls_sig.specs.declared.binder.Note.{Note}
use Rattle.ls_sig.specs.declared.binder.TypeNote.{TypeNote}
use Rattle.ls_sig.specs.declared.binder.Use.{Use}
use Rattle.ls_sig.specs.declared.sigs.InitSigs.{InitSigs}
use Rattle.ls_sig.specs.declared.sigs.Sig.{Sig}
use Rattle.scope_rules.specs.After.{scope_fault, resolved}
use Rattle.type_rules.specs.Constructors.{case_type}
use Rattle.type_rules.specs.Files.{Illtyped, lets}
use Rattle.type_rules.specs.Laws.{AreFunctionsAll}
use Rattle.type_schemes.specs.Signatures.{signatures_of}
use Rattle.type_infer.specs.declared.fault.TypeFault.{TypeFault}
use Rattle.type_infer.specs.declared.fault.TypeFault.TheVariants as types
use Rattle.clock_rules.specs.Files as clock_files
use Rattle.clock_infer.specs.declared.file.ClockFault.{ClockFault}
use Rattle.clock_infer.specs.declared.file.ClockFault.TheVariants as clocks
use Rattle.init_rules.specs.Files as init_files
use Rattle.init_check.specs.declared.file.InitFault.{InitFault}
use Rattle.init_check.specs.declared.file.InitFault.TheVariants as init
use Rattle.accepted_rules.specs.Accepted.{type_limit, AreTypes, AreClocks, AreInits}
use Rattle.accepted_rules.specs.Enums.{enum_names, enum_constructors}
use Rattle.ls_front.specs.declared.fault.FrontFault.{FrontFault}
use Rattle.ls_front.specs.declared.fault.FrontFault.TheVariants as fails
use Rattle.ls_front.specs.declared.checked.Checked.{Checked}

-- ---- initialisation

-- the definition at the fault's line is the first that is not initialised
abbrev pub UninitialisedAt : FileOf Note → InitFault → Type 0
UninitialisedAt ann (init.Uninitialised line) = init_files.Uninitialised [] (init_files.lets (case_place ann.defs) ann.defs) line
UninitialisedAt ann init.NoMemory = ⊥

abbrev pub InitFails : FileOf Note → FrontFault → Type 0
InitFails ann (fails.Init f) = UninitialisedAt ann f
InitFails ann fails.NoMemory = Unit {0}
InitFails ann _ = ⊥

-- ---- clocks

-- the definition at the fault's line is the first that has no clocks
abbrev pub IllClockedAt : FileOf TypeNote → ClockFault → Type 0
IllClockedAt typed (clocks.IllClocked line) = clock_files.FirstIllClocked (case_place typed.defs) [] typed.defs line.0
IllClockedAt typed clocks.NoMemory = ⊥

abbrev pub ClocksFail : FileOf TypeNote → FrontFault → Type 0
ClocksFail typed (fails.Clocks f) = IllClockedAt typed f
ClocksFail typed fails.NoMemory = Unit {0}
ClocksFail typed f = (ann : FileOf Note) × AreClocks typed ann × InitFails ann f

-- ---- types

-- what the judgement on types supposes of a file: a parameter that is marked as a function is one
abbrev pub IsSane : FileOf Use → Type 0
IsSane file = AreFunctionsAll (case_type empty file) type_limit [] (lets file.defs)

-- the definition at the fault's line is the first that has no types
abbrev pub IllTypedAt : FileOf Use → TypeFault → Type 0
IllTypedAt file (types.IllTyped line) = Illtyped (case_type empty file) type_limit [] (lets file.defs) line
IllTypedAt file types.NoMemory = ⊥

abbrev pub TypesFail : FileOf Use → FrontFault → Type 0
TypesFail file (fails.Types f) = IllTypedAt file f
TypesFail file fails.NoMemory = Unit {0}
TypesFail file f = (typed : FileOf TypeNote) × (sigs : List Sig) × AreTypes file typed sigs × ClocksFail typed f

-- ---- scope

-- the first fault of scope is this one
abbrev pub BlamedAt : FileOf Plain → ScopeFault → Type 0
BlamedAt file scope.NoMemory = ⊥
BlamedAt file f = Blames f (scope_fault empty file)

abbrev pub FileFails : FileOf Plain → FrontFault → Type 0
FileFails file (fails.Scope f) = BlamedAt file f
FileFails file fails.NoMemory = Unit {0}
FileFails file f = (scope_fault empty file ≡ None) × TypesFail (resolved empty file) f

-- the judgements hold of the file, and give these
pub record FileAccepted (file : FileOf Plain) (r : Checked) : Type 0 where
  pub typed : FileOf TypeNote
  pub typed_sigs : List Sig
  pub scope : scope_fault empty file ≡ None
  pub are_types : AreTypes (resolved empty file) typed typed_sigs
  pub are_clocks : AreClocks typed r.ann
  pub are_inits : AreInits r.ann r.inits
  pub are_sigs : r.sigs ≡ clock_files.with_schemes typed_sigs r.ann.defs
  pub are_enums : r.enums ≡ enum_names r.ann.defs
  pub are_constructors : r.constructors ≡ enum_constructors r.ann.defs

-- ---- tokens and grammar

-- the file that tokens spell
abbrev pub Spell : Tokens → FileOf Plain → Type 0
Spell tokens file = IsFile file.defs tokens.list × (file.names ≡ tokens.names)

abbrev pub AreAccepted : Tokens → Checked → Type 0
AreAccepted tokens r = (file : FileOf Plain) × Spell tokens file × FileAccepted file r

abbrev pub IsStop : Tokens → SyntaxFault → Type 0
IsStop tokens (syntax.Syntax line) = StopsAt tokens.list line
IsStop tokens syntax.NoMemory = ⊥

abbrev pub TokensFail : Tokens → FrontFault → Type 0
TokensFail tokens (fails.Syntax f) = IsStop tokens f
TokensFail tokens fails.NoMemory = Unit {0}
TokensFail tokens f = (file : FileOf Plain) × Spell tokens file × FileFails file f

-- ---- the whole

-- all judgements hold, and this is what they give
abbrev pub IsAccepted : List ℕ → Checked → Type 0
IsAccepted text r = (tokens : Tokens) × Lexes text tokens × AreAccepted tokens r

-- the first judgement that fails, with its fault
abbrev pub IsFault : List ℕ → FrontFault → Type 0
IsFault text (fails.Lex f) = IsLexFault text f
IsFault text fails.NoMemory = Unit {0}
IsFault text f = (tokens : Tokens) × Lexes text tokens × TokensFail tokens f

-- a fault inside is never want of memory
abbrev pub IsInside : FrontFault → Type 0
IsInside (fails.Lex f) = f ≢ lex.NoMemory
IsInside (fails.Syntax f) = f ≢ syntax.NoMemory
IsInside (fails.Scope f) = f ≢ scope.NoMemory
IsInside (fails.Types f) = f ≢ types.NoMemory
IsInside (fails.Clocks f) = f ≢ clocks.NoMemory
IsInside (fails.Init f) = f ≢ init.NoMemory
IsInside fails.NoMemory = Unit {0}

-- ---- on the way

-- the signatures of a typed file, without clocks
abbrev pub signatures_of_file : FileOf TypeNote → List Sig
signatures_of_file typed = signatures_of (lets typed.defs)

-- what is kept of a file with these clocks and initialisation signatures, behind these types
pub record IsKept (typed_sigs : List Sig) (ann : FileOf Note) (inits : InitSigs) (r : Checked) : Type 0 where
  pub same_ann : r.ann ≡ ann
  pub same_inits : r.inits ≡ inits
  pub signed : r.sigs ≡ clock_files.with_schemes typed_sigs ann.defs
  pub enums_named : r.enums ≡ enum_names ann.defs
  pub constructors_named : r.constructors ≡ enum_constructors ann.defs

abbrev pub InitAccepted : List Sig → FileOf Note → Checked → Type 0
InitAccepted sigs ann r = (inits : InitSigs) × AreInits ann inits × IsKept sigs ann inits r

abbrev pub ClocksAccepted : FileOf TypeNote → List Sig → Checked → Type 0
ClocksAccepted typed sigs r = (ann : FileOf Note) × AreClocks typed ann × InitAccepted sigs ann r

abbrev pub TypesAccepted : FileOf Use → Checked → Type 0
TypesAccepted file r = (typed : FileOf TypeNote) × (sigs : List Sig) × AreTypes file typed sigs × ClocksAccepted typed sigs r
