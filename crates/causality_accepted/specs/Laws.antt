-- Every accepted file is causal in the model of networks.
use Rattle.std.specs.Prelude.{◌≡◌, ℕ, suc, ◌<◌, List, [], map, Option, Some, None}
use Rattle.ls_ast.specs.declared.tree.DefOf.{DefOf}
use Rattle.ls_ast.specs.declared.tree.FileOf.{FileOf}
use Rattle.ls_ast.specs.declared.tree.Plain.{Plain}
use Rattle.ls_terms.specs.declared.types.TypeTerm.{TypeTerm}
use Rattle.ls_sig.specs.Environment.{empty}
use Rattle.ls_sig.specs.declared.binder.Note.{Note}
use Rattle.ls_sig.specs.declared.binder.TypeNote.{TypeNote}
use Rattle.ls_sig.specs.declared.env.Env.{Env}
use Rattle.ls_sig.specs.declared.sigs.Item.{Item}
use Rattle.ls_sig.specs.declared.sigs.Sig.{Sig}
use Rattle.ls_places.specs.Definitions.{case_place, definitions}
use Rattle.ls_places.specs.Search.{nth}
use Rattle.ls_places.specs.declared.definition.Definition.{Definition}
use Rattle.tree_notes.specs.Each.{Each}
use Rattle.tree_notes.specs.Noted.{in_definition}
use Rattle.scope_rules.specs.After.{scope_fault, resolved}
use Rattle.type_rules.specs.Files as types
use Rattle.type_rules.specs.Files.{LetOf, in_place}
use Rattle.clock_rules.specs.declared.scheme.ClockScheme.{ClockScheme}
use Rattle.clock_rules.specs.Files as clocks
use Rattle.clock_rules.specs.Fresh.{erase}
use Rattle.clock_laws.specs.Scoped.{IsWell}
use Rattle.clock_premises.specs.Premises.{SchemesOfSigs}
use Rattle.kahn_model.specs.Causality.{AllCausal, ArgTo, AroundTo, Nests}
use Rattle.kahn_model.specs.Fullness.{All, Full}
use Rattle.kahn_model.specs.Functions.{Arg, Around}
use Rattle.kahn_model.specs.Reads.{Shape, shapes_of}
use Rattle.kahn_model.specs.Rows.{IsKnown}
use Rattle.kahn_model.specs.Table.{meaning, network, table_of}
use Rattle.causality_rules.specs.Files.{AllRanked, lets}
use Rattle.causality_links.specs.Close.{Close, Scoped}
use Rattle.causality_premises.specs.Premises.{ClocksKnown}

-- A file after an environment whose scope has no fault, and whose types and clocks are judged; `tree` has its notes, and
-- `schemes` are the well-formed clocks of the environment.
pub record IsJudged (case_type : ℕ → Option TypeTerm) (limit : ℕ) (cases : ℕ → Option ℕ) (env : Env) (file : FileOf Plain) (schemes : List ClockScheme) (tree : List (DefOf Note)) : Type 0 where
  pub annotated : List (LetOf TypeNote)
  pub sigs : List Sig
  pub scope : scope_fault env file ≡ None
  pub types : types.Judged case_type limit env.sigs (types.lets (resolved env file).defs) annotated sigs
  pub noted : map (in_definition Note TypeNote erase) tree ≡ in_place (resolved env file).defs annotated
  pub clocks : clocks.Judged cases schemes tree
  pub schemes_of : SchemesOfSigs env.sigs schemes
  pub well : Each IsWell schemes

-- In each of its definitions clocks are sampled on names of the definition alone.
abbrev pub ClocksAreKnown : Type 0
ClocksAreKnown =
    (case_type : ℕ → Option TypeTerm) (limit : ℕ) (cases : ℕ → Option ℕ) (env : Env) (file : FileOf Plain) (schemes : List ClockScheme) (tree : List (DefOf Note))
    → IsJudged case_type limit cases env file schemes tree → Each ClocksKnown (definitions cases tree)

-- What the model reads, and the rules of causality do not name, stands around the place that reads it.
abbrev pub BodiesAreClose : Type 0
BodiesAreClose =
    (case_type : ℕ → Option TypeTerm) (limit : ℕ) (cases : ℕ → Option ℕ) (env : Env) (file : FileOf Plain) (schemes : List ClockScheme) (tree : List (DefOf Note))
    → IsJudged case_type limit cases env file schemes tree → Each Close (definitions cases tree)

-- And all that it reads is a row of the body.
abbrev pub BodiesAreScoped : Type 0
BodiesAreScoped =
    (case_type : ℕ → Option TypeTerm) (limit : ℕ) (cases : ℕ → Option ℕ) (env : Env) (file : FileOf Plain) (schemes : List ClockScheme) (tree : List (DefOf Note))
    → IsJudged case_type limit cases env file schemes tree → Each (λ (d : Definition). (shapes : List Shape) → Scoped d shapes) (definitions cases tree)

-- So where its items are numbered along the reads of the rules, all its definitions are causal in the model.
abbrev pub JudgedIsCausal : Type 0
JudgedIsCausal =
    (case_type : ℕ → Option TypeTerm) (limit : ℕ) (cases : ℕ → Option ℕ) (env : Env) (file : FileOf Plain) (schemes : List ClockScheme) (tree : List (DefOf Note)) (ranks : List (List (Item × ℕ)))
    → IsJudged case_type limit cases env file schemes tree → AllRanked (lets cases tree) ranks → AllCausal (definitions cases tree)

-- ---- files that stand alone

-- A file is accepted, but for what initialisation asks: `tree` has its notes, and `ranks` the numbers of its items.
pub record IsAccepted (case_type : ℕ → Option TypeTerm) (limit : ℕ) (file : FileOf Plain) (tree : List (DefOf Note)) (ranks : List (List (Item × ℕ))) : Type 0 where
  pub annotated : List (LetOf TypeNote)
  pub sigs : List Sig
  pub typed : List (DefOf TypeNote)
  pub scope : scope_fault empty file ≡ None
  pub types : types.Judged case_type limit [] (types.lets (resolved empty file).defs) annotated sigs
  pub typed_as : typed ≡ in_place (resolved empty file).defs annotated
  pub noted : map (in_definition Note TypeNote erase) tree ≡ typed
  pub clocks : clocks.Judged (case_place typed) [] tree
  pub ranked : AllRanked (lets (case_place tree) tree) ranks

-- All its definitions are causal in the model.
abbrev pub AcceptedIsCausal : Type 0
AcceptedIsCausal =
    (case_type : ℕ → Option TypeTerm) (limit : ℕ) (file : FileOf Plain) (tree : List (DefOf Note)) (ranks : List (List (Item × ℕ)))
    → IsAccepted case_type limit file tree ranks → AllCausal (definitions (case_place tree) tree)

-- So the table of each call is full where all is known that is around it, and its calls nest no deeper than the depth left.
abbrev pub TablesAreFull : Type 0
TablesAreFull =
    (case_type : ℕ → Option TypeTerm) (limit : ℕ) (file : FileOf Plain) (tree : List (DefOf Note)) (ranks : List (List (Item × ℕ)))
    → IsAccepted case_type limit file tree ranks
    → (n depth k : ℕ) (d : Definition) (a : Around) → nth (definitions (case_place tree) tree) k ≡ Some d → Nests (definitions (case_place tree) tree) (suc depth) k (shapes_of a.args)
    → ((i : ℕ) → i < n → AroundTo i a)
    → Full (table_of (case_place tree) (definitions (case_place tree) tree) n (meaning (case_place tree) (definitions (case_place tree) tree) n depth) d a)

-- And a node whose input is known has a result that is known.
abbrev pub ResultsAreKnown : Type 0
ResultsAreKnown =
    (case_type : ℕ → Option TypeTerm) (limit : ℕ) (file : FileOf Plain) (tree : List (DefOf Note)) (ranks : List (List (Item × ℕ)))
    → IsAccepted case_type limit file tree ranks
    → (n k : ℕ) (args : List Arg) (i : ℕ) → i < n → Nests (definitions (case_place tree) tree) 201 k (shapes_of args) → All (ArgTo i) args
    → IsKnown (network (case_place tree) (definitions (case_place tree) tree) n k args i)
