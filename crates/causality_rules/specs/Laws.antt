-- Laws of causality.
use Rattle.std.specs.Prelude.{◌≡◌, ℕ, ◌<◌, Bool, true, false, List, [], ◌∷◌, Option, Some}
use Rattle.ls_ast.specs.declared.tree.BodyOf.{BodyOf}
use Rattle.ls_ast.specs.declared.tree.Pat.{Pat}
use Rattle.ls_sig.specs.declared.binder.Note.{Note}
use Rattle.ls_base.specs.declared.Line.{Line}
use Rattle.ls_sig.specs.declared.sigs.Item.{Item}
use Rattle.ls_places.specs.Definitions.{definition_of}
use Rattle.ls_places.specs.declared.definition.Definition.{Definition}
use Rattle.ls_places.specs.declared.definition.Key.{Key}
use Rattle.ls_places.specs.declared.definition.Key.TheVariants as key
use Rattle.ls_places.specs.declared.places.Named.{Named}
use Rattle.ls_places.specs.declared.places.Named.TheVariants as named
use Rattle.ls_places.specs.Search.{nth, whole_of}
use Rattle.digraph.specs.Graph.{In}
use Rattle.digraph.specs.Numbering.{Cycle}
use Rattle.causality_rules.specs.Reads.{place_rows, reads}
use Rattle.causality_rules.specs.Items.{IsCausal, Ranked, Cyclic}
use Rattle.causality_rules.specs.Files.{Let, AllRanked, Looped}

-- a numbering of the items comes from one of all rows
abbrev pub RankedIsCausal : Type 0
RankedIsCausal = (d : Definition) (list : List (Item × ℕ)) → Ranked d list → IsCausal d

-- rows that wait for one another exclude a numbering
abbrev pub CyclicExcludes : Type 0
CyclicExcludes = (d : Definition) (rows : List Key) → Cyclic d rows → IsCausal d → ⊥

-- the condition of a `reset` stands in earlier ones alone
abbrev pub ResetsNested : Definition → Type 0
ResetsNested d = (r k : ℕ) → nth d.places.resets r ≡ Some k → (q : ℕ) → In (key.Reset q) (place_rows (whole_of d k).place) → q < r

-- as those of a definition do
abbrev pub DefinitionNests : Type 0
DefinitionNests = (cases : ℕ → Option ℕ) (params : List Pat) (notes : List Note) (body : BodyOf Note) → ResetsNested (definition_of cases params notes body)

-- The tested row of an automaton comes right after its active row, and nowhere else. The flag says that an active row is
-- the last one before.
abbrev pub ModesPaired : Bool → List Named → Type 0
ModesPaired true [] = ⊥
ModesPaired true (named.Tested states p ∷ names) = ModesPaired false names
ModesPaired true (_ ∷ names) = ⊥
ModesPaired false [] = Unit {0}
ModesPaired false (named.Active states p ∷ names) = ModesPaired true names
ModesPaired false (named.Tested states p ∷ names) = ⊥
ModesPaired false (_ ∷ names) = ModesPaired false names

-- as in a definition
abbrev pub DefinitionPairs : Type 0
DefinitionPairs = (cases : ℕ → Option ℕ) (params : List Pat) (notes : List Note) (body : BodyOf Note)
    → ModesPaired false (definition_of cases params notes body).places.names

-- every cycle of rows gives items that wait for one another
abbrev pub CycleGivesItems : Type 0
CycleGivesItems = (d : Definition) → ResetsNested d → (c : List Key) → Cycle (reads d) c → (rows : List Key) × (rows ≡ [] → ⊥) × Cyclic d rows

-- a file does not have both a numbering of each definition and one whose items wait for one another
abbrev pub NotBoth : Type 0
NotBoth = (ds : List Let) (ls : List (List (Item × ℕ))) (line : Line) (found : List Item) → AllRanked ds ls → Looped ds line found → ⊥
