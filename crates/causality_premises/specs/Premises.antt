-- What the link from causality to the model supposes of a body: all that is read is a row of its table.
use Rattle.std.specs.Prelude.{◌≡◌, ℕ, suc, ◌+◌, ◌-◌, ◌<◌, List, [], ◌∷◌, ◌++◌, map, length, Option}
use Rattle.ls_ast.specs.declared.tree.BodyOf.{BodyOf}
use Rattle.ls_ast.specs.declared.tree.DefOf.{DefOf}
use Rattle.ls_ast.specs.declared.tree.FileOf.{FileOf}
use Rattle.ls_ast.specs.declared.tree.Plain.{Plain}
use Rattle.ls_sig.specs.declared.env.Env.{Env}
use Rattle.ls_terms.specs.declared.clocks.ClockTerm.{ClockTerm, fold-ClockTerm}
use Rattle.ls_terms.specs.declared.clocks.ClockTerm.TheOpen.{ClockTerm-F}
use Rattle.ls_places.specs.Patterns.{joined}
use Rattle.ls_sig.specs.declared.binder.Binder.{Binder}
use Rattle.ls_sig.specs.declared.binder.Binder.TheVariants as b
use Rattle.ls_sig.specs.declared.binder.Note.{Note}
use Rattle.ls_sig.specs.declared.binder.Use.{Use}
use Rattle.ls_places.specs.Definitions.{definition_of, definitions}
use Rattle.ls_places.specs.Places.{Place, InnerArm}
use Rattle.ls_places.specs.declared.places.Named.{Named}
use Rattle.ls_places.specs.declared.places.Named.TheVariants as named
use Rattle.ls_places.specs.declared.places.Site.{Site}
use Rattle.ls_places.specs.declared.places.Variable.{Variable}
use Rattle.ls_places.specs.declared.places.Whole.{Whole}
use Rattle.ls_places.specs.declared.definition.Key.{Key}
use Rattle.ls_places.specs.declared.definition.Key.TheVariants as key
use Rattle.ls_places.specs.declared.definition.Definition.{Definition}
use Rattle.tree_notes.specs.Each.{Each}
use Rattle.tree_notes.specs.Noted.{in_body, in_definition}
use Rattle.tree_notes.specs.Order.{notes}
use Rattle.scope_rules.specs.Faults.{Judged}
use Rattle.scope_rules.specs.Resolved.{resolved_body}
use Rattle.scope_rules.specs.After.{resolved}
use Rattle.kahn_model.specs.Fullness.{All, HasKey}
use Rattle.kahn_model.specs.Reads.{Shape, around_keys, arm_keys, clock_keys}
use Rattle.kahn_model.specs.Table.{row_keys}
use Rattle.causality_links.specs.Close.{Scoped}

module _ (d : Definition) (shapes : List Shape) where
  -- it is a row of the body's table
  abbrev pub There : Key → Type 0
  There k = HasKey k (row_keys d)

  abbrev pub AllThere : List Key → Type 0
  AllThere = All There

  -- what tells whether the clock is on
  abbrev pub ClockThere : ClockTerm → Type 0
  ClockThere ck = AllThere (clock_keys d shapes ck)

  -- a variable, and what it starts with
  abbrev pub BoundThere : Binder → Type 0
  BoundThere (b.Var k) = There (key.Var k) × There (key.Start k)
  BoundThere _ = Unit {0}

  pub record NoteThere (n : Note) : Type 0 where
    pub clock : ClockThere n.ck
    pub bound : BoundThere n.bound
    pub restarts : Each (λ x. There (key.Var x)) n.restarts

  abbrev pub PlaceThere : Place → Type 0
  PlaceThere p = AllThere (around_keys p)

  abbrev pub ArmsThere : List InnerArm → Type 0
  ArmsThere p = AllThere (arm_keys p)

  -- the clock names from number m on: the two names of an automaton stand side by side
  abbrev pub NamesThere : ℕ → List Named → Type 0
  NamesThere m [] = Unit {0}
  NamesThere m (named.Clock x ∷ ns) = NamesThere (suc m) ns
  NamesThere m (named.Match k all p ∷ ns) = NamesThere (suc m) ns
  NamesThere m (named.Present xs p ∷ ns) = PlaceThere p × NamesThere (suc m) ns
  NamesThere m (named.Active all p ∷ ns) = PlaceThere p × There (key.Name (m + 1)) × NamesThere (suc m) ns
  NamesThere m (named.Tested all p ∷ ns) = PlaceThere p × There (key.Name (m - 1)) × NamesThere (suc m) ns

  pub record WholeThere (w : Whole Note) : Type 0 where
    pub place : PlaceThere w.place
    pub notes : Each NoteThere (notes Note w.expr)

  pub record SiteThere (s : Site) : Type 0 where
    pub inner : ArmsThere s.inner
    pub place : PlaceThere s.place

  abbrev pub VariableThere : Variable → Type 0
  VariableThere w = PlaceThere w.place

  -- what stands in the body names what is there
  pub record Ranges : Type 0 where
    pub clocks : Each ClockThere d.clocks
    pub result : Each NoteThere (notes Note d.result)
    pub exprs : Each WholeThere d.places.exprs
    pub sites : Each SiteThere d.places.sites
    pub vars : Each VariableThere d.places.vars
    pub names : NamesThere (length d.params) d.places.names

-- Then all that the model reads is a row of the body.
abbrev pub ScopedByRanges : Type 0
ScopedByRanges = (d : Definition) (shapes : List Shape) → Ranges d shapes → Scoped d shapes

-- the names that a clock is sampled on
abbrev pub sampled_step : ClockTerm-F (List ℕ) → List ℕ
sampled_step (ClockTerm-F.Var w) = []
sampled_step (ClockTerm-F.On ms m k) = m ∷ ms
sampled_step ClockTerm-F.Pointwise = []
sampled_step (ClockTerm-F.Arrow all ms) = joined all ++ ms

abbrev pub names_sampled : ClockTerm → List ℕ
names_sampled = fold-ClockTerm (List ℕ) sampled_step

-- What the rules of clocks are to see to: clocks are sampled on names of the definition alone, its parameters or those of its body.
module _ (d : Definition) where
  abbrev pub ClockKnown : ClockTerm → Type 0
  ClockKnown ck = Each (λ m. m < length d.params + length d.places.names) (names_sampled ck)

  pub record NoteKnown (n : Note) : Type 0 where
    pub clock : ClockKnown n.ck
    pub restarts : Each (λ x. x < length d.places.vars) n.restarts

  pub record ClocksKnown : Type 0 where
    pub clocks : Each ClockKnown d.clocks
    pub exprs : Each (λ (w : Whole Note). Each NoteKnown (notes Note w.expr)) d.places.exprs

-- the note of a resolved tree
abbrev pub use_of : Note → Use
use_of n = record { bound = n.bound }

-- The rest of it is so in each annotated definition whose tree is a resolved one.
abbrev pub ReadsOfScope : Type 0
ReadsOfScope =
    (j : Judged Plain) (cases : ℕ → Option ℕ) (ns : List Note) (body : BodyOf Note) (shapes : List Shape)
    → in_body Note Use use_of body ≡ resolved_body j
    → ClocksKnown (definition_of cases j.params ns body) → Scoped (definition_of cases j.params ns body) shapes

-- And so in each definition of an annotated file.
abbrev pub FilesRead : Type 0
FilesRead =
    (cases : ℕ → Option ℕ) (env : Env) (file : FileOf Plain) (tree : List (DefOf Note)) → map (in_definition Note Use use_of) tree ≡ (resolved env file).defs
    → Each ClocksKnown (definitions cases tree) → Each (λ (d : Definition). (shapes : List Shape) → Scoped d shapes) (definitions cases tree)
