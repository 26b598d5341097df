-- What the rules see of a definition whose pairs are collected.
use Rattle.std.specs.Prelude.{ℕ, ◌+◌, Bool, List, [], ◌∷◌, ◌++◌, map, Option}
use Rattle.ls_ast.specs.declared.tree.Case.{Case}
use Rattle.ls_ast.specs.declared.tree.Expr.{Expr}
use Rattle.ls_ast.specs.declared.tree.Form.{Form, out-Form}
use Rattle.ls_ast.specs.declared.tree.Form.TheOpen.{Form-F}
use Rattle.ls_terms.specs.declared.clocks.ClockTerm.{ClockTerm}
use Rattle.ls_sig.specs.declared.binder.Binder.{Binder}
use Rattle.ls_sig.specs.declared.binder.Note.{Note}
use Rattle.ls_places.specs.Places.{Place, InnerArm, arms}
use Rattle.ls_places.specs.Search.{signal_in}
use Rattle.ls_places.specs.declared.places.Named.{Named}
use Rattle.ls_places.specs.declared.places.Right.{Right}
use Rattle.ls_places.specs.declared.places.Site.{Site}
use Rattle.ls_places.specs.declared.places.Start.{Start}
use Rattle.ls_places.specs.declared.places.Transition.{Transition}
use Rattle.clock_rules.specs.declared.scheme.ClockScheme.{ClockScheme}
use Rattle.clock_rules.specs.Facts.{Facts, facts_at}
use Rattle.clock_rules.specs.Layers.{map_choices, remap}
use Rattle.clock_rules.specs.Rules as R
use Rattle.clock_rules.specs.Rules.{Clocks, Pair, at, opt_pairs}
use Rattle.clock_rules.specs.Terms.{is_function, on}
use Rattle.clock_pairs.specs.declared.scene.Scene.{Scene}

abbrev pub function : Note → Bool
function n = is_function n.ty

-- the notes of direct parts
abbrev pub note_of : Expr Note → Note
note_of e = e.note

abbrev pub notes_of : List (Expr Note) → List Note
notes_of = map note_of

abbrev pub branches_of : List (Case × Expr Note) → List (Case × Note)
branches_of = map_choices note_of

abbrev pub form_of : Form Note → Form-F Note (Unit {0}) Note
form_of f = remap note_of (out-Form Note f)

module _ {C : Type 0} (place : C → ℕ → Option ℕ) (s : Scene C) where
  abbrev pub cases : ℕ → Option ℕ
  cases = place s.cases.now

  abbrev pub facts : Facts Note
  facts = facts_at Note function s.index.now.params s.marks.now s.notes.now s.result.now s.index.now.places

  abbrev pub clocks : Clocks
  clocks = record { vars = s.vars.now; blocks = s.blocks.now }

  -- ---- the rules

  abbrev pub block : ℕ → ClockTerm
  block = R.block s.schemes.now cases facts clocks

  abbrev pub param_clock : Option ℕ → Option ClockTerm
  param_clock = R.param_clock s.schemes.now cases facts clocks

  abbrev pub with_list : List InnerArm → Option ClockTerm → Option (ClockTerm × List InnerArm)
  with_list = R.with_list s.schemes.now cases facts clocks

  abbrev pub meaning : Binder → Option (ClockTerm × List InnerArm)
  meaning = R.meaning s.schemes.now cases facts clocks

  abbrev pub number_or : Binder → ℕ
  number_or = R.number_or s.schemes.now cases facts clocks

  abbrev pub case_number : Case → ℕ
  case_number = R.case_number s.schemes.now cases facts clocks

  abbrev pub borders : ClockTerm → List InnerArm → List Pair
  borders = R.borders s.schemes.now cases facts clocks

  abbrev pub seen : ClockTerm → List InnerArm → ClockTerm → List Pair
  seen = R.seen s.schemes.now cases facts clocks

  abbrev pub seen_at : Place → ClockTerm → (ClockTerm × List InnerArm) → List Pair
  seen_at = R.seen_at s.schemes.now cases facts clocks

  abbrev pub used : Note → Place → List Pair
  used = R.used s.schemes.now cases facts clocks

  abbrev pub condition : Binder → ClockTerm → List Pair
  condition = R.condition s.schemes.now cases facts clocks

  -- ---- calls

  abbrev pub parts_on : ClockTerm → List (Expr Note) → List Pair
  parts_on ck args = R.parts_on s.schemes.now cases facts clocks ck (notes_of args)

  abbrev pub streams_on : ClockTerm → List (Expr Note) → List Pair
  streams_on ck args = R.streams_on s.schemes.now cases facts clocks ck (notes_of args)

  abbrev pub given_names : List (Expr Note) → ℕ → ℕ
  given_names args = R.given_names s.schemes.now cases facts clocks (notes_of args)

  -- the clock name given at each position, as a list
  abbrev pub names_given : List (Expr Note) → List ℕ
  names_given = map (λ (e : Expr Note). number_or e.note.bound)

  -- what is given at one Clock position
  abbrev pub named_at : Option Note → List Pair
  named_at o = opt_pairs o (λ n. condition n.bound n.ck)

  abbrev pub meet : List ClockTerm → List (Expr Note) → List Pair
  meet cks args = R.meet s.schemes.now cases facts clocks cks (notes_of args)

  abbrev pub named_pairs : List (Expr Note) → List ℕ → List Pair
  named_pairs args = R.named_pairs s.schemes.now cases facts clocks (notes_of args)

  abbrev pub result_pairs : List ClockTerm → ClockScheme → Note → List (Expr Note) → Bool → List Pair
  result_pairs by k n args = R.result_pairs s.schemes.now cases facts clocks by k n (notes_of args)

  abbrev pub definition_pairs : List ClockTerm → Note → List (Expr Note) → Bool → Option ClockScheme → List Pair
  definition_pairs by n args = R.definition_pairs s.schemes.now cases facts clocks by n (notes_of args)

  abbrev pub parameter_pairs : Bool → Note → List (Expr Note) → Option (ClockTerm × List InnerArm) → List Pair
  parameter_pairs run n args = R.parameter_pairs s.schemes.now cases facts clocks run n (notes_of args)

  abbrev pub call_pairs : List ClockTerm → Bool → Note → List (Expr Note) → Bool → Binder → List Pair
  call_pairs by run n args = R.call_pairs s.schemes.now cases facts clocks by run n (notes_of args)

  abbrev pub name_pairs : List ClockTerm → Note → Place → Binder → List Pair
  name_pairs = R.name_pairs s.schemes.now cases facts clocks

  -- ---- expressions

  abbrev pub branch_pairs : ClockTerm → ℕ → List (Case × Expr Note) → List Pair
  branch_pairs ck m all = R.branch_pairs s.schemes.now cases facts clocks ck m (branches_of all)

  abbrev pub when_pairs : Note → ClockTerm → Case → List Pair
  when_pairs n ck k = condition n.bound ck ++ (on ck (number_or n.bound) (case_number k), n.ck) ∷ []

  abbrev pub merge_pairs : Note → List (Case × Expr Note) → List Pair
  merge_pairs n all = condition n.bound n.ck ++ branch_pairs n.ck (number_or n.bound) all

  abbrev pub form_pairs : List ClockTerm → Place → Note → Bool → Form Note → List Pair
  form_pairs by p n holds f = R.form_pairs s.schemes.now cases facts clocks by p n holds (form_of f)

  -- ---- equations and blocks

  abbrev pub pattern_pairs : ℕ → Option InnerArm → List Pair
  pattern_pairs = R.pattern_pairs s.schemes.now cases facts clocks

  abbrev pub right_pairs : ℕ → Site → Right → List Pair
  right_pairs = R.right_pairs s.schemes.now cases facts clocks

  abbrev pub vars_pairs : Site → List ℕ → List Pair
  vars_pairs = R.vars_pairs s.schemes.now cases facts clocks

  abbrev pub sites_pairs : List Site → List Pair
  sites_pairs = R.sites_pairs s.schemes.now cases facts clocks

  abbrev pub start_pairs : Start → List Pair
  start_pairs = R.start_pairs s.schemes.now cases facts clocks

  abbrev pub begin_pairs : Start → Option ℕ → List Pair
  begin_pairs = R.begin_pairs s.schemes.now cases facts clocks

  abbrev pub starts_pairs : List Start → List Pair
  starts_pairs = R.starts_pairs s.schemes.now cases facts clocks

  abbrev pub signal_meaning : ℕ → Option ℕ → Option (ClockTerm × List InnerArm)
  signal_meaning = R.signal_meaning s.schemes.now cases facts clocks

  abbrev pub signal_pairs : ClockTerm → Place → List ℕ → List Pair
  signal_pairs = R.signal_pairs s.schemes.now cases facts clocks

  abbrev pub conditions_on : ClockTerm → List Transition → List Pair
  conditions_on = R.conditions_on s.schemes.now cases facts clocks

  abbrev pub guard_pairs : ClockTerm → ℕ → ℕ → List (ℕ × List Transition) → List Pair
  guard_pairs = R.guard_pairs s.schemes.now cases facts clocks

  abbrev pub block_pairs : ℕ → Named → List Pair
  block_pairs = R.block_pairs s.schemes.now cases facts clocks

  abbrev pub blocks_pairs : ℕ → List Named → List Pair
  blocks_pairs = R.blocks_pairs s.schemes.now cases facts clocks

  abbrev pub equation_pairs : List Pair
  equation_pairs = R.equation_pairs s.schemes.now cases facts clocks

  -- ---- their parts

  -- the pairs of a whole expression's note
  abbrev pub whole_pairs : ℕ → (Note → List Pair) → List Pair
  whole_pairs = R.whole_pairs s.schemes.now cases facts clocks

  abbrev pub side_pairs : ℕ → List InnerArm → ℕ → List Pair
  side_pairs x inner k = whole_pairs k (λ n. seen (at clocks.vars x) inner n.ck)

  abbrev pub whole_on : ℕ → ClockTerm → List Pair
  whole_on k ck = whole_pairs k (λ n. (n.ck, ck) ∷ [])

  -- a tested signal
  abbrev pub signal_at : ClockTerm → Place → ℕ → List Pair
  signal_at ck p x = opt_pairs (signal_meaning x (signal_in x (arms p) facts.vars 0)) (seen_at p ck)

  abbrev pub active_pairs : ℕ → List (ℕ × List Transition) → List Pair
  active_pairs m all = (block (m + 1), block m) ∷ guard_pairs (block m) (m + 1) 0 all
