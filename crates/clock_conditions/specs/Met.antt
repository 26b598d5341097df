-- The conditions on names and cycles, and on the sizes of the clocks that stand at no expression.
use Rattle.std.specs.Prelude.{◌≡◌, ℕ, ◌<◌, ◌≤◌, true, List, [], Some, None}
use Rattle.ls_ast.specs.declared.tree.Mark.{Mark}
use Rattle.ls_terms.specs.declared.clocks.ClockTerm.{ClockTerm}
use Rattle.ls_terms.specs.Clocks.{size}
use Rattle.ls_sig.specs.declared.binder.Note.{Note}
use Rattle.ls_places.specs.Places.{InnerArm}
use Rattle.ls_places.specs.Search.{nth}
use Rattle.ls_places.specs.declared.places.Named.{Named}
use Rattle.ls_places.specs.declared.places.Variable.{Variable}
use Rattle.tree_notes.specs.Each.{Each}
use Rattle.clock_rules.specs.Facts.{Facts}
use Rattle.clock_rules.specs.Rules as R
use Rattle.clock_rules.specs.Rules.{Clocks, at}
use Rattle.clock_rules.specs.Terms.{limit, names_in}
use Rattle.clock_conditions.specs.Bounds.{is_clock_parameter}
use Rattle.clock_conditions.specs.declared.conditions.Bounds.{Bounds}

-- numbers of parameters that fall along what the clock of a Clock parameter mentions
abbrev pub Falls : List Mark → List Note → (ℕ → ℕ) → Type 0
Falls marks notes rank =
    (i : ℕ) (n : Note) → nth notes i ≡ Some n → is_clock_parameter marks i ≡ true → Each (λ m. rank m < rank i) (names_in n.ck)

pub record IsRanked (marks : List Mark) (notes : List Note) : Type 0 where
  pub rank : ℕ → ℕ
  pub falls : Falls marks notes rank

-- what the conditions see of a definition
abbrev pub facts : Bounds → Facts Note
facts b = record {
  params = b.params.now;
  marks = b.marks.now;
  notes = b.notes.now;
  result = b.result.now;
  nodes = [];
  wholes = [];
  vars = b.vars.now;
  sites = [];
  starts = [];
  names = b.names.now;
}

abbrev pub clocks : Bounds → Clocks
clocks b = record { vars = b.var_clocks.now; blocks = b.block_clocks.now }

module _ (d : Facts Note) (cs : Clocks) where
  abbrev pub IsWithin : List InnerArm → ClockTerm → Type 0
  IsWithin = R.IsWithin [] (λ x. None) d cs

  abbrev pub IsPublic : ClockTerm → Type 0
  IsPublic = R.IsPublic [] (λ x. None) d cs

  pub record ParamMet (n : Note) : Type 0 where
    pub small : size n.ck ≤ limit
    pub public : IsPublic n.ck

  pub record BlockMet (j : ℕ) (n : Named) : Type 0 where
    pub arm : size (at cs.blocks j) < limit
    pub within : IsWithin (R.name_place [] (λ x. None) d cs n) (at cs.blocks j)

  pub record Met : Type 0 where
    pub vars : (x : ℕ) (v : Variable) → nth d.vars x ≡ Some v → IsWithin v.list (at cs.vars x)
    pub blocks : (j : ℕ) (n : Named) → nth d.names j ≡ Some n → BlockMet j n
    pub params : Each ParamMet d.notes
    pub result : IsPublic d.result.ck
    pub acyclic : IsRanked d.marks d.notes
