-- A definition, with the tables of its blocks.
use Rattle.std.specs.Prelude.{ℕ, List}
use Rattle.indexmap.specs.IndexMap.{IndexMap}
use Rattle.ls_places.specs.declared.definition.Definition.{Definition}
use Rattle.ls_terms.specs.declared.clocks.ClockTerm.{ClockTerm}
use Rattle.block_tables.specs.Blocks.{AreBlockClocks}
use Rattle.block_tables.specs.Signals.{AreTested, AreVariables}

-- each answer that is kept is that of the look-up
pub record AreBlockTables {S : Type 0} (d : Definition) (vars : IndexMap ℕ (List ℕ) S) (tested : IndexMap ℕ ℕ S) (clocks : IndexMap ℕ ClockTerm S) : Type 0 where
  pub vars_are : AreVariables vars d
  pub tested_are : AreTested tested d
  pub clocks_are : AreBlockClocks clocks d.places.exprs
