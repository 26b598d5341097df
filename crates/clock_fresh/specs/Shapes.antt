-- The most general clocks of several types.
use Rattle.std.specs.Prelude.{ℕ, List, map}
use Rattle.ls_terms.specs.declared.clocks.ClockTerm.{ClockTerm}
use Rattle.ls_terms.specs.declared.types.TypeTerm.{TypeTerm}
use Rattle.clock_rules.specs.Fresh.{shape}
use Rattle.tree_notes.specs.Numbered.{From, all_from}

abbrev pub shapes_of : List TypeTerm → From ℕ (List ClockTerm)
shapes_of all k = all_from (map shape all) k
