-- What the walk through an expression finds, part by part.
use Rattle.std.specs.Prelude.{ℕ, List, map}
use Rattle.ls_ast.specs.declared.tree.Case.{Case}
use Rattle.ls_ast.specs.declared.tree.Form.{Form, fold-Form}
use Rattle.ls_places.specs.Patterns.{joined}
use Rattle.ls_places.specs.Search.{E, start_of}
use Rattle.ls_places.specs.declared.definition.Definition.{Definition}
use Rattle.ls_places.specs.declared.definition.Key.{Key}
use Rattle.ls_places.specs.declared.places.Variable.{Variable}
use Rattle.ls_sig.specs.declared.binder.Note.{Note}
use Rattle.ls_terms.specs.declared.clocks.ClockTerm.{ClockTerm}
use Rattle.causality_rules.specs.Reads as reads
use Rattle.causality_rules.specs.Reads.{Read, clock_rows, expr_rows, read_by}

module _ (d : Definition) where
  abbrev pub clocks_rows : List ClockTerm → List Key
  clocks_rows all = joined (map (clock_rows d) all)

  abbrev pub start_rows : ℕ → Variable → List Key
  start_rows x w = reads.start_rows x (start_of w d.places.starts)

  abbrev pub all_rows : List E → List Key
  all_rows es = joined (map (read_by d) es)

  abbrev pub choice_rows : List (Case × E) → List Key
  choice_rows cs = joined (map (λ (c : Case × E). read_by d c.1) cs)

  abbrev pub form_rows : Form Note → Note → List Key
  form_rows = fold-Form Note (Note → List Key) Read (reads.form_rows d) (expr_rows d)
