-- The rows of a body's graph, as they are pushed.
use Rattle.std.specs.Prelude.{◌≡◌, ℕ, not, List, [], ◌∷◌, ◌++◌, length, Option, Some, None, if◌then◌else◌}
use Rattle.ls_places.specs.Search.{lacks, nth, sites_of, start_of}
use Rattle.ls_places.specs.declared.definition.Definition.{Definition}
use Rattle.ls_places.specs.declared.places.Site.{Site}
use Rattle.ls_places.specs.declared.places.Variable.{Variable}
use Rattle.ls_sig.specs.declared.sigs.InitSig.{InitSig}
use Rattle.init_rules.specs.Bits.{binds_zero}
use Rattle.init_rules.specs.Nodes.{counts, empty_rows, site_row, sites_row, start_row, total, zero_row}
use Rattle.init_check.specs.Walks.{if_nodes, start_nodes}

abbrev pub variable_nodes : Definition → ℕ → List ℕ
variable_nodes d k = sites_row (counts d) (sites_of k d.places.sites)

abbrev pub initial_nodes : Definition → Variable → List ℕ
initial_nodes d w = start_row (counts d) (start_of w d.places.starts)

abbrev pub site_zero_nodes : Definition → Site → List ℕ
site_zero_nodes d s = if binds_zero d s then site_row (counts d) s else []

abbrev pub missing_nodes : Definition → ℕ → Variable → List ℕ
missing_nodes d k w = if_nodes (not w.signal) (if_nodes (lacks d (sites_of k d.places.sites)) (start_nodes d k w))

abbrev pub variable_zero_of : Definition → ℕ → Option Variable → List ℕ
variable_zero_of d k None = []
variable_zero_of d k (Some w) = missing_nodes d k w

abbrev pub variable_zero_nodes : Definition → ℕ → List ℕ
variable_zero_nodes d k = variable_zero_of d k (nth d.places.vars k)

-- rows that are made so far: the number of nodes, and the rows
abbrev pub Made : Type 0
Made = ℕ × List (List ℕ)

abbrev pub AreNodes : Made → Definition → Type 0
AreNodes rows d = rows.0 ≡ total (counts d)

abbrev pub AddsRows : Made → List (List ℕ) → Made → Type 0
AddsRows old more new = new.1 ≡ old.1 ++ more

-- of the bit that is 1, of what has to be 0, of what is not there, and of the parameters
abbrev pub first_rows : Definition → List InitSig → List (List ℕ)
first_rows d sigs = [] ∷ zero_row d sigs ∷ [] ∷ empty_rows (length d.params)
