-- What a cycle of nodes tells: rows, and items that wait for one another.
use Rattle.std.specs.Prelude.{ℕ, zero, suc, ◌||◌, Bool, true, false, List, [], ◌∷◌, ◌++◌, length, nat_lt, slice_set, Option, Some, None, if◌then◌else◌}
use Rattle.digraph.specs.Marks.{marked}
use Rattle.ls_places.specs.Places.{Place}
use Rattle.ls_places.specs.declared.definition.Definition.{Definition}
use Rattle.ls_places.specs.declared.definition.Key.{Key}
use Rattle.ls_places.specs.declared.definition.Key.TheVariants as key
use Rattle.ls_places.specs.declared.places.Frame.TheVariants as frame
use Rattle.ls_places.specs.declared.places.Variable.{Variable}
use Rattle.ls_sig.specs.declared.sigs.Item.{Item}
use Rattle.ls_sig.specs.declared.sigs.Item.TheVariants as item
use Rattle.causality.specs.Nodes.{all_nodes, counts, node_in}
use Rattle.causality.specs.declared.nodes.Node.{Node}
use Rattle.causality.specs.declared.nodes.Node.TheVariants as node

-- the nodes of a list that do not stand between others
abbrev pub others : {K : Type 0} → (K → Bool) → List K → List K
others between [] = []
others between (x ∷ xs) = if between x then others between xs else x ∷ others between xs

abbrev pub row_of : Node → List Key
row_of node.Nothing = []
row_of (node.Row k) = k ∷ []
row_of (node.Whole k) = []

-- the rows among some nodes
abbrev pub rows_in : List Node → List ℕ → List Key
rows_in nodes [] = []
rows_in nodes (x ∷ xs) = row_of (node_in nodes x) ++ rows_in nodes xs

abbrev pub cycle_rows : Definition → List ℕ → List Key
cycle_rows d = rows_in (all_nodes (counts d))

-- ---- where all rows of a cycle are conditions of resets

-- no mark
abbrev pub blank : ℕ → List Bool
blank zero = []
blank (suc n) = false ∷ blank n

abbrev pub mark : List Bool → ℕ → List Bool
mark marks r = if nat_lt r (length marks) then slice_set marks r true else marks

-- marks on the resets with these conditions
abbrev pub marks_with : List Bool → List Key → List Bool
marks_with marks [] = marks
marks_with marks (key.Reset r ∷ ks) = marks_with (mark marks r) ks
marks_with marks (_ ∷ ks) = marks_with marks ks

-- whether one of them is around a place
abbrev pub holds_marked : List Bool → Place → Bool
holds_marked marks [] = false
holds_marked marks (frame.Reset r ∷ p) = marked marks r || holds_marked marks p
holds_marked marks (frame.Arm m j ∷ p) = holds_marked marks p

-- the first variable inside one of them
abbrev pub first_marked : List Bool → List Variable → ℕ → Option ℕ
first_marked marks [] k = None
first_marked marks (w ∷ ws) k = if holds_marked marks w.place then Some k else first_marked marks ws (suc k)

abbrev pub marks_of : Definition → List Key → List Bool
marks_of d = marks_with (blank (length d.places.resets))

abbrev pub option_var : Option ℕ → List Item
option_var None = []
option_var (Some x) = item.Var x ∷ []

abbrev pub inside : Definition → List Key → List Item
inside d ks = option_var (first_marked (marks_of d ks) d.places.vars 0)
