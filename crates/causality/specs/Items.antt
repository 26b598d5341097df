-- The items of a body with their rows.
use Rattle.std.specs.Prelude.{ℕ, suc, ◌+◌, List, [], ◌∷◌, ◌++◌, map, length, Option, Some, None, if◌then◌else◌}
use Rattle.ls_places.specs.Patterns.{joined}
use Rattle.ls_places.specs.Search.{count_up, nth, start_of}
use Rattle.ls_places.specs.declared.definition.Definition.{Definition}
use Rattle.ls_places.specs.declared.definition.Key.{Key}
use Rattle.ls_places.specs.declared.definition.Key.TheVariants as key
use Rattle.ls_places.specs.declared.places.Named.{Named}
use Rattle.ls_places.specs.declared.places.Named.TheVariants as named
use Rattle.ls_places.specs.declared.places.Start.{Start}
use Rattle.ls_places.specs.declared.places.Variable.{Variable}
use Rattle.ls_sig.specs.declared.sigs.Item.{Item}
use Rattle.ls_sig.specs.declared.sigs.Item.TheVariants as item
use Rattle.causality_rules.specs.Items.{is_block, items, key_of}

-- an item with its row
abbrev pub Rowed : Type 0
Rowed = Item × Key

abbrev pub with_row : Definition → Item → Rowed
with_row d i = (i, key_of d i)

abbrev pub item_rows : Definition → List Rowed
item_rows d = map {A = Item} {B = Rowed} (with_row d) (items d)

abbrev pub var_row : ℕ → Rowed
var_row k = (item.Var k, key.Var k)

abbrev pub var_rows : Definition → List Rowed
var_rows d = map {A = ℕ} {B = Rowed} var_row (count_up (length d.places.vars) 0)

abbrev pub initial_row : ℕ → Option Start → List Rowed
initial_row k None = []
initial_row k (Some s) = (item.Initial k, key.Start k) ∷ []

abbrev pub initial_row_of : Definition → ℕ → Option Variable → List Rowed
initial_row_of d k None = []
initial_row_of d k (Some w) = initial_row k (start_of w d.places.starts)

abbrev pub initial_row_at : Definition → ℕ → List Rowed
initial_row_at d k = initial_row_of d k (nth d.places.vars k)

abbrev pub initial_rows : Definition → List Rowed
initial_rows d = joined (map (initial_row_at d) (count_up (length d.places.vars) 0))

-- the items of the clock name `m`, behind `b` blocks
abbrev pub named_rows : ℕ → ℕ → Named → List Rowed
named_rows m b (named.Clock x) = []
named_rows m b (named.Match e all p) = (item.Selector b, key.Name m) ∷ []
named_rows m b (named.Present xs p) = (item.Selector b, key.Name m) ∷ []
named_rows m b (named.Active states p) = (item.Active b, key.Name m) ∷ (item.Tested b, key.Name (m + 1)) ∷ []
named_rows m b (named.Tested states p) = []

-- how many blocks there are, with `b` before
abbrev pub one_block : ℕ → Named → ℕ
one_block b n = if is_block n then suc b else b

abbrev pub block_rows : ℕ → ℕ → List Named → List Rowed
block_rows m b [] = []
block_rows m b (n ∷ ns) = named_rows m b n ++ block_rows (suc m) (one_block b n) ns
