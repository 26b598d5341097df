-- The items of a body, which are numbered: its variables, initial equations and blocks.
use Rattle.std.specs.Prelude.{◌≡◌, ℕ, zero, suc, ◌+◌, Bool, true, false, List, [], ◌∷◌, ◌++◌, map, length, Option, Some, None, if◌then◌else◌}
use Rattle.ls_places.specs.Patterns.{joined}
use Rattle.ls_places.specs.declared.places.Named.{Named}
use Rattle.ls_places.specs.declared.places.Named.TheVariants as named
use Rattle.ls_places.specs.declared.places.Start.{Start}
use Rattle.ls_places.specs.declared.places.Variable.{Variable}
use Rattle.ls_sig.specs.declared.sigs.Item.{Item}
use Rattle.ls_sig.specs.declared.sigs.Item.TheVariants as item
use Rattle.ls_places.specs.declared.definition.Key.{Key}
use Rattle.ls_places.specs.declared.definition.Key.TheVariants as key
use Rattle.ls_places.specs.declared.definition.Definition.{Definition}
use Rattle.ls_places.specs.Search.{nth, count_up, start_of}
use Rattle.digraph.specs.Graph.{In}
use Rattle.digraph.specs.Numbering.{Rising, Items, WaitCycle}
use Rattle.causality_rules.specs.Reads.{reads}

-- an automaton's two clock names are one block, and that of a `clock` equation is none
abbrev pub is_block : Named → Bool
is_block (named.Match e all p) = true
is_block (named.Present xs p) = true
is_block (named.Active states p) = true
is_block _ = false

-- the place of a block's first clock name among the clock names
abbrev pub block_at : ℕ → List Named → ℕ
block_at b [] = 0
block_at zero (n ∷ ns) = if is_block n then 0 else suc (block_at zero ns)
block_at (suc b) (n ∷ ns) = suc (block_at (if is_block n then b else suc b) ns)

-- the row of an item
abbrev pub key_of : Definition → Item → Key
key_of d (item.Var k) = key.Var k
key_of d (item.Initial k) = key.Start k
key_of d (item.Selector b) = key.Name (length d.params + block_at b d.places.names)
key_of d (item.Active b) = key.Name (length d.params + block_at b d.places.names)
key_of d (item.Tested b) = key.Name (suc (length d.params + block_at b d.places.names))

abbrev pub block_items : ℕ → List Named → List Item
block_items b [] = []
block_items b (named.Clock x ∷ ns) = block_items b ns
block_items b (named.Match e all p ∷ ns) = item.Selector b ∷ block_items (suc b) ns
block_items b (named.Present xs p ∷ ns) = item.Selector b ∷ block_items (suc b) ns
block_items b (named.Active states p ∷ ns) = item.Active b ∷ item.Tested b ∷ block_items (suc b) ns
block_items b (named.Tested states p ∷ ns) = block_items b ns

abbrev pub initial_item : ℕ → Option Start → List Item
initial_item k None = []
initial_item k (Some s) = item.Initial k ∷ []

abbrev pub initial_items : Definition → ℕ → Option Variable → List Item
initial_items d k None = []
initial_items d k (Some w) = initial_item k (start_of w d.places.starts)

-- the items of a body: its variables, initial equations and blocks
abbrev pub items : Definition → List Item
items d = map item.Var (count_up (length d.places.vars) 0)
    ++ (joined (map (λ k. initial_items d k (nth d.places.vars k)) (count_up (length d.places.vars) 0)) ++ block_items 0 d.places.names)

-- ---- the judgement

-- the condition of a `reset` is no item
abbrev pub is_condition : Key → Bool
is_condition (key.Reset r) = true
is_condition _ = false

-- some numbering rises along all reads
abbrev pub IsCausal : Definition → Type 0
IsCausal d = (rank : Key → ℕ) × Rising (reads d) rank

-- the items with their numbers, by some numbering of all rows
abbrev pub Ranked : Definition → List (Item × ℕ) → Type 0
Ranked d list = (rank : Key → ℕ) × Rising (reads d) rank × (list ≡ map (λ i. (i, rank (key_of d i))) (items d))

-- rows that are items and wait for one another
abbrev pub Cyclic : Definition → List Key → Type 0
Cyclic d rows = Items is_condition (reads d) rows × WaitCycle is_condition (reads d) rows

-- some items of the body, at least one, each of which waits for the next, and the last for the first
pub record WaitsForItself (d : Definition) (found : List Item) : Type 0 where
  pub known : (i : Item) → In i found → In i (items d)
  pub cyclic : Cyclic d (map (key_of d) found)
