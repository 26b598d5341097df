-- Regions that are joined: acts with the same guard, one after the other, share a region.
use Rattle.std.specs.Prelude.{ℕ, ◌&&◌, ◌||◌, not, Bool as Truth, true, false, List, [], ◌∷◌, ◌++◌, length}
use Rattle.step_code.specs.declared.parts.Instr.{Instr}
use Rattle.step_code.specs.declared.parts.Instr.TheVariants.{When}
use Rattle.compile_rules.specs.declared.places.Place.{Place}
use Rattle.compile_rules.specs.declared.places.Act.{Act}
use Rattle.compile_rules.specs.Scheme.{Guarded, same_place, dest}
use Rattle.compile_rules.specs.Assembly.{instruction}

-- ---- acts and regions

mutual
  pub data Block : Type 0 where
    single : Act → Block
    region : Place → Blocks → Block

  pub data Blocks : Type 0 where
    none : Blocks
    next : Block → Blocks → Blocks

-- an act in front of blocks: it goes into the first region where this has its guard, and the act does not write the guard
abbrev pub may_join : Place → Place → Act → Truth
may_join g h act = same_place g h && not (same_place (dest act) h)

abbrev pub joined_to : Truth → Place → Blocks → Blocks → Place → Blocks → Blocks → Blocks
joined_to true g more alone h inner rest = next (region h more) rest
joined_to false g more alone h inner rest = next (region g alone) (next (region h inner) rest)

abbrev pub add : List Place → Act → Blocks → Blocks
add [] act blocks = next (single act) blocks
add (g ∷ guards) act none = next (region g (add guards act none)) none
add (g ∷ guards) act (next (single other) rest) = next (region g (add guards act none)) (next (single other) rest)
add (g ∷ guards) act (next (region h inner) rest) = joined_to (may_join g h act) g (add guards act inner) (add guards act none) h inner rest

abbrev pub joined : List Guarded → Blocks
joined [] = none
joined (act ∷ rest) = add act.0 act.1 (joined rest)

-- ---- as instructions

module _ (number_of : Place → ℕ) where
  abbrev mutual
    pub block_lines : Block → List Instr
    block_lines (single act) = instruction number_of act ∷ []
    block_lines (region g inner) = When (number_of g) (length (blocks_lines inner)) ∷ blocks_lines inner

    pub blocks_lines : Blocks → List Instr
    blocks_lines none = []
    blocks_lines (next block rest) = block_lines block ++ blocks_lines rest

-- ---- no region is followed at its nesting by another of its guard that it does not write

abbrev mutual
  pub writes_in : Place → Block → Truth
  writes_in p (single act) = same_place (dest act) p
  writes_in p (region g inner) = writes_among p inner

  pub writes_among : Place → Blocks → Truth
  writes_among p none = false
  writes_among p (next block rest) = writes_in p block || writes_among p rest

abbrev pub fits_before : Block → Blocks → Truth
fits_before (single act) rest = true
fits_before (region g inner) none = true
fits_before (region g inner) (next (single act) rest) = true
fits_before (region g inner) (next (region h more) rest) = not (same_place g h) || writes_among h inner

abbrev mutual
  pub is_joined_in : Block → Truth
  is_joined_in (single act) = true
  is_joined_in (region g inner) = are_joined inner

  pub are_joined : Blocks → Truth
  are_joined none = true
  are_joined (next block rest) = is_joined_in block && fits_before block rest && are_joined rest
