-- Two searches in the graph of a body give its signature: `wrong` marks what flows where 0 has to be, `out` what flows into the
-- result.
use Rattle.std.specs.List.{All}
use Rattle.std.specs.Prelude.{◌≡◌, ℕ, suc, ◌+◌, ◌<◌, ◌&&◌, ◌||◌, not, Bool, true, false, List, [], ◌∷◌, length, nat_lt, Option, if◌then◌else◌}
use Rattle.digraph.specs.Graph.{Reached, Same, reads}
use Rattle.digraph.specs.Marks.{marked}
use Rattle.ls_ast.specs.declared.tree.BodyOf.{BodyOf}
use Rattle.ls_ast.specs.declared.tree.Pat.{Pat}
use Rattle.ls_sig.specs.declared.binder.Note.{Note}
use Rattle.ls_sig.specs.declared.sigs.InitSig.{InitSig}
use Rattle.ls_places.specs.Definitions.{definition_of}
use Rattle.ls_places.specs.declared.definition.Definition.{Definition}
use Rattle.ls_places.specs.declared.places.Variable.{Variable}
use Rattle.ls_places.specs.declared.places.Whole.{Whole}
use Rattle.init_rules.specs.Init.{Initialised, IsSignature}
use Rattle.init_rules.specs.Nodes.{Counts, counts, initial_row, rows, total, variable_row, whole_node, whole_row, zero_row, Standing}

module _ (n : Counts) where
  abbrev pub param_marked : List Bool → ℕ → Bool
  param_marked marks k = if nat_lt k n.params then marked marks (3 + k) else false

  abbrev pub may_bit : List Bool → Bool → ℕ → Bool
  may_bit wrong known k = known && not (param_marked wrong k)

  -- of the parameters from `k` on
  abbrev pub may_bits : List Bool → List Bool → ℕ → List Bool
  may_bits wrong [] k = []
  may_bits wrong (known ∷ rest) k = may_bit wrong known k ∷ may_bits wrong rest (suc k)

  abbrev pub reach_bit : List Bool → List Bool → Bool → ℕ → Bool
  reach_bit wrong out known k = may_bit wrong known k && (marked out 0 || param_marked out k)

  abbrev pub reach_bits : List Bool → List Bool → List Bool → ℕ → List Bool
  reach_bits wrong out [] k = []
  reach_bits wrong out (known ∷ rest) k = reach_bit wrong out known k ∷ reach_bits wrong out rest (suc k)

  abbrev pub signature : List Bool → List Bool → List Bool → InitSig
  signature wrong out known = record { may = may_bits wrong known 0; reaches = reach_bits wrong out known 0; own = marked out 0 }

-- the marks of what is reached from a node
abbrev pub Marks : List (List ℕ) → ℕ → List Bool → Type 0
Marks g s marks = (x : ℕ) → Same (marked marks x ≡ true) (Reached (reads g) (s ∷ []) x)

-- ---- laws

-- a search from node 1 tells whether a definition is initialised, and one more from its result gives the signature
abbrev pub SearchesDecide : Type 0
SearchesDecide =
    (d : Definition) (sigs : List InitSig) (known : List Bool) (wrong : List Bool) → (st : Standing d) → length known ≡ length d.params
    → Marks (rows d sigs) 1 wrong
    → (marked wrong 0 ≡ true → Initialised d sigs → ⊥)
    × (marked wrong 0 ≡ false → (out : List Bool) → Marks (rows d sigs) (whole_node (counts d) st.last) out
    → Initialised d sigs × IsSignature d sigs known (signature (counts d) wrong out known))

abbrev pub AllBelow : ℕ → List ℕ → Type 0
AllBelow n = All (λ v. v < n)

-- each row has nodes alone, and there are so many rows
pub record RowsBelow (d : Definition) (sigs : List InitSig) : Type 0 where
  pub many : length (rows d sigs) ≡ total (counts d)
  pub zeros : AllBelow (total (counts d)) (zero_row d sigs)
  pub variables : (k : ℕ) → AllBelow (total (counts d)) (variable_row d sigs k)
  pub initials : (w : Variable) → AllBelow (total (counts d)) (initial_row d sigs w)
  pub wholes : (w : Whole Note) → AllBelow (total (counts d)) (whole_row d sigs w)

abbrev pub GraphIsThere : Type 0
GraphIsThere = (d : Definition) (sigs : List InitSig) → RowsBelow d sigs

-- what stands in a definition
abbrev pub DefinitionStands : Type 0
DefinitionStands = (cases : ℕ → Option ℕ) (params : List Pat) (notes : List Note) (body : BodyOf Note) → Standing (definition_of cases params notes body)
