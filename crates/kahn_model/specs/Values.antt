-- Values: their parts, the case that one names, what a pattern gives to a name, and the operators on them.
use Rattle.std.specs.Prelude.{ℕ, ◌==◌, ◌&&◌, ◌||◌, Bool, true, false, List, [], ◌∷◌, ◌++◌, map, Option, Some, None, if◌then◌else◌}
use Rattle.ls_value.specs.declared.leaf.Leaf.{Leaf}
use Rattle.ls_value.specs.declared.leaf.Leaf.TheVariants as leaf
use Rattle.ls_ops.specs.declared.kinds.Op.{Op}
use Rattle.ls_ops.specs.declared.kinds.Op.TheVariants as op
use Rattle.ls_ast.specs.declared.tree.Pat.{Pat, fold-Pat}
use Rattle.ls_ast.specs.declared.tree.Pat.TheOpen.{Pat-F}
use Rattle.ls_places.specs.Patterns.{joined}
use Rattle.kahn_model.specs.declared.cell.Value.{Value, fold-Value, out-Value}
use Rattle.kahn_model.specs.declared.cell.Value.TheOpen.{Value-F}
use Rattle.kahn_model.specs.declared.cell.Value.TheVariants as v
use Rattle.ls_ops.specs.Values.{value_of, alarm_of}

-- the missing value
abbrev pub nil : Value
nil = v.Leaf leaf.Nil

abbrev pub nil_leaf : Leaf → Bool
nil_leaf leaf.Nil = true
nil_leaf _ = false

abbrev pub nil_open : {X : Type 0} → Value-F X → Bool
nil_open (Value-F.Leaf l) = nil_leaf l
nil_open (Value-F.Tuple parts) = false

abbrev pub is_nil : Value → Bool
is_nil x = nil_open (out-Value x)

abbrev pub all_nil : List Value → Bool
all_nil [] = true
all_nil (x ∷ xs) = is_nil x && all_nil xs

-- a tuple whose parts are all Nil is Nil
abbrev pub tuple : List Value → Value
tuple xs = if all_nil xs then nil else v.Tuple xs

abbrev pub parts_open : {X : Type 0} → Value-F X → List X
parts_open (Value-F.Leaf l) = []
parts_open (Value-F.Tuple parts) = parts

abbrev pub parts : Value → List Value
parts x = parts_open (out-Value x)

-- the case that a value names: false is 0 and true is 1
abbrev pub leaf_case : Leaf → Option ℕ
leaf_case (leaf.Bool false) = Some 0
leaf_case (leaf.Bool true) = Some 1
leaf_case (leaf.Enum t k) = Some k
leaf_case _ = None

abbrev pub leaf_open : {X : Type 0} → Value-F X → Leaf
leaf_open (Value-F.Leaf l) = l
leaf_open (Value-F.Tuple parts) = leaf.Nil

abbrev pub the_leaf : Value → Leaf
the_leaf x = leaf_open (out-Value x)

abbrev pub case_of : Value → Option ℕ
case_of x = leaf_case (the_leaf x)

-- ---- patterns

abbrev pub or_else : {A : Type 0} → Option A → Option A → Option A
or_else None b = b
or_else (Some x) b = Some x

abbrev pub pick_in : List (ℕ → Value → Option Value) → ℕ → List Value → Option Value
pick_in [] x vs = None
pick_in (p ∷ ps) x [] = or_else (p x nil) (pick_in ps x [])
pick_in (p ∷ ps) x (w ∷ ws) = or_else (p x w) (pick_in ps x ws)

abbrev pub pick_step : Pat-F (ℕ → Value → Option Value) → ℕ → Value → Option Value
pick_step Pat-F.Any x w = None
pick_step Pat-F.Unit x w = None
pick_step (Pat-F.Var name) x w = if name.0 == x then Some w else None
pick_step (Pat-F.Tuple ps) x w = pick_in ps x (parts w)

-- the part of a value that a pattern gives to a name; a part of Nil is Nil
abbrev pub pick : Pat → ℕ → Value → Option Value
pick = fold-Pat (ℕ → Value → Option Value) pick_step

-- ---- operators

abbrev pub leaves_step : Value-F (List Leaf) → List Leaf
leaves_step (Value-F.Leaf l) = l ∷ []
leaves_step (Value-F.Tuple parts) = joined parts

abbrev pub leaves : Value → List Leaf
leaves = fold-Value (List Leaf) leaves_step

abbrev pub any_nil : List Leaf → Bool
any_nil [] = false
any_nil (l ∷ ls) = nil_leaf l || any_nil ls

abbrev pub same_leaves : List Leaf → List Leaf → Leaf
same_leaves (a ∷ more) (b ∷ bs) = value_of op.And (value_of op.Equal (a ∷ b ∷ []) ∷ same_leaves more bs ∷ [])
same_leaves _ _ = leaf.Bool true

-- equality of all leaves, and Nil where one of them is
abbrev pub equal : List Leaf → List Leaf → Leaf
equal xs ys = if any_nil (xs ++ ys) then leaf.Nil else same_leaves xs ys

abbrev pub choose_open : {X : Type 0} → Leaf → Leaf → Value-F X → Value
choose_open c a (Value-F.Leaf b) = v.Leaf (value_of op.Choose (c ∷ a ∷ b ∷ []))
choose_open c a (Value-F.Tuple parts) = nil

abbrev pub choose_parts : List (Value → Value) → List Value → List Value
choose_parts (f ∷ fs) (w ∷ ws) = f w ∷ choose_parts fs ws
choose_parts _ _ = []

abbrev pub choose_step : Leaf → Value-F (Value → Value) → Value → Value
choose_step c (Value-F.Leaf a) w = choose_open c a (out-Value w)
choose_step c (Value-F.Tuple fs) w = tuple (choose_parts fs (parts w))

-- `if` works leaf by leaf
abbrev pub choose : Leaf → Value → Value → Value
choose c = fold-Value (Value → Value) (choose_step c)

-- the value of an operator
abbrev pub eval : Op → List Value → Value
eval op.Equal (a ∷ b ∷ []) = v.Leaf (equal (leaves a) (leaves b))
eval op.Differ (a ∷ b ∷ []) = v.Leaf (value_of op.Not (equal (leaves a) (leaves b) ∷ []))
eval op.Choose (c ∷ a ∷ b ∷ []) = choose (the_leaf c) a b
eval o args = v.Leaf (value_of o (map the_leaf args))

-- whether it divides by zero
abbrev pub alarm : Op → List Value → Bool
alarm o args = alarm_of o (map the_leaf args)
