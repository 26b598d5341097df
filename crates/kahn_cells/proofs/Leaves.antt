-- Conjunctions of leaves.
use Rattle.std.specs.Prelude.{◌≡◌, refl, ℕ, ◌+◌, ◌<◌, length, ◌&&◌, Bool as Truth, true, false, List, [], ◌∷◌, Option, Some, None}
use Rattle.std.proofs.Common.{ap, sym, ◌∙◌, arith, drop, get_or}
use Rattle.ls_value.specs.declared.leaf.Leaf.{Leaf}
use Rattle.ls_value.specs.declared.leaf.Leaf.TheVariants.{Nil, Int, Bool, Char, Text, Enum, Unit as Nothing}
use Rattle.ls_ops.specs.declared.kinds.Op.TheVariants as op
use Rattle.ls_ops.specs.Values.{value_of}
use Rattle.kahn_model.specs.Values.{same_leaves}
use Rattle.kahn_cells.specs.Parts.{and_equal, other_leaves}
use Rattle.kahn_cells.proofs.Binds.{one_on}

abbrev pub both : Leaf → Leaf → Leaf
both a b = value_of op.And (a ∷ b ∷ [])

pub and_assoc : (a b c : Truth) → (a && b) && c ≡ a && (b && c)
and_assoc true b c = refl
and_assoc false b c = refl

pub and_true : (a : Truth) → (a && true) ≡ a
and_true true = refl
and_true false = refl

-- a truth or Nil, as a conjunction has it
abbrev truth : Leaf → Option Truth
truth (Bool a) = Some a
truth _ = None

abbrev leaf_of : Option Truth → Leaf
leaf_of (Some a) = Bool a
leaf_of None = Nil

abbrev joint : Option Truth → Option Truth → Option Truth
joint (Some a) (Some b) = Some (a && b)
joint _ _ = None

both_is : (a b : Leaf) → both a b ≡ leaf_of (joint (truth a) (truth b))
both_is (Bool a) (Bool b) = refl
both_is (Bool a) Nil = refl
both_is (Bool a) (Int b) = refl
both_is (Bool a) (Char b) = refl
both_is (Bool a) (Text b) = refl
both_is (Bool a) (Enum t b) = refl
both_is (Bool a) Nothing = refl
both_is Nil b = refl
both_is (Int a) b = refl
both_is (Char a) b = refl
both_is (Text a) b = refl
both_is (Enum t a) b = refl
both_is Nothing b = refl

truth_of : (o : Option Truth) → truth (leaf_of o) ≡ o
truth_of (Some a) = refl
truth_of None = refl

joint_assoc : (a b c : Option Truth) → joint (joint a b) c ≡ joint a (joint b c)
joint_assoc (Some a) (Some b) (Some c) = ap Some (and_assoc a b c)
joint_assoc (Some a) (Some b) None = refl
joint_assoc (Some a) None c = refl
joint_assoc None b c = refl

pub both_assoc : (a b c : Leaf) → both (both a b) c ≡ both a (both b c)
both_assoc a b c =
    both_is (both a b) c
    ∙ ap (λ z. leaf_of (joint z (truth c))) (ap truth (both_is a b) ∙ truth_of (joint (truth a) (truth b)))
    ∙ ap leaf_of (joint_assoc (truth a) (truth b) (truth c))
    ∙ sym (ap (λ z. leaf_of (joint (truth a) z)) (ap truth (both_is b c) ∙ truth_of (joint (truth b) (truth c))))
    ∙ sym (both_is a (both b c))

-- a conjunction with what is true
pub both_done : (a b : Leaf) → both (both a b) (Bool true) ≡ both a b
both_done a b =
    both_is (both a b) (Bool true) ∙ ap (λ z. leaf_of (joint z (Some true))) (ap truth (both_is a b) ∙ truth_of (joint (truth a) (truth b)))
    ∙ ap leaf_of (with_true (joint (truth a) (truth b))) ∙ sym (both_is a b)
  where
    with_true : (o : Option Truth) → joint o (Some true) ≡ o
    with_true (Some a) = ap Some (and_true a)
    with_true None = refl

pub true_first : (xs ys : List Leaf) → both (Bool true) (same_leaves xs ys) ≡ same_leaves xs ys
true_first [] ys = refl
true_first (a ∷ xs) [] = refl
true_first (a ∷ xs) (b ∷ ys) = joined_true (value_of op.Equal (a ∷ b ∷ [])) (same_leaves xs ys)
  where
    true_joint : (o : Option Truth) → joint (Some true) o ≡ o
    true_joint (Some a) = refl
    true_joint None = refl

    joined_true : (x y : Leaf) → both (Bool true) (both x y) ≡ both x y
    joined_true x y = both_is (Bool true) (both x y) ∙ ap (λ z. leaf_of (joint (Some true) z)) (ap truth (both_is x y) ∙ truth_of (joint (truth x) (truth y)))
        ∙ ap leaf_of (true_joint (joint (truth x) (truth y))) ∙ sym (both_is x y)

-- one more leaf of each
next_of : (d a : Leaf) (xs ys : List Leaf) (b : Leaf) → 0 < length ys → b ≡ get_or ys 0 b → both (and_equal d a b) (same_leaves xs (other_leaves ys)) ≡ both d (same_leaves (a ∷ xs) ys)
next_of d a xs [] b l e = absurd (omega (arith, l))
next_of d a xs (y ∷ ys) b l e = ap (λ z. both (and_equal d a z) (same_leaves xs ys)) e ∙ both_assoc d (value_of op.Equal (a ∷ y ∷ [])) (same_leaves xs ys)

pub leaves_next : (xs : List Leaf) (i : ℕ) (a : Leaf) (ys : List Leaf) (b d e whole : Leaf) → i < length xs → get_or xs i a ≡ a → 0 < length ys → b ≡ get_or ys 0 b → e ≡ and_equal d a b
    → both d (same_leaves (drop i xs) ys) ≡ whole → both e (same_leaves (drop (i + 1) xs) (other_leaves ys)) ≡ whole
leaves_next xs i a ys b d e whole below is some first one so_far =
    ap (λ z. both z (same_leaves (drop (i + 1) xs) (other_leaves ys))) one ∙ next_of d a (drop (i + 1) xs) ys b some first
    ∙ sym (ap (λ z. both d (same_leaves z ys)) (one_on xs i a below is)) ∙ so_far
