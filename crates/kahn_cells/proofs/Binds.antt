-- The names of patterns, one after the other.
use Rattle.std.specs.Prelude.{◌≡◌, ℕ, ◌+◌, ◌<◌, ◌||◌, Bool, List, ◌∷◌, map, length}
use Rattle.std.proofs.Common.{ap, sym, ◌∙◌, arith, drop, get_or}
use Rattle.std.proofs.lemmas.Grind.{common_steps}
use Rattle.ls_ast.specs.declared.tree.Pat.{Pat}
use Rattle.ls_places.specs.Patterns.{joined, names_of}
use Rattle.ls_places.specs.Patterns.{has_name}
use Rattle.kahn_cells.proofs.Lists.{has_name_append}

pub one_on : {A : Type 0} → (all : List A) (i : ℕ) (p : A) → i < length all → get_or all i p ≡ p → drop i all ≡ p ∷ drop (i + 1) all
one_on all i p below is = grind (arith, common_steps)

pub binds_next : (all : List Pat) (i : ℕ) (p : Pat) (x : ℕ) (b v t : Bool) → i < length all → get_or all i p ≡ p → b ≡ has_name x (names_of p) → b ≡ v
    → has_name x (joined (map names_of (drop i all))) ≡ t → (v || has_name x (joined (map names_of (drop (i + 1) all)))) ≡ t
binds_next all i p x b v t below is e f before =
    let rest = joined (map names_of (drop (i + 1) all)) in
    ap (λ z. z || has_name x rest) (sym f ∙ e) ∙ sym (has_name_append x (names_of p) rest) ∙ sym (ap (λ z. has_name x (joined (map names_of z))) (one_on all i p below is)) ∙ before
