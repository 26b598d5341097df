-- Which parameters are data.
use Rattle.std.specs.Prelude.{◌≡◌, refl, ℕ, zero, suc, ◌+◌, ◌<◌, Bool, false, List, [], ◌∷◌, ◌++◌, length, drop}
use Rattle.std.proofs.Common.{ap, sym, ◌∙◌, arith, append_assoc}
use Rattle.ls_ast.specs.declared.tree.Mark.{Mark}
use Rattle.ls_ast.specs.declared.tree.Pat.{Pat}
use Rattle.ls_places.specs.Search.{nth}
use Rattle.init_rules.specs.Files.{data_marks}
use Rattle.init_check.specs.Judged.{is_known_data}

no_marks : (i : ℕ) (ps : List Pat) → i < length ps → data_marks (drop i ps) [] ≡ false ∷ data_marks (drop (suc i) ps) []
no_marks i [] l = absurd (omega (arith, l))
no_marks zero (p ∷ ps) l = refl
no_marks (suc i) (p ∷ ps) l = no_marks i ps (omega (arith, l))

one : (i : ℕ) (ps : List Pat) (ms : List Mark) → i < length ps → data_marks (drop i ps) (drop i ms) ≡ is_known_data (nth ms i) ∷ data_marks (drop (suc i) ps) (drop (suc i) ms)
one i [] ms l = absurd (omega (arith, l))
one zero (p ∷ ps) [] l = refl
one zero (p ∷ ps) (m ∷ ms) l = refl
one (suc i) (p ∷ ps) [] l = no_marks i ps (omega (arith, l))
one (suc i) (p ∷ ps) (m ∷ ms) l = one i ps ms (omega (arith, l))

one_more : (i : ℕ) → suc i ≡ i + 1
one_more i = omega arith

pub marks_next : (ps : List Pat) (ms : List Mark) (i : ℕ) (done new whole : List Bool) (b : Bool) → i < length ps → new ≡ done ++ b ∷ [] → b ≡ is_known_data (nth ms i)
    → done ++ data_marks (drop i ps) (drop i ms) ≡ whole → new ++ data_marks (drop (i + 1) ps) (drop (i + 1) ms) ≡ whole
marks_next ps ms i done new whole b l e is so_far =
    let rest = data_marks (drop (i + 1) ps) (drop (i + 1) ms) in
    ap (λ z. z ++ rest) e ∙ append_assoc done (b ∷ []) rest ∙ ap (λ z. done ++ z ∷ rest) is
    ∙ ap (λ z. done ++ is_known_data (nth ms i) ∷ data_marks (drop z ps) (drop z ms)) (sym (one_more i)) ∙ ap (λ z. done ++ z) (sym (one i ps ms l)) ∙ so_far

pub marks_long : (ps : List Pat) (ms : List Mark) → length (data_marks ps ms) ≡ length ps
marks_long [] ms = refl
marks_long (p ∷ ps) [] = ap suc (marks_long ps [])
marks_long (p ∷ ps) (m ∷ ms) = ap suc (marks_long ps ms)
