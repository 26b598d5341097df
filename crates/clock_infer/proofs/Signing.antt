-- Signatures with the clock schemes of definitions, one after the other.
use Rattle.std.specs.Prelude.{◌≡◌, refl, List, [], ◌∷◌, ◌++◌, Result, Ok, Err, IfOk}
use Rattle.std.proofs.Common.{ap, sym, ◌∙◌}
use Rattle.ls_ast.specs.declared.tree.DefOf.{DefOf}
use Rattle.ls_ast.specs.declared.tree.DefOf.TheVariants as item
use Rattle.ls_sig.specs.declared.binder.Note.{Note}
use Rattle.ls_sig.specs.declared.sigs.Sig.{Sig}
use Rattle.clock_rules.specs.declared.scheme.ClockScheme.{ClockScheme}
use Rattle.clock_rules.specs.Files.{scheme, with_scheme, with_schemes}
use Rattle.clock_infer.specs.Filed.{schemes_after}
use Rattle.clock_infer.specs.Signatures.{schemes_in, with_each}

with_none : (ks : List ClockScheme) → with_each ks [] ≡ []
with_none [] = refl
with_none (k ∷ ks) = refl

no_signatures : (ds : List (DefOf Note)) → with_schemes [] ds ≡ []
no_signatures [] = refl
no_signatures (item.Cases line name all ∷ ds) = no_signatures ds
no_signatures (item.Let line node name params marks notes body ∷ ds) = refl

with_all : (ds : List (DefOf Note)) (ss : List Sig) → with_each (schemes_in ds) ss ≡ with_schemes ss ds
with_all ds [] = with_none (schemes_in ds) ∙ sym (no_signatures ds)
with_all [] (s ∷ ss) = refl
with_all (item.Cases line name all ∷ ds) (s ∷ ss) = with_all ds (s ∷ ss)
with_all (item.Let line node name params marks notes body ∷ ds) (s ∷ ss) = ap (λ z. with_scheme s (scheme marks notes body.result.note.ck) ∷ z) (with_all ds ss)

pub signed : {E : Type 0} (r : Result (List Sig) E) (ss slice : List Sig) (ks front : List ClockScheme) (ds defs : List (DefOf Note)) → slice ≡ ss → front ≡ ks → ks ≡ schemes_in defs → defs ≡ ds
    → IfOk r (λ z. z ≡ with_each front slice) → IfOk r (λ z. z ≡ with_schemes ss ds)
signed (Ok z) ss slice ks front ds defs s k e d h = h ∙ (λ i. with_each ((k ∙ e ∙ ap schemes_in d) i) (s i)) ∙ with_all ds ss
signed (Err x) ss slice ks front ds defs s k e d h = tt

-- ---- the schemes of definitions

grouped : (xs : List ClockScheme) (x : ClockScheme) (ys : List ClockScheme) → (xs ++ x ∷ []) ++ ys ≡ xs ++ (x ∷ ys)
grouped [] x ys = refl
grouped (z ∷ xs) x ys = ap (λ w. z ∷ w) (grouped xs x ys)

pub one_more : (done : List ClockScheme) (d : DefOf Note) (ds : List (DefOf Note)) → schemes_after done d ++ schemes_in ds ≡ done ++ schemes_in (d ∷ ds)
one_more done (item.Cases line name all) ds = refl
one_more done (item.Let line node name params marks notes body) ds = grouped done (scheme marks notes body.result.note.ck) (schemes_in ds)
