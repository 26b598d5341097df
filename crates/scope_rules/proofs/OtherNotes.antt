-- What an expression asks of the scope, and its binders, do not go by its notes.
use Rattle.std.specs.Prelude.{◌≡◌, ℕ, Bool, true, false, List, [], ◌∷◌, ◌++◌, map, length, Option, Some, None, refl}
use Rattle.std.proofs.Common.{ap, sym, ◌∙◌}
use Rattle.ls_ast.specs.declared.tree.Case.{Case}
use Rattle.ls_ast.specs.declared.tree.Mark.TheVariants as mark
use Rattle.ls_ast.specs.declared.tree.Expr.{Expr, Expr-F, fold_out-Expr}
use Rattle.ls_ast.specs.declared.tree.Form.{Form, out-Form, fold_out-Form, out-roll-Form, map-Form}
use Rattle.ls_ast.specs.declared.tree.Form.TheOpen.{Form-F}
use Rattle.ls_ast.specs.declared.tree.Equation.{Equation, out-Equation, fold_out-Equation, out-roll-Equation, map-Equation}
use Rattle.ls_ast.specs.declared.tree.Equation.TheOpen.{Equation-F}
use Rattle.ls_ast.specs.declared.tree.Arm.{Arm}
use Rattle.ls_ast.specs.declared.tree.Guard.{Guard}
use Rattle.ls_ast.specs.declared.tree.Handler.{Handler}
use Rattle.ls_ast.specs.declared.tree.State.{State}
use Rattle.ls_ast.specs.declared.tree.Test.{Test}
use Rattle.ls_sig.specs.declared.binder.Binder.{Binder}
use Rattle.ls_sig.specs.declared.binder.Use.{Use}
use Rattle.scope_rules.specs.Places as P
use Rattle.scope_rules.specs.Places.{Stand, at, applied, stream, root, called_at}
use Rattle.scope_rules.specs.Claims as C
use Rattle.scope_rules.specs.Claims.{Earlier, Claims, Claim, claims, uses, use_of, joined_uses, branch_uses, option_uses}
use Rattle.scope_rules.specs.Faults.{is_plain, is_plain_at}
use Rattle.tree_notes.specs.Noted as T
use Rattle.tree_notes.proofs.Refold.{related, lefts, rights, noted, noted_form, form_noted, expr_noted}

-- lists of pairs that are the same

list_same : (A : Type 0) (ps : List ((a : A) × (b : A) × (a ≡ b))) → map {A = (a : A) × (b : A) × (a ≡ b)} {B = A} (λ p. p.0) ps ≡ map {A = (a : A) × (b : A) × (a ≡ b)} {B = A} (λ p. p.1) ps
list_same A [] = refl
list_same A (p ∷ ps) = λ i. p.2 i ∷ list_same A ps i

choices_same : (A : Type 0) (ps : List (Case × ((a : A) × (b : A) × (a ≡ b))))
    → map {A = Case × ((a : A) × (b : A) × (a ≡ b))} {B = Case × A} (λ c. (c.0, c.1.0)) ps ≡ map {A = Case × ((a : A) × (b : A) × (a ≡ b))} {B = Case × A} (λ c. (c.0, c.1.1)) ps
choices_same A [] = refl
choices_same A (p ∷ ps) = λ i. (p.0, p.1.2 i) ∷ choices_same A ps i

module _ {N M : Type 0} (g : N → M) where
  -- claims
  module _ (defs : List Earlier) (bound : ℕ → Binder) where
    abbrev s : Form-F M Claims Claims → Claims
    s = C.form_step defs bound

    abbrev s' : Expr-F M Claims Claims → Claims
    s' = C.expr_step defs bound

    abbrev t : Form-F N Claims Claims → Claims
    t = C.form_step defs bound

    abbrev t' : Expr-F N Claims Claims → Claims
    t' = C.expr_step defs bound

    abbrev R : Claims → Claims → Type 0
    R a b = a ≡ b

    abbrev Two : Type 0
    Two = (a : Claims) × (b : Claims) × R a b

    claims_step : (y : Form-F N Two Two) → R (s (lefts g s s' t t' R R y)) (t (rights g s s' t t' R R y))
    claims_step (Form-F.Leaf l) = refl
    claims_step (Form-F.Case c) = refl
    claims_step (Form-F.Var x) = refl
    claims_step (Form-F.Last x) = refl
    claims_step (Form-F.Asked x) = refl
    claims_step (Form-F.Op op args) = λ i z. C.proper z ++ C.all_at stream (list_same Claims args i)
    claims_step (Form-F.Tuple parts) = λ i z. C.proper z ++ C.all_at stream (list_same Claims parts i)
    claims_step (Form-F.Pre e) = λ i z. C.timed ∷ C.proper z ++ e.2 i stream
    claims_step (Form-F.Fby a b) = λ i z. C.timed ∷ C.proper z ++ (a.2 i stream ++ b.2 i stream)
    claims_step (Form-F.Init a b) = λ i z. C.timed ∷ C.proper z ++ (a.2 i stream ++ b.2 i stream)
    claims_step (Form-F.When e x c) = λ i z. C.timed ∷ C.claim_of bound x.0 (at mark.Clock) ∷ C.case_claims c ++ (C.proper z ++ e.2 i stream)
    claims_step (Form-F.Merge x bs) = λ i z. C.merge_claims (C.claim_of bound x.0 (at mark.Clock)) (C.cases_of (choices_same Claims bs i)) (choices_same Claims bs i) z
    claims_step (Form-F.Call run x args None) = λ i z. C.claim_of bound x.0 (applied (C.applied_by run)) ∷ C.call_claims (C.head_by defs (bound x.0)) run false (list_same Claims args i) z ++ C.if_any None
    claims_step (Form-F.Call run x args (Some e)) = λ i z. C.claim_of bound x.0 (applied (C.applied_by run)) ∷ C.call_claims (C.head_by defs (bound x.0)) run true (list_same Claims args i) z ++ C.if_any (Some (e.2 i))

    pub claims_same : (e : Expr N) → claims defs bound (noted g e) ≡ claims defs bound e
    claims_same = related g s s' t t' R R claims_step (λ n p. p.2)

  -- binders
  module _ (bound cases : ℕ → Binder) where
    abbrev us : Form-F M (List Use) (List Use) → List Use
    us = C.form_uses bound cases

    abbrev us' : Expr-F M (List Use) (List Use) → List Use
    us' = C.expr_uses bound cases

    abbrev ut : Form-F N (List Use) (List Use) → List Use
    ut = C.form_uses bound cases

    abbrev ut' : Expr-F N (List Use) (List Use) → List Use
    ut' = C.expr_uses bound cases

    abbrev UR : List Use → List Use → Type 0
    UR a b = a ≡ b

    abbrev UTwo : Type 0
    UTwo = (a : List Use) × (b : List Use) × UR a b

    uses_step : (y : Form-F N UTwo UTwo) → UR (us (lefts g us us' ut ut' UR UR y)) (ut (rights g us us' ut ut' UR UR y))
    uses_step (Form-F.Leaf l) = refl
    uses_step (Form-F.Case c) = refl
    uses_step (Form-F.Var x) = refl
    uses_step (Form-F.Last x) = refl
    uses_step (Form-F.Asked x) = refl
    uses_step (Form-F.Op op args) = λ i. C.form_uses {N = N} bound cases (Form-F.Op op (list_same (List Use) args i))
    uses_step (Form-F.Tuple parts) = λ i. C.form_uses {N = N} bound cases (Form-F.Tuple (list_same (List Use) parts i))
    uses_step (Form-F.Pre e) = λ i. C.form_uses {N = N} bound cases (Form-F.Pre (e.2 i))
    uses_step (Form-F.Fby a b) = λ i. C.form_uses {N = N} bound cases (Form-F.Fby (a.2 i) (b.2 i))
    uses_step (Form-F.Init a b) = λ i. C.form_uses {N = N} bound cases (Form-F.Init (a.2 i) (b.2 i))
    uses_step (Form-F.When e x c) = λ i. C.form_uses {N = N} bound cases (Form-F.When (e.2 i) x c)
    uses_step (Form-F.Merge x bs) = λ i. use_of (bound x.0) ∷ branch_uses (choices_same (List Use) bs i)
    uses_step (Form-F.Call run x args None) = λ i. C.form_uses {N = N} bound cases (Form-F.Call run x (list_same (List Use) args i) None)
    uses_step (Form-F.Call run x args (Some e)) = λ i. C.form_uses {N = N} bound cases (Form-F.Call run x (list_same (List Use) args i) (Some (e.2 i)))

    pub uses_same : (e : Expr N) → uses bound cases (noted g e) ≡ uses bound cases e
    uses_same = related g us us' ut ut' UR UR uses_step (λ n p. p.2)

  -- the form of an expression
  expr_is : (e : Expr N) → noted g e ≡ record { note = g e.note; form = noted_form g e.form }
  expr_is e = fold_out-Expr N (Form M) (Expr M) (form_noted g) (expr_noted g) e

  pub root_same : (e : Expr N) → root (noted g e) ≡ T.retag (map-Form N (Form N) (Expr N) (Form M) (Expr M) (noted_form g) (noted g) (out-Form N e.form))
  root_same e = ap root (expr_is e) ∙ ap (out-Form M) (fold_out-Form N (Form M) (Expr M) (form_noted g) (expr_noted g) e.form)
      ∙ out-roll-Form M (T.retag (map-Form N (Form N) (Expr N) (Form M) (Expr M) (noted_form g) (noted g) (out-Form N e.form)))

  called_layer : (y : Form-F N (Form N) (Expr N)) → called_at (T.retag {N = N} {M = M} (map-Form N (Form N) (Expr N) (Form M) (Expr M) (noted_form g) (noted g) y)) ≡ called_at y
  called_layer (Form-F.Leaf l) = refl
  called_layer (Form-F.Case c) = refl
  called_layer (Form-F.Var x) = refl
  called_layer (Form-F.Last x) = refl
  called_layer (Form-F.Asked x) = refl
  called_layer (Form-F.Op op args) = refl
  called_layer (Form-F.Tuple parts) = refl
  called_layer (Form-F.Pre e) = refl
  called_layer (Form-F.Fby a b) = refl
  called_layer (Form-F.Init a b) = refl
  called_layer (Form-F.When e x c) = refl
  called_layer (Form-F.Merge x bs) = refl
  called_layer (Form-F.Call run x args None) = refl
  called_layer (Form-F.Call run x args (Some e)) = refl

  pub called_same : (e : Expr N) → called_at (root (noted g e)) ≡ called_at (root e)
  called_same e = ap called_at (root_same e) ∙ called_layer (out-Form N e.form)
