-- The notes of a tree that the walk makes, in order: each is made in the state after those before it.
use Rattle.std.specs.Prelude.{◌≡◌, List, [], ◌∷◌, ◌++◌, map, Option, Some, None, option_map, refl}
use Rattle.std.proofs.Common.{ap, ap₂, sym, ◌∙◌}
use Rattle.ls_ast.specs.declared.tree.BodyOf.{BodyOf}
use Rattle.ls_ast.specs.declared.tree.Case.{Case}
use Rattle.ls_ast.specs.declared.tree.Expr.{Expr, Expr-F, fold-roll-Expr}
use Rattle.ls_ast.specs.declared.tree.Form.{Form, fold-roll-Form, map-Form, roll-Form}
use Rattle.ls_ast.specs.declared.tree.Form.TheOpen.{Form-F}
use Rattle.ls_ast.specs.declared.tree.Equation.{Equation, fold-Equation, fold-roll-Equation, map-Equation, roll-Equation}
use Rattle.ls_ast.specs.declared.tree.Equation.TheOpen.{Equation-F, Arm-F, Guard-F, Handler-F, State-F, Test-F}
use Rattle.ls_ast.specs.declared.tree.Arm.{Arm, fold-Arm, fold-roll-Arm}
use Rattle.ls_ast.specs.declared.tree.Guard.{Guard, fold-Guard, fold-roll-Guard}
use Rattle.ls_ast.specs.declared.tree.Handler.{Handler, fold-Handler, fold-roll-Handler}
use Rattle.ls_ast.specs.declared.tree.State.{State, fold-State, fold-roll-State, roll-State}
use Rattle.ls_ast.specs.declared.tree.Test.{Test, fold-Test, fold-roll-Test}
use Rattle.tree_notes.specs.Numbered as Nu
use Rattle.tree_notes.specs.Numbered.{From, all_from, choices_from, option_from}
use Rattle.tree_notes.specs.Order as Or
use Rattle.tree_notes.specs.Order.{joined, choices_joined, option_joined}
use Rattle.tree_notes.proofs.Related.{related, lefts, rights}
use Rattle.tree_notes.proofs.RelatedEquations.{related_equations, lefts_Equation, lefts_Arm, lefts_Guard, lefts_Handler, lefts_State, lefts_Test, rights_Equation, rights_Arm, rights_Guard, rights_Handler, rights_State, rights_Test}

end_nil : {A : Type 0} (xs : List A) → xs ++ [] ≡ xs
end_nil [] = refl
end_nil (x ∷ xs) = ap (λ z. x ∷ z) (end_nil xs)

module _ {S N M : Type 0} (step : S → N → M) (next : S → N → S) where
  -- what is made for notes from a state on, and the state after them

  abbrev pub made : List N → S → List M
  made [] k = []
  made (n ∷ ns) k = step k n ∷ made ns (next k n)

  abbrev pub moved : List N → S → S
  moved [] k = k
  moved (n ∷ ns) k = moved ns (next k n)

  made_on : (xs ys : List N) (k : S) → made (xs ++ ys) k ≡ made xs k ++ made ys (moved xs k)
  made_on [] ys k = refl
  made_on (x ∷ xs) ys k = ap (λ z. step k x ∷ z) (made_on xs ys (next k x))

  moved_on : (xs ys : List N) (k : S) → moved (xs ++ ys) k ≡ moved ys (moved xs k)
  moved_on [] ys k = refl
  moved_on (x ∷ xs) ys k = moved_on xs ys (next k x)

  -- a part has the notes that are made for those of the old part
  abbrev Makes : {X : Type 0} → (X → List M) → From S X → List N → Type 0
  Makes of g ns = (k : S) → (of (g k).0 ≡ made ns k) × ((g k).1 ≡ moved ns k)

  then_ : {X Y : Type 0} (of : X → List M) (of' : Y → List M) (g : From S X) (h : From S Y) (xs ys : List N) → Makes of g xs → Makes of' h ys
      → (k : S) → (of (g k).0 ++ of' (h (g k).1).0 ≡ made (xs ++ ys) k) × ((h (g k).1).1 ≡ moved (xs ++ ys) k)
  then_ of of' g h xs ys a b k = (
    (λ i. (a k).0 i ++ (b (g k).1).0 i) ∙ ap (λ s. made xs k ++ made ys s) (a k).1 ∙ sym (made_on xs ys k),
    (b (g k).1).1 ∙ ap (moved ys) (a k).1 ∙ sym (moved_on xs ys k),
  )

  -- expressions

  abbrev F : Type 0
  F = From S (Form M)

  abbrev E : Type 0
  E = From S (Expr M)

  abbrev L : Type 0
  L = List N

  abbrev R : F → L → Type 0
  R g ns = Makes (Or.notes_form M) g ns

  abbrev R' : E → L → Type 0
  R' g ns = Makes (Or.notes M) g ns

  abbrev T : Type 0
  T = (a : F) × (b : L) × R a b

  abbrev T' : Type 0
  T' = (a : E) × (b : L) × R' a b

  abbrev s : Form-F N F E → F
  s = Nu.form_step step next

  abbrev s' : Expr-F N F E → E
  s' = Nu.expr_step step next

  abbrev t : Form-F N L L → L
  t = Or.form_notes N

  abbrev t' : Expr-F N L L → L
  t' = Or.expr_notes N

  abbrev first : List T' → List E
  first = map {A = T'} {B = E} (λ p. p.0)

  abbrev second : List T' → List L
  second = map {A = T'} {B = L} (λ p. p.1)

  all_made : (ps : List T') → Makes (λ xs. joined (map (Or.notes M) xs)) (all_from (first ps)) (joined (second ps))
  all_made [] k = (refl, refl)
  all_made (p ∷ ps) k = then_ (Or.notes M) (λ xs. joined (map (Or.notes M) xs)) p.0 (all_from (first ps)) p.1 (joined (second ps)) p.2 (all_made ps) k

  abbrev choices_notes : List (Case × Expr M) → List M
  choices_notes xs = choices_joined (map {A = Case × Expr M} {B = Case × List M} (λ c. (c.0, Or.notes M c.1)) xs)

  choices_made : (ps : List (Case × T')) → Makes choices_notes (choices_from (map {A = Case × T'} {B = Case × E} (λ c. (c.0, c.1.0)) ps)) (choices_joined (map {A = Case × T'} {B = Case × L} (λ c. (c.0, c.1.1)) ps))
  choices_made [] k = (refl, refl)
  choices_made (p ∷ ps) k = then_ (Or.notes M) choices_notes p.1.0 (choices_from (map {A = Case × T'} {B = Case × E} (λ c. (c.0, c.1.0)) ps)) p.1.1 (choices_joined (map {A = Case × T'} {B = Case × L} (λ c. (c.0, c.1.1)) ps)) p.1.2 (choices_made ps) k

  at_form : (x : Form-F M (Form M) (Expr M)) → Or.notes_form M (roll-Form M x) ≡ Or.form_notes M (map-Form M (Form M) (Expr M) (List M) (List M) (Or.notes_form M) (Or.notes M) x)
  at_form x = fold-roll-Form M (List M) (List M) (Or.form_notes M) (Or.expr_notes M) x

  step_form : (y : Form-F N T T') → R (s (lefts s s' t t' R R' y)) (t (rights s s' t t' R R' y))
  step_form (Form-F.Leaf l) k = (at_form (Form-F.Leaf l), refl)
  step_form (Form-F.Case c) k = (at_form (Form-F.Case c), refl)
  step_form (Form-F.Var x) k = (at_form (Form-F.Var x), refl)
  step_form (Form-F.Last x) k = (at_form (Form-F.Last x), refl)
  step_form (Form-F.Asked x) k = (at_form (Form-F.Asked x), refl)
  step_form (Form-F.Op o args) k = (at_form (Form-F.Op o (all_from (first args) k).0) ∙ (all_made args k).0, (all_made args k).1)
  step_form (Form-F.Tuple args) k = (at_form (Form-F.Tuple (all_from (first args) k).0) ∙ (all_made args k).0, (all_made args k).1)
  step_form (Form-F.Pre e) k = (at_form (Form-F.Pre (e.0 k).0) ∙ (e.2 k).0, (e.2 k).1)
  step_form (Form-F.Fby a b) k = let both = then_ (Or.notes M) (Or.notes M) a.0 b.0 a.1 b.1 a.2 b.2 k in (at_form (Form-F.Fby (a.0 k).0 (b.0 (a.0 k).1).0) ∙ both.0, both.1)
  step_form (Form-F.Init a b) k = let both = then_ (Or.notes M) (Or.notes M) a.0 b.0 a.1 b.1 a.2 b.2 k in (at_form (Form-F.Init (a.0 k).0 (b.0 (a.0 k).1).0) ∙ both.0, both.1)
  step_form (Form-F.When e x c) k = (at_form (Form-F.When (e.0 k).0 x c) ∙ (e.2 k).0, (e.2 k).1)
  step_form (Form-F.Merge x all) k = (at_form (Form-F.Merge x (choices_from (map {A = Case × T'} {B = Case × E} (λ c. (c.0, c.1.0)) all) k).0) ∙ (choices_made all k).0, (choices_made all k).1)
  step_form (Form-F.Call run x args None) k = (
    at_form (Form-F.Call run x (all_from (first args) k).0 None) ∙ end_nil _ ∙ (all_made args k).0 ∙ ap (λ z. made z k) (sym (end_nil (joined (second args)))),
    (all_made args k).1 ∙ ap (λ z. moved z k) (sym (end_nil (joined (second args)))),
  )
  step_form (Form-F.Call run x args (Some e)) k =
      let both = then_ (λ xs. joined (map (Or.notes M) xs)) (Or.notes M) (all_from (first args)) e.0 (joined (second args)) e.1 (all_made args) e.2 k in
      (at_form (Form-F.Call run x (all_from (first args) k).0 (Some (e.0 (all_from (first args) k).1).0)) ∙ both.0, both.1)

  step_expr : (n : N) (p : T) → R' (s' (record { note = n; form = p.0 })) (t' (record { note = n; form = p.1 }))
  step_expr n p k = (
    fold-roll-Expr M (List M) (List M) (Or.form_notes M) (Or.expr_notes M) (record { note = step k n; form = (p.0 (next k n)).0 }) ∙ ap (λ z. step k n ∷ z) (p.2 (next k n)).0,
    (p.2 (next k n)).1,
  )

  pub expr_made : (e : Expr N) → Makes (Or.notes M) (Nu.number step next e) (Or.notes N e)
  expr_made = related s s' t t' R R' step_form step_expr

  -- equations and blocks

  abbrev A1 : Type 0
  A1 = From S (Equation M)

  abbrev A2 : Type 0
  A2 = From S (Arm M)

  abbrev A3 : Type 0
  A3 = From S (Guard M)

  abbrev A4 : Type 0
  A4 = From S (Handler M)

  abbrev A5 : Type 0
  A5 = From S (State M)

  abbrev A6 : Type 0
  A6 = From S (Test M)

  abbrev of1 : Equation M → List M
  of1 = Or.notes_equation M

  abbrev of2 : Arm M → List M
  of2 = fold-Arm M (List M) (List M) (List M) (List M) (List M) (List M) (Or.equation_notes M) (Or.arm_notes M) (Or.guard_notes M) (Or.handler_notes M) (Or.state_notes M) (Or.test_notes M)

  abbrev of3 : Guard M → List M
  of3 = fold-Guard M (List M) (List M) (List M) (List M) (List M) (List M) (Or.equation_notes M) (Or.arm_notes M) (Or.guard_notes M) (Or.handler_notes M) (Or.state_notes M) (Or.test_notes M)

  abbrev of4 : Handler M → List M
  of4 = fold-Handler M (List M) (List M) (List M) (List M) (List M) (List M) (Or.equation_notes M) (Or.arm_notes M) (Or.guard_notes M) (Or.handler_notes M) (Or.state_notes M) (Or.test_notes M)

  abbrev of5 : State M → List M
  of5 = fold-State M (List M) (List M) (List M) (List M) (List M) (List M) (Or.equation_notes M) (Or.arm_notes M) (Or.guard_notes M) (Or.handler_notes M) (Or.state_notes M) (Or.test_notes M)

  abbrev of6 : Test M → List M
  of6 = fold-Test M (List M) (List M) (List M) (List M) (List M) (List M) (Or.equation_notes M) (Or.arm_notes M) (Or.guard_notes M) (Or.handler_notes M) (Or.state_notes M) (Or.test_notes M)

  abbrev R1 : A1 → L → Type 0
  R1 g ns = Makes of1 g ns

  abbrev R2 : A2 → L → Type 0
  R2 g ns = Makes of2 g ns

  abbrev R3 : A3 → L → Type 0
  R3 g ns = Makes of3 g ns

  abbrev R4 : A4 → L → Type 0
  R4 g ns = Makes of4 g ns

  abbrev R5 : A5 → L → Type 0
  R5 g ns = Makes of5 g ns

  abbrev R6 : A6 → L → Type 0
  R6 g ns = Makes of6 g ns

  -- lists of parts
  list_made : {X : Type 0} (of : X → List M) (ps : List ((a : From S X) × (b : L) × Makes of a b))
      → Makes (λ xs. joined (map of xs)) (all_from (map {A = (a : From S X) × (b : L) × Makes of a b} {B = From S X} (λ p. p.0) ps)) (joined (map {A = (a : From S X) × (b : L) × Makes of a b} {B = L} (λ p. p.1) ps))
  list_made of [] k = (refl, refl)
  list_made {X} of (p ∷ ps) k = then_ of (λ xs. joined (map of xs)) p.0 (all_from (map {A = (a : From S X) × (b : L) × Makes of a b} {B = From S X} (λ p. p.0) ps))
      p.1 (joined (map {A = (a : From S X) × (b : L) × Makes of a b} {B = L} (λ p. p.1) ps)) p.2 (list_made of ps) k

  abbrev T1 : Type 0
  T1 = (a : A1) × (b : L) × R1 a b

  abbrev T2 : Type 0
  T2 = (a : A2) × (b : L) × R2 a b

  abbrev T3 : Type 0
  T3 = (a : A3) × (b : L) × R3 a b

  abbrev T4 : Type 0
  T4 = (a : A4) × (b : L) × R4 a b

  abbrev T5 : Type 0
  T5 = (a : A5) × (b : L) × R5 a b

  abbrev T6 : Type 0
  T6 = (a : A6) × (b : L) × R6 a b

  abbrev lefts1 : List T1 → List A1
  lefts1 = map {A = T1} {B = A1} (λ p. p.0)

  abbrev rights1 : List T1 → List L
  rights1 = map {A = T1} {B = L} (λ p. p.1)

  abbrev lefts3 : List T3 → List A3
  lefts3 = map {A = T3} {B = A3} (λ p. p.0)

  abbrev rights3 : List T3 → List L
  rights3 = map {A = T3} {B = L} (λ p. p.1)

  at_equation : (x : Equation-F M (Equation M) (Arm M) (Guard M) (Handler M) (State M) (Test M)) → of1 (roll-Equation M x) ≡ Or.equation_notes M (map-Equation M (Equation M) (Arm M) (Guard M) (Handler M) (State M) (Test M) (List M) (List M) (List M) (List M) (List M) (List M) of1 of2 of3 of4 of5 of6 x)
  at_equation x = fold-roll-Equation M (List M) (List M) (List M) (List M) (List M) (List M) (Or.equation_notes M) (Or.arm_notes M) (Or.guard_notes M) (Or.handler_notes M) (Or.state_notes M) (Or.test_notes M) x

  abbrev s1 : Equation-F N A1 A2 A3 A4 A5 A6 → A1
  s1 = Nu.equation_step step next

  abbrev s2 : Arm-F N A1 A2 A3 A4 A5 A6 → A2
  s2 = Nu.arm_step step next

  abbrev s3 : Guard-F N A1 A2 A3 A4 A5 A6 → A3
  s3 = Nu.guard_step step next

  abbrev s4 : Handler-F N A1 A2 A3 A4 A5 A6 → A4
  s4 = Nu.handler_step step next

  abbrev s5 : State-F N A1 A2 A3 A4 A5 A6 → A5
  s5 = Nu.state_step step next

  abbrev s6 : Test-F N A1 A2 A3 A4 A5 A6 → A6
  s6 = Nu.test_step step next

  step1 : (y : Equation-F N T1 T2 T3 T4 T5 T6) → R1 (s1 (lefts_Equation s1 s2 s3 s4 s5 s6 (Or.equation_notes N) (Or.arm_notes N) (Or.guard_notes N) (Or.handler_notes N) (Or.state_notes N) (Or.test_notes N) R1 R2 R3 R4 R5 R6 y)) (Or.equation_notes N (rights_Equation s1 s2 s3 s4 s5 s6 (Or.equation_notes N) (Or.arm_notes N) (Or.guard_notes N) (Or.handler_notes N) (Or.state_notes N) (Or.test_notes N) R1 R2 R3 R4 R5 R6 y))
  step1 (Equation-F.Plain p e) k = (at_equation (Equation-F.Plain p (Nu.number step next e k).0) ∙ (expr_made e k).0, (expr_made e k).1)
  step1 (Equation-F.Clock x e) k = (at_equation (Equation-F.Clock x (Nu.number step next e k).0) ∙ (expr_made e k).0, (expr_made e k).1)
  step1 (Equation-F.Initial x e) k = (at_equation (Equation-F.Initial x (Nu.number step next e k).0) ∙ (expr_made e k).0, (expr_made e k).1)
  step1 (Equation-F.Emit x e) k = (at_equation (Equation-F.Emit x (Nu.number step next e k).0) ∙ (expr_made e k).0, (expr_made e k).1)
  step1 (Equation-F.Reset eqs e) k =
      let both = then_ (Or.notes M) (λ xs. joined (map of1 xs)) (Nu.number step next e) (all_from (lefts1 eqs)) (Or.notes N e) (joined (rights1 eqs)) (expr_made e) (list_made of1 eqs) k in
      (at_equation (Equation-F.Reset (all_from (lefts1 eqs) (Nu.number step next e k).1).0 (Nu.number step next e k).0) ∙ both.0, both.1)
  step1 (Equation-F.Match e all) k =
      let both = then_ (Or.notes M) (λ xs. joined (map of2 xs)) (Nu.number step next e) (all_from (map {A = T2} {B = A2} (λ p. p.0) all)) (Or.notes N e) (joined (map {A = T2} {B = L} (λ p. p.1) all)) (expr_made e) (list_made of2 all) k in
      (at_equation (Equation-F.Match (Nu.number step next e k).0 (all_from (map {A = T2} {B = A2} (λ p. p.0) all) (Nu.number step next e k).1).0) ∙ both.0, both.1)
  step1 (Equation-F.Present all None) k = (
    at_equation (Equation-F.Present (all_from (map {A = T6} {B = A6} (λ p. p.0) all) k).0 None) ∙ end_nil _ ∙ (list_made of6 all k).0 ∙ ap (λ z. made z k) (sym (end_nil (joined (map {A = T6} {B = L} (λ p. p.1) all)))),
    (list_made of6 all k).1 ∙ ap (λ z. moved z k) (sym (end_nil (joined (map {A = T6} {B = L} (λ p. p.1) all)))),
  )
  step1 (Equation-F.Present all (Some h)) k =
      let both = then_ (λ xs. joined (map of6 xs)) of4 (all_from (map {A = T6} {B = A6} (λ p. p.0) all)) h.0 (joined (map {A = T6} {B = L} (λ p. p.1) all)) h.1 (list_made of6 all) h.2 k in
      (at_equation (Equation-F.Present (all_from (map {A = T6} {B = A6} (λ p. p.0) all) k).0 (Some (h.0 (all_from (map {A = T6} {B = A6} (λ p. p.0) all) k).1).0)) ∙ both.0, both.1)
  step1 (Equation-F.Automaton all) k = (at_equation (Equation-F.Automaton (all_from (map {A = T5} {B = A5} (λ p. p.0) all) k).0) ∙ (list_made of5 all k).0, (list_made of5 all k).1)

  step2 : (y : Arm-F N T1 T2 T3 T4 T5 T6) → R2 (s2 (lefts_Arm s1 s2 s3 s4 s5 s6 (Or.equation_notes N) (Or.arm_notes N) (Or.guard_notes N) (Or.handler_notes N) (Or.state_notes N) (Or.test_notes N) R1 R2 R3 R4 R5 R6 y)) (Or.arm_notes N (rights_Arm s1 s2 s3 s4 s5 s6 (Or.equation_notes N) (Or.arm_notes N) (Or.guard_notes N) (Or.handler_notes N) (Or.state_notes N) (Or.test_notes N) R1 R2 R3 R4 R5 R6 y))
  step2 y k = (
    fold-roll-Arm M (List M) (List M) (List M) (List M) (List M) (List M) (Or.equation_notes M) (Or.arm_notes M) (Or.guard_notes M) (Or.handler_notes M) (Or.state_notes M) (Or.test_notes M) (record { case = y.case; handler = (y.handler.0 k).0 }) ∙ (y.handler.2 k).0,
    (y.handler.2 k).1,
  )

  step3 : (y : Guard-F N T1 T2 T3 T4 T5 T6) → R3 (s3 (lefts_Guard s1 s2 s3 s4 s5 s6 (Or.equation_notes N) (Or.arm_notes N) (Or.guard_notes N) (Or.handler_notes N) (Or.state_notes N) (Or.test_notes N) R1 R2 R3 R4 R5 R6 y)) (Or.guard_notes N (rights_Guard s1 s2 s3 s4 s5 s6 (Or.equation_notes N) (Or.arm_notes N) (Or.guard_notes N) (Or.handler_notes N) (Or.state_notes N) (Or.test_notes N) R1 R2 R3 R4 R5 R6 y))
  step3 y k =
      let both = then_ (λ xs. joined (map of1 xs)) (Or.notes M) (all_from (lefts1 y.eqs)) (Nu.number step next y.cond) (joined (rights1 y.eqs)) (Or.notes N y.cond) (list_made of1 y.eqs) (expr_made y.cond) k in (
        fold-roll-Guard M (List M) (List M) (List M) (List M) (List M) (List M) (Or.equation_notes M) (Or.arm_notes M) (Or.guard_notes M) (Or.handler_notes M) (Or.state_notes M) (Or.test_notes M)
            (record { eqs = (all_from (lefts1 y.eqs) k).0; cond = (Nu.number step next y.cond (all_from (lefts1 y.eqs) k).1).0; restart = y.restart; target = y.target }) ∙ both.0,
        both.1,
      )

  step4 : (y : Handler-F N T1 T2 T3 T4 T5 T6) → R4 (s4 (lefts_Handler s1 s2 s3 s4 s5 s6 (Or.equation_notes N) (Or.arm_notes N) (Or.guard_notes N) (Or.handler_notes N) (Or.state_notes N) (Or.test_notes N) R1 R2 R3 R4 R5 R6 y)) (Or.handler_notes N (rights_Handler s1 s2 s3 s4 s5 s6 (Or.equation_notes N) (Or.arm_notes N) (Or.guard_notes N) (Or.handler_notes N) (Or.state_notes N) (Or.test_notes N) R1 R2 R3 R4 R5 R6 y))
  step4 y k =
      let both = then_ (λ xs. joined (map of1 xs)) (λ xs. joined (map of1 xs)) (all_from (lefts1 y.locals)) (all_from (lefts1 y.eqs)) (joined (rights1 y.locals)) (joined (rights1 y.eqs)) (list_made of1 y.locals) (list_made of1 y.eqs) k in (
        fold-roll-Handler M (List M) (List M) (List M) (List M) (List M) (List M) (Or.equation_notes M) (Or.arm_notes M) (Or.guard_notes M) (Or.handler_notes M) (Or.state_notes M) (Or.test_notes M)
            (record { locals = (all_from (lefts1 y.locals) k).0; eqs = (all_from (lefts1 y.eqs) (all_from (lefts1 y.locals) k).1).0 }) ∙ both.0,
        both.1,
      )

  step5 : (y : State-F N T1 T2 T3 T4 T5 T6) → R5 (s5 (lefts_State s1 s2 s3 s4 s5 s6 (Or.equation_notes N) (Or.arm_notes N) (Or.guard_notes N) (Or.handler_notes N) (Or.state_notes N) (Or.test_notes N) R1 R2 R3 R4 R5 R6 y)) (Or.state_notes N (rights_State s1 s2 s3 s4 s5 s6 (Or.equation_notes N) (Or.arm_notes N) (Or.guard_notes N) (Or.handler_notes N) (Or.state_notes N) (Or.test_notes N) R1 R2 R3 R4 R5 R6 y))
  step5 y k =
      let h : Handler M = (y.handler.0 k).0 in
      let k1 : S = (y.handler.0 k).1 in
      let strong : List (Guard M) = (all_from (lefts3 y.strong) k1).0 in
      let k2 : S = (all_from (lefts3 y.strong) k1).1 in
      let weak : List (Guard M) = (all_from (lefts3 y.weak) k2).0 in
      let xs : L = joined (rights3 y.strong) in
      let ys : L = joined (rights3 y.weak) in
      let later = then_ (λ gs. joined (map of3 gs)) (λ gs. joined (map of3 gs)) (all_from (lefts3 y.strong)) (all_from (lefts3 y.weak)) xs ys (list_made of3 y.strong) (list_made of3 y.weak) k1 in (
        fold-roll-State M (List M) (List M) (List M) (List M) (List M) (List M) (Or.equation_notes M) (Or.arm_notes M) (Or.guard_notes M) (Or.handler_notes M) (Or.state_notes M) (Or.test_notes M)
            (record { name = y.name; handler = h; strong = strong; weak = weak })
            ∙ ap₂ (λ a b. a ++ b) (y.handler.2 k).0 later.0 ∙ ap (λ z. made y.handler.1 k ++ made (xs ++ ys) z) (y.handler.2 k).1 ∙ sym (made_on y.handler.1 (xs ++ ys) k),
        later.1 ∙ ap (moved (xs ++ ys)) (y.handler.2 k).1 ∙ sym (moved_on y.handler.1 (xs ++ ys) k),
      )

  step6 : (y : Test-F N T1 T2 T3 T4 T5 T6) → R6 (s6 (lefts_Test s1 s2 s3 s4 s5 s6 (Or.equation_notes N) (Or.arm_notes N) (Or.guard_notes N) (Or.handler_notes N) (Or.state_notes N) (Or.test_notes N) R1 R2 R3 R4 R5 R6 y)) (Or.test_notes N (rights_Test s1 s2 s3 s4 s5 s6 (Or.equation_notes N) (Or.arm_notes N) (Or.guard_notes N) (Or.handler_notes N) (Or.state_notes N) (Or.test_notes N) R1 R2 R3 R4 R5 R6 y))
  step6 y k = (
    fold-roll-Test M (List M) (List M) (List M) (List M) (List M) (List M) (Or.equation_notes M) (Or.arm_notes M) (Or.guard_notes M) (Or.handler_notes M) (Or.state_notes M) (Or.test_notes M) (record { signal = y.signal; pat = y.pat; handler = (y.handler.0 k).0 }) ∙ (y.handler.2 k).0,
    (y.handler.2 k).1,
  )

  equation_made : (q : Equation N) → Makes of1 (Nu.number_equation step next q) (Or.notes_equation N q)
  equation_made = related_equations s1 s2 s3 s4 s5 s6 (Or.equation_notes N) (Or.arm_notes N) (Or.guard_notes N) (Or.handler_notes N) (Or.state_notes N) (Or.test_notes N) R1 R2 R3 R4 R5 R6 step1 step2 step3 step4 step5 step6

  equations_made : (qs : List (Equation N)) → Makes (λ xs. joined (map of1 xs)) (all_from (map (Nu.number_equation step next) qs)) (joined (map (Or.notes_equation N) qs))
  equations_made [] k = (refl, refl)
  equations_made (q ∷ qs) k = then_ of1 (λ xs. joined (map of1 xs)) (Nu.number_equation step next q) (all_from (map (Nu.number_equation step next) qs)) (Or.notes_equation N q) (joined (map (Or.notes_equation N) qs)) (equation_made q) (equations_made qs) k

  -- the notes of a numbered body are those that are made for the old ones
  pub body_made : (b : BodyOf N) (k : S) → Or.notes_body M (Nu.number_body step next b k).0 ≡ made (Or.notes_body N b) k
  body_made b k = (then_ (λ xs. joined (map of1 xs)) (Or.notes M) (all_from (map (Nu.number_equation step next) b.eqs)) (Nu.number step next b.result) (joined (map (Or.notes_equation N) b.eqs)) (Or.notes N b.result)
      (equations_made b.eqs) (expr_made b.result) k).0
