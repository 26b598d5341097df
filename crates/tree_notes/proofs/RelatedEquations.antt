-- Two folds over one body are related where their steps keep the relation.
use Rattle.std.specs.Prelude.{◌≡◌}
use Rattle.std.proofs.Common.{ap, sym, ◌∙◌, subst}
use Rattle.ls_ast.specs.declared.tree.Equation.{Equation, fold-Equation, fold-roll-Equation, map-Equation, roll-Equation, ind-Equation}
use Rattle.ls_ast.specs.declared.tree.Arm.{Arm, fold-Arm, fold-roll-Arm, map-Arm, roll-Arm}
use Rattle.ls_ast.specs.declared.tree.Guard.{Guard, fold-Guard, fold-roll-Guard, map-Guard, roll-Guard}
use Rattle.ls_ast.specs.declared.tree.Handler.{Handler, fold-Handler, fold-roll-Handler, map-Handler, roll-Handler}
use Rattle.ls_ast.specs.declared.tree.State.{State, fold-State, fold-roll-State, map-State, roll-State}
use Rattle.ls_ast.specs.declared.tree.Test.{Test, fold-Test, fold-roll-Test, map-Test, roll-Test}
use Rattle.ls_ast.specs.declared.tree.Equation.TheOpen.{Equation-F, Arm-F, Guard-F, Handler-F, State-F, Test-F}
use Rattle.tree_notes.proofs.RefoldEquations.{twice_Equation, twice_Arm, twice_Guard, twice_Handler, twice_State, twice_Test}

module _ {N A1 A2 A3 A4 A5 A6 B1 B2 B3 B4 B5 B6 : Type 0}
    (s1 : Equation-F N A1 A2 A3 A4 A5 A6 → A1) (s2 : Arm-F N A1 A2 A3 A4 A5 A6 → A2) (s3 : Guard-F N A1 A2 A3 A4 A5 A6 → A3) (s4 : Handler-F N A1 A2 A3 A4 A5 A6 → A4) (s5 : State-F N A1 A2 A3 A4 A5 A6 → A5) (s6 : Test-F N A1 A2 A3 A4 A5 A6 → A6)
    (t1 : Equation-F N B1 B2 B3 B4 B5 B6 → B1) (t2 : Arm-F N B1 B2 B3 B4 B5 B6 → B2) (t3 : Guard-F N B1 B2 B3 B4 B5 B6 → B3) (t4 : Handler-F N B1 B2 B3 B4 B5 B6 → B4) (t5 : State-F N B1 B2 B3 B4 B5 B6 → B5) (t6 : Test-F N B1 B2 B3 B4 B5 B6 → B6)
    (R1 : A1 → B1 → Type 0) (R2 : A2 → B2 → Type 0) (R3 : A3 → B3 → Type 0) (R4 : A4 → B4 → Type 0) (R5 : A5 → B5 → Type 0) (R6 : A6 → B6 → Type 0) where
  abbrev pub Two1 : Type 0
  Two1 = (a : A1) × (b : B1) × R1 a b

  abbrev pub Two2 : Type 0
  Two2 = (a : A2) × (b : B2) × R2 a b

  abbrev pub Two3 : Type 0
  Two3 = (a : A3) × (b : B3) × R3 a b

  abbrev pub Two4 : Type 0
  Two4 = (a : A4) × (b : B4) × R4 a b

  abbrev pub Two5 : Type 0
  Two5 = (a : A5) × (b : B5) × R5 a b

  abbrev pub Two6 : Type 0
  Two6 = (a : A6) × (b : B6) × R6 a b

  abbrev pub lefts_Equation : Equation-F N Two1 Two2 Two3 Two4 Two5 Two6 → Equation-F N A1 A2 A3 A4 A5 A6
  lefts_Equation = map-Equation N Two1 Two2 Two3 Two4 Two5 Two6 A1 A2 A3 A4 A5 A6 (λ p. p.0) (λ p. p.0) (λ p. p.0) (λ p. p.0) (λ p. p.0) (λ p. p.0)

  abbrev pub rights_Equation : Equation-F N Two1 Two2 Two3 Two4 Two5 Two6 → Equation-F N B1 B2 B3 B4 B5 B6
  rights_Equation = map-Equation N Two1 Two2 Two3 Two4 Two5 Two6 B1 B2 B3 B4 B5 B6 (λ p. p.1) (λ p. p.1) (λ p. p.1) (λ p. p.1) (λ p. p.1) (λ p. p.1)

  abbrev pub lefts_Arm : Arm-F N Two1 Two2 Two3 Two4 Two5 Two6 → Arm-F N A1 A2 A3 A4 A5 A6
  lefts_Arm = map-Arm N Two1 Two2 Two3 Two4 Two5 Two6 A1 A2 A3 A4 A5 A6 (λ p. p.0) (λ p. p.0) (λ p. p.0) (λ p. p.0) (λ p. p.0) (λ p. p.0)

  abbrev pub rights_Arm : Arm-F N Two1 Two2 Two3 Two4 Two5 Two6 → Arm-F N B1 B2 B3 B4 B5 B6
  rights_Arm = map-Arm N Two1 Two2 Two3 Two4 Two5 Two6 B1 B2 B3 B4 B5 B6 (λ p. p.1) (λ p. p.1) (λ p. p.1) (λ p. p.1) (λ p. p.1) (λ p. p.1)

  abbrev pub lefts_Guard : Guard-F N Two1 Two2 Two3 Two4 Two5 Two6 → Guard-F N A1 A2 A3 A4 A5 A6
  lefts_Guard = map-Guard N Two1 Two2 Two3 Two4 Two5 Two6 A1 A2 A3 A4 A5 A6 (λ p. p.0) (λ p. p.0) (λ p. p.0) (λ p. p.0) (λ p. p.0) (λ p. p.0)

  abbrev pub rights_Guard : Guard-F N Two1 Two2 Two3 Two4 Two5 Two6 → Guard-F N B1 B2 B3 B4 B5 B6
  rights_Guard = map-Guard N Two1 Two2 Two3 Two4 Two5 Two6 B1 B2 B3 B4 B5 B6 (λ p. p.1) (λ p. p.1) (λ p. p.1) (λ p. p.1) (λ p. p.1) (λ p. p.1)

  abbrev pub lefts_Handler : Handler-F N Two1 Two2 Two3 Two4 Two5 Two6 → Handler-F N A1 A2 A3 A4 A5 A6
  lefts_Handler = map-Handler N Two1 Two2 Two3 Two4 Two5 Two6 A1 A2 A3 A4 A5 A6 (λ p. p.0) (λ p. p.0) (λ p. p.0) (λ p. p.0) (λ p. p.0) (λ p. p.0)

  abbrev pub rights_Handler : Handler-F N Two1 Two2 Two3 Two4 Two5 Two6 → Handler-F N B1 B2 B3 B4 B5 B6
  rights_Handler = map-Handler N Two1 Two2 Two3 Two4 Two5 Two6 B1 B2 B3 B4 B5 B6 (λ p. p.1) (λ p. p.1) (λ p. p.1) (λ p. p.1) (λ p. p.1) (λ p. p.1)

  abbrev pub lefts_State : State-F N Two1 Two2 Two3 Two4 Two5 Two6 → State-F N A1 A2 A3 A4 A5 A6
  lefts_State = map-State N Two1 Two2 Two3 Two4 Two5 Two6 A1 A2 A3 A4 A5 A6 (λ p. p.0) (λ p. p.0) (λ p. p.0) (λ p. p.0) (λ p. p.0) (λ p. p.0)

  abbrev pub rights_State : State-F N Two1 Two2 Two3 Two4 Two5 Two6 → State-F N B1 B2 B3 B4 B5 B6
  rights_State = map-State N Two1 Two2 Two3 Two4 Two5 Two6 B1 B2 B3 B4 B5 B6 (λ p. p.1) (λ p. p.1) (λ p. p.1) (λ p. p.1) (λ p. p.1) (λ p. p.1)

  abbrev pub lefts_Test : Test-F N Two1 Two2 Two3 Two4 Two5 Two6 → Test-F N A1 A2 A3 A4 A5 A6
  lefts_Test = map-Test N Two1 Two2 Two3 Two4 Two5 Two6 A1 A2 A3 A4 A5 A6 (λ p. p.0) (λ p. p.0) (λ p. p.0) (λ p. p.0) (λ p. p.0) (λ p. p.0)

  abbrev pub rights_Test : Test-F N Two1 Two2 Two3 Two4 Two5 Two6 → Test-F N B1 B2 B3 B4 B5 B6
  rights_Test = map-Test N Two1 Two2 Two3 Two4 Two5 Two6 B1 B2 B3 B4 B5 B6 (λ p. p.1) (λ p. p.1) (λ p. p.1) (λ p. p.1) (λ p. p.1) (λ p. p.1)

  module _ (step1 : (y : Equation-F N Two1 Two2 Two3 Two4 Two5 Two6) → R1 (s1 (lefts_Equation y)) (t1 (rights_Equation y)))
      (step2 : (y : Arm-F N Two1 Two2 Two3 Two4 Two5 Two6) → R2 (s2 (lefts_Arm y)) (t2 (rights_Arm y)))
      (step3 : (y : Guard-F N Two1 Two2 Two3 Two4 Two5 Two6) → R3 (s3 (lefts_Guard y)) (t3 (rights_Guard y)))
      (step4 : (y : Handler-F N Two1 Two2 Two3 Two4 Two5 Two6) → R4 (s4 (lefts_Handler y)) (t4 (rights_Handler y)))
      (step5 : (y : State-F N Two1 Two2 Two3 Two4 Two5 Two6) → R5 (s5 (lefts_State y)) (t5 (rights_State y)))
      (step6 : (y : Test-F N Two1 Two2 Two3 Two4 Two5 Two6) → R6 (s6 (lefts_Test y)) (t6 (rights_Test y))) where
    abbrev left_Equation : Equation N → A1
    left_Equation = fold-Equation N A1 A2 A3 A4 A5 A6 s1 s2 s3 s4 s5 s6

    abbrev right_Equation : Equation N → B1
    right_Equation = fold-Equation N B1 B2 B3 B4 B5 B6 t1 t2 t3 t4 t5 t6

    abbrev P1 : Equation N → Type 0
    P1 x = R1 (left_Equation x) (right_Equation x)

    abbrev With1 : Type 0
    With1 = (x : Equation N) × P1 x

    abbrev two1 : With1 → Two1
    two1 p = (left_Equation p.0, right_Equation p.0, p.1)

    abbrev left_Arm : Arm N → A2
    left_Arm = fold-Arm N A1 A2 A3 A4 A5 A6 s1 s2 s3 s4 s5 s6

    abbrev right_Arm : Arm N → B2
    right_Arm = fold-Arm N B1 B2 B3 B4 B5 B6 t1 t2 t3 t4 t5 t6

    abbrev P2 : Arm N → Type 0
    P2 x = R2 (left_Arm x) (right_Arm x)

    abbrev With2 : Type 0
    With2 = (x : Arm N) × P2 x

    abbrev two2 : With2 → Two2
    two2 p = (left_Arm p.0, right_Arm p.0, p.1)

    abbrev left_Guard : Guard N → A3
    left_Guard = fold-Guard N A1 A2 A3 A4 A5 A6 s1 s2 s3 s4 s5 s6

    abbrev right_Guard : Guard N → B3
    right_Guard = fold-Guard N B1 B2 B3 B4 B5 B6 t1 t2 t3 t4 t5 t6

    abbrev P3 : Guard N → Type 0
    P3 x = R3 (left_Guard x) (right_Guard x)

    abbrev With3 : Type 0
    With3 = (x : Guard N) × P3 x

    abbrev two3 : With3 → Two3
    two3 p = (left_Guard p.0, right_Guard p.0, p.1)

    abbrev left_Handler : Handler N → A4
    left_Handler = fold-Handler N A1 A2 A3 A4 A5 A6 s1 s2 s3 s4 s5 s6

    abbrev right_Handler : Handler N → B4
    right_Handler = fold-Handler N B1 B2 B3 B4 B5 B6 t1 t2 t3 t4 t5 t6

    abbrev P4 : Handler N → Type 0
    P4 x = R4 (left_Handler x) (right_Handler x)

    abbrev With4 : Type 0
    With4 = (x : Handler N) × P4 x

    abbrev two4 : With4 → Two4
    two4 p = (left_Handler p.0, right_Handler p.0, p.1)

    abbrev left_State : State N → A5
    left_State = fold-State N A1 A2 A3 A4 A5 A6 s1 s2 s3 s4 s5 s6

    abbrev right_State : State N → B5
    right_State = fold-State N B1 B2 B3 B4 B5 B6 t1 t2 t3 t4 t5 t6

    abbrev P5 : State N → Type 0
    P5 x = R5 (left_State x) (right_State x)

    abbrev With5 : Type 0
    With5 = (x : State N) × P5 x

    abbrev two5 : With5 → Two5
    two5 p = (left_State p.0, right_State p.0, p.1)

    abbrev left_Test : Test N → A6
    left_Test = fold-Test N A1 A2 A3 A4 A5 A6 s1 s2 s3 s4 s5 s6

    abbrev right_Test : Test N → B6
    right_Test = fold-Test N B1 B2 B3 B4 B5 B6 t1 t2 t3 t4 t5 t6

    abbrev P6 : Test N → Type 0
    P6 x = R6 (left_Test x) (right_Test x)

    abbrev With6 : Type 0
    With6 = (x : Test N) × P6 x

    abbrev two6 : With6 → Two6
    two6 p = (left_Test p.0, right_Test p.0, p.1)

    abbrev tops_Equation : Equation-F N With1 With2 With3 With4 With5 With6 → Equation-F N (Equation N) (Arm N) (Guard N) (Handler N) (State N) (Test N)
    tops_Equation = map-Equation N With1 With2 With3 With4 With5 With6 (Equation N) (Arm N) (Guard N) (Handler N) (State N) (Test N) (λ p. p.0) (λ p. p.0) (λ p. p.0) (λ p. p.0) (λ p. p.0) (λ p. p.0)

    leftly_Equation : (y : Equation-F N With1 With2 With3 With4 With5 With6) → left_Equation (roll-Equation N (tops_Equation y)) ≡ s1 (lefts_Equation (map-Equation N With1 With2 With3 With4 With5 With6 Two1 Two2 Two3 Two4 Two5 Two6 two1 two2 two3 two4 two5 two6 y))
    leftly_Equation y = fold-roll-Equation N A1 A2 A3 A4 A5 A6 s1 s2 s3 s4 s5 s6 (tops_Equation y) ∙ ap s1 (twice_Equation N With1 (Equation N) A1 (λ p. p.0) left_Equation With2 (Arm N) A2 (λ p. p.0) left_Arm With3 (Guard N) A3 (λ p. p.0) left_Guard With4 (Handler N) A4 (λ p. p.0) left_Handler With5 (State N) A5 (λ p. p.0) left_State With6 (Test N) A6 (λ p. p.0) left_Test y ∙ sym (twice_Equation N With1 Two1 A1 two1 (λ p. p.0) With2 Two2 A2 two2 (λ p. p.0) With3 Two3 A3 two3 (λ p. p.0) With4 Two4 A4 two4 (λ p. p.0) With5 Two5 A5 two5 (λ p. p.0) With6 Two6 A6 two6 (λ p. p.0) y))

    rightly_Equation : (y : Equation-F N With1 With2 With3 With4 With5 With6) → right_Equation (roll-Equation N (tops_Equation y)) ≡ t1 (rights_Equation (map-Equation N With1 With2 With3 With4 With5 With6 Two1 Two2 Two3 Two4 Two5 Two6 two1 two2 two3 two4 two5 two6 y))
    rightly_Equation y = fold-roll-Equation N B1 B2 B3 B4 B5 B6 t1 t2 t3 t4 t5 t6 (tops_Equation y) ∙ ap t1 (twice_Equation N With1 (Equation N) B1 (λ p. p.0) right_Equation With2 (Arm N) B2 (λ p. p.0) right_Arm With3 (Guard N) B3 (λ p. p.0) right_Guard With4 (Handler N) B4 (λ p. p.0) right_Handler With5 (State N) B5 (λ p. p.0) right_State With6 (Test N) B6 (λ p. p.0) right_Test y ∙ sym (twice_Equation N With1 Two1 B1 two1 (λ p. p.1) With2 Two2 B2 two2 (λ p. p.1) With3 Two3 B3 two3 (λ p. p.1) With4 Two4 B4 two4 (λ p. p.1) With5 Two5 B5 two5 (λ p. p.1) With6 Two6 B6 two6 (λ p. p.1) y))

    at_Equation : (y : Equation-F N With1 With2 With3 With4 With5 With6) → P1 (roll-Equation N (tops_Equation y))
    at_Equation y = subst (λ a. R1 a (right_Equation (roll-Equation N (tops_Equation y)))) (sym (leftly_Equation y))
        (subst (λ b. R1 (s1 (lefts_Equation (map-Equation N With1 With2 With3 With4 With5 With6 Two1 Two2 Two3 Two4 Two5 Two6 two1 two2 two3 two4 two5 two6 y))) b) (sym (rightly_Equation y)) (step1 (map-Equation N With1 With2 With3 With4 With5 With6 Two1 Two2 Two3 Two4 Two5 Two6 two1 two2 two3 two4 two5 two6 y)))

    abbrev tops_Arm : Arm-F N With1 With2 With3 With4 With5 With6 → Arm-F N (Equation N) (Arm N) (Guard N) (Handler N) (State N) (Test N)
    tops_Arm = map-Arm N With1 With2 With3 With4 With5 With6 (Equation N) (Arm N) (Guard N) (Handler N) (State N) (Test N) (λ p. p.0) (λ p. p.0) (λ p. p.0) (λ p. p.0) (λ p. p.0) (λ p. p.0)

    leftly_Arm : (y : Arm-F N With1 With2 With3 With4 With5 With6) → left_Arm (roll-Arm N (tops_Arm y)) ≡ s2 (lefts_Arm (map-Arm N With1 With2 With3 With4 With5 With6 Two1 Two2 Two3 Two4 Two5 Two6 two1 two2 two3 two4 two5 two6 y))
    leftly_Arm y = fold-roll-Arm N A1 A2 A3 A4 A5 A6 s1 s2 s3 s4 s5 s6 (tops_Arm y) ∙ ap s2 (twice_Arm N With1 (Equation N) A1 (λ p. p.0) left_Equation With2 (Arm N) A2 (λ p. p.0) left_Arm With3 (Guard N) A3 (λ p. p.0) left_Guard With4 (Handler N) A4 (λ p. p.0) left_Handler With5 (State N) A5 (λ p. p.0) left_State With6 (Test N) A6 (λ p. p.0) left_Test y ∙ sym (twice_Arm N With1 Two1 A1 two1 (λ p. p.0) With2 Two2 A2 two2 (λ p. p.0) With3 Two3 A3 two3 (λ p. p.0) With4 Two4 A4 two4 (λ p. p.0) With5 Two5 A5 two5 (λ p. p.0) With6 Two6 A6 two6 (λ p. p.0) y))

    rightly_Arm : (y : Arm-F N With1 With2 With3 With4 With5 With6) → right_Arm (roll-Arm N (tops_Arm y)) ≡ t2 (rights_Arm (map-Arm N With1 With2 With3 With4 With5 With6 Two1 Two2 Two3 Two4 Two5 Two6 two1 two2 two3 two4 two5 two6 y))
    rightly_Arm y = fold-roll-Arm N B1 B2 B3 B4 B5 B6 t1 t2 t3 t4 t5 t6 (tops_Arm y) ∙ ap t2 (twice_Arm N With1 (Equation N) B1 (λ p. p.0) right_Equation With2 (Arm N) B2 (λ p. p.0) right_Arm With3 (Guard N) B3 (λ p. p.0) right_Guard With4 (Handler N) B4 (λ p. p.0) right_Handler With5 (State N) B5 (λ p. p.0) right_State With6 (Test N) B6 (λ p. p.0) right_Test y ∙ sym (twice_Arm N With1 Two1 B1 two1 (λ p. p.1) With2 Two2 B2 two2 (λ p. p.1) With3 Two3 B3 two3 (λ p. p.1) With4 Two4 B4 two4 (λ p. p.1) With5 Two5 B5 two5 (λ p. p.1) With6 Two6 B6 two6 (λ p. p.1) y))

    at_Arm : (y : Arm-F N With1 With2 With3 With4 With5 With6) → P2 (roll-Arm N (tops_Arm y))
    at_Arm y = subst (λ a. R2 a (right_Arm (roll-Arm N (tops_Arm y)))) (sym (leftly_Arm y))
        (subst (λ b. R2 (s2 (lefts_Arm (map-Arm N With1 With2 With3 With4 With5 With6 Two1 Two2 Two3 Two4 Two5 Two6 two1 two2 two3 two4 two5 two6 y))) b) (sym (rightly_Arm y)) (step2 (map-Arm N With1 With2 With3 With4 With5 With6 Two1 Two2 Two3 Two4 Two5 Two6 two1 two2 two3 two4 two5 two6 y)))

    abbrev tops_Guard : Guard-F N With1 With2 With3 With4 With5 With6 → Guard-F N (Equation N) (Arm N) (Guard N) (Handler N) (State N) (Test N)
    tops_Guard = map-Guard N With1 With2 With3 With4 With5 With6 (Equation N) (Arm N) (Guard N) (Handler N) (State N) (Test N) (λ p. p.0) (λ p. p.0) (λ p. p.0) (λ p. p.0) (λ p. p.0) (λ p. p.0)

    leftly_Guard : (y : Guard-F N With1 With2 With3 With4 With5 With6) → left_Guard (roll-Guard N (tops_Guard y)) ≡ s3 (lefts_Guard (map-Guard N With1 With2 With3 With4 With5 With6 Two1 Two2 Two3 Two4 Two5 Two6 two1 two2 two3 two4 two5 two6 y))
    leftly_Guard y = fold-roll-Guard N A1 A2 A3 A4 A5 A6 s1 s2 s3 s4 s5 s6 (tops_Guard y) ∙ ap s3 (twice_Guard N With1 (Equation N) A1 (λ p. p.0) left_Equation With2 (Arm N) A2 (λ p. p.0) left_Arm With3 (Guard N) A3 (λ p. p.0) left_Guard With4 (Handler N) A4 (λ p. p.0) left_Handler With5 (State N) A5 (λ p. p.0) left_State With6 (Test N) A6 (λ p. p.0) left_Test y ∙ sym (twice_Guard N With1 Two1 A1 two1 (λ p. p.0) With2 Two2 A2 two2 (λ p. p.0) With3 Two3 A3 two3 (λ p. p.0) With4 Two4 A4 two4 (λ p. p.0) With5 Two5 A5 two5 (λ p. p.0) With6 Two6 A6 two6 (λ p. p.0) y))

    rightly_Guard : (y : Guard-F N With1 With2 With3 With4 With5 With6) → right_Guard (roll-Guard N (tops_Guard y)) ≡ t3 (rights_Guard (map-Guard N With1 With2 With3 With4 With5 With6 Two1 Two2 Two3 Two4 Two5 Two6 two1 two2 two3 two4 two5 two6 y))
    rightly_Guard y = fold-roll-Guard N B1 B2 B3 B4 B5 B6 t1 t2 t3 t4 t5 t6 (tops_Guard y) ∙ ap t3 (twice_Guard N With1 (Equation N) B1 (λ p. p.0) right_Equation With2 (Arm N) B2 (λ p. p.0) right_Arm With3 (Guard N) B3 (λ p. p.0) right_Guard With4 (Handler N) B4 (λ p. p.0) right_Handler With5 (State N) B5 (λ p. p.0) right_State With6 (Test N) B6 (λ p. p.0) right_Test y ∙ sym (twice_Guard N With1 Two1 B1 two1 (λ p. p.1) With2 Two2 B2 two2 (λ p. p.1) With3 Two3 B3 two3 (λ p. p.1) With4 Two4 B4 two4 (λ p. p.1) With5 Two5 B5 two5 (λ p. p.1) With6 Two6 B6 two6 (λ p. p.1) y))

    at_Guard : (y : Guard-F N With1 With2 With3 With4 With5 With6) → P3 (roll-Guard N (tops_Guard y))
    at_Guard y = subst (λ a. R3 a (right_Guard (roll-Guard N (tops_Guard y)))) (sym (leftly_Guard y))
        (subst (λ b. R3 (s3 (lefts_Guard (map-Guard N With1 With2 With3 With4 With5 With6 Two1 Two2 Two3 Two4 Two5 Two6 two1 two2 two3 two4 two5 two6 y))) b) (sym (rightly_Guard y)) (step3 (map-Guard N With1 With2 With3 With4 With5 With6 Two1 Two2 Two3 Two4 Two5 Two6 two1 two2 two3 two4 two5 two6 y)))

    abbrev tops_Handler : Handler-F N With1 With2 With3 With4 With5 With6 → Handler-F N (Equation N) (Arm N) (Guard N) (Handler N) (State N) (Test N)
    tops_Handler = map-Handler N With1 With2 With3 With4 With5 With6 (Equation N) (Arm N) (Guard N) (Handler N) (State N) (Test N) (λ p. p.0) (λ p. p.0) (λ p. p.0) (λ p. p.0) (λ p. p.0) (λ p. p.0)

    leftly_Handler : (y : Handler-F N With1 With2 With3 With4 With5 With6) → left_Handler (roll-Handler N (tops_Handler y)) ≡ s4 (lefts_Handler (map-Handler N With1 With2 With3 With4 With5 With6 Two1 Two2 Two3 Two4 Two5 Two6 two1 two2 two3 two4 two5 two6 y))
    leftly_Handler y = fold-roll-Handler N A1 A2 A3 A4 A5 A6 s1 s2 s3 s4 s5 s6 (tops_Handler y) ∙ ap s4 (twice_Handler N With1 (Equation N) A1 (λ p. p.0) left_Equation With2 (Arm N) A2 (λ p. p.0) left_Arm With3 (Guard N) A3 (λ p. p.0) left_Guard With4 (Handler N) A4 (λ p. p.0) left_Handler With5 (State N) A5 (λ p. p.0) left_State With6 (Test N) A6 (λ p. p.0) left_Test y ∙ sym (twice_Handler N With1 Two1 A1 two1 (λ p. p.0) With2 Two2 A2 two2 (λ p. p.0) With3 Two3 A3 two3 (λ p. p.0) With4 Two4 A4 two4 (λ p. p.0) With5 Two5 A5 two5 (λ p. p.0) With6 Two6 A6 two6 (λ p. p.0) y))

    rightly_Handler : (y : Handler-F N With1 With2 With3 With4 With5 With6) → right_Handler (roll-Handler N (tops_Handler y)) ≡ t4 (rights_Handler (map-Handler N With1 With2 With3 With4 With5 With6 Two1 Two2 Two3 Two4 Two5 Two6 two1 two2 two3 two4 two5 two6 y))
    rightly_Handler y = fold-roll-Handler N B1 B2 B3 B4 B5 B6 t1 t2 t3 t4 t5 t6 (tops_Handler y) ∙ ap t4 (twice_Handler N With1 (Equation N) B1 (λ p. p.0) right_Equation With2 (Arm N) B2 (λ p. p.0) right_Arm With3 (Guard N) B3 (λ p. p.0) right_Guard With4 (Handler N) B4 (λ p. p.0) right_Handler With5 (State N) B5 (λ p. p.0) right_State With6 (Test N) B6 (λ p. p.0) right_Test y ∙ sym (twice_Handler N With1 Two1 B1 two1 (λ p. p.1) With2 Two2 B2 two2 (λ p. p.1) With3 Two3 B3 two3 (λ p. p.1) With4 Two4 B4 two4 (λ p. p.1) With5 Two5 B5 two5 (λ p. p.1) With6 Two6 B6 two6 (λ p. p.1) y))

    at_Handler : (y : Handler-F N With1 With2 With3 With4 With5 With6) → P4 (roll-Handler N (tops_Handler y))
    at_Handler y = subst (λ a. R4 a (right_Handler (roll-Handler N (tops_Handler y)))) (sym (leftly_Handler y))
        (subst (λ b. R4 (s4 (lefts_Handler (map-Handler N With1 With2 With3 With4 With5 With6 Two1 Two2 Two3 Two4 Two5 Two6 two1 two2 two3 two4 two5 two6 y))) b) (sym (rightly_Handler y)) (step4 (map-Handler N With1 With2 With3 With4 With5 With6 Two1 Two2 Two3 Two4 Two5 Two6 two1 two2 two3 two4 two5 two6 y)))

    abbrev tops_State : State-F N With1 With2 With3 With4 With5 With6 → State-F N (Equation N) (Arm N) (Guard N) (Handler N) (State N) (Test N)
    tops_State = map-State N With1 With2 With3 With4 With5 With6 (Equation N) (Arm N) (Guard N) (Handler N) (State N) (Test N) (λ p. p.0) (λ p. p.0) (λ p. p.0) (λ p. p.0) (λ p. p.0) (λ p. p.0)

    leftly_State : (y : State-F N With1 With2 With3 With4 With5 With6) → left_State (roll-State N (tops_State y)) ≡ s5 (lefts_State (map-State N With1 With2 With3 With4 With5 With6 Two1 Two2 Two3 Two4 Two5 Two6 two1 two2 two3 two4 two5 two6 y))
    leftly_State y = fold-roll-State N A1 A2 A3 A4 A5 A6 s1 s2 s3 s4 s5 s6 (tops_State y) ∙ ap s5 (twice_State N With1 (Equation N) A1 (λ p. p.0) left_Equation With2 (Arm N) A2 (λ p. p.0) left_Arm With3 (Guard N) A3 (λ p. p.0) left_Guard With4 (Handler N) A4 (λ p. p.0) left_Handler With5 (State N) A5 (λ p. p.0) left_State With6 (Test N) A6 (λ p. p.0) left_Test y ∙ sym (twice_State N With1 Two1 A1 two1 (λ p. p.0) With2 Two2 A2 two2 (λ p. p.0) With3 Two3 A3 two3 (λ p. p.0) With4 Two4 A4 two4 (λ p. p.0) With5 Two5 A5 two5 (λ p. p.0) With6 Two6 A6 two6 (λ p. p.0) y))

    rightly_State : (y : State-F N With1 With2 With3 With4 With5 With6) → right_State (roll-State N (tops_State y)) ≡ t5 (rights_State (map-State N With1 With2 With3 With4 With5 With6 Two1 Two2 Two3 Two4 Two5 Two6 two1 two2 two3 two4 two5 two6 y))
    rightly_State y = fold-roll-State N B1 B2 B3 B4 B5 B6 t1 t2 t3 t4 t5 t6 (tops_State y) ∙ ap t5 (twice_State N With1 (Equation N) B1 (λ p. p.0) right_Equation With2 (Arm N) B2 (λ p. p.0) right_Arm With3 (Guard N) B3 (λ p. p.0) right_Guard With4 (Handler N) B4 (λ p. p.0) right_Handler With5 (State N) B5 (λ p. p.0) right_State With6 (Test N) B6 (λ p. p.0) right_Test y ∙ sym (twice_State N With1 Two1 B1 two1 (λ p. p.1) With2 Two2 B2 two2 (λ p. p.1) With3 Two3 B3 two3 (λ p. p.1) With4 Two4 B4 two4 (λ p. p.1) With5 Two5 B5 two5 (λ p. p.1) With6 Two6 B6 two6 (λ p. p.1) y))

    at_State : (y : State-F N With1 With2 With3 With4 With5 With6) → P5 (roll-State N (tops_State y))
    at_State y = subst (λ a. R5 a (right_State (roll-State N (tops_State y)))) (sym (leftly_State y))
        (subst (λ b. R5 (s5 (lefts_State (map-State N With1 With2 With3 With4 With5 With6 Two1 Two2 Two3 Two4 Two5 Two6 two1 two2 two3 two4 two5 two6 y))) b) (sym (rightly_State y)) (step5 (map-State N With1 With2 With3 With4 With5 With6 Two1 Two2 Two3 Two4 Two5 Two6 two1 two2 two3 two4 two5 two6 y)))

    abbrev tops_Test : Test-F N With1 With2 With3 With4 With5 With6 → Test-F N (Equation N) (Arm N) (Guard N) (Handler N) (State N) (Test N)
    tops_Test = map-Test N With1 With2 With3 With4 With5 With6 (Equation N) (Arm N) (Guard N) (Handler N) (State N) (Test N) (λ p. p.0) (λ p. p.0) (λ p. p.0) (λ p. p.0) (λ p. p.0) (λ p. p.0)

    leftly_Test : (y : Test-F N With1 With2 With3 With4 With5 With6) → left_Test (roll-Test N (tops_Test y)) ≡ s6 (lefts_Test (map-Test N With1 With2 With3 With4 With5 With6 Two1 Two2 Two3 Two4 Two5 Two6 two1 two2 two3 two4 two5 two6 y))
    leftly_Test y = fold-roll-Test N A1 A2 A3 A4 A5 A6 s1 s2 s3 s4 s5 s6 (tops_Test y) ∙ ap s6 (twice_Test N With1 (Equation N) A1 (λ p. p.0) left_Equation With2 (Arm N) A2 (λ p. p.0) left_Arm With3 (Guard N) A3 (λ p. p.0) left_Guard With4 (Handler N) A4 (λ p. p.0) left_Handler With5 (State N) A5 (λ p. p.0) left_State With6 (Test N) A6 (λ p. p.0) left_Test y ∙ sym (twice_Test N With1 Two1 A1 two1 (λ p. p.0) With2 Two2 A2 two2 (λ p. p.0) With3 Two3 A3 two3 (λ p. p.0) With4 Two4 A4 two4 (λ p. p.0) With5 Two5 A5 two5 (λ p. p.0) With6 Two6 A6 two6 (λ p. p.0) y))

    rightly_Test : (y : Test-F N With1 With2 With3 With4 With5 With6) → right_Test (roll-Test N (tops_Test y)) ≡ t6 (rights_Test (map-Test N With1 With2 With3 With4 With5 With6 Two1 Two2 Two3 Two4 Two5 Two6 two1 two2 two3 two4 two5 two6 y))
    rightly_Test y = fold-roll-Test N B1 B2 B3 B4 B5 B6 t1 t2 t3 t4 t5 t6 (tops_Test y) ∙ ap t6 (twice_Test N With1 (Equation N) B1 (λ p. p.0) right_Equation With2 (Arm N) B2 (λ p. p.0) right_Arm With3 (Guard N) B3 (λ p. p.0) right_Guard With4 (Handler N) B4 (λ p. p.0) right_Handler With5 (State N) B5 (λ p. p.0) right_State With6 (Test N) B6 (λ p. p.0) right_Test y ∙ sym (twice_Test N With1 Two1 B1 two1 (λ p. p.1) With2 Two2 B2 two2 (λ p. p.1) With3 Two3 B3 two3 (λ p. p.1) With4 Two4 B4 two4 (λ p. p.1) With5 Two5 B5 two5 (λ p. p.1) With6 Two6 B6 two6 (λ p. p.1) y))

    at_Test : (y : Test-F N With1 With2 With3 With4 With5 With6) → P6 (roll-Test N (tops_Test y))
    at_Test y = subst (λ a. R6 a (right_Test (roll-Test N (tops_Test y)))) (sym (leftly_Test y))
        (subst (λ b. R6 (s6 (lefts_Test (map-Test N With1 With2 With3 With4 With5 With6 Two1 Two2 Two3 Two4 Two5 Two6 two1 two2 two3 two4 two5 two6 y))) b) (sym (rightly_Test y)) (step6 (map-Test N With1 With2 With3 With4 With5 With6 Two1 Two2 Two3 Two4 Two5 Two6 two1 two2 two3 two4 two5 two6 y)))

    pub related_equations : (e : Equation N) → P1 e
    related_equations = ind-Equation N P1 P2 P3 P4 P5 P6
        (λ x y from. subst (λ z. P1 (roll-Equation N z)) from (at_Equation y))
        (λ x y from. subst (λ z. P2 (roll-Arm N z)) from (at_Arm y))
        (λ x y from. subst (λ z. P3 (roll-Guard N z)) from (at_Guard y))
        (λ x y from. subst (λ z. P4 (roll-Handler N z)) from (at_Handler y))
        (λ x y from. subst (λ z. P5 (roll-State N z)) from (at_State y))
        (λ x y from. subst (λ z. P6 (roll-Test N z)) from (at_Test y))
