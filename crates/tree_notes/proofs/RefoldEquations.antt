-- Bodies with other notes, and two folds over one body.
use Rattle.std.specs.Prelude.{◌≡◌, refl, Some, None}
use Rattle.std.proofs.Common.{ap, sym, ◌∙◌, subst}
use Rattle.ls_ast.specs.declared.tree.Equation.{Equation, fold-Equation, fold-roll-Equation, map-Equation, roll-Equation, ind-Equation}
use Rattle.ls_ast.specs.declared.tree.Arm.{Arm, fold-Arm, fold-roll-Arm, map-Arm, roll-Arm}
use Rattle.ls_ast.specs.declared.tree.Guard.{Guard, fold-Guard, fold-roll-Guard, map-Guard, roll-Guard}
use Rattle.ls_ast.specs.declared.tree.Handler.{Handler, fold-Handler, fold-roll-Handler, map-Handler, roll-Handler}
use Rattle.ls_ast.specs.declared.tree.State.{State, fold-State, fold-roll-State, map-State, roll-State}
use Rattle.ls_ast.specs.declared.tree.Test.{Test, fold-Test, fold-roll-Test, map-Test, roll-Test}
use Rattle.ls_ast.specs.declared.tree.Equation.TheOpen.{Equation-F, Arm-F, Guard-F, Handler-F, State-F, Test-F}
use Rattle.tree_notes.proofs.Refold.{noted, twice_list}

-- ---- layers under other notes

module _ {N M : Type 0} (g : N → M) where
  abbrev pub re_Equation : {X1 X2 X3 X4 X5 X6 : Type 0} → Equation-F N X1 X2 X3 X4 X5 X6 → Equation-F M X1 X2 X3 X4 X5 X6
  re_Equation (Equation-F.Plain p e) = Equation-F.Plain p (noted g e)
  re_Equation (Equation-F.Clock x e) = Equation-F.Clock x (noted g e)
  re_Equation (Equation-F.Initial x e) = Equation-F.Initial x (noted g e)
  re_Equation (Equation-F.Emit x e) = Equation-F.Emit x (noted g e)
  re_Equation (Equation-F.Reset eqs e) = Equation-F.Reset eqs (noted g e)
  re_Equation (Equation-F.Match e all) = Equation-F.Match (noted g e) all
  re_Equation (Equation-F.Present tests other) = Equation-F.Present tests other
  re_Equation (Equation-F.Automaton all) = Equation-F.Automaton all

  abbrev pub re_Arm : {X1 X2 X3 X4 X5 X6 : Type 0} → Arm-F N X1 X2 X3 X4 X5 X6 → Arm-F M X1 X2 X3 X4 X5 X6
  re_Arm x = record { case = x.case; handler = x.handler }

  abbrev pub re_Guard : {X1 X2 X3 X4 X5 X6 : Type 0} → Guard-F N X1 X2 X3 X4 X5 X6 → Guard-F M X1 X2 X3 X4 X5 X6
  re_Guard x = record { eqs = x.eqs; cond = noted g x.cond; restart = x.restart; target = x.target }

  abbrev pub re_Handler : {X1 X2 X3 X4 X5 X6 : Type 0} → Handler-F N X1 X2 X3 X4 X5 X6 → Handler-F M X1 X2 X3 X4 X5 X6
  re_Handler x = record { locals = x.locals; eqs = x.eqs }

  abbrev pub re_State : {X1 X2 X3 X4 X5 X6 : Type 0} → State-F N X1 X2 X3 X4 X5 X6 → State-F M X1 X2 X3 X4 X5 X6
  re_State x = record { name = x.name; handler = x.handler; strong = x.strong; weak = x.weak }

  abbrev pub re_Test : {X1 X2 X3 X4 X5 X6 : Type 0} → Test-F N X1 X2 X3 X4 X5 X6 → Test-F M X1 X2 X3 X4 X5 X6
  re_Test x = record { signal = x.signal; pat = x.pat; handler = x.handler }

  abbrev pub Equation_noted : Equation-F N (Equation M) (Arm M) (Guard M) (Handler M) (State M) (Test M) → Equation M
  Equation_noted x = roll-Equation M (re_Equation x)

  abbrev pub Arm_noted : Arm-F N (Equation M) (Arm M) (Guard M) (Handler M) (State M) (Test M) → Arm M
  Arm_noted x = roll-Arm M (re_Arm x)

  abbrev pub Guard_noted : Guard-F N (Equation M) (Arm M) (Guard M) (Handler M) (State M) (Test M) → Guard M
  Guard_noted x = roll-Guard M (re_Guard x)

  abbrev pub Handler_noted : Handler-F N (Equation M) (Arm M) (Guard M) (Handler M) (State M) (Test M) → Handler M
  Handler_noted x = roll-Handler M (re_Handler x)

  abbrev pub State_noted : State-F N (Equation M) (Arm M) (Guard M) (Handler M) (State M) (Test M) → State M
  State_noted x = roll-State M (re_State x)

  abbrev pub Test_noted : Test-F N (Equation M) (Arm M) (Guard M) (Handler M) (State M) (Test M) → Test M
  Test_noted x = roll-Test M (re_Test x)

  abbrev pub noted_Equation : Equation N → Equation M
  noted_Equation = fold-Equation N (Equation M) (Arm M) (Guard M) (Handler M) (State M) (Test M) Equation_noted Arm_noted Guard_noted Handler_noted State_noted Test_noted

  abbrev pub noted_Arm : Arm N → Arm M
  noted_Arm = fold-Arm N (Equation M) (Arm M) (Guard M) (Handler M) (State M) (Test M) Equation_noted Arm_noted Guard_noted Handler_noted State_noted Test_noted

  abbrev pub noted_Guard : Guard N → Guard M
  noted_Guard = fold-Guard N (Equation M) (Arm M) (Guard M) (Handler M) (State M) (Test M) Equation_noted Arm_noted Guard_noted Handler_noted State_noted Test_noted

  abbrev pub noted_Handler : Handler N → Handler M
  noted_Handler = fold-Handler N (Equation M) (Arm M) (Guard M) (Handler M) (State M) (Test M) Equation_noted Arm_noted Guard_noted Handler_noted State_noted Test_noted

  abbrev pub noted_State : State N → State M
  noted_State = fold-State N (Equation M) (Arm M) (Guard M) (Handler M) (State M) (Test M) Equation_noted Arm_noted Guard_noted Handler_noted State_noted Test_noted

  abbrev pub noted_Test : Test N → Test M
  noted_Test = fold-Test N (Equation M) (Arm M) (Guard M) (Handler M) (State M) (Test M) Equation_noted Arm_noted Guard_noted Handler_noted State_noted Test_noted

module _ (N : Type 0) (X1 Y1 Z1 : Type 0) (f1 : X1 → Y1) (g1 : Y1 → Z1) (X2 Y2 Z2 : Type 0) (f2 : X2 → Y2) (g2 : Y2 → Z2) (X3 Y3 Z3 : Type 0) (f3 : X3 → Y3) (g3 : Y3 → Z3) (X4 Y4 Z4 : Type 0) (f4 : X4 → Y4) (g4 : Y4 → Z4) (X5 Y5 Z5 : Type 0) (f5 : X5 → Y5) (g5 : Y5 → Z5) (X6 Y6 Z6 : Type 0) (f6 : X6 → Y6) (g6 : Y6 → Z6) where
  pub twice_Equation : (x : Equation-F N X1 X2 X3 X4 X5 X6) → map-Equation N Y1 Y2 Y3 Y4 Y5 Y6 Z1 Z2 Z3 Z4 Z5 Z6 g1 g2 g3 g4 g5 g6 (map-Equation N X1 X2 X3 X4 X5 X6 Y1 Y2 Y3 Y4 Y5 Y6 f1 f2 f3 f4 f5 f6 x) ≡ map-Equation N X1 X2 X3 X4 X5 X6 Z1 Z2 Z3 Z4 Z5 Z6 (λ x. g1 (f1 x)) (λ x. g2 (f2 x)) (λ x. g3 (f3 x)) (λ x. g4 (f4 x)) (λ x. g5 (f5 x)) (λ x. g6 (f6 x)) x
  twice_Equation (Equation-F.Reset eqs e) = ap (λ z. Equation-F.Reset z e) (twice_list f1 g1 eqs)
  twice_Equation (Equation-F.Match e all) = ap (Equation-F.Match e) (twice_list f2 g2 all)
  twice_Equation (Equation-F.Present tests None) = ap (λ z. Equation-F.Present z None) (twice_list f6 g6 tests)
  twice_Equation (Equation-F.Present tests (Some h)) = ap (λ z. Equation-F.Present z (Some (g4 (f4 h)))) (twice_list f6 g6 tests)
  twice_Equation (Equation-F.Automaton all) = ap Equation-F.Automaton (twice_list f5 g5 all)
  twice_Equation _ = refl

  pub twice_Arm : (x : Arm-F N X1 X2 X3 X4 X5 X6) → map-Arm N Y1 Y2 Y3 Y4 Y5 Y6 Z1 Z2 Z3 Z4 Z5 Z6 g1 g2 g3 g4 g5 g6 (map-Arm N X1 X2 X3 X4 X5 X6 Y1 Y2 Y3 Y4 Y5 Y6 f1 f2 f3 f4 f5 f6 x) ≡ map-Arm N X1 X2 X3 X4 X5 X6 Z1 Z2 Z3 Z4 Z5 Z6 (λ x. g1 (f1 x)) (λ x. g2 (f2 x)) (λ x. g3 (f3 x)) (λ x. g4 (f4 x)) (λ x. g5 (f5 x)) (λ x. g6 (f6 x)) x
  twice_Arm x = refl

  pub twice_Guard : (x : Guard-F N X1 X2 X3 X4 X5 X6) → map-Guard N Y1 Y2 Y3 Y4 Y5 Y6 Z1 Z2 Z3 Z4 Z5 Z6 g1 g2 g3 g4 g5 g6 (map-Guard N X1 X2 X3 X4 X5 X6 Y1 Y2 Y3 Y4 Y5 Y6 f1 f2 f3 f4 f5 f6 x) ≡ map-Guard N X1 X2 X3 X4 X5 X6 Z1 Z2 Z3 Z4 Z5 Z6 (λ x. g1 (f1 x)) (λ x. g2 (f2 x)) (λ x. g3 (f3 x)) (λ x. g4 (f4 x)) (λ x. g5 (f5 x)) (λ x. g6 (f6 x)) x
  twice_Guard x = λ i. record { eqs = twice_list f1 g1 x.eqs i; cond = x.cond; restart = x.restart; target = x.target }

  pub twice_Handler : (x : Handler-F N X1 X2 X3 X4 X5 X6) → map-Handler N Y1 Y2 Y3 Y4 Y5 Y6 Z1 Z2 Z3 Z4 Z5 Z6 g1 g2 g3 g4 g5 g6 (map-Handler N X1 X2 X3 X4 X5 X6 Y1 Y2 Y3 Y4 Y5 Y6 f1 f2 f3 f4 f5 f6 x) ≡ map-Handler N X1 X2 X3 X4 X5 X6 Z1 Z2 Z3 Z4 Z5 Z6 (λ x. g1 (f1 x)) (λ x. g2 (f2 x)) (λ x. g3 (f3 x)) (λ x. g4 (f4 x)) (λ x. g5 (f5 x)) (λ x. g6 (f6 x)) x
  twice_Handler x = λ i. record { locals = twice_list f1 g1 x.locals i; eqs = twice_list f1 g1 x.eqs i }

  pub twice_State : (x : State-F N X1 X2 X3 X4 X5 X6) → map-State N Y1 Y2 Y3 Y4 Y5 Y6 Z1 Z2 Z3 Z4 Z5 Z6 g1 g2 g3 g4 g5 g6 (map-State N X1 X2 X3 X4 X5 X6 Y1 Y2 Y3 Y4 Y5 Y6 f1 f2 f3 f4 f5 f6 x) ≡ map-State N X1 X2 X3 X4 X5 X6 Z1 Z2 Z3 Z4 Z5 Z6 (λ x. g1 (f1 x)) (λ x. g2 (f2 x)) (λ x. g3 (f3 x)) (λ x. g4 (f4 x)) (λ x. g5 (f5 x)) (λ x. g6 (f6 x)) x
  twice_State x = λ i. record { name = x.name; handler = g4 (f4 x.handler); strong = twice_list f3 g3 x.strong i; weak = twice_list f3 g3 x.weak i }

  pub twice_Test : (x : Test-F N X1 X2 X3 X4 X5 X6) → map-Test N Y1 Y2 Y3 Y4 Y5 Y6 Z1 Z2 Z3 Z4 Z5 Z6 g1 g2 g3 g4 g5 g6 (map-Test N X1 X2 X3 X4 X5 X6 Y1 Y2 Y3 Y4 Y5 Y6 f1 f2 f3 f4 f5 f6 x) ≡ map-Test N X1 X2 X3 X4 X5 X6 Z1 Z2 Z3 Z4 Z5 Z6 (λ x. g1 (f1 x)) (λ x. g2 (f2 x)) (λ x. g3 (f3 x)) (λ x. g4 (f4 x)) (λ x. g5 (f5 x)) (λ x. g6 (f6 x)) x
  twice_Test x = refl

-- ---- two folds, over a body with other notes and over the body itself, are related where their steps are

module _ {N M A1 A2 A3 A4 A5 A6 B1 B2 B3 B4 B5 B6 : Type 0} (g : N → M)
    (s1 : Equation-F M A1 A2 A3 A4 A5 A6 → A1) (s2 : Arm-F M A1 A2 A3 A4 A5 A6 → A2) (s3 : Guard-F M A1 A2 A3 A4 A5 A6 → A3) (s4 : Handler-F M A1 A2 A3 A4 A5 A6 → A4) (s5 : State-F M A1 A2 A3 A4 A5 A6 → A5) (s6 : Test-F M A1 A2 A3 A4 A5 A6 → A6)
    (t1 : Equation-F N B1 B2 B3 B4 B5 B6 → B1) (t2 : Arm-F N B1 B2 B3 B4 B5 B6 → B2) (t3 : Guard-F N B1 B2 B3 B4 B5 B6 → B3) (t4 : Handler-F N B1 B2 B3 B4 B5 B6 → B4) (t5 : State-F N B1 B2 B3 B4 B5 B6 → B5) (t6 : Test-F N B1 B2 B3 B4 B5 B6 → B6)
    (R1 : A1 → B1 → Type 0) (R2 : A2 → B2 → Type 0) (R3 : A3 → B3 → Type 0) (R4 : A4 → B4 → Type 0) (R5 : A5 → B5 → Type 0) (R6 : A6 → B6 → Type 0) where
  abbrev pub Two1 : Type 0
  Two1 = (a : A1) × (b : B1) × R1 a b

  abbrev pub Two2 : Type 0
  Two2 = (a : A2) × (b : B2) × R2 a b

  abbrev pub Two3 : Type 0
  Two3 = (a : A3) × (b : B3) × R3 a b

  abbrev pub Two4 : Type 0
  Two4 = (a : A4) × (b : B4) × R4 a b

  abbrev pub Two5 : Type 0
  Two5 = (a : A5) × (b : B5) × R5 a b

  abbrev pub Two6 : Type 0
  Two6 = (a : A6) × (b : B6) × R6 a b

  abbrev pub lefts_Equation : Equation-F N Two1 Two2 Two3 Two4 Two5 Two6 → Equation-F M A1 A2 A3 A4 A5 A6
  lefts_Equation y = re_Equation g (map-Equation N Two1 Two2 Two3 Two4 Two5 Two6 A1 A2 A3 A4 A5 A6 (λ p. p.0) (λ p. p.0) (λ p. p.0) (λ p. p.0) (λ p. p.0) (λ p. p.0) y)

  abbrev pub rights_Equation : Equation-F N Two1 Two2 Two3 Two4 Two5 Two6 → Equation-F N B1 B2 B3 B4 B5 B6
  rights_Equation = map-Equation N Two1 Two2 Two3 Two4 Two5 Two6 B1 B2 B3 B4 B5 B6 (λ p. p.1) (λ p. p.1) (λ p. p.1) (λ p. p.1) (λ p. p.1) (λ p. p.1)

  abbrev pub lefts_Arm : Arm-F N Two1 Two2 Two3 Two4 Two5 Two6 → Arm-F M A1 A2 A3 A4 A5 A6
  lefts_Arm y = re_Arm g (map-Arm N Two1 Two2 Two3 Two4 Two5 Two6 A1 A2 A3 A4 A5 A6 (λ p. p.0) (λ p. p.0) (λ p. p.0) (λ p. p.0) (λ p. p.0) (λ p. p.0) y)

  abbrev pub rights_Arm : Arm-F N Two1 Two2 Two3 Two4 Two5 Two6 → Arm-F N B1 B2 B3 B4 B5 B6
  rights_Arm = map-Arm N Two1 Two2 Two3 Two4 Two5 Two6 B1 B2 B3 B4 B5 B6 (λ p. p.1) (λ p. p.1) (λ p. p.1) (λ p. p.1) (λ p. p.1) (λ p. p.1)

  abbrev pub lefts_Guard : Guard-F N Two1 Two2 Two3 Two4 Two5 Two6 → Guard-F M A1 A2 A3 A4 A5 A6
  lefts_Guard y = re_Guard g (map-Guard N Two1 Two2 Two3 Two4 Two5 Two6 A1 A2 A3 A4 A5 A6 (λ p. p.0) (λ p. p.0) (λ p. p.0) (λ p. p.0) (λ p. p.0) (λ p. p.0) y)

  abbrev pub rights_Guard : Guard-F N Two1 Two2 Two3 Two4 Two5 Two6 → Guard-F N B1 B2 B3 B4 B5 B6
  rights_Guard = map-Guard N Two1 Two2 Two3 Two4 Two5 Two6 B1 B2 B3 B4 B5 B6 (λ p. p.1) (λ p. p.1) (λ p. p.1) (λ p. p.1) (λ p. p.1) (λ p. p.1)

  abbrev pub lefts_Handler : Handler-F N Two1 Two2 Two3 Two4 Two5 Two6 → Handler-F M A1 A2 A3 A4 A5 A6
  lefts_Handler y = re_Handler g (map-Handler N Two1 Two2 Two3 Two4 Two5 Two6 A1 A2 A3 A4 A5 A6 (λ p. p.0) (λ p. p.0) (λ p. p.0) (λ p. p.0) (λ p. p.0) (λ p. p.0) y)

  abbrev pub rights_Handler : Handler-F N Two1 Two2 Two3 Two4 Two5 Two6 → Handler-F N B1 B2 B3 B4 B5 B6
  rights_Handler = map-Handler N Two1 Two2 Two3 Two4 Two5 Two6 B1 B2 B3 B4 B5 B6 (λ p. p.1) (λ p. p.1) (λ p. p.1) (λ p. p.1) (λ p. p.1) (λ p. p.1)

  abbrev pub lefts_State : State-F N Two1 Two2 Two3 Two4 Two5 Two6 → State-F M A1 A2 A3 A4 A5 A6
  lefts_State y = re_State g (map-State N Two1 Two2 Two3 Two4 Two5 Two6 A1 A2 A3 A4 A5 A6 (λ p. p.0) (λ p. p.0) (λ p. p.0) (λ p. p.0) (λ p. p.0) (λ p. p.0) y)

  abbrev pub rights_State : State-F N Two1 Two2 Two3 Two4 Two5 Two6 → State-F N B1 B2 B3 B4 B5 B6
  rights_State = map-State N Two1 Two2 Two3 Two4 Two5 Two6 B1 B2 B3 B4 B5 B6 (λ p. p.1) (λ p. p.1) (λ p. p.1) (λ p. p.1) (λ p. p.1) (λ p. p.1)

  abbrev pub lefts_Test : Test-F N Two1 Two2 Two3 Two4 Two5 Two6 → Test-F M A1 A2 A3 A4 A5 A6
  lefts_Test y = re_Test g (map-Test N Two1 Two2 Two3 Two4 Two5 Two6 A1 A2 A3 A4 A5 A6 (λ p. p.0) (λ p. p.0) (λ p. p.0) (λ p. p.0) (λ p. p.0) (λ p. p.0) y)

  abbrev pub rights_Test : Test-F N Two1 Two2 Two3 Two4 Two5 Two6 → Test-F N B1 B2 B3 B4 B5 B6
  rights_Test = map-Test N Two1 Two2 Two3 Two4 Two5 Two6 B1 B2 B3 B4 B5 B6 (λ p. p.1) (λ p. p.1) (λ p. p.1) (λ p. p.1) (λ p. p.1) (λ p. p.1)

  module _ (step1 : (y : Equation-F N Two1 Two2 Two3 Two4 Two5 Two6) → R1 (s1 (lefts_Equation y)) (t1 (rights_Equation y)))
      (step2 : (y : Arm-F N Two1 Two2 Two3 Two4 Two5 Two6) → R2 (s2 (lefts_Arm y)) (t2 (rights_Arm y)))
      (step3 : (y : Guard-F N Two1 Two2 Two3 Two4 Two5 Two6) → R3 (s3 (lefts_Guard y)) (t3 (rights_Guard y)))
      (step4 : (y : Handler-F N Two1 Two2 Two3 Two4 Two5 Two6) → R4 (s4 (lefts_Handler y)) (t4 (rights_Handler y)))
      (step5 : (y : State-F N Two1 Two2 Two3 Two4 Two5 Two6) → R5 (s5 (lefts_State y)) (t5 (rights_State y)))
      (step6 : (y : Test-F N Two1 Two2 Two3 Two4 Two5 Two6) → R6 (s6 (lefts_Test y)) (t6 (rights_Test y))) where
    abbrev up_Equation : Equation M → A1
    up_Equation = fold-Equation M A1 A2 A3 A4 A5 A6 s1 s2 s3 s4 s5 s6

    abbrev low_Equation : Equation N → A1
    low_Equation x = up_Equation (noted_Equation g x)

    abbrev right_Equation : Equation N → B1
    right_Equation = fold-Equation N B1 B2 B3 B4 B5 B6 t1 t2 t3 t4 t5 t6

    abbrev P1 : Equation N → Type 0
    P1 x = R1 (low_Equation x) (right_Equation x)

    abbrev With1 : Type 0
    With1 = (x : Equation N) × P1 x

    abbrev two1 : With1 → Two1
    two1 p = (low_Equation p.0, right_Equation p.0, p.1)

    abbrev up_Arm : Arm M → A2
    up_Arm = fold-Arm M A1 A2 A3 A4 A5 A6 s1 s2 s3 s4 s5 s6

    abbrev low_Arm : Arm N → A2
    low_Arm x = up_Arm (noted_Arm g x)

    abbrev right_Arm : Arm N → B2
    right_Arm = fold-Arm N B1 B2 B3 B4 B5 B6 t1 t2 t3 t4 t5 t6

    abbrev P2 : Arm N → Type 0
    P2 x = R2 (low_Arm x) (right_Arm x)

    abbrev With2 : Type 0
    With2 = (x : Arm N) × P2 x

    abbrev two2 : With2 → Two2
    two2 p = (low_Arm p.0, right_Arm p.0, p.1)

    abbrev up_Guard : Guard M → A3
    up_Guard = fold-Guard M A1 A2 A3 A4 A5 A6 s1 s2 s3 s4 s5 s6

    abbrev low_Guard : Guard N → A3
    low_Guard x = up_Guard (noted_Guard g x)

    abbrev right_Guard : Guard N → B3
    right_Guard = fold-Guard N B1 B2 B3 B4 B5 B6 t1 t2 t3 t4 t5 t6

    abbrev P3 : Guard N → Type 0
    P3 x = R3 (low_Guard x) (right_Guard x)

    abbrev With3 : Type 0
    With3 = (x : Guard N) × P3 x

    abbrev two3 : With3 → Two3
    two3 p = (low_Guard p.0, right_Guard p.0, p.1)

    abbrev up_Handler : Handler M → A4
    up_Handler = fold-Handler M A1 A2 A3 A4 A5 A6 s1 s2 s3 s4 s5 s6

    abbrev low_Handler : Handler N → A4
    low_Handler x = up_Handler (noted_Handler g x)

    abbrev right_Handler : Handler N → B4
    right_Handler = fold-Handler N B1 B2 B3 B4 B5 B6 t1 t2 t3 t4 t5 t6

    abbrev P4 : Handler N → Type 0
    P4 x = R4 (low_Handler x) (right_Handler x)

    abbrev With4 : Type 0
    With4 = (x : Handler N) × P4 x

    abbrev two4 : With4 → Two4
    two4 p = (low_Handler p.0, right_Handler p.0, p.1)

    abbrev up_State : State M → A5
    up_State = fold-State M A1 A2 A3 A4 A5 A6 s1 s2 s3 s4 s5 s6

    abbrev low_State : State N → A5
    low_State x = up_State (noted_State g x)

    abbrev right_State : State N → B5
    right_State = fold-State N B1 B2 B3 B4 B5 B6 t1 t2 t3 t4 t5 t6

    abbrev P5 : State N → Type 0
    P5 x = R5 (low_State x) (right_State x)

    abbrev With5 : Type 0
    With5 = (x : State N) × P5 x

    abbrev two5 : With5 → Two5
    two5 p = (low_State p.0, right_State p.0, p.1)

    abbrev up_Test : Test M → A6
    up_Test = fold-Test M A1 A2 A3 A4 A5 A6 s1 s2 s3 s4 s5 s6

    abbrev low_Test : Test N → A6
    low_Test x = up_Test (noted_Test g x)

    abbrev right_Test : Test N → B6
    right_Test = fold-Test N B1 B2 B3 B4 B5 B6 t1 t2 t3 t4 t5 t6

    abbrev P6 : Test N → Type 0
    P6 x = R6 (low_Test x) (right_Test x)

    abbrev With6 : Type 0
    With6 = (x : Test N) × P6 x

    abbrev two6 : With6 → Two6
    two6 p = (low_Test p.0, right_Test p.0, p.1)

    moved_Equation : (x : Equation-F N (Equation N) (Arm N) (Guard N) (Handler N) (State N) (Test N)) → map-Equation M (Equation M) (Arm M) (Guard M) (Handler M) (State M) (Test M) A1 A2 A3 A4 A5 A6 up_Equation up_Arm up_Guard up_Handler up_State up_Test (re_Equation g (map-Equation N (Equation N) (Arm N) (Guard N) (Handler N) (State N) (Test N) (Equation M) (Arm M) (Guard M) (Handler M) (State M) (Test M) (noted_Equation g) (noted_Arm g) (noted_Guard g) (noted_Handler g) (noted_State g) (noted_Test g) x)) ≡ re_Equation g (map-Equation N (Equation N) (Arm N) (Guard N) (Handler N) (State N) (Test N) A1 A2 A3 A4 A5 A6 low_Equation low_Arm low_Guard low_Handler low_State low_Test x)
    moved_Equation (Equation-F.Reset eqs e) = ap (λ z. Equation-F.Reset z (noted g e)) (twice_list (noted_Equation g) up_Equation eqs)
    moved_Equation (Equation-F.Match e all) = ap (Equation-F.Match (noted g e)) (twice_list (noted_Arm g) up_Arm all)
    moved_Equation (Equation-F.Present tests None) = ap (λ z. Equation-F.Present z None) (twice_list (noted_Test g) up_Test tests)
    moved_Equation (Equation-F.Present tests (Some h)) = ap (λ z. Equation-F.Present z (Some (low_Handler h))) (twice_list (noted_Test g) up_Test tests)
    moved_Equation (Equation-F.Automaton all) = ap Equation-F.Automaton (twice_list (noted_State g) up_State all)
    moved_Equation _ = refl

    abbrev tops_Equation : Equation-F N With1 With2 With3 With4 With5 With6 → Equation-F N (Equation N) (Arm N) (Guard N) (Handler N) (State N) (Test N)
    tops_Equation = map-Equation N With1 With2 With3 With4 With5 With6 (Equation N) (Arm N) (Guard N) (Handler N) (State N) (Test N) (λ p. p.0) (λ p. p.0) (λ p. p.0) (λ p. p.0) (λ p. p.0) (λ p. p.0)

    low_roll_Equation : (x : Equation-F N (Equation N) (Arm N) (Guard N) (Handler N) (State N) (Test N)) → low_Equation (roll-Equation N x) ≡ s1 (re_Equation g (map-Equation N (Equation N) (Arm N) (Guard N) (Handler N) (State N) (Test N) A1 A2 A3 A4 A5 A6 low_Equation low_Arm low_Guard low_Handler low_State low_Test x))
    low_roll_Equation x = ap up_Equation (fold-roll-Equation N (Equation M) (Arm M) (Guard M) (Handler M) (State M) (Test M) (Equation_noted g) (Arm_noted g) (Guard_noted g) (Handler_noted g) (State_noted g) (Test_noted g) x) ∙ fold-roll-Equation M A1 A2 A3 A4 A5 A6 s1 s2 s3 s4 s5 s6 (re_Equation g (map-Equation N (Equation N) (Arm N) (Guard N) (Handler N) (State N) (Test N) (Equation M) (Arm M) (Guard M) (Handler M) (State M) (Test M) (noted_Equation g) (noted_Arm g) (noted_Guard g) (noted_Handler g) (noted_State g) (noted_Test g) x)) ∙ ap s1 (moved_Equation x)

    left_Equation : (y : Equation-F N With1 With2 With3 With4 With5 With6) → low_Equation (roll-Equation N (tops_Equation y)) ≡ s1 (lefts_Equation (map-Equation N With1 With2 With3 With4 With5 With6 Two1 Two2 Two3 Two4 Two5 Two6 two1 two2 two3 two4 two5 two6 y))
    left_Equation y = low_roll_Equation (tops_Equation y) ∙ ap (λ z. s1 (re_Equation g z)) (twice_Equation N With1 (Equation N) A1 (λ p. p.0) low_Equation With2 (Arm N) A2 (λ p. p.0) low_Arm With3 (Guard N) A3 (λ p. p.0) low_Guard With4 (Handler N) A4 (λ p. p.0) low_Handler With5 (State N) A5 (λ p. p.0) low_State With6 (Test N) A6 (λ p. p.0) low_Test y ∙ sym (twice_Equation N With1 Two1 A1 two1 (λ p. p.0) With2 Two2 A2 two2 (λ p. p.0) With3 Two3 A3 two3 (λ p. p.0) With4 Two4 A4 two4 (λ p. p.0) With5 Two5 A5 two5 (λ p. p.0) With6 Two6 A6 two6 (λ p. p.0) y))

    rightly_Equation : (y : Equation-F N With1 With2 With3 With4 With5 With6) → right_Equation (roll-Equation N (tops_Equation y)) ≡ t1 (rights_Equation (map-Equation N With1 With2 With3 With4 With5 With6 Two1 Two2 Two3 Two4 Two5 Two6 two1 two2 two3 two4 two5 two6 y))
    rightly_Equation y = fold-roll-Equation N B1 B2 B3 B4 B5 B6 t1 t2 t3 t4 t5 t6 (tops_Equation y) ∙ ap t1 (twice_Equation N With1 (Equation N) B1 (λ p. p.0) right_Equation With2 (Arm N) B2 (λ p. p.0) right_Arm With3 (Guard N) B3 (λ p. p.0) right_Guard With4 (Handler N) B4 (λ p. p.0) right_Handler With5 (State N) B5 (λ p. p.0) right_State With6 (Test N) B6 (λ p. p.0) right_Test y ∙ sym (twice_Equation N With1 Two1 B1 two1 (λ p. p.1) With2 Two2 B2 two2 (λ p. p.1) With3 Two3 B3 two3 (λ p. p.1) With4 Two4 B4 two4 (λ p. p.1) With5 Two5 B5 two5 (λ p. p.1) With6 Two6 B6 two6 (λ p. p.1) y))

    at_Equation : (y : Equation-F N With1 With2 With3 With4 With5 With6) → P1 (roll-Equation N (tops_Equation y))
    at_Equation y = subst (λ a. R1 a (right_Equation (roll-Equation N (tops_Equation y)))) (sym (left_Equation y))
        (subst (λ b. R1 (s1 (lefts_Equation (map-Equation N With1 With2 With3 With4 With5 With6 Two1 Two2 Two3 Two4 Two5 Two6 two1 two2 two3 two4 two5 two6 y))) b) (sym (rightly_Equation y)) (step1 (map-Equation N With1 With2 With3 With4 With5 With6 Two1 Two2 Two3 Two4 Two5 Two6 two1 two2 two3 two4 two5 two6 y)))

    moved_Arm : (x : Arm-F N (Equation N) (Arm N) (Guard N) (Handler N) (State N) (Test N)) → map-Arm M (Equation M) (Arm M) (Guard M) (Handler M) (State M) (Test M) A1 A2 A3 A4 A5 A6 up_Equation up_Arm up_Guard up_Handler up_State up_Test (re_Arm g (map-Arm N (Equation N) (Arm N) (Guard N) (Handler N) (State N) (Test N) (Equation M) (Arm M) (Guard M) (Handler M) (State M) (Test M) (noted_Equation g) (noted_Arm g) (noted_Guard g) (noted_Handler g) (noted_State g) (noted_Test g) x)) ≡ re_Arm g (map-Arm N (Equation N) (Arm N) (Guard N) (Handler N) (State N) (Test N) A1 A2 A3 A4 A5 A6 low_Equation low_Arm low_Guard low_Handler low_State low_Test x)
    moved_Arm x = refl

    abbrev tops_Arm : Arm-F N With1 With2 With3 With4 With5 With6 → Arm-F N (Equation N) (Arm N) (Guard N) (Handler N) (State N) (Test N)
    tops_Arm = map-Arm N With1 With2 With3 With4 With5 With6 (Equation N) (Arm N) (Guard N) (Handler N) (State N) (Test N) (λ p. p.0) (λ p. p.0) (λ p. p.0) (λ p. p.0) (λ p. p.0) (λ p. p.0)

    low_roll_Arm : (x : Arm-F N (Equation N) (Arm N) (Guard N) (Handler N) (State N) (Test N)) → low_Arm (roll-Arm N x) ≡ s2 (re_Arm g (map-Arm N (Equation N) (Arm N) (Guard N) (Handler N) (State N) (Test N) A1 A2 A3 A4 A5 A6 low_Equation low_Arm low_Guard low_Handler low_State low_Test x))
    low_roll_Arm x = ap up_Arm (fold-roll-Arm N (Equation M) (Arm M) (Guard M) (Handler M) (State M) (Test M) (Equation_noted g) (Arm_noted g) (Guard_noted g) (Handler_noted g) (State_noted g) (Test_noted g) x) ∙ fold-roll-Arm M A1 A2 A3 A4 A5 A6 s1 s2 s3 s4 s5 s6 (re_Arm g (map-Arm N (Equation N) (Arm N) (Guard N) (Handler N) (State N) (Test N) (Equation M) (Arm M) (Guard M) (Handler M) (State M) (Test M) (noted_Equation g) (noted_Arm g) (noted_Guard g) (noted_Handler g) (noted_State g) (noted_Test g) x)) ∙ ap s2 (moved_Arm x)

    left_Arm : (y : Arm-F N With1 With2 With3 With4 With5 With6) → low_Arm (roll-Arm N (tops_Arm y)) ≡ s2 (lefts_Arm (map-Arm N With1 With2 With3 With4 With5 With6 Two1 Two2 Two3 Two4 Two5 Two6 two1 two2 two3 two4 two5 two6 y))
    left_Arm y = low_roll_Arm (tops_Arm y) ∙ ap (λ z. s2 (re_Arm g z)) (twice_Arm N With1 (Equation N) A1 (λ p. p.0) low_Equation With2 (Arm N) A2 (λ p. p.0) low_Arm With3 (Guard N) A3 (λ p. p.0) low_Guard With4 (Handler N) A4 (λ p. p.0) low_Handler With5 (State N) A5 (λ p. p.0) low_State With6 (Test N) A6 (λ p. p.0) low_Test y ∙ sym (twice_Arm N With1 Two1 A1 two1 (λ p. p.0) With2 Two2 A2 two2 (λ p. p.0) With3 Two3 A3 two3 (λ p. p.0) With4 Two4 A4 two4 (λ p. p.0) With5 Two5 A5 two5 (λ p. p.0) With6 Two6 A6 two6 (λ p. p.0) y))

    rightly_Arm : (y : Arm-F N With1 With2 With3 With4 With5 With6) → right_Arm (roll-Arm N (tops_Arm y)) ≡ t2 (rights_Arm (map-Arm N With1 With2 With3 With4 With5 With6 Two1 Two2 Two3 Two4 Two5 Two6 two1 two2 two3 two4 two5 two6 y))
    rightly_Arm y = fold-roll-Arm N B1 B2 B3 B4 B5 B6 t1 t2 t3 t4 t5 t6 (tops_Arm y) ∙ ap t2 (twice_Arm N With1 (Equation N) B1 (λ p. p.0) right_Equation With2 (Arm N) B2 (λ p. p.0) right_Arm With3 (Guard N) B3 (λ p. p.0) right_Guard With4 (Handler N) B4 (λ p. p.0) right_Handler With5 (State N) B5 (λ p. p.0) right_State With6 (Test N) B6 (λ p. p.0) right_Test y ∙ sym (twice_Arm N With1 Two1 B1 two1 (λ p. p.1) With2 Two2 B2 two2 (λ p. p.1) With3 Two3 B3 two3 (λ p. p.1) With4 Two4 B4 two4 (λ p. p.1) With5 Two5 B5 two5 (λ p. p.1) With6 Two6 B6 two6 (λ p. p.1) y))

    at_Arm : (y : Arm-F N With1 With2 With3 With4 With5 With6) → P2 (roll-Arm N (tops_Arm y))
    at_Arm y = subst (λ a. R2 a (right_Arm (roll-Arm N (tops_Arm y)))) (sym (left_Arm y))
        (subst (λ b. R2 (s2 (lefts_Arm (map-Arm N With1 With2 With3 With4 With5 With6 Two1 Two2 Two3 Two4 Two5 Two6 two1 two2 two3 two4 two5 two6 y))) b) (sym (rightly_Arm y)) (step2 (map-Arm N With1 With2 With3 With4 With5 With6 Two1 Two2 Two3 Two4 Two5 Two6 two1 two2 two3 two4 two5 two6 y)))

    moved_Guard : (x : Guard-F N (Equation N) (Arm N) (Guard N) (Handler N) (State N) (Test N)) → map-Guard M (Equation M) (Arm M) (Guard M) (Handler M) (State M) (Test M) A1 A2 A3 A4 A5 A6 up_Equation up_Arm up_Guard up_Handler up_State up_Test (re_Guard g (map-Guard N (Equation N) (Arm N) (Guard N) (Handler N) (State N) (Test N) (Equation M) (Arm M) (Guard M) (Handler M) (State M) (Test M) (noted_Equation g) (noted_Arm g) (noted_Guard g) (noted_Handler g) (noted_State g) (noted_Test g) x)) ≡ re_Guard g (map-Guard N (Equation N) (Arm N) (Guard N) (Handler N) (State N) (Test N) A1 A2 A3 A4 A5 A6 low_Equation low_Arm low_Guard low_Handler low_State low_Test x)
    moved_Guard x = λ i. record { eqs = twice_list (noted_Equation g) up_Equation x.eqs i; cond = noted g x.cond; restart = x.restart; target = x.target }

    abbrev tops_Guard : Guard-F N With1 With2 With3 With4 With5 With6 → Guard-F N (Equation N) (Arm N) (Guard N) (Handler N) (State N) (Test N)
    tops_Guard = map-Guard N With1 With2 With3 With4 With5 With6 (Equation N) (Arm N) (Guard N) (Handler N) (State N) (Test N) (λ p. p.0) (λ p. p.0) (λ p. p.0) (λ p. p.0) (λ p. p.0) (λ p. p.0)

    low_roll_Guard : (x : Guard-F N (Equation N) (Arm N) (Guard N) (Handler N) (State N) (Test N)) → low_Guard (roll-Guard N x) ≡ s3 (re_Guard g (map-Guard N (Equation N) (Arm N) (Guard N) (Handler N) (State N) (Test N) A1 A2 A3 A4 A5 A6 low_Equation low_Arm low_Guard low_Handler low_State low_Test x))
    low_roll_Guard x = ap up_Guard (fold-roll-Guard N (Equation M) (Arm M) (Guard M) (Handler M) (State M) (Test M) (Equation_noted g) (Arm_noted g) (Guard_noted g) (Handler_noted g) (State_noted g) (Test_noted g) x) ∙ fold-roll-Guard M A1 A2 A3 A4 A5 A6 s1 s2 s3 s4 s5 s6 (re_Guard g (map-Guard N (Equation N) (Arm N) (Guard N) (Handler N) (State N) (Test N) (Equation M) (Arm M) (Guard M) (Handler M) (State M) (Test M) (noted_Equation g) (noted_Arm g) (noted_Guard g) (noted_Handler g) (noted_State g) (noted_Test g) x)) ∙ ap s3 (moved_Guard x)

    left_Guard : (y : Guard-F N With1 With2 With3 With4 With5 With6) → low_Guard (roll-Guard N (tops_Guard y)) ≡ s3 (lefts_Guard (map-Guard N With1 With2 With3 With4 With5 With6 Two1 Two2 Two3 Two4 Two5 Two6 two1 two2 two3 two4 two5 two6 y))
    left_Guard y = low_roll_Guard (tops_Guard y) ∙ ap (λ z. s3 (re_Guard g z)) (twice_Guard N With1 (Equation N) A1 (λ p. p.0) low_Equation With2 (Arm N) A2 (λ p. p.0) low_Arm With3 (Guard N) A3 (λ p. p.0) low_Guard With4 (Handler N) A4 (λ p. p.0) low_Handler With5 (State N) A5 (λ p. p.0) low_State With6 (Test N) A6 (λ p. p.0) low_Test y ∙ sym (twice_Guard N With1 Two1 A1 two1 (λ p. p.0) With2 Two2 A2 two2 (λ p. p.0) With3 Two3 A3 two3 (λ p. p.0) With4 Two4 A4 two4 (λ p. p.0) With5 Two5 A5 two5 (λ p. p.0) With6 Two6 A6 two6 (λ p. p.0) y))

    rightly_Guard : (y : Guard-F N With1 With2 With3 With4 With5 With6) → right_Guard (roll-Guard N (tops_Guard y)) ≡ t3 (rights_Guard (map-Guard N With1 With2 With3 With4 With5 With6 Two1 Two2 Two3 Two4 Two5 Two6 two1 two2 two3 two4 two5 two6 y))
    rightly_Guard y = fold-roll-Guard N B1 B2 B3 B4 B5 B6 t1 t2 t3 t4 t5 t6 (tops_Guard y) ∙ ap t3 (twice_Guard N With1 (Equation N) B1 (λ p. p.0) right_Equation With2 (Arm N) B2 (λ p. p.0) right_Arm With3 (Guard N) B3 (λ p. p.0) right_Guard With4 (Handler N) B4 (λ p. p.0) right_Handler With5 (State N) B5 (λ p. p.0) right_State With6 (Test N) B6 (λ p. p.0) right_Test y ∙ sym (twice_Guard N With1 Two1 B1 two1 (λ p. p.1) With2 Two2 B2 two2 (λ p. p.1) With3 Two3 B3 two3 (λ p. p.1) With4 Two4 B4 two4 (λ p. p.1) With5 Two5 B5 two5 (λ p. p.1) With6 Two6 B6 two6 (λ p. p.1) y))

    at_Guard : (y : Guard-F N With1 With2 With3 With4 With5 With6) → P3 (roll-Guard N (tops_Guard y))
    at_Guard y = subst (λ a. R3 a (right_Guard (roll-Guard N (tops_Guard y)))) (sym (left_Guard y))
        (subst (λ b. R3 (s3 (lefts_Guard (map-Guard N With1 With2 With3 With4 With5 With6 Two1 Two2 Two3 Two4 Two5 Two6 two1 two2 two3 two4 two5 two6 y))) b) (sym (rightly_Guard y)) (step3 (map-Guard N With1 With2 With3 With4 With5 With6 Two1 Two2 Two3 Two4 Two5 Two6 two1 two2 two3 two4 two5 two6 y)))

    moved_Handler : (x : Handler-F N (Equation N) (Arm N) (Guard N) (Handler N) (State N) (Test N)) → map-Handler M (Equation M) (Arm M) (Guard M) (Handler M) (State M) (Test M) A1 A2 A3 A4 A5 A6 up_Equation up_Arm up_Guard up_Handler up_State up_Test (re_Handler g (map-Handler N (Equation N) (Arm N) (Guard N) (Handler N) (State N) (Test N) (Equation M) (Arm M) (Guard M) (Handler M) (State M) (Test M) (noted_Equation g) (noted_Arm g) (noted_Guard g) (noted_Handler g) (noted_State g) (noted_Test g) x)) ≡ re_Handler g (map-Handler N (Equation N) (Arm N) (Guard N) (Handler N) (State N) (Test N) A1 A2 A3 A4 A5 A6 low_Equation low_Arm low_Guard low_Handler low_State low_Test x)
    moved_Handler x = λ i. record { locals = twice_list (noted_Equation g) up_Equation x.locals i; eqs = twice_list (noted_Equation g) up_Equation x.eqs i }

    abbrev tops_Handler : Handler-F N With1 With2 With3 With4 With5 With6 → Handler-F N (Equation N) (Arm N) (Guard N) (Handler N) (State N) (Test N)
    tops_Handler = map-Handler N With1 With2 With3 With4 With5 With6 (Equation N) (Arm N) (Guard N) (Handler N) (State N) (Test N) (λ p. p.0) (λ p. p.0) (λ p. p.0) (λ p. p.0) (λ p. p.0) (λ p. p.0)

    low_roll_Handler : (x : Handler-F N (Equation N) (Arm N) (Guard N) (Handler N) (State N) (Test N)) → low_Handler (roll-Handler N x) ≡ s4 (re_Handler g (map-Handler N (Equation N) (Arm N) (Guard N) (Handler N) (State N) (Test N) A1 A2 A3 A4 A5 A6 low_Equation low_Arm low_Guard low_Handler low_State low_Test x))
    low_roll_Handler x = ap up_Handler (fold-roll-Handler N (Equation M) (Arm M) (Guard M) (Handler M) (State M) (Test M) (Equation_noted g) (Arm_noted g) (Guard_noted g) (Handler_noted g) (State_noted g) (Test_noted g) x) ∙ fold-roll-Handler M A1 A2 A3 A4 A5 A6 s1 s2 s3 s4 s5 s6 (re_Handler g (map-Handler N (Equation N) (Arm N) (Guard N) (Handler N) (State N) (Test N) (Equation M) (Arm M) (Guard M) (Handler M) (State M) (Test M) (noted_Equation g) (noted_Arm g) (noted_Guard g) (noted_Handler g) (noted_State g) (noted_Test g) x)) ∙ ap s4 (moved_Handler x)

    left_Handler : (y : Handler-F N With1 With2 With3 With4 With5 With6) → low_Handler (roll-Handler N (tops_Handler y)) ≡ s4 (lefts_Handler (map-Handler N With1 With2 With3 With4 With5 With6 Two1 Two2 Two3 Two4 Two5 Two6 two1 two2 two3 two4 two5 two6 y))
    left_Handler y = low_roll_Handler (tops_Handler y) ∙ ap (λ z. s4 (re_Handler g z)) (twice_Handler N With1 (Equation N) A1 (λ p. p.0) low_Equation With2 (Arm N) A2 (λ p. p.0) low_Arm With3 (Guard N) A3 (λ p. p.0) low_Guard With4 (Handler N) A4 (λ p. p.0) low_Handler With5 (State N) A5 (λ p. p.0) low_State With6 (Test N) A6 (λ p. p.0) low_Test y ∙ sym (twice_Handler N With1 Two1 A1 two1 (λ p. p.0) With2 Two2 A2 two2 (λ p. p.0) With3 Two3 A3 two3 (λ p. p.0) With4 Two4 A4 two4 (λ p. p.0) With5 Two5 A5 two5 (λ p. p.0) With6 Two6 A6 two6 (λ p. p.0) y))

    rightly_Handler : (y : Handler-F N With1 With2 With3 With4 With5 With6) → right_Handler (roll-Handler N (tops_Handler y)) ≡ t4 (rights_Handler (map-Handler N With1 With2 With3 With4 With5 With6 Two1 Two2 Two3 Two4 Two5 Two6 two1 two2 two3 two4 two5 two6 y))
    rightly_Handler y = fold-roll-Handler N B1 B2 B3 B4 B5 B6 t1 t2 t3 t4 t5 t6 (tops_Handler y) ∙ ap t4 (twice_Handler N With1 (Equation N) B1 (λ p. p.0) right_Equation With2 (Arm N) B2 (λ p. p.0) right_Arm With3 (Guard N) B3 (λ p. p.0) right_Guard With4 (Handler N) B4 (λ p. p.0) right_Handler With5 (State N) B5 (λ p. p.0) right_State With6 (Test N) B6 (λ p. p.0) right_Test y ∙ sym (twice_Handler N With1 Two1 B1 two1 (λ p. p.1) With2 Two2 B2 two2 (λ p. p.1) With3 Two3 B3 two3 (λ p. p.1) With4 Two4 B4 two4 (λ p. p.1) With5 Two5 B5 two5 (λ p. p.1) With6 Two6 B6 two6 (λ p. p.1) y))

    at_Handler : (y : Handler-F N With1 With2 With3 With4 With5 With6) → P4 (roll-Handler N (tops_Handler y))
    at_Handler y = subst (λ a. R4 a (right_Handler (roll-Handler N (tops_Handler y)))) (sym (left_Handler y))
        (subst (λ b. R4 (s4 (lefts_Handler (map-Handler N With1 With2 With3 With4 With5 With6 Two1 Two2 Two3 Two4 Two5 Two6 two1 two2 two3 two4 two5 two6 y))) b) (sym (rightly_Handler y)) (step4 (map-Handler N With1 With2 With3 With4 With5 With6 Two1 Two2 Two3 Two4 Two5 Two6 two1 two2 two3 two4 two5 two6 y)))

    moved_State : (x : State-F N (Equation N) (Arm N) (Guard N) (Handler N) (State N) (Test N)) → map-State M (Equation M) (Arm M) (Guard M) (Handler M) (State M) (Test M) A1 A2 A3 A4 A5 A6 up_Equation up_Arm up_Guard up_Handler up_State up_Test (re_State g (map-State N (Equation N) (Arm N) (Guard N) (Handler N) (State N) (Test N) (Equation M) (Arm M) (Guard M) (Handler M) (State M) (Test M) (noted_Equation g) (noted_Arm g) (noted_Guard g) (noted_Handler g) (noted_State g) (noted_Test g) x)) ≡ re_State g (map-State N (Equation N) (Arm N) (Guard N) (Handler N) (State N) (Test N) A1 A2 A3 A4 A5 A6 low_Equation low_Arm low_Guard low_Handler low_State low_Test x)
    moved_State x = λ i. record { name = x.name; handler = low_Handler x.handler; strong = twice_list (noted_Guard g) up_Guard x.strong i; weak = twice_list (noted_Guard g) up_Guard x.weak i }

    abbrev tops_State : State-F N With1 With2 With3 With4 With5 With6 → State-F N (Equation N) (Arm N) (Guard N) (Handler N) (State N) (Test N)
    tops_State = map-State N With1 With2 With3 With4 With5 With6 (Equation N) (Arm N) (Guard N) (Handler N) (State N) (Test N) (λ p. p.0) (λ p. p.0) (λ p. p.0) (λ p. p.0) (λ p. p.0) (λ p. p.0)

    low_roll_State : (x : State-F N (Equation N) (Arm N) (Guard N) (Handler N) (State N) (Test N)) → low_State (roll-State N x) ≡ s5 (re_State g (map-State N (Equation N) (Arm N) (Guard N) (Handler N) (State N) (Test N) A1 A2 A3 A4 A5 A6 low_Equation low_Arm low_Guard low_Handler low_State low_Test x))
    low_roll_State x = ap up_State (fold-roll-State N (Equation M) (Arm M) (Guard M) (Handler M) (State M) (Test M) (Equation_noted g) (Arm_noted g) (Guard_noted g) (Handler_noted g) (State_noted g) (Test_noted g) x) ∙ fold-roll-State M A1 A2 A3 A4 A5 A6 s1 s2 s3 s4 s5 s6 (re_State g (map-State N (Equation N) (Arm N) (Guard N) (Handler N) (State N) (Test N) (Equation M) (Arm M) (Guard M) (Handler M) (State M) (Test M) (noted_Equation g) (noted_Arm g) (noted_Guard g) (noted_Handler g) (noted_State g) (noted_Test g) x)) ∙ ap s5 (moved_State x)

    left_State : (y : State-F N With1 With2 With3 With4 With5 With6) → low_State (roll-State N (tops_State y)) ≡ s5 (lefts_State (map-State N With1 With2 With3 With4 With5 With6 Two1 Two2 Two3 Two4 Two5 Two6 two1 two2 two3 two4 two5 two6 y))
    left_State y = low_roll_State (tops_State y) ∙ ap (λ z. s5 (re_State g z)) (twice_State N With1 (Equation N) A1 (λ p. p.0) low_Equation With2 (Arm N) A2 (λ p. p.0) low_Arm With3 (Guard N) A3 (λ p. p.0) low_Guard With4 (Handler N) A4 (λ p. p.0) low_Handler With5 (State N) A5 (λ p. p.0) low_State With6 (Test N) A6 (λ p. p.0) low_Test y ∙ sym (twice_State N With1 Two1 A1 two1 (λ p. p.0) With2 Two2 A2 two2 (λ p. p.0) With3 Two3 A3 two3 (λ p. p.0) With4 Two4 A4 two4 (λ p. p.0) With5 Two5 A5 two5 (λ p. p.0) With6 Two6 A6 two6 (λ p. p.0) y))

    rightly_State : (y : State-F N With1 With2 With3 With4 With5 With6) → right_State (roll-State N (tops_State y)) ≡ t5 (rights_State (map-State N With1 With2 With3 With4 With5 With6 Two1 Two2 Two3 Two4 Two5 Two6 two1 two2 two3 two4 two5 two6 y))
    rightly_State y = fold-roll-State N B1 B2 B3 B4 B5 B6 t1 t2 t3 t4 t5 t6 (tops_State y) ∙ ap t5 (twice_State N With1 (Equation N) B1 (λ p. p.0) right_Equation With2 (Arm N) B2 (λ p. p.0) right_Arm With3 (Guard N) B3 (λ p. p.0) right_Guard With4 (Handler N) B4 (λ p. p.0) right_Handler With5 (State N) B5 (λ p. p.0) right_State With6 (Test N) B6 (λ p. p.0) right_Test y ∙ sym (twice_State N With1 Two1 B1 two1 (λ p. p.1) With2 Two2 B2 two2 (λ p. p.1) With3 Two3 B3 two3 (λ p. p.1) With4 Two4 B4 two4 (λ p. p.1) With5 Two5 B5 two5 (λ p. p.1) With6 Two6 B6 two6 (λ p. p.1) y))

    at_State : (y : State-F N With1 With2 With3 With4 With5 With6) → P5 (roll-State N (tops_State y))
    at_State y = subst (λ a. R5 a (right_State (roll-State N (tops_State y)))) (sym (left_State y))
        (subst (λ b. R5 (s5 (lefts_State (map-State N With1 With2 With3 With4 With5 With6 Two1 Two2 Two3 Two4 Two5 Two6 two1 two2 two3 two4 two5 two6 y))) b) (sym (rightly_State y)) (step5 (map-State N With1 With2 With3 With4 With5 With6 Two1 Two2 Two3 Two4 Two5 Two6 two1 two2 two3 two4 two5 two6 y)))

    moved_Test : (x : Test-F N (Equation N) (Arm N) (Guard N) (Handler N) (State N) (Test N)) → map-Test M (Equation M) (Arm M) (Guard M) (Handler M) (State M) (Test M) A1 A2 A3 A4 A5 A6 up_Equation up_Arm up_Guard up_Handler up_State up_Test (re_Test g (map-Test N (Equation N) (Arm N) (Guard N) (Handler N) (State N) (Test N) (Equation M) (Arm M) (Guard M) (Handler M) (State M) (Test M) (noted_Equation g) (noted_Arm g) (noted_Guard g) (noted_Handler g) (noted_State g) (noted_Test g) x)) ≡ re_Test g (map-Test N (Equation N) (Arm N) (Guard N) (Handler N) (State N) (Test N) A1 A2 A3 A4 A5 A6 low_Equation low_Arm low_Guard low_Handler low_State low_Test x)
    moved_Test x = refl

    abbrev tops_Test : Test-F N With1 With2 With3 With4 With5 With6 → Test-F N (Equation N) (Arm N) (Guard N) (Handler N) (State N) (Test N)
    tops_Test = map-Test N With1 With2 With3 With4 With5 With6 (Equation N) (Arm N) (Guard N) (Handler N) (State N) (Test N) (λ p. p.0) (λ p. p.0) (λ p. p.0) (λ p. p.0) (λ p. p.0) (λ p. p.0)

    low_roll_Test : (x : Test-F N (Equation N) (Arm N) (Guard N) (Handler N) (State N) (Test N)) → low_Test (roll-Test N x) ≡ s6 (re_Test g (map-Test N (Equation N) (Arm N) (Guard N) (Handler N) (State N) (Test N) A1 A2 A3 A4 A5 A6 low_Equation low_Arm low_Guard low_Handler low_State low_Test x))
    low_roll_Test x = ap up_Test (fold-roll-Test N (Equation M) (Arm M) (Guard M) (Handler M) (State M) (Test M) (Equation_noted g) (Arm_noted g) (Guard_noted g) (Handler_noted g) (State_noted g) (Test_noted g) x) ∙ fold-roll-Test M A1 A2 A3 A4 A5 A6 s1 s2 s3 s4 s5 s6 (re_Test g (map-Test N (Equation N) (Arm N) (Guard N) (Handler N) (State N) (Test N) (Equation M) (Arm M) (Guard M) (Handler M) (State M) (Test M) (noted_Equation g) (noted_Arm g) (noted_Guard g) (noted_Handler g) (noted_State g) (noted_Test g) x)) ∙ ap s6 (moved_Test x)

    left_Test : (y : Test-F N With1 With2 With3 With4 With5 With6) → low_Test (roll-Test N (tops_Test y)) ≡ s6 (lefts_Test (map-Test N With1 With2 With3 With4 With5 With6 Two1 Two2 Two3 Two4 Two5 Two6 two1 two2 two3 two4 two5 two6 y))
    left_Test y = low_roll_Test (tops_Test y) ∙ ap (λ z. s6 (re_Test g z)) (twice_Test N With1 (Equation N) A1 (λ p. p.0) low_Equation With2 (Arm N) A2 (λ p. p.0) low_Arm With3 (Guard N) A3 (λ p. p.0) low_Guard With4 (Handler N) A4 (λ p. p.0) low_Handler With5 (State N) A5 (λ p. p.0) low_State With6 (Test N) A6 (λ p. p.0) low_Test y ∙ sym (twice_Test N With1 Two1 A1 two1 (λ p. p.0) With2 Two2 A2 two2 (λ p. p.0) With3 Two3 A3 two3 (λ p. p.0) With4 Two4 A4 two4 (λ p. p.0) With5 Two5 A5 two5 (λ p. p.0) With6 Two6 A6 two6 (λ p. p.0) y))

    rightly_Test : (y : Test-F N With1 With2 With3 With4 With5 With6) → right_Test (roll-Test N (tops_Test y)) ≡ t6 (rights_Test (map-Test N With1 With2 With3 With4 With5 With6 Two1 Two2 Two3 Two4 Two5 Two6 two1 two2 two3 two4 two5 two6 y))
    rightly_Test y = fold-roll-Test N B1 B2 B3 B4 B5 B6 t1 t2 t3 t4 t5 t6 (tops_Test y) ∙ ap t6 (twice_Test N With1 (Equation N) B1 (λ p. p.0) right_Equation With2 (Arm N) B2 (λ p. p.0) right_Arm With3 (Guard N) B3 (λ p. p.0) right_Guard With4 (Handler N) B4 (λ p. p.0) right_Handler With5 (State N) B5 (λ p. p.0) right_State With6 (Test N) B6 (λ p. p.0) right_Test y ∙ sym (twice_Test N With1 Two1 B1 two1 (λ p. p.1) With2 Two2 B2 two2 (λ p. p.1) With3 Two3 B3 two3 (λ p. p.1) With4 Two4 B4 two4 (λ p. p.1) With5 Two5 B5 two5 (λ p. p.1) With6 Two6 B6 two6 (λ p. p.1) y))

    at_Test : (y : Test-F N With1 With2 With3 With4 With5 With6) → P6 (roll-Test N (tops_Test y))
    at_Test y = subst (λ a. R6 a (right_Test (roll-Test N (tops_Test y)))) (sym (left_Test y))
        (subst (λ b. R6 (s6 (lefts_Test (map-Test N With1 With2 With3 With4 With5 With6 Two1 Two2 Two3 Two4 Two5 Two6 two1 two2 two3 two4 two5 two6 y))) b) (sym (rightly_Test y)) (step6 (map-Test N With1 With2 With3 With4 With5 With6 Two1 Two2 Two3 Two4 Two5 Two6 two1 two2 two3 two4 two5 two6 y)))

    pub related_eqs : (e : Equation N) → P1 e
    related_eqs = ind-Equation N P1 P2 P3 P4 P5 P6
        (λ x y from. subst (λ z. P1 (roll-Equation N z)) from (at_Equation y))
        (λ x y from. subst (λ z. P2 (roll-Arm N z)) from (at_Arm y))
        (λ x y from. subst (λ z. P3 (roll-Guard N z)) from (at_Guard y))
        (λ x y from. subst (λ z. P4 (roll-Handler N z)) from (at_Handler y))
        (λ x y from. subst (λ z. P5 (roll-State N z)) from (at_State y))
        (λ x y from. subst (λ z. P6 (roll-Test N z)) from (at_Test y))
