-- One line of a list, the lines after it, and the bodies.
use Rattle.std.proofs.Common.{◌≡◌, ℕ, suc, zero, ◌+◌, ◌<◌, ◌≤◌, Bool, List, [], ◌∷◌, ◌++◌, length, drop, take, get_or, refl, sym, ◌∙◌, ap, subst, arith, Option, Some, None, add-zero, append_assoc, length-append}
use Rattle.std.proofs.lemmas.List.{append-nil}
use Rattle.std.specs.Prelude.{slice_get, All, MatchOption}
use Rattle.std.proofs.lemmas.List.{drop_more}
use Rattle.ls_value.specs.declared.leaf.Leaf.{Leaf}
use Rattle.step_code.specs.declared.parts.CodeBody.{CodeBody}
use Rattle.step_code.specs.declared.parts.Instr.{Instr}
use Rattle.step_code.specs.declared.parts.Instr.TheVariants.{Const, Copy, Op1, Op2, Op3, Test, When, Call}
use Rattle.step_code.specs.Steps.{Moment, BodyStep, run, effect, skipped, body_steps, called, moment}
use Rattle.step_runner.specs.Ranges.{IsWithin, IsSimple, AreWithin, MayGuard, window_at}

module _ (bodies : List BodyStep) (place : ℕ → ℕ) where
  -- lines that are passed over
  pub run_past : (skip : ℕ) (lines : List Instr) (m : Moment) → run bodies place skip lines m ≡ run bodies place 0 (drop skip lines) m
  run_past zero lines m = refl
  run_past (suc skip) [] m = refl
  run_past (suc skip) (line ∷ lines) m = run_past skip lines m

  drop-drop : (lines : List Instr) (i k : ℕ) → drop k (drop i lines) ≡ drop (i + k) lines
  drop-drop lines zero k = ap (λ n. drop n lines) (let e : k ≡ zero + k = omega arith in e)
  drop-drop [] (suc i) zero = ap (λ n. drop {A = Instr} n []) (let e : suc i ≡ suc i + zero = omega arith in e)
  drop-drop [] (suc i) (suc k) = ap (λ n. drop {A = Instr} n []) (let e : suc (i + suc k) ≡ suc i + suc k = omega arith in e)
  drop-drop (line ∷ lines) (suc i) k = drop-drop lines i k ∙ ap (λ n. drop n (line ∷ lines)) (let e : suc (i + k) ≡ suc i + k = omega arith in e)

  -- the run from one line is the run from the next one that is evaluated
  pub one_more : (lines : List Instr) (at over : ℕ) (line d : Instr) → at < length lines → get_or lines at d ≡ line → (m m' : Moment)
      → m' ≡ effect bodies place line m → over ≡ skipped bodies place line m
      → run bodies place 0 (drop at lines) m ≡ run bodies place 0 (drop (at + (1 + over)) lines) m'
  one_more lines at over line d within is m m' made passed =
      ap (λ rest. run bodies place 0 rest m) (drop_more lines at d within ∙ ap (λ x. x ∷ drop (at + 1) lines) is)
      ∙ (λ i. run bodies place (sym passed i) (drop (at + 1) lines) (sym made i))
      ∙ run_past over (drop (at + 1) lines) m'
      ∙ ap (λ rest. run bodies place 0 rest m') (drop-drop lines (at + 1) over ∙ ap (λ n. drop n lines) (let e : at + 1 + over ≡ at + (1 + over) = omega arith in e))

-- a line that calls nothing does the same whatever the bodies are
pub simple_effect : (bodies : List BodyStep) (place : ℕ → ℕ) (line : Instr) → ((body window : ℕ) → line ≡ Call body window → ⊥) → (m : Moment)
    → effect [] place line m ≡ effect bodies place line m
simple_effect bodies place (Const d l) never m = refl
simple_effect bodies place (Copy d a) never m = refl
simple_effect bodies place (Op1 op d a) never m = refl
simple_effect bodies place (Op2 op d a b) never m = refl
simple_effect bodies place (Op3 op d a b c) never m = refl
simple_effect bodies place (Test d a l) never m = refl
simple_effect bodies place (When g size) never m = refl
simple_effect bodies place (Call body window) never m = absurd (never body window refl)

pub simple_within : (bodies : List CodeBody) (size : ℕ) (line : Instr) → IsWithin bodies size line → IsSimple size line
simple_within bodies size (Const d l) h = h
simple_within bodies size (Copy d a) h = h
simple_within bodies size (Op1 op d a) h = h
simple_within bodies size (Op2 op d a b) h = h
simple_within bodies size (Op3 op d a b c) h = h
simple_within bodies size (Test d a l) h = h
simple_within bodies size (When g lines) h = h
simple_within bodies size (Call body window) h = tt

pub guard_within : (bodies : List CodeBody) (size : ℕ) (line : Instr) → IsWithin bodies size line → MayGuard size line
guard_within bodies size (Const d l) h = tt
guard_within bodies size (Copy d a) h = tt
guard_within bodies size (Op1 op d a) h = tt
guard_within bodies size (Op2 op d a b) h = tt
guard_within bodies size (Op3 op d a b c) h = tt
guard_within bodies size (Test d a l) h = tt
guard_within bodies size (When g lines) h = h
guard_within bodies size (Call body window) h = tt

-- ---- bodies

pub slice_get_front : {X : Type 0} (xs ys : List X) (k : ℕ) → k < length xs → slice_get (xs ++ ys) k ≡ slice_get xs k
slice_get_front [] ys k lt = absurd (omega (arith, lt))
slice_get_front (x ∷ xs) ys zero lt = refl
slice_get_front (x ∷ xs) ys (suc k) lt = slice_get_front xs ys k (omega (arith, lt))

pub slice_get_seam : {X : Type 0} (xs : List X) (y : X) (ys : List X) → slice_get (xs ++ y ∷ ys) (length xs) ≡ Some y
slice_get_seam [] y ys = refl
slice_get_seam (x ∷ xs) y ys = slice_get_seam xs y ys

pub slice_get_within : {X : Type 0} (xs : List X) (k : ℕ) (d : X) → k < length xs → slice_get xs k ≡ Some (get_or xs k d)
slice_get_within [] k d lt = absurd (omega (arith, lt))
slice_get_within (x ∷ xs) zero d lt = refl
slice_get_within (x ∷ xs) (suc k) d lt = slice_get_within xs k d (omega (arith, lt))

pub body_step : List BodyStep → CodeBody → BodyStep
body_step done body = λ base. run done (λ k. base + k) 0 body.list

-- what is done stays in front
steps_kept : (done : List BodyStep) (bodies : List CodeBody) (k : ℕ) → k < length done → slice_get (body_steps done bodies) k ≡ slice_get done k
steps_kept done [] k lt = refl
steps_kept done (body ∷ rest) k lt =
    steps_kept (done ++ (λ base. run done (λ j. base + j) 0 body.list) ∷ []) rest k (omega (arith, lt, length-append done ((λ base. run done (λ j. base + j) 0 body.list) ∷ [])))
    ∙ slice_get_front done ((λ base. run done (λ j. base + j) 0 body.list) ∷ []) k lt

-- the step of a body is a run over the bodies before it
pub steps_at : (done : List BodyStep) (bodies : List CodeBody) (b : ℕ) (d : CodeBody) → b < length bodies
    → slice_get (body_steps done bodies) (length done + b) ≡ Some (λ base. run (body_steps done (take b bodies)) (λ k. base + k) 0 (get_or bodies b d).list)
steps_at done [] b d lt = absurd (omega (arith, lt))
steps_at done (body ∷ rest) zero d lt =
    ap (λ k. slice_get (body_steps (done ++ (λ base. run done (λ j. base + j) 0 body.list) ∷ []) rest) k) (add-zero (length done))
    ∙ steps_kept (done ++ (λ base. run done (λ j. base + j) 0 body.list) ∷ []) rest (length done) (omega (arith, length-append done ((λ base. run done (λ j. base + j) 0 body.list) ∷ [])))
    ∙ slice_get_seam done (λ base. run done (λ j. base + j) 0 body.list) []
steps_at done (body ∷ rest) (suc b) d lt =
    let more = done ++ (λ base. run done (λ j. base + j) 0 body.list) ∷ [] in
    ap (λ k. slice_get (body_steps more rest) k) (let e : length done + suc b ≡ length more + b = omega (arith, length-append done ((λ base. run done (λ j. base + j) 0 body.list) ∷ [])) in e)
    ∙ steps_at more rest b d (omega (arith, lt))

-- a call is the run of its body
pub call_effect : (bodies : List CodeBody) (b start base : ℕ) (d : CodeBody) → b < length bodies → (slots : List Leaf) (alarmed : Bool) (ticks : ℕ)
    → run (body_steps [] (take b bodies)) (window_at (base + start)) 0 (get_or bodies b d).list (moment slots alarmed (ticks + 1))
    ≡ effect (body_steps [] bodies) (window_at base) (Call b start) (moment slots alarmed ticks)
call_effect bodies b start base d lt slots alarmed ticks =
    ap (λ found. called found (base + start) (moment slots alarmed (ticks + 1)))
    (sym (ap (λ k. slice_get (body_steps [] bodies) k) (let e : b ≡ 0 + b = omega arith in e) ∙ steps_at [] bodies b d lt))

-- the bodies before one are within theirs, and so is its list
pub within_front : (done bodies : List CodeBody) (b : ℕ) → AreWithin done bodies → AreWithin done (take b bodies)
within_front done bodies zero h = tt
within_front done [] (suc b) h = tt
within_front done (body ∷ rest) (suc b) h = (h.0, within_front (done ++ body ∷ []) rest b h.1)

pub within_at : (done bodies : List CodeBody) (b : ℕ) (d : CodeBody) → AreWithin done bodies → b < length bodies
    → All (IsWithin (done ++ take b bodies) (length (get_or bodies b d).slots)) (get_or bodies b d).list
within_at done [] b d h lt = absurd (omega (arith, lt))
within_at done (body ∷ rest) zero d h lt =
    subst (λ (bs : List CodeBody). All (IsWithin bs (length body.slots)) body.list) (sym (append-nil done)) h.0
within_at done (body ∷ rest) (suc b) d h lt =
    subst (λ (bs : List CodeBody). All (IsWithin bs (length (get_or rest b d).slots)) (get_or rest b d).list) (append_assoc done (body ∷ []) (take b rest))
    (within_at (done ++ body ∷ []) rest b d h.1 (omega (arith, lt)))

-- what a call needs: its body is there, and the window within the slots of its list
pub call_named : (bodies : List CodeBody) (size b start : ℕ) → IsWithin bodies size (Call b start) → b < length bodies
call_named bodies size b start h = by_found (slice_get bodies b) refl h
  where
    by_found : (o : Option CodeBody) → o ≡ slice_get bodies b → MatchOption o ⊥ (λ own. start + length own.slots ≤ size) → b < length bodies
    by_found None e h' = absurd h'
    by_found (Some own) e h' = found_within bodies b own (sym e)
      where
        found_within : (xs : List CodeBody) (k : ℕ) (x : CodeBody) → slice_get xs k ≡ Some x → k < length xs
        found_within xs k x is = by_test xs k is
          where
            by_test : (ys : List CodeBody) (j : ℕ) → slice_get ys j ≡ Some x → j < length ys
            by_test [] j e' = absurd (cc e')
            by_test (y ∷ ys) zero e' = omega arith
            by_test (y ∷ ys) (suc j) e' = let h'' : j < length ys = by_test ys j e' in omega (arith, h'')

pub call_fits : (bodies : List CodeBody) (size b start : ℕ) (d : CodeBody) → IsWithin bodies size (Call b start) → start + length (get_or bodies b d).slots ≤ size
call_fits bodies size b start d h =
    subst (λ (o : Option CodeBody). MatchOption o ⊥ (λ own. start + length own.slots ≤ size)) (slice_get_within bodies b d (call_named bodies size b start h)) h

-- ---- what a call needs and does, as the code has it

module _ (bodies : List CodeBody) (b : ℕ) (own : CodeBody) (is : own ≡ get_or bodies b own) where
  pub call_lines : (width : ℕ) (list : List Instr) → AreWithin [] bodies → b < length bodies → width ≡ length own.slots → list ≡ own.list
      → All (IsWithin (take b bodies) width) list
  call_lines width list are lt w l =
      subst (λ (n : ℕ). All (IsWithin (take b bodies) n) list) (sym w)
      (subst (λ (lines : List Instr). All (IsWithin (take b bodies) (length own.slots)) lines) (sym l)
      (subst (λ (o : CodeBody). All (IsWithin (take b bodies) (length o.slots)) o.list) (sym is) (within_at [] bodies b own are lt)))

  pub call_room : (size start width : ℕ) → IsWithin bodies size (Call b start) → width ≡ length own.slots → start + width ≤ size
  call_room size start width h w =
      let fits : start + length (get_or bodies b own).slots ≤ size = call_fits bodies size b start own h in
      let same : length (get_or bodies b own).slots ≡ length own.slots = ap (λ (o : CodeBody). length o.slots) (sym is) in
      omega (arith, fits, same, w)

  pub call_done : (start base : ℕ) (list : List Instr) (slots : List Leaf) (alarmed : Bool) (ticks ticks' : ℕ) (line : Instr) (m : Moment) → b < length bodies
      → list ≡ own.list → ticks' ≡ ticks + 1 → line ≡ Call b start
      → m ≡ run (body_steps [] (take b bodies)) (window_at (base + start)) 0 list (moment slots alarmed ticks')
      → m ≡ effect (body_steps [] bodies) (window_at base) line (moment slots alarmed ticks)
  call_done start base list slots alarmed ticks ticks' line m lt l t call made =
      made
      ∙ (λ i. run (body_steps [] (take b bodies)) (window_at (base + start)) 0 ((l ∙ ap (λ (o : CodeBody). o.list) is) i) (moment slots alarmed (t i)))
      ∙ call_effect bodies b start base own lt slots alarmed ticks
      ∙ ap (λ x. effect (body_steps [] bodies) (window_at base) x (moment slots alarmed ticks)) (sym call)
