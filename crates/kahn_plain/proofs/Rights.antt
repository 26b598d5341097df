-- Cells from the rows of right sides are the cells of a turn.
use Rattle.std.specs.Prelude.{◌≡◌, refl, ℕ, zero, suc, ◌+◌, ◌-◌, ◌<◌, ◌≤◌, Bool, true, false, List, [], ◌∷◌, ◌++◌, Option, Some, None, length}
use Rattle.std.proofs.Math.Seq.{drop-cons}
use Rattle.std.proofs.lemmas.List.{drop_all}
use Rattle.std.proofs.Common.{ap, arith, drop, get_or, sym, ◌∙◌}
use Rattle.ls_ast.specs.declared.tree.Expr.{Expr, fold_out-Expr}
use Rattle.ls_ast.specs.declared.tree.Pat.{Pat}
use Rattle.ls_places.specs.Places.{Place, option_list}
use Rattle.ls_places.specs.Search.{and, guards_of, never, nth, sites_of, start_of, whole_at}
use Rattle.ls_places.specs.declared.places.Named.{Named}
use Rattle.ls_places.specs.declared.places.Named.TheVariants as named
use Rattle.ls_places.specs.declared.places.Right.{Right}
use Rattle.ls_places.specs.declared.places.Right.TheVariants as rhs
use Rattle.ls_places.specs.declared.places.Site.{Site}
use Rattle.ls_places.specs.declared.places.Start.{Start}
use Rattle.ls_places.specs.declared.places.Transition.{Transition}
use Rattle.ls_places.specs.declared.places.Variable.{Variable}
use Rattle.ls_places.specs.declared.places.Whole.{Whole}
use Rattle.ls_places.specs.declared.definition.Key.TheVariants as key
use Rattle.ls_sig.specs.declared.binder.Note.{Note}
use Rattle.ls_terms.specs.declared.clocks.ClockTerm.{fold-roll-ClockTerm}
use Rattle.ls_terms.specs.declared.clocks.ClockTerm.TheOpen.{ClockTerm-F}
use Rattle.ls_terms.specs.declared.clocks.ClockTerm.TheVariants as clock
use Rattle.ls_terms.specs.declared.clocks.ClockTerm.TheVariants.{rolls-Pointwise}
use Rattle.kahn_model.specs.declared.cell.Cell.{Cell}
use Rattle.kahn_model.specs.declared.cell.Cell.TheVariants.{Absent, Silent, Present, Chosen}
use Rattle.kahn_model.specs.Cells.{at, is_yes, value_in}
use Rattle.kahn_model.specs.Choices.{by_reach, chosen_arm, yes_or}
use Rattle.kahn_model.specs.Functions.{Arg, Said, def, given, nowhere, row_of, stream}
use Rattle.kahn_model.specs.Rows.{Row, know, previous}
use Rattle.kahn_model.specs.Table.{cell_in, written_row}
use Rattle.kahn_model.specs.Turn
use Rattle.kahn_cells.specs.Groups.{picked}
use Rattle.kahn_exprs.specs.declared.body.Body.{Body}
use Rattle.kahn_exprs.specs.Body as spec
use Rattle.kahn_plain.specs.Equations as own
use Rattle.kahn_plain.proofs.Standing.{by_cells, cell_is, same_on}

know_same : {A B : Type 0} (a : Option A) (f g : A → Option B) → ((x : A) → f x ≡ g x) → know a f ≡ know a g
know_same None f g h = refl
know_same (Some x) f g h = h x

-- one instant back, with what was found before it
abbrev look : Option Bool → Option Bool → ℕ → Option (Option ℕ) → Option (Option ℕ)
look again on i earlier = know again (λ restart. elim restart [
  | true ↦ Some None
  | false ↦ know on (λ here. elim here [ true ↦ Some (Some i) | false ↦ earlier ])
])

look_same : (again on : Option Bool) (i : ℕ) (earlier : Option (Option ℕ)) (f g : Option ℕ → Option Cell) → f None ≡ g None → f (Some i) ≡ g (Some i)
    → know earlier f ≡ know earlier g → know (look again on i earlier) f ≡ know (look again on i earlier) g
look_same None on i earlier f g none some more = refl
look_same (Some true) on i earlier f g none some more = none
look_same (Some false) None i earlier f g none some more = refl
look_same (Some false) (Some true) i earlier f g none some more = some
look_same (Some false) (Some false) i earlier f g none some more = more

-- what goes by the previous instant goes by an instant on the lines
previous_same : (on again : Row Bool) (n i : ℕ) → i < n → (f g : Option ℕ → Option Cell) → f None ≡ g None → ((j : ℕ) → j < n → f (Some j) ≡ g (Some j))
    → know (previous on again i) f ≡ know (previous on again i) g
previous_same on again n zero p f g none some = none
previous_same on again n (suc i) p f g none some =
    look_same (again (suc i)) (on i) i (previous on again i) f g none (some i (omega (arith, p))) (previous_same on again n i (omega (arith, p)) f g none some)

-- ---- whole expressions

abbrev one_whole : Whole Note → Option (Whole Note) → Whole Note
one_whole d None = d
one_whole d (Some y) = y

whole_some : (all : List (Whole Note)) (k : ℕ) (w : Whole Note) → Some w ≡ nth all k → whole_at all k ≡ w
whole_some [] k w e = absurd (cc)
whole_some (x ∷ all) zero w e = sym (ap (one_whole w) e)
whole_some (x ∷ all) (suc k) w e = whole_some all k w e

whole_none : (all : List (Whole Note)) (k : ℕ) → None ≡ nth all k → whole_at all k ≡ record { expr = never; place = [] }
whole_none [] k e = refl
whole_none (x ∷ all) zero e = absurd (cc)
whole_none (x ∷ all) (suc k) e = whole_none all k e

-- an item that is found stands in the list
pub found_within : {A : Type 0} (all : List A) (k : ℕ) (x : A) → Some x ≡ nth all k → k < length all
found_within [] k x e = absurd (cc)
found_within (y ∷ all) zero x e = omega arith
found_within (y ∷ all) (suc k) x e = let p : k < length all = found_within all k x e in omega (arith, p)

module _ (b : Body) where
  -- what stands on a clock that is off is absent
  off_is : (note : Note) (f : Arg) (i : ℕ) → spec.on b note.ck i ≡ Some false → row_of (spec.on_clock b note f) i ≡ Some Absent
  off_is note (stream r) i e = ap (λ o. at o (r i)) e
  off_is note (def k c) i e = refl
  off_is note (given f x) i e = refl

  pointwise_off : (i : ℕ) → spec.on b clock.Pointwise i ≡ Some false
  pointwise_off i = ap (λ t. spec.on b t i) (sym rolls-Pointwise)
      ∙ ap (λ (r : Row Bool). r i) (fold-roll-ClockTerm (Row Bool) (Turn.on_step (spec.cases b) b.defs.now (spec.call b) b.def.now (spec.around b) (spec.table b)) ClockTerm-F.Pointwise)

  never_absent : (p : Place) (e : Expr Note) (i : ℕ) → spec.on b e.note.ck i ≡ Some false → spec.cell b p e i ≡ Some Absent
  never_absent p e i off =
      let fs = Turn.form_step (spec.cases b) b.defs.now (spec.call b) b.def.now (spec.around b) (spec.table b) (spec.active b p) (spec.again b p) in
      let es = Turn.expr_step (spec.cases b) b.defs.now (spec.call b) b.def.now (spec.around b) (spec.table b) in
      ap (λ (s : Said). row_of s.arg i) (fold_out-Expr Note (Note → Arg) Said fs es e)
      ∙ off_is e.note (spec.said_form b p e.form e.note) i off

  pub whole_is : (k : ℕ) (w : Whole Note) (p : Place) → Some w ≡ nth b.def.now.places.exprs k → p ≡ w.place → written_row b.lines 0 (spec.cell b p w.expr) ≡ written_row b.lines 0 (spec.whole b k)
  whole_is k w p e place = ap (λ z. written_row b.lines 0 (spec.cell b z w.expr)) place
      ∙ sym (ap (λ (v : Whole Note). written_row b.lines 0 (spec.cell b v.place v.expr)) (whole_some b.def.now.places.exprs k w e))

  pub never_is : (k : ℕ) → None ≡ nth b.def.now.places.exprs k → written_row b.lines 0 nowhere ≡ written_row b.lines 0 (spec.whole b k)
  never_is k e = same_on b.lines nowhere (spec.whole b k)
      (λ i p. sym (ap (λ (v : Whole Note). spec.cell b v.place v.expr i) (whole_none b.def.now.places.exprs k e) ∙ never_absent [] never i (pointwise_off i)))

  -- ---- variables

  pub part_is : (x : ℕ) (place : Place) (right : Right) (p : Pat) (k : ℕ) (cells : own.Standing) → right ≡ rhs.Part p k → cells ≡ written_row b.lines 0 (spec.whole b k)
      → written_row b.lines 0 (λ i. own.part_of p x (cell_in cells i)) ≡ written_row b.lines 0 (spec.right_cell b x place right)
  part_is x place right p k cells is h = by_cells b.lines (λ i. own.part_of p x) (spec.whole b k) cells h
      ∙ sym (ap (λ z. written_row b.lines 0 (spec.right_cell b x place z)) is)

  pub pattern_is : (x : ℕ) (place : Place) (right : Right) (y : ℕ) (p : Pat) (cells : own.Standing) → right ≡ rhs.Pattern y p → cells ≡ written_row b.lines 0 (spec.signal_row b y place)
      → written_row b.lines 0 (λ i. own.part_of p x (cell_in cells i)) ≡ written_row b.lines 0 (spec.right_cell b x place right)
  pattern_is x place right y p cells is h = by_cells b.lines (λ i. own.part_of p x) (spec.signal_row b y place) cells h
      ∙ sym (ap (λ z. written_row b.lines 0 (spec.right_cell b x place z)) is)

  picked_some : (all : List Site) (k : ℕ) (numbers : List ℕ) (s : Site) → Some s ≡ nth all k → picked all (k ∷ numbers) ≡ s ∷ picked all numbers
  picked_some all k numbers s e = ap (λ (o : Option Site). option_list o ++ picked all numbers) (sym e)

  picked_none : (all : List Site) (k : ℕ) (numbers : List ℕ) → None ≡ nth all k → picked all (k ∷ numbers) ≡ picked all numbers
  picked_none all k numbers e = ap (λ (o : Option Site). option_list o ++ picked all numbers) (sym e)

  pub none_added : (w : Variable) (k : ℕ) (more : own.Standing) → None ≡ nth b.def.now.places.sites k → own.AddsSite b w k more more
  none_added w k more e o numbers is = is ∙ sym (ap (λ z. written_row b.lines 0 (spec.by_sites b w o z)) (picked_none b.def.now.places.sites k numbers e))

  pub some_added : (w : Variable) (k : ℕ) (s : Site) (place : Place) (inner : List (ℕ × ℕ)) (cells more result : own.Standing) → Some s ≡ nth b.def.now.places.sites k
      → cells ≡ written_row b.lines 0 (spec.right_cell b w.name place s.right) → place ≡ s.place → inner ≡ s.inner
      → result ≡ written_row b.lines 0 (own.by_site b w.signal inner cells more) → own.AddsSite b w k more result
  some_added w k s place inner cells more result e is pl inn made o numbers rest =
      let T : Row Cell = own.by_numbers b w o numbers in
      made
      ∙ same_on b.lines (own.by_site b w.signal inner cells more) (spec.by_sites b w o (s ∷ picked b.def.now.places.sites numbers))
      (λ i p. ap (λ z. know (spec.reach b z i) (by_reach (cell_in cells i) (cell_in more i) w.signal)) inn
      ∙ ap (λ z. know (spec.reach b s.inner i) (by_reach z (cell_in more i) w.signal)) (ap (λ z. cell_in z i) is ∙ cell_is b.lines i (spec.right_cell b w.name place s.right) p ∙ ap (λ z. spec.right_cell b w.name z s.right i) pl)
      ∙ ap (λ z. know (spec.reach b s.inner i) (by_reach (spec.right_cell b w.name s.place s.right i) z w.signal)) (ap (λ z. cell_in z i) rest ∙ cell_is b.lines i T p))
      ∙ sym (ap (λ z. written_row b.lines 0 (spec.by_sites b w o z)) (picked_some b.def.now.places.sites k numbers s e))

  pub variable_is : (x : ℕ) (w : Variable) (cells : own.Standing) → cells ≡ written_row b.lines 0 (own.unclocked b x w) → Some w ≡ nth b.def.now.places.vars x
      → written_row b.lines 0 (own.on_variable b x cells) ≡ written_row b.lines 0 (own.variable_cell b x)
  variable_is x w cells e found = by_cells b.lines (λ i c. at (spec.variable_here b x i) c) (own.unclocked b x w) cells e
      ∙ ap (λ z. written_row b.lines 0 (Turn.variable_cell (spec.cases b) b.defs.now (spec.call b) b.def.now (spec.around b) (spec.table b) x z)) found

  pub start_is : (x : ℕ) (w : Variable) (s : Start) → Some w ≡ nth b.def.now.places.vars x → Some s ≡ start_of w b.def.now.places.starts
      → written_row b.lines 0 (spec.whole b s.right) ≡ written_row b.lines 0 (own.start_cell b x)
  start_is x w s found start =
      ap (λ z. written_row b.lines 0 (Turn.start_cell (spec.cases b) b.defs.now (spec.call b) b.def.now (spec.around b) (spec.table b) z)) start
      ∙ ap (λ z. written_row b.lines 0 (Turn.start_of_variable (spec.cases b) b.defs.now (spec.call b) b.def.now (spec.around b) (spec.table b) z)) found

  pub reset_is : (r k : ℕ) → Some k ≡ nth b.def.now.places.resets r → written_row b.lines 0 (spec.whole b k) ≡ written_row b.lines 0 (own.reset_cell b r)
  reset_is r k found = ap (λ z. written_row b.lines 0 (Turn.reset_cell (spec.cases b) b.defs.now (spec.call b) b.def.now (spec.around b) (spec.table b) z)) found

  -- ---- guards

  by_guards_is : (states : own.States) (kept : Option Cell) (gs : List Transition) (i : ℕ) → i < b.lines → own.by_guards states kept gs (own.conditions b gs) i ≡ spec.first_true b states kept gs i
  by_guards_is states kept [] i p = refl
  by_guards_is states kept (g ∷ gs) i p =
      ap (λ z. know z (λ c. yes_or (Some (Chosen (Some (own.target_of states g)) g.restart)) (own.by_guards states kept gs (own.conditions b gs) i) (is_yes c))) (cell_is b.lines i (spec.whole b g.cond) p)
      ∙ ap (λ z. know (spec.whole b g.cond i) (λ c. yes_or (Some (Chosen (Some (own.target_of states g)) g.restart)) z (is_yes c))) (by_guards_is states kept gs i p)

  rows_at_is : (states : own.States) (s : ℕ) → own.rows_at (own.guards b states) s ≡ own.conditions b (guards_of states s)
  rows_at_is [] s = refl
  rows_at_is (t ∷ states) zero = refl
  rows_at_is (t ∷ states) (suc s) = rows_at_is states s

  choice_is : (keep : Bool) (states : own.States) (i : ℕ) → i < b.lines → (c : Cell) → own.choice keep states (own.guards b states) i c ≡ spec.choice b keep states i c
  choice_is keep states i h (Chosen (Some s) restart) =
      ap (λ z. own.by_guards states (Some (Chosen (Some s) (and keep restart))) (guards_of states s) z i) (rows_at_is states s)
      ∙ by_guards_is states (Some (Chosen (Some s) (and keep restart))) (guards_of states s) i h
  choice_is keep states i h (Chosen None restart) = refl
  choice_is keep states i h Absent = refl
  choice_is keep states i h Silent = refl
  choice_is keep states i h (Present w) = refl

  -- ---- blocks

  pub match_is : (w : Whole Note) (all : List (Option ℕ)) (place : Place) (cells : own.Standing) → cells ≡ written_row b.lines 0 (spec.cell b place w.expr) → place ≡ w.place
      → written_row b.lines 0 (own.match_from b w.expr.note.ck all cells) ≡ written_row b.lines 0 (own.match_on b w all)
  match_is w all place cells h pl =
      by_cells b.lines (λ i c. at (spec.on b w.expr.note.ck i) (know c (λ v. Some (Chosen (chosen_arm all (value_in v)) false)))) (spec.cell b place w.expr) cells h
      ∙ ap (λ z. written_row b.lines 0 (λ i. at (spec.on b w.expr.note.ck i) (know (spec.cell b z w.expr i) (λ v. Some (Chosen (chosen_arm all (value_in v)) false))))) pl

  pub match_some : (k : ℕ) (w : Whole Note) (all : List (Option ℕ)) → Some w ≡ nth b.def.now.places.exprs k → written_row b.lines 0 (own.match_on b w all) ≡ written_row b.lines 0 (own.match_cell b k all)
  match_some k w all e = sym (ap (λ v. written_row b.lines 0 (own.match_on b v all)) (whole_some b.def.now.places.exprs k w e))

  pub match_none : (k : ℕ) (all : List (Option ℕ)) → None ≡ nth b.def.now.places.exprs k → written_row b.lines 0 nowhere ≡ written_row b.lines 0 (own.match_cell b k all)
  match_none k all e = same_on b.lines nowhere (own.match_cell b k all)
      (λ i p. sym (ap (λ v. own.match_on b v all i) (whole_none b.def.now.places.exprs k e)
      ∙ ap (λ o. at o (know (spec.cell b [] never i) (λ v. Some (Chosen (chosen_arm all (value_in v)) false)))) (pointwise_off i)))

  pub active_is : (m : ℕ) (states : own.States) (p : Place) (rows : List (List own.Standing)) → rows ≡ own.guards b states
      → written_row b.lines 0 (own.active_from b m states p rows) ≡ written_row b.lines 0 (own.active_cell b m states p)
  active_is m states p rows e =
      ap (λ z. written_row b.lines 0 (own.active_from b m states p z)) e
      ∙ same_on b.lines (own.active_from b m states p (own.guards b states)) (own.active_cell b m states p)
      (λ i h. ap (at (spec.mode_here b m p i)) (know_same (spec.table b (key.Name (m + 1)) i) (own.choice true states (own.guards b states) i) (spec.choice b true states i)
      (choice_is true states i h)))

  pub tested_is : (m : ℕ) (states : own.States) (p : Place) (rows : List (List own.Standing)) → rows ≡ own.guards b states
      → written_row b.lines 0 (own.tested_from b m states p rows) ≡ written_row b.lines 0 (own.tested_cell b m states p)
  tested_is m states p rows e =
      ap (λ z. written_row b.lines 0 (own.tested_from b m states p z)) e
      ∙ same_on b.lines (own.tested_from b m states p (own.guards b states)) (own.tested_cell b m states p)
      (λ i h. ap (at (spec.mode_here b m p i)) (previous_same (spec.mode_here b m p) (spec.again b p) b.lines i h (own.after_from b m states (own.guards b states))
      (Turn.after_state (spec.cases b) b.defs.now (spec.call b) b.def.now (spec.around b) (spec.table b) (spec.choice b false states) (spec.table b (key.Name m)))
      refl (λ j q. know_same (spec.table b (key.Name m) j) (own.choice false states (own.guards b states) j) (spec.choice b false states j) (choice_is false states j q))))

  pub name_is : (m : ℕ) (n : Named) → Some n ≡ nth b.def.now.places.names (m - length b.def.now.params)
      → written_row b.lines 0 (spec.name_cell b m (Some n)) ≡ written_row b.lines 0 (own.name_cell b m)
  name_is m n found = ap (λ z. written_row b.lines 0 (spec.name_cell b m z)) found

  pub none_named : (m : ℕ) → None ≡ nth b.def.now.places.names (m - length b.def.now.params) → written_row b.lines 0 nowhere ≡ written_row b.lines 0 (own.name_cell b m)
  none_named m found = ap (λ z. written_row b.lines 0 (spec.name_cell b m z)) found

  -- the cells of each kind of clock name
  named_is : (m : ℕ) (n v : Named) → n ≡ v → written_row b.lines 0 (spec.name_cell b m (Some v)) ≡ written_row b.lines 0 (spec.name_cell b m (Some n))
  named_is m n v is = sym (ap (λ z. written_row b.lines 0 (spec.name_cell b m (Some z))) is)

  pub clock_named : (m x : ℕ) (n : Named) → n ≡ named.Clock x → written_row b.lines 0 nowhere ≡ written_row b.lines 0 (spec.name_cell b m (Some n))
  clock_named m x n is = named_is m n (named.Clock x) is

  pub match_named : (m k : ℕ) (n : Named) (all arms : List (Option ℕ)) (p : Place) → n ≡ named.Match k arms p → all ≡ arms
      → written_row b.lines 0 (own.match_cell b k all) ≡ written_row b.lines 0 (spec.name_cell b m (Some n))
  match_named m k n all arms p is same = ap (λ z. written_row b.lines 0 (own.match_cell b k z)) same ∙ named_is m n (named.Match k arms p) is

  pub present_named : (m : ℕ) (n : Named) (all xs : List ℕ) (place p : Place) → n ≡ named.Present xs p → all ≡ xs → place ≡ p
      → written_row b.lines 0 (own.present_cell b all place) ≡ written_row b.lines 0 (spec.name_cell b m (Some n))
  present_named m n all xs place p is same here =
      ap (λ z. written_row b.lines 0 (own.present_cell b z place)) same ∙ ap (λ z. written_row b.lines 0 (own.present_cell b xs z)) here ∙ named_is m n (named.Present xs p) is

  pub active_named : (m : ℕ) (n : Named) (all states : own.States) (place p : Place) → n ≡ named.Active states p → all ≡ states → place ≡ p
      → written_row b.lines 0 (own.active_cell b m all place) ≡ written_row b.lines 0 (spec.name_cell b m (Some n))
  active_named m n all states place p is same here =
      ap (λ z. written_row b.lines 0 (own.active_cell b m z place)) same ∙ ap (λ z. written_row b.lines 0 (own.active_cell b m states z)) here ∙ named_is m n (named.Active states p) is

  pub tested_named : (m first : ℕ) (n : Named) (all states : own.States) (place p : Place) → n ≡ named.Tested states p → first ≡ m - 1 → all ≡ states → place ≡ p
      → written_row b.lines 0 (own.tested_cell b first all place) ≡ written_row b.lines 0 (spec.name_cell b m (Some n))
  tested_named m first n all states place p is before same here =
      ap (λ z. written_row b.lines 0 (own.tested_cell b z all place)) before ∙ ap (λ z. written_row b.lines 0 (own.tested_cell b (m - 1) z place)) same
      ∙ ap (λ z. written_row b.lines 0 (own.tested_cell b (m - 1) states z)) here ∙ named_is m n (named.Tested states p) is

  -- ---- the equations of a variable, the last one first

  -- from the end of the numbers, one step on
  number_back : (all : List ℕ) (back k : ℕ) → back < length all → k ≡ get_or all (length all - 1 - back) 0 → k ∷ drop (length all - back) all ≡ drop (length all - (back + 1)) all
  number_back all back k below is =
      let here : length all - 1 - back ≡ length all - (back + 1) = omega arith in
      let on : length all - back ≡ suc (length all - (back + 1)) = omega (arith, below) in
      ap (λ z. z ∷ drop (length all - back) all) (is ∙ ap (λ z. get_or all z 0) here) ∙ ap (λ z. get_or all (length all - (back + 1)) 0 ∷ drop z all) on
      ∙ sym (drop-cons all (length all - (back + 1)) 0 (omega (arith, below)))

  pub sites_next : (w : Variable) (o : Row Cell) (all : List ℕ) (back k : ℕ) (done next : own.Standing) → back < length all → k ≡ get_or all (length all - 1 - back) 0 → own.AddsSite b w k done next
      → done ≡ written_row b.lines 0 (own.by_numbers b w o (drop (length all - back) all)) → next ≡ written_row b.lines 0 (own.by_numbers b w o (drop (length all - (back + 1)) all))
  sites_next w o all back k done next below is adds so_far =
      adds o (drop (length all - back) all) so_far ∙ ap (λ z. written_row b.lines 0 (own.by_numbers b w o z)) (number_back all back k below is)

  -- before the first equation from the end, and after all
  pub no_sites : (w : Variable) (o : Row Cell) (all : List ℕ) (done : own.Standing) → done ≡ written_row b.lines 0 o → done ≡ written_row b.lines 0 (own.by_numbers b w o (drop (length all - 0) all))
  no_sites w o all done is = is ∙ ap (λ z. written_row b.lines 0 (own.by_numbers b w o z)) (sym (drop_all (length all - 0) all (omega arith)))

  pub sites_are : (x : ℕ) (w : Variable) (all : List ℕ) (back : ℕ) (done : own.Standing) → length all ≤ back → picked b.def.now.places.sites all ≡ sites_of x b.def.now.places.sites
      → done ≡ written_row b.lines 0 (own.by_numbers b w (spec.otherwise b x w) (drop (length all - back) all)) → done ≡ written_row b.lines 0 (own.unclocked b x w)
  sites_are x w all back done past found is =
      let none_left : length all - back ≡ 0 = omega (arith, past) in
      is ∙ ap (λ z. written_row b.lines 0 (own.by_numbers b w (spec.otherwise b x w) (drop z all))) none_left
      ∙ ap (λ z. written_row b.lines 0 (spec.by_sites b w (spec.otherwise b x w) z)) found
