-- What stands at forms, by the rows of their parts, below the number of lines.
use Rattle.std.specs.Prelude.{◌≡◌, refl, ℕ, zero, suc, ◌<◌, Bool, true, false, List, [], ◌∷◌, map, Option, Some, None, if◌then◌else◌, option_map}
use Rattle.std.proofs.Common.{Bor, ap, sym, ◌∙◌, subst, arith}
use Rattle.ls_base.specs.declared.Name.{Name}
use Rattle.ls_value.specs.declared.leaf.Leaf.{Leaf}
use Rattle.ls_ops.specs.declared.kinds.Op.{Op}
use Rattle.ls_ast.specs.declared.tree.Case.{Case}
use Rattle.ls_ast.specs.declared.tree.Expr.{Expr, Expr-F, fold-roll-Expr}
use Rattle.ls_ast.specs.declared.tree.Form.{Form, fold-roll-Form}
use Rattle.ls_ast.specs.declared.tree.Form.TheOpen.{Form-F}
use Rattle.ls_ast.specs.declared.tree.Form.TheVariants as form
use Rattle.ls_places.specs.Places.{Place}
use Rattle.ls_sig.specs.declared.binder.Binder.{Binder}
use Rattle.ls_terms.specs.declared.clocks.ClockTerm.{ClockTerm}
use Rattle.kahn_model.specs.Choices.{case_value}
use Rattle.kahn_exprs.specs.Context.{arg_of}
use Rattle.kahn_exprs.specs.declared.context.Argument.TheVariants as argument
use Rattle.kahn_exprs.proofs.Targets.{arg_stream}
use Rattle.ls_sig.specs.declared.binder.Note.{Note}
use Rattle.kahn_model.specs.declared.cell.Cell.{Cell}
use Rattle.kahn_model.specs.declared.cell.Cell.TheVariants.{Present}
use Rattle.kahn_model.specs.declared.cell.Value.TheVariants as v
use Rattle.kahn_model.specs.Alike.{ArgAlike, ArgsAlike, RowAlike}
use Rattle.kahn_model.specs.Cells.{after_first, value_in}
use Rattle.kahn_model.specs.Functions.{Arg, stream, Said, args_said, cells_at, clocks_said, row_of}
use Rattle.kahn_model.specs.Rows.{Row, know, know_all, previous}
use Rattle.kahn_model.specs.Table.{cell_in, written_row}
use Rattle.kahn_model.specs.Turn
use Rattle.kahn_model.specs.Values.{case_of, nil}
use Rattle.kahn_model.proofs.Alike.{row_trans, written_alike}
use Rattle.kahn_exprs.specs.declared.body.Body.{Body}
use Rattle.kahn_exprs.specs.declared.rules.Rule.{Rule}
use Rattle.kahn_exprs.specs.declared.rules.Rule.TheVariants as rule
use Rattle.kahn_exprs.specs.Body as spec
use Rattle.kahn_exprs.specs.Calls.{called, cut}
use Rattle.kahn_exprs.specs.Instance.{clocks_noted, head}
use Rattle.kahn_exprs.specs.Rules as own
use Rattle.kahn_exprs.specs.Streams.{look}
use Rattle.kahn_exprs.specs.Values as val
use Rattle.kahn_exprs.proofs.Calling.{EveryAlike, called_alike, used_alike}
use Rattle.kahn_exprs.proofs.Names.{head_alike, look_alike, rows_alike}

abbrev inner : ℕ → Option (Option ℕ) → ℕ
inner d (Some (Some j)) = j
inner d _ = d

same : (i j : ℕ) → Some (Some i) ≡ Some (Some j) → i ≡ j
same i j e = ap (inner 0) e

-- the previous instant is an earlier one
earlier_step : (on again : Row Bool) (i : ℕ) → ((j : ℕ) → previous on again i ≡ Some (Some j) → j < i)
    → (t u : Option Bool) → (j : ℕ)
    → know t (λ restart. elim restart [ true ↦ Some None | false ↦ know u (λ here. elim here [ true ↦ Some (Some i) | false ↦ previous on again i ]) ]) ≡ Some (Some j) → j < suc i
earlier_step on again i before None u j e = absurd (cc)
earlier_step on again i before (Some true) u j e = absurd (cc)
earlier_step on again i before (Some false) None j e = absurd (cc)
earlier_step on again i before (Some false) (Some true) j e = omega (arith, same i j e)
earlier_step on again i before (Some false) (Some false) j e = omega (arith, before j e)

pub earlier : (on again : Row Bool) (i j : ℕ) → previous on again i ≡ Some (Some j) → j < i
earlier on again zero j e = absurd (cc)
earlier on again (suc i) j e = earlier_step on again i (earlier on again i) (again (suc i)) (on i) j e

know_alike : (n : ℕ) (x : Option (Option ℕ)) (c c' : Option Cell) (r r' : Row Cell) → ((j : ℕ) → x ≡ Some (Some j) → j < n) → c ≡ c' → RowAlike n r r'
    → know x (after_first c r) ≡ know x (after_first c' r')
know_alike n None c c' r r' before e q = refl
know_alike n (Some None) c c' r r' before e q = e
know_alike n (Some (Some j)) c c' r r' before e q = q j (before j refl)

pub delay_alike : (n : ℕ) (on again : Row Bool) (c c' : Option Cell) (r r' : Row Cell) (i : ℕ) → i < n → c ≡ c' → RowAlike n r r'
    → know (previous on again i) (after_first c r) ≡ know (previous on again i) (after_first c' r')
delay_alike n on again c c' r r' i l e q = know_alike n (previous on again i) c c' r r' (λ j at. omega (arith, l, earlier on again i j at)) e q

module _ (b : Body) (p : Place) where
  abbrev step : Form-F Note (Note → Arg) Said → Note → Arg
  step = Turn.form_step (spec.cases b) b.defs.now (spec.call b) b.def.now (spec.around b) (spec.table b) (spec.active b p) (spec.again b p)

  abbrev expr_step : Expr-F Note (Note → Arg) Said → Said
  expr_step = Turn.expr_step (spec.cases b) b.defs.now (spec.call b) b.def.now (spec.around b) (spec.table b)

  -- a form whose layer is known
  pub from : (f v : Form Note) (y : Note → Arg) (note : Note) (x : Arg) → f ≡ v → spec.said_form b p v ≡ y → ArgAlike b.lines x (y note) → ArgAlike b.lines x (spec.said_form b p f note)
  from f v y note x is layer alike = subst (λ (g : Note → Arg). ArgAlike b.lines x (g note)) (sym (ap (spec.said_form b p) is ∙ layer)) alike

  ruled_from : (f v : Form Note) (y : Note → Arg) (note : Note) (x : Rule) (r : Row Cell) → f ≡ v → spec.said_form b p v ≡ y → y note ≡ stream r → RowAlike b.lines (own.rule_cell b p note x) r
      → ArgAlike b.lines (val.ruled b p note x) (spec.said_form b p f note)
  ruled_from f v y note x r is layer at alike = from f v y note (val.ruled b p note x) is layer
      (subst (λ z. ArgAlike b.lines (val.ruled b p note x) z) (sym at) (row_trans b.lines (cut b.lines (own.rule_cell b p note x)) (own.rule_cell b p note x) r (written_alike b.lines (own.rule_cell b p note x)) alike))

  -- a row that is written down has its cells
  in_row : (cells : own.Cells) (r : Row Cell) → cells ≡ written_row b.lines 0 r → RowAlike b.lines (cell_in cells) r
  in_row cells r e = λ i l. ap (λ z. cell_in z i) e ∙ written_alike b.lines r i l

  cell_of : Expr Note → Row Cell
  cell_of e = spec.cell b p e

  in_looked : (cells : own.Cells) (bound : Binder) (x : ℕ) → cells ≡ val.look_row b bound x → RowAlike b.lines (cell_in cells) (row_of (spec.look b bound x))
  in_looked cells bound x e = row_trans b.lines (cell_in cells) (row_of (look b bound x)) (row_of (spec.look b bound x)) (in_row cells (row_of (look b bound x)) e)
      (rows_alike b.lines (look b bound x) (spec.look b bound x) (look_alike b bound x))

  column_alike : (args : List (Expr Note)) (i : ℕ) → i < b.lines → own.column i (val.rows b p args) ≡ cells_at i (map (spec.said b p) args)
  column_alike [] i l = refl
  column_alike (e ∷ args) i l = ap (λ z. z ∷ own.column i (val.rows b p args)) (written_alike b.lines (spec.cell b p e) i l) ∙ ap (λ z. spec.cell b p e i ∷ z) (column_alike args i l)

  pub in_column : (args : List (Expr Note)) (all : List own.Cells) (i : ℕ) → all ≡ val.rows b p args → i < b.lines → own.column i all ≡ cells_at i (map (spec.said b p) args)
  in_column args all i e l = ap (own.column i) e ∙ column_alike args i l

  by_case : (t : Bool) (c : Option Cell) (r s : Row Cell) (c' : Option Cell) (i : ℕ) → c ≡ r i → c' ≡ s i → (if t then c else c') ≡ (if t then r else s) i
  by_case true c r s c' i e e' = e
  by_case false c r s c' i e e' = e'

  branch_alike : (k : ℕ) (choices : List (Case × Expr Note)) (i : ℕ) → i < b.lines → own.branch b k choices (val.branch_rows b p choices) i ≡ spec.branch b k (spec.choices_said b p choices) i
  branch_alike k [] i l = refl
  branch_alike k (c ∷ choices) i l = by_case (spec.is_branch b c.0 k) _ (spec.cell b p c.1) (spec.branch b k (spec.choices_said b p choices)) _ i
      (written_alike b.lines (spec.cell b p c.1) i l) (branch_alike k choices i l)

  case_alike : (choices : List (Case × Expr Note)) (i : ℕ) → i < b.lines → (o : Option ℕ)
      → own.merged_case b choices (val.branch_rows b p choices) i o ≡ Turn.merged_case (spec.cases b) b.defs.now (spec.call b) b.def.now (spec.around b) (spec.table b) (spec.choices_said b p choices) i o
  case_alike choices i l None = refl
  case_alike choices i l (Some k) = branch_alike k choices i l

  know_merged : (choices : List (Case × Expr Note)) (i : ℕ) → i < b.lines → (c : Option Cell)
      → know c (own.merged b choices (val.branch_rows b p choices) i) ≡ know c (spec.merged b (spec.choices_said b p choices) i)
  know_merged choices i l None = refl
  know_merged choices i l (Some c) = case_alike choices i l (case_of (value_in c))

  pub said_is : (e : Expr Note) → spec.said b p e ≡ expr_step (record { note = e.note; form = spec.said_form b p e.form })
  said_is e = fold-roll-Expr Note (Note → Arg) Said step expr_step (record { note = e.note; form = e.form })

  pub clocks_same : (args : List (Expr Note)) → clocks_noted args ≡ clocks_said (map (spec.said b p) args)
  clocks_same [] = refl
  clocks_same (e ∷ args) = ap (λ z. e.note.ck ∷ z) (clocks_same args) ∙ sym (ap (λ (z : Said). z.note.ck ∷ clocks_said (map (spec.said b p) args)) (said_is e))

  call_layer : (run : Bool) (x : Name) (args : List (Expr Note)) (every : Option (Expr Note)) → spec.said_form b p (form.Call run x args every)
      ≡ step (Form-F.Call run x (map (spec.said b p) args) (option_map (spec.said b p) every))
  call_layer run x args None = ap (spec.said_form b p) (sym (form.rolls-Call run x args None)) ∙ fold-roll-Form Note (Note → Arg) Said step expr_step (Form-F.Call run x args None)
  call_layer run x args (Some e) = ap (spec.said_form b p) (sym (form.rolls-Call run x args (Some e))) ∙ fold-roll-Form Note (Note → Arg) Said step expr_step (Form-F.Call run x args (Some e))

  pub every_alike : (every : Option (Expr Note)) (restarts : Option own.Cells) → restarts ≡ option_map (val.row b p) every → EveryAlike b.lines restarts (option_map (spec.said b p) every)
  every_alike None restarts e = subst (λ z. EveryAlike b.lines z None) (sym e) tt
  every_alike (Some x) restarts e = subst (λ z. EveryAlike b.lines z (Some (spec.said b p x))) (sym e) (written_alike b.lines (spec.cell b p x))

  module _ (f : Form Note) (note : Note) where
    pub leaf_alike : (l : Leaf) → f ≡ form.Leaf l → ArgAlike b.lines (val.ruled b p note (rule.Leaf l)) (spec.said_form b p f note)
    leaf_alike l is = ruled_from f (form.Leaf l) (step (Form-F.Leaf l)) note (rule.Leaf l) (λ i. Some (Present (v.Leaf l))) is
        (ap (spec.said_form b p) (sym (form.rolls-Leaf l)) ∙ fold-roll-Form Note (Note → Arg) Said step expr_step (Form-F.Leaf l)) refl (λ i h. refl)

    pub case_is_alike : (x : Name) → f ≡ form.Case x → ArgAlike b.lines (val.ruled b p note (rule.Case note.bound)) (spec.said_form b p f note)
    case_is_alike x is = ruled_from f (form.Case x) (step (Form-F.Case x)) note (rule.Case note.bound) (λ i. Some (Present (case_value note.bound))) is
        (ap (spec.said_form b p) (sym (form.rolls-Case x)) ∙ fold-roll-Form Note (Note → Arg) Said step expr_step (Form-F.Case x)) refl (λ i h. refl)

    pub last_alike : (x : Name) → f ≡ form.Last x → ArgAlike b.lines (val.ruled b p note (rule.Last note.bound)) (spec.said_form b p f note)
    last_alike x is = ruled_from f (form.Last x) (step (Form-F.Last x)) note (rule.Last note.bound) (spec.last_bound b note.bound) is
        (ap (spec.said_form b p) (sym (form.rolls-Last x)) ∙ fold-roll-Form Note (Note → Arg) Said step expr_step (Form-F.Last x)) refl (λ i h. refl)

    pub var_alike : (x : Name) → f ≡ form.Var x → ArgAlike b.lines (val.used b p note x.0) (spec.said_form b p f note)
    var_alike x is = from f (form.Var x) (step (Form-F.Var x)) note (val.used b p note x.0) is
        (ap (spec.said_form b p) (sym (form.rolls-Var x)) ∙ fold-roll-Form Note (Note → Arg) Said step expr_step (Form-F.Var x)) (used_alike b p note x.0)

    pub asked_alike : (x : Name) (cells : Bor own.Cells) → f ≡ form.Asked x → cells.now ≡ val.look_row b note.bound x.0 → ArgAlike b.lines (val.ruled b p note (rule.Asked cells)) (spec.said_form b p f note)
    asked_alike x cells is e = ruled_from f (form.Asked x) (step (Form-F.Asked x)) note (rule.Asked cells) (λ i. know (row_of (spec.look b note.bound x.0) i) (λ c. Some (spec.asked c))) is
        (ap (spec.said_form b p) (sym (form.rolls-Asked x)) ∙ fold-roll-Form Note (Note → Arg) Said step expr_step (Form-F.Asked x)) refl
        (λ i h. ap (λ z. know z (λ c. Some (spec.asked c))) (in_looked cells.now note.bound x.0 e i h))

    pub op_alike : (o : Op) (args : List (Expr Note)) (all : Bor (List own.Cells)) → f ≡ form.Op o args → all.now ≡ val.rows b p args → ArgAlike b.lines (val.ruled b p note (rule.Operator o all)) (spec.said_form b p f note)
    op_alike o args all is e = ruled_from f (form.Op o args) (step (Form-F.Op o (map (spec.said b p) args))) note (rule.Operator o all)
        (λ i. know (know_all (cells_at i (map (spec.said b p) args))) (λ cs. Some (spec.operated o cs))) is
        (ap (spec.said_form b p) (sym (form.rolls-Op o args)) ∙ fold-roll-Form Note (Note → Arg) Said step expr_step (Form-F.Op o args)) refl
        (λ i h. ap (λ z. know (know_all z) (λ cs. Some (spec.operated o cs))) (in_column args all.now i e h))

    pub tuple_alike : (args : List (Expr Note)) (all : Bor (List own.Cells)) → f ≡ form.Tuple args → all.now ≡ val.rows b p args → ArgAlike b.lines (val.ruled b p note (rule.Tuple all)) (spec.said_form b p f note)
    tuple_alike args all is e = ruled_from f (form.Tuple args) (step (Form-F.Tuple (map (spec.said b p) args))) note (rule.Tuple all)
        (λ i. know (know_all (cells_at i (map (spec.said b p) args))) (λ cs. Some (spec.tupled cs))) is
        (ap (spec.said_form b p) (sym (form.rolls-Tuple args)) ∙ fold-roll-Form Note (Note → Arg) Said step expr_step (Form-F.Tuple args)) refl
        (λ i h. ap (λ z. know (know_all z) (λ cs. Some (spec.tupled cs))) (in_column args all.now i e h))

    pub pre_alike : (e : Expr Note) (cells : Bor own.Cells) → f ≡ form.Pre e → cells.now ≡ val.row b p e → ArgAlike b.lines (val.ruled b p note (rule.Pre cells)) (spec.said_form b p f note)
    pre_alike e cells is q = ruled_from f (form.Pre e) (step (Form-F.Pre (spec.said b p e))) note (rule.Pre cells)
        (λ i. know (own.before b p note i) (after_first (Some (Present nil)) (spec.cell b p e))) is
        (ap (spec.said_form b p) (sym (form.rolls-Pre e)) ∙ fold-roll-Form Note (Note → Arg) Said step expr_step (Form-F.Pre e)) refl
        (λ i h. delay_alike b.lines (spec.on b note.ck) (spec.again_too b (spec.again b p) note.restarts) (Some (Present nil)) (Some (Present nil)) (cell_in cells.now) (spec.cell b p e) i h refl (in_row cells.now (spec.cell b p e) q))

    pub fby_alike : (x y : Expr Note) (xs ys : Bor own.Cells) → f ≡ form.Fby x y → xs.now ≡ val.row b p x → ys.now ≡ val.row b p y → ArgAlike b.lines (val.ruled b p note (rule.Fby xs ys)) (spec.said_form b p f note)
    fby_alike x y xs ys is q r = ruled_from f (form.Fby x y) (step (Form-F.Fby (spec.said b p x) (spec.said b p y))) note (rule.Fby xs ys)
        (λ i. know (own.before b p note i) (after_first (spec.cell b p x i) (spec.cell b p y))) is
        (ap (spec.said_form b p) (sym (form.rolls-Fby x y)) ∙ fold-roll-Form Note (Note → Arg) Said step expr_step (Form-F.Fby x y)) refl
        (λ i h. delay_alike b.lines (spec.on b note.ck) (spec.again_too b (spec.again b p) note.restarts) (cell_in xs.now i) (spec.cell b p x i) (cell_in ys.now) (spec.cell b p y) i h (in_row xs.now (spec.cell b p x) q i h)
        (in_row ys.now (spec.cell b p y) r))

    pub init_alike : (x y : Expr Note) (xs ys : Bor own.Cells) → f ≡ form.Init x y → xs.now ≡ val.row b p x → ys.now ≡ val.row b p y → ArgAlike b.lines (val.ruled b p note (rule.Init xs ys)) (spec.said_form b p f note)
    init_alike x y xs ys is q r = ruled_from f (form.Init x y) (step (Form-F.Init (spec.said b p x) (spec.said b p y))) note (rule.Init xs ys)
        (λ i. know (own.before b p note i) (after_first (spec.cell b p x i) (λ j. spec.cell b p y i))) is
        (ap (spec.said_form b p) (sym (form.rolls-Init x y)) ∙ fold-roll-Form Note (Note → Arg) Said step expr_step (Form-F.Init x y)) refl
        (λ i h. delay_alike b.lines (spec.on b note.ck) (spec.again_too b (spec.again b p) note.restarts) (cell_in xs.now i) (spec.cell b p x i) (λ j. cell_in ys.now i) (λ j. spec.cell b p y i) i h (in_row xs.now (spec.cell b p x) q i h)
        (λ j l. in_row ys.now (spec.cell b p y) r i h))

    pub when_alike : (e : Expr Note) (x : Name) (k : Case) (cells : own.Cells) → f ≡ form.When e x k → cells ≡ val.row b p e → ArgAlike b.lines (arg_of (argument.Stream cells)) (spec.said_form b p f note)
    when_alike e x k cells is q = from f (form.When e x k) (step (Form-F.When (spec.said b p e) x k)) note (arg_of (argument.Stream cells)) is
        (ap (spec.said_form b p) (sym (form.rolls-When e x k)) ∙ fold-roll-Form Note (Note → Arg) Said step expr_step (Form-F.When e x k))
        (subst (λ z. ArgAlike b.lines z (stream (spec.cell b p e))) (sym (arg_stream cells)) (in_row cells (spec.cell b p e) q))

    pub merge_alike : (x : Name) (choices : List (Case × Expr Note)) (cells : Bor own.Cells) (branches : Bor (List (Case × Expr Note))) (all : Bor (List own.Cells)) → f ≡ form.Merge x choices
        → cells.now ≡ val.look_row b note.bound x.0 → branches.now ≡ choices → all.now ≡ val.branch_rows b p choices → ArgAlike b.lines (val.ruled b p note (rule.Merge cells branches all)) (spec.said_form b p f note)
    merge_alike x choices cells branches all is e same rows = ruled_from f (form.Merge x choices) (step (Form-F.Merge x (spec.choices_said b p choices))) note (rule.Merge cells branches all)
        (λ i. know (row_of (spec.look b note.bound x.0) i) (spec.merged b (spec.choices_said b p choices) i)) is
        (ap (spec.said_form b p) (sym (form.rolls-Merge x choices)) ∙ fold-roll-Form Note (Note → Arg) Said step expr_step (Form-F.Merge x choices)) refl
        (λ i h. ap (λ z. know z (own.merged b branches.now all.now i)) (in_looked cells.now note.bound x.0 e i h)
        ∙ ap (λ z. know (row_of (spec.look b note.bound x.0) i) (own.merged b z all.now i)) same
        ∙ ap (λ z. know (row_of (spec.look b note.bound x.0) i) (own.merged b choices z i)) rows
        ∙ know_merged choices i h (row_of (spec.look b note.bound x.0) i))

    pub call_alike : (run : Bool) (x : Name) (args : List (Expr Note)) (every : Option (Expr Note)) (gs : List Arg) (restarts : Option own.Cells) (cks : List ClockTerm) (g : Arg) → f ≡ form.Call run x args every
        → ArgsAlike b.lines gs (args_said (map (spec.said b p) args)) → restarts ≡ option_map (val.row b p) every → cks ≡ clocks_noted args → g ≡ head b note x.0 cks
        → ArgAlike b.lines (called b p note g gs restarts) (spec.said_form b p f note)
    call_alike run x args every gs restarts cks g is qs e noted head_is = from f (form.Call run x args every)
        (step (Form-F.Call run x (map (spec.said b p) args) (option_map (spec.said b p) every))) note (called b p note g gs restarts) is
        (call_layer run x args every)
        (called_alike b p note g (Turn.head_of (spec.cases b) b.defs.now (spec.call b) b.def.now (spec.around b) (spec.table b) note.bound note.ck x.0 (clocks_said (map (spec.said b p) args))) gs restarts
        (map (spec.said b p) args) (option_map (spec.said b p) every)
        (subst (λ z. ArgAlike b.lines z (Turn.head_of (spec.cases b) b.defs.now (spec.call b) b.def.now (spec.around b) (spec.table b) note.bound note.ck x.0 (clocks_said (map (spec.said b p) args))))
        (sym (head_is ∙ ap (head b note x.0) (noted ∙ clocks_same args))) (head_alike b note.bound note.ck x.0 (clocks_said (map (spec.said b p) args))))
        qs (every_alike every restarts e))
