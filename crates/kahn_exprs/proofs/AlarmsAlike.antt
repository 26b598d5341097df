-- Alarms by rows that are written down are those of the network, below the number of lines.
use Rattle.std.specs.Prelude.{◌≡◌, refl, ℕ, ◌+◌, ◌<◌, Bool, true, false, List, [], ◌∷◌, ◌++◌, map, length, Option, Some, None, option_map, Result, Ok, Err, IfOk, if◌then◌else◌, get_or, take}
use Rattle.std.proofs.Common.{ap, sym, ◌∙◌, subst}
use Rattle.ls_base.specs.declared.Name.{Name}
use Rattle.ls_ast.specs.declared.tree.Case.{Case}
use Rattle.ls_ast.specs.declared.tree.Expr.{Expr}
use Rattle.ls_ast.specs.declared.tree.Form.{Form, fold_out-Form, map-Form, out-roll-Form, roll-Form}
use Rattle.ls_ast.specs.declared.tree.Form.TheOpen.{Form-F}
use Rattle.ls_ast.specs.declared.tree.Form.TheVariants as form
use Rattle.ls_ops.specs.declared.kinds.Op.{Op}
use Rattle.ls_places.specs.Places.{Place}
use Rattle.ls_sig.specs.declared.binder.Binder.{Binder}
use Rattle.ls_sig.specs.declared.binder.Binder.TheVariants as binder
use Rattle.ls_sig.specs.declared.binder.Note.{Note}
use Rattle.ls_terms.specs.declared.clocks.ClockTerm.{ClockTerm}
use Rattle.kahn_model.specs.Alarm
use Rattle.kahn_model.specs.Alarm.{Heard, HeardForm, any_of, parts_alarm}
use Rattle.kahn_model.specs.Alike.{ArgAlike, ArgsAlike, RowAlike}
use Rattle.kahn_model.specs.Cells.{is_yes, say, values_in}
use Rattle.ls_places.specs.Clocks.{choice_parts, form_parts, is_function, option_part}
use Rattle.kahn_model.proofs.Related.{in_choices}
use Rattle.kahn_model.specs.Functions.{Arg, Said, args_said, cells_at, clocks_said}
use Rattle.kahn_model.specs.Rows.{Row, both, either, know, know_all}
use Rattle.kahn_model.specs.Table.{cell_in, written_row}
use Rattle.kahn_model.specs.Turn
use Rattle.kahn_model.specs.Values.{alarm}
use Rattle.kahn_model.proofs.Alike.{alarms_alike, written_alike}
use Rattle.kahn_exprs.specs.declared.body.Body.{Body}
use Rattle.kahn_exprs.specs.Alarms as own
use Rattle.kahn_exprs.specs.Body as spec
use Rattle.kahn_exprs.specs.Calls.{target_at, target_row}
use Rattle.kahn_exprs.specs.Instance.{clocks_noted, head, head_at}
use Rattle.kahn_exprs.specs.Rules.{Cells}
use Rattle.kahn_exprs.specs.Values as val
use Rattle.kahn_exprs.proofs.Calling.{EveryAlike, target_alike}
use Rattle.kahn_exprs.proofs.FormsAlike.{clocks_same, every_alike, in_column}
use Rattle.kahn_exprs.proofs.Heard.{heard_is, heard_said, saids}
use Rattle.kahn_exprs.proofs.Names.{head_alike}
use Rattle.kahn_exprs.proofs.ValuesAlike.{mapped_next, written_same}

pub row_alike : {E : Type 0} (n : ℕ) (r : Result own.Truths E) (w f : Row Bool) → IfOk r (λ v. v ≡ written_row n 0 w) → RowAlike n w f → IfOk r (λ v. RowAlike n (cell_in v) f)
row_alike n (Ok v) w f h q = λ i l. ap (λ z. cell_in z i) h ∙ written_alike n w i l ∙ q i l
row_alike n (Err x) w f h q = h

pub alike_then : {E : Type 0} (n : ℕ) (r : Result own.Truths E) (w f : Row Bool) → IfOk r (λ v. RowAlike n (cell_in v) w) → RowAlike n w f → IfOk r (λ v. RowAlike n (cell_in v) f)
alike_then n (Ok v) w f h q = λ i l. h i l ∙ q i l
alike_then n (Err x) w f h q = h

module _ (b : Body) (p : Place) where
  abbrev own_of : Form-F Note HeardForm Heard → Note → Row Bool
  own_of x note = Alarm.own_alarm (spec.cases b) b.defs.now (spec.call b) (spec.alarmed b) b.def.now (spec.around b) (spec.table b) (spec.active b p) (spec.again b p)
      (Alarm.said_parts (spec.cases b) b.defs.now (spec.call b) (spec.alarmed b) b.def.now (spec.around b) (spec.table b) x) note

  abbrev call_of : Note → Arg → List Said → Option Said → Row Bool
  call_of = Alarm.call_alarm (spec.cases b) b.defs.now (spec.call b) (spec.alarmed b) b.def.now (spec.around b) (spec.table b) (spec.active b p) (spec.again b p)

  abbrev head_of : Note → Binder → ℕ → List ClockTerm → Arg
  head_of note bound x cks = Turn.head_of (spec.cases b) b.defs.now (spec.call b) b.def.now (spec.around b) (spec.table b) bound note.ck x cks

  abbrev parts_of : Form-F Note (Form Note) (Expr Note) → Form-F Note HeardForm Heard
  parts_of = map-Form Note (Form Note) (Expr Note) HeardForm Heard (own.heard_form b p) (own.heard b p)

  layer_is : (f v : Form Note) (y : Form-F Note (Form Note) (Expr Note)) → f ≡ v → roll-Form Note y ≡ v → own.layer b p f ≡ parts_of y
  layer_is f v y is rolls = ap (own.layer b p) (is ∙ sym rolls) ∙ ap parts_of (out-roll-Form Note y)

  -- ---- calls

  pub only_passed : (note : Note) (f : Arg) (gs : List Arg) (every : Option Cells) → is_function note ≡ true → RowAlike b.lines own.no_alarm (own.called_alarm b p note f gs every)
  only_passed note f gs every e = λ i l. sym (ap (λ z. if z then Some false else say is_yes (target_row (spec.alarmed b) (target_at b p note f gs every) i)) e)

  pub called_is : (note : Note) (f : Arg) (gs : List Arg) (every : Option Cells) (cells : Cells) (at : _) → is_function note ≡ false → at ≡ target_at b p note f gs every
      → cells ≡ written_row b.lines 0 (target_row (spec.alarmed b) at) → RowAlike b.lines (own.yes_at cells) (own.called_alarm b p note f gs every)
  called_is note f gs every cells at e is row = λ i l.
      ap (λ z. say is_yes (cell_in z i)) row ∙ ap (say is_yes) (written_alike b.lines (target_row (spec.alarmed b) at) i l)
      ∙ ap (λ z. say is_yes (target_row (spec.alarmed b) z i)) is
      ∙ sym (ap (λ z. if z then Some false else say is_yes (target_row (spec.alarmed b) (target_at b p note f gs every) i)) e)

  call_alike : (note : Note) (f f' : Arg) (gs : List Arg) (every : Option Cells) (ss : List Said) (s : Option Said) → ArgAlike b.lines f f' → ArgsAlike b.lines gs (args_said ss) → EveryAlike b.lines every s
      → RowAlike b.lines (own.called_alarm b p note f gs every) (call_of note f' ss s)
  call_alike note f f' gs every ss s q qs e = λ i l. ap (λ z. if is_function note then Some false else say is_yes z)
      (target_alike b p note (spec.alarmed b) (alarms_alike (spec.cases b) b.defs.now b.lines b.depth) f f' gs (args_said ss) every s q qs e i l)

  pub unused : (note : Note) (x : ℕ) (bound : Binder) → note.bound ≡ bound → ((i : ℕ) → own.used_by b p note x bound i ≡ Some false) → RowAlike b.lines own.no_alarm (own.used_alarm b p note x)
  unused note x bound e none = λ i l. sym (ap (λ z. own.used_by b p note x z i) e ∙ none i)

  used_at : (note : Note) (x : ℕ) (bound : Binder) → note.bound ≡ bound → RowAlike b.lines (own.used_by b p note x bound)
      (Alarm.used_alarm (spec.cases b) b.defs.now (spec.call b) (spec.alarmed b) b.def.now (spec.around b) (spec.table b) (spec.active b p) (spec.again b p) note bound x)
  used_at note x (binder.Def k) e = call_alike note (head b note x []) (head_of note (binder.Def k) x []) [] None [] None
      (subst (λ z. ArgAlike b.lines (head_at b z note.ck x []) (head_of note (binder.Def k) x [])) (sym e) (head_alike b (binder.Def k) note.ck x [])) tt tt
  used_at note x (binder.Var k) e = λ i l. refl
  used_at note x (binder.Param k) e = λ i l. refl
  used_at note x binder.Nothing e = λ i l. refl
  used_at note x (binder.Case t k) e = λ i l. refl

  -- ---- forms

  pub quiet_form : (f v : Form Note) (y : Form-F Note (Form Note) (Expr Note)) (note : Note) → f ≡ v → roll-Form Note y ≡ v → ((i : ℕ) → own_of (parts_of y) note i ≡ Some false)
      → RowAlike b.lines own.no_alarm (own.own_alarm b p f note)
  quiet_form f v y note is rolls none = λ i l. sym (ap (λ z. own_of z note i) (layer_is f v y is rolls) ∙ none i)

  pub operator_form : (f : Form Note) (note : Note) (o : Op) (args : List (Expr Note)) (all : List Cells) → f ≡ form.Op o args → all ≡ val.rows b p args
      → RowAlike b.lines (own.operator_alarm b note o all) (own.own_alarm b p f note)
  operator_form f note o args all is e = λ i l.
      ap (λ z. both (spec.on b note.ck i) (know (know_all z) (λ cs. Some (alarm o (values_in cs))))) (in_column b p args all i e l ∙ ap (cells_at i) (sym (saids b p args)))
      ∙ sym (ap (λ z. own_of z note i) (layer_is f (form.Op o args) (Form-F.Op o args) is (form.rolls-Op o args)))

  pub name_form : (f : Form Note) (note : Note) (x : Name) → f ≡ form.Var x → RowAlike b.lines (own.used_alarm b p note x.0) (own.own_alarm b p f note)
  name_form f note x is = λ i l. used_at note x.0 note.bound refl i l ∙ sym (ap (λ z. own_of z note i) (layer_is f (form.Var x) (Form-F.Var x) is (form.rolls-Var x)))

  every_said : (every : Option (Expr Note)) → option_map (λ (h : Heard). h.0) (option_map (own.heard b p) every) ≡ option_map (spec.said b p) every
  every_said None = refl
  every_said (Some e) = ap Some (heard_said b p e)

  call_layer : (f : Form Note) (run : Bool) (x : Name) (args : List (Expr Note)) (every : Option (Expr Note)) → f ≡ form.Call run x args every
      → own.layer b p f ≡ Form-F.Call run x (map (own.heard b p) args) (option_map (own.heard b p) every)
  call_layer f run x args None is = layer_is f (form.Call run x args None) (Form-F.Call run x args None) is (form.rolls-Call run x args None)
  call_layer f run x args (Some e) is = layer_is f (form.Call run x args (Some e)) (Form-F.Call run x args (Some e)) is (form.rolls-Call run x args (Some e))

  own_call : (note : Note) (run : Bool) (x : Name) (hs : List Heard) (every : Option Heard) (i : ℕ) → own_of (Form-F.Call run x hs every) note i
      ≡ call_of note (head_of note note.bound x.0 (clocks_said (map (λ (h : Heard). h.0) hs))) (map (λ (h : Heard). h.0) hs) (option_map (λ (h : Heard). h.0) every) i
  own_call note run x hs None i = refl
  own_call note run x hs (Some h) i = refl

  pub call_form : (f : Form Note) (note : Note) (run : Bool) (x : Name) (args : List (Expr Note)) (every : Option (Expr Note)) (gs : List Arg) (restarts : Option Cells) (cks : List ClockTerm) (g : Arg)
      → f ≡ form.Call run x args every → ArgsAlike b.lines gs (args_said (map (spec.said b p) args)) → restarts ≡ option_map (val.row b p) every → cks ≡ clocks_noted args → g ≡ head b note x.0 cks
      → RowAlike b.lines (own.called_alarm b p note g gs restarts) (own.own_alarm b p f note)
  call_form f note run x args every gs restarts cks g is qs e noted head_is =
      let ss = map (spec.said b p) args in
      let to = head_of note note.bound x.0 (clocks_said ss) in
      let same : ArgAlike b.lines g to = subst (λ z. ArgAlike b.lines z to) (sym (head_is ∙ ap (head b note x.0) (noted ∙ clocks_same b p args))) (head_alike b note.bound note.ck x.0 (clocks_said ss)) in
      λ i l. call_alike note g to gs restarts ss (option_map (spec.said b p) every) same qs (every_alike b p every restarts e) i l
      ∙ sym (ap (λ z. own_of z note i) (call_layer f run x args every is)
      ∙ own_call note run x (map (own.heard b p) args) (option_map (own.heard b p) every) i
      ∙ ap (λ (zs : List Said). call_of note (head_of note note.bound x.0 (clocks_said zs)) zs (option_map (λ (h : Heard). h.0) (option_map (own.heard b p) every)) i) (saids b p args)
      ∙ ap (λ z. call_of note to ss z i) (every_said every))

  -- ---- parts

  pub parts_is : (f v : Form Note) (y : Form-F Note (Form Note) (Expr Note)) → f ≡ v → roll-Form Note y ≡ v → own.parts_alarms b p f ≡ map (own.heard_row b p) (form_parts (parts_of y))
  parts_is f v y is rolls = ap (λ z. map (own.heard_row b p) (form_parts z)) (layer_is f v y is rolls)

  pub rows_are : (args : List (Expr Note)) → own.alarm_rows b p args ≡ map (own.heard_row b p) (map (own.heard b p) args)
  rows_are [] = refl
  rows_are (e ∷ args) = ap (λ z. own.alarm_row b p e ∷ z) (rows_are args)

  truths : (hs : List Heard) (i : ℕ) → i < b.lines → own.truths_at i (map (own.heard_row b p) hs) ≡ parts_alarm i hs
  truths [] i l = refl
  truths (h ∷ hs) i l = ap (λ z. z ∷ own.truths_at i (map (own.heard_row b p) hs)) (written_alike b.lines h.1 i l) ∙ ap (λ z. h.1 i ∷ z) (truths hs i l)

  -- the alarms of an expression from its own and those of its parts
  pub row_of_parts : {E : Type 0} (e : Expr Note) (f : Form Note) (now : own.Truths) (parts : List own.Truths) (r : Result own.Truths E) → f ≡ e.form → RowAlike b.lines (cell_in now) (own.own_alarm b p f e.note)
      → parts ≡ own.parts_alarms b p f → IfOk r (λ v. v ≡ written_row b.lines 0 (own.any_row now parts)) → IfOk r (λ v. v ≡ written_row b.lines 0 (spec.alarm_at b p e))
  row_of_parts e f now parts (Err x) same q is h = h
  row_of_parts e f now parts (Ok v) same q is h = h ∙ written_same b.lines (own.any_row now parts) (spec.alarm_at b p e) (λ i l.
      ap (λ z. either z (any_of (own.truths_at i parts))) (q i l)
      ∙ ap (λ z. either (own.own_alarm b p f e.note i) (any_of (own.truths_at i z))) is
      ∙ ap (λ z. either (own.own_alarm b p f e.note i) (any_of z)) (truths (form_parts (own.layer b p f)) i l)
      ∙ sym (ap (λ (z : Row Bool). z i) (heard_is b p e) ∙ sym (ap (λ z. (own.heard_form b p z e.note).1 i) same)
      ∙ ap (λ (z : HeardForm). (z e.note).1 i) (fold_out-Form Note HeardForm Heard _ _ f)))

  pub listed : (args slice : List (Expr Note)) (old new : List own.Truths) → slice ≡ args → old ≡ [] → new ≡ old ++ own.alarm_rows b p slice → new ≡ map (own.heard_row b p) (map (own.heard b p) args)
  listed args slice old new same none e = e ∙ ap (λ z. z ++ own.alarm_rows b p slice) none ∙ ap (own.alarm_rows b p) same ∙ rows_are args

  branches_are : (choices : List (Case × Expr Note)) → own.branch_alarms b p choices ≡ map (own.heard_row b p) (choice_parts (in_choices (own.heard b p) choices))
  branches_are [] = refl
  branches_are (c ∷ choices) = ap (λ z. own.alarm_row b p c.1 ∷ z) (branches_are choices)

  pub branched : (choices slice : List (Case × Expr Note)) (old new : List own.Truths) → slice ≡ choices → old ≡ [] → new ≡ old ++ own.branch_alarms b p slice
      → new ≡ map (own.heard_row b p) (choice_parts (in_choices (own.heard b p) choices))
  branched choices slice old new same none e = e ∙ ap (λ z. z ++ own.branch_alarms b p slice) none ∙ ap (own.branch_alarms b p) same ∙ branches_are choices

  pub one_part : (e : Expr Note) (old new : List own.Truths) (row : own.Truths) → old ≡ [] → row ≡ own.alarm_row b p e → new ≡ old ++ row ∷ [] → new ≡ own.alarm_row b p e ∷ []
  one_part e old new row none is next = next ∙ ap (λ z. z ++ row ∷ []) none ∙ ap (λ z. z ∷ []) is

  pub two_parts : (x y : Expr Note) (old mid new : List own.Truths) (r s : own.Truths) → old ≡ [] → r ≡ own.alarm_row b p x → mid ≡ old ++ r ∷ [] → s ≡ own.alarm_row b p y → new ≡ mid ++ s ∷ []
      → new ≡ own.alarm_row b p x ∷ own.alarm_row b p y ∷ []
  two_parts x y old mid new r s none is first is' second = second ∙ ap (λ z. z ++ s ∷ []) (one_part x old mid r none is first) ∙ ap (λ z. own.alarm_row b p x ∷ z ∷ []) is'

  parts_append : (hs : List Heard) (e : Expr Note) → map (own.heard_row b p) (hs ++ own.heard b p e ∷ []) ≡ map (own.heard_row b p) hs ++ own.alarm_row b p e ∷ []
  parts_append [] e = refl
  parts_append (h ∷ hs) e = ap (λ z. own.heard_row b p h ∷ z) (parts_append hs e)

  pub with_every : (args slice : List (Expr Note)) (e : Expr Note) (old mid new : List own.Truths) (row : own.Truths) → slice ≡ args → old ≡ [] → mid ≡ old ++ own.alarm_rows b p slice → row ≡ own.alarm_row b p e
      → new ≡ mid ++ row ∷ [] → new ≡ map (own.heard_row b p) (map (own.heard b p) args ++ own.heard b p e ∷ [])
  with_every args slice e old mid new row same none first is second =
      second ∙ ap (λ z. z ++ row ∷ []) (listed args slice old mid same none first) ∙ ap (λ z. map (own.heard_row b p) (map (own.heard b p) args) ++ z ∷ []) is
      ∙ sym (parts_append (map (own.heard b p) args) e)

  no_more : (hs : List Heard) → map (own.heard_row b p) (hs ++ []) ≡ map (own.heard_row b p) hs
  no_more [] = refl
  no_more (h ∷ hs) = ap (λ z. own.heard_row b p h ∷ z) (no_more hs)

  pub call_parts : (f : Form Note) (run : Bool) (x : Name) (args : List (Expr Note)) (every : Option (Expr Note)) → f ≡ form.Call run x args every
      → own.parts_alarms b p f ≡ map (own.heard_row b p) (map (own.heard b p) args ++ option_part (option_map (own.heard b p) every))
  call_parts f run x args every is = ap (λ z. map (own.heard_row b p) (form_parts z)) (call_layer f run x args every is)

  pub without_every : (args slice : List (Expr Note)) (old new : List own.Truths) → slice ≡ args → old ≡ [] → new ≡ old ++ own.alarm_rows b p slice
      → new ≡ map (own.heard_row b p) (map (own.heard b p) args ++ [])
  without_every args slice old new same none e = listed args slice old new same none e ∙ sym (no_more (map (own.heard b p) args))

grouped : {A : Type 0} (xs ys zs : List A) → (xs ++ ys) ++ zs ≡ xs ++ (ys ++ zs)
grouped [] ys zs = refl
grouped (x ∷ xs) ys zs = ap (λ z. x ∷ z) (grouped xs ys zs)

pub appended_next : {A B : Type 0} (f : A → B) (all : List A) (i : ℕ) (x : A) (old done new : List B) (y : B) → i < length all → get_or all i x ≡ x → done ≡ old ++ map f (take i all) → y ≡ f x → new ≡ done ++ y ∷ []
    → new ≡ old ++ map f (take (i + 1) all)
appended_next f all i x old done new y below is so_far one more =
    more ∙ ap (λ z. z ++ y ∷ []) so_far ∙ grouped old (map f (take i all)) (y ∷ [])
    ∙ ap (λ z. old ++ z) (mapped_next f all i x (map f (take i all)) (map f (take i all) ++ y ∷ []) y below is refl one refl)
