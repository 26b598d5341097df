-- The meaning of a definition, one call less deep.
use Rattle.std.specs.Prelude.{◌≡◌, ◌≢◌, refl, ℕ, zero, suc, ◌+◌, ◌-◌, ◌<◌, length, List, [], ◌∷◌, Bool, Option, Some, None}
use Rattle.std.proofs.Common.{ap, sym, ◌∙◌, arith, drop, get_or}
use Rattle.kahn_cells.proofs.Binds.{one_on}
use Rattle.ls_ast.specs.declared.tree.DefOf.{DefOf}
use Rattle.ls_places.specs.declared.places.Whole.{Whole}
use Rattle.kahn_model.specs.Turn.{Table as Asked}
use Rattle.ls_places.specs.Places.{Place}
use Rattle.ls_sig.specs.declared.binder.Note.{Note}
use Rattle.ls_places.specs.Definitions.{case_place}
use Rattle.ls_places.specs.declared.definition.Definition.{Definition}
use Rattle.kahn_model.specs.Alarm
use Rattle.kahn_model.specs.Alarm.{yes_cell}
use Rattle.kahn_model.specs.Functions.{Around}
use Rattle.kahn_model.specs.Rows.{Row, either, know}
use Rattle.ls_places.specs.Search.{nth}
use Rattle.kahn_model.specs.Table.{cell_in, written_row}
use Rattle.kahn_model.specs.Table
use Rattle.kahn_model.specs.Turn
use Rattle.kahn_exprs.specs.declared.body.Body.{Body}
use Rattle.kahn_exprs.specs.Body as spec
use Rattle.kahn_plain.specs.Alarms as heard
use Rattle.kahn_plain.specs.Turns as own
use Rattle.kahn_plain.proofs.Standing.{by_cells, cell_is, same_on}

pub result_is : (b : Body) (T : Asked) (d : Definition) → T ≡ own.least b → d ≡ b.def.now
    → written_row b.lines 0 (Turn.cell (spec.cases b) b.defs.now (spec.call b) b.def.now (spec.around b) T [] d.result) ≡ written_row b.lines 0 (own.result b)
result_is b T d e f =
    ap (λ (z : Asked). written_row b.lines 0 (Turn.cell (spec.cases b) b.defs.now (spec.call b) b.def.now (spec.around b) z [] d.result)) e
    ∙ ap (λ (z : Definition). written_row b.lines 0 (Turn.cell (spec.cases b) b.defs.now (spec.call b) b.def.now (spec.around b) (own.least b) [] z.result)) f

one_less : (i : ℕ) → suc i - 1 ≡ i
one_less i = omega arith

module _ (cases : ℕ → Option ℕ) (defs : List Definition) (n : ℕ) where
  pub none_means : (depth k : ℕ) (a : Around) → depth ≢ 0 → None ≡ nth defs k → written_row n 0 (λ i. None) ≡ written_row n 0 (Table.meaning cases defs n depth k a)
  none_means zero k a p e = absurd (p refl)
  none_means (suc depth) k a p e = ap (λ z. written_row n 0 (Table.body cases defs n (Table.meaning cases defs n depth) z a)) e

  pub some_means : (depth k : ℕ) (a : Around) (d : Definition) → depth ≢ 0 → Some d ≡ nth defs k
      → written_row n 0 (Table.body cases defs n (Table.meaning cases defs n (depth - 1)) (Some d) a) ≡ written_row n 0 (Table.meaning cases defs n depth k a)
  some_means zero k a d p e = absurd (p refl)
  some_means (suc depth) k a d p e = ap (λ z. written_row n 0 (Table.body cases defs n (Table.meaning cases defs n z) (Some d) a)) (one_less depth)
      ∙ ap (λ z. written_row n 0 (Table.body cases defs n (Table.meaning cases defs n depth) z a)) e

pub same_means : (file file' : List (DefOf Note)) (defs defs' : List Definition) (n n' depth depth' k : ℕ) (a : Around) → file' ≡ file → defs' ≡ defs → n' ≡ n → depth' ≡ depth
    → written_row n 0 (Table.meaning (case_place file) defs n depth k a) ≡ written_row n' 0 (Table.meaning (case_place file') defs' n' depth' k a)
same_means file file' defs defs' n n' depth depth' k a e f g h = sym (
    ap (λ z. written_row n' 0 (Table.meaning (case_place z) defs' n' depth' k a)) e
    ∙ ap (λ z. written_row n' 0 (Table.meaning (case_place file) z n' depth' k a)) f
    ∙ ap (λ z. written_row z 0 (Table.meaning (case_place file) defs z depth' k a)) g
    ∙ ap (λ z. written_row n 0 (Table.meaning (case_place file) defs n z k a)) h)

-- ---- alarms

either_is : (n : ℕ) (r s : Row Bool) (a c : List (Option Bool)) → a ≡ written_row n 0 r → c ≡ written_row n 0 s
    → written_row n 0 (λ i. either (cell_in a i) (cell_in c i)) ≡ written_row n 0 (λ i. either (r i) (s i))
either_is n r s a c e f = same_on n (λ i. either (cell_in a i) (cell_in c i)) (λ i. either (r i) (s i))
    (λ i p. ap (λ z. either z (cell_in c i)) (ap (λ z. cell_in z i) e ∙ cell_is n i r p) ∙ ap (either (r i)) (ap (λ z. cell_in z i) f ∙ cell_is n i s p))

pub any_more : (b : Body) (w : Whole Note) (p : Place) (rest : List (Whole Note)) (a c : List (Option Bool)) → a ≡ written_row b.lines 0 (spec.alarm_at b p w.expr) → p ≡ w.place
    → c ≡ written_row b.lines 0 (heard.any_alarm b rest) → written_row b.lines 0 (λ i. either (cell_in a i) (cell_in c i)) ≡ written_row b.lines 0 (heard.any_alarm b (w ∷ rest))
any_more b w p rest a c e place f =
    either_is b.lines (spec.alarm_at b w.place w.expr) (heard.any_alarm b rest) a c (e ∙ ap (λ z. written_row b.lines 0 (spec.alarm_at b z w.expr)) place) f

-- from the end of the list, one step on
cons_back : (all : List (Whole Note)) (back : ℕ) (w : Whole Note) → back < length all → get_or all (length all - 1 - back) w ≡ w → w ∷ drop (length all - back) all ≡ drop (length all - (back + 1)) all
cons_back all back w below is =
    let same : length all - (back + 1) ≡ length all - 1 - back = omega arith in
    let on : length all - (back + 1) + 1 ≡ length all - back = omega (arith, below) in
    ap (λ z. w ∷ drop z all) (sym on) ∙ sym (one_on all (length all - (back + 1)) w (omega (arith, below)) (ap (λ z. get_or all z w) same ∙ is))

pub any_next : (b : Body) (all : List (Whole Note)) (back : ℕ) (w : Whole Note) (p : Place) (a c : List (Option Bool)) → back < length all → get_or all (length all - 1 - back) w ≡ w
    → a ≡ written_row b.lines 0 (spec.alarm_at b p w.expr) → p ≡ w.place → c ≡ written_row b.lines 0 (heard.any_alarm b (drop (length all - back) all))
    → written_row b.lines 0 (λ i. either (cell_in a i) (cell_in c i)) ≡ written_row b.lines 0 (heard.any_alarm b (drop (length all - (back + 1)) all))
any_next b all back w p a c below is e place f =
    any_more b w p (drop (length all - back) all) a c e place f ∙ ap (λ z. written_row b.lines 0 (heard.any_alarm b z)) (cons_back all back w below is)

pub alarms_are : (b : Body) (T : Asked) (exprs : List (Whole Note)) (cells : List (Option Bool)) → T ≡ own.least b → exprs ≡ b.def.now.places.exprs
    → cells ≡ written_row b.lines 0 (Alarm.any_alarm (spec.cases b) b.defs.now (spec.call b) (spec.alarmed b) b.def.now (spec.around b) T exprs)
    → written_row b.lines 0 (λ i. know (cell_in cells i) yes_cell) ≡ written_row b.lines 0 (heard.alarms b)
alarms_are b T exprs cells e f h =
    by_cells b.lines (λ i c. know c yes_cell) (Alarm.any_alarm (spec.cases b) b.defs.now (spec.call b) (spec.alarmed b) b.def.now (spec.around b) T exprs) cells h
    ∙ ap (λ (z : Asked). written_row b.lines 0 (λ i. know (Alarm.any_alarm (spec.cases b) b.defs.now (spec.call b) (spec.alarmed b) b.def.now (spec.around b) z exprs i) yes_cell)) e
    ∙ ap (λ z. written_row b.lines 0 (λ i. know (Alarm.any_alarm (spec.cases b) b.defs.now (spec.call b) (spec.alarmed b) b.def.now (spec.around b) (own.least b) z i) yes_cell)) f

module _ (cases : ℕ → Option ℕ) (defs : List Definition) (n : ℕ) where
  pub none_alarmed : (depth k : ℕ) (a : Around) → depth ≢ 0 → None ≡ nth defs k → written_row n 0 (λ i. None) ≡ written_row n 0 (Alarm.alarms cases defs n depth k a)
  none_alarmed zero k a p e = absurd (p refl)
  none_alarmed (suc depth) k a p e = ap (λ z. written_row n 0 (λ i. know (Alarm.alarm_in cases defs n (Table.meaning cases defs n depth) (Alarm.alarms cases defs n depth) z a i) yes_cell)) e

  pub some_alarmed : (depth k : ℕ) (a : Around) (d : Definition) → depth ≢ 0 → Some d ≡ nth defs k
      → written_row n 0 (λ i. know (Alarm.alarm_in cases defs n (Table.meaning cases defs n (depth - 1)) (Alarm.alarms cases defs n (depth - 1)) (Some d) a i) yes_cell)
      ≡ written_row n 0 (Alarm.alarms cases defs n depth k a)
  some_alarmed zero k a d p e = absurd (p refl)
  some_alarmed (suc depth) k a d p e =
      ap (λ z. written_row n 0 (λ i. know (Alarm.alarm_in cases defs n (Table.meaning cases defs n z) (Alarm.alarms cases defs n z) (Some d) a i) yes_cell)) (one_less depth)
      ∙ ap (λ z. written_row n 0 (λ i. know (Alarm.alarm_in cases defs n (Table.meaning cases defs n depth) (Alarm.alarms cases defs n depth) z a i) yes_cell)) e

pub same_alarmed : (file file' : List (DefOf Note)) (defs defs' : List Definition) (n n' depth depth' k : ℕ) (a : Around) → file' ≡ file → defs' ≡ defs → n' ≡ n → depth' ≡ depth
    → written_row n 0 (Alarm.alarms (case_place file) defs n depth k a) ≡ written_row n' 0 (Alarm.alarms (case_place file') defs' n' depth' k a)
same_alarmed file file' defs defs' n n' depth depth' k a e f g h = sym (
    ap (λ z. written_row n' 0 (Alarm.alarms (case_place z) defs' n' depth' k a)) e
    ∙ ap (λ z. written_row n' 0 (Alarm.alarms (case_place file) z n' depth' k a)) f
    ∙ ap (λ z. written_row z 0 (Alarm.alarms (case_place file) defs z depth' k a)) g
    ∙ ap (λ z. written_row n 0 (Alarm.alarms (case_place file) defs n z k a)) h)
