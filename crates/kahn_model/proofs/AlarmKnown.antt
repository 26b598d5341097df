-- Whether an instant is alarmed is known where the table is, and what is around the body.
use Rattle.std.specs.Prelude.{◌≡◌, ℕ, ◌≤◌, Bool, true, false, List, [], ◌∷◌, ◌++◌, map, Option, Some, None, if◌then◌else◌}
use Rattle.std.proofs.Common.{sym, ◌∙◌, subst, arith}
use Rattle.ls_ast.specs.declared.tree.Case.{Case}
use Rattle.ls_ast.specs.declared.tree.Expr.{Expr-F, fold-Expr}
use Rattle.ls_ast.specs.declared.tree.Form.{map-Form}
use Rattle.ls_ast.specs.declared.tree.Form.TheOpen.{Form-F}
use Rattle.ls_places.specs.Places.{Place}
use Rattle.ls_sig.specs.declared.binder.Binder.{Binder}
use Rattle.ls_sig.specs.declared.binder.Binder.TheVariants as b
use Rattle.ls_sig.specs.declared.binder.Note.{Note}
use Rattle.kahn_model.specs.declared.cell.Cell.{Cell}
use Rattle.ls_places.specs.declared.definition.Definition.{Definition}
use Rattle.kahn_model.specs.Rows.{Row, IsKnown, know, know_all}
use Rattle.kahn_model.specs.Values.{alarm}
use Rattle.kahn_model.specs.Cells.{is_yes, say, values_in}
use Rattle.ls_places.specs.Clocks.{choice_parts, form_parts, is_function, option_part}
use Rattle.kahn_model.specs.Functions.{Arg, Around, Meaning, Said, args_said, cells_at, clocks_said}
use Rattle.kahn_model.specs.Fullness.{All}
use Rattle.kahn_model.specs.Causality.{RowTo, AroundTo}
use Rattle.ls_places.specs.Search.{E}
use Rattle.ls_places.specs.declared.places.Whole.{Whole}
use Rattle.kahn_model.specs.Turn
use Rattle.kahn_model.specs.Turn.{Table}
use Rattle.kahn_model.specs.Alarm
use Rattle.kahn_model.specs.Alarm.{Heard, HeardForm, any_of, parts_alarm}
use Rattle.kahn_model.specs.Reads
use Rattle.kahn_model.specs.Reads.{Shape, shapes_of, Call, calls_of, Needs, Formed, Reading, together, all_needs, every_needs, earlier, now_only, around_keys, bound_keys, shapes_read}
use Rattle.kahn_model.proofs.Knowing.{both_known, either_known, know_known, know_all_known, some_known}
use Rattle.kahn_model.proofs.Needed
use Rattle.kahn_model.proofs.Needed.{Met, MetBy, met_by, met_left, met_right, by_left, by_right, by_earlier}
use Rattle.kahn_model.proofs.Expressions
use Rattle.kahn_model.proofs.Related
use Rattle.kahn_model.proofs.Rising.{active_here, again_to, arms_around, around_sooner, last_bound_known}
use Rattle.kahn_model.proofs.Related.{in_choices, related, twice}

pub any_known : (os : List (Option Bool)) → All IsKnown os → IsKnown (any_of os)
any_known [] q = some_known false
any_known (o ∷ os) q = either_known o (any_of os) q.0 (any_known os q.1)

module _ (cases : ℕ → Option ℕ) (defs : List Definition) (call : Meaning) (Ok : Call → Type 0) (d : Definition) (a : Around) (T : Table) (top : ℕ) (around : AroundTo top a)
    (calls : (k i : ℕ) → i ≤ top → (c : Around) → Ok (k, shapes_of c.args) → AroundTo i c → IsKnown (call k c i))
    (alarmed : Meaning) (alarms : (k i : ℕ) → i ≤ top → (c : Around) → Ok (k, shapes_of c.args) → AroundTo i c → IsKnown (alarmed k c i)) where
  abbrev shapes : List Shape
  shapes = shapes_of a.args

  module _ (act rst : Row Bool) (act_known : RowTo top act) (rst_known : RowTo top rst)
      (last_known : (bound : Binder) (i : ℕ) → i ≤ top → Met Ok T i (Reads.last_needs d shapes bound) → IsKnown (Turn.last_bound cases defs call d a T bound i)) where
    abbrev Holds : Said → Reading → Type 0
    Holds = Expressions.Holds cases defs call Ok d a T top around calls act rst act_known rst_known

    abbrev HoldsF : (Note → Arg) → (Note → Formed) → Type 0
    HoldsF = Expressions.HoldsF cases defs call Ok d a T top around calls act rst act_known rst_known

    abbrev OnTo : Note → ℕ → Type 0
    OnTo n i = RowTo i (Turn.on cases defs call d a T n.ck)

    abbrev HoldsH : Heard → Reading → Type 0
    HoldsH h r = Holds h.0 r × ((i : ℕ) → i ≤ top → MetBy Ok T i r.needs → IsKnown (h.1 i))

    abbrev HoldsHF : HeardForm → (Note → Formed) → Type 0
    HoldsHF f r = HoldsF (λ n. (f n).0) r × ((n : Note) (i : ℕ) → i ≤ top → OnTo n i → MetBy Ok T i (r n).needs → IsKnown ((f n).1 i))

    abbrev TwoHF : Type 0
    TwoHF = (f : HeardForm) × (r : Note → Formed) × HoldsHF f r

    abbrev TwoH : Type 0
    TwoH = (h : Heard) × (r : Reading) × HoldsH h r

    abbrev TwoF : Type 0
    TwoF = Expressions.TwoF cases defs call Ok d a T top around calls act rst act_known rst_known

    abbrev TwoS : Type 0
    TwoS = Expressions.TwoS cases defs call Ok d a T top around calls act rst act_known rst_known

    abbrev hs : Form-F Note HeardForm Heard → HeardForm
    hs = Alarm.form_heard cases defs call alarmed d a T act rst

    abbrev he : Expr-F Note HeardForm Heard → Heard
    he = Alarm.expr_heard cases defs call alarmed d a T

    abbrev fs : Form-F Note (Note → Arg) Said → Note → Arg
    fs = Turn.form_step cases defs call d a T act rst

    abbrev fr : Form-F Note (Note → Formed) Reading → Note → Formed
    fr = Reads.form_reading d shapes

    abbrev er : Expr-F Note (Note → Formed) Reading → Reading
    er = Reads.expr_reading d shapes

    abbrev Lefts : Form-F Note TwoF TwoS → Form-F Note (Note → Arg) Said
    Lefts = Expressions.Lefts cases defs call Ok d a T top around calls act rst act_known rst_known

    abbrev Rights : Form-F Note TwoF TwoS → Form-F Note (Note → Formed) Reading
    Rights = Expressions.Rights cases defs call Ok d a T top around calls act rst act_known rst_known

    abbrev lefts : Form-F Note TwoHF TwoH → Form-F Note HeardForm Heard
    lefts = Related.lefts hs he fr er HoldsHF HoldsH

    abbrev rights : Form-F Note TwoHF TwoH → Form-F Note (Note → Formed) Reading
    rights = Related.rights hs he fr er HoldsHF HoldsH

    abbrev to_f : TwoHF → TwoF
    to_f p = (λ n. (p.0 n).0, p.1, p.2.0)

    abbrev to_s : TwoH → TwoS
    to_s p = (p.0.0, p.1, p.2.0)

    abbrev quiet : Form-F Note TwoHF TwoH → Form-F Note TwoF TwoS
    quiet = map-Form Note TwoHF TwoH TwoF TwoS to_f to_s

    abbrev said : Form-F Note HeardForm Heard → Form-F Note (Note → Arg) Said
    said = map-Form Note HeardForm Heard (Note → Arg) Said (λ f n. (f n).0) (λ h. h.0)

    left_is : (y : Form-F Note TwoHF TwoH) → Lefts (quiet y) ≡ said (lefts y)
    left_is y = twice Note TwoHF TwoH TwoF TwoS (Note → Arg) Said to_f to_s (λ p. p.0) (λ p. p.0) y
        ∙ sym (twice Note TwoHF TwoH HeardForm Heard (Note → Arg) Said (λ p. p.0) (λ p. p.0) (λ f n. (f n).0) (λ h. h.0) y)

    right_is : (y : Form-F Note TwoHF TwoH) → Rights (quiet y) ≡ rights y
    right_is y = twice Note TwoHF TwoH TwoF TwoS (Note → Formed) Reading to_f to_s (λ p. p.1) (λ p. p.1) y

    -- ---- a form's own alarms

    abbrev ls : List TwoS → List Said
    ls = map {A = TwoS} {B = Said} (λ p. p.0)

    abbrev rs : List TwoS → List Reading
    rs = map {A = TwoS} {B = Reading} (λ p. p.1)

    abbrev left_every : Option TwoS → Option Said
    left_every = Expressions.left_every cases defs call Ok d a T top around calls act rst act_known rst_known

    abbrev right_every : Option TwoS → Option Reading
    right_every = Expressions.right_every cases defs call Ok d a T top around calls act rst act_known rst_known

    by_flag : (t : Bool) (o : Option Bool) (cs : List Call) → (All Ok cs → IsKnown o) → All Ok (if t then [] else cs) → IsKnown (if t then Some false else o)
    by_flag true o cs f q = some_known false
    by_flag false o cs f q = f q

    say_known : (f : Cell → Bool) (c : Option Cell) → IsKnown c → IsKnown (say f c)
    say_known f c p = know_known c (λ x. Some (f x)) p (λ x e. some_known (f x))

    call_known : (n : Note) (bound : Binder) (x : ℕ) (ps : List TwoS) (s : Option TwoS) (i : ℕ) → i ≤ top → OnTo n i
        → Met Ok T i (Reads.called d shapes n bound x (rs ps) (right_every s)).needs
        → IsKnown (Alarm.call_alarm cases defs call alarmed d a T act rst n (Turn.head_of cases defs call d a T bound n.ck x (clocks_said (ls ps))) (ls ps) (left_every s) i)
    call_known n bound x ps s i t o m =
        let f : Arg = Turn.head_of cases defs call d a T bound n.ck x (clocks_said (ls ps)) in
        let xs : List Arg = args_said (ls ps) in
        let on : Row Bool = Turn.on cases defs call d a T n.ck in
        let ev : Row Bool = Turn.every_too cases defs call d a T rst (left_every s) in
        let head : Needs = Expressions.head_needs cases defs call Ok d a T top around calls act rst act_known rst_known n bound x (rs ps) in
        let more : Needs = together (all_needs (rs ps)) (every_needs (right_every s)) in
        let mine : Met Ok T i head = met_left Ok T i head more m in
        let rest : Met Ok T i more = met_right Ok T i head more m in
        by_flag (is_function n) (say is_yes (Turn.apply cases defs alarmed d a T f xs on act ev i)) (calls_of (Reads.head_shape d shapes bound x) (shapes_read (rs ps)))
        (λ ok. say_known is_yes (Turn.apply cases defs alarmed d a T f xs on act ev i)
        (Expressions.apply_known cases defs alarmed Ok d a T top around alarms i t f xs on act ev
        (Expressions.head_to cases defs call Ok d a T top around calls act rst act_known rst_known n bound x ps i t mine)
        (Expressions.args_to cases defs call Ok d a T top around calls act rst act_known rst_known ps i t (met_left Ok T i (all_needs (rs ps)) (every_needs (right_every s)) rest))
        o (λ j l. act_known j (omega (arith, l, t)))
        (Expressions.every_to cases defs call Ok d a T top around calls act rst act_known rst_known s i t (met_right Ok T i (all_needs (rs ps)) (every_needs (right_every s)) rest))
        (subst (λ h. All Ok (calls_of h (shapes_of xs))) (sym (Expressions.head_shape_is cases defs call Ok d a T top around calls bound n.ck x (clocks_said (ls ps))))
        (subst (λ ss. All Ok (calls_of (Reads.head_shape d shapes bound x) ss)) (sym (Expressions.shapes_same cases defs call Ok d a T top around calls act rst act_known rst_known ps)) ok))))
        mine.ok

    used_known : (n : Note) (bound : Binder) (x i : ℕ) → i ≤ top → OnTo n i → Met Ok T i (Reads.used d shapes n bound x).needs → IsKnown (Alarm.used_alarm cases defs call alarmed d a T act rst n bound x i)
    used_known n (b.Def k) x i t o m = call_known n (b.Def k) x [] None i t o m
    used_known n (b.Var k) x i t o m = some_known false
    used_known n (b.Param k) x i t o m = some_known false
    used_known n b.Nothing x i t o m = some_known false
    used_known n (b.Case c k) x i t o m = some_known false

    own_known : (y : Form-F Note TwoF TwoS) (n : Note) (i : ℕ) → i ≤ top → OnTo n i → Met Ok T i (fr (Rights y) n).needs → IsKnown (Alarm.own_alarm cases defs call alarmed d a T act rst (Lefts y) n i)
    own_known (Form-F.Op op args) n i t o m = both_known (Turn.on cases defs call d a T n.ck i) (know (know_all (cells_at i (ls args))) (λ cs. Some (alarm op (values_in cs)))) (o i (omega arith))
        (know_known (know_all (cells_at i (ls args))) (λ cs. Some (alarm op (values_in cs)))
        (know_all_known (cells_at i (ls args)) (Expressions.all_cells cases defs call Ok d a T top around calls act rst act_known rst_known args i t m)) (λ cs z. some_known (alarm op (values_in cs))))
    own_known (Form-F.Var x) n i t o m = used_known n n.bound x.0 i t o m
    own_known (Form-F.Call run head args None) n i t o m = call_known n n.bound head.0 args None i t o m
    own_known (Form-F.Call run head args (Some s)) n i t o m = call_known n n.bound head.0 args (Some s) i t o m
    own_known (Form-F.Leaf l) n i t o m = some_known false
    own_known (Form-F.Case x) n i t o m = some_known false
    own_known (Form-F.Last x) n i t o m = some_known false
    own_known (Form-F.Asked x) n i t o m = some_known false
    own_known (Form-F.Tuple all) n i t o m = some_known false
    own_known (Form-F.Pre e) n i t o m = some_known false
    own_known (Form-F.Fby x y) n i t o m = some_known false
    own_known (Form-F.Init x y) n i t o m = some_known false
    own_known (Form-F.When e x k) n i t o m = some_known false
    own_known (Form-F.Merge x choices) n i t o m = some_known false

    -- ---- those of its parts

    abbrev By : ℕ → Needs → Type 0
    By i r = MetBy Ok T i r

    list_known : (i : ℕ) → i ≤ top → (ps : List TwoH) → By i (all_needs (map {A = TwoH} {B = Reading} (λ p. p.1) ps)) → All IsKnown (parts_alarm i (map {A = TwoH} {B = Heard} (λ p. p.0) ps))
    list_known i t [] m = tt
    list_known i t (p ∷ ps) m = (
      p.2.1 i t (by_left Ok T i p.1.needs (all_needs (map {A = TwoH} {B = Reading} (λ p. p.1) ps)) m),
      list_known i t ps (by_right Ok T i p.1.needs (all_needs (map {A = TwoH} {B = Reading} (λ p. p.1) ps)) m),
    )

    choices_known : (i : ℕ) → i ≤ top → (ps : List (Case × TwoH)) → By i (all_needs (choice_parts (in_choices {X = TwoH} {Y = Reading} (λ p. p.1) ps)))
        → All IsKnown (parts_alarm i (choice_parts (in_choices {X = TwoH} {Y = Heard} (λ p. p.0) ps)))
    choices_known i t [] m = tt
    choices_known i t (p ∷ ps) m = (
      p.1.2.1 i t (by_left Ok T i p.1.1.needs (all_needs (choice_parts (in_choices {X = TwoH} {Y = Reading} (λ p. p.1) ps))) m),
      choices_known i t ps (by_right Ok T i p.1.1.needs (all_needs (choice_parts (in_choices {X = TwoH} {Y = Reading} (λ p. p.1) ps))) m),
    )

    abbrev left_part : Option TwoH → Option Heard
    left_part None = None
    left_part (Some p) = Some p.0

    abbrev right_part : Option TwoH → Option Reading
    right_part None = None
    right_part (Some p) = Some p.1

    every_known : (i : ℕ) → i ≤ top → (s : Option TwoH) → By i (every_needs (right_part s)) → All IsKnown (parts_alarm i (option_part (left_part s)))
    every_known i t None m = tt
    every_known i t (Some p) m = (p.2.1 i t m, tt)

    more_known : (i : ℕ) → i ≤ top → (ps : List TwoH) (s : Option TwoH) → By i (together (all_needs (map {A = TwoH} {B = Reading} (λ p. p.1) ps)) (every_needs (right_part s)))
        → All IsKnown (parts_alarm i (map {A = TwoH} {B = Heard} (λ p. p.0) ps ++ option_part (left_part s)))
    more_known i t ps s m = joined_known ps (list_known i t ps (by_left Ok T i (all_needs (map {A = TwoH} {B = Reading} (λ p. p.1) ps)) (every_needs (right_part s)) m))
        (every_known i t s (by_right Ok T i (all_needs (map {A = TwoH} {B = Reading} (λ p. p.1) ps)) (every_needs (right_part s)) m))
      where
        joined_known : (ps : List TwoH) → All IsKnown (parts_alarm i (map {A = TwoH} {B = Heard} (λ p. p.0) ps)) → All IsKnown (parts_alarm i (option_part (left_part s)))
            → All IsKnown (parts_alarm i (map {A = TwoH} {B = Heard} (λ p. p.0) ps ++ option_part (left_part s)))
        joined_known [] p q = q
        joined_known (x ∷ ps) p q = (p.0, joined_known ps p.1 q)

    abbrev restarts' : Note → Needs
    restarts' n = now_only (Reads.restart_keys d shapes n.restarts)

    parts_known : (y : Form-F Note TwoHF TwoH) (n : Note) (i : ℕ) → i ≤ top → By i (fr (rights y) n).needs → All IsKnown (parts_alarm i (form_parts (lefts y)))
    parts_known (Form-F.Op op args) n i t m = list_known i t args m
    parts_known (Form-F.Tuple all) n i t m = list_known i t all m
    parts_known (Form-F.Pre p) n i t m = (p.2.1 i t (by_earlier Ok T i p.1.needs (by_right Ok T i (restarts' n) (earlier p.1.needs) m)), tt)
    parts_known (Form-F.Fby x y) n i t m =
        let k = by_right Ok T i (restarts' n) (together x.1.needs (earlier y.1.needs)) m in
        (x.2.1 i t (by_left Ok T i x.1.needs (earlier y.1.needs) k), (y.2.1 i t (by_earlier Ok T i y.1.needs (by_right Ok T i x.1.needs (earlier y.1.needs) k)), tt))
    parts_known (Form-F.Init x y) n i t m =
        let k = by_right Ok T i (restarts' n) (together x.1.needs y.1.needs) m in
        (x.2.1 i t (by_left Ok T i x.1.needs y.1.needs k), (y.2.1 i t (by_right Ok T i x.1.needs y.1.needs k), tt))
    parts_known (Form-F.When p x k) n i t m = (p.2.1 i t m, tt)
    parts_known (Form-F.Merge x choices) n i t m = choices_known i t choices
        (by_right Ok T i (now_only (bound_keys n.bound)) (all_needs (choice_parts (in_choices {X = TwoH} {Y = Reading} (λ p. p.1) choices))) m)
    parts_known (Form-F.Call run head args None) n i t m = more_known i t args None
        (by_right Ok T i (Expressions.head_needs cases defs call Ok d a T top around calls act rst act_known rst_known n n.bound head.0 (map {A = TwoH} {B = Reading} (λ p. p.1) args))
        (together (all_needs (map {A = TwoH} {B = Reading} (λ p. p.1) args)) (every_needs None)) m)
    parts_known (Form-F.Call run head args (Some s)) n i t m = more_known i t args (Some s)
        (by_right Ok T i (Expressions.head_needs cases defs call Ok d a T top around calls act rst act_known rst_known n n.bound head.0 (map {A = TwoH} {B = Reading} (λ p. p.1) args))
        (together (all_needs (map {A = TwoH} {B = Reading} (λ p. p.1) args)) (every_needs (Some s.1))) m)
    parts_known (Form-F.Leaf l) n i t m = tt
    parts_known (Form-F.Case x) n i t m = tt
    parts_known (Form-F.Var x) n i t m = tt
    parts_known (Form-F.Last x) n i t m = tt
    parts_known (Form-F.Asked x) n i t m = tt

    form_known : (y : Form-F Note TwoHF TwoH) → HoldsHF (hs (lefts y)) (fr (rights y))
    form_known y = (
      subst (λ z. HoldsF (fs z) (fr (rights y))) (left_is y)
          (subst (λ z. HoldsF (fs (Lefts (quiet y))) (fr z)) (right_is y)
          (Expressions.layer cases defs call Ok d a T top around calls act rst act_known rst_known last_known (quiet y))),
      λ n i t o m. either_known (Alarm.own_alarm cases defs call alarmed d a T act rst (said (lefts y)) n i) (any_of (parts_alarm i (form_parts (lefts y))))
          (subst (λ z. IsKnown (Alarm.own_alarm cases defs call alarmed d a T act rst z n i)) (left_is y)
          (own_known (quiet y) n i t o (subst (λ z. Met Ok T i (fr z n).needs) (sym (right_is y)) (met_by Ok T i (fr (rights y) n).needs m))))
          (any_known (parts_alarm i (form_parts (lefts y))) (parts_known y n i t m)),
    )

    expr_known : (n : Note) (p : TwoHF) → HoldsH (he (record { note = n; form = p.0 })) (er (record { note = n; form = p.1 }))
    expr_known n p = (
      Expressions.es_holds cases defs call Ok d a T top around calls act rst act_known rst_known last_known n (to_f p),
      λ i t m.
          let own : Needs = now_only (Reads.clock_keys d shapes n.ck) in
          p.2.1 n i t
          (λ j l. Expressions.clock_known cases defs call Ok d a T top around calls n.ck j (omega (arith, l, t))
          (Needed.met_to Ok T i j own l (met_by Ok T i own (by_left Ok T i own (p.1 n).needs m))).is_now)
          (by_right Ok T i own (p.1 n).needs m),
    )

    pub heard_known : (e : E) → HoldsH (fold-Expr Note HeardForm Heard hs he e) (Reads.reading d shapes e)
    heard_known = related hs he fr er HoldsHF HoldsH form_known expr_known

module _ (cases : ℕ → Option ℕ) (defs : List Definition) (call : Meaning) (Ok : Call → Type 0) (d : Definition) (a : Around) (T : Table) (top : ℕ) (around : AroundTo top a)
    (calls : (k i : ℕ) → i ≤ top → (c : Around) → Ok (k, shapes_of c.args) → AroundTo i c → IsKnown (call k c i))
    (alarmed : Meaning) (alarms : (k i : ℕ) → i ≤ top → (c : Around) → Ok (k, shapes_of c.args) → AroundTo i c → IsKnown (alarmed k c i)) where
  abbrev args : List Shape
  args = shapes_of a.args

  alarm_at_known : (p : Place) (e : E) (i : ℕ) → i ≤ top → MetBy Ok T i (Reads.needs_at d args p e) → IsKnown (Alarm.alarm_at cases defs call alarmed d a T p e i)
  alarm_at_known p e i t m =
      let act : Row Bool = Turn.active cases defs call d a T p in
      let rst : Row Bool = Turn.again cases defs call d a T p in
      let here : Needs = now_only (around_keys p) in
      let more : Needs = (Reads.reading d args e).needs in
      let own : Met Ok T i here = met_by Ok T i here (by_left Ok T i here more m) in
      (heard_known cases defs call Ok d a T i (around_sooner i top t a around) (λ k j l c o ar. calls k j (omega (arith, l, t)) c o ar) alarmed (λ k j l c o ar. alarms k j (omega (arith, l, t)) c o ar) act rst
      (λ j l. active_here cases defs call Ok d a T top around calls j (omega (arith, l, t)) p
      (arms_around cases defs call Ok d a T top around calls j p (Needed.met_to Ok T i j here l own).is_now))
      (again_to cases defs call Ok d a T top around calls i t p more (met_by Ok T i (Reads.needs_at d args p e) m))
      (λ bound j l n. last_bound_known cases defs call Ok d a T top around calls bound j (omega (arith, l, t)) n) e).1 i (omega arith)
      (by_right Ok T i here more m)

  pub any_alarm_known : (all : List (Whole Note)) (i : ℕ) → i ≤ top → All (λ (w : Whole Note). MetBy Ok T i (Reads.needs_at d args w.place w.expr)) all
      → IsKnown (Alarm.any_alarm cases defs call alarmed d a T all i)
  any_alarm_known [] i t q = some_known false
  any_alarm_known (w ∷ all) i t q = either_known (Alarm.alarm_at cases defs call alarmed d a T w.place w.expr i) (Alarm.any_alarm cases defs call alarmed d a T all i)
      (alarm_at_known w.place w.expr i t q.0) (any_alarm_known all i t q.1)
