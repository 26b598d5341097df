-- The constraints of a body say what its rules say.
use Rattle.std.specs.Prelude.{◌≡◌, refl, ℕ, ◌||◌, not, Bool, true, false, List, [], ◌∷◌, ◌++◌, map, Option, Some, None, if◌then◌else◌}
use Rattle.std.proofs.Common.{ap, ap₂, sym, ◌∙◌, subst}
use Rattle.ls_ast.specs.declared.tree.Case.{Case}
use Rattle.ls_ast.specs.declared.tree.Expr.{Expr-F}
use Rattle.ls_ast.specs.declared.tree.Form.TheOpen.{Form-F}
use Rattle.ls_places.specs.Patterns.{joined}
use Rattle.ls_places.specs.Places.{Place}
use Rattle.ls_sig.specs.declared.binder.Binder.{Binder}
use Rattle.ls_sig.specs.declared.binder.Binder.TheVariants as b
use Rattle.ls_sig.specs.declared.binder.Note.{Note}
use Rattle.ls_places.specs.declared.places.Start.{Start}
use Rattle.ls_places.specs.declared.places.Variable.{Variable}
use Rattle.ls_sig.specs.declared.sigs.InitSig.{InitSig}
use Rattle.ls_places.specs.declared.definition.Definition.{Definition}
use Rattle.ls_places.specs.Clocks.{any, choice_parts, is_function}
use Rattle.ls_places.specs.Search.{E, nth, start_of}
use Rattle.tree_notes.proofs.Related
use Rattle.tree_notes.proofs.Refold.{in_choices}
use Rattle.tree_notes.proofs.Related.{related}
use Rattle.init_rules.specs.Slots as graph
use Rattle.init_rules.specs.Slots.{Slot, of_param, of_var, of_start, Bits, Source, always, from, some}
use Rattle.init_rules.specs.Bits as bits
use Rattle.init_rules.specs.Bits.{Both, Judged, if_so, greatest, any_wrong, barred, reached, own_of, leaves_reset, param_of}
use Rattle.init_rules.specs.Flow as flow
use Rattle.init_rules.specs.Flow.{Flow, Sourced, if_list, if_always, sources_of, zeros_of, barred_of, reached_of}

-- ---- the greatest bit of several

pub or_assoc : (a c e : Bool) → ((a || c) || e) ≡ (a || (c || e))
or_assoc true c e = refl
or_assoc false c e = refl

pub or_false_right : (a : Bool) → (a || false) ≡ a
or_false_right true = refl
or_false_right false = refl

module _ (A : Bits) where
  pub some_append : (xs ys : List Source) → some A (xs ++ ys) ≡ (some A xs || some A ys)
  some_append [] ys = refl
  some_append (x ∷ xs) ys = ap (λ z. graph.source_bit A x || z) (some_append xs ys) ∙ sym (or_assoc (graph.source_bit A x) (some A xs) (some A ys))

  pub both_parts : (c e : Bool) (xs ys : List Source) → c ≡ some A xs → e ≡ some A ys → (c || e) ≡ some A (xs ++ ys)
  both_parts c e xs ys p q = ap₂ (λ (u : Bool) v. u || v) p q ∙ sym (some_append xs ys)

  pub one_source : (s : Slot) → A s ≡ some A (from s ∷ [])
  one_source s = sym (or_false_right (A s))

  pub if_sources : (t c : Bool) (xs : List Source) → c ≡ some A xs → if_so t c ≡ some A (if_list t xs)
  if_sources true c xs p = p
  if_sources false c xs p = refl

  pub if_own : (t : Bool) → t ≡ some A (if_always t)
  if_own true = refl
  if_own false = refl

  pub any_joined : {X : Type 0} (f : X → Bool) (g : X → List Source) → ((x : X) → f x ≡ some A (g x)) → (xs : List X) → any (map f xs) ≡ some A (joined (map g xs))
  any_joined f g h [] = refl
  any_joined f g h (x ∷ xs) = both_parts (f x) (any (map f xs)) (g x) (joined (map g xs)) (h x) (any_joined f g h xs)

  module _ (d : Definition) (sigs : List InitSig) (p : Place) where
    abbrev pub Holds : Judged → Sourced → Type 0
    Holds j r = (j.note ≡ r.note) × (j.bit ≡ some A r.sources) × (j.wrong ≡ some A r.zeros)

    abbrev pub Same : Both → Flow → Type 0
    Same j r = (j.bit ≡ some A r.sources) × (j.wrong ≡ some A r.zeros)

    abbrev pub HoldsF : (Note → Both) → (Note → Flow) → Type 0
    HoldsF f r = (n : Note) → Same (f n) (r n)

    abbrev pub TwoF : Type 0
    TwoF = (f : Note → Both) × (r : Note → Flow) × HoldsF f r

    abbrev pub TwoS : Type 0
    TwoS = (j : Judged) × (r : Sourced) × Holds j r

    abbrev fs : Form-F Note (Note → Both) Judged → Note → Both
    fs = bits.form_bits d sigs A p

    abbrev es : Expr-F Note (Note → Both) Judged → Judged
    es = bits.expr_bits d sigs A

    abbrev fr : Form-F Note (Note → Flow) Sourced → Note → Flow
    fr = flow.form_flow d sigs p

    abbrev er : Expr-F Note (Note → Flow) Sourced → Sourced
    er = flow.expr_flow d sigs

    abbrev ls : List TwoS → List Judged
    ls = map {A = TwoS} {B = Judged} (λ q. q.0)

    abbrev rs : List TwoS → List Sourced
    rs = map {A = TwoS} {B = Sourced} (λ q. q.1)

    greatest_is : (ps : List TwoS) → greatest (ls ps) ≡ some A (sources_of (rs ps))
    greatest_is [] = refl
    greatest_is (q ∷ ps) = both_parts q.0.bit (greatest (ls ps)) q.1.sources (sources_of (rs ps)) q.2.1 (greatest_is ps)

    wrong_is : (ps : List TwoS) → any_wrong (ls ps) ≡ some A (zeros_of (rs ps))
    wrong_is [] = refl
    wrong_is (q ∷ ps) = both_parts q.0.wrong (any_wrong (ls ps)) q.1.zeros (zeros_of (rs ps)) q.2.2 (wrong_is ps)

    all_is : (ps : List TwoS) → (greatest (ls ps) || any_wrong (ls ps)) ≡ some A (sources_of (rs ps) ++ zeros_of (rs ps))
    all_is ps = both_parts (greatest (ls ps)) (any_wrong (ls ps)) (sources_of (rs ps)) (zeros_of (rs ps)) (greatest_is ps) (wrong_is ps)

    barred_is : (may : List Bool) (ps : List TwoS) → barred may (ls ps) ≡ some A (barred_of may (rs ps))
    barred_is may [] = refl
    barred_is [] (q ∷ ps) = both_parts q.0.bit (barred [] (ls ps)) q.1.sources (barred_of [] (rs ps)) q.2.1 (barred_is [] ps)
    barred_is (m ∷ may) (q ∷ ps) = both_parts (if_so (not m) q.0.bit) (barred may (ls ps)) (if_list (not m) q.1.sources) (barred_of may (rs ps))
        (if_sources (not m) q.0.bit q.1.sources q.2.1) (barred_is may ps)

    reached_is : (reaches : List Bool) (ps : List TwoS) → reached reaches (ls ps) ≡ some A (reached_of reaches (rs ps))
    reached_is [] ps = refl
    reached_is (m ∷ reaches) [] = refl
    reached_is (m ∷ reaches) (q ∷ ps) = both_parts (if_so m q.0.bit) (reached reaches (ls ps)) (if_list m q.1.sources) (reached_of reaches (rs ps))
        (if_sources m q.0.bit q.1.sources q.2.1) (reached_is reaches ps)

    call_is : (s : Option InitSig) (ps : List TwoS) → Same (bits.call_bits s (ls ps)) (flow.call_flow s (rs ps))
    call_is None ps = (refl, all_is ps)
    call_is (Some s) ps = (
      both_parts s.own (reached s.reaches (ls ps)) (if_always s.own) (reached_of s.reaches (rs ps)) (if_own s.own) (reached_is s.reaches ps),
      both_parts (barred s.may (ls ps)) (any_wrong (ls ps)) (barred_of s.may (rs ps)) (zeros_of (rs ps)) (barred_is s.may ps) (wrong_is ps),
    )

    applied_is : (run : Bool) (ps : List TwoS) → Same (bits.applied_bits run (ls ps)) (flow.applied_flow run (rs ps))
    applied_is true ps = (refl, all_is ps)
    applied_is false ps = (greatest_is ps, wrong_is ps)

    function_is : (own : Bool) (ps : List TwoS) → Same (bits.function_bits own (ls ps)) (flow.function_flow own (rs ps))
    function_is own ps = (refl, both_parts own (greatest (ls ps) || any_wrong (ls ps)) (if_always own) (sources_of (rs ps) ++ zeros_of (rs ps)) (if_own own) (all_is ps))

    head_is : (run : Bool) (bound : Binder) (ps : List TwoS) → Same (bits.head_bits d sigs A run bound (ls ps)) (flow.head_flow d sigs run bound (rs ps))
    head_is run (b.Def k) ps = call_is (nth sigs k) ps
    head_is run (b.Var k) ps = applied_is run ps
    head_is run (b.Param k) ps = applied_is run ps
    head_is run b.Nothing ps = applied_is run ps
    head_is run (b.Case c k) ps = applied_is run ps

    own_is : (bound : Binder) → bits.head_own d sigs A bound ≡ flow.owns d sigs bound
    own_is (b.Def k) = refl
    own_is (b.Var k) = refl
    own_is (b.Param k) = refl
    own_is b.Nothing = refl
    own_is (b.Case c k) = refl

    by_kind : (t : Bool) (x y : Both) (u v : Flow) → Same x u → Same y v → Same (if t then x else y) (if t then u else v)
    by_kind true x y u v e f = e
    by_kind false x y u v e f = f

    called_is : (run : Bool) (n : Note) (ps : List TwoS) → Same (bits.called_bits d sigs A run n (ls ps)) (flow.called_flow d sigs run n (rs ps))
    called_is run n ps = by_kind (is_function n) (bits.function_bits (bits.head_own d sigs A n.bound) (ls ps)) (bits.head_bits d sigs A run n.bound (ls ps))
        (flow.function_flow (flow.owns d sigs n.bound) (rs ps)) (flow.head_flow d sigs run n.bound (rs ps))
        (subst (λ o. Same (bits.function_bits (bits.head_own d sigs A n.bound) (ls ps)) (flow.function_flow o (rs ps))) (own_is n.bound) (function_is (bits.head_own d sigs A n.bound) ps))
        (head_is run n.bound ps)

    param_is : (o : Option ℕ) → bits.param_bit d sigs A o ≡ some A (flow.param_flow d sigs o)
    param_is None = refl
    param_is (Some k) = one_source (of_param k)

    name_is : (bound : Binder) (x : ℕ) → bits.name_bit d sigs A bound x ≡ some A (flow.name_flow d sigs bound x)
    name_is (b.Def k) x = refl
    name_is (b.Var k) x = one_source (of_var k)
    name_is (b.Param k) x = param_is (param_of x d.params 0)
    name_is b.Nothing x = refl
    name_is (b.Case c k) x = refl

    used_is : (n : Note) (bound : Binder) (x : ℕ) → Same (bits.used_bits d sigs A n bound x) (flow.used_flow d sigs n bound x)
    used_is n (b.Def k) x = called_is false n []
    used_is n (b.Var k) x = (name_is (b.Var k) x, refl)
    used_is n (b.Param k) x = (name_is (b.Param k) x, refl)
    used_is n b.Nothing x = (refl, refl)
    used_is n (b.Case c k) x = (refl, refl)

    started_is : (k : ℕ) (s : Option Start) → bits.started_bit d sigs A k s ≡ some A (flow.started_flow d sigs k s)
    started_is k None = refl
    started_is k (Some s) = one_source (of_start k)

    pub last_is : (k : ℕ) (w : Variable) → bits.last_bit d sigs A k w ≡ some A (flow.last_flow d sigs k w)
    last_is k w = started_is k (start_of w d.places.starts)

    last_of_is : (k : ℕ) (w : Option Variable) → Same (bits.last_bits_of d sigs A p k w) (flow.last_flows_of d sigs p k w)
    last_of_is k None = (refl, refl)
    last_of_is k (Some w) = (
      last_is k w,
      ap (λ z. A (of_var k) || z) (if_sources (leaves_reset p w.place) (bits.last_bit d sigs A k w) (flow.last_flow d sigs k w) (last_is k w)),
    )

    lasts_is : (bound : Binder) → Same (bits.last_bits d sigs A p bound) (flow.last_flows d sigs p bound)
    lasts_is (b.Var k) = last_of_is k (nth d.places.vars k)
    lasts_is (b.Def k) = (refl, refl)
    lasts_is (b.Param k) = (refl, refl)
    lasts_is b.Nothing = (refl, refl)
    lasts_is (b.Case c k) = (refl, refl)

    every_is : (q : TwoS) (j : Both) (r : Flow) → Same j r → Same (bits.every_bits (Some q.0) j) (flow.every_flow (Some q.1) r)
    every_is q j r e = (
      e.0,
      both_parts (j.wrong || q.0.wrong) (q.0.bit || j.bit) (r.zeros ++ q.1.zeros) (q.1.sources ++ r.sources)
          (both_parts j.wrong q.0.wrong r.zeros q.1.zeros e.1 q.2.2) (both_parts q.0.bit j.bit q.1.sources r.sources q.2.1 e.0),
    )

    abbrev cs_list : List (Case × TwoS) → List TwoS
    cs_list = choice_parts {X = TwoS}

    left_choices : (cs : List (Case × TwoS)) → choice_parts (in_choices {X = TwoS} {Y = Judged} (λ q. q.0) cs) ≡ ls (cs_list cs)
    left_choices [] = refl
    left_choices (c ∷ cs) = ap (λ z. c.1.0 ∷ z) (left_choices cs)

    right_choices : (cs : List (Case × TwoS)) → choice_parts (in_choices {X = TwoS} {Y = Sourced} (λ q. q.1) cs) ≡ rs (cs_list cs)
    right_choices [] = refl
    right_choices (c ∷ cs) = ap (λ z. c.1.1 ∷ z) (right_choices cs)

    choices_is : (cs : List (Case × TwoS)) → (greatest (choice_parts (in_choices {X = TwoS} {Y = Judged} (λ q. q.0) cs)) || any_wrong (choice_parts (in_choices {X = TwoS} {Y = Judged} (λ q. q.0) cs)))
        ≡ some A (sources_of (choice_parts (in_choices {X = TwoS} {Y = Sourced} (λ q. q.1) cs)) ++ zeros_of (choice_parts (in_choices {X = TwoS} {Y = Sourced} (λ q. q.1) cs)))
    choices_is cs = ap (λ z. greatest z || any_wrong z) (left_choices cs) ∙ all_is (cs_list cs) ∙ sym (ap (λ z. some A (sources_of z ++ zeros_of z)) (right_choices cs))

    layer : (y : Form-F Note TwoF TwoS) → HoldsF (fs (Related.lefts fs es fr er HoldsF Holds y)) (fr (Related.rights fs es fr er HoldsF Holds y))
    layer (Form-F.Leaf l) n = (refl, refl)
    layer (Form-F.Case x) n = (refl, refl)
    layer (Form-F.Var x) n = used_is n n.bound x.0
    layer (Form-F.Last x) n = lasts_is n.bound
    layer (Form-F.Asked x) n = (refl, refl)
    layer (Form-F.Op o ps) n = (greatest_is ps, wrong_is ps)
    layer (Form-F.Tuple ps) n = (greatest_is ps, wrong_is ps)
    layer (Form-F.Pre q) n = (refl, both_parts q.0.bit q.0.wrong q.1.sources q.1.zeros q.2.1 q.2.2)
    layer (Form-F.Fby x y) n = (
      x.2.1,
      both_parts y.0.bit (x.0.wrong || y.0.wrong) y.1.sources (x.1.zeros ++ y.1.zeros) y.2.1 (both_parts x.0.wrong y.0.wrong x.1.zeros y.1.zeros x.2.2 y.2.2),
    )
    layer (Form-F.Init x y) n = (x.2.1, both_parts x.0.wrong y.0.wrong x.1.zeros y.1.zeros x.2.2 y.2.2)
    layer (Form-F.When q x k) n = (q.2.1, both_parts (bits.name_bit d sigs A n.bound x.0) q.0.wrong (flow.name_flow d sigs n.bound x.0) q.1.zeros (name_is n.bound x.0) q.2.2)
    layer (Form-F.Merge x choices) n = (
      refl,
      both_parts (bits.name_bit d sigs A n.bound x.0)
          (greatest (choice_parts (in_choices {X = TwoS} {Y = Judged} (λ q. q.0) choices)) || any_wrong (choice_parts (in_choices {X = TwoS} {Y = Judged} (λ q. q.0) choices)))
          (flow.name_flow d sigs n.bound x.0)
          (sources_of (choice_parts (in_choices {X = TwoS} {Y = Sourced} (λ q. q.1) choices)) ++ zeros_of (choice_parts (in_choices {X = TwoS} {Y = Sourced} (λ q. q.1) choices)))
          (name_is n.bound x.0) (choices_is choices),
    )
    layer (Form-F.Call run head ps None) n = called_is run n ps
    layer (Form-F.Call run head ps (Some q)) n = every_is q (bits.called_bits d sigs A run n (ls ps)) (flow.called_flow d sigs run n (rs ps)) (called_is run n ps)

    -- an expression
    pub expr_is : (e : E) → Holds (bits.judged d sigs A p e) (flow.sourced d sigs p e)
    expr_is e = related fs es fr er HoldsF Holds layer (λ n q. (refl, (q.2 n).0, (q.2 n).1)) e
