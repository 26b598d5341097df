-- Where an expression is well typed something is given at each Clock position of what it names.
use Rattle.std.specs.Prelude.{◌≡◌, refl, ℕ, zero, suc, ◌+◌, ◌==◌, ◌≤◌, ◌&&◌, not, nat_lt, Bool, true, false, List, [], ◌∷◌, ◌++◌, map, length, drop, slice_get, Option, Some, None, if◌then◌else◌, ◌⊎◌}
use Rattle.std.proofs.Common.{ap, sym, ◌∙◌, subst, inl, inr, arith}
use Rattle.std.proofs.lemmas.Bool.{and_parts, eqb-true}
use Rattle.ls_ast.specs.declared.tree.Case.{Case}
use Rattle.ls_ast.specs.declared.tree.Mark.{Mark}
use Rattle.ls_ast.specs.declared.tree.Mark.TheVariants as mark
use Rattle.ls_ast.specs.declared.tree.Expr.{Expr, Expr-F}
use Rattle.ls_ast.specs.declared.tree.Form.TheOpen.{Form-F}
use Rattle.ls_terms.specs.declared.types.Kind.TheVariants.{Comb}
use Rattle.ls_terms.specs.declared.types.TypeTerm.{TypeTerm}
use Rattle.ls_terms.specs.declared.types.TypeTerm.TheVariants as t
use Rattle.ls_ops.specs.Signature.{signature_of}
use Rattle.ls_sig.specs.Notes.{is_signal}
use Rattle.ls_sig.specs.declared.binder.Binder.{Binder}
use Rattle.ls_sig.specs.declared.binder.Binder.TheVariants as binder
use Rattle.ls_sig.specs.declared.binder.Note.{Note}
use Rattle.ls_sig.specs.declared.binder.TypeNote.{TypeNote}
use Rattle.ls_sig.specs.declared.sigs.Sig.{Sig}
use Rattle.ls_places.specs.Clocks.{option_part}
use Rattle.ls_places.specs.Search.{nth}
use Rattle.tree_notes.specs.Each.{Each}
use Rattle.tree_notes.proofs.Refold as Re
use Rattle.type_rules.specs.declared.demand.Demand.{Demand}
use Rattle.type_rules.specs.declared.demand.Demand.TheVariants.{Fits, Function, Never}
use Rattle.type_rules.specs.Demands.{Holds}
use Rattle.type_rules.specs.Expressions as ex
use Rattle.type_rules.specs.Expressions.{any, Reading, reading, streams, zip_fits, given, applied, restarts, is_bare, is_stream, all_streams, is_passed, rest_of, called, partial, call_of, application, name_reading, kind_of, same_kind, none_of, types_of, operand_types, result_type, vars_from}
use Rattle.clock_rules.specs.declared.scheme.ClockScheme.{ClockScheme}
use Rattle.clock_rules.specs.Files.{clock_marks}
use Rattle.clock_rules.specs.Fresh.{erase}
use Rattle.clock_rules.specs.Layers.{Layer, Laid, Inside, laid, form_layers, expr_layers, laid_layers, note_of}
use Rattle.clock_rules.specs.Rules.{is_clock_mark}
use Rattle.clock_premises.specs.Premises.{Given, CallGiven, FormGiven}
use Rattle.clock_premises.proofs.Lists.{each_both, each_left, each_right}

-- an earlier definition, as types and as clocks see it
abbrev pub SameScheme : Option Sig → Option ClockScheme → Type 0
SameScheme None None = Unit {0}
SameScheme (Some g) (Some s) = (s.names ≡ clock_marks g.marks 0) × (length g.marks ≡ length g.params)
SameScheme _ _ = ⊥

-- the Clock positions of some marks

abbrev Something : List Note → ℕ → Type 0
Something all q = nth all q ≡ None → ⊥

nth_there : (all : List Note) (k : ℕ) → suc k ≤ length all → Something all k
nth_there [] k l e = absurd (omega (arith, l))
nth_there (n ∷ all) zero l e = absurd (cc)
nth_there (n ∷ all) (suc k) l e = nth_there all k (omega (arith, l)) e

-- those from a place on that are not given are no clocks
abbrev Left : ℕ → ℕ → List Mark → Type 0
Left n k ms = ((j : ℕ) × (n ≡ k + j) × (all_streams (drop j ms) ≡ true)) ⊎ ((n ≤ k) × (all_streams ms ≡ true))

no_clock : (m : Mark) → is_clock_mark m ≡ true → is_stream m ≡ true → ⊥
no_clock mark.Clock e s = absurd (cc)
no_clock mark.Unknown e s = absurd (cc)
no_clock mark.Data e s = absurd (cc)
no_clock mark.Signal e s = absurd (cc)
no_clock mark.Comb e s = absurd (cc)
no_clock mark.Seq e s = absurd (cc)

each_if : (B : ℕ → Type 0) (b : Bool) (k : ℕ) (r : List ℕ) → (b ≡ true → B k) → Each B r → Each B (if b then k ∷ r else r)
each_if B true k r f g = (f refl, g)
each_if B false k r f g = g

clocks_given : (ms : List Mark) (all : List Note) (k : ℕ) → Left (length all) k ms → Each (Something all) (clock_marks ms k)
clocks_given [] all k h = tt
clocks_given (m ∷ ms) all k (inl (zero, e, s)) =
    let p = and_parts (is_stream m) (all_streams ms) s in
    each_if (Something all) (is_clock_mark m) k (clock_marks ms (suc k)) (λ c. absurd (no_clock m c p.0)) (clocks_given ms all (suc k) (inr (omega (arith, e), p.1)))
clocks_given (m ∷ ms) all k (inl (suc j, e, s)) =
    each_if (Something all) (is_clock_mark m) k (clock_marks ms (suc k)) (λ c. nth_there all k (omega (arith, e))) (clocks_given ms all (suc k) (inl (j, omega (arith, e), s)))
clocks_given (m ∷ ms) all k (inr (l, s)) =
    let p = and_parts (is_stream m) (all_streams ms) s in
    each_if (Something all) (is_clock_mark m) k (clock_marks ms (suc k)) (λ c. absurd (no_clock m c p.0)) (clocks_given ms all (suc k) (inr (omega (arith, l), p.1)))

drop_all : (ms : List Mark) → all_streams (drop (length ms) ms) ≡ true
drop_all [] = refl
drop_all (m ∷ ms) = drop_all ms

module _ (sigs : List Sig) (schemes : List ClockScheme) (same : (j : ℕ) → SameScheme (slice_get sigs j) (nth schemes j)) (function : Note → Bool)
    (case_type : ℕ → Option TypeTerm) (marks : ℕ → Mark) (signals : ℕ → Bool) (type_of : Binder → Option TypeTerm) where
  abbrev Asks : Type 0
  Asks = List (Demand TypeTerm)

  abbrev Lay : Type 0
  Lay = Laid Note function

  abbrev pub Good : Layer Note → Type 0
  Good l = FormGiven schemes l.note l.form

  -- where the demands hold
  abbrev pub Gives : Asks → List (Layer Note) → Type 0
  Gives ds ls = Each Holds ds → Each Good ls

  abbrev pub Four : Reading TypeTerm → List (Layer Note) → Type 0
  Four r ls = Gives r.stream ls × Gives r.bare ls × Gives r.whole ls × Gives r.body ls

  four : (ty : TypeTerm) (ds : Asks) (ls : List (Layer Note)) → Gives ds ls → Four (reading ty ds) ls
  four ty ds ls h = (h, h, h, h)

  gives_never : (ls : List (Layer Note)) → Gives (Never ∷ []) ls
  gives_never ls h = absurd h.0

  never : (ty : TypeTerm) (ls : List (Layer Note)) → Four (reading ty (Never ∷ [])) ls
  never ty ls = four ty (Never ∷ []) ls (gives_never ls)

  gives_both : (ds es : Asks) (ls ks : List (Layer Note)) → Gives ds ls → Gives es ks → Gives (ds ++ es) (ls ++ ks)
  gives_both ds es ls ks a b h = each_both Good ls ks (a (each_left Holds ds es h)) (b (each_right Holds ds es h))

  -- one layer more, of which nothing is asked
  gives_own : (l : Layer Note) (d : Demand TypeTerm) (ds : Asks) (ls : List (Layer Note)) → Good l → Gives ds ls → Gives (d ∷ ds) (l ∷ ls)
  gives_own l d ds ls g a h = (g, a h.1)

  abbrev Part : Type 0
  Part = (r : Reading TypeTerm) × (l : Lay) × Four r l.all

  abbrev readings_in : List Part → List (Reading TypeTerm)
  readings_in = map {A = Part} {B = Reading TypeTerm} (λ p. p.0)

  abbrev laid_in : List Part → List Lay
  laid_in = map {A = Part} {B = Lay} (λ p. p.1)

  abbrev layers_in : List Part → List (Layer Note)
  layers_in ps = laid_layers Note function (laid_in ps)

  abbrev notes_in : List Part → List Note
  notes_in ps = map (note_of Note function) (laid_in ps)

  streams_give : (ps : List Part) → Gives (streams (readings_in ps)) (layers_in ps)
  streams_give [] h = tt
  streams_give (p ∷ ps) h = gives_both p.0.stream (streams (readings_in ps)) p.1.all (layers_in ps) p.2.0 (streams_give ps) h

  chosen : (c : Bool) (p : Part) → Gives (if c then p.0.bare else p.0.stream) p.1.all
  chosen true p = p.2.1
  chosen false p = p.2.0

  given_give : (ms : List Mark) (ps : List Part) → Gives (given ms (readings_in ps)) (layers_in ps)
  given_give ms [] h = tt
  given_give [] (p ∷ ps) h = gives_both p.0.stream (given [] (readings_in ps)) p.1.all (layers_in ps) p.2.0 (given_give [] ps) h
  given_give (m ∷ ms) (p ∷ ps) h = gives_both (if is_bare m then p.0.bare else p.0.stream) (given ms (readings_in ps)) p.1.all (layers_in ps) (chosen (is_bare m) p) (given_give ms ps) h

  applied_give : (ps : List Part) → Gives (applied (readings_in ps)) (layers_in ps)
  applied_give [] h = tt
  applied_give (p ∷ ps) h = gives_both (if p.0.is_function then p.0.bare else p.0.stream) (applied (readings_in ps)) p.1.all (layers_in ps) (chosen p.0.is_function p) (applied_give ps) h

  abbrev reading_if : Option Part → Option (Reading TypeTerm)
  reading_if None = None
  reading_if (Some p) = Some p.0

  abbrev laid_if : Option Part → Option Lay
  laid_if None = None
  laid_if (Some p) = Some p.1

  abbrev layers_if : Option Part → List (Layer Note)
  layers_if o = laid_layers Note function (option_part (laid_if o))

  restarts_give : (o : Option Part) → Gives (restarts (reading_if o)) (layers_if o)
  restarts_give None h = tt
  restarts_give (Some p) h = each_both Good p.1.all [] (p.2.0 h.1) tt

  each_laid : (xs ys : List Lay) → Each Good (laid_layers Note function xs) → Each Good (laid_layers Note function ys) → Each Good (laid_layers Note function (xs ++ ys))
  each_laid [] ys a b = b
  each_laid (x ∷ xs) ys a b =
      each_both Good x.all (laid_layers Note function (xs ++ ys)) (each_left Good x.all (laid_layers Note function xs) a) (each_laid xs ys (each_right Good x.all (laid_layers Note function xs) a) b)

  abbrev parts_of : List Part → Option Part → List (Layer Note)
  parts_of ps o = laid_layers Note function (laid_in ps ++ option_part (laid_if o))

  args_give : (ds : Asks) (ps : List Part) (o : Option Part) → Gives ds (layers_in ps) → Gives (ds ++ restarts (reading_if o)) (parts_of ps o)
  args_give ds ps o a h = each_laid (laid_in ps) (option_part (laid_if o)) (a (each_left Holds ds (restarts (reading_if o)) h)) (restarts_give o (each_right Holds ds (restarts (reading_if o)) h))

  length_in : (ps : List Part) → length (readings_in ps) ≡ length (notes_in ps)
  length_in [] = refl
  length_in (p ∷ ps) = ap suc (length_in ps)

  -- a call

  module _ (l : Layer Note) where
    gives_if : (c : Bool) (ds es : Asks) (ls : List (Layer Note)) → (c ≡ true → Gives ds ls) → Gives es ls → Gives (if c then ds else es) ls
    gives_if true ds es ls p q = p refl
    gives_if false ds es ls p q = q

    called_give : (ty : TypeTerm) (sig : Sig) (ps : List Part) (o : Option Part) → Good l → Four (called ty sig (readings_in ps) (reading_if o)) (l ∷ parts_of ps o)
    called_give ty sig ps o g =
        let args = readings_in ps in
        let ds : Asks = Fits ((ty, sig.result) ∷ zip_fits args sig.params) ∷ given sig.marks args ++ restarts (reading_if o) in
        let tail : Asks = Fits ((ty, any) ∷ []) ∷ [] in
        let h : Gives ds (l ∷ parts_of ps o) = (λ q. (g, args_give (given sig.marks args) ps o (given_give sig.marks ps) q.1)) in
        let h' : Gives (ds ++ tail) (l ∷ parts_of ps o) = (λ q. h (each_left Holds ds tail q)) in
        let ends : Gives (if is_signal sig.result then ds else ds ++ tail) (l ∷ parts_of ps o) = gives_if (is_signal sig.result) ds (ds ++ tail) (l ∷ parts_of ps o) (λ e. h) h' in
        (h', h', ends, ends)

    partial_give : (ty : TypeTerm) (sig : Sig) (ps : List Part) → (is_passed sig (length (readings_in ps)) ≡ true → Good l) → Four (partial ty sig (readings_in ps)) (l ∷ parts_of ps None)
    partial_give ty sig ps g =
        let args = readings_in ps in
        let n = length args in
        let ls = l ∷ parts_of ps None in
        let ds : Asks = Fits ((ty, rest_of sig n) ∷ zip_fits args sig.params) ∷ given sig.marks args in (
          gives_never ls,
          gives_if (is_passed sig n) ds (Never ∷ []) ls (λ e q. (g e, each_laid (laid_in ps) [] (given_give sig.marks ps q.1) tt)) (gives_never ls),
          gives_never ls,
          gives_never ls,
        )

    by_if : (Q : Reading TypeTerm → Type 0) (c : Bool) (x y : Reading TypeTerm) → (c ≡ true → Q x) → Q y → Q (if c then x else y)
    by_if Q true x y p q = p refl
    by_if Q false x y p q = q

    few_give : (a c : Bool) (ty : TypeTerm) (sig : Sig) (ps : List Part) (o : Option Part) → (is_passed sig (length (readings_in ps)) ≡ true → Good l)
        → Four (if a && (c && none_of (reading_if o)) then partial ty sig (readings_in ps) else reading ty (Never ∷ [])) (l ∷ parts_of ps o)
    few_give a c ty sig ps None g = by_if (λ r. Four r (l ∷ parts_of ps None)) (a && (c && true)) (partial ty sig (readings_in ps)) (reading ty (Never ∷ [])) (λ e. partial_give ty sig ps g) (never ty (l ∷ parts_of ps None))
    few_give true true ty sig ps (Some p) g = never ty (l ∷ parts_of ps (Some p))
    few_give true false ty sig ps (Some p) g = never ty (l ∷ parts_of ps (Some p))
    few_give false c ty sig ps (Some p) g = never ty (l ∷ parts_of ps (Some p))

    call_give : (ty : TypeTerm) (sig : Sig) (run : Bool) (ps : List Part) (o : Option Part) → (length (readings_in ps) ≡ length sig.params → Good l) → (is_passed sig (length (readings_in ps)) ≡ true → Good l)
        → Four (call_of ty (Some sig) run (readings_in ps) (reading_if o)) (l ∷ parts_of ps o)
    call_give ty sig run ps o full part =
        let args : List (Reading TypeTerm) = readings_in ps in
        let ls = l ∷ parts_of ps o in
        let few = if nat_lt (length args) (length sig.params) && (not run && none_of (reading_if o)) then partial ty sig args else reading ty (Never ∷ []) in
        by_if (λ r. Four r ls) (run && same_kind sig.kind Comb) (reading ty (Never ∷ [])) (if length args == length sig.params then called ty sig args (reading_if o) else few) (λ e. never ty ls)
        (by_if (λ r. Four r ls) (length args == length sig.params) (called ty sig args (reading_if o)) few (λ e. called_give ty sig ps o (full (eqb-true (length args) (length sig.params) e)))
        (few_give (nat_lt (length args) (length sig.params)) (not run) ty sig ps o part))

    application_give : (ty : TypeTerm) (v : Option TypeTerm) (run : Bool) (ps : List Part) (o : Option Part) → Good l → Four (application ty v run (readings_in ps) (reading_if o)) (l ∷ parts_of ps o)
    application_give ty None run ps o g = never ty (l ∷ parts_of ps o)
    application_give ty (Some v) run ps o g =
        four ty (Function v (kind_of run) (types_of (readings_in ps)) ty ∷ Fits ((ty, any) ∷ []) ∷ applied (readings_in ps) ++ restarts (reading_if o)) (l ∷ parts_of ps o)
        (λ q. (g, args_give (applied (readings_in ps)) ps o (applied_give ps) q.1.1))

  -- as many as there are parameters, or the rest is passed
  count_full : (sig : Sig) (s : ClockScheme) (all : List Note) → s.names ≡ clock_marks sig.marks 0 → length sig.marks ≡ length sig.params → length all ≡ length sig.params → Each (Something all) s.names
  count_full sig s all e m n =
      let z : length all ≡ 0 + length sig.marks = omega (arith, m, n) in
      subst (Each (Something all)) (sym e) (clocks_given sig.marks all 0 (inl (length sig.marks, z, drop_all sig.marks)))

  count_rest : (sig : Sig) (s : ClockScheme) (all : List Note) → s.names ≡ clock_marks sig.marks 0 → is_passed sig (length all) ≡ true → Each (Something all) s.names
  count_rest sig s all e p =
      let z : length all ≡ 0 + length all = omega arith in
      subst (Each (Something all)) (sym e) (clocks_given sig.marks all 0 (inl (length all, z, (and_parts (not (is_signal sig.result)) (all_streams (drop (length all) sig.marks)) p).1)))

  def_give : (l : Layer Note) (ty : TypeTerm) (sig : Option Sig) (s : Option ClockScheme) → SameScheme sig s → (run : Bool) (ps : List Part) (o : Option Part) → (Given schemes (notes_in ps) s → Good l)
      → Four (call_of ty sig run (readings_in ps) (reading_if o)) (l ∷ parts_of ps o)
  def_give l ty None None g run ps o k = never ty (l ∷ parts_of ps o)
  def_give l ty (Some sig) (Some s) g run ps o k = call_give l ty sig run ps o
      (λ e. k (count_full sig s (notes_in ps) g.0 g.1 (sym (length_in ps) ∙ e)))
      (λ e. k (count_rest sig s (notes_in ps) g.0 (subst (λ n. is_passed sig n ≡ true) (length_in ps) e)))
  def_give l ty None (Some s) g run ps o k = absurd g
  def_give l ty (Some sig) None g run ps o k = absurd g

  head_give : (l : Layer Note) (ty : TypeTerm) (z : Binder) (run : Bool) (ps : List Part) (o : Option Part) → (CallGiven schemes (notes_in ps) z → Good l)
      → Four (ex.head_of {N = TypeNote} (λ n. n.bound) (λ n. n.ty) sigs case_type marks signals type_of ty z run (readings_in ps) (reading_if o)) (l ∷ parts_of ps o)
  head_give l ty (binder.Def j) run ps o k = def_give l ty (slice_get sigs j) (nth schemes j) (same j) run ps o k
  head_give l ty (binder.Param j) run ps o k = application_give l ty (type_of (binder.Param j)) run ps o (k tt)
  head_give l ty (binder.Var j) run ps o k = never ty (l ∷ parts_of ps o)
  head_give l ty binder.Nothing run ps o k = never ty (l ∷ parts_of ps o)
  head_give l ty (binder.Case e j) run ps o k = never ty (l ∷ parts_of ps o)

  name_give : (l : Layer Note) (ty : TypeTerm) (a c : Bool) (u : Option TypeTerm) → Good l → Four (name_reading ty a c u) (l ∷ [])
  name_give l ty a c None g = never ty (l ∷ [])
  name_give l ty a c (Some u) g = ((λ q. (g, tt)), (λ q. (g, tt)), (λ q. (g, tt)), (λ q. (g, tt)))

  use_give : (l : Layer Note) (ty : TypeTerm) (z : Binder) → (CallGiven schemes [] z → Good l) → Four (ex.use_of {N = TypeNote} (λ n. n.bound) (λ n. n.ty) sigs case_type marks signals type_of ty z) (l ∷ [])
  use_give l ty (binder.Def j) k = def_give l ty (slice_get sigs j) (nth schemes j) (same j) false [] None k
  use_give l ty (binder.Param j) k = name_give l ty (ex.is_functional (marks j)) (ex.is_signal_mark (marks j)) (type_of (binder.Param j)) (k tt)
  use_give l ty (binder.Var j) k = name_give l ty false (signals j) (type_of (binder.Var j)) (k tt)
  use_give l ty binder.Nothing k = never ty (l ∷ [])
  use_give l ty (binder.Case e j) k = never ty (l ∷ [])

  -- the fold

  abbrev step : Form-F TypeNote (TypeNote → Reading TypeTerm) (Reading TypeTerm) → TypeNote → Reading TypeTerm
  step = ex.form_step (λ n. n.bound) (λ n. n.ty) sigs case_type marks signals type_of

  abbrev estep : Expr-F TypeNote (TypeNote → Reading TypeTerm) (Reading TypeTerm) → Reading TypeTerm
  estep e = e.form e.note

  abbrev In : Type 0
  In = Inside Note function

  abbrev lstep : Form-F Note In Lay → In
  lstep = form_layers Note function

  abbrev lestep : Expr-F Note In Lay → Lay
  lestep = expr_layers Note function

  abbrev own : Note → In → Lay
  own n x = lestep (record { note = n; form = x })

  abbrev R : (TypeNote → Reading TypeTerm) → In → Type 0
  R r x = (n : Note) → Four (r (erase n)) (own n x).all

  abbrev R' : Reading TypeTerm → Lay → Type 0
  R' r l = Four r l.all

  abbrev Two : Type 0
  Two = (r : TypeNote → Reading TypeTerm) × (x : In) × R r x

  abbrev with_readings : List (Case × Part) → List (Case × Reading TypeTerm)
  with_readings = map {A = Case × Part} {B = Case × Reading TypeTerm} (λ c. (c.0, c.1.0))

  abbrev with_laid : List (Case × Part) → List (Case × Lay)
  with_laid = map {A = Case × Part} {B = Case × Lay} (λ c. (c.0, c.1.1))

  abbrev laid_parts : List (Case × Lay) → List Lay
  laid_parts = map {A = Case × Lay} {B = Lay} (λ c. c.1)

  branches_give : (u : Option TypeTerm) (cs : List (Case × Part)) → Gives (ex.branches {N = TypeNote} (λ n. n.bound) (λ n. n.ty) sigs case_type marks signals type_of u (with_readings cs)) (laid_layers Note function (laid_parts (with_laid cs)))
  branches_give u [] h = tt
  branches_give u (c ∷ cs) h =
      let later = ex.branches {N = TypeNote} (λ n. n.bound) (λ n. n.ty) sigs case_type marks signals type_of u (with_readings cs) in
      gives_both c.1.0.stream later c.1.1.all (laid_layers Note function (laid_parts (with_laid cs))) c.1.2.0 (branches_give u cs) h.1

  one_give : (p : Part) → Gives p.0.stream (p.1.all ++ [])
  one_give p h = each_both Good p.1.all [] (p.2.0 h) tt

  two_give : (p q : Part) → Gives (p.0.stream ++ q.0.stream) (p.1.all ++ (q.1.all ++ []))
  two_give p q h = gives_both p.0.stream q.0.stream p.1.all (q.1.all ++ []) p.2.0 (one_give q) h

  -- a layer of which nothing is asked
  plain : (ty : TypeTerm) (l : Layer Note) (d : Demand TypeTerm) (ds : Asks) (ls : List (Layer Note)) → Good l → Gives ds ls → Four (reading ty (d ∷ ds)) (l ∷ ls)
  plain ty l d ds ls g a = four ty (d ∷ ds) (l ∷ ls) (gives_own l d ds ls g a)

  operator_give : (ty : TypeTerm) (l : Layer Note) (c : Bool) (d : Demand TypeTerm) (ps : List Part) → Good l → Four (reading ty (if c then d ∷ streams (readings_in ps) else Never ∷ [])) (l ∷ layers_in ps)
  operator_give ty l true d ps g = plain ty l d (streams (readings_in ps)) (layers_in ps) g (streams_give ps)
  operator_give ty l false d ps g = never ty (l ∷ layers_in ps)

  asked_give : (ty : TypeTerm) (u : Option TypeTerm) (l : Layer Note) → Good l → Four (reading ty (ex.asked ty u)) (l ∷ [])
  asked_give ty u l g = four ty (ex.asked ty u) (l ∷ []) (λ q. (g, tt))

  -- the outermost layer
  abbrev top : Note → Form-F Note In Lay → Layer Note
  top n x = record { note = n; form = (lstep x).form; holds = function n && (lstep x).given }

  layer : (y : Form-F Note Two Part) → R (step (Re.lefts erase step estep lstep lestep R R' y)) (lstep (Re.rights erase step estep lstep lestep R R' y))
  layer (Form-F.Leaf x) n = plain n.ty (top n (Form-F.Leaf x)) (Fits ((n.ty, ex.literal_type x) ∷ [])) [] [] tt (λ q. tt)
  layer (Form-F.Case x) n = plain n.ty (top n (Form-F.Case x)) (ex.constructor_of {N = TypeNote} (λ n. n.bound) (λ n. n.ty) sigs case_type marks signals type_of n.ty n.bound) [] [] tt (λ q. tt)
  layer (Form-F.Var x) n = use_give (top n (Form-F.Var x)) n.ty n.bound (λ k. k)
  layer (Form-F.Last x) n = plain n.ty (top n (Form-F.Last x)) (ex.last_of {N = TypeNote} (λ n. n.bound) (λ n. n.ty) sigs case_type marks signals type_of n.ty (type_of n.bound)) [] [] tt (λ q. tt)
  layer (Form-F.Asked x) n = asked_give n.ty (type_of n.bound) (top n (Form-F.Asked x)) tt
  layer (Form-F.Op op ps) n =
      let rs = readings_in ps in
      operator_give n.ty (top n (Form-F.Op op (laid_in ps))) (length rs == length (operand_types (signature_of op))) (Fits ((n.ty, result_type (signature_of op)) ∷ zip_fits rs (operand_types (signature_of op)))) ps tt
  layer (Form-F.Tuple ps) n =
      let rs = readings_in ps in
      plain n.ty (top n (Form-F.Tuple (laid_in ps))) (Fits ((n.ty, t.Tuple (vars_from 0 (length rs))) ∷ zip_fits rs (vars_from 0 (length rs)))) (streams rs) (layers_in ps) tt (streams_give ps)
  layer (Form-F.Pre p) n = plain n.ty (top n (Form-F.Pre p.1)) (Fits ((n.ty, any) ∷ (p.0.ty, any) ∷ [])) p.0.stream (p.1.all ++ []) tt (one_give p)
  layer (Form-F.Fby p q) n = plain n.ty (top n (Form-F.Fby p.1 q.1)) (Fits ((n.ty, any) ∷ (p.0.ty, any) ∷ (q.0.ty, any) ∷ [])) (p.0.stream ++ q.0.stream) (p.1.all ++ (q.1.all ++ [])) tt (two_give p q)
  layer (Form-F.Init p q) n = plain n.ty (top n (Form-F.Init p.1 q.1)) (Fits ((n.ty, any) ∷ (p.0.ty, any) ∷ (q.0.ty, any) ∷ [])) (p.0.stream ++ q.0.stream) (p.1.all ++ (q.1.all ++ [])) tt (two_give p q)
  layer (Form-F.When p x c) n =
      plain n.ty (top n (Form-F.When p.1 x c)) (ex.condition (type_of n.bound) (ex.type_of_case {N = TypeNote} (λ n. n.bound) (λ n. n.ty) sigs case_type marks signals type_of c) ((n.ty, any) ∷ (p.0.ty, any) ∷ [])) p.0.stream (p.1.all ++ []) tt (one_give p)
  layer (Form-F.Merge x cs) n =
      plain n.ty (top n (Form-F.Merge x (with_laid cs))) (Fits ((n.ty, any) ∷ ex.branch_types {N = TypeNote} (λ n. n.bound) (λ n. n.ty) sigs case_type marks signals type_of (with_readings cs))) (ex.branches {N = TypeNote} (λ n. n.bound) (λ n. n.ty) sigs case_type marks signals type_of (type_of n.bound) (with_readings cs)) (laid_layers Note function (laid_parts (with_laid cs))) tt
      (branches_give (type_of n.bound) cs)
  layer (Form-F.Call run x ps None) n = head_give (top n (Form-F.Call run x (laid_in ps) None)) n.ty n.bound run ps None (λ k. k)
  layer (Form-F.Call run x ps (Some p)) n = head_give (top n (Form-F.Call run x (laid_in ps) (Some p.1))) n.ty n.bound run ps (Some p) (λ k. k)

  -- the layers of an expression, where its types are well
  pub expr_gives : (e : Expr Note) → Four (ex.reading_of (λ (n : TypeNote). n.bound) (λ n. n.ty) sigs case_type marks signals type_of (Re.noted erase e)) (laid Note function e).all
  expr_gives = Re.related erase step estep lstep lestep R R' layer (λ n p. p.2 n)
