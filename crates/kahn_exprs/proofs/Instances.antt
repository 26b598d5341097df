-- The rows of an instance, by pairs of a variable and a clock, are those of what meets the signature.
use Rattle.std.specs.Prelude.{◌≡◌, refl, ℕ, ◌==◌, ◌<◌, Bool, true, false, List, [], ◌∷◌, ◌++◌, map, Option, Some, None, if◌then◌else◌}
use Rattle.std.proofs.Common.{ap, sym, ◌∙◌, subst}
use Rattle.ls_terms.specs.declared.clocks.ClockTerm.{ClockTerm, fold-roll-ClockTerm, ind-ClockTerm, map-ClockTerm, out-ClockTerm, roll-ClockTerm}
use Rattle.ls_terms.specs.declared.clocks.ClockTerm.TheOpen.{ClockTerm-F}
use Rattle.ls_places.specs.declared.definition.Definition.{Definition}
use Rattle.kahn_model.specs.Alike.{ArgAlike, RowAlike}
use Rattle.ls_places.specs.Clocks.{Meets, meets, meets_all, meets_arrow, meets_on, meets_step}
use Rattle.kahn_model.specs.Functions.{def}
use Rattle.kahn_model.specs.Rows.{Row}
use Rattle.ls_places.specs.Search.{nth}
use Rattle.kahn_model.specs.Table.{cell_in, written_row}
use Rattle.kahn_model.specs.Turn
use Rattle.ls_places.specs.Clocks.{or_else}
use Rattle.kahn_model.proofs.Alike.{written_alike}
use Rattle.kahn_exprs.specs.declared.body.Body.{Body}
use Rattle.kahn_exprs.specs.Body as spec
use Rattle.kahn_exprs.specs.declared.context.Argument.TheVariants.{Function}
use Rattle.kahn_exprs.specs.Context.{arg_of, clock_in}
use Rattle.kahn_exprs.specs.Instance.{Pairs, function, function_at, instance, pairs, pairs_all, pairs_arrow, pairs_on, pairs_step, rows_met, signature_of}
use Rattle.kahn_exprs.proofs.Targets.{arg_function, arg_pointwise}

-- the clock of a variable among some pairs
abbrev found : ℕ → List (ℕ × ClockTerm) → Option ClockTerm
found w [] = None
found w (p ∷ ps) = if w == p.0 then Some p.1 else found w ps

first_or : (t : Bool) (c : ClockTerm) (o p : Option ClockTerm) → (if t then Some c else or_else o p) ≡ or_else (if t then Some c else o) p
first_or true c o p = refl
first_or false c o p = refl

found_append : (w : ℕ) (xs ys : List (ℕ × ClockTerm)) → found w (xs ++ ys) ≡ or_else (found w xs) (found w ys)
found_append w [] ys = refl
found_append w (x ∷ xs) ys = ap (λ z. if w == x.0 then Some x.1 else z) (found_append w xs ys) ∙ first_or (w == x.0) x.1 (found w xs) (found w ys)

abbrev Same : Pairs → Meets → Type 0
Same p m = (t : ClockTerm) (w : ℕ) → found w (p t) ≡ m t w

abbrev SameAll : List Pairs → List Meets → Type 0
SameAll [] [] = Unit {0}
SameAll (p ∷ ps) (m ∷ ms) = Same p m × SameAll ps ms
SameAll _ _ = ⊥

all_same : (ps : List Pairs) (ms : List Meets) → SameAll ps ms → (ts : List ClockTerm) (w : ℕ) → found w (pairs_all ps ts) ≡ meets_all ms ts w
all_same [] [] q ts w = refl
all_same (p ∷ ps) (m ∷ ms) q [] w = refl
all_same (p ∷ ps) (m ∷ ms) q (t ∷ ts) w =
    found_append w (p t) (pairs_all ps ts) ∙ ap (λ z. or_else z (found w (pairs_all ps ts))) (q.0 t w) ∙ ap (or_else (m t w)) (all_same ps ms q.1 ts w)
all_same _ _ q ts w = absurd q

on_same : (p : Pairs) (m : Meets) → Same p m → (o : ClockTerm-F ClockTerm) (w : ℕ) → found w (pairs_on p o) ≡ meets_on m o w
on_same p m q (ClockTerm-F.On t n k) w = q t w
on_same p m q (ClockTerm-F.Var v) w = refl
on_same p m q ClockTerm-F.Pointwise w = refl
on_same p m q (ClockTerm-F.Arrow ts t) w = refl

arrow_same : (ps : List Pairs) (p : Pairs) (ms : List Meets) (m : Meets) → SameAll ps ms → Same p m → (o : ClockTerm-F ClockTerm) (w : ℕ) → found w (pairs_arrow ps p o) ≡ meets_arrow ms m o w
arrow_same ps p ms m qs q (ClockTerm-F.Arrow ts t) w =
    found_append w (pairs_all ps ts) (p t) ∙ ap (λ z. or_else z (found w (p t))) (all_same ps ms qs ts w) ∙ ap (or_else (meets_all ms ts w)) (q t w)
arrow_same ps p ms m qs q (ClockTerm-F.Var v) w = refl
arrow_same ps p ms m qs q (ClockTerm-F.On t n k) w = refl
arrow_same ps p ms m qs q ClockTerm-F.Pointwise w = refl

abbrev P : ClockTerm → Type 0
P s = Same (pairs s) (meets s)

abbrev With : Type 0
With = (s : ClockTerm) × P s

abbrev bottoms : ClockTerm-F With → ClockTerm-F ClockTerm
bottoms = map-ClockTerm With ClockTerm (λ p. p.0)

every : (ps : List With) → SameAll (map pairs (map (λ p. p.0) ps)) (map meets (map (λ p. p.0) ps))
every [] = tt
every (p ∷ ps) = (p.1, every ps)

layer : (y : ClockTerm-F With) → Same (pairs_step (map-ClockTerm ClockTerm Pairs pairs (bottoms y))) (meets_step (map-ClockTerm ClockTerm Meets meets (bottoms y)))
layer (ClockTerm-F.Var v) t w = refl
layer (ClockTerm-F.On p n k) t w = on_same (pairs p.0) (meets p.0) p.1 (out-ClockTerm t) w
layer ClockTerm-F.Pointwise t w = refl
layer (ClockTerm-F.Arrow ps p) t w =
    arrow_same (map pairs (map (λ p. p.0) ps)) (pairs p.0) (map meets (map (λ p. p.0) ps)) (meets p.0) (every ps) p.1 (out-ClockTerm t) w

met_same : (s : ClockTerm) → P s
met_same = ind-ClockTerm P (λ x y from. subst (λ z. P (roll-ClockTerm z)) from (λ t w.
    ap (λ (m : Pairs). found w (m t)) (fold-roll-ClockTerm Pairs pairs_step (bottoms y)) ∙ layer y t w
    ∙ sym (ap (λ (m : Meets). m t w) (fold-roll-ClockTerm Meets meets_step (bottoms y)))))

all_met : (ss : List ClockTerm) → SameAll (map pairs ss) (map meets ss)
all_met [] = tt
all_met (s ∷ ss) = (met_same s, all_met ss)

module _ (b : Body) where
  abbrev row_at : Option ClockTerm → Row Bool
  row_at = Turn.where_on (spec.cases b) b.defs.now (spec.call b) b.def.now (spec.around b) (spec.table b)

  one_row : (t : Bool) (ck : ClockTerm) (rows : List (ℕ × List (Option Bool))) (o : Option ClockTerm) (w i : ℕ) → i < b.lines → clock_in rows w i ≡ row_at o i
      → (if t then cell_in (written_row b.lines 0 (spec.on b ck)) i else clock_in rows w i) ≡ row_at (if t then Some ck else o) i
  one_row true ck rows o w i l e = written_alike b.lines (spec.on b ck) i l
  one_row false ck rows o w i l e = e

  rows_found : (ps : List (ℕ × ClockTerm)) (w i : ℕ) → i < b.lines → clock_in (rows_met b ps) w i ≡ row_at (found w ps) i
  rows_found [] w i l = refl
  rows_found (p ∷ ps) w i l = one_row (w == p.0) p.1 (rows_met b ps) (found w ps) w i l (rows_found ps w i l)

  instance_alike : (e : Option Definition) (cks : List ClockTerm) (ck : ClockTerm) (w : ℕ) → RowAlike b.lines (clock_in (instance b e (cks ++ ck ∷ [])) w)
      (Turn.instance_of (spec.cases b) b.defs.now (spec.call b) b.def.now (spec.around b) (spec.table b) e cks ck w)
  instance_alike None cks ck w = λ i l. refl
  instance_alike (Some e) cks ck w = λ i l.
      rows_found (pairs_all (map pairs (signature_of e)) (cks ++ ck ∷ [])) w i l
      ∙ ap (λ z. row_at z i) (all_same (map pairs (signature_of e)) (map meets (signature_of e)) (all_met (signature_of e)) (cks ++ ck ∷ []) w)

  instance_arg : (k : ℕ) (e : Option Definition) (cks : List ClockTerm) (ck : ClockTerm) → ArgAlike b.lines (def k (Some (clock_in (instance b e (cks ++ ck ∷ [])))))
      (def k (Some (Turn.instance_of (spec.cases b) b.defs.now (spec.call b) b.def.now (spec.around b) (spec.table b) e cks ck)))
  instance_arg k e cks ck = (refl, instance_alike e cks ck)

  abbrev own_of : Option Definition → List ClockTerm → ClockTerm → ℕ → Row Bool
  own_of e cks ck = Turn.instance_of (spec.cases b) b.defs.now (spec.call b) b.def.now (spec.around b) (spec.table b) e cks ck

  by_instance : (k : ℕ) (cks : List ClockTerm) (ck : ClockTerm) → ArgAlike b.lines (arg_of (Function k (instance b (nth b.defs.now k) (cks ++ ck ∷ [])))) (def k (Some (own_of (nth b.defs.now k) cks ck)))
  by_instance k cks ck = subst (λ z. ArgAlike b.lines z (def k (Some (own_of (nth b.defs.now k) cks ck)))) (sym (arg_function k (instance b (nth b.defs.now k) (cks ++ ck ∷ []))))
      (instance_arg k (nth b.defs.now k) cks ck)

  function_open : (k : ℕ) (cks : List ClockTerm) (ck : ClockTerm) (o : ClockTerm-F ClockTerm) → ArgAlike b.lines (arg_of (function_at b k cks ck o))
      (def k (Turn.clocks_at (spec.cases b) b.defs.now (spec.call b) b.def.now (spec.around b) (spec.table b) k cks ck o))
  function_open k cks ck ClockTerm-F.Pointwise = subst (λ z. ArgAlike b.lines z (def k None)) (sym (arg_pointwise k)) (refl, tt)
  function_open k cks ck (ClockTerm-F.Arrow more to) = by_instance k (cks ++ more) to
  function_open k cks ck (ClockTerm-F.Var w) = by_instance k cks ck
  function_open k cks ck (ClockTerm-F.On inner m j) = by_instance k cks ck

  pub function_alike : (k : ℕ) (cks : List ClockTerm) (ck : ClockTerm) → ArgAlike b.lines (arg_of (function b k cks ck))
      (def k (Turn.clocks_at (spec.cases b) b.defs.now (spec.call b) b.def.now (spec.around b) (spec.table b) k cks ck (out-ClockTerm ck)))
  function_alike k cks ck = function_open k cks ck (out-ClockTerm ck)
