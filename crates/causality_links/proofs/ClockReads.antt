-- The names in a clock.
use Rattle.std.specs.Prelude.{◌≡◌, ℕ, zero, suc, ◌-◌, Bool, true, false, List, [], ◌∷◌, map, length, Option, Some, None, if◌then◌else◌, nat_lt}
use Rattle.std.proofs.Common.{ap, sym, subst, inl, inr}
use Rattle.ls_ast.specs.declared.tree.Expr.{fold_out-Expr}
use Rattle.ls_terms.specs.declared.clocks.ClockTerm.{ClockTerm, fold-roll-ClockTerm, fold_out-ClockTerm, ind-ClockTerm, map-ClockTerm, out-ClockTerm, roll-ClockTerm}
use Rattle.ls_terms.specs.declared.clocks.ClockTerm.TheOpen.{ClockTerm-F}
use Rattle.ls_places.specs.Patterns.{joined}
use Rattle.ls_sig.specs.declared.binder.Note.{Note}
use Rattle.ls_places.specs.declared.places.Named.{Named}
use Rattle.ls_places.specs.declared.places.Named.TheVariants as named
use Rattle.ls_places.specs.declared.definition.Key.{Key}
use Rattle.ls_places.specs.declared.definition.Definition.{Definition}
use Rattle.ls_places.specs.Clocks.{bare, bare_step}
use Rattle.ls_places.specs.Search.{E, nth}
use Rattle.kahn_model.specs.Reads
use Rattle.kahn_model.specs.Reads.{Shape, Formed, Reading}
use Rattle.digraph.specs.Graph.{In}
use Rattle.causality_rules.specs.Reads as rules
use Rattle.causality_links.specs.Close as close
use Rattle.causality_links.specs.Close.{Sub}
use Rattle.causality_links.proofs.Lists.{Or, or_none, or_append, in_right}

module _ (d : Definition) (shapes : List Shape) where
  by_name : (m : ℕ) (t : Bool) (o : Option Named) → Or (if t then [] else Reads.name_key o m ∷ []) (if t then [] else rules.name_row d m o) (if t then [] else close.unknown_name d m o)
  by_name m true o = or_none [] []
  by_name m false None = λ l h. inr h
  by_name m false (Some (named.Clock x)) = λ l h. inl h
  by_name m false (Some (named.Match e all p)) = λ l h. inl h
  by_name m false (Some (named.Present xs p)) = λ l h. inl h
  by_name m false (Some (named.Active states p)) = λ l h. inl h
  by_name m false (Some (named.Tested states p)) = λ l h. inl h

  name_split : (m : ℕ) → Or (Reads.case_keys d shapes m) (rules.name_rows d m) (close.unknown_names d m)
  name_split m = by_name m (nat_lt m (length d.params)) (nth d.places.names (m - length d.params))

  abbrev ks : ClockTerm-F (List Key) → List Key
  ks = Reads.clock_step d shapes

  abbrev rs : ClockTerm-F (List Key) → List Key
  rs = rules.clock_rows_step d

  abbrev ms : ClockTerm-F (List Key) → List Key
  ms = close.clock_more_step d

  abbrev keys : ClockTerm → List Key
  keys = Reads.clock_keys d shapes

  abbrev rows : ClockTerm → List Key
  rows = rules.clock_rows d

  abbrev more : ClockTerm → List Key
  more = close.clock_more d

  abbrev Split : ClockTerm → Type 0
  Split ck = Or (keys ck) (rows ck) (more ck)

  abbrev With : Type 0
  With = (ck : ClockTerm) × Split ck

  abbrev tops : ClockTerm-F With → ClockTerm-F ClockTerm
  tops = map-ClockTerm With ClockTerm (λ p. p.0)

  abbrev folded : (ClockTerm → List Key) → ClockTerm-F With → ClockTerm-F (List Key)
  folded f y = map-ClockTerm ClockTerm (List Key) f (tops y)

  all_split : (cks : List With) → Or (joined (map keys (map (λ p. p.0) cks))) (joined (map rows (map (λ p. p.0) cks))) (joined (map more (map (λ p. p.0) cks)))
  all_split [] = or_none [] []
  all_split (p ∷ cks) = or_append (keys p.0) (rows p.0) (more p.0) (joined (map keys (map (λ p. p.0) cks))) (joined (map rows (map (λ p. p.0) cks))) (joined (map more (map (λ p. p.0) cks)))
      p.1 (all_split cks)

  layer : (y : ClockTerm-F With) → Or (ks (folded keys y)) (rs (folded rows y)) (ms (folded more y))
  layer (ClockTerm-F.Var w) = λ l h. inr h
  layer (ClockTerm-F.On p m k) = or_append (Reads.case_keys d shapes m) (rules.name_rows d m) (close.unknown_names d m) (keys p.0) (rows p.0) (more p.0) (name_split m) p.1
  layer ClockTerm-F.Pointwise = or_none [] []
  layer (ClockTerm-F.Arrow cks p) = or_append (joined (map keys (map (λ p. p.0) cks))) (joined (map rows (map (λ p. p.0) cks))) (joined (map more (map (λ p. p.0) cks)))
      (keys p.0) (rows p.0) (more p.0) (all_split cks) p.1

  pub clock_split : (ck : ClockTerm) → Split ck
  clock_split = ind-ClockTerm Split (λ x y from. subst (λ z. Split (roll-ClockTerm z)) from
      (subst (λ u. Or u (rows (roll-ClockTerm (tops y))) (more (roll-ClockTerm (tops y)))) (sym (fold-roll-ClockTerm (List Key) ks (tops y)))
      (subst (λ u. Or (ks (folded keys y)) u (more (roll-ClockTerm (tops y)))) (sym (fold-roll-ClockTerm (List Key) rs (tops y)))
      (subst (λ u. Or (ks (folded keys y)) (rs (folded rows y)) u) (sym (fold-roll-ClockTerm (List Key) ms (tops y))) (layer y)))))

  -- a clock without its outermost samplings
  step_sub : (ck : ClockTerm) (o : ClockTerm-F ClockTerm) → keys ck ≡ ks (map-ClockTerm ClockTerm (List Key) keys o) → Sub (keys (bare_step ck o)) (keys ck)
  step_sub ck (ClockTerm-F.On inner m k) e = λ l h. subst (λ z. In l z) (sym e) (in_right l (Reads.case_keys d shapes m) (keys inner) h)
  step_sub ck (ClockTerm-F.Var w) e = λ l h. h
  step_sub ck ClockTerm-F.Pointwise e = λ l h. h
  step_sub ck (ClockTerm-F.Arrow cks c) e = λ l h. h

  bare_sub : (n : ℕ) (ck : ClockTerm) → Sub (keys (bare n ck)) (keys ck)
  bare_sub zero ck l h = h
  bare_sub (suc n) ck l h = step_sub ck (out-ClockTerm ck) (fold_out-ClockTerm (List Key) ks ck) l (bare_sub n (bare_step ck (out-ClockTerm ck)) l h)

  note_is : (e : E) → (Reads.reading d shapes e).note ≡ e.note
  note_is e = ap (λ (r : Reading). r.note) (fold_out-Expr Note (Note → Formed) Reading (Reads.form_reading d shapes) (Reads.expr_reading d shapes) e)

  -- the clock of an expression, or without the arms between, as it is read
  pub here_sub : (n : ℕ) (e : E) → Sub (keys (bare n e.note.ck)) (keys (Reads.reading d shapes e).note.ck)
  here_sub n e l h = subst (λ (z : Note). In l (keys z.ck)) (sym (note_is e)) (bare_sub n e.note.ck l h)
