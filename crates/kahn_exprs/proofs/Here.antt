-- Where variables, signals and automata are on, from what was looked up.
use Rattle.std.specs.Prelude.{◌≡◌, refl, ℕ, zero, suc, ◌+◌, ◌<◌, Bool, true, false, List, [], ◌∷◌, length, Option, Some, None, Result, Ok, Err, IfOk}
use Rattle.std.proofs.Common.{ap, sym, ◌∙◌, drop, get_or}
use Rattle.kahn_cells.proofs.Binds.{one_on}
use Rattle.kahn_cells.proofs.Lists.{get_any}
use Rattle.ls_terms.specs.declared.clocks.ClockTerm.{ClockTerm, fold-roll-ClockTerm, out-ClockTerm, out-roll-ClockTerm}
use Rattle.ls_terms.specs.declared.clocks.ClockTerm.TheOpen.{ClockTerm-F}
use Rattle.ls_terms.specs.declared.clocks.ClockTerm.TheVariants as clock
use Rattle.ls_sig.specs.declared.binder.Note.{Note}
use Rattle.ls_places.specs.Clocks.{bare, bare_step}
use Rattle.ls_places.specs.Places.{InnerArm, Place, arms}
use Rattle.ls_places.specs.Search.{arms_within, mode_clock, never, nth, signal_list_at, sites_of, tested_outside, whole_at}
use Rattle.ls_places.specs.declared.places.Right.{Right}
use Rattle.ls_places.specs.declared.places.Right.TheVariants as rhs
use Rattle.ls_places.specs.declared.places.Site.{Site}
use Rattle.ls_places.specs.declared.places.Variable.{Variable}
use Rattle.ls_places.specs.declared.places.Whole.{Whole}
use Rattle.ls_ast.specs.declared.tree.Pat.{Pat}
use Rattle.kahn_model.specs.Rows.{Row}
use Rattle.kahn_model.specs.Turn
use Rattle.kahn_exprs.specs.declared.body.Body.{Body}
use Rattle.kahn_exprs.specs.Body as spec
use Rattle.kahn_exprs.specs.Memory as own

pub ok_same : {A E : Type 0} (r : Result A E) (x y : A) → x ≡ y → IfOk r (λ v. v ≡ x) → IfOk r (λ v. v ≡ y)
ok_same (Ok v) x y e h = h ∙ e
ok_same (Err f) x y e h = h

-- ---- whole expressions

pub whole_found : (all : List (Whole Note)) (k : ℕ) (w : Whole Note) → Some w ≡ nth all k → w ≡ whole_at all k
whole_found [] k w e = absurd (cc)
whole_found (x ∷ all) zero w e = cc
whole_found (x ∷ all) (suc k) w e = whole_found all k w e

whole_never : (all : List (Whole Note)) (k : ℕ) → None ≡ nth all k → (whole_at all k).expr.note.ck ≡ clock.Pointwise
whole_never [] k e = refl
whole_never (x ∷ all) zero e = absurd (cc)
whole_never (x ∷ all) (suc k) e = whole_never all k e

pointwise_out : out-ClockTerm clock.Pointwise ≡ ClockTerm-F.Pointwise
pointwise_out = ap out-ClockTerm (sym clock.rolls-Pointwise) ∙ out-roll-ClockTerm ClockTerm-F.Pointwise

bare_pointwise : (n : ℕ) → bare n clock.Pointwise ≡ clock.Pointwise
bare_pointwise zero = refl
bare_pointwise (suc n) = ap (λ z. bare n (bare_step clock.Pointwise z)) pointwise_out ∙ bare_pointwise n

module _ (b : Body) where
  on_pointwise : (i : ℕ) → spec.on b clock.Pointwise i ≡ Some false
  on_pointwise i = ap (λ (z : ClockTerm). spec.on b z i) (sym clock.rolls-Pointwise)
      ∙ ap (λ (r : Row Bool). r i) (fold-roll-ClockTerm (Row Bool) (Turn.on_step (spec.cases b) b.defs.now (spec.call b) b.def.now (spec.around b) (spec.table b)) ClockTerm-F.Pointwise)

  pub never_on : (n k i : ℕ) → None ≡ nth b.def.now.places.exprs k → Some false ≡ own.whole_on b n k i
  never_on n k i none = sym (ap (λ z. spec.on b (bare n z) i) (whole_never b.def.now.places.exprs k none) ∙ ap (λ z. spec.on b z i) (bare_pointwise n) ∙ on_pointwise i)

  pub whole_here : (n k i : ℕ) (w : Whole Note) → Some w ≡ nth b.def.now.places.exprs k → spec.on b (bare n w.expr.note.ck) i ≡ own.whole_on b n k i
  whole_here n k i w found = ap (λ (z : Whole Note). spec.on b (bare n z.expr.note.ck) i) (whole_found b.def.now.places.exprs k w found)

  -- ---- variables

  pub part_here : (s : Site) (p : Pat) (k i : ℕ) → s.right ≡ rhs.Part p k → own.whole_on b (length s.inner) k i ≡ own.site_here b s i
  part_here s p k i e = sym (ap (λ z. Turn.right_here (spec.cases b) b.defs.now (spec.call b) b.def.now (spec.around b) (spec.table b) s z i) e)

  pub whole_is_here : (s : Site) (k i : ℕ) → s.right ≡ rhs.Whole k → own.whole_on b (length s.inner) k i ≡ own.site_here b s i
  whole_is_here s k i e = sym (ap (λ z. Turn.right_here (spec.cases b) b.defs.now (spec.call b) b.def.now (spec.around b) (spec.table b) s z i) e)

  pub pattern_here : (s : Site) (x : ℕ) (p : Pat) (place : Place) (i : ℕ) → s.right ≡ rhs.Pattern x p → place ≡ s.place → spec.active b place i ≡ own.site_here b s i
  pattern_here s x p place i e same = ap (λ z. spec.active b z i) same
      ∙ sym (ap (λ z. Turn.right_here (spec.cases b) b.defs.now (spec.call b) b.def.now (spec.around b) (spec.table b) s z i) e)

  pub variable_at : (x i : ℕ) (o : Option Site) → o ≡ nth (sites_of x b.def.now.places.sites) 0
      → Turn.variable_here_at (spec.cases b) b.defs.now (spec.call b) b.def.now (spec.around b) (spec.table b) o i ≡ spec.variable_here b x i
  variable_at x i o e = ap (λ z. Turn.variable_here_at (spec.cases b) b.defs.now (spec.call b) b.def.now (spec.around b) (spec.table b) z i) e

  -- ---- automata

  pub mode_at : (m : ℕ) (p : Place) (i : ℕ) (o : Option ClockTerm) (t : Option ℕ) → o ≡ mode_clock m b.def.now.places.exprs → t ≡ tested_outside b.def.now m
      → Turn.mode_on (spec.cases b) b.defs.now (spec.call b) b.def.now (spec.around b) (spec.table b) o t p i ≡ spec.mode_here b m p i
  mode_at m p i o t e f =
      ap (λ z. Turn.mode_on (spec.cases b) b.defs.now (spec.call b) b.def.now (spec.around b) (spec.table b) z t p i) e
      ∙ ap (λ z. Turn.mode_on (spec.cases b) b.defs.now (spec.call b) b.def.now (spec.around b) (spec.table b) (mode_clock m b.def.now.places.exprs) z p i) f

-- ---- arms

none_within : (l : List InnerArm) → [] ≡ arms_within l []
none_within [] = refl
none_within (a ∷ l) = refl

one_within : (a : InnerArm) (l p : List InnerArm) → arms_within l (own.inner_arms p) ≡ arms_within (a ∷ l) p
one_within a l [] = sym (none_within l)
one_within a l (c ∷ p) = refl

pub within_next : (l : List InnerArm) (i : ℕ) (d : InnerArm) (p whole : List InnerArm) → i < length l → arms_within (drop i l) p ≡ whole → arms_within (drop (i + 1) l) (own.inner_arms p) ≡ whole
within_next l i d p whole below so_far =
    one_within (get_or l i d) (drop (i + 1) l) p ∙ sym (ap (λ z. arms_within z p) (one_on l i (get_or l i d) below (get_any l i d below))) ∙ so_far
