-- What stands at a call, below the number of lines.
use Rattle.std.specs.Prelude.{◌≡◌, refl, ℕ, Bool, true, false, List, [], ◌∷◌, Option, Some, None, if◌then◌else◌}
use Rattle.std.proofs.Common.{ap, sym, subst}
use Rattle.ls_places.specs.Places.{Place}
use Rattle.ls_sig.specs.declared.binder.Binder.{Binder}
use Rattle.ls_sig.specs.declared.binder.Binder.TheVariants as binder
use Rattle.ls_sig.specs.declared.binder.Note.{Note}
use Rattle.kahn_model.specs.declared.cell.Cell.{Cell}
use Rattle.kahn_model.specs.Alike.{ArgAlike, ArgsAlike, MeaningAlike, RowAlike}
use Rattle.kahn_model.specs.Cells.{is_yes, say}
use Rattle.ls_places.specs.Clocks.{is_function}
use Rattle.kahn_model.specs.Functions.{Arg, stream, def, given, Meaning, Said, args_said, give_args, row_of}
use Rattle.kahn_model.specs.Rows.{Row, either}
use Rattle.kahn_model.specs.Table.{cell_in}
use Rattle.kahn_model.specs.Turn
use Rattle.kahn_model.proofs.Alike.{apply_alike, meaning_alike, row_trans, written_alike}
use Rattle.kahn_exprs.specs.declared.body.Body.{Body}
use Rattle.kahn_exprs.specs.Body as spec
use Rattle.kahn_exprs.specs.Calls.{called, cut, target, target_at, target_row}
use Rattle.kahn_exprs.specs.Instance.{head, head_at}
use Rattle.kahn_exprs.specs.Rules.{restart}
use Rattle.kahn_exprs.specs.Values.{used, used_by}
use Rattle.kahn_exprs.proofs.Names.{head_alike, look_alike}

give_alike : (n : ℕ) (f f' : Arg) (gs gs' : List Arg) → ArgAlike n f f' → ArgsAlike n gs gs' → ArgAlike n (give_args f gs) (give_args f' gs')
give_alike n f f' [] [] p q = p
give_alike n f f' (g ∷ gs) (g' ∷ gs') p q = give_alike n (given f g) (given f' g') gs gs' (p, q.0) q.1
give_alike n f f' _ _ p q = absurd q

by_type : (n : ℕ) (t : Bool) (f g f' g' : Arg) → ArgAlike n f f' → ArgAlike n g g' → ArgAlike n (if t then f else g) (if t then f' else g')
by_type n true f g f' g' p q = p
by_type n false f g f' g' p q = q

-- the row after `every`, and what stands there
abbrev pub EveryAlike : ℕ → Option (List (Option Cell)) → Option Said → Type 0
EveryAlike n None None = Unit {0}
EveryAlike n (Some cells) (Some s) = RowAlike n (cell_in cells) (row_of s.arg)
EveryAlike n _ _ = ⊥

module _ (b : Body) (p : Place) where
  abbrev apply_of : Meaning → Arg → List Arg → Row Bool → Row Bool → Row Bool → Row Cell
  apply_of call = Turn.apply (spec.cases b) b.defs.now call b.def.now (spec.around b) (spec.table b)

  target_apply : (call : Meaning) (f : Arg) (gs : List Arg) (here active again : Row Bool) → target_row call (target f gs here active again) ≡ apply_of call f gs here active again
  target_apply call (stream r) gs here active again = refl
  target_apply call (def k c) gs here active again = refl
  target_apply call (given f x) gs here active again = target_apply call f (x ∷ gs) here active again

  abbrev every_of : Option Said → Row Bool
  every_of = Turn.every_too (spec.cases b) b.defs.now (spec.call b) b.def.now (spec.around b) (spec.table b) (spec.again b p)

  restart_alike : (every : Option (List (Option Cell))) (s : Option Said) → EveryAlike b.lines every s → RowAlike b.lines (restart b p every) (every_of s)
  restart_alike None None q = λ i l. refl
  restart_alike (Some cells) (Some s) q = λ i l. ap (λ z. either (spec.again b p i) (say is_yes z)) (q i l)
  restart_alike _ _ q = absurd q

  module _ (note : Note) where
    -- the row of a call, by any meaning that goes by the lines alone
    pub target_alike : (call : Meaning) → MeaningAlike b.lines call call → (f f' : Arg) (gs gs' : List Arg) (every : Option (List (Option Cell))) (s : Option Said) → ArgAlike b.lines f f' → ArgsAlike b.lines gs gs'
        → EveryAlike b.lines every s → RowAlike b.lines (target_row call (target_at b p note f gs every)) (apply_of call f' gs' (spec.on b note.ck) (spec.active b p) (every_of s))
    target_alike call alike f f' gs gs' every s q qs e = subst (λ (r : Row Cell). RowAlike b.lines r (apply_of call f' gs' (spec.on b note.ck) (spec.active b p) (every_of s)))
        (sym (target_apply call f gs (cut b.lines (spec.on b note.ck)) (cut b.lines (spec.active b p)) (cut b.lines (restart b p every))))
        (apply_alike b.lines (spec.cases b) b.defs.now call call alike b.def.now b.def.now (spec.around b) (spec.around b) (spec.table b) (spec.table b) f f' gs gs'
        (cut b.lines (spec.on b note.ck)) (spec.on b note.ck) (cut b.lines (spec.active b p)) (spec.active b p) (cut b.lines (restart b p every)) (every_of s) q qs
        (written_alike b.lines (spec.on b note.ck)) (written_alike b.lines (spec.active b p))
        (row_trans b.lines (cut b.lines (restart b p every)) (restart b p every) (every_of s) (written_alike b.lines (restart b p every)) (restart_alike every s e)))

    pub called_alike : (f f' : Arg) (gs : List Arg) (every : Option (List (Option Cell))) (ss : List Said) (s : Option Said) → ArgAlike b.lines f f' → ArgsAlike b.lines gs (args_said ss)
        → EveryAlike b.lines every s → ArgAlike b.lines (called b p note f gs every)
        (Turn.called (spec.cases b) b.defs.now (spec.call b) b.def.now (spec.around b) (spec.table b) (spec.active b p) (spec.again b p) note f' ss s)
    called_alike f f' gs every ss s q qs e = by_type b.lines (is_function note) _ _ _ _ (give_alike b.lines f f' gs (args_said ss) q qs)
        (row_trans b.lines (cut b.lines (target_row (spec.call b) (target_at b p note f gs every))) (target_row (spec.call b) (target_at b p note f gs every))
        (apply_of (spec.call b) f' (args_said ss) (spec.on b note.ck) (spec.active b p) (every_of s)) (written_alike b.lines _)
        (target_alike (spec.call b) (meaning_alike (spec.cases b) b.defs.now b.lines b.depth) f f' gs (args_said ss) every s q qs e))

    abbrev head_of : ℕ → ℕ → Arg
    head_of k x = Turn.head_of (spec.cases b) b.defs.now (spec.call b) b.def.now (spec.around b) (spec.table b) (binder.Def k) note.ck x []

    used_at : (x : ℕ) (bound : Binder) → note.bound ≡ bound → ArgAlike b.lines (used_by b p note x bound)
        (Turn.used (spec.cases b) b.defs.now (spec.call b) b.def.now (spec.around b) (spec.table b) (spec.active b p) (spec.again b p) note bound x)
    used_at x (binder.Def k) e = called_alike (head b note x []) (head_of k x) [] None [] None
        (subst (λ z. ArgAlike b.lines (head_at b z note.ck x []) (head_of k x)) (sym e) (head_alike b (binder.Def k) note.ck x [])) tt tt
    used_at x (binder.Var k) e = look_alike b (binder.Var k) x
    used_at x (binder.Param k) e = look_alike b (binder.Param k) x
    used_at x binder.Nothing e = look_alike b binder.Nothing x
    used_at x (binder.Case t k) e = look_alike b (binder.Case t k) x

    pub used_alike : (x : ℕ) → ArgAlike b.lines (used b p note x) (spec.used b p note note.bound x)
    used_alike x = used_at x note.bound refl
