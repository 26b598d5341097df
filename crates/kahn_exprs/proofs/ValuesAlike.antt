-- Rows and values of expressions from those of their forms.
use Rattle.std.specs.Prelude.{◌≡◌, refl, ℕ, zero, suc, ◌+◌, ◌<◌, List, [], ◌∷◌, ◌++◌, map, Option, Result, Ok, Err, IfOk, length, get_or, take}
use Rattle.std.proofs.Common.{ap, sym, ◌∙◌, subst, arith}
use Rattle.std.proofs.lemmas.Grind.{common_steps}
use Rattle.ls_ast.specs.declared.tree.Expr.{Expr}
use Rattle.ls_places.specs.Places.{Place}
use Rattle.ls_sig.specs.declared.binder.Note.{Note}
use Rattle.kahn_model.specs.declared.cell.Cell.{Cell}
use Rattle.kahn_model.specs.Alike.{ArgAlike, ArgsAlike, RowAlike}
use Rattle.kahn_model.specs.Cells.{at}
use Rattle.kahn_model.specs.Functions.{Arg, stream, def, given, Said, args_said, row_of}
use Rattle.kahn_model.specs.Rows.{Row}
use Rattle.kahn_model.specs.Table.{written_row}
use Rattle.kahn_model.proofs.Alike.{written_alike}
use Rattle.kahn_exprs.specs.declared.body.Body.{Body}
use Rattle.kahn_exprs.specs.declared.context.Argument.{Argument}
use Rattle.kahn_exprs.specs.Body as spec
use Rattle.kahn_exprs.specs.Context.{arg_of, args_of}
use Rattle.kahn_exprs.specs.Values as val
use Rattle.kahn_exprs.proofs.FormsAlike.{said_is}
use Rattle.kahn_exprs.proofs.Names.{rows_alike}
use Rattle.kahn_exprs.proofs.Targets.{args_append}

pub ok_alike : {E : Type 0} (n : ℕ) (r : Result Argument E) (f g : Arg) → IfOk r (λ v. arg_of v ≡ f) → ArgAlike n f g → IfOk r (λ v. ArgAlike n (arg_of v) g)
ok_alike n (Ok v) f g h q = subst (λ z. ArgAlike n z g) (sym h) q
ok_alike n (Err x) f g h q = h

-- rows that are the same below n are written alike
written_from : {A : Type 0} (n k : ℕ) (r s : Row A) → ((i : ℕ) → k < suc i → i < k + n → r i ≡ s i) → written_row n k r ≡ written_row n k s
written_from zero k r s q = refl
written_from (suc n) k r s q =
    ap (λ z. z ∷ written_row n (suc k) r) (q k (omega arith) (omega arith))
    ∙ ap (λ z. s k ∷ z) (written_from n (suc k) r s (λ i l m. q i (omega (arith, l)) (omega (arith, m))))

pub written_same : {A : Type 0} (n : ℕ) (r s : Row A) → RowAlike n r s → written_row n 0 r ≡ written_row n 0 s
written_same n r s q = written_from n 0 r s (λ i l m. q i (omega (arith, m)))

args_more : (n : ℕ) (xs : List Arg) (ys : List Arg) (x y : Arg) → ArgsAlike n xs ys → ArgAlike n x y → ArgsAlike n (xs ++ x ∷ []) (ys ++ y ∷ [])
args_more n [] [] x y p q = (q, tt)
args_more n (a ∷ xs) (c ∷ ys) x y p q = (p.0, args_more n xs ys x y p.1 q)
args_more n _ _ x y p q = absurd p

said_append : (xs ys : List Said) → args_said (xs ++ ys) ≡ args_said xs ++ args_said ys
said_append [] ys = refl
said_append (x ∷ xs) ys = ap (λ z. x.arg ∷ z) (said_append xs ys)

map_append : {A B : Type 0} (f : A → B) (xs ys : List A) → map f (xs ++ ys) ≡ map f xs ++ map f ys
map_append f [] ys = refl
map_append f (x ∷ xs) ys = ap (λ z. f x ∷ z) (map_append f xs ys)

-- one more of a list
next : {A : Type 0} (all : List A) (i : ℕ) (x : A) → i < length all → get_or all i x ≡ x → take (i + 1) all ≡ take i all ++ x ∷ []
next all i x below is = grind (arith, common_steps)

pub mapped_next : {A B : Type 0} (f : A → B) (all : List A) (i : ℕ) (x : A) (done new : List B) (y : B) → i < length all → get_or all i x ≡ x → done ≡ map f (take i all) → y ≡ f x → new ≡ done ++ y ∷ []
    → new ≡ map f (take (i + 1) all)
mapped_next f all i x done new y below is so_far one more =
    more ∙ ap (λ z. z ++ y ∷ []) so_far ∙ ap (λ z. map f (take i all) ++ z ∷ []) one ∙ sym (ap (map f) (next all i x below is) ∙ map_append f (take i all) (x ∷ []))

module _ (b : Body) (p : Place) where
  pub values_next : (all : List (Expr Note)) (i : ℕ) (e : Expr Note) (done new : List Argument) (v : Argument) → i < length all → get_or all i e ≡ e
      → ArgsAlike b.lines (args_of done) (args_said (map (spec.said b p) (take i all))) → ArgAlike b.lines (arg_of v) (val.value b p e) → new ≡ done ++ v ∷ []
      → ArgsAlike b.lines (args_of new) (args_said (map (spec.said b p) (take (i + 1) all)))
  values_next all i e done new v below is so_far one more =
      subst (λ z. ArgsAlike b.lines z (args_said (map (spec.said b p) (take (i + 1) all)))) (sym (ap args_of more ∙ args_append done (v ∷ [])))
      (subst (λ z. ArgsAlike b.lines (args_of done ++ arg_of v ∷ []) z)
      (sym (ap (λ z. args_said (map (spec.said b p) z)) (next all i e below is) ∙ ap args_said (map_append (spec.said b p) (take i all) (e ∷ [])) ∙ said_append (map (spec.said b p) (take i all)) (spec.said b p e ∷ [])))
      (args_more b.lines (args_of done) (args_said (map (spec.said b p) (take i all))) (arg_of v) (val.value b p e) so_far one))

  clock_alike : (note : Note) (f g : Arg) → ArgAlike b.lines f g → ArgAlike b.lines (val.on_clock b note f) (spec.on_clock b note g)
  clock_alike note (stream r) (stream s) q = λ i l. written_alike b.lines (λ i. at (spec.on b note.ck i) (r i)) i l ∙ ap (at (spec.on b note.ck i)) (q i l)
  clock_alike note (def k c) (def l d) q = q
  clock_alike note (given f x) (given g y) q = q
  clock_alike note _ _ q = absurd q

  value_at : (e : Expr Note) (f : Arg) → ArgAlike b.lines f (spec.said_form b p e.form e.note) → ArgAlike b.lines (val.on_clock b e.note f) (val.value b p e)
  value_at e f q = subst (λ (z : Said). ArgAlike b.lines (val.on_clock b e.note f) z.arg) (sym (said_is b p e)) (clock_alike e.note f (spec.said_form b p e.form e.note) q)

  pub value_alike : {E : Type 0} (e : Expr Note) (f : Arg) (r : Result Argument E) → ArgAlike b.lines f (spec.said_form b p e.form e.note) → IfOk r (λ v. arg_of v ≡ val.on_clock b e.note f)
      → IfOk r (λ v. ArgAlike b.lines (arg_of v) (val.value b p e))
  value_alike e f r q h = ok_alike b.lines r (val.on_clock b e.note f) (val.value b p e) h (value_at e f q)

  pub row_is : {E : Type 0} (e : Expr Note) (v : Argument) (r : Result (List (Option Cell)) E) → ArgAlike b.lines (arg_of v) (val.value b p e) → IfOk r (λ c. c ≡ written_row b.lines 0 (row_of (arg_of v)))
      → IfOk r (λ c. c ≡ written_row b.lines 0 (spec.cell b p e))
  row_is e v (Ok c) q h = h ∙ written_same b.lines (row_of (arg_of v)) (spec.cell b p e) (rows_alike b.lines (arg_of v) (val.value b p e) q)
  row_is e v (Err x) q h = h
