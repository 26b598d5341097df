-- What forms read, by what they are.
use Rattle.std.specs.Prelude.{◌≡◌, refl, Bool, List, [], ◌∷◌, ◌++◌, map, Option, Some, None}
use Rattle.std.proofs.Common.{ap, sym, ◌∙◌, append_assoc}
use Rattle.ls_ast.specs.declared.tree.Case.{Case}
use Rattle.ls_ast.specs.declared.tree.Form.{Form, fold-roll-Form}
use Rattle.ls_ast.specs.declared.tree.Form.TheOpen.{Form-F}
use Rattle.ls_ast.specs.declared.tree.Form.TheVariants as form
use Rattle.ls_ast.specs.declared.tree.Expr.{fold-Expr, fold_out-Expr}
use Rattle.ls_base.specs.declared.Name.{Name}
use Rattle.ls_ops.specs.declared.kinds.Op.{Op}
use Rattle.ls_places.specs.Clocks.{choice_parts}
use Rattle.ls_places.specs.Search.{E}
use Rattle.ls_places.specs.declared.definition.Definition.{Definition}
use Rattle.ls_places.specs.declared.definition.Key.{Key}
use Rattle.ls_sig.specs.declared.binder.Note.{Note}
use Rattle.causality_rules.specs.Reads as reads
use Rattle.causality_rules.specs.Reads.{Read, all_read, bound_rows, clock_rows, every_read, expr_rows, read_by, restart_rows}
use Rattle.causality.specs.Walks as own

module _ (d : Definition) (n : Note) (f : Form Note) where
  abbrev S : E → Read
  S = fold-Expr Note (Note → List Key) Read (reads.form_rows d) (expr_rows d)

  abbrev F : Form-F Note (Note → List Key) Read → List Key
  F part = reads.form_rows d part n

  abbrev rows_at : Form Note → List Key
  rows_at form = own.form_rows d form n

  -- ---- lists of expressions

  all_are : (es : List E) → own.all_rows d es ≡ all_read (map S es)
  all_are [] = refl
  all_are (e ∷ es) = ap (λ z. read_by d e ++ z) (all_are es)

  abbrev choices : List (Case × E) → List (Case × Read)
  choices cs = map {A = Case × E} {B = Case × Read} (λ c. (c.0, S c.1)) cs

  choices_are : (cs : List (Case × E)) → own.choice_rows d cs ≡ all_read (choice_parts (choices cs))
  choices_are [] = refl
  choices_are (c ∷ cs) = ap (λ z. read_by d c.1 ++ z) (choices_are cs)

  -- ---- forms

  pub op_rows : (o : Op) (args slice : List E) → f ≡ form.Op o args → slice ≡ args → own.all_rows d slice ≡ own.form_rows d f n
  op_rows o args slice is e =
      ap (own.all_rows d) e ∙ all_are args
      ∙ ap (λ (z : Note → List Key). z n) (sym (fold-roll-Form Note (Note → List Key) Read (reads.form_rows d) (expr_rows d) (Form-F.Op o args)))
      ∙ ap rows_at (form.rolls-Op o args ∙ sym is)

  pub tuple_rows : (args slice : List E) → f ≡ form.Tuple args → slice ≡ args → own.all_rows d slice ≡ own.form_rows d f n
  tuple_rows args slice is e =
      ap (own.all_rows d) e ∙ all_are args
      ∙ ap (λ (z : Note → List Key). z n) (sym (fold-roll-Form Note (Note → List Key) Read (reads.form_rows d) (expr_rows d) (Form-F.Tuple args)))
      ∙ ap rows_at (form.rolls-Tuple args ∙ sym is)

  pub fby_rows : (out : List Key) (a b : E) → f ≡ form.Fby a b → (out ++ restart_rows n.restarts) ++ read_by d a ≡ out ++ own.form_rows d f n
  fby_rows out a b is =
      append_assoc out (restart_rows n.restarts) (read_by d a)
      ∙ ap (λ z. out ++ z) (ap (λ (z : Note → List Key). z n) (sym (fold-roll-Form Note (Note → List Key) Read (reads.form_rows d) (expr_rows d) (Form-F.Fby a b)))
      ∙ ap rows_at (form.rolls-Fby a b ∙ sym is))

  three : (out x y z : List Key) → ((out ++ x) ++ y) ++ z ≡ out ++ (x ++ (y ++ z))
  three out x y z = append_assoc (out ++ x) y z ∙ append_assoc out x (y ++ z)

  pub init_rows : (out : List Key) (a b : E) → f ≡ form.Init a b → ((out ++ restart_rows n.restarts) ++ read_by d a) ++ read_by d b ≡ out ++ own.form_rows d f n
  init_rows out a b is =
      three out (restart_rows n.restarts) (read_by d a) (read_by d b)
      ∙ ap (λ z. out ++ z) (ap (λ (z : Note → List Key). z n) (sym (fold-roll-Form Note (Note → List Key) Read (reads.form_rows d) (expr_rows d) (Form-F.Init a b)))
      ∙ ap rows_at (form.rolls-Init a b ∙ sym is))

  pub when_rows : (out : List Key) (e : E) (x : Name) (k : Case) → f ≡ form.When e x k → (out ++ bound_rows n.bound) ++ read_by d e ≡ out ++ own.form_rows d f n
  when_rows out e x k is =
      append_assoc out (bound_rows n.bound) (read_by d e)
      ∙ ap (λ z. out ++ z) (ap (λ (z : Note → List Key). z n) (sym (fold-roll-Form Note (Note → List Key) Read (reads.form_rows d) (expr_rows d) (Form-F.When e x k)))
      ∙ ap rows_at (form.rolls-When e x k ∙ sym is))

  pub merge_rows : (out : List Key) (x : Name) (cs slice : List (Case × E)) → f ≡ form.Merge x cs → slice ≡ cs
      → (out ++ bound_rows n.bound) ++ own.choice_rows d slice ≡ out ++ own.form_rows d f n
  merge_rows out x cs slice is e =
      append_assoc out (bound_rows n.bound) (own.choice_rows d slice)
      ∙ ap (λ z. out ++ z) (ap (λ z. bound_rows n.bound ++ z) (ap (own.choice_rows d) e ∙ choices_are cs)
      ∙ ap (λ (z : Note → List Key). z n) (sym (fold-roll-Form Note (Note → List Key) Read (reads.form_rows d) (expr_rows d) (Form-F.Merge x cs)))
      ∙ ap rows_at (form.rolls-Merge x cs ∙ sym is))

  nothing_after : (xs : List Key) → xs ≡ xs ++ []
  nothing_after [] = refl
  nothing_after (x ∷ xs) = ap (λ z. x ∷ z) (nothing_after xs)

  pub call_none : (out : List Key) (run : Bool) (head : Name) (args slice : List E) (every : Option E) → f ≡ form.Call run head args every → every ≡ None → slice ≡ args
      → (out ++ bound_rows n.bound) ++ own.all_rows d slice ≡ out ++ own.form_rows d f n
  call_none out run head args slice every is none e =
      append_assoc out (bound_rows n.bound) (own.all_rows d slice)
      ∙ ap (λ z. out ++ z) (ap (λ z. bound_rows n.bound ++ z) (ap (own.all_rows d) e ∙ all_are args ∙ nothing_after (all_read (map S args)))
      ∙ ap (λ (z : Note → List Key). z n) (sym (fold-roll-Form Note (Note → List Key) Read (reads.form_rows d) (expr_rows d) (Form-F.Call run head args None)))
      ∙ ap rows_at (form.rolls-Call run head args None ∙ ap (form.Call run head args) (sym none) ∙ sym is))

  pub call_some : (out : List Key) (run : Bool) (head : Name) (args slice : List E) (every : Option E) (last : E) → f ≡ form.Call run head args every → every ≡ Some last → slice ≡ args
      → ((out ++ bound_rows n.bound) ++ own.all_rows d slice) ++ read_by d last ≡ out ++ own.form_rows d f n
  call_some out run head args slice every last is some e =
      three out (bound_rows n.bound) (own.all_rows d slice) (read_by d last)
      ∙ ap (λ z. out ++ z) (ap (λ z. bound_rows n.bound ++ (z ++ read_by d last)) (ap (own.all_rows d) e ∙ all_are args)
      ∙ ap (λ (z : Note → List Key). z n) (sym (fold-roll-Form Note (Note → List Key) Read (reads.form_rows d) (expr_rows d) (Form-F.Call run head args (Some last))))
      ∙ ap rows_at (form.rolls-Call run head args (Some last) ∙ ap (form.Call run head args) (sym some) ∙ sym is))

-- an expression reads the names in its own clock, and what its form reads
expr_is : (d : Definition) (e : E) → read_by d e ≡ clock_rows d e.note.ck ++ own.form_rows d e.form e.note
expr_is d e = ap (λ (r : Read). r.rows) (fold_out-Expr Note (Note → List Key) Read (reads.form_rows d) (expr_rows d) e)

pub expr_pushed : (d def : Definition) (e : E) (form : Form Note) (out clocked : List Key) → def ≡ d → form ≡ e.form → clocked ≡ out ++ clock_rows def e.note.ck
    → clocked ++ own.form_rows d form e.note ≡ out ++ read_by d e
expr_pushed d def e form out clocked is f c =
    ap (λ z. z ++ own.form_rows d form e.note) (c ∙ ap (λ z. out ++ clock_rows z e.note.ck) is) ∙ append_assoc out (clock_rows d e.note.ck) (own.form_rows d form e.note)
    ∙ ap (λ z. out ++ z) (ap (λ z. clock_rows d e.note.ck ++ own.form_rows d z e.note) f ∙ sym (expr_is d e))
