-- The clocks noted in the forms that have parts in lists of their own.
use Rattle.std.specs.Prelude.{◌≡◌, refl, Bool, List, [], ◌∷◌, ◌++◌, map, Option, Some, None}
use Rattle.std.proofs.Common.{ap, sym, ◌∙◌}
use Rattle.ls_base.specs.declared.Name.{Name}
use Rattle.ls_ast.specs.declared.tree.Case.{Case}
use Rattle.ls_ast.specs.declared.tree.Expr.{Expr}
use Rattle.ls_ast.specs.declared.tree.Form.{Form, fold-roll-Form}
use Rattle.ls_ast.specs.declared.tree.Form.TheOpen.{Form-F}
use Rattle.ls_ast.specs.declared.tree.Form.TheVariants.{Call, Merge, rolls-Call, rolls-Merge}
use Rattle.ls_terms.specs.declared.clocks.ClockTerm.{ClockTerm}
use Rattle.ls_places.specs.Patterns.{joined}
use Rattle.ls_sig.specs.declared.binder.Note.{Note}
use Rattle.ls_places.specs.Clocks.{choice_parts, clocks_expr, clocks_form, clocks_in}
use Rattle.block_tables.specs.Blocks.{choices_clocks, clocks_of}
use Rattle.place_tables.proofs.Lists.{joined_append}

nothing_after : {A : Type 0} → (xs : List A) → xs ++ [] ≡ xs
nothing_after [] = refl
nothing_after (x ∷ xs) = ap (λ z. x ∷ z) (nothing_after xs)

pub merge_is : (form : Form Note) (c : Name) (choices slice : List (Case × Expr Note)) → form ≡ Merge c choices → slice ≡ choices
    → joined (choice_parts (choices_clocks slice)) ≡ clocks_of form
merge_is form c choices slice is e =
    ap (λ z. joined (choice_parts (choices_clocks z))) e
    ∙ sym (fold-roll-Form Note (List ClockTerm) (List ClockTerm) clocks_form clocks_expr (Form-F.Merge c choices))
    ∙ ap clocks_of (rolls-Merge c choices) ∙ sym (ap clocks_of is)

pub call_none : (form : Form Note) (run : Bool) (head : Name) (args slice : List (Expr Note)) (every : Option (Expr Note)) → form ≡ Call run head args every → every ≡ None
    → slice ≡ args → joined (map clocks_in slice) ≡ clocks_of form
call_none form run head args slice every is none e =
    ap (λ z. joined (map clocks_in z)) e ∙ ap joined (sym (nothing_after (map clocks_in args)))
    ∙ sym (fold-roll-Form Note (List ClockTerm) (List ClockTerm) clocks_form clocks_expr (Form-F.Call run head args None))
    ∙ ap clocks_of (rolls-Call run head args None ∙ ap (Call run head args) (sym none) ∙ sym is)

pub call_some : (form : Form Note) (run : Bool) (head : Name) (args slice : List (Expr Note)) (every : Option (Expr Note)) (last : Expr Note) → form ≡ Call run head args every
    → every ≡ Some last → slice ≡ args → joined (map clocks_in slice) ++ clocks_in last ≡ clocks_of form
call_some form run head args slice every last is some e =
    ap (λ z. joined (map clocks_in z) ++ clocks_in last) e
    ∙ ap (λ z. joined (map clocks_in args) ++ z) (sym (nothing_after (clocks_in last)))
    ∙ sym (joined_append (map clocks_in args) (clocks_in last ∷ []))
    ∙ sym (fold-roll-Form Note (List ClockTerm) (List ClockTerm) clocks_form clocks_expr (Form-F.Call run head args (Some last)))
    ∙ ap clocks_of (rolls-Call run head args (Some last) ∙ ap (Call run head args) (sym some) ∙ sym is)
