use Rattle.std.proofs.Common.{◌≡◌, sym, ap, ◌∙◌, map, length, slice_get, [], ◌∷◌, ◌++◌}
use Rattle.std.specs.String.{string_bytes}
use Rattle.std.proofs.lemmas.List.{length-map}
use Rattle.ls_base.specs.Names.{with_name}
use Rattle.ls_base.proofs.Spellings.{with_known, with_new, inserted, slice_get-append, slice_get-last}
use Rattle.ls_base.proofs.names.Names.add.Goals as goal

pub returns-in-Some-clause-added : goal.returns-in-Some-clause-added
returns-in-Some-clause-added c = with_known c.args.self.now _ c.args.spelling.now c.in-Some.ensures.found

added : goal.returns-clause-added
added c =
    ap (map string_bytes) c.in_ok-put_last.ensures.keys ∙ inserted string_bytes c.self.inside.set.keys c.in_ok-text.text
    ∙ (λ i. with_name (c.self.view_is i) (c.in_ok-text.ensures.ok i))

pub returns-clause-added : goal.returns-clause-added
returns-clause-added = added

pub returns-clause-number : goal.returns-clause-number
returns-clause-number c =
    let last = added c ∙ with_new c.args.self.now c.args.spelling.now c.in_default.ensures.absent in
    let at : length c.args.self.now ≡ c.len-at.result = ap length (sym c.self.view_is) ∙ length-map c.self.inside.set.keys string_bytes ∙ sym c.len-at.ensures.len in
    ap (λ l. slice_get l c.len-at.result) last ∙ ap (slice_get (c.args.self.now ++ c.args.spelling.now ∷ [])) (sym at) ∙ slice_get-last c.args.self.now c.args.spelling.now

pub returns-clause-kept : goal.returns-clause-kept
returns-clause-kept c = λ n known old.
    ap (λ l. slice_get l n) (added c ∙ with_new c.args.self.now c.args.spelling.now c.in_default.ensures.absent)
    ∙ slice_get-append c.args.self.now (c.args.spelling.now ∷ []) n known old
