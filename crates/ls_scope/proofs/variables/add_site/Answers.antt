use Rattle.std.specs.Prelude.{OnOk, is_some}
use Rattle.std.proofs.Common.{◌≡◌, ◌∙◌, ◌∷◌, [], ◌++◌, ap, sym, subst, map}
use Rattle.ls_scope.specs.Keys.{key, key_of, place_in}
use Rattle.ls_scope.proofs.KeyLaws.{kept_site, new_site, new_key}
use Rattle.ls_scope.proofs.variables.add_site.Goals as goal

pub returns-then-is_some-clause-list : goal.returns-then-is_some-clause-list
returns-then-is_some-clause-list c =
    kept_site c.args.list.now c.args.s.now c.in_ok-key.key.items (c.in_ok-key.ensures ∙ ap (key c.args.s.now.var) c.as_slice.ensures.value)
    (ap is_some ((λ i. place_in (sym c.requires i) (sym c.as_slice-2.ensures.value i)) ∙ sym c.place.ensures) ∙ sym c.is_some.ensures ∙ c.if-is_some.true)

pub returns-clause-list : goal.returns-clause-list
returns-clause-list c =
    c.in_ok-push.ensures.ok ∙ (λ i. c.args.list.now ++ c.in_ok-site.ensures i ∷ [])
    ∙ new_site c.args.list.now c.args.s.now c.in_ok-key.key.items (c.in_ok-key.ensures ∙ ap (key c.args.s.now.var) c.as_slice.ensures.value)
    (ap is_some ((λ i. place_in (sym c.requires i) (sym c.as_slice-2.ensures.value i)) ∙ sym c.place.ensures) ∙ sym c.is_some.ensures ∙ c.if-is_some.false)

pub returns-clause-keys : goal.returns-clause-keys
returns-clause-keys c =
    c.in_ok-add.ensures.ok
    ∙ new_key c.args.list.now c.push.new.self c.args.s.now c.args.keys.now c.in_ok-key.key.items c.requires (c.in_ok-key.ensures ∙ ap (key c.args.s.now.var) c.as_slice.ensures.value)
    (ap is_some ((λ i. place_in c.args.keys.now (sym c.as_slice-2.ensures.value i)) ∙ sym c.place.ensures) ∙ sym c.is_some.ensures ∙ c.if-is_some.false)
    (c.in_ok-push.ensures.ok ∙ (λ i. c.args.list.now ++ c.in_ok-site.ensures i ∷ []))
