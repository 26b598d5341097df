use Rattle.std.specs.Option.{is_some}
use Rattle.std.proofs.Common.{◌≡◌, ◌∙◌, ◌++◌, ◌<◌, ap, get_or, length, subst, sym}
use Rattle.ls_places.specs.Search.{start_of}
use Rattle.ls_places.specs.declared.definition.Definition.{Definition}
use Rattle.causality.specs.Items as spec
use Rattle.causality.proofs.Initials.{copied_some, initial_at, initial_none, initial_some, nothing_after}
use Rattle.causality.proofs.Pushed.{joined_next}
use Rattle.causality.proofs.items.add_initials.Goals as goal
use Rattle.causality.proofs.items.add_initials.Goals.{then-is_some+in_ok-push, else-is_some}

pub loop-k-preserved : goal.loop-k-preserved
loop-k-preserved c =
    let d = c.args.d.now in
    let k = c.loop-k.k in
    let w = c.w-item.result in
    let out = c.loop-k.out in
    let s = start_of w d.places.starts in
    let vars = c.as_slice-w-items.ensures.value ∙ ap (λ (z : Definition). z.places.vars) c.definition.ensures in
    let here = subst (λ z. k < length z) vars c.loop-k-test.true in
    let at = subst (λ z. get_or z k w ≡ w) vars (sym c.w-item.is) in
    let row = initial_at d k w here at in
    let start = c.start_of.ensures ∙ ap (λ (z : Definition). start_of w z.places.starts) c.tables.ensures in
    let there = ap is_some (sym start) ∙ copied_some c.start_of.result ∙ sym c.is_some.ensures in
    elim c.if-is_some.branch [
      | then-is_some+in_ok-push v ↦
          joined_next (spec.initial_row_at d) (length d.places.vars) k out c.if-is_some.out _ here
          (v.out-is ∙ v.in_ok-push.ensures.ok ∙ ap (λ z. out ++ z) (sym (row ∙ initial_some k s (there ∙ v.if-is_some.true)))) c.loop-k.invariant
      | else-is_some v ↦
          joined_next (spec.initial_row_at d) (length d.places.vars) k out c.if-is_some.out _ here
          (v.out-is ∙ nothing_after out ∙ ap (λ z. out ++ z) (sym (row ∙ initial_none k s (there ∙ v.if-is_some.false)))) c.loop-k.invariant
    ]
