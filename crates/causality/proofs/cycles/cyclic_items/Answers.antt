use Rattle.std.specs.Prelude.{◌≡◌, ℕ, List, [], ◌∷◌, length, refl}
use Rattle.std.proofs.Common.{◌∙◌, ap, sym}
use Rattle.ls_places.specs.declared.definition.Key.{Key}
use Rattle.causality_rules.specs.Items.{WaitsForItself}
use Rattle.causality.specs.Cycles.{first_marked, inside, marks_of}
use Rattle.causality.specs.Table.{AreOf}
use Rattle.causality.proofs.Pushed.{by_value, then_ok}
use Rattle.causality.proofs.Tabled.{are_items, it_waits, they_wait}
use Rattle.causality.proofs.cycles.cyclic_items.Goals as goal

nothing : (ks : List Key) (n : ℕ) → n ≡ length ks → n ≡ 0 → ks ≡ []
nothing [] n e z = refl
nothing (k ∷ ks) n e z = absurd (cc (sym z ∙ e))

pub returns-then-len-eq0 : goal.returns-then-len-eq0
returns-then-len-eq0 c =
    let d = c.args.d.now in
    let rows = c.args.rows.now in
    by_value (WaitsForItself d) c.inside.result (inside d rows)
    (it_waits d c.requires.nested rows (first_marked (marks_of d rows) d.places.vars 0) c.requires.cycle (sym c.in_ok-free.ensures ∙ nothing c.in_ok-free.free c.len.result c.len.ensures.value c.if-len-eq0.true) refl)
    c.inside.ensures

pub items_of-requires-clause-items : goal.items_of-requires-clause-items
items_of-requires-clause-items c = are_items c.args.d.now c.requires.paired c.args.rows.now c.as_slice.result.now c.requires.cycle (c.as_slice.ensures.value ∙ c.in_ok-free.ensures)

pub returns : goal.returns
returns c =
    let d = c.args.d.now in
    let ks = c.as_slice.result.now in
    then_ok (λ f. AreOf d f ks) (WaitsForItself d) c.items_of.result
    (λ f are. they_wait d c.args.rows.now ks f c.requires.cycle (c.as_slice.ensures.value ∙ c.in_ok-free.ensures)
    (λ e. c.if-len-eq0.false (c.len.ensures.value ∙ ap length (sym c.as_slice.ensures.value ∙ e))) are) c.items_of.ensures
