use Rattle.std.specs.Prelude.{◌≡◌, refl, Option, Some, None}
use Rattle.std.proofs.Common.{◌∙◌, ap, get_or, sym}
use Rattle.ls_places.specs.declared.definition.Key.{Key}
use Rattle.ls_places.specs.declared.definition.Key.TheVariants as key
use Rattle.ls_sig.specs.declared.sigs.Item.{Item}
use Rattle.place_tables.proofs.Lists.{get_any}
use Rattle.causality.specs.Table.{item_at}
use Rattle.causality.proofs.Tabled.{found_next, found_none}
use Rattle.causality.proofs.cycles.items_of.Goals as goal
use Rattle.causality.proofs.cycles.items_of.Goals.{in-Some+in_ok-push, in_default}

not_some : (o : Option Item) → ((x : Item) → o ≡ Some x → ⊥) → o ≡ None
not_some None f = refl
not_some (Some x) f = absurd (f x refl)

pub loop-k-preserved : goal.loop-k-preserved
loop-k-preserved c =
    let d = c.args.d.now in
    let t = c.args.table.now in
    let all = c.args.all.now in
    let i = c.loop-k.k-index in
    let k : Key = get_or all i (key.Var 0) in
    let is = get_any all i (key.Var 0) c.loop-k-test.true in
    let at = ap (item_at t) (sym c.key_node.ensures) in
    elim c.match-table-key_node.branch [
      | in-Some+in_ok-push w ↦
          found_next d t all i k c.loop-k.done c.match-table-key_node.done w.in-Some.item c.requires.table c.requires.items c.loop-k-test.true is (at ∙ w.in-Some.is)
          (w.done-is ∙ w.in_ok-push.ensures.ok) c.loop-k.invariant
      | in_default w ↦ absurd (found_none d t all i k c.requires.table c.requires.items c.loop-k-test.true is (at ∙ not_some (item_at t c.key_node.result) w.in_default.not-Some))
    ]
