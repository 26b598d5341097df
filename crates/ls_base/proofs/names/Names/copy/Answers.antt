use Rattle.std.proofs.Common.{◌≡◌, refl, sym, ap, subst, ◌∙◌, map, slice_get, Some}
use Rattle.std.specs.String.{string_bytes}
use Rattle.std.specs.List.{IsDistinct}
use Rattle.std.specs.Option.{option_map}
use Rattle.std.proofs.lemmas.Option.{slice_get-map, slice_get_read}
use Rattle.ls_base.specs.Names.{with_name}
use Rattle.ls_base.proofs.Spellings.{distinct, next_added}
use Rattle.ls_base.proofs.names.Names.copy.Goals as goal

pub loop-spelling-preserved : goal.loop-spelling-preserved
loop-spelling-preserved c =
    let keys = c.as_slice-spelling-items.result.now in
    let at : slice_get (map string_bytes keys) c.loop-spelling.spelling-index ≡ Some c.as_str.result.now =
    slice_get-map string_bytes keys c.loop-spelling.spelling-index ∙ ap (option_map string_bytes) (slice_get_read keys _ c.loop-spelling.spelling-index c.spelling-item.result refl c.loop-spelling-test.true c.spelling-item.is) ∙ ap Some (sym c.as_str.ensures.value) in
    c.in_ok-add.ensures.added ∙ ap (λ l. with_name l c.as_str.result.now) c.loop-spelling.invariant
    ∙ next_added (map string_bytes keys) c.loop-spelling.spelling-index c.as_str.result.now (distinct string_bytes keys (subst (IsDistinct _) (sym c.as_slice-spelling-items.ensures.keys) c.as_slice-spelling-items.ensures.unique)) at
