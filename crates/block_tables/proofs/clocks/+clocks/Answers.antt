use Rattle.std.specs.Prelude.{OnOk, map}
use Rattle.ls_places.specs.Patterns.{joined}
use Rattle.std.proofs.Common.{◌≡◌, ◌++◌, ap, ◌∙◌, subst, append_assoc}
use Rattle.ls_places.specs.Clocks.{clocks_in}
use Rattle.block_tables.proofs.NotedForms.{call_none, call_some, merge_is}
use Rattle.block_tables.proofs.clocks.+clocks.Goals as goal

pub add_forms-returns-in-Merge : goal.add_forms-returns-in-Merge
add_forms-returns-in-Merge t c =
    subst (λ z. OnOk c.add_choice_clocks.result (c.add_choice_clocks.new.done ≡ c.args.done.now ++ z))
    (merge_is _ _ _ _ c.in-Merge.is c.as_slice-in-Merge.ensures.value) c.add_choice_clocks.ensures

pub add_forms-returns-in-None : goal.add_forms-returns-in-None
add_forms-returns-in-None t c =
    c.in_ok-add_all_clocks-in-Call.ensures ∙ ap (λ z. c.args.done.now ++ z) (call_none _ _ _ _ _ _ c.in-Call.is c.in-None.is c.as_slice-in-Call.ensures.value)

pub add_forms-returns-in-Some : goal.add_forms-returns-in-Some
add_forms-returns-in-Some t c =
    subst (λ z. OnOk c.add_clocks-in-Some.result (c.add_clocks-in-Some.new.done ≡ z))
    (ap (λ z. z ++ clocks_in c.in-Some.e) c.in_ok-add_all_clocks-in-Call.ensures ∙ append_assoc c.args.done.now (joined (map clocks_in c.as_slice-in-Call.result.now)) (clocks_in c.in-Some.e)
    ∙ ap (λ z. c.args.done.now ++ z) (call_some _ _ _ _ _ _ _ c.in-Call.is c.in-Some.is c.as_slice-in-Call.ensures.value)) c.add_clocks-in-Some.ensures
