use Rattle.std.proofs.Common.{◌≡◌, ◌∙◌, sym, subst, List, take, ◌+◌}
use Rattle.ls_base.specs.declared.Name.{Name}
use Rattle.step_text.specs.Next.{AreNumbered}
use Rattle.step_text.proofs.NameLemmas.{name_added, number_added}
use Rattle.step_text.proofs.reading.add_names.Goals as goal

pub loop-word-preserved : goal.loop-word-preserved
loop-word-preserved c =
    let words = c.args.words.now in
    let i = c.loop-word.word-index in
    let item = c.word-item.result in
    let word = c.as_text.result.now in
    let same : word ≡ item = c.as_text.ensures ∙ c.as_slice.ensures.value in
    record {
      names = name_added words i item word _ c.loop-word.names c.add.new.self c.loop-word-test.true c.word-item.is same c.in_ok-add.ensures.added c.loop-word.invariant.names;
      numbers =
          subst
          (λ (ns : List Name). AreNumbered c.add.new.self (take (i + 1) words) ns)
          (sym c.in_ok-push.ensures.ok)
          (number_added words i item word c.loop-word.names c.add.new.self c.loop-word.done c.in_ok-add.field-0 c.loop-word-test.true c.word-item.is same c.in_ok-add.ensures.kept c.in_ok-add.ensures.number c.loop-word.invariant.numbers);
    }
