use Rattle.std.proofs.Common.{◌∙◌, sym, ap, option_map}
use Rattle.step_code.specs.declared.parts.SlotKind.TheVariants.{Mem}
use Rattle.std.proofs.lemmas.Slice.Eq.{bytes_eq-Decides}
use Rattle.step_text.proofs.FormLemmas.{mem_kind}
use Rattle.step_text.proofs.forms.read_kind.Goals as goal

pub returns-then-eq-2-clause-back : goal.returns-then-eq-2-clause-back
returns-then-eq-2-clause-back c = λ kind h e.
    let is = c.eq-2.ensures in
    let test = c.if-eq-2 in
    let was = c.in_ok-leaf.was in
    ap (option_map Mem) (sym c.in_ok-leaf.was) ∙ mem_kind c.args.words.now c.next.new.self c.in-Some.word.now c.leaf.result c.in-Some.ensures.word ((bytes_eq-Decides c.in-Some.word.now c.as_slice-2.result.now).0 (sym c.if-eq-2.ensures) ∙ c.as_slice-2.ensures) (λ leaf more hl el. (c.leaf.ensures.back leaf more hl el).0) kind h e
