use Rattle.std.proofs.Common.{◌++◌, ap, sym, ◌∙◌, drop, map}
use Rattle.std.proofs.lemmas.List.{drop_all}
use Rattle.std.specs.Prelude.{refl}
use Rattle.type_schemes.proofs.Shows.{tuple_told, arrow_told, signal_told}
use Rattle.type_schemes.proofs.Writing.{prints_more, prints_as, halfway_start, halfway_end, part_turn, param_turn}
use Rattle.type_schemes.specs.Texts as spec
use Rattle.type_schemes.proofs.texts.+print.Goals as goal

pub print_params-loop-at-init : goal.print_params-loop-at-init
print_params-loop-at-init g t c = halfway_start c.args.ok (g.K.Sink.written c.args.out.now) (g.K.Sink.count c.args.out.now) (spec.arrows c.args.kind (map (spec.shown c.args.by.now.names.now c.args.by.now.enums.now) c.args.all.now))

pub print_params-loop-at-preserved : goal.print_params-loop-at-preserved
print_params-loop-at-preserved g t c =
    param_turn (spec.shown c.args.by.now.names.now c.args.by.now.enums.now) c.args.kind c.args.all.now c.loop-at.at c.index-all-at.result _ _ _ _ _ _ _ _ _ _ _ _ _ _ _ c.loop-at-test.true (sym c.index-all-at.is) refl c.arrow_after.ensures
    c.print_term-named.ensures c.put-so_far.ensures c.loop-at.invariant

pub print_params-returns : goal.print_params-returns
print_params-returns g t c =
    halfway_end _ _ _ _ _ _ (spec.arrows c.args.kind (map (spec.shown c.args.by.now.names.now c.args.by.now.enums.now) (drop c.loop-at.at c.args.all.now))) _ (ap (λ l. spec.arrows c.args.kind (map (spec.shown c.args.by.now.names.now c.args.by.now.enums.now) l)) (drop_all c.loop-at.at c.args.all.now c.loop-at-test.false))
    c.loop-at.invariant

pub print_parts-loop-at-init : goal.print_parts-loop-at-init
print_parts-loop-at-init g t c = halfway_start c.args.ok (g.K.Sink.written c.args.out.now) (g.K.Sink.count c.args.out.now) (spec.parts_from 0 (map (spec.shown c.args.by.now.names.now c.args.by.now.enums.now) c.args.all.now))

pub print_parts-loop-at-preserved : goal.print_parts-loop-at-preserved
print_parts-loop-at-preserved g t c =
    part_turn (spec.shown c.args.by.now.names.now c.args.by.now.enums.now) c.args.all.now c.loop-at.at c.index-all-at.result _ _ _ _ _ _ _ _ _ _ _ _ _ _ c.loop-at-test.true (sym c.index-all-at.is) c.joint.ensures c.put-joined.ensures c.print_term-so_far.ensures
    c.loop-at.invariant

pub print_parts-returns : goal.print_parts-returns
print_parts-returns g t c =
    halfway_end _ _ _ _ _ _ (spec.parts_from c.loop-at.at (map (spec.shown c.args.by.now.names.now c.args.by.now.enums.now) (drop c.loop-at.at c.args.all.now))) _
    (ap (λ l. spec.parts_from c.loop-at.at (map (spec.shown c.args.by.now.names.now c.args.by.now.enums.now) l)) (drop_all c.loop-at.at c.args.all.now c.loop-at-test.false)) c.loop-at.invariant

pub print_term-returns-in-Tuple : goal.print_term-returns-in-Tuple
print_term-returns-in-Tuple g t c =
    let names = c.args.by.now.names.now in
    let enums = c.args.by.now.enums.now in
    prints_as _ _ _ _ _ _ _ (spec.text_of c.args.nested (spec.shown names enums c.args.t.now))
    (prints_more _ _ _ _ _ _ _ _ _ _ _ (prints_more _ _ _ _ _ _ _ _ _ _ _ c.put-opened.ensures c.print_parts-listed.ensures) c.put-in-Tuple.ensures)
    (tuple_told names enums c.args.nested c.args.t.now c.in-Tuple.all c.as_slice-in-Tuple.result.now c.in-Tuple.is c.as_slice-in-Tuple.ensures.value
    ∙ (λ i. (sym c.opening.ensures i ++ spec.parts_from 0 (map (spec.shown names enums) c.as_slice-in-Tuple.result.now)) ++ sym c.closing.ensures i))

pub print_term-returns-in-Arrow : goal.print_term-returns-in-Arrow
print_term-returns-in-Arrow g t c =
    let names = c.args.by.now.names.now in
    let enums = c.args.by.now.enums.now in
    prints_as _ _ _ _ _ _ _ (spec.text_of c.args.nested (spec.shown names enums c.args.t.now))
    (prints_more _ _ _ _ _ _ _ _ _ _ _ (prints_more _ _ _ _ _ _ _ _ _ _ _ (prints_more _ _ _ _ _ _ _ _ _ _ _ c.put-opened-in-Arrow.ensures c.print_params-listed.ensures) c.print_term-whole.ensures) c.put-in-Arrow.ensures)
    (arrow_told names enums c.args.nested c.args.t.now c.in-Arrow.kind c.in-Arrow.all c.as_slice-in-Arrow.result.now c.in-Arrow.to c.get.result.now c.in-Arrow.is c.as_slice-in-Arrow.ensures.value c.get.ensures)

pub print_term-returns-in-Signal : goal.print_term-returns-in-Signal
print_term-returns-in-Signal g t c =
    let names = c.args.by.now.names.now in
    let enums = c.args.by.now.enums.now in
    prints_as _ _ _ _ _ _ _ (spec.text_of c.args.nested (spec.shown names enums c.args.t.now))
    (prints_more _ _ _ _ _ _ _ _ _ _ _ c.print_term-printed.ensures c.put-in-Signal.ensures)
    (signal_told names enums c.args.nested c.args.t.now c.in-Signal.of c.get-in-Signal.result.now c.in-Signal.is c.get-in-Signal.ensures)
