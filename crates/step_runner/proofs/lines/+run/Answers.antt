use Rattle.std.proofs.Common.{◌≡◌, ◌≤◌, ◌+◌, ◌<◌, ◌∙◌, sym, subst, length, take, List, [], arith}
use Rattle.std.proofs.lemmas.List.{length-take-le}
use Rattle.step_code.specs.declared.parts.Instr.{Instr}
use Rattle.step_code.specs.Steps.{moment, body_steps}
use Rattle.step_runner.specs.Ranges.{IsWithin, window_at}
use Rattle.step_runner.proofs.LineLemmas.{within_front, call_lines, call_room, call_named, call_done, one_more}
use Rattle.step_runner.proofs.lines.+run.Goals as goal

pub evaluate-run_list-requires : goal.evaluate-run_list-requires
evaluate-run_list-requires g t c κs within_run =
    let within = subst (λ (l : Instr). IsWithin c.args.bodies.now c.args.window.width l) c.in-Call.is c.requires.line in
    let there : c.in-Call.body < length c.args.bodies.now = call_named c.args.bodies.now c.args.window.width c.in-Call.body c.in-Call.start within in
    let room : c.in-Call.start + c.len.result ≤ c.args.window.width = call_room c.args.bodies.now c.in-Call.body c.index-bodies-body.result c.index-bodies-body.is c.args.window.width c.in-Call.start c.len.result within c.len.ensures.value in
    let front : length (take c.in-Call.body c.args.bodies.now) ≡ c.in-Call.body = length-take-le c.in-Call.body c.args.bodies.now (let h : c.in-Call.body ≤ length c.args.bodies.now = omega (arith, there) in h) in (
      omega (arith, c.decreases, front, there),
      (
        within_run,
        (
          within_front [] c.args.bodies.now c.in-Call.body c.requires.bodies,
          (
            call_lines c.args.bodies.now c.in-Call.body c.index-bodies-body.result c.index-bodies-body.is c.len.result c.as_slice.result.now c.requires.bodies there c.len.ensures.value c.as_slice.ensures.value,
            (omega (arith, room, c.requires.slots), subst (λ (lines : List Instr). length lines ≤ 4294967294) (sym c.as_slice.ensures.value) c.as_slice.ensures.few),
          ),
        ),
      ),
    )

pub evaluate-returns-in-Call : goal.evaluate-returns-in-Call
evaluate-returns-in-Call g t c =
    let within = subst (λ (l : Instr). IsWithin c.args.bodies.now c.args.window.width l) c.in-Call.is c.requires.line in
    call_done c.args.bodies.now c.in-Call.body c.index-bodies-body.result c.index-bodies-body.is c.in-Call.start c.args.window.base c.as_slice.result.now c.args.slots.now
    c.args.alarmed c.args.steps.now c.tick.new.self c.args.line.now (moment c.run_list.new.slots c.run_list.result c.run_list.new.steps)
    (call_named c.args.bodies.now c.args.window.width c.in-Call.body c.in-Call.start within) c.as_slice.ensures.value c.tick.ensures c.in-Call.is c.run_list.ensures

pub run_list-loop-at-preserved : goal.run_list-loop-at-preserved
run_list-loop-at-preserved g t c = record {
  size = c.evaluate-noted.auto.slots ∙ c.loop-at.invariant.size;
  so_far = c.loop-at.invariant.so_far
      ∙ one_more (body_steps [] c.args.bodies.now) (window_at c.args.window.base) c.args.list.now c.loop-at.at c.passed_over-over.result c.index-list-at.result c.index-list-at.result
      c.loop-at-test.true (sym c.index-list-at.is) (moment c.loop-at.slots c.loop-at.noted c.loop-at.steps) (moment c.evaluate-noted.new.slots c.evaluate-noted.result c.evaluate-noted.new.steps)
      c.evaluate-noted.ensures (c.passed_over-over.ensures.value (body_steps [] c.args.bodies.now) c.loop-at.noted c.loop-at.steps);
}
