use Rattle.std.proofs.Common.{◌≡◌, ◌+◌, ◌-◌, ◌*◌, length, drop, []}
use Rattle.step_code.specs.Steps.{moment, run, body_steps}
use Rattle.step_runner.specs.Ranges.{window_at}
use Rattle.step_runner.proofs.lines.+run.Given as goal

abbrev pub decreases-evaluate : goal.decreases-evaluate
decreases-evaluate g l = 2 * length l.bodies.now

abbrev pub decreases-run_list : goal.decreases-run_list
decreases-run_list g l = 2 * length l.bodies.now + 1

abbrev pub invariant-run_list-loop-at : goal.invariant-run_list-loop-at
invariant-run_list-loop-at g l = record {
  size : length l.slots ≡ length l.initial.slots;
  so_far : run (body_steps [] l.bodies) (window_at l.window.base) 0 l.list (moment l.initial.slots l.initial.noted l.initial.steps)
      ≡ run (body_steps [] l.bodies) (window_at l.window.base) 0 (drop l.at l.list) (moment l.slots l.noted l.steps);
}

abbrev pub decreases-run_list-loop-at : goal.decreases-run_list-loop-at
decreases-run_list-loop-at g l = length l.list - l.at
