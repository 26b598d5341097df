use Rattle.std.proofs.Common.{◌≡◌, ◌≤◌, ◌-◌, ◌++◌, length, take}
use Rattle.std.specs.Option.{option_map}
use Rattle.ls_base.proofs.write.write_all.Given as goal

abbrev pub invariant-loop-done : goal.invariant-loop-done
invariant-loop-done g l = record {
  within : l.done ≤ length l.from;
  text : g.K.Sink.written l.out ≡ option_map (λ text. text ++ take l.done l.from) (g.K.Sink.written l.initial.out);
  counted : g.K.Sink.count l.initial.out ≤ g.K.Sink.count l.out;
}

abbrev pub decreases-loop-done : goal.decreases-loop-done
decreases-loop-done g l = length l.from - l.done
