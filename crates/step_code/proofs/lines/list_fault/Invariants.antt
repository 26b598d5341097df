use Rattle.std.proofs.Common.{◌≡◌, ◌+◌, take, drop}
use Rattle.step_code.specs.Marks.{around as told, AreMarks, AreRegions}
use Rattle.step_code.specs.Valid as valid
use Rattle.step_code.proofs.lines.list_fault.Given as goal

abbrev pub invariant-loop-here : goal.invariant-loop-here
invariant-loop-here l = record {
  so_far : valid.list_fault (told l.around) l.lacks l.list ≡ valid.fault_after (λ earlier later line. valid.line_fault (told l.around) earlier (later + l.lacks) line) (take l.here l.list) (drop l.here l.list);
  marks : AreMarks (told l.around) (take l.here l.list) l.marks.items;
  regions : AreRegions (take l.here l.list) l.ends.items;
}
