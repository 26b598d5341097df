use Rattle.std.proofs.Common.{◌+◌, ◌∙◌, sym, ap, subst, take, length-drop, List}
use Rattle.step_code.specs.declared.parts.Instr.{Instr}
use Rattle.step_code.specs.Marks.{around as told, AreMarks, AreRegions}
use Rattle.step_code.specs.Valid as valid
use Rattle.step_code.proofs.FaultLemmas.{fault_on, none_of, take_next}
use Rattle.step_code.proofs.RegionLemmas.{from_ok}
use Rattle.step_code.proofs.lines.list_fault.Goals as goal

pub loop-here-preserved : goal.loop-here-preserved
loop-here-preserved c =
    let next = take_next c.args.list.now c.loop-here.here c.index-list-here.result c.index-list-here.result c.loop-here-test.true (sym c.index-list-here.is) in
    record {
      so_far = c.loop-here.invariant.so_far
          ∙ fault_on (λ earlier later line. valid.line_fault (told c.args.around.now) earlier (later + c.args.lacks) line) c.args.list.now c.loop-here.here
          c.index-list-here.result c.loop-here-test.true c.index-list-here.result (sym c.index-list-here.is)
          (ap (λ n. valid.line_fault (told c.args.around.now) (take c.loop-here.here c.args.list.now) (n + c.args.lacks) c.index-list-here.result) (length-drop (c.loop-here.here + 1) c.args.list.now)
          ∙ sym c.line_fault.ensures ∙ none_of c.line_fault.result c.in_default.not-Some);
      marks = subst (λ (lines : List Instr). AreMarks (told c.args.around.now) lines c.mark_line.new.marks.items) next c.mark_line.ensures;
      regions = subst (λ (lines : List Instr). AreRegions lines c.open_region.new.ends.items) next (from_ok c.open_region.result c.in_ok-open_region.field-0 c.in_ok-open_region.was c.open_region.ensures);
    }
