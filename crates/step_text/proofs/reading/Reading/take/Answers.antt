use Rattle.std.proofs.Common.{sym, subst, All}
use Rattle.step_text.specs.Legal.{IsConstructor}
use Rattle.step_text.proofs.reading.Reading.take.Goals as goal

pub take_cases-requires : goal.take_cases-requires
take_cases-requires c = let h = rw c.in-Cases.is at c.requires in subst (All IsConstructor) (sym c.as_slice.ensures.value) h
