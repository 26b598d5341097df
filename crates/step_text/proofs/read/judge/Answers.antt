use Rattle.std.proofs.Common.{◌∙◌, sym}
use Rattle.step_text.proofs.Places.{fault_place}
use Rattle.step_text.proofs.read.judge.Goals as goal

pub fault_at-requires-clause-there : goal.fault_at-requires-clause-there
fault_at-requires-clause-there c = fault_place c.args.draft c.in-Some.place c.in-Some.fault (sym c.in-Ok.ensures ∙ c.in-Some.is)
