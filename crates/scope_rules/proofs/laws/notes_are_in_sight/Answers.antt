use Rattle.scope_rules.proofs.WholeNotes.{notes_in_sight}
use Rattle.scope_rules.proofs.laws.notes_are_in_sight.Goals as goal

pub returns : goal.returns
returns c d cases signal = notes_in_sight d cases signal
