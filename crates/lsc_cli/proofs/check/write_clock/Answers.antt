use Rattle.text_write.proofs.Writing.{prints_more}
use Rattle.lsc_cli.proofs.check.write_clock.Goals as goal

pub returns : goal.returns
returns g c = prints_more _ _ _ _ _ _ _ _ _ _ _ c.tell_clock-told.ensures c.end_line.ensures
