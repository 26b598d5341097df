use Rattle.text_write.proofs.Writing.{prints_more}
use Rattle.lsc_cli.proofs.check.write_signature.Goals as goal

pub returns : goal.returns
returns g c = prints_more _ _ _ _ _ _ _ _ _ _ _ c.write_type-typed.ensures c.write_clock.ensures
