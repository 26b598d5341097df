use Rattle.std.proofs.Common.{subst}
use Rattle.std.specs.String.{string_bytes}
use Rattle.ls_base.specs.Names.{Distinct}
use Rattle.ls_base.proofs.Spellings.{distinct}
use Rattle.ls_base.proofs.names.Names.len.Goals as goal

pub returns-clause-distinct : goal.returns-clause-distinct
returns-clause-distinct c = subst Distinct c.self.view_is (distinct string_bytes c.self.inside.set.keys c.len.ensures.unique)
