use Rattle.clock_laws.proofs.Forms.{are_well_formed}
use Rattle.clock_laws.proofs.Schemes.{is_well}
use Rattle.clock_laws.proofs.laws.forms.Goals as goal

pub returns-clause-well : goal.returns-clause-well
returns-clause-well c = λ schemes cases params marks types tree notes body wells scoped p. are_well_formed schemes cases params marks types tree notes body wells scoped p

pub returns-clause-scheme : goal.returns-clause-scheme
returns-clause-scheme c = λ schemes cases params marks types tree notes body wells scoped p. is_well schemes cases params marks types tree notes body wells scoped p
