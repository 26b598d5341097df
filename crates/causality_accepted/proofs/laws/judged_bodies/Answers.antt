use Rattle.causality_accepted.proofs.Accepted.{clocks_are_known, bodies_are_close, bodies_are_scoped}
use Rattle.causality_accepted.proofs.laws.judged_bodies.Goals as goal

pub returns-clause-known : goal.returns-clause-known
returns-clause-known c = λ case_type limit cases env file schemes tree j. clocks_are_known case_type limit cases env file schemes tree j

pub returns-clause-close : goal.returns-clause-close
returns-clause-close c = λ case_type limit cases env file schemes tree j. bodies_are_close case_type limit cases env file schemes tree j

pub returns-clause-scoped : goal.returns-clause-scoped
returns-clause-scoped c = λ case_type limit cases env file schemes tree j. bodies_are_scoped case_type limit cases env file schemes tree j
