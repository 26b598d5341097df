use Rattle.kahn_model.proofs.OneByOne.{table_least, table_solves}
use Rattle.kahn_model.proofs.laws.tables_are_least_solutions.Goals as goal

pub returns-clause-solves : goal.returns-clause-solves
returns-clause-solves c ks n turn_of mono = table_solves ks n turn_of mono

pub returns-clause-least : goal.returns-clause-least
returns-clause-least c ks n turn_of mono S is = table_least ks n turn_of mono S is
