use Rattle.type_premises.proofs.File.{functions_of_scope, signatures_of_scope}
use Rattle.type_premises.proofs.laws.functions_come_from_scope.Goals as goal

pub returns-clause-functions : goal.returns-clause-functions
returns-clause-functions c = λ case_type limit env file h. functions_of_scope case_type limit env file h

pub returns-clause-signatures : goal.returns-clause-signatures
returns-clause-signatures c = λ case_type limit env file as' ss h j. signatures_of_scope case_type limit env file as' ss h j
