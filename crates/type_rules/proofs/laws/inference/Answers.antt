use Rattle.type_rules.specs.Definitions.{variables}
use Rattle.type_rules.specs.Files.{placed}
use Rattle.type_rules.proofs.Principal.{none_obeys}
use Rattle.type_rules.proofs.Steps as steps
use Rattle.type_rules.proofs.laws.inference.Goals as goal

pub returns-clause-typed : goal.returns-clause-typed
returns-clause-typed c = λ case_type limit sigs d s some unifies general few known functions. steps.typed case_type limit sigs d s some unifies general few known functions

pub returns-clause-no_data : goal.returns-clause-no_data
returns-clause-no_data c = λ case_type sigs d s unifies general other f o. none_obeys sigs case_type (variables sigs case_type d) (placed case_type sigs d) s unifies general other f o

pub returns-clause-no_unifier : goal.returns-clause-no_unifier
returns-clause-no_unifier c = λ case_type limit sigs d some none f o small. steps.ill_by_clash case_type limit sigs d some none f o small
