use Rattle.compile_rules.specs.Numbering.{IsAmong}
use Rattle.core_lang.proofs.Instants.{rows}
use Rattle.compile_rules.proofs.Meaning.{table_of, table_of_code}
use Rattle.compile_rules.proofs.laws.steps.Goals as goal

pub returns-clause-scheme : goal.returns-clause-scheme
returns-clause-scheme c = λ plan form inputs eqs promised line feed start feeds. (rows form eqs line, table_of plan form inputs eqs promised line feed start feeds)

pub returns-clause-code : goal.returns-clause-code
returns-clause-code c = λ plan form inputs eqs promised line feed start feeds number_of names code compiled. (
  rows form eqs line,
  table_of plan form inputs eqs promised line feed start feeds,
  table_of_code plan form inputs eqs promised line feed start feeds number_of (IsAmong names) code compiled,
)
