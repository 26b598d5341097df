use Rattle.causality_accepted.proofs.Accepted.{accepted_is_causal, tables_are_full, results_are_known}
use Rattle.causality_accepted.proofs.laws.accepted_files.Goals as goal

pub returns-clause-causal : goal.returns-clause-causal
returns-clause-causal c = λ case_type limit file tree ranks j. accepted_is_causal case_type limit file tree ranks j

pub returns-clause-full : goal.returns-clause-full
returns-clause-full c = λ case_type limit file tree ranks j. tables_are_full case_type limit file tree ranks j

pub returns-clause-known : goal.returns-clause-known
returns-clause-known c = λ case_type limit file tree ranks j. results_are_known case_type limit file tree ranks j
