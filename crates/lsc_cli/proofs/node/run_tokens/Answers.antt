use Rattle.std.proofs.Common.{◌≡◌, ◌≢◌, ◌∙◌, ap, rules}
use Rattle.ls_parser.specs.Grammar.{StopsAt}
use Rattle.ls_parser.specs.declared.definitions.SyntaxFault.TheVariants.{NoMemory}
use Rattle.lsc_cli.specs.Outcome.{refusal}
use Rattle.lsc_cli.specs.Start.{Ends, NoFile, Parsed, start_node}
use Rattle.lsc_cli.specs.SumForm.{file_of}
use Rattle.lsc_cli.proofs.JudgedLemmas.{comes-as, comes-refused, at-syntax}
use Rattle.lsc_cli.proofs.node.run_tokens.Goals as goal

pub returns-in-Ok-clause-judged : goal.returns-in-Ok-clause-judged
returns-in-Ok-clause-judged g c = λ about.
    comes-as _ _ _ _ _ _ _ _
    (λ start is. Parsed c.in-Ok.file.defs c.in-Ok.ensures.file (is ∙ ap (λ names. start_node c.args.node.now names (file_of c.in-Ok.file.defs)) c.in-Ok.ensures.names))
    (c.run_file.ensures.judged about)

pub returns-in-Err-clause-judged : goal.returns-in-Err-clause-judged
returns-in-Err-clause-judged g c = λ about.
    let some : c.in-Err.fault ≢ NoMemory = search rules in
    let stop = at-syntax c.in-Err.fault (StopsAt c.args.tokens.now.list) some c.in-Err.ensures.fault in
    comes-as _ _ _ _ _ _ _ _ (λ start is. NoFile stop.0 stop.1 (is ∙ ap (λ text. Ends (refusal text)) stop.2)) (comes-refused _ _ _ _ _ _ _ c.refuse_syntax.ensures.outcome)
