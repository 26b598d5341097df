-- What a file comes to before any input.
use Rattle.std.specs.Prelude.{◌≡◌, ℕ, List, Option, Some, None, length, ◌<◌, ◌≤◌, if◌then◌else◌}
use Rattle.ls_base.specs.declared.Line.{Line}
use Rattle.ls_ast.specs.declared.tree.DefOf.{DefOf}
use Rattle.ls_ast.specs.declared.tree.Plain.{Plain}
use Rattle.ls_lexer.specs.declared.fault.LexFault.{LexFault}
use Rattle.ls_lexer.specs.declared.token.Tokens.{Tokens}
use Rattle.ls_lexer.specs.Lexing.{Lexes, IsLexFault}
use Rattle.ls_parser.specs.Grammar.{IsFile, StopsAt}
use Rattle.line_io.specs.Fields.{is_named}
use Rattle.run_text.specs.RunText.{Node}
use Rattle.step_code.specs.declared.code.Code.{Code}
use Rattle.step_code.specs.Drafts.{draft_of}
use Rattle.step_code.specs.Steps.{first_slots}
use Rattle.step_runner.specs.Running.{node_on}
use Rattle.step_text.specs.declared.fault.CodeFault.{CodeFault}
use Rattle.step_text.specs.Text as text
use Rattle.step_text.specs.Text.{IsRefusedText}
use Rattle.sum_model.specs.Running as sum
use Rattle.lsc_cli.specs.declared.form.SumNode.{SumNode}
use Rattle.lsc_cli.specs.SumForm.{file_of}
use Rattle.lsc_cli.specs.Outcome.{Outcome, refusal, too_large}
use Rattle.lsc_cli.specs.Refusals.{code_text, lex_text, syntax_text, form_text, node_text}

-- an outcome, or a node that runs
pub data Start : Type 0 where
  Ends : Outcome → Start
  Goes : Node → Start

-- the greatest number of bytes of a file
abbrev pub file_limit : ℕ
file_limit = 1048576

-- where the file parses: the node of the form, if its name is the one asked for
abbrev pub start_node : List ℕ → List (List ℕ) → Option SumNode → Start
start_node node names None = Ends (refusal form_text)
start_node node names (Some found) = if is_named names node found.name then Goes (sum.node_of found.body) else Ends (refusal node_text)

-- The tokens of a file and a node's name come to this: the grammar, the form and the name are judged in this order.
pub data IsTokensStart (node : List ℕ) (tokens : Tokens) (start : Start) : Type 0 where
  NoFile : (line : Line) → StopsAt tokens.list line → start ≡ Ends (refusal (syntax_text line)) → IsTokensStart node tokens start
  Parsed : (defs : List (DefOf Plain)) → IsFile defs tokens.list → start ≡ start_node node tokens.names (file_of defs) → IsTokensStart node tokens start

-- A file of the limit and a node's name come to this: the tokens are judged before.
pub data IsNodeStart (node file : List ℕ) (start : Start) : Type 0 where
  NoTokens : (fault : LexFault) → IsLexFault file fault → start ≡ Ends (refusal (lex_text fault)) → IsNodeStart node file start
  Lexed : (tokens : Tokens) → Lexes file tokens → IsTokensStart node tokens start → IsNodeStart node file start

-- A text of the limit that is to be step code comes to this.
pub data IsCodeStart (file : List ℕ) (start : Start) : Type 0 where
  NoCode : (fault : CodeFault) → IsRefusedText file fault → start ≡ Ends (refusal (code_text fault)) → IsCodeStart file start
  Reads : (code : Code) → file ≡ text.code_text (draft_of code) → start ≡ Goes (node_on code (first_slots code)) → IsCodeStart file start

-- The limit is judged before all else.
pub data IsStart (Judges : List ℕ → Start → Type 0) (file : List ℕ) (start : Start) : Type 0 where
  TooLong : file_limit < length file → start ≡ Ends too_large → IsStart Judges file start
  Within : length file ≤ file_limit → Judges file start → IsStart Judges file start
