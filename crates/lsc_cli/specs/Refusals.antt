-- The lines of refusals.
use Rattle.std.specs.Prelude.{ℕ, List, [], ◌++◌, codes, decimal}
use Rattle.ls_base.specs.declared.Line.{Line}
use Rattle.ls_lexer.specs.declared.fault.LexFault.{LexFault}
use Rattle.ls_lexer.specs.declared.fault.LexFault.TheVariants as lex
use Rattle.ls_scope.specs.declared.fault.ScopeFault.{ScopeFault}
use Rattle.ls_scope.specs.declared.fault.ScopeFault.TheVariants as scope
use Rattle.type_infer.specs.declared.fault.TypeFault.{TypeFault}
use Rattle.type_infer.specs.declared.fault.TypeFault.TheVariants as types
use Rattle.clock_infer.specs.declared.file.ClockFault.{ClockFault}
use Rattle.clock_infer.specs.declared.file.ClockFault.TheVariants as clocks
use Rattle.init_check.specs.declared.file.InitFault.{InitFault}
use Rattle.init_check.specs.declared.file.InitFault.TheVariants as init
use Rattle.step_text.specs.declared.fault.CodeFault.{CodeFault}
use Rattle.step_text.specs.declared.fault.CodeFault.TheVariants as code
use Rattle.ls_parser.specs.declared.definitions.SyntaxFault.{SyntaxFault}
use Rattle.ls_parser.specs.declared.definitions.SyntaxFault.TheVariants as syntax

-- a refusal's text and the line of the file that it names
abbrev pub at_line : List ℕ → Line → List ℕ
at_line text line = text ++ decimal line.0 ++ codes "\n"

-- what is written where the file is no row of tokens
abbrev pub lex_text : LexFault → List ℕ
lex_text (lex.NotUtf8 line) = at_line (codes "refused: not UTF-8 at line ") line
lex_text (lex.Bad line) = at_line (codes "refused: bad character at line ") line
lex_text (lex.LongText line) = at_line (codes "refused: text too long at line ") line
lex_text (lex.WideInt line) = at_line (codes "refused: integer too wide at line ") line
lex_text (lex.OpenComment line) = at_line (codes "refused: comment not closed at line ") line
lex_text lex.NoMemory = []

-- and where its tokens are no file
abbrev pub syntax_text : Line → List ℕ
syntax_text line = at_line (codes "refused: syntax at line ") line

abbrev pub syntax_fault_text : SyntaxFault → List ℕ
syntax_fault_text (syntax.Syntax line) = syntax_text line
syntax_fault_text syntax.NoMemory = []

-- and where a definition breaks the rules of scope
abbrev pub scope_text : ScopeFault → List ℕ
scope_text (scope.Twice line) = at_line (codes "refused: name bound twice at line ") line
scope_text (scope.Unbound line) = at_line (codes "refused: name not bound at line ") line
scope_text (scope.NotAllArms line) = at_line (codes "refused: arms do not cover at line ") line
scope_text (scope.Mixed line) = at_line (codes "refused: name used in two ways at line ") line
scope_text (scope.NotCombinatorial line) = at_line (codes "refused: not combinatorial at line ") line
scope_text scope.NoMemory = []

-- and where one has no types
abbrev pub types_text : TypeFault → List ℕ
types_text (types.IllTyped line) = at_line (codes "refused: type at line ") line
types_text types.NoMemory = []

-- or no clocks
abbrev pub clocks_text : ClockFault → List ℕ
clocks_text (clocks.IllClocked line) = at_line (codes "refused: clock at line ") line
clocks_text clocks.NoMemory = []

-- or is not initialised
abbrev pub init_text : InitFault → List ℕ
init_text (init.Uninitialised line) = at_line (codes "refused: initialisation at line ") line
init_text init.NoMemory = []

-- and where a text is no step code
abbrev pub code_text : CodeFault → List ℕ
code_text (code.NotCode line) = at_line (codes "refused: not code at line ") line
code_text (code.BadSlot line) = at_line (codes "refused: slot at line ") line
code_text (code.BadOrder line) = at_line (codes "refused: order at line ") line
code_text (code.BadShape line) = at_line (codes "refused: shape at line ") line
code_text code.NoMemory = []

-- where a file is not of the form that is run, or has no node of the name
abbrev pub form_text : List ℕ
form_text = codes "refused: form not built\n"

abbrev pub node_text : List ℕ
node_text = codes "refused: no such node\n"
