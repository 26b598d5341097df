-- The answers of the parser.
use Rattle.std.specs.Prelude.{◌≡◌, Result, Ok, Err}
use Rattle.ls_base.specs.declared.Line.{Line}
use Rattle.ls_parser.specs.declared.definitions.SyntaxFault.{SyntaxFault}
use Rattle.ls_parser.specs.declared.definitions.SyntaxFault.TheVariants as fault

-- a fact about the line of a syntax fault
abbrev pub IfSyntax : {X : Type 0} → Result X SyntaxFault → (Line → Type 0) → Type 0
IfSyntax (Ok x) p = Unit {0}
IfSyntax (Err (fault.Syntax line)) p = p line
IfSyntax (Err fault.NoMemory) p = Unit {0}

-- the fault is at this line, unless memory ran out
abbrev pub IsSyntaxAt : {X : Type 0} → Result X SyntaxFault → Line → Type 0
IsSyntaxAt (Ok x) line = ⊥
IsSyntaxAt (Err (fault.Syntax found)) line = found ≡ line
IsSyntaxAt (Err fault.NoMemory) line = Unit {0}

-- the answer, seen by a view, is this value, unless memory ran out
abbrev pub IsAnswer : {X Y : Type 0} → (X → Y) → Result X SyntaxFault → Y → Type 0
IsAnswer view (Ok found) x = view found ≡ x
IsAnswer view (Err (fault.Syntax line)) x = ⊥
IsAnswer view (Err fault.NoMemory) x = Unit {0}
