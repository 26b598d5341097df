-- The text of a definition's clock.
use Rattle.std.specs.Prelude.{ℕ, ◌+◌, ◌==◌, Bool, true, false, List, [], ◌∷◌, ◌++◌, slice_get, Option, Some, None, if◌then◌else◌, codes, decimal}
use Rattle.std.specs.Option.{is_some}
use Rattle.clock_text.specs.declared.conditions.Spelling.{Spelling}
use Rattle.ls_ast.specs.declared.tree.Mark.{Mark}
use Rattle.ls_ast.specs.declared.tree.Mark.TheVariants as mark
use Rattle.ls_base.specs.declared.Name.{Name}
use Rattle.ls_sig.specs.declared.sigs.Sig.{Sig}
use Rattle.ls_terms.specs.declared.clocks.ClockTerm.{ClockTerm, fold-ClockTerm}
use Rattle.ls_terms.specs.declared.clocks.ClockTerm.TheOpen.{ClockTerm-F}
use Rattle.ls_terms.specs.declared.types.TypeTerm.{TypeTerm, out-TypeTerm}
use Rattle.ls_terms.specs.declared.types.TypeTerm.TheOpen.{TypeTerm-F}
use Rattle.text_write.specs.Pieces.{letter, name_or, opening, closing, text_or}

-- what spells clocks: the names, the constructors of each enumeration by its number, the types of the parameters, and the numbers of those that are clock names
pub record Spells : Type 0 where
  pub names : List (List ℕ)
  pub constructors : List (List Name)
  pub types : List TypeTerm
  pub clocks : List ℕ

abbrev pub spelling : Spelling → Spells
spelling by = record { names = by.names.now; constructors = by.constructors.now; types = by.params.now; clocks = by.clock_names.now }

-- c0, c1 and so on
abbrev pub numbered : ℕ → List ℕ
numbered k = 99 ∷ decimal k

-- the place of a number in a list, of which so many come before, and the end where it is not there
abbrev pub place_of : ℕ → List ℕ → ℕ → ℕ
place_of m [] k = k
place_of m (x ∷ xs) k = if x == m then k else place_of m xs (k + 1)

-- the clock name of a parameter: clock names are numbered in the order of the parameters
abbrev pub clock_name : Spells → ℕ → List ℕ
clock_name s m = numbered (place_of m s.clocks 0)

abbrev pub case_of : List (List ℕ) → ℕ → Option (List Name) → List ℕ
case_of names k None = []
case_of names k (Some cases) = name_or names (slice_get cases k)

abbrev pub constructor : Spells → ℕ → ℕ → List ℕ
constructor s e k = case_of s.names k (slice_get s.constructors e)

abbrev pub enum_in : {X : Type 0} → TypeTerm-F X → Option ℕ
enum_in (TypeTerm-F.Enum e) = Some e
enum_in _ = None

-- the enumeration of a type, if it is one
abbrev pub enum_of : Option TypeTerm → Option ℕ
enum_of None = None
enum_of (Some ty) = enum_in (out-TypeTerm ty)

-- the enumeration of a condition; none if it is a bool
abbrev pub enum_at : Spells → ℕ → Option ℕ
enum_at s m = enum_of (slice_get s.types m)

abbrev pub negation : ℕ → List ℕ
negation k = if k == 0 then codes "not " else []

-- what stands before the name of a condition at a case
abbrev pub before_name : Spells → Option ℕ → ℕ → List ℕ
before_name s None k = negation k
before_name s (Some e) k = constructor s e k

-- a sampling: ` on c0`, ` on not c0` or ` on A(c0)`
abbrev pub on_text : Spells → ℕ → ℕ → List ℕ
on_text s m k =
    let of = enum_at s m in
    (((codes " on " ++ before_name s of k) ++ opening (is_some of)) ++ clock_name s m) ++ closing (is_some of)

-- clocks, each with an arrow behind it
abbrev pub arrows : List (List ℕ) → List ℕ
arrows [] = []
arrows (t ∷ ts) = (t ++ codes " -> ") ++ arrows ts

abbrev pub shown_step : Spells → ClockTerm-F (List ℕ) → List ℕ
shown_step s (ClockTerm-F.Var x) = letter x
shown_step s (ClockTerm-F.On t m k) = t ++ on_text s m k
shown_step s ClockTerm-F.Pointwise = codes "pointwise"
shown_step s (ClockTerm-F.Arrow ts t) = ((codes "(" ++ arrows ts) ++ t) ++ codes ")"

-- the text of a clock
abbrev pub shown : Spells → ClockTerm → List ℕ
shown s = fold-ClockTerm (List ℕ) (shown_step s)

abbrev pub is_clock : Option Mark → Bool
is_clock (Some mark.Clock) = true
is_clock _ = false

-- that of a parameter, with its clock name if it is one
abbrev pub param_text : Spells → Bool → ℕ → ClockTerm → List ℕ
param_text s false i t = shown s t ++ codes " -> "
param_text s true i t = (((codes "(" ++ clock_name s i) ++ codes " : ") ++ shown s t) ++ codes ") -> "

abbrev pub params_text : Spells → List Mark → ℕ → List ClockTerm → List ℕ
params_text s marks i [] = []
params_text s marks i (t ∷ ts) = param_text s (is_clock (slice_get marks i)) i t ++ params_text s marks (i + 1) ts

abbrev pub line_by : Spells → Sig → List ℕ
line_by s sig =
    (((codes "val " ++ text_or (slice_get s.names sig.name.0)) ++ codes " :: ") ++ params_text s sig.marks 0 sig.clocks) ++ shown s sig.result_clock

-- `val f :: CLOCK`
abbrev pub clock_line : List (List ℕ) → List (List Name) → Sig → List ℕ
clock_line names constructors sig = line_by (record { names = names; constructors = constructors; types = sig.params; clocks = sig.clock_names }) sig
