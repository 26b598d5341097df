-- Well-formed environments: what stands before a file and was accepted, or could have been.
use Rattle.std.specs.Prelude.{◌≡◌, ◌≢◌, ℕ, ◌<◌, ◌≤◌, ◌&&◌, ◌||◌, Bool, true, false, not, List, [], ◌∷◌, ◌++◌, map, length, nat_le, nat_lt, slice_get, codes, Option, Some, None}
use Rattle.ls_ast.specs.declared.tree.Mark.{Mark}
use Rattle.ls_ast.specs.declared.tree.Mark.TheVariants as mark
use Rattle.ls_base.specs.declared.Line.{Line}
use Rattle.ls_base.specs.declared.Name.{Name}
use Rattle.ls_lexer.specs.Lexing.{Lexes}
use Rattle.ls_lexer.specs.declared.token.Token.{Token}
use Rattle.ls_lexer.specs.declared.token.Token.TheVariants as token
use Rattle.ls_lexer.specs.declared.token.Tokens.{Tokens}
use Rattle.ls_places.specs.Search.{nth, count_up}
use Rattle.ls_sig.specs.declared.env.Env.{Env}
use Rattle.ls_sig.specs.declared.sigs.InitSig.{InitSig}
use Rattle.ls_sig.specs.declared.sigs.Sig.{Sig}
use Rattle.ls_terms.specs.declared.clocks.ClockTerm.{ClockTerm, fold-ClockTerm}
use Rattle.ls_terms.specs.declared.clocks.ClockTerm.TheOpen.{ClockTerm-F}
use Rattle.ls_terms.specs.declared.types.Kind.{Kind}
use Rattle.ls_terms.specs.declared.types.Kind.TheVariants as kind
use Rattle.ls_terms.specs.declared.types.TypeTerm.{TypeTerm, fold-TypeTerm, out-TypeTerm}
use Rattle.ls_terms.specs.declared.types.TypeTerm.TheOpen.{TypeTerm-F}
use Rattle.ls_terms.specs.Clocks as clock_terms
use Rattle.ls_terms.specs.Types as type_terms
use Rattle.tree_notes.specs.Each.{Each}
use Rattle.tree_notes.specs.Order.{joined}
use Rattle.type_rules.specs.Files.{has_name, appearing}
use Rattle.type_rules.specs.Schemes.{every, is_data}
use Rattle.clock_rules.specs.Files.{clock_marks, firsts, variables_in}
use Rattle.clock_rules.specs.Terms.{fits}

-- ---- 1. names

abbrev pub apart : List Name → Bool
apart [] = true
apart (x ∷ xs) = not (has_name x.0 xs) && apart xs

-- a text is one token
abbrev pub Spells : List ℕ → Token → Type 0
Spells text t = (tokens : Tokens) × (line : Line) × Lexes text tokens × (tokens.list ≡ (line, t) ∷ [])

abbrev pub first_name : Name
first_name = record { 0 = 0 }

-- an identifier, and a constructor, each by the numbers of the environment's names
abbrev pub IsId : Env → Name → Type 0
IsId env x = (text : List ℕ) × (slice_get env.names x.0 ≡ Some text) × Spells text (token.Id first_name)

abbrev pub IsConstructor : Env → Name → Type 0
IsConstructor env x = (text : List ℕ) × (slice_get env.names x.0 ≡ Some text) × Spells text (token.Cons first_name)

-- the names of the types that are no enumerations
abbrev pub IsNoBasicType : Env → Name → Type 0
IsNoBasicType env x =
    (text : List ℕ) → slice_get env.names x.0 ≡ Some text
    → (text ≢ codes "int") × (text ≢ codes "bool") × (text ≢ codes "char") × (text ≢ codes "string") × (text ≢ codes "unit")

abbrev pub enum_names : Env → List Name
enum_names env = map {A = Name × List Name} {B = Name} (λ e. e.0) env.enums

abbrev pub constructors : Env → List Name
constructors env = joined (map {A = Name × List Name} {B = List Name} (λ e. e.1) env.enums)

abbrev pub definition_names : Env → List Name
definition_names env = map {A = Sig} {B = Name} (λ s. s.name) env.sigs

-- enumerations, constructors and definitions are spelled as a file spells them, each distinct in its kind
pub record NamesObey (env : Env) : Type 0 where
  pub enums_spelled : Each (λ x. IsId env x × IsNoBasicType env x) (enum_names env)
  pub enums_apart : apart (enum_names env) ≡ true
  pub some_constructor : Each (λ (e : Name × List Name). e.1 ≢ []) env.enums
  pub constructors_spelled : Each (IsConstructor env) (constructors env)
  pub constructors_apart : apart (constructors env) ≡ true
  pub definitions_spelled : Each (IsId env) (definition_names env)
  pub definitions_apart : apart (definition_names env) ≡ true

-- ---- 2, 3 and 5. the form of types

-- each number of an enumeration names one, a tuple has two parts at least, and an arrow a parameter
abbrev pub formed_step : ℕ → TypeTerm-F Bool → Bool
formed_step enums (TypeTerm-F.Enum e) = nat_lt e enums
formed_step enums (TypeTerm-F.Tuple all) = nat_le 2 (length all) && every all
formed_step enums (TypeTerm-F.Arrow k all to) = nat_le 1 (length all) && every (all ++ to ∷ [])
formed_step enums x = every (type_terms.kids_at x)

abbrev pub is_formed : ℕ → TypeTerm → Bool
is_formed enums = fold-TypeTerm Bool (formed_step enums)

abbrev pub either : Bool × Bool → Bool
either p = p.0 || p.1

abbrev pub data_of : Bool × Bool → Bool
data_of p = p.0

-- whether a type is one of data, and whether it is that of a function of such and of functions
abbrev pub placed_step : TypeTerm-F (Bool × Bool) → Bool × Bool
placed_step (TypeTerm-F.Arrow k all to) = (false, every (map either all) && to.0)
placed_step (TypeTerm-F.Signal of) = (false, false)
placed_step x = (every (map data_of (type_terms.kids_at x)), false)

abbrev pub is_function : TypeTerm → Bool
is_function t = let p = fold-TypeTerm (Bool × Bool) placed_step t in p.1

abbrev pub signal_of : {X : Type 0} → TypeTerm-F X → Option X
signal_of (TypeTerm-F.Signal of) = Some of
signal_of _ = None

abbrev pub carries_data : Option TypeTerm → Bool
carries_data None = false
carries_data (Some t) = is_data t

abbrev pub is_signal : TypeTerm → Bool
is_signal t = carries_data (signal_of (out-TypeTerm t))

-- ---- 4. marks

abbrev pub arrow_of : Kind → {X : Type 0} → TypeTerm-F X → Bool
arrow_of kind.Comb (TypeTerm-F.Arrow kind.Comb all to) = true
arrow_of kind.Seq (TypeTerm-F.Arrow kind.Seq all to) = true
arrow_of _ _ = false

abbrev pub condition_at : {X : Type 0} → TypeTerm-F X → Bool
condition_at TypeTerm-F.Bool = true
condition_at (TypeTerm-F.Enum e) = true
condition_at _ = false

-- the type that a parameter of a mark has; its clock is of the form of its type
abbrev pub IsMarked : Mark → TypeTerm → Type 0
IsMarked mark.Comb t = (arrow_of kind.Comb (out-TypeTerm t) ≡ true) × (is_function t ≡ true)
IsMarked mark.Seq t = (arrow_of kind.Seq (out-TypeTerm t) ≡ true) × (is_function t ≡ true)
IsMarked mark.Signal t = is_signal t ≡ true
IsMarked mark.Clock t = condition_at (out-TypeTerm t) ≡ true
IsMarked mark.Data t = is_data t ≡ true
IsMarked mark.Unknown t = ⊥

-- for each parameter a mark, a type and a clock
abbrev pub AreMarked : List Mark → List TypeTerm → List ClockTerm → Type 0
AreMarked [] [] [] = Unit {0}
AreMarked (m ∷ ms) (t ∷ ts) (c ∷ cs) = (IsMarked m t × (fits t c ≡ true)) × AreMarked ms ts cs
AreMarked _ _ _ = ⊥

-- ---- 6. clock names

-- the cases of a condition of this type
abbrev pub cases_at : {X : Type 0} → Env → TypeTerm-F X → ℕ
cases_at env TypeTerm-F.Bool = 2
cases_at env (TypeTerm-F.Enum e) = cases_of (nth env.enums e)
  where
    cases_of : Option (Name × List Name) → ℕ
    cases_of None = 0
    cases_of (Some all) = length all.1
cases_at env _ = 0

abbrev pub cases_in : Env → Option TypeTerm → ℕ
cases_in env None = 0
cases_in env (Some t) = cases_at env (out-TypeTerm t)

-- the samplings in a clock: a name, and a case
abbrev pub samplings_step : ClockTerm-F (List (ℕ × ℕ)) → List (ℕ × ℕ)
samplings_step (ClockTerm-F.On of m k) = (m, k) ∷ of
samplings_step x = joined (clock_terms.kids_at x)

abbrev pub samplings : ClockTerm → List (ℕ × ℕ)
samplings = fold-ClockTerm (List (ℕ × ℕ)) samplings_step

abbrev pub all_clocks : Sig → List ClockTerm
all_clocks s = s.clocks ++ s.result_clock ∷ []

-- each sampling is on a Clock parameter, at one of its cases
abbrev pub SamplesParameters : Env → Sig → ClockTerm → Type 0
SamplesParameters env s ck = Each (λ (p : ℕ × ℕ). (nth s.marks p.0 ≡ Some mark.Clock) × (p.1 < cases_in env (nth s.params p.0))) (samplings ck)

-- "the clock of a Clock parameter mentions another" has no cycle
abbrev pub IsAcyclic : Sig → Type 0
IsAcyclic s = (rank : ℕ → ℕ) × ((i : ℕ) (ck : ClockTerm) → nth s.marks i ≡ Some mark.Clock → nth s.clocks i ≡ Some ck → Each (λ (p : ℕ × ℕ). rank p.0 < rank i) (samplings ck))

-- ---- 7. initialisation

abbrev pub FlagsObey : List Mark → List Bool → List Bool → Type 0
FlagsObey [] [] [] = Unit {0}
FlagsObey (m ∷ ms) (may ∷ mays) (reaches ∷ rest) = ((may ≡ true → m ≡ mark.Data) × (reaches ≡ true → may ≡ true)) × FlagsObey ms mays rest
FlagsObey _ _ _ = ⊥

-- ---- the whole

pub record SignatureObeys (env : Env) (s : Sig) : Type 0 where
  pub formed : Each (λ t. is_formed (length env.enums) t ≡ true) (s.params ++ s.result ∷ [])
  pub some_parameter : s.kind ≡ kind.Seq → s.params ≢ []
  pub marked : AreMarked s.marks s.params s.clocks
  pub result_type : (is_data s.result || is_signal s.result) ≡ true
  pub result_clock : fits s.result s.result_clock ≡ true
  pub names : s.clock_names ≡ clock_marks s.marks 0
  pub sampled : Each (SamplesParameters env s) (all_clocks s)
  pub acyclic : IsAcyclic s
  -- 8. variables are numbered from 0 by first appearance, parameters first
  pub type_variables : (let all = appearing (s.params ++ s.result ∷ []) in all ≡ count_up (length all) 0)
  pub clock_variables : (let all = firsts (joined (map variables_in (all_clocks s))) in all ≡ count_up (length all) 0)
  -- 9. no type and no clock has more than 4,096 nodes
  pub types_small : Each (λ t. type_terms.size t ≤ 4096) (s.params ++ s.result ∷ [])
  pub clocks_small : Each (λ c. clock_terms.size c ≤ 4096) (all_clocks s)

abbrev pub InitsObey : List Sig → List InitSig → Type 0
InitsObey [] [] = Unit {0}
InitsObey (s ∷ ss) (i ∷ is) = FlagsObey s.marks i.may i.reaches × InitsObey ss is
InitsObey _ _ = ⊥

-- what a judgement after an environment may suppose of it
pub record IsEnvironment (env : Env) : Type 0 where
  pub names : NamesObey env
  pub signatures : Each (SignatureObeys env) env.sigs
  pub inits : InitsObey env.sigs env.inits.list
