-- The text of a definition's type.
use Rattle.std.specs.Prelude.{◌≡◌, ℕ, ◌+◌, ◌%◌, ◌/◌, ◌≤◌, ◌==◌, Bool, true, false, List, [], ◌∷◌, ◌++◌, map, nat_le, slice_get, Option, Some, None, if◌then◌else◌, codes, decimal}
use Rattle.std.specs.Option.{option_map}
use Rattle.ls_base.specs.Outside.{Rose, WritesFront}
use Rattle.ls_base.specs.declared.Name.{Name}
use Rattle.ls_sig.specs.declared.sigs.Sig.{Sig}
use Rattle.ls_terms.specs.declared.types.Kind.{Kind}
use Rattle.ls_terms.specs.declared.types.Kind.TheVariants.{Comb, Seq}
use Rattle.ls_terms.specs.declared.types.TypeTerm.{TypeTerm, fold-TypeTerm}
use Rattle.ls_terms.specs.declared.types.TypeTerm.TheOpen.{TypeTerm-F}

abbrev pub text_or : Option (List ℕ) → List ℕ
text_or None = []
text_or (Some text) = text

abbrev pub name_or : List (List ℕ) → Option Name → List ℕ
name_or names None = []
name_or names (Some x) = text_or (slice_get names x.0)

-- the name of an enumeration, by its number
abbrev pub enum_text : List (List ℕ) → List Name → ℕ → List ℕ
enum_text names enums e = name_or names (slice_get enums e)

-- 'a, 'b and so on; 'a1 comes after 'z
abbrev pub letter : ℕ → List ℕ
letter k = 39 ∷ (97 + k % 26) ∷ (if nat_le 26 k then decimal (k / 26) else [])

abbrev pub arrow : Kind → List ℕ
arrow Comb = codes " -> "
arrow Seq = codes " => "

-- the kind stands on the last arrow
abbrev pub arrow_after : Kind → Bool → List ℕ
arrow_after kind true = arrow kind
arrow_after kind false = codes " -> "

abbrev pub joint : ℕ → List ℕ
joint k = if k == 0 then [] else codes " * "

abbrev pub opening : Bool → List ℕ
opening true = codes "("
opening false = []

abbrev pub closing : Bool → List ℕ
closing true = codes ")"
closing false = []

-- the text of a type
pub record Shown : Type 0 where
  -- as a parameter or a result
  pub whole : List ℕ
  -- in a tuple, or before `sig`
  pub part : List ℕ

abbrev pub text_of : Bool → Shown → List ℕ
text_of true s = s.part
text_of false s = s.whole

abbrev pub alike : List ℕ → Shown
alike text = record { whole = text; part = text }

-- the parts of a tuple, of which so many come before
abbrev pub parts_from : ℕ → List Shown → List ℕ
parts_from k [] = []
parts_from k (p ∷ ps) = (joint k ++ p.part) ++ parts_from (k + 1) ps

abbrev pub is_empty : {A : Type 0} → List A → Bool
is_empty [] = true
is_empty (x ∷ xs) = false

-- parameters, each with an arrow behind it
abbrev pub arrows : Kind → List Shown → List ℕ
arrows kind [] = []
arrows kind (p ∷ ps) = (p.whole ++ arrow_after kind (is_empty ps)) ++ arrows kind ps

abbrev pub shown_step : List (List ℕ) → List Name → TypeTerm-F Shown → Shown
shown_step names enums (TypeTerm-F.Var x) = alike (letter x)
shown_step names enums TypeTerm-F.Int = alike (codes "int")
shown_step names enums TypeTerm-F.Bool = alike (codes "bool")
shown_step names enums TypeTerm-F.Char = alike (codes "char")
shown_step names enums TypeTerm-F.Text = alike (codes "string")
shown_step names enums TypeTerm-F.Unit = alike (codes "unit")
shown_step names enums (TypeTerm-F.Enum e) = alike (enum_text names enums e)
shown_step names enums (TypeTerm-F.Tuple ps) = record { whole = parts_from 0 ps; part = (codes "(" ++ parts_from 0 ps) ++ codes ")" }
shown_step names enums (TypeTerm-F.Arrow kind ps r) = alike (((codes "(" ++ arrows kind ps) ++ r.whole) ++ codes ")")
shown_step names enums (TypeTerm-F.Signal t) = alike (t.part ++ codes " sig")

abbrev pub shown : List (List ℕ) → List Name → TypeTerm → Shown
shown names enums = fold-TypeTerm Shown (shown_step names enums)

-- `val f : TYPE`
abbrev pub type_line : List (List ℕ) → List Name → Sig → List ℕ
type_line names enums sig =
    (((codes "val " ++ text_or (slice_get names sig.name.0)) ++ codes " : ") ++ arrows sig.kind (map (shown names enums) sig.params)) ++ (shown names enums sig.result).whole

-- ---- a text that is written unless a write failed before

-- `ok` says that no write failed before, `done` that none failed up to now; `before` and `after` count faults
pub record Prints (ok done : Bool) (old new : Option (List ℕ)) (before after : ℕ) (text : List ℕ) : Type 0 where
  pub whole : done ≡ true → (ok ≡ true) × (new ≡ option_map (λ t. t ++ text) old)
  pub front : ok ≡ true → WritesFront old text new
  pub none : ok ≡ false → (new ≡ old) × (done ≡ false)
  pub rose : ok ≡ true → done ≡ false → Rose before after
  pub counted : before ≤ after
