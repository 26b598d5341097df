-- The text of a type, form by form.
use Rattle.std.specs.Prelude.{◌≡◌, refl, ℕ, ◌≤◌, Bool, true, false, List, ◌++◌, map, Option, codes}
use Rattle.std.specs.Option.{option_map}
use Rattle.std.proofs.Common.{ap, sym, ◌∙◌, arith}
use Rattle.std.proofs.lemmas.List.{append-nil}
use Rattle.ls_base.specs.Outside.{Rose, WritesFront}
use Rattle.ls_base.specs.declared.Name.{Name}
use Rattle.ls_terms.specs.declared.types.Kind.{Kind}
use Rattle.ls_terms.specs.declared.types.TypeTerm.{TypeTerm, fold-roll-TypeTerm, roll-TypeTerm, map-TypeTerm}
use Rattle.ls_terms.specs.declared.types.TypeTerm.TheOpen.{TypeTerm-F}
use Rattle.ls_terms.specs.declared.types.TypeTerm.TheVariants as t
use Rattle.type_schemes.specs.Texts.{Prints, Shown, alike, arrows, closing, enum_text, letter, opening, parts_from, shown, shown_step, text_of}

of_alike : (nested : Bool) (text : List ℕ) → text_of nested (alike text) ≡ text
of_alike true text = refl
of_alike false text = refl

in_parentheses : (nested : Bool) (text : List ℕ) (s : Shown) → s ≡ record { whole = text; part = (codes "(" ++ text) ++ codes ")" } → text_of nested s ≡ (opening nested ++ text) ++ closing nested
in_parentheses true text s e = ap (text_of true) e
in_parentheses false text s e = ap (text_of false) e ∙ sym (append-nil text)

module _ (names : List (List ℕ)) (enums : List Name) (nested : Bool) (ty : TypeTerm) where
  abbrev show : TypeTerm → Shown
  show = shown names enums

  abbrev Shows : List ℕ → Type 0
  Shows text = text_of nested (show ty) ≡ text

  told : (x : TypeTerm-F TypeTerm) (text : List ℕ) → ty ≡ roll-TypeTerm x → shown_step names enums (map-TypeTerm TypeTerm Shown show x) ≡ alike text → Shows text
  told x text is e = ap (λ z. text_of nested (show z)) is ∙ ap (text_of nested) (fold-roll-TypeTerm Shown (shown_step names enums) x ∙ e) ∙ of_alike nested text

  pub var_told : (n : ℕ) → ty ≡ t.Var n → Shows (letter n)
  var_told n is = told (TypeTerm-F.Var n) (letter n) (is ∙ sym (t.rolls-Var n)) refl

  pub int_told : ty ≡ t.Int → Shows (codes "int")
  int_told is = told TypeTerm-F.Int (codes "int") (is ∙ sym t.rolls-Int) refl

  pub bool_told : ty ≡ t.Bool → Shows (codes "bool")
  bool_told is = told TypeTerm-F.Bool (codes "bool") (is ∙ sym t.rolls-Bool) refl

  pub char_told : ty ≡ t.Char → Shows (codes "char")
  char_told is = told TypeTerm-F.Char (codes "char") (is ∙ sym t.rolls-Char) refl

  pub string_told : ty ≡ t.Text → Shows (codes "string")
  string_told is = told TypeTerm-F.Text (codes "string") (is ∙ sym t.rolls-Text) refl

  pub unit_told : ty ≡ t.Unit → Shows (codes "unit")
  unit_told is = told TypeTerm-F.Unit (codes "unit") (is ∙ sym t.rolls-Unit) refl

  pub enum_told : (e : ℕ) → ty ≡ t.Enum e → Shows (enum_text names enums e)
  enum_told e is = told (TypeTerm-F.Enum e) (enum_text names enums e) (is ∙ sym (t.rolls-Enum e)) refl

  pub tuple_told : (ps slice : List TypeTerm) → ty ≡ t.Tuple ps → slice ≡ ps → Shows ((opening nested ++ parts_from 0 (map show slice)) ++ closing nested)
  tuple_told ps slice is same =
      in_parentheses nested (parts_from 0 (map show ps)) (show ty)
      (ap show (is ∙ sym (t.rolls-Tuple ps)) ∙ fold-roll-TypeTerm Shown (shown_step names enums) (TypeTerm-F.Tuple ps))
      ∙ ap (λ z. (opening nested ++ parts_from 0 (map show z)) ++ closing nested) (sym same)

  pub arrow_told : (k : Kind) (ps slice : List TypeTerm) (to to' : TypeTerm) → ty ≡ t.Arrow k ps to → slice ≡ ps → to' ≡ to
      → Shows (((codes "(" ++ arrows k (map show slice)) ++ text_of false (show to')) ++ codes ")")
  arrow_told k ps slice to to' is same same' =
      told (TypeTerm-F.Arrow k ps to) (((codes "(" ++ arrows k (map show ps)) ++ (show to).whole) ++ codes ")") (is ∙ sym (t.rolls-Arrow k ps to)) refl
      ∙ (λ i. ((codes "(" ++ arrows k (map show (sym same i))) ++ (show (sym same' i)).whole) ++ codes ")")

  pub signal_told : (of of' : TypeTerm) → ty ≡ t.Signal of → of' ≡ of → Shows (text_of true (show of') ++ codes " sig")
  signal_told of of' is same =
      told (TypeTerm-F.Signal of) ((show of).part ++ codes " sig") (is ∙ sym (t.rolls-Signal of)) refl
      ∙ ap (λ z. (show z).part ++ codes " sig") (sym same)

-- ---- one write

pub put_stopped : (ok : Bool) (old : Option (List ℕ)) (n : ℕ) (text : List ℕ) → ok ≡ false → Prints ok false old old n n text
put_stopped ok old n text e = record {
  whole = λ d. absurd (cc);
  front = λ d. absurd (cc);
  none = λ d. (refl, refl);
  rose = λ d f. absurd (cc);
  counted = omega arith;
}

pub put_done : (ok : Bool) (old new : Option (List ℕ)) (a c : ℕ) (text : List ℕ) → ok ≡ true → new ≡ option_map (λ t. t ++ text) old → WritesFront old text new → a ≤ c → Prints ok true old new a c text
put_done ok old new a c text e w f le = record {
  whole = λ d. (e, w);
  front = λ d. f;
  none = λ d. absurd (cc);
  rose = λ d g. absurd (cc);
  counted = le;
}

pub put_failed : (ok : Bool) (old new : Option (List ℕ)) (a c : ℕ) (text : List ℕ) → ok ≡ true → WritesFront old text new → Rose a c → a ≤ c → Prints ok false old new a c text
put_failed ok old new a c text e f r le = record {
  whole = λ d. absurd (cc);
  front = λ d. f;
  none = λ d. absurd (cc);
  rose = λ d g. r;
  counted = le;
}
