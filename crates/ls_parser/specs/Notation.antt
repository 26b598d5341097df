-- Notation for grammars: a phrase is a relation between a value and the tokens that spell it.
use Rattle.std.specs.Prelude.{◌≡◌, List, [], ◌∷◌, ◌++◌, Option, Some, None, ◌⊎◌}
use Rattle.ls_base.specs.declared.Name.{Name}
use Rattle.ls_lexer.specs.declared.token.Fixed.{Fixed}
use Rattle.ls_lexer.specs.declared.token.Token.{Token}
use Rattle.ls_lexer.specs.declared.token.Token.TheVariants.{Fixed as Word, Id, Cons}

infixr 60 ◌▷◌
infixr 60 ◌◁◌
infixr 55 ◌⊗◌
infixl 50 ◌⇒◌
infixr 45 ◌or◌
-- a relation between a value and the tokens that spell it
abbrev pub Phrase : Type 0 → Type 1
Phrase A = A → List Token → Type 0

-- a word, and then a phrase
abbrev pub ◌▷◌ : {A : Type 0} → Fixed → Phrase A → Phrase A
(w ▷ p) x ts = (rest : List Token) × (ts ≡ Word w ∷ rest) × p x rest

-- a phrase, and then a word
abbrev pub ◌◁◌ : {A : Type 0} → Phrase A → Fixed → Phrase A
(p ◁ w) x ts = (front : List Token) × (ts ≡ front ++ Word w ∷ []) × p x front

-- a phrase, and then another
abbrev pub ◌⊗◌ : {A B : Type 0} → Phrase A → Phrase B → Phrase (A × B)
(p ⊗ q) x ts = (front : List Token) × (back : List Token) × (ts ≡ front ++ back) × p x.0 front × q x.1 back

-- a phrase for what a function makes of its value
abbrev pub ◌⇒◌ : {A B : Type 0} → Phrase A → (A → B) → Phrase B
◌⇒◌ {A} p f y ts = (x : A) × (y ≡ f x) × p x ts

-- one phrase or another
abbrev pub ◌or◌ : {A : Type 0} → Phrase A → Phrase A → Phrase A
(p or q) x ts = p x ts ⊎ q x ts

-- phrases in a row, or none
abbrev pub many : {A : Type 0} → Phrase A → Phrase (List A)
many p [] ts = ts ≡ []
many p (x ∷ xs) ts = (front : List Token) × (back : List Token) × (ts ≡ front ++ back) × p x front × many p xs back

-- phrases in a row, at least one
abbrev pub some : {A : Type 0} → Phrase A → Phrase (List A)
some p [] ts = ⊥
some p (x ∷ xs) ts = many p (x ∷ xs) ts

-- phrases with a word between each two, at least one
abbrev pub separated : {A : Type 0} → Fixed → Phrase A → Phrase (List A)
separated w p [] ts = ⊥
separated w p (x ∷ xs) ts = (p ⊗ many (w ▷ p)) (x, xs) ts

-- a phrase or nothing
abbrev pub maybe : {A : Type 0} → Phrase A → Phrase (Option A)
maybe p None ts = ts ≡ []
maybe p (Some x) ts = p x ts

-- a phrase, before which a word may stand
abbrev pub after : {A : Type 0} → Fixed → Phrase A → Phrase A
after w p = p or w ▷ p

-- an identifier
abbrev pub identifier : Phrase Name
identifier x ts = ts ≡ Id x ∷ []

-- a constructor
abbrev pub constructor : Phrase Name
constructor x ts = ts ≡ Cons x ∷ []
