-- From what a part of the call comes to, to what the whole call does.
use Rattle.std.proofs.Common.{◌≡◌, ◌≢◌, ℕ, ◌<◌, ◌≤◌, List, [], ◌++◌, length, Option, Some, None, true, false, refl, sym, ◌∙◌, ap, subst, ◌⊎◌, inl, inr}
use Rattle.std.proofs.lemmas.List.{append-nil}
use Rattle.std.specs.Prelude.{Err}
use Rattle.std.specs.Option.{option_map, IfSome}
use Rattle.ls_base.specs.declared.Line.{Line}
use Rattle.ls_ast.specs.declared.tree.FileOf.{FileOf}
use Rattle.ls_ast.specs.declared.tree.Plain.{Plain}
use Rattle.ls_parser.specs.declared.definitions.SyntaxFault.{SyntaxFault}
use Rattle.ls_parser.specs.declared.definitions.SyntaxFault.TheVariants as syntax
use Rattle.ls_parser.specs.Answers.{IfSyntax}
use Rattle.step_text.specs.declared.fault.CodeFault.{CodeFault}
use Rattle.step_text.specs.declared.fault.CodeFault.TheVariants as code
use Rattle.step_text.specs.Text.{IsRefused, IsRefusedText}
use Rattle.lsc_cli.specs.declared.status.Status.{Status}
use Rattle.lsc_cli.specs.declared.status.Status.TheVariants as statuses
use Rattle.ls_base.specs.Outside.{Rose}
use Rattle.lsc_cli.specs.Call.{ComesFrom, IsInner}
use Rattle.lsc_cli.specs.Status.{is_about_file}
use Rattle.lsc_cli.specs.Outcome.{Comes, refusal, too_large}
use Rattle.lsc_cli.specs.Refusals.{syntax_fault_text, syntax_text}
use Rattle.lsc_cli.specs.Start.{Start, Ends, IsStart, TooLong, Within, file_limit}

-- what began so began otherwise too
pub comes-as : (P Q : Start → Type 0) (most : ℕ) (input left : Option (List ℕ)) (answer : Status) (old new : Option (List ℕ))
    → ((start : Start) → P start → Q start) → ComesFrom P most input left answer old new → ComesFrom Q most input left answer old new
comes-as P Q most input left answer old new to c = (c.0, to c.0 c.1, c.2)

-- a refusal
pub comes-refused : (text : List ℕ) (most : ℕ) (input left : Option (List ℕ)) (answer : Status) (old new : Option (List ℕ))
    → Comes (refusal text) answer old new → ComesFrom (λ start. start ≡ Ends (refusal text)) most input left answer old new
comes-refused text most input left answer old new comes = (Ends (refusal text), refl, comes)

nothing_more : (old : Option (List ℕ)) → old ≡ option_map (λ text. text ++ []) old
nothing_more None = refl
nothing_more (Some text) = ap Some (sym (append-nil text))

-- a file that is too long
pub comes-too_long : (Judges : List ℕ → Start → Type 0) (most : ℕ) (told input left old : Option (List ℕ)) → IfSome told (λ bytes. file_limit < length bytes)
    → IfSome told (λ bytes. ComesFrom (IsStart Judges bytes) most input left statuses.TooLarge old old)
comes-too_long Judges most None input left old long = tt
comes-too_long Judges most (Some bytes) input left old long = (
  Ends too_large,
  TooLong long refl,
  record {
    status = λ none. refl;
    text = λ none. nothing_more old;
    front = λ fault. absurd (let e : statuses.TooLarge ≡ statuses.WriteFault = fault in cc);
    unread = λ fault. absurd (let e : statuses.TooLarge ≡ statuses.ReadFault = fault in cc);
  },
)

-- a file within the limit
pub comes-within : (Judges : List ℕ → Start → Type 0) (most : ℕ) (told : Option (List ℕ)) (text : List ℕ) (input left : Option (List ℕ)) (answer : Status) (old new : Option (List ℕ))
    → IfSome told (λ bytes. text ≡ bytes) → length text ≤ file_limit → ComesFrom (Judges text) most input left answer old new
    → IfSome told (λ bytes. ComesFrom (IsStart Judges bytes) most input left answer old new)
comes-within Judges most None text input left answer old new is short comes = tt
comes-within Judges most (Some bytes) text input left answer old new is short comes =
    (comes.0, subst (λ bs. IsStart Judges bs comes.0) is (Within short comes.1), comes.2)

-- a syntax fault that is not want of memory has a line
pub at-syntax : (fault : SyntaxFault) (P : Line → Type 0) → fault ≢ syntax.NoMemory → IfSyntax {X = FileOf Plain} (Err fault) P
    → (line : Line) × P line × (syntax_fault_text fault ≡ syntax_text line)
at-syntax (syntax.Syntax line) P some h = (line, h, refl)
at-syntax syntax.NoMemory P some h = absurd (some refl)

-- a refusal of step code that is not for want of memory
pub refused-text : (bytes : List ℕ) (fault : CodeFault) → fault ≢ code.NoMemory → IsRefused bytes fault → IsRefusedText bytes fault
refused-text bytes (code.NotCode line) some is = is
refused-text bytes (code.BadSlot line) some is = is
refused-text bytes (code.BadOrder line) some is = is
refused-text bytes (code.BadShape line) some is = is
refused-text bytes code.NoMemory some is = absurd (some refl)

-- the causes of a command that reads no input
pub inner_alone : (A B : Type 0) (answer : Status) (reads writes writes_after : ℕ) → A
    → (answer ≡ statuses.Done) ⊎ ((answer ≡ statuses.Refused) ⊎ ((answer ≡ statuses.WriteFault) ⊎ (answer ≡ statuses.NoMemory)))
    → (answer ≡ statuses.WriteFault → Rose writes writes_after) → (answer ≡ statuses.NoMemory → B) → IsInner answer reads reads writes writes_after (A × B)
inner_alone A B answer reads writes writes_after same is rose none = record {
  causes = record {
    read_fault = λ e. absurd (other answer statuses.ReadFault is e (λ p. let q : statuses.Done ≡ statuses.ReadFault = p in cc) (λ p. let q : statuses.Refused ≡ statuses.ReadFault = p in cc) (λ p. let q : statuses.WriteFault ≡ statuses.ReadFault = p in cc) (λ p. let q : statuses.NoMemory ≡ statuses.ReadFault = p in cc));
    write_fault = rose;
    untouched = λ e. (same, none (memory answer is e));
  };
  usage = λ e. other answer statuses.Usage is e (λ p. let q : statuses.Done ≡ statuses.Usage = p in cc) (λ p. let q : statuses.Refused ≡ statuses.Usage = p in cc) (λ p. let q : statuses.WriteFault ≡ statuses.Usage = p in cc) (λ p. let q : statuses.NoMemory ≡ statuses.Usage = p in cc);
  unloaded = λ e. other answer statuses.Unloaded is e (λ p. let q : statuses.Done ≡ statuses.Unloaded = p in cc) (λ p. let q : statuses.Refused ≡ statuses.Unloaded = p in cc) (λ p. let q : statuses.WriteFault ≡ statuses.Unloaded = p in cc) (λ p. let q : statuses.NoMemory ≡ statuses.Unloaded = p in cc);
}
  where
    other : (a s : Status) → (a ≡ statuses.Done) ⊎ ((a ≡ statuses.Refused) ⊎ ((a ≡ statuses.WriteFault) ⊎ (a ≡ statuses.NoMemory))) → a ≡ s
        → (statuses.Done ≡ s → ⊥) → (statuses.Refused ≡ s → ⊥) → (statuses.WriteFault ≡ s → ⊥) → (statuses.NoMemory ≡ s → ⊥) → ⊥
    other a s (inl d) e p q r t = p (sym d ∙ e)
    other a s (inr (inl d)) e p q r t = q (sym d ∙ e)
    other a s (inr (inr (inl d))) e p q r t = r (sym d ∙ e)
    other a s (inr (inr (inr d))) e p q r t = t (sym d ∙ e)

    memory : (a : Status) → (a ≡ statuses.Done) ⊎ ((a ≡ statuses.Refused) ⊎ ((a ≡ statuses.WriteFault) ⊎ (a ≡ statuses.NoMemory))) → is_about_file a ≡ false → a ≡ statuses.NoMemory
    memory a (inl d) e = absurd (let q : true ≡ false = sym (ap is_about_file d) ∙ e in cc)
    memory a (inr (inl d)) e = absurd (let q : true ≡ false = sym (ap is_about_file d) ∙ e in cc)
    memory a (inr (inr (inl d))) e = absurd (let q : true ≡ false = sym (ap is_about_file d) ∙ e in cc)
    memory a (inr (inr (inr d))) e = d
