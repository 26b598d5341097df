-- Text that is written, and text that is held back.
use Rattle.std.proofs.Common.{◌≡◌, ℕ, ◌+◌, List, [], ◌++◌, Option, Some, None, length, take, refl, sym, ◌∙◌, ap, subst, arith, append_assoc, length-append}
use Rattle.std.specs.Option.{option_map}
use Rattle.std.proofs.lemmas.List.{append-nil, take-append-le}
use Rattle.std.proofs.Math.Seq.{take-append-add}
use Rattle.ls_base.specs.Outside.{WritesFront}
use Rattle.line_io.specs.Rows.{Begins}
use Rattle.run_text.specs.Progress.{Adds}

-- nothing was begun
pub nothing_begun : (old : Option (List ℕ)) → Begins old [] old []
nothing_begun None = ([], refl, refl)
nothing_begun (Some text) = ([], ap Some (sym (append-nil text)), refl)

-- what was held back has been written
pub begins-flushed : (old new : Option (List ℕ)) (pending kept : List ℕ) → Adds old pending new → kept ≡ [] → Begins old pending new kept
begins-flushed old new pending kept written none = (pending, written, ap (λ zs. pending ++ zs) none ∙ append-nil pending)

-- one text behind another
pub two_texts : (old : Option (List ℕ)) (a b : List ℕ) → option_map (λ text. text ++ b) (option_map (λ text. text ++ a) old) ≡ option_map (λ text. text ++ (a ++ b)) old
two_texts None a b = refl
two_texts (Some text) a b = ap Some (append_assoc text a b)

-- a text that was begun, and what was held back of it begun with more
pub begins_more : (old mid new : Option (List ℕ)) (text piece pending held : List ℕ) → Begins old text mid pending → Begins mid (pending ++ piece) new held → Begins old (text ++ piece) new held
begins_more old mid new text piece pending held s t = (
  s.0 ++ t.0,
  t.1 ∙ ap (option_map (λ zs. zs ++ t.0)) s.1 ∙ two_texts old s.0 t.0,
  append_assoc s.0 t.0 held ∙ ap (λ zs. s.0 ++ zs) t.2 ∙ sym (append_assoc s.0 pending piece) ∙ ap (λ zs. zs ++ piece) s.2,
)

-- what was held back was begun
pub begins_on : (old mid new : Option (List ℕ)) (text pending held : List ℕ) → Begins old text mid pending → Begins mid pending new held → Begins old text new held
begins_on old mid new text pending held s t = (
  s.0 ++ t.0,
  t.1 ∙ ap (option_map (λ zs. zs ++ t.0)) s.1 ∙ two_texts old s.0 t.0,
  append_assoc s.0 t.0 held ∙ ap (λ zs. s.0 ++ zs) t.2 ∙ s.2,
)

-- what was held back was written
pub begins_all : (old mid new : Option (List ℕ)) (text pending : List ℕ) → Begins old text mid pending → Adds mid pending new → Adds old text new
begins_all old mid new text pending s written =
    written ∙ ap (option_map (λ zs. zs ++ pending)) s.1 ∙ two_texts old s.0 pending ∙ (λ i. option_map (λ zs. zs ++ s.2 i) old)

-- a front of a text behind another
pub front_more : (texts row more : List ℕ) (old written new : Option (List ℕ)) → Adds old texts written
    → WritesFront written row new → WritesFront old (texts ++ (row ++ more)) new
front_more texts row more old written new is (n, within, added) =
    let cut : take (length texts + n) (texts ++ (row ++ more)) ≡ texts ++ take n row =
    take-append-add texts (row ++ more) n ∙ ap (λ zs. texts ++ zs) (take-append-le n row more within) in (
      length texts + n,
      omega (arith, length-append texts (row ++ more), length-append row more, within),
      added ∙ ap (option_map (λ text. text ++ take n row)) is ∙ two_texts old texts (take n row) ∙ (λ i. option_map (λ text. text ++ sym cut i) old),
    )

-- a front of what was held back and of a row
pub begins_front : (old mid new : Option (List ℕ)) (text row more pending : List ℕ) → Begins old text mid pending → WritesFront mid (pending ++ row) new → WritesFront old (text ++ (row ++ more)) new
begins_front old mid new text row more pending s front =
    subst (λ zs. WritesFront old zs new)
    (ap (λ zs. s.0 ++ zs) (append_assoc pending row more) ∙ sym (append_assoc s.0 pending (row ++ more)) ∙ ap (λ zs. zs ++ (row ++ more)) s.2)
    (front_more s.0 (pending ++ row) more old mid new s.1 front)

-- a front of what was held back is a front of the text
pub front_held : (old mid new : Option (List ℕ)) (text pending : List ℕ) → Begins old text mid pending → WritesFront mid pending new → WritesFront old text new
front_held old mid new text pending s front =
    subst (λ zs. WritesFront old zs new) (append-nil text)
    (begins_front old mid new text [] [] pending s (subst (λ zs. WritesFront mid zs new) (sym (append-nil pending)) front))

-- a front of what was held back and of a row is a front of the text with the row
pub front_row : (old mid new : Option (List ℕ)) (text row pending : List ℕ) → Begins old text mid pending → WritesFront mid (pending ++ row) new → WritesFront old (text ++ row) new
front_row old mid new text row pending s front =
    subst (λ zs. WritesFront old (text ++ zs) new) (append-nil row) (begins_front old mid new text row [] pending s front)
