-- Lemmas on what is written of a row.
use Rattle.std.proofs.Common.{◌≡◌, ℕ, ◌+◌, ◌-◌, ◌<◌, List, [], ◌∷◌, ◌++◌, Option, Some, None, length, take, drop, get_or, refl, sym, ◌∙◌, ap, subst, arith, append_assoc, length-append}
use Rattle.std.specs.Option.{option_map}
use Rattle.std.proofs.lemmas.List.{append-nil, take-append-le, take-append-drop, take_all}
use Rattle.std.proofs.Math.Seq.{take-append-add}
use Rattle.ls_base.specs.Outside.{WritesFront}
use Rattle.line_io.specs.declared.form.InputForm.{InputForm}
use Rattle.line_io.specs.declared.form.Cell.{Cell}
use Rattle.std.proofs.lemmas.Grind.{common_steps, flat_map-append}
use Rattle.line_io.specs.Rows.{Begins, cell_text, rest_text, cells_text, row_text}

-- bytes written after others
pub writes_twice : (old mid new : Option (List ℕ)) (xs ys : List ℕ) → mid ≡ option_map (λ t. t ++ xs) old → new ≡ option_map (λ t. t ++ ys) mid
    → new ≡ option_map (λ t. t ++ (xs ++ ys)) old
writes_twice None mid new xs ys e f = f ∙ ap (option_map (λ t. t ++ ys)) e
writes_twice (Some text) mid new xs ys e f = f ∙ ap (option_map (λ t. t ++ ys)) e ∙ ap Some (append_assoc text xs ys)

-- a front of some bytes written after others
pub front_after : (old mid new : Option (List ℕ)) (xs ys : List ℕ) → mid ≡ option_map (λ t. t ++ xs) old → WritesFront mid ys new → WritesFront old (xs ++ ys) new
front_after old mid new xs ys e f = (
  length xs + f.0,
  (let le = f.1 in omega (arith, length-append xs ys)),
  writes_twice old mid new xs (take f.0 ys) e f.2 ∙ ap (λ (zs : List ℕ). option_map (λ t. t ++ zs) old) (sym (take-append-add xs ys f.0)),
)

-- a front of a front
pub front_longer : (old new : Option (List ℕ)) (xs ys : List ℕ) → WritesFront old xs new → WritesFront old (xs ++ ys) new
front_longer old new xs ys f =
    (f.0, (let le = f.1 in omega (arith, length-append xs ys)), f.2 ∙ ap (λ (zs : List ℕ). option_map (λ t. t ++ zs) old) (sym (take-append-le f.0 xs ys f.1)))

-- what is begun after what was begun
pub begins_on : (old mid new : Option (List ℕ)) (text piece pending held : List ℕ) → Begins old text mid pending → Begins mid (pending ++ piece) new held → Begins old (text ++ piece) new held
begins_on old mid new text piece pending held s t = (
  s.0 ++ t.0,
  writes_twice old mid new s.0 t.0 s.1 t.1,
  append_assoc s.0 t.0 held ∙ ap (λ (zs : List ℕ). s.0 ++ zs) t.2 ∙ sym (append_assoc s.0 pending piece) ∙ ap (λ (zs : List ℕ). zs ++ piece) s.2,
)

-- and a front of it
pub front_on : (old mid new : Option (List ℕ)) (text piece pending : List ℕ) → Begins old text mid pending → WritesFront mid (pending ++ piece) new → WritesFront old (text ++ piece) new
front_on old mid new text piece pending s f =
    subst (λ (zs : List ℕ). WritesFront old zs new) (sym (append_assoc s.0 pending piece) ∙ ap (λ (zs : List ℕ). zs ++ piece) s.2)
    (front_after old mid new s.0 (pending ++ piece) s.1 f)

-- nothing is begun yet
pub begins_none : (old : Option (List ℕ)) → Begins old [] old []
begins_none None = ([], refl, refl)
begins_none (Some text) = ([], ap Some (sym (append-nil text)), refl)

-- all that is held back is written
pub begins_all : (old mid new : Option (List ℕ)) (text pending : List ℕ) → Begins old text mid pending → new ≡ option_map (λ t. t ++ pending) mid → new ≡ option_map (λ t. t ++ text) old
begins_all old mid new text pending s e =
    writes_twice old mid new s.0 pending s.1 e ∙ ap (λ (zs : List ℕ). option_map (λ t. t ++ zs) old) s.2

-- two texts were written, and nothing is held back
pub put_all : (old mid new : Option (List ℕ)) (xs ys zs held : List ℕ) → xs ≡ zs → held ≡ [] → mid ≡ option_map (λ t. t ++ xs) old → new ≡ option_map (λ t. t ++ ys) mid → Begins old (zs ++ ys) new held
put_all old mid new xs ys zs held same none e f =
    (zs ++ ys, writes_twice old mid new xs ys e f ∙ ap (λ (us : List ℕ). option_map (λ t. t ++ (us ++ ys)) old) same, ap (λ (us : List ℕ). (zs ++ ys) ++ us) none ∙ append-nil (zs ++ ys))

-- a text was written, and a front of the next one
pub put_front : (old mid new : Option (List ℕ)) (xs ys zs : List ℕ) → xs ≡ zs → mid ≡ option_map (λ t. t ++ xs) old → WritesFront mid ys new → WritesFront old (zs ++ ys) new
put_front old mid new xs ys zs same e f = subst (λ (us : List ℕ). WritesFront old (us ++ ys) new) same (front_after old mid new xs ys e f)

-- what is begun, when its text is one of two parts
pub begins_then : (old mid new : Option (List ℕ)) (base xs ys pending held : List ℕ) → Begins old (base ++ xs) mid pending → Begins mid (pending ++ ys) new held → Begins old (base ++ (xs ++ ys)) new held
begins_then old mid new base xs ys pending held s t =
    subst (λ (zs : List ℕ). Begins old zs new held) (append_assoc base xs ys) (begins_on old mid new (base ++ xs) ys pending held s t)

-- a front of two parts, where the first was begun
pub front_then : (old mid new : Option (List ℕ)) (base xs ys pending : List ℕ) → Begins old (base ++ xs) mid pending → WritesFront mid (pending ++ ys) new → WritesFront old (base ++ (xs ++ ys)) new
front_then old mid new base xs ys pending s f =
    subst (λ (zs : List ℕ). WritesFront old zs new) (append_assoc base xs ys) (front_on old mid new (base ++ xs) ys pending s f)

-- a front of two parts that is a front of the first
pub front_some : (old new : Option (List ℕ)) (base xs ys : List ℕ) → WritesFront old (base ++ xs) new → WritesFront old (base ++ (xs ++ ys)) new
front_some old new base xs ys f = subst (λ (zs : List ℕ). WritesFront old zs new) (append_assoc base xs ys) (front_longer old new (base ++ xs) ys f)

-- the text of one cell more
rest_more_at : (form : InputForm) (cells : List Cell) (k : ℕ) (d : Cell) → k < length cells → rest_text form (take k cells) ++ (32 ∷ cell_text form (get_or cells k d)) ≡ rest_text form (take (k + 1) cells)
rest_more_at form cells k d lt = grind (arith, common_steps)

pub rest_more : (form : InputForm) (cells : List Cell) (k : ℕ) (cell : Cell) → cell ≡ get_or cells k cell → k < length cells → rest_text form (take k cells) ++ (32 ∷ cell_text form cell) ≡ rest_text form (take (k + 1) cells)
rest_more form cells k cell is lt = ap (λ (c : Cell). rest_text form (take k cells) ++ (32 ∷ cell_text form c)) is ∙ rest_more_at form cells k cell lt

-- the text of cells in two parts
pub rest_parts : (form : InputForm) (cells : List Cell) (k : ℕ) → rest_text form (take k cells) ++ rest_text form (drop k cells) ≡ rest_text form cells
rest_parts form cells k = sym (flat_map-append (λ cell. 32 ∷ cell_text form cell) (take k cells) (drop k cells)) ∙ ap (rest_text form) (take-append-drop k cells)

-- the text of the first cell and of those behind it
pub cells_split : (form : InputForm) (cells : List Cell) (cell : Cell) → cell ≡ get_or cells 0 cell → 0 < length cells
    → cell_text form cell ++ rest_text form (take (length cells - 1) (drop 1 cells)) ≡ cells_text form cells
cells_split form [] cell is some = absurd (omega arith)
cells_split form (first ∷ cells) cell is some =
    ap (λ (c : Cell). cell_text form c ++ rest_text form (take (length (first ∷ cells) - 1) cells)) is
    ∙ ap (λ (cs : List Cell). cell_text form first ++ rest_text form cs) (take_all (length (first ∷ cells) - 1) cells (omega arith))

-- the text of a row
pub row_is : (form : InputForm) (start : List ℕ) (cells row : List Cell) → start ≡ [] → cells ≡ row → (start ++ cells_text form cells) ++ 10 ∷ [] ≡ row_text form row
row_is form start cells row none same = ap (λ (zs : List ℕ). (zs ++ cells_text form cells) ++ 10 ∷ []) none ∙ ap (row_text form) same

-- a front of what was held back
pub front_held : (old mid new : Option (List ℕ)) (text pending held : List ℕ) → Begins old text mid pending → held ≡ pending → WritesFront mid held new → WritesFront old text new
front_held old mid new text pending held s same f =
    subst (λ (zs : List ℕ). WritesFront old zs new) (ap (λ (zs : List ℕ). s.0 ++ zs) same ∙ s.2) (front_after old mid new s.0 held s.1 f)
