-- Reading what stands between quotes, a byte after the other.
use Rattle.std.proofs.Common.{◌≡◌, ℕ, ◌+◌, ◌<◌, ◌≤◌, Bool, true, false, ◌==◌, ◌&&◌, ◌||◌, not, nat_le, if◌then◌else◌, List, [], ◌∷◌, ◌++◌, length, refl, sym, ◌∙◌, ap, arith, Option, None, Some, append_assoc, length-append, drop, get_or, add-one, drop-cons, subst}
use Rattle.std.proofs.lemmas.Bool.Decides.{nat_tests}
use Rattle.std.proofs.lemmas.List.{append_cancel_right}
use Rattle.std.proofs.lemmas.List.Folds.{list_all-append}
use Rattle.ls_value.specs.Character.{is_character, AreCharacters}
use Rattle.ls_value.specs.Reading.{escape_value, plain_value, before, characters_after, characters_of, IsToken}

-- xs before what is still to come
abbrev pub behind : List ℕ → Option (List ℕ) → Option (List ℕ)
behind xs None = None
behind xs (Some ys) = Some (xs ++ ys)

abbrev pub value_after : ℕ → Bool → ℕ → Option ℕ
value_after quote after c = if after then escape_value c else plain_value quote c

before_behind : (xs : List ℕ) (d : ℕ) (o : Option (List ℕ)) → behind xs (before (Some d) o) ≡ behind (xs ++ d ∷ []) o
before_behind xs d None = refl
before_behind xs d (Some ys) = ap (λ (zs : List ℕ). Some zs) (sym (append_assoc xs (d ∷ []) ys))

true_is_not_false : true ≡ false → ⊥
true_is_not_false h = cc

pub backslash : (quote c : ℕ) (after : Bool) (cs : List ℕ) → (not after && (c == 92)) ≡ true → characters_after quote after (c ∷ cs) ≡ characters_after quote true cs
backslash quote c true cs e = absurd (true_is_not_false (sym e))
backslash quote c false cs e = rw e refl

-- a byte that is no `\` of its own
pub no_backslash : (quote c : ℕ) (after : Bool) (cs : List ℕ) → (not after && (c == 92)) ≡ false
    → characters_after quote after (c ∷ cs) ≡ before (value_after quote after c) (characters_after quote false cs)
no_backslash quote c true cs h = refl
no_backslash quote c false cs h = rw h refl

pub next_character : (xs : List ℕ) (quote c d : ℕ) (after : Bool) (cs : List ℕ) → (not after && (c == 92)) ≡ false → value_after quote after c ≡ Some d
    → behind xs (characters_after quote after (c ∷ cs)) ≡ behind (xs ++ d ∷ []) (characters_after quote false cs)
next_character xs quote c d after cs h e =
    ap (behind xs) (no_backslash quote c after cs h ∙ ap (λ (o : Option ℕ). before o (characters_after quote false cs)) e)
    ∙ before_behind xs d (characters_after quote false cs)

pub no_character : (xs : List ℕ) (quote c : ℕ) (after : Bool) (cs : List ℕ) → (not after && (c == 92)) ≡ false → value_after quote after c ≡ None
    → behind xs (characters_after quote after (c ∷ cs)) ≡ None
no_character xs quote c after cs h e =
    ap (behind xs) (no_backslash quote c after cs h ∙ ap (λ (o : Option ℕ). before o (characters_after quote false cs)) e)

escape_choice : (a b e : Bool) (c d : ℕ) → (if a then Some 10 else (if b then Some 9 else (if e then Some c else None))) ≡ Some d
    → (e ≡ true → is_character c ≡ true) → is_character d ≡ true
escape_choice true b e c d h k = let is : 10 ≡ d = cc in subst (λ (x : ℕ). is_character x ≡ true) is refl
escape_choice false true e c d h k = let is : 9 ≡ d = cc in subst (λ (x : ℕ). is_character x ≡ true) is refl
escape_choice false false true c d h k = let is : c ≡ d = cc in subst (λ (x : ℕ). is_character x ≡ true) is (k refl)
escape_choice false false false c d h k = absurd (cc)

itself : (c : ℕ) → (c == 92 || c == 39 || c == 34) ≡ true → is_character c ≡ true
itself c h = grind (arith, nat_tests)

plain_choice : (e : Bool) (c d : ℕ) → (if e then Some c else None) ≡ Some d → (e ≡ true → is_character c ≡ true) → is_character d ≡ true
plain_choice true c d h k = let is : c ≡ d = cc in subst (λ (x : ℕ). is_character x ≡ true) is (k refl)
plain_choice false c d h k = absurd (cc)

plain : (quote c : ℕ) → (nat_le 32 c && nat_le c 126 && not (c == 92 || c == quote)) ≡ true → is_character c ≡ true
plain quote c h = grind (arith, nat_tests)

pub value_character : (quote c d : ℕ) (after : Bool) → value_after quote after c ≡ Some d → is_character d ≡ true
value_character quote c d true e = escape_choice (c == 110) (c == 116) (c == 92 || c == 39 || c == 34) c d e (itself c)
value_character quote c d false e = plain_choice (nat_le 32 c && nat_le c 126 && not (c == 92 || c == quote)) c d e (plain quote c)

pub longer : (xs cs : List ℕ) (o : Option (List ℕ)) → behind xs o ≡ Some cs → length xs ≤ length cs
longer xs cs None e = absurd (cc)
longer xs cs (Some ys) e = let is : xs ++ ys ≡ cs = cc in omega (arith, ap length is, length-append {A = ℕ} xs ys)

pub at_byte : (xs : List ℕ) (quote : ℕ) (after : Bool) (body : List ℕ) (i : ℕ) → i < length body
    → behind xs (characters_after quote after (drop i body)) ≡ behind xs (characters_after quote after (get_or body i 0 ∷ drop (i + 1) body))
at_byte xs quote after body i h = rw (add-one, drop-cons body i 0) refl

pub more_characters : (xs : List ℕ) (d : ℕ) → AreCharacters xs → is_character d ≡ true → AreCharacters (xs ++ d ∷ [])
more_characters xs d h k = rw (list_all-append is_character xs (d ∷ []), h, k) refl

inside : (quote : ℕ) (x y : List ℕ) → quote ∷ x ++ quote ∷ [] ≡ quote ∷ y ++ quote ∷ [] → x ≡ y
inside quote x y e = append_cancel_right x y (quote ∷ []) (cc)

pub token_unique : (quote : ℕ) (xs ys bytes : List ℕ) → IsToken quote xs bytes → IsToken quote ys bytes → xs ≡ ys
token_unique quote xs ys bytes (b, e, f) (b', e', f') =
    let same : b ≡ b' = inside quote b b' (sym e ∙ e') in
    let both : Some xs ≡ Some ys = sym f ∙ ap (characters_of quote) same ∙ f' in
    cc
