-- Lemmas on the next line of the bytes held and those left in a source.
use Rattle.std.proofs.Common.{◌≡◌, ◌≢◌, ℕ, ◌+◌, ◌<◌, ◌≤◌, List, [], ◌∷◌, ◌++◌, length, take, drop, Option, None, Some, refl, sym, ◌∙◌, ap, subst, arith, append_assoc, length-append}
use Rattle.std.specs.Prelude.{Contains, IfSome}
use Rattle.std.specs.Option.{option_map}
use Rattle.std.proofs.lemmas.List.{append-nil, take-append-drop, take_all, length-take, length-drop, take-append-le, drop-append-le}
use Rattle.std.proofs.Math.Seq.{take-take, drop-length}
use Rattle.std.proofs.lemmas.List.Elements.{All-contains, Contains-append_right}
use Rattle.line_io.specs.Line.{line_of, rest_of, NoNewline, ahead, TakesFront, IsShort}
use Rattle.line_io.proofs.LineLemmas.{line_of-cut, rest_of-cut, line_of-quiet, rest_of-quiet}

-- a read moves bytes from the source to those held
pub ahead_read : (h h' : List ℕ) (l l' : Option (List ℕ)) → take (length h) h' ≡ h → l ≡ option_map (λ rest. drop (length h) h' ++ rest) l'
    → ahead h' l' ≡ ahead h l
ahead_read h h' l l' front taken = subst (λ (o : Option (List ℕ)). ahead h' l' ≡ ahead h o) (sym taken) (told l')
  where
    told : (l' : Option (List ℕ)) → ahead h' l' ≡ ahead h (option_map (λ rest. drop (length h) h' ++ rest) l')
    told None = refl
    told (Some rest) =
        ap Some
        (ap (λ (xs : List ℕ). xs ++ rest) (sym (take-append-drop (length h) h') ∙ ap (λ (xs : List ℕ). xs ++ drop (length h) h') front) ∙ append_assoc h (drop (length h) h') rest)

-- taking nothing
pub takes_none : (l : Option (List ℕ)) → TakesFront l l
takes_none None = ([], refl)
takes_none (Some rest) = ([], refl)

-- taking twice
pub takes_twice : (a b c : Option (List ℕ)) → TakesFront a b → TakesFront b c → TakesFront a c
takes_twice a b c s t = (s.0 ++ t.0, s.1 ∙ ap (option_map (λ rest. s.0 ++ rest)) t.1 ∙ both c)
  where
    both : (c : Option (List ℕ)) → option_map (λ rest. s.0 ++ rest) (option_map (λ rest. t.0 ++ rest) c) ≡ option_map (λ rest. (s.0 ++ t.0) ++ rest) c
    both None = refl
    both (Some rest) = ap Some (sym (append_assoc s.0 t.0 rest))

-- a cut gives the first line of what is ahead
pub cut_line : (all : Option (List ℕ)) (h line after : List ℕ) (l : Option (List ℕ)) → ahead h l ≡ all → h ≡ line ++ 10 ∷ after → NoNewline line
    → IfSome all (λ bytes. (0 < length bytes) × (line ≡ line_of bytes))
cut_line all h line after l e is quiet =
    subst (λ (o : Option (List ℕ)). IfSome o (λ bytes. (0 < length bytes) × (line ≡ line_of bytes))) (ap (λ (xs : List ℕ). ahead xs l) (sym is) ∙ e) (told l)
  where
    told : (l : Option (List ℕ)) → IfSome (ahead (line ++ 10 ∷ after) l) (λ bytes. (0 < length bytes) × (line ≡ line_of bytes))
    told None = tt
    told (Some rest) =
        let same = append_assoc line (10 ∷ after) rest in (
          omega (arith, ap length same, length-append line (10 ∷ (after ++ rest))),
          sym (ap line_of same ∙ line_of-cut line (after ++ rest) quiet),
        )

-- and leaves the rest of what is ahead
pub cut_rest : (all : Option (List ℕ)) (h line after : List ℕ) (l : Option (List ℕ)) → ahead h l ≡ all → h ≡ line ++ 10 ∷ after → NoNewline line
    → ahead after l ≡ option_map rest_of all
cut_rest all h line after l e is quiet =
    subst (λ (o : Option (List ℕ)). ahead after l ≡ option_map rest_of o) (ap (λ (xs : List ℕ). ahead xs l) (sym is) ∙ e) (told l)
  where
    told : (l : Option (List ℕ)) → ahead after l ≡ option_map rest_of (ahead (line ++ 10 ∷ after) l)
    told None = refl
    told (Some rest) = ap Some (sym (ap rest_of (append_assoc line (10 ∷ after) rest) ∙ rest_of-cut line (after ++ rest) quiet))

-- at the end of a source nothing is left but the bytes held
pub ahead_end : (all : Option (List ℕ)) (h : List ℕ) (l : Option (List ℕ)) → ahead h l ≡ all → IfSome l (λ bytes. bytes ≡ []) → IfSome all (λ bytes. bytes ≡ h)
ahead_end all h l e none = subst (λ (o : Option (List ℕ)). IfSome o (λ bytes. bytes ≡ h)) e (told l none)
  where
    told : (l : Option (List ℕ)) → IfSome l (λ bytes. bytes ≡ []) → IfSome (ahead h l) (λ bytes. bytes ≡ h)
    told None none = tt
    told (Some rest) none = ap (λ (xs : List ℕ). h ++ xs) none ∙ append-nil h

-- the last line, which has no newline
pub last_line : (all : Option (List ℕ)) (h : List ℕ) → IfSome all (λ bytes. bytes ≡ h) → NoNewline h → 0 < length h
    → IfSome all (λ bytes. (0 < length bytes) × (h ≡ line_of bytes))
last_line None h is quiet some = tt
last_line (Some bytes) h is quiet some = (omega (arith, ap length is), sym (ap line_of is ∙ line_of-quiet h quiet))

-- nothing follows the last line
pub last_rest : (all : Option (List ℕ)) (h : List ℕ) (l : Option (List ℕ)) → ahead h l ≡ all → IfSome all (λ bytes. bytes ≡ h) → NoNewline h
    → IfSome l (λ bytes. bytes ≡ []) → ahead [] l ≡ option_map rest_of all
last_rest all h l e is quiet none = subst (λ (o : Option (List ℕ)). ahead [] l ≡ option_map rest_of o) e (told l none)
  where
    told : (l : Option (List ℕ)) → IfSome l (λ bytes. bytes ≡ []) → ahead [] l ≡ option_map rest_of (ahead h l)
    told None none = refl
    told (Some rest) none =
        ap Some (none ∙ sym (ap rest_of (ap (λ (xs : List ℕ). h ++ xs) none ∙ append-nil h) ∙ rest_of-quiet h quiet))

-- two lists that are empty together are empty
empty_right : (xs ys : List ℕ) → xs ++ ys ≡ [] → ys ≡ []
empty_right [] ys e = e
empty_right (x ∷ xs) ys e = absurd (cc)

-- a read of nothing leaves nothing
pub none_left : (l l' : Option (List ℕ)) (taken : List ℕ) → l ≡ option_map (λ rest. taken ++ rest) l' → IfSome l (λ bytes. bytes ≡ []) → IfSome l' (λ bytes. bytes ≡ [])
none_left l None taken e none = tt
none_left l (Some rest) taken e none =
    let both : taken ++ rest ≡ [] = subst (λ (o : Option (List ℕ)). IfSome o (λ bytes. bytes ≡ [])) e none in
    empty_right taken rest both

-- bytes with a newline are not without one
pub not_quiet : (xs : List ℕ) → Contains xs 10 → NoNewline xs → ⊥
not_quiet xs has quiet = All-contains (λ b. b ≢ 10) xs 10 quiet has refl

-- a line with its newline has one
pub has_newline : (line after : List ℕ) → Contains (line ++ 10 ∷ after) 10
has_newline line after = Contains-append_right line (10 ∷ after) 10 (0, omega (arith, length-append (10 ∷ []) after), refl)

-- a read of nothing leaves the bytes held
pub read_none : (h h' : List ℕ) (n : ℕ) → length h' ≡ length h + n → n ≡ 0 → take (length h) h' ≡ h → h ≡ h'
read_none h h' n long none front = sym front ∙ take_all (length h) h' (omega arith)

-- what begins with bytes that begin with others begins with these
pub begins_twice : (a b c : List ℕ) → take (length a) b ≡ a → take (length b) c ≡ b → take (length a) c ≡ a
begins_twice a b c ab bc =
    let short : length a ≤ length b = omega (arith, ap length ab, length-take (length a) b) in
    sym (take-take (length a) (length b) c short) ∙ ap (take (length a)) bc ∙ ab

-- and so does a line made of them, with its newline
pub begins_last : (a b line after : List ℕ) → line ≡ b → take (length a) b ≡ a → take (length a) (line ++ 10 ∷ after) ≡ a
begins_last a b line after is ab =
    let short : length a ≤ length b = omega (arith, ap length ab, length-take (length a) b) in
    ap (λ (xs : List ℕ). take (length a) (xs ++ 10 ∷ after)) is ∙ take-append-le (length a) b (10 ∷ after) short ∙ ab

-- what was taken from a source since it had `old` is what is held behind the first bytes
abbrev pub Takes : List ℕ → List ℕ → Option (List ℕ) → Option (List ℕ) → Type 0
Takes first held old new = old ≡ option_map (λ rest. drop (length first) held ++ rest) new

-- at the start nothing was
pub takes_no : (first : List ℕ) (l : Option (List ℕ)) → Takes first first l l
takes_no first None = refl
takes_no first (Some rest) = ap (λ xs. Some (xs ++ rest)) (sym (drop-length first))

-- the bytes held are the first ones and those that were taken
first_and_taken : (first held : List ℕ) → take (length first) held ≡ first → first ++ drop (length first) held ≡ held
first_and_taken first held front = ap (λ xs. xs ++ drop (length first) held) (sym front) ∙ take-append-drop (length first) held

two_takes : (a b : List ℕ) (l : Option (List ℕ)) → option_map (λ rest. a ++ rest) (option_map (λ rest. b ++ rest) l) ≡ option_map (λ rest. a ++ (b ++ rest)) l
two_takes a b None = refl
two_takes a b (Some rest) = refl

-- one more read
pub takes_more : (first held held' : List ℕ) (old mid new : Option (List ℕ)) → take (length first) held ≡ first → take (length held) held' ≡ held
    → Takes first held old mid → Takes held held' mid new → Takes first held' old new
takes_more first held held' old mid new front front' s t =
    let short : length first ≤ length held = omega (arith, ap length front, length-take (length first) held) in
    let more : drop (length first) held ++ drop (length held) held' ≡ drop (length first) held' =
    sym (drop-append-le (length first) held (drop (length held) held') short) ∙ ap (drop (length first)) (first_and_taken held held' front') in
    s ∙ ap (option_map (λ rest. drop (length first) held ++ rest)) t
    ∙ two_takes (drop (length first) held) (drop (length held) held') new
    ∙ regroup (drop (length first) held) (drop (length held) held') new
    ∙ (λ i. option_map (λ rest. more i ++ rest) new)
  where
    regroup : (a b : List ℕ) (l : Option (List ℕ)) → option_map (λ rest. a ++ (b ++ rest)) l ≡ option_map (λ rest. (a ++ b) ++ rest) l
    regroup a b None = refl
    regroup a b (Some rest) = ap Some (sym (append_assoc a b rest))

-- a read that gave bytes was made without a whole line
pub short_read : (first held held' : List ℕ) (old mid new : Option (List ℕ)) (n gave : ℕ) → take (length first) held ≡ first → NoNewline held → length held ≤ 65536
    → Takes first held old mid → Takes held held' mid new → length held' ≡ length held + n → gave ≡ n → IsShort first old new gave
short_read first held held' old mid new n gave front quiet room s t more same = record {
  before = drop (length first) held;
  piece = drop (length held) held';
  taken = s ∙ ap (option_map (λ rest. drop (length first) held ++ rest)) t ∙ two_takes (drop (length first) held) (drop (length held) held') new;
  last = omega (arith, length-drop (length held) held', more, same);
  no_line = subst NoNewline (sym (first_and_taken first held front)) quiet;
  room = subst (λ xs. length xs ≤ 65536) (sym (first_and_taken first held front)) room;
}

-- and so was one that failed
pub short_fault : (first held : List ℕ) (old mid new : Option (List ℕ)) (gave : ℕ) → take (length first) held ≡ first → NoNewline held → length held ≤ 65536
    → Takes first held old mid → new ≡ mid → gave ≡ 0 → IsShort first old new gave
short_fault first held old mid new gave front quiet room s same none = record {
  before = drop (length first) held;
  piece = [];
  taken = s ∙ (λ i. option_map (λ rest. drop (length first) held ++ rest) (sym same i));
  last = sym none;
  no_line = subst NoNewline (sym (first_and_taken first held front)) quiet;
  room = subst (λ xs. length xs ≤ 65536) (sym (first_and_taken first held front)) room;
}
