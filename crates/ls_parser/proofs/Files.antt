-- One turn of the loop over the definitions of a file.
use Rattle.std.proofs.Common.{◌≡◌, ℕ, suc, ◌+◌, ◌-◌, ◌<◌, ◌≤◌, List, [], ◌∷◌, ◌++◌, Option, Some, None, Result, Ok, Err, map, drop, length, refl, sym, ◌∙◌, ap, arith, length-drop, unwrap_or, min}
use Rattle.std.specs.Prelude.{option_map}
use Rattle.ls_ast.specs.declared.tree.DefOf.{DefOf}
use Rattle.ls_ast.specs.declared.tree.Plain.{Plain}
use Rattle.ls_base.specs.declared.Line.{Line}
use Rattle.ls_lexer.specs.declared.token.Token.{Token}
use Rattle.ls_parser.specs.Definitions.{file_from, followed, first_line, Finds, IsRead}
use Rattle.ls_parser.specs.declared.definitions.SyntaxFault.{SyntaxFault}
use Rattle.ls_parser.specs.declared.definitions.SyntaxFault.TheVariants as fault
use Rattle.ls_parser.specs.Reading.{rest}
use Rattle.std.proofs.lemmas.List.{length-map}
use Rattle.std.proofs.lemmas.List.{drop_min}

pub left_turns : (limit turn : ℕ) → turn < limit → limit - turn ≡ suc (limit - (turn + 1))
left_turns limit turn h = omega arith

length_words : (ts : List (Line × Token)) → length (map {A = Line × Token} {B = Token} (λ p. p.1) ts) ≡ length ts
length_words ts = length-map ts (λ p. p.1)

taken_twice : (all next : ℕ) → all - (all - next) ≡ min next all
taken_twice all next = omega arith

-- the place behind what was read, by how much is left
pub same_place : (all : List (Line × Token)) (next : ℕ) → drop (length all - length (rest all next)) all ≡ drop next all
unfolding rest
same_place all next =
    ap (λ k. drop (length all - k) all) (length_words (drop next all) ∙ length-drop next all)
    ∙ ap (λ k. drop k all) (taken_twice (length all) next)
    ∙ drop_min next all

words_at : (all : List (Line × Token)) (at : ℕ) (t : Line × Token) (ts : List (Line × Token)) → drop at all ≡ t ∷ ts → rest all at ≡ map (λ p. p.1) (t ∷ ts)
unfolding rest
words_at all at t ts e = ap (map (λ p. p.1)) e

-- one turn, where a line stands at the place
turn_at : (all : List (Line × Token)) (limit turn at next : ℕ) (done new : List (DefOf Plain)) (line : Line) (d : DefOf Plain) (ts : List (Line × Token)) (found : Result (List (DefOf Plain)) Line)
    → turn < limit → drop at all ≡ ts → first_line ts ≡ Some line → followed (length all) line (rest all at) ≡ Some (d, rest all next) → new ≡ done ++ d ∷ []
    → file_from all (limit - turn) done (drop at all) ≡ found → file_from all (limit - (turn + 1)) new (drop next all) ≡ found
turn_at all limit turn at next done new line d [] found below is there read pushed before = absurd (cc)
turn_at all limit turn at next done new line d (t ∷ ts) found below is there read pushed before =
    let same : t.0 ≡ line = cc in
    (λ i. file_from all (limit - (turn + 1)) (pushed i) (sym (same_place all next) i))
    ∙ sym (ap (λ z. unwrap_or (option_map (λ z. file_from all (limit - (turn + 1)) (done ++ z.0 ∷ []) (drop (length all - length z.1) all)) z) (Err t.0))
    ((λ i. followed (length all) (same i) (sym (words_at all at t ts is) i)) ∙ read))
    ∙ sym ((λ i. file_from all (left_turns limit turn below i) done (is i)))
    ∙ before

pub file_turn : (all : List (Line × Token)) (limit turn at next : ℕ) (done new : List (DefOf Plain)) (line : Line) (d : DefOf Plain) (found : Result (List (DefOf Plain)) Line)
    → turn < limit → first_line (drop at all) ≡ Some line → followed (length all) line (rest all at) ≡ Some (d, rest all next) → new ≡ done ++ d ∷ []
    → file_from all (limit - turn) done (drop at all) ≡ found → file_from all (limit - (turn + 1)) new (drop next all) ≡ found
file_turn all limit turn at next done new line d found below there read pushed before =
    turn_at all limit turn at next done new line d (drop at all) found below refl there read pushed before

-- the end, where no token stands at the place
end_at : (all : List (Line × Token)) (limit turn : ℕ) (done : List (DefOf Plain)) (ts : List (Line × Token)) → turn < limit → first_line ts ≡ None → file_from all (limit - turn) done ts ≡ Ok done
end_at all limit turn done [] below none = ap (λ k. file_from all k done []) (left_turns limit turn below)
end_at all limit turn done (t ∷ ts) below none = absurd (cc)

pub file_end : (all : List (Line × Token)) (limit turn at : ℕ) (done : List (DefOf Plain)) → turn < limit → first_line (drop at all) ≡ None → file_from all (limit - turn) done (drop at all) ≡ Ok done
file_end all limit turn at done below none = end_at all limit turn done (drop at all) below none

pub file_over : (all : List (Line × Token)) (limit turn at : ℕ) (done : List (DefOf Plain)) → limit ≤ turn → file_from all (limit - turn) done (drop at all) ≡ Ok done
file_over all limit turn at done over = ap (λ k. file_from all k done (drop at all)) (let e : limit - turn ≡ 0 = omega arith in e)

fails_at : (all : List (Line × Token)) (limit turn at : ℕ) (done : List (DefOf Plain)) (line : Line) (ts : List (Line × Token))
    → turn < limit → drop at all ≡ ts → first_line ts ≡ Some line → followed (length all) line (rest all at) ≡ None → file_from all (limit - turn) done ts ≡ Err line
fails_at all limit turn at done line [] below is there read = absurd (cc)
fails_at all limit turn at done line (t ∷ ts) below is there read =
    let same : t.0 ≡ line = cc in
    ap (λ k. file_from all k done (t ∷ ts)) (left_turns limit turn below)
    ∙ ap (λ z. unwrap_or (option_map (λ z. file_from all (limit - (turn + 1)) (done ++ z.0 ∷ []) (drop (length all - length z.1) all)) z) (Err t.0))
    ((λ i. followed (length all) (same i) (sym (words_at all at t ts is) i)) ∙ read)
    ∙ ap Err same

pub file_fails : (all : List (Line × Token)) (limit turn at : ℕ) (done : List (DefOf Plain)) (line : Line)
    → turn < limit → first_line (drop at all) ≡ Some line → followed (length all) line (rest all at) ≡ None → file_from all (limit - turn) done (drop at all) ≡ Err line
file_fails all limit turn at done line below there read = fails_at all limit turn at done line (drop at all) below refl there read

-- what stopped the reading of a definition stops that of the file
pub file_stops : (view : DefOf Plain × ℕ → DefOf Plain × List Token) (line : Line) (e : SyntaxFault) (read : Option (DefOf Plain × List Token)) (found : Result (List (DefOf Plain)) Line)
    → Finds view line (Err e) read → (read ≡ None → found ≡ Err line) → IsRead {X = List (DefOf Plain)} (Err e) found
file_stops view line (fault.Syntax l) read found stop then = then stop.1 ∙ ap Err (sym stop.0)
file_stops view line fault.NoMemory read found stop then = tt
