-- Bytes that are written piece by piece.
use Rattle.std.proofs.Common.{◌≡◌, ℕ, ◌+◌, List, ◌++◌, take, drop, Option, Some, None, sym, ap, ◌∙◌, append_assoc, ◌-◌, ◌<◌, ◌≤◌, length, arith}
use Rattle.std.proofs.lemmas.Grind.{common_steps}
use Rattle.std.specs.Option.{option_map}
use Rattle.std.proofs.Math.Seq.{take-add}
use Rattle.std.proofs.lemmas.List.{take-append-drop}

-- A front of the rest is written after a front of the text.
pub piece_more : (start : Option (List ℕ)) (text rest : List ℕ) (done n : ℕ) (before after : Option (List ℕ))
    → rest ≡ drop done text → before ≡ option_map (λ t. t ++ take done text) start → after ≡ option_map (λ t. t ++ take n rest) before
    → after ≡ option_map (λ t. t ++ take (done + n) text) start
piece_more None text rest done n before after at b a = a ∙ ap (option_map (λ t. t ++ take n rest)) b
piece_more (Some t) text rest done n before after at b a =
    a ∙ ap (option_map (λ t. t ++ take n rest)) b
    ∙ ap Some (append_assoc t (take done text) (take n rest) ∙ ap (λ s. t ++ s) (ap (λ r. take done text ++ take n r) at ∙ sym (take-add done n text)))

pub rest_whole : (xs : List ℕ) (n : ℕ) → take (length xs - n) (drop n xs) ≡ drop n xs
rest_whole xs n = grind (arith, common_steps)

pub taken_within : (xs : List ℕ) (done n : ℕ) → done < length xs → n ≤ length (take (length xs - done) (drop done xs)) → done + n ≤ length xs
taken_within xs done n below within = grind (arith, common_steps)

-- What a read copies to the front, and what is left after it.
pub read_front : (bytes into copied : List ℕ) (at n : ℕ) → at + n ≤ length bytes → copied ≡ take ((at + n) - at) (drop at bytes)
    → drop at bytes ≡ take n (copied ++ drop n into) ++ drop (at + n) bytes
read_front bytes into copied at n fits copy =
    let is : copied ≡ take n (drop at bytes) = grind (arith, copy) in
    let long : length copied ≡ n = grind (arith, common_steps) in
    let front : take n (copied ++ drop n into) ≡ copied = grind (arith, common_steps) in
    let rest : drop (at + n) bytes ≡ drop n (drop at bytes) = grind (arith, common_steps) in
    sym (take-append-drop n (drop at bytes)) ∙ (λ i. sym is i ++ sym rest i) ∙ ap (λ l. l ++ drop (at + n) bytes) (sym front)
