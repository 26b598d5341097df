-- The network at one more instant: what it adds, it adds to what the delay remembers.
use Rattle.std.proofs.Common.{◌≡◌, ℕ, zero, suc, ◌-◌, ◌*◌, ◌<◌, List, [], ◌∷◌, ◌++◌, Option, Some, None, false, length, refl, sym, ◌∙◌, arith, length-append}
use Rattle.std.specs.Prelude.{ℤ, option_and_then, ◌==◌, if◌then◌else◌}
use Rattle.std.specs.Option.{option_map}
use Rattle.std.proofs.lemmas.Bool.Decides.{nat_tests}
use Rattle.std.specs.Int.{int_wrapping_add, w64}
use Rattle.sum_model.specs.declared.running_sum.RunningSum.{RunningSum}
use Rattle.sum_model.specs.declared.running_sum.Stream.{Stream}
use Rattle.sum_model.specs.declared.running_sum.Stream.TheVariants as streams
use Rattle.sum_model.specs.RunningSum.{Row, given, after, table, network, fby, delayed, row_of, value_of, Remembers}

abbrev sum_of : Option ℤ → Option ℤ → Option ℤ
sum_of a b = option_and_then (λ x. option_map (λ y. int_wrapping_add w64 x y) b) a

-- the inputs so far are the front of the inputs later
given-front : (xs ys : List ℤ) (i : ℕ) → i < length xs → given (xs ++ ys) i ≡ given xs i
given-front [] ys i below = grind arith
given-front (x ∷ xs) ys zero below = refl
given-front (x ∷ xs) ys (suc i) below = given-front xs ys i (omega arith)

given-last : (xs : List ℤ) (x : ℤ) → given (xs ++ x ∷ []) (length xs) ≡ Some x
given-last [] x = refl
given-last (y ∷ xs) x = given-last xs x

row_of-agree : (s : Stream) (p q a b : Row) (i : ℕ) → p i ≡ q i → a i ≡ b i → row_of s p a i ≡ row_of s q b i
row_of-agree streams.Param p q a b i here there = here
row_of-agree streams.Sum p q a b i here there = there

before_suc : (i : ℕ) → suc i - 1 ≡ i
before_suc i = omega arith

not_first : (i : ℕ) → (suc i == 0) ≡ false
not_first i = grind (arith, nat_tests)

fby-suc : (first : ℤ) (y : Row) (i : ℕ) → fby first y (suc i) ≡ y i
fby-suc first y i = (λ k. delayed first y (if not_first i k then None else Some (suc i - 1))) ∙ (λ k. y (before_suc i k))

-- the delay looks at one instant alone
fby-agree : (first : ℤ) (y z : Row) (i : ℕ) → ((j : ℕ) → j < i → y j ≡ z j) → fby first y i ≡ fby first z i
fby-agree first y z zero each = refl
fby-agree first y z (suc i) each = fby-suc first y i ∙ each i (omega arith) ∙ sym (fby-suc first z i)

-- more inputs do not change the cells before them
after-front : (turns : ℕ) (body : RunningSum) (xs ys : List ℤ) (i : ℕ) → i < length xs → after turns body (xs ++ ys) i ≡ after turns body xs i
after-front zero body xs ys i below = refl
after-front (suc turns) body xs ys i below = λ k. sum_of (given-front xs ys i below k)
    (fby-agree body.first (row_of body.delayed (given (xs ++ ys)) (after turns body (xs ++ ys))) (row_of body.delayed (given xs) (after turns body xs)) i
    (λ j h. row_of-agree body.delayed (given (xs ++ ys)) (given xs) (after turns body (xs ++ ys)) (after turns body xs) j
    (given-front xs ys j (omega arith)) (after-front turns body xs ys j (omega arith))) k)

one_more : (xs : List ℤ) (x : ℤ) → 1 * length (xs ++ x ∷ []) ≡ suc (1 * length xs)
one_more xs x = omega (arith, length-append xs (x ∷ []))

-- the sum at one more instant
table-next : (body : RunningSum) (xs : List ℤ) (x memory : ℤ) → Remembers body xs memory
    → table body (xs ++ x ∷ []) (length xs) ≡ Some (int_wrapping_add w64 x memory)
table-next body xs x memory remembered =
    (λ k. after (one_more xs x k) body (xs ++ x ∷ []) (length xs))
    ∙ (λ k. sum_of (given-last xs x k)
    (fby-agree body.first (row_of body.delayed (given (xs ++ x ∷ [])) (after (1 * length xs) body (xs ++ x ∷ []))) (row_of body.delayed (given xs) (table body xs)) (length xs)
    (λ j h. row_of-agree body.delayed (given (xs ++ x ∷ [])) (given xs) (after (1 * length xs) body (xs ++ x ∷ [])) (table body xs) j
    (given-front xs (x ∷ []) j h) (after-front (1 * length xs) body xs (x ∷ []) j h)) k))
    ∙ (λ k. sum_of (Some x) (remembered k))

either-next : (s : Stream) (body : RunningSum) (xs : List ℤ) (x memory : ℤ) → Remembers body xs memory
    → row_of s (given (xs ++ x ∷ [])) (table body (xs ++ x ∷ [])) (length xs) ≡ Some (value_of s x (int_wrapping_add w64 x memory))
either-next streams.Param body xs x memory remembered = given-last xs x
either-next streams.Sum body xs x memory remembered = table-next body xs x memory remembered

-- the result at one more instant
pub network-next : (body : RunningSum) (xs : List ℤ) (x memory : ℤ) → Remembers body xs memory
    → network body (xs ++ x ∷ []) (length xs) ≡ Some (value_of body.result x (int_wrapping_add w64 x memory))
network-next body xs x memory remembered = either-next body.result body xs x memory remembered

later : (first : ℤ) (y : Row) (n m : ℕ) → m ≡ suc n → fby first y m ≡ y n
later first y n m is = (λ k. fby first y (is k)) ∙ fby-suc first y n

-- what the delay remembers then
pub remembers-next : (body : RunningSum) (xs : List ℤ) (x memory : ℤ) → Remembers body xs memory
    → Remembers body (xs ++ x ∷ []) (value_of body.delayed x (int_wrapping_add w64 x memory))
remembers-next body xs x memory remembered =
    later body.first (row_of body.delayed (given (xs ++ x ∷ [])) (table body (xs ++ x ∷ []))) (length xs) (length (xs ++ x ∷ [])) (omega (arith, length-append xs (x ∷ [])))
    ∙ either-next body.delayed body xs x memory remembered
