-- What is left after the nodes of clocks.
use Rattle.std.specs.Prelude.{◌≡◌, ℕ, ◌+◌, ◌-◌, ◌≤◌, ◌<◌, List, [], ◌∷◌, ◌++◌, map, Option, Some, None, if◌then◌else◌}
use Rattle.std.proofs.Common.{ap, sym, ◌∙◌, arith, inl, inr}
use Rattle.std.proofs.lemmas.Bool.{le-leb}
use Rattle.std.proofs.lemmas.Bool.Decides.{leb_tells}
use Rattle.ls_terms.specs.declared.clocks.ClockTerm.{ClockTerm, fold-roll-ClockTerm}
use Rattle.ls_terms.specs.declared.clocks.ClockTerm.TheOpen.{ClockTerm-F}
use Rattle.ls_terms.specs.declared.clocks.ClockTerm.TheVariants as clock
use Rattle.ls_terms.specs.Clocks.{kids_at, size, size_is, sum}
use Rattle.clock_conditions.specs.Every.{left_after}

abbrev then_left : Option ℕ → ℕ → Option ℕ
then_left None n = None
then_left (Some r) n = left_after r n

left_yes : (many n : ℕ) → n ≤ many → left_after many n ≡ Some (many - n)
left_yes many n h = ap (λ c. if c then Some (many - n) else None) (le-leb n many h)

left_no : (many n : ℕ) → many < n → left_after many n ≡ None
left_no many n h = elim (leb_tells n many) [
  | inl y ↦ absurd (let l = y.1 in omega (arith, h, l))
  | inr f ↦ ap (λ c. if c then Some (many - n) else None) f.0
]

left_more : (many a b : ℕ) → left_after many (a + b) ≡ then_left (left_after many a) b
left_more many a b = elim (leb_tells (a + b) many) [
  | inl y ↦
      let l = y.1 in
      let here : a ≤ many = omega (arith, l) in
      let there : b ≤ many - a = omega (arith, l) in
      let same : many - (a + b) ≡ (many - a) - b = omega arith in
      left_yes many (a + b) l ∙ ap Some same ∙ sym (ap (λ o. then_left o b) (left_yes many a here) ∙ left_yes (many - a) b there)
  | inr f ↦ elim (leb_tells a many) [
    | inl z ↦
        let l = f.1 in
        let here = z.1 in
        let there : many - a < b = omega (arith, l, here) in
        left_no many (a + b) l ∙ sym (ap (λ o. then_left o b) (left_yes many a here) ∙ left_no (many - a) b there)
    | inr g ↦ left_no many (a + b) f.1 ∙ sym (ap (λ o. then_left o b) (left_no many a g.1))
  ]
]

sum_more : (xs ys : List ℕ) → sum (xs ++ ys) ≡ sum xs + sum ys
sum_more [] ys = omega arith
sum_more (x ∷ xs) ys = let e = sum_more xs ys in omega (arith, e)

-- ---- sizes

pub none_left : (t : ClockTerm) (many : ℕ) → many < 1 → None ≡ left_after many (size t)
none_left t many h = let e = size_is t in sym (left_no many (size t) (omega (arith, h, e)))

one_left : (t : ClockTerm) (many rest n : ℕ) → rest + 1 ≡ many → size t ≡ 1 + n → left_after rest n ≡ left_after many (size t)
one_left t many rest n r e =
    let here : 1 ≤ many = omega (arith, r) in
    let same : many - 1 ≡ rest = omega (arith, r) in
    sym (ap (left_after many) e ∙ left_more many 1 n ∙ ap (λ o. then_left o n) (left_yes many 1 here) ∙ ap (λ k. left_after k n) same)

all_left : (rest : ℕ) → Some rest ≡ left_after rest 0
all_left rest = let e : rest ≡ rest - 0 = omega arith in ap Some e ∙ sym (left_yes rest 0 (omega arith))

module _ (t : ClockTerm) (many rest : ℕ) (r : rest + 1 ≡ many) where
  pub var_left : (x : ℕ) → t ≡ clock.Var x → Some rest ≡ left_after many (size t)
  var_left x is = all_left rest ∙ one_left t many rest 0 r (ap size (is ∙ sym (clock.rolls-Var x)) ∙ fold-roll-ClockTerm ℕ (λ z. 1 + sum (kids_at z)) (ClockTerm-F.Var x))

  pub pointwise_left : t ≡ clock.Pointwise → Some rest ≡ left_after many (size t)
  pointwise_left is = all_left rest ∙ one_left t many rest 0 r (ap size (is ∙ sym clock.rolls-Pointwise) ∙ fold-roll-ClockTerm ℕ (λ z. 1 + sum (kids_at z)) ClockTerm-F.Pointwise)

  pub on_left : (u u' : ClockTerm) (m k : ℕ) (o : Option ℕ) → t ≡ clock.On u m k → u' ≡ u → o ≡ left_after rest (size u') → o ≡ left_after many (size t)
  on_left u u' m k o is same e =
      let z : size u + 0 ≡ size u = omega arith in
      e ∙ ap (λ w. left_after rest (size w)) same
      ∙ one_left t many rest (size u) r (ap size (is ∙ sym (clock.rolls-On u m k)) ∙ fold-roll-ClockTerm ℕ (λ z. 1 + sum (kids_at z)) (ClockTerm-F.On u m k) ∙ ap (λ n. 1 + n) z)

  pub arrow_left : (all slice : List ClockTerm) (to to' : ClockTerm) (o p : Option ℕ) → t ≡ clock.Arrow all to → slice ≡ all → to' ≡ to
      → o ≡ left_after rest (sum (map size slice)) → p ≡ then_left o (size to') → p ≡ left_after many (size t)
  arrow_left all slice to to' o p is same same' e f =
      let z : size to + 0 ≡ size to = omega arith in
      f ∙ (λ i. then_left (e i) (size (same' i)))
      ∙ (λ i. then_left (left_after rest (sum (map size (same i)))) (size to))
      ∙ sym (left_more rest (sum (map size all)) (size to))
      ∙ one_left t many rest (sum (map size all) + size to) r
      (ap size (is ∙ sym (clock.rolls-Arrow all to)) ∙ fold-roll-ClockTerm ℕ (λ z. 1 + sum (kids_at z)) (ClockTerm-F.Arrow all to)
      ∙ ap (λ n. 1 + n) (sum_more (map size all) (size to ∷ []) ∙ ap (λ n. sum (map size all) + n) z))

-- one more of several
pub turn_left : (xs : List ClockTerm) (x : ClockTerm) (now less : ℕ) (whole : Option ℕ) → Some less ≡ left_after now (size x) → left_after now (sum (map size (x ∷ xs))) ≡ whole → left_after less (sum (map size xs)) ≡ whole
turn_left xs x now less whole e h = ap (λ o. then_left o (sum (map size xs))) e ∙ sym (left_more now (size x) (sum (map size xs))) ∙ h

pub stop_left : (xs : List ClockTerm) (x : ClockTerm) (now : ℕ) (whole : Option ℕ) → None ≡ left_after now (size x) → left_after now (sum (map size (x ∷ xs))) ≡ whole → None ≡ whole
stop_left xs x now whole e h = ap (λ o. then_left o (sum (map size xs))) e ∙ sym (left_more now (size x) (sum (map size xs))) ∙ h
