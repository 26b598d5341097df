-- The signature of a body's bits, by what flows where.
use Rattle.std.specs.Prelude.{◌≡◌, refl, ℕ, ◌==◌, Bool, true, false, List, ◌⊎◌}
use Rattle.std.proofs.Common.{sym, ◌∙◌, subst, arith, inl, inr}
use Rattle.init_rules.specs.Slots.{of_param, Bits, Source, always, from, source_bit, some, System, Solves, Obeys, FlowsInto}
use Rattle.init_rules.specs.Signatures.{none, alone, Initialised, May, Own, Reaches, FlowsWrong, FlowsOut, Finite, InitialisedIs, MayIs, OwnIs, ReachesIs, LeastThere, LeastDecides, LeastResult, SeveralParameters}
use Rattle.init_rules.proofs.Least.{some_in, some_from, some_at_most, flows_up, Begins, by_itself, by_param, source_reached, settles, rounds, least_solves, below, reached}

one_not : true ≡ false → ⊥
one_not e = absurd (cc)

not_one : false ≡ true → ⊥
not_one e = absurd (cc)

pub least_there : LeastThere
least_there S fin p = (rounds S p (settles S p fin).0, (least_solves S p fin, λ A s x e. below S p A s (settles S p fin).0 x e))

by_zeros : (c : Bool) → (c ≡ true → ⊥) → c ≡ false
by_zeros true f = absurd (f refl)
by_zeros false f = refl

pub least_decides : LeastDecides
least_decides S p L l = (
  λ o. record {
    solves = l.0;
    zeros = by_zeros (some L S.zeros) (λ e. one_not (sym (some_at_most L o.0 (l.1 o.0 o.1.solves) S.zeros e) ∙ o.1.zeros));
  },
  λ o. (L, o),
)

pub least_result : LeastResult
least_result S p L l A o e = some_at_most L A (l.1 A o.solves) S.result e

module _ (S : System) where
  -- what has a bit 1 in a least assignment is reached
  least_reached : (fin : Finite S) (p : ℕ → Bool) (ys : List Source) → some (least_there S fin p).0 ys ≡ true → (x : Source) × Begins p x × FlowsInto S x ys
  unfolding least_there
  least_reached fin p ys e =
      let r = some_from (least_there S fin p).0 ys e in
      let y = source_reached S p (least_there S fin p).0 (λ s q. reached S p (settles S p fin).0 s q) r.0 r.2 in
      (y.0, y.1, (r.0, r.1, y.2))

  begins_one : (p : ℕ → Bool) (A : Bits) → Solves S p A → (x : Source) → Begins p x → source_bit A x ≡ true
  begins_one p A s _ by_itself = refl
  begins_one p A s _ (by_param k e) = s.params k ∙ e

  flows_one : (p : ℕ → Bool) (A : Bits) → Solves S p A → (x : Source) → Begins p x → (ys : List Source) → FlowsInto S x ys → some A ys ≡ true
  flows_one p A s x b ys f = some_in A f.0 ys f.1 (flows_up S p A s x f.0 f.2 (begins_one p A s x b))

  no_zeros : (p : ℕ → Bool) (A : Bits) → Obeys S p A → (x : Source) → Begins p x → FlowsWrong S x → ⊥
  no_zeros p A o x b f = one_not (sym (flows_one p A o.solves x b S.zeros f) ∙ o.zeros)

  there_is : (fin : Finite S) (p : ℕ → Bool) → ((x : Source) → Begins p x → FlowsWrong S x → ⊥) → Obeys S p (least_there S fin p).0
  there_is fin p f = record {
    solves = (least_there S fin p).1.0;
    zeros = by_zeros (some (least_there S fin p).0 S.zeros) (λ e. let r = least_reached fin p S.zeros e in f r.0 r.1 r.2);
  }

  none_begins : (P : Source → Type 0) → P always → (x : Source) → Begins none x → P x
  none_begins P a _ by_itself = a
  none_begins P a _ (by_param k e) = absurd (not_one e)

  alone_begins : (P : Source → Type 0) (i : ℕ) → P always → P (from (of_param i)) → (x : Source) → Begins (alone i) x → P x
  alone_begins P i a c _ by_itself = a
  alone_begins P i a c _ (by_param k e) = subst (λ n. P (from (of_param n))) (same_number i k e) c
    where
      same_number : (i k : ℕ) → (i == k) ≡ true → i ≡ k
      same_number i k e = grind (arith, e)

  alone_one : (i : ℕ) → alone i i ≡ true
  alone_one i = grind arith

pub initialised_is : InitialisedIs
initialised_is S fin = (
  λ o f. no_zeros S none o.0 o.1 always by_itself f,
  λ f. ((least_there S fin none).0, there_is S fin none (λ x b. none_begins S (λ y. FlowsWrong S y → ⊥) f x b)),
)

pub may_is : MayIs
may_is S fin i = (
  λ o. (no_zeros S (alone i) o.0 o.1 always by_itself, no_zeros S (alone i) o.0 o.1 (from (of_param i)) (by_param i (alone_one S i))),
  λ f. ((least_there S fin (alone i)).0, there_is S fin (alone i) (λ x b. alone_begins S (λ y. FlowsWrong S y → ⊥) i f.0 f.1 x b)),
)

pub own_is : OwnIs
own_is S fin o = (
  λ f. let L = least_there S fin none in
      let r = least_reached S fin none S.result (f L.0 ((least_decides S none L.0 L.1).0 o)) in
      none_begins S (λ y. FlowsOut S y → FlowsOut S always) (λ g. g) r.0 r.1 r.2,
  λ f A q. flows_one S none A q.solves always by_itself S.result f,
)

pub reaches_is : ReachesIs
reaches_is S fin i = (
  λ f. let L = least_there S fin (alone i) in
      let r = least_reached S fin (alone i) S.result (f.1 L.0 ((least_decides S (alone i) L.0 L.1).0 f.0)) in
      (f.0, alone_begins S (λ y. FlowsOut S y → (FlowsOut S always ⊎ FlowsOut S (from (of_param i)))) i (λ g. inl g) (λ g. inr g) r.0 r.1 r.2),
  λ f. (
    f.0,
    λ A q. elim f.1 [
      | inl g ↦ flows_one S (alone i) A q.solves always by_itself S.result g
      | inr g ↦ flows_one S (alone i) A q.solves (from (of_param i)) (by_param i (alone_one S i)) S.result g
    ],
  ),
)

module _ (S : System) (fin : Finite S) (o : Initialised S) (p : ℕ → Bool) (m : (k : ℕ) → p k ≡ true → May S k) where
  free : (x : Source) → Begins p x → FlowsWrong S x → ⊥
  free _ by_itself f = (initialised_is S fin).0 o f
  free _ (by_param k e) f = ((may_is S fin k).0 (m k e)).1 f

  from_begin : (x : Source) → Begins p x → FlowsOut S x → Own S ⊎ ((k : ℕ) × (p k ≡ true) × Reaches S k)
  from_begin _ by_itself f = inl ((own_is S fin o).1 f)
  from_begin _ (by_param k e) f = inr (k, e, (reaches_is S fin k).1 (m k e, inr f))

  pub all_together : (A : Bits) × Obeys S p A × (some A S.result ≡ true → Own S ⊎ ((k : ℕ) × (p k ≡ true) × Reaches S k))
  all_together = ((least_there S fin p).0, there_is S fin p free, λ e. let r = least_reached S fin p S.result e in from_begin r.0 r.1 r.2)

pub several_parameters : SeveralParameters
several_parameters S fin o p m = all_together S fin o p m
