-- Setting inputs over names of slots is setting them by number, and it gives each input that is present its leaf.
use Rattle.std.specs.Prelude.{◌≡◌, refl, ℕ, zero, suc, ◌+◌, ◌<◌, ◌≤◌, Bool as Truth, true, false, List, [], ◌∷◌, Option, None, Some, length, slice_get, set, if◌then◌else◌}
use Rattle.std.specs.Option.{option_map}
use Rattle.std.proofs.Common.{ap, ◌∙◌, subst, arith}
use Rattle.std.proofs.lemmas.List.{length-set}
use Rattle.std.proofs.lemmas.Bool.{false≢true}
use Rattle.ls_value.specs.declared.leaf.Leaf.{Leaf}
use Rattle.ls_value.specs.declared.leaf.Leaf.TheVariants.{Bool}
use Rattle.line_io.specs.declared.form.Field.{Field}
use Rattle.line_io.specs.declared.form.Cell.{Cell}
use Rattle.compile_rules.specs.declared.places.Place.{Place}
use Rattle.compile_rules.specs.declared.places.Place.TheVariants.{Value as value}
use Rattle.compile_rules.specs.Scheme.{Slots, same_place, place_put}
use Rattle.compile_rules.proofs.Frames.{other_place, put_there, place_same}
use Rattle.step_code.specs.Steps.{BodyStep, input_leaf, is_emitted, with_signal, with_inputs}
use Rattle.compile_rules.specs.Assembly.{in_lines}
use Rattle.compile_rules.proofs.Numbered.{IsNumbering, Matches, set_same}
use Rattle.compile_rules.specs.Coded.{still}

is_there : {A : Type 0} → Option A → Truth
is_there None = false
is_there (Some x) = true

none_some : {A B : Type 0} {x : A} → None ≡ Some x → B
unfolding is_there
none_some e = absurd (false≢true (ap is_there e))

abbrev held_or : {A : Type 0} → A → Option A → A
held_or a None = a
held_or a (Some x) = x

module _ (fields : ℕ) where
  abbrev pub fed_signal : Option ℕ → Cell → Slots → Slots
  fed_signal None c s = s
  fed_signal (Some g) c s = place_put s (value (fields + g)) (Bool (is_emitted c))

  -- the fields from a place on are set from the cells from that place on
  abbrev pub feed_from : ℕ → List Field → List Cell → Slots → Slots
  feed_from k [] cells s = s
  feed_from k (f ∷ fs) [] s = s
  feed_from k (f ∷ fs) (c ∷ cs) s = feed_from (k + 1) fs cs (fed_signal f.signal c (place_put s (value k) (input_leaf c)))

  -- ---- by number

  module _ (bodies : List BodyStep) (number_of : Place → ℕ) (IsUsed : Place → Type 0) (size : ℕ) (is : IsNumbering bodies number_of IsUsed size) where
    abbrev pub UsedFields : ℕ → List Field → Type 0
    UsedFields k [] = Unit {0}
    UsedFields k (f ∷ fs) = IsUsed (value k) × UsedSignal f.signal × UsedFields (k + 1) fs
      where
        UsedSignal : Option ℕ → Type 0
        UsedSignal None = Unit {0}
        UsedSignal (Some g) = IsUsed (value (fields + g))

    puts : (s : Slots) (slots : List Leaf) (d : Place) (leaf : Leaf) → Matches bodies number_of IsUsed size s (still slots) → IsUsed d
        → Matches bodies number_of IsUsed size (place_put s d leaf) (still (set slots (number_of d) leaf))
    puts s slots d leaf m u = record {
      all = length-set slots (number_of d) leaf ∙ m.all;
      same = λ p up. set_same bodies number_of IsUsed size is s (still slots) d leaf m u p up;
    }

    pub sets : (k : ℕ) (fs : List Field) (cs : List Cell) (s : Slots) (slots : List Leaf) → UsedFields k fs → Matches bodies number_of IsUsed size s (still slots)
        → Matches bodies number_of IsUsed size (feed_from k fs cs s) (still (with_inputs (in_lines number_of fields k fs) cs slots))
    sets k [] cs s slots u m = m
    sets k (f ∷ fs) [] s slots u m = m
    sets k (f ∷ fs) (c ∷ cs) s slots u m =
        sets (k + 1) fs cs (fed_signal f.signal c (place_put s (value k) (input_leaf c))) (with_signal (option_map (λ g. number_of (value (fields + g))) f.signal) c (set slots (number_of (value k)) (input_leaf c))) u.2
        (by_signal f.signal u.1)
      where
        UsedIt : Option ℕ → Type 0
        UsedIt None = Unit {0}
        UsedIt (Some g) = IsUsed (value (fields + g))

        one : Matches bodies number_of IsUsed size (place_put s (value k) (input_leaf c)) (still (set slots (number_of (value k)) (input_leaf c)))
        one = puts s slots (value k) (input_leaf c) m u.0

        by_signal : (g : Option ℕ) → UsedIt g → Matches bodies number_of IsUsed size (fed_signal g c (place_put s (value k) (input_leaf c)))
            (still (with_signal (option_map (λ x. number_of (value (fields + x))) g) c (set slots (number_of (value k)) (input_leaf c))))
        by_signal None h = one
        by_signal (Some g) h = puts (place_put s (value k) (input_leaf c)) (set slots (number_of (value k)) (input_leaf c)) (value (fields + g)) (Bool (is_emitted c)) one h

  -- ---- what it sets

  signal_else : (g : Option ℕ) (c : Cell) (s : Slots) (p : Place) → ((x : ℕ) → same_place (value (fields + x)) p ≡ false) → fed_signal g c s p ≡ s p
  signal_else None c s p h = refl
  signal_else (Some x) c s p h = ap (λ t. if t then Bool (is_emitted c) else s p) (h x)

  pub feed_else : (k : ℕ) (fs : List Field) (cs : List Cell) (s : Slots) (p : Place) → ((x : ℕ) → same_place (value x) p ≡ false) → feed_from k fs cs s p ≡ s p
  feed_else k [] cs s p h = refl
  feed_else k (f ∷ fs) [] s p h = refl
  feed_else k (f ∷ fs) (c ∷ cs) s p h =
      feed_else (k + 1) fs cs (fed_signal f.signal c (place_put s (value k) (input_leaf c))) p h
      ∙ signal_else f.signal c (place_put s (value k) (input_leaf c)) p (λ x. h (fields + x)) ∙ ap (λ t. if t then input_leaf c else s p) (h k)

  signal_other : (v : ℕ) → v < fields → (x : ℕ) → same_place (value (fields + x)) (value v) ≡ false
  signal_other v below x = other_place (value (fields + x)) (value v) (λ e. absurd (omega (arith, e, below)))

  field_other : (k v : ℕ) → v < k → same_place (value k) (value v) ≡ false
  field_other k v below = other_place (value k) (value v) (λ e. absurd (omega (arith, e, below)))

  -- a field that was set stays
  early : (k : ℕ) (fs : List Field) (cs : List Cell) (s : Slots) (v : ℕ) → v < fields → v < k → feed_from k fs cs s (value v) ≡ s (value v)
  early k [] cs s v below past = refl
  early k (f ∷ fs) [] s v below past = refl
  early k (f ∷ fs) (c ∷ cs) s v below past =
      early (k + 1) fs cs (fed_signal f.signal c (place_put s (value k) (input_leaf c))) v below (omega (arith, past))
      ∙ signal_else f.signal c (place_put s (value k) (input_leaf c)) (value v) (signal_other v below)
      ∙ ap (λ t. if t then input_leaf c else s (value v)) (field_other k v past)

  -- each field's slot has what its cell holds
  pub field_set : (j k : ℕ) (fs : List Field) (cs : List Cell) (f : Field) (c : Cell) (s : Slots) (v : ℕ) → v ≡ k + j → v < fields → slice_get fs j ≡ Some f → slice_get cs j ≡ Some c
      → feed_from k fs cs s (value v) ≡ input_leaf c
  field_set zero k [] cs f c s v is below hf hc = none_some hf
  field_set (suc j) k [] cs f c s v is below hf hc = none_some hf
  field_set zero k (g ∷ fs) [] f c s v is below hf hc = none_some hc
  field_set (suc j) k (g ∷ fs) [] f c s v is below hf hc = none_some hc
  field_set zero k (g ∷ fs) (d ∷ cs) f c s v is below hf hc =
      early (k + 1) fs cs (fed_signal g.signal d (place_put s (value k) (input_leaf d))) v below (omega (arith, is))
      ∙ signal_else g.signal d (place_put s (value k) (input_leaf d)) (value v) (signal_other v below)
      ∙ subst (λ u. place_put s (value k) (input_leaf d) (value u) ≡ input_leaf d) (let e : k ≡ v = omega (arith, is) in e) (put_there s (value k) (input_leaf d))
      ∙ ap input_leaf (some_same d c hc)
    where
      some_same : (a b : Cell) → Some a ≡ Some b → a ≡ b
      some_same a b e = ap (λ o. held_or a o) e
  field_set (suc j) k (g ∷ fs) (d ∷ cs) f c s v is below hf hc =
      field_set j (k + 1) fs cs f c (fed_signal g.signal d (place_put s (value k) (input_leaf d))) v (omega (arith, is)) below hf hc

  -- a signal's slot says whether it is emitted, where its fields agree
  abbrev pub SignalIs : ℕ → Truth → List Field → List Cell → Type 0
  SignalIs g b [] cs = Unit {0}
  SignalIs g b (f ∷ fs) [] = Unit {0}
  SignalIs g b (f ∷ fs) (c ∷ cs) = ((f.signal ≡ Some g) → is_emitted c ≡ b) × SignalIs g b fs cs

  pub signal_stays : (g : ℕ) (b : Truth) (k : ℕ) (fs : List Field) (cs : List Cell) (s : Slots) → k + length fs ≤ fields → SignalIs g b fs cs → s (value (fields + g)) ≡ Bool b → feed_from k fs cs s (value (fields + g)) ≡ Bool b
  signal_stays g b k [] cs s few h e = e
  signal_stays g b k (f ∷ fs) [] s few h e = e
  signal_stays g b k (f ∷ fs) (c ∷ cs) s few h e =
      signal_stays g b (k + 1) fs cs (fed_signal f.signal c (place_put s (value k) (input_leaf c))) (omega (arith, few)) h.1 (by_signal f.signal h.0)
    where
      put_field : place_put s (value k) (input_leaf c) (value (fields + g)) ≡ Bool b
      put_field = ap (λ t. if t then input_leaf c else s (value (fields + g))) (other_place (value k) (value (fields + g)) (λ same. absurd (omega (arith, same, few)))) ∙ e

      by_place : (x : ℕ) (t : Truth) → same_place (value (fields + x)) (value (fields + g)) ≡ t → (x ≡ g → is_emitted c ≡ b)
          → (if t then Bool (is_emitted c) else place_put s (value k) (input_leaf c) (value (fields + g))) ≡ Bool b
      by_place x true t h' = ap Bool (h' (let e' : fields + x ≡ fields + g = ap number (place_same (value (fields + x)) (value (fields + g)) t) in omega (arith, e')))
        where
          number : Place → ℕ
          number (value n) = n
          number _ = 0
      by_place x false t h' = put_field

      by_signal : (o : Option ℕ) → (o ≡ Some g → is_emitted c ≡ b) → fed_signal o c (place_put s (value k) (input_leaf c)) (value (fields + g)) ≡ Bool b
      by_signal None h' = put_field
      by_signal (Some x) h' = by_place x (same_place (value (fields + x)) (value (fields + g))) refl (λ same. h' (ap Some same))
