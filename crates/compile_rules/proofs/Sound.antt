-- Acts whose places have slots of the right shapes are sound one by one; and numbers by place in a list of names.
use Rattle.std.specs.Prelude.{◌≡◌, refl, ℕ, suc, ◌<◌, ◌==◌, ◌&&◌, ◌||◌, nat_lt, Bool as Truth, true, false, List, [], ◌∷◌, Some, length, slice_get, if◌then◌else◌, ◌⊎◌}
use Rattle.std.specs.Option.{option_map_or}
use Rattle.std.proofs.Common.{ap, ap₂, sym, ◌∙◌, arith, inl, inr}
use Rattle.std.proofs.lemmas.Bool.{false≢true}
use Rattle.std.proofs.lemmas.Bool.Decides.{nat_tests}
use Rattle.std.proofs.lemmas.Option.{slice_get_within}
use Rattle.ls_value.specs.declared.leaf.Shape.{Shape}
use Rattle.ls_value.specs.declared.leaf.Shape.TheVariants as shape
use Rattle.ls_ops.specs.Signature.{signature_of}
use Rattle.step_code.specs.declared.parts.Slot.{Slot}
use Rattle.step_code.specs.declared.parts.Instr.{Instr}
use Rattle.compile_rules.specs.declared.places.Place.{Place}
use Rattle.compile_rules.specs.declared.places.Act.{Act}
use Rattle.compile_rules.specs.declared.places.Act.TheVariants.{Put as put, Copy as copy, Operate as operate, Test as test}
use Rattle.compile_rules.specs.Scheme.{Guarded, same_place, dest}
use Rattle.compile_rules.proofs.Frames.{place_same, place_refl}
use Rattle.step_code.specs.Shapes.{same_shape, shape_at, fits, is_known_leaf, operands_fit}
use Rattle.step_code.specs.Valid.{Around, is_ready, may_write}
use Rattle.compile_rules.specs.Numbering.{IsAmong}
use Rattle.compile_rules.specs.Blocks.{single, region, Blocks, none, next, add, joined, joined_to, may_join}
use Rattle.compile_rules.proofs.Faultless.{IsSound, IsSoundGuard, SoundBlocks}

-- ---- numbers: the place of a name in a list

abbrev pub place_number : List Place → Place → ℕ
place_number [] p = 0
place_number (q ∷ names) p = if same_place q p then 0 else suc (place_number names p)

pub number_within : (names : List Place) (p : Place) → IsAmong names p → place_number names p < length names
number_within [] p h = absurd h
number_within (q ∷ names) p h = by_same (same_place q p) refl h (λ m. number_within names p m)
  where
    by_same : (t : Truth) → same_place q p ≡ t → (q ≡ p) ⊎ IsAmong names p → (IsAmong names p → place_number names p < length names) → (if t then 0 else suc (place_number names p)) < suc (length names)
    by_same true e m f = omega arith
    by_same false e (inl same) f = absurd (false≢true (sym e ∙ ap (λ x. same_place q x) (sym same) ∙ place_refl q))
    by_same false e (inr m) f = let x : place_number names p < length names = f m in omega (arith, x)

suc_same : (m n : ℕ) → suc m ≡ suc n → m ≡ n
suc_same m n e = omega (arith, e)

pub number_apart : (names : List Place) (p q : Place) → IsAmong names p → IsAmong names q → place_number names p ≡ place_number names q → p ≡ q
number_apart [] p q h k e = absurd h
number_apart (x ∷ names) p q h k e = by_same (same_place x p) (same_place x q) refl refl h k e (λ a b f. number_apart names p q a b f)
  where
    more : (y : Place) → same_place x y ≡ false → (x ≡ y) ⊎ IsAmong names y → IsAmong names y
    more y f (inl same) = absurd (false≢true (sym f ∙ ap (λ z. same_place x z) (sym same) ∙ place_refl x))
    more y f (inr m) = m

    by_same : (s t : Truth) → same_place x p ≡ s → same_place x q ≡ t → (x ≡ p) ⊎ IsAmong names p → (x ≡ q) ⊎ IsAmong names q
        → (if s then 0 else suc (place_number names p)) ≡ (if t then 0 else suc (place_number names q)) → (IsAmong names p → IsAmong names q → place_number names p ≡ place_number names q → p ≡ q) → p ≡ q
    by_same true true a b h' k' e' f = sym (place_same x p a) ∙ place_same x q b
    by_same true false a b h' k' e' f = absurd (omega (arith, e'))
    by_same false true a b h' k' e' f = absurd (omega (arith, e'))
    by_same false false a b h' k' e' f = f (more p a h') (more q b k') (suc_same (place_number names p) (place_number names q) e')

-- ---- acts one by one

module _ (Ready : Place → Type 0) (number_of : Place → ℕ) (around : Around) (at_start : (p : Place) → Ready p → (earlier : List Instr) → is_ready around earlier (number_of p) ≡ true)
    (shape_of : Place → Shape) where
  -- the place has a slot of its shape, which is none of a body's arguments
  pub record HasSlot (p : Place) : Type 0 where
    pub slot : Slot
    pub there : slice_get around.slots (number_of p) ≡ Some slot
    pub shaped : slot.shape ≡ shape_of p

  -- and acts may write it
  pub record MayWrite (p : Place) : Type 0 where
    pub may : may_write around (number_of p) ≡ true

  in_range : (p : Place) → HasSlot p → nat_lt (number_of p) (length around.slots) ≡ true
  in_range p h = let e : number_of p < length around.slots = slice_get_within around.slots (number_of p) h.slot h.there in grind (arith, nat_tests, e)

  shape_is : (p : Place) → HasSlot p → shape_at around.slots (number_of p) ≡ shape_of p
  shape_is p h = ap (λ o. option_map_or (λ (s : Slot). s.shape) o shape.Unit) h.there ∙ h.shaped

  abbrev pub HaveSlots : List Place → Type 0
  HaveSlots [] = Unit {0}
  HaveSlots (p ∷ ps) = HasSlot p × HaveSlots ps

  -- the shapes of an act fit
  abbrev pub IsShaped : Act → Type 0
  IsShaped (put d leaf) = HasSlot d × (fits leaf (shape_of d) ≡ true) × (is_known_leaf around.cases leaf ≡ true)
  IsShaped (copy d a) = HasSlot d × HasSlot a × (same_shape (shape_of d) (shape_of a) ≡ true)
  IsShaped (operate d op []) = ⊥
  IsShaped (operate d op (a ∷ [])) = HasSlot d × HasSlot a × (operands_fit (signature_of op) (shape_of d) (shape_of a ∷ []) ≡ true)
  IsShaped (operate d op (a ∷ b ∷ [])) = HasSlot d × (HasSlot a × HasSlot b) × (operands_fit (signature_of op) (shape_of d) (shape_of a ∷ shape_of b ∷ []) ≡ true)
  IsShaped (operate d op (a ∷ b ∷ c ∷ [])) = HasSlot d × (HasSlot a × HasSlot b × HasSlot c) × (operands_fit (signature_of op) (shape_of d) (shape_of a ∷ shape_of b ∷ shape_of c ∷ []) ≡ true)
  IsShaped (operate d op (a ∷ b ∷ c ∷ e ∷ rest)) = ⊥
  IsShaped (test d a leaf) = HasSlot d × HasSlot a × (same_shape (shape_of d) shape.Bool ≡ true) × (fits leaf (shape_of a) ≡ true) × (is_known_leaf around.cases leaf ≡ true)

  and2 : (a b : Truth) → a ≡ true → b ≡ true → (a && b) ≡ true
  and2 a b e f = ap₂ (λ x y. x && y) e f

  and3 : (a b c : Truth) → a ≡ true → b ≡ true → c ≡ true → (a && b && c) ≡ true
  and3 a b c e f g = ap₂ (λ x y. x && y) (ap₂ (λ x y. x && y) e f) g

  eqb_same_refl : (n : ℕ) → (n == n) ≡ true
  eqb_same_refl n = grind (arith, nat_tests)

  abbrev at : Place → Truth
  at p = nat_lt (number_of p) (length around.slots)

  and4 : (a b c d : Truth) → a ≡ true → b ≡ true → c ≡ true → d ≡ true → (a && b && c && d) ≡ true
  and4 a b c d e f g h = ap₂ (λ x y. x && y) (and3 a b c e f g) h

  pub sound_act : (act : Act) → IsShaped act → MayWrite (dest act) → IsSound Ready number_of around at_start act
  sound_act (put d leaf) h w = record {
    named = λ earlier. and3 (at d) (is_known_leaf around.cases leaf) true (in_range d h.0) h.2 refl;
    reads = λ earlier r. refl;
    free = w.may;
    shapes = ap (fits leaf) (shape_is d h.0) ∙ h.1;
    ordered = λ earlier later. refl;
    written = eqb_same_refl (number_of d);
  }
  sound_act (copy d a) h w = record {
    named = λ earlier. and3 (at d && at a) true true (and2 (at d) (at a) (in_range d h.0) (in_range a h.1)) refl refl;
    reads = λ earlier r. r.0;
    free = w.may;
    shapes = ap₂ same_shape (shape_is d h.0) (shape_is a h.1) ∙ h.2;
    ordered = λ earlier later. refl;
    written = eqb_same_refl (number_of d);
  }
  sound_act (operate d op []) h w = absurd h
  sound_act (operate d op (a ∷ [])) h w = record {
    named = λ earlier. and3 (at d && at a) true true (and2 (at d) (at a) (in_range d h.0) (in_range a h.1)) refl refl;
    reads = λ earlier r. r.0;
    free = w.may;
    shapes = ap₂ (λ r x. operands_fit (signature_of op) r (x ∷ [])) (shape_is d h.0) (shape_is a h.1) ∙ h.2;
    ordered = λ earlier later. refl;
    written = eqb_same_refl (number_of d);
  }
  sound_act (operate d op (a ∷ b ∷ [])) h w = record {
    named = λ earlier. and3 (at d && at a && at b) true true (and3 (at d) (at a) (at b) (in_range d h.0) (in_range a h.1.0) (in_range b h.1.1)) refl refl;
    reads = λ earlier r. and2 (is_ready around earlier (number_of a)) (is_ready around earlier (number_of b)) r.0 r.1.0;
    free = w.may;
    shapes = (λ i. operands_fit (signature_of op) (shape_is d h.0 i) (shape_is a h.1.0 i ∷ shape_is b h.1.1 i ∷ [])) ∙ h.2;
    ordered = λ earlier later. refl;
    written = eqb_same_refl (number_of d);
  }
  sound_act (operate d op (a ∷ b ∷ c ∷ [])) h w = record {
    named = λ earlier. and3 (at d && at a && at b && at c) true true
        (and4 (at d) (at a) (at b) (at c) (in_range d h.0) (in_range a h.1.0) (in_range b h.1.1) (in_range c h.1.2)) refl refl;
    reads = λ earlier r. and3 (is_ready around earlier (number_of a)) (is_ready around earlier (number_of b)) (is_ready around earlier (number_of c)) r.0 r.1.0 r.1.1.0;
    free = w.may;
    shapes = (λ i. operands_fit (signature_of op) (shape_is d h.0 i) (shape_is a h.1.0 i ∷ shape_is b h.1.1 i ∷ shape_is c h.1.2 i ∷ [])) ∙ h.2;
    ordered = λ earlier later. refl;
    written = eqb_same_refl (number_of d);
  }
  sound_act (operate d op (a ∷ b ∷ c ∷ e ∷ rest)) h w = absurd h
  sound_act (test d a leaf) h w = record {
    named = λ earlier. and3 (at d && at a) (is_known_leaf around.cases leaf) true (and2 (at d) (at a) (in_range d h.0) (in_range a h.1)) h.4 refl;
    reads = λ earlier r. r.0;
    free = w.may;
    shapes = and2 (same_shape (shape_at around.slots (number_of d)) shape.Bool) (fits leaf (shape_at around.slots (number_of a)))
        (ap (λ x. same_shape x shape.Bool) (shape_is d h.0) ∙ h.2) (ap (fits leaf) (shape_is a h.1) ∙ h.3);
    ordered = λ earlier later. refl;
    written = eqb_same_refl (number_of d);
  }

  pub sound_guard : (g : Place) → HasSlot g → same_shape (shape_of g) shape.Bool ≡ true → IsSoundGuard Ready number_of around at_start g
  sound_guard g h e = record {
    named = λ earlier size. and3 (at g) true true (in_range g h) refl refl;
    shapes = ap (λ x. same_shape x shape.Bool) (shape_is g h) ∙ e;
  }

  -- ---- of all acts, and so of their blocks

  abbrev pub AllGuards : List Place → Type 0
  AllGuards [] = Unit {0}
  AllGuards (g ∷ guards) = IsSoundGuard Ready number_of around at_start g × AllGuards guards

  abbrev pub AllSound : List Guarded → Type 0
  AllSound [] = Unit {0}
  AllSound (act ∷ rest) = (AllGuards act.0 × IsSound Ready number_of around at_start act.1) × AllSound rest

  sound_add : (guards : List Place) (act : Act) (blocks : Blocks) → AllGuards guards → IsSound Ready number_of around at_start act → SoundBlocks Ready number_of around at_start blocks
      → SoundBlocks Ready number_of around at_start (add guards act blocks)
  sound_add [] act blocks gs a bs = (a, bs)
  sound_add (g ∷ guards) act none gs a bs = ((gs.0, sound_add guards act none gs.1 a tt), tt)
  sound_add (g ∷ guards) act (next (single other) rest) gs a bs = ((gs.0, sound_add guards act none gs.1 a tt), bs)
  sound_add (g ∷ guards) act (next (region h inner) rest) gs a bs = by_join (may_join g h act) (sound_add guards act inner gs.1 a bs.0.1) (sound_add guards act none gs.1 a tt)
    where
      by_join : (t : Truth) → SoundBlocks Ready number_of around at_start (add guards act inner) → SoundBlocks Ready number_of around at_start (add guards act none)
          → SoundBlocks Ready number_of around at_start (joined_to t g (add guards act inner) (add guards act none) h inner rest)
      by_join true into alone = ((bs.0.0, into), bs.1)
      by_join false into alone = ((gs.0, alone), bs)

  pub sound_joined : (acts : List Guarded) → AllSound acts → SoundBlocks Ready number_of around at_start (joined acts)
  sound_joined [] h = tt
  sound_joined (act ∷ rest) h = sound_add act.0 act.1 (joined rest) h.0.0 h.0.1 (sound_joined rest h.1)
