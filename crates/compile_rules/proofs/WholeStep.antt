-- A whole step: outputs are hidden, the guards of inputs are set, the equations are done in order, and then delays keep.
use Rattle.std.specs.Prelude.{◌≡◌, refl, ℕ, Bool as Truth, true, false, List, [], ◌∷◌, if◌then◌else◌}
use Rattle.std.specs.List.{flat_map}
use Rattle.std.proofs.Common.{ap, ap₂, sym, ◌∙◌, subst, inl, inr}
use Rattle.std.proofs.lemmas.Bool.{false≢true}
use Rattle.ls_value.specs.declared.leaf.Leaf.{Leaf}
use Rattle.ls_value.specs.declared.leaf.Leaf.TheVariants.{Bool}
use Rattle.core_lang.specs.declared.equations.CoreEq.{CoreEq}
use Rattle.core_lang.specs.declared.equations.CoreRight.{CoreRight}
use Rattle.core_lang.specs.declared.equations.CoreRight.TheVariants.{Const, Copy, Op, Pre, Fby, Init, Sample, Choose}
use Rattle.step_code.specs.Leaves.{is_true}
use Rattle.core_lang.specs.Leaves.{leaf_of}
use Rattle.core_lang.specs.Equations.{Cells, is_on, restarts}
use Rattle.core_lang.proofs.Instants.{Kept, Memory, is_first, cell_now, delayed, kept_after}
use Rattle.compile_rules.specs.declared.places.Place.{Place}
use Rattle.compile_rules.specs.declared.places.Place.TheVariants.{Value as value, Memory as memory, First as first, Guard as guard, Present as present, Emitted as emitted}
use Rattle.compile_rules.specs.declared.places.Act.TheVariants.{Put as put, Copy as copy}
use Rattle.compile_rules.specs.Scheme.{same_place, Guarded, Slots, place_put, after_acts, path, Plan, remembers, equation_acts, kept, update_acts, only, keeps_leaf, leads}
use Rattle.compile_rules.proofs.Frames.{spares_append, owned_append, owner, put_there, Spares, acts_else, OwnedBy, owned_spares, after_append}
use Rattle.compile_rules.proofs.Agreeing.{Knows, knows_else, path_on, leaf_at}
use Rattle.compile_rules.proofs.OneEquation.{owned_only, spares_only}
use Rattle.compile_rules.proofs.OneStep.{Led, all_of, others, Before, After, owned_equation, equation_knows, equation_after}
use Rattle.core_lang.specs.Orders.{AllOf, Has, IsOf}
use Rattle.compile_rules.specs.Plans.{AreLed, ArePlanned, IsClock, IsFollower, IsKept, IsOperand, grown}

-- ---- frames of lists

pub at_of : (P : CoreEq → Type 0) (list : List CoreEq) (e : CoreEq) → AllOf P list → IsOf list e → P e
at_of P [] e h is = absurd is
at_of P (x ∷ rest) e h (inl same) = subst P same h.0
at_of P (x ∷ rest) e h (inr more) = at_of P rest e h.1 more

module _ (plan : Plan) (cells : Cells) (old : Memory) where
  abbrev pub IsSolved : CoreEq → Type 0
  IsSolved e = cells e.var ≡ cell_now old e cells

  -- places of what is known stay while equations are done
  rest_else : (known : List ℕ) (eqs : List CoreEq) → ArePlanned plan known eqs → AllOf IsSolved eqs → (s : Slots) (q : Place) → Has known (owner q)
      → after_acts (flat_map (equation_acts plan) eqs) s q ≡ s q
  rest_else known [] h c s q k = refl
  rest_else known (e ∷ rest) h c s q k =
      ap (λ (r : Slots). r q) (after_append (equation_acts plan e) (flat_map (equation_acts plan) rest) s)
      ∙ rest_else (e.var ∷ known) rest h.1 c.1 (after_acts (equation_acts plan e) s) q (inr k)
      ∙ acts_else (equation_acts plan e) s q (owned_spares e.var (equation_acts plan e) q (owned_equation plan cells old known e h.0 c.0)
      (λ same. h.0.is_new (subst (λ w. Has known w) same k)))

  before_else : (v : ℕ) (as' : List Guarded) → OwnedBy v as' → (s : Slots) (e : CoreEq) → ¬ (v ≡ e.var) → Before plan cells old s e → Before plan cells old (after_acts as' s) e
  before_else v as' o s e other b = record {
    is_kept = λ t. stays (memory e.var) refl ∙ b.is_kept t;
    may_be_first = λ t. stays (first e.var) refl ∙ b.may_be_first t;
    is_constant = λ l r. stays (value e.var) refl ∙ b.is_constant l r;
    is_hidden = λ t. stays (present e.var) refl ∙ b.is_hidden t;
    is_silent = λ t. stays (emitted e.var) refl ∙ b.is_silent t;
  }
    where
      stays : (q : Place) → owner q ≡ e.var → after_acts as' s q ≡ s q
      stays q is = acts_else as' s q (owned_spares v as' q o (λ same. other (sym same ∙ is)))

  pub all_before_else : (v : ℕ) (as' : List Guarded) → OwnedBy v as' → (s : Slots) (eqs : List CoreEq) → AllOf (λ e. ¬ (v ≡ e.var)) eqs → AllOf (Before plan cells old s) eqs → AllOf (Before plan cells old (after_acts as' s)) eqs
  all_before_else v as' o s [] other b = tt
  all_before_else v as' o s (e ∷ rest) other b = (before_else v as' o s e other.0 b.0, all_before_else v as' o s rest other.1 b.1)

  after_else : (s s' : Slots) (e : CoreEq) → ((q : Place) → owner q ≡ e.var → s' q ≡ s q) → After plan cells old s e → After plan cells old s' e
  after_else s s' e stays a = record {
    is_kept = λ t. stays (memory e.var) refl ∙ a.is_kept t;
    may_be_first = λ t. stays (first e.var) refl ∙ a.may_be_first t;
    is_constant = λ l r. stays (value e.var) refl ∙ a.is_constant l r;
    is_shown = λ t. stays (present e.var) refl ∙ a.is_shown t;
    is_told = λ t. ap is_true (stays (emitted e.var) refl) ∙ a.is_told t;
  }

  -- ---- the equations in order

  abbrev equations_done : List CoreEq → Slots → Slots
  equations_done eqs s = after_acts (flat_map (equation_acts plan) eqs) s

  -- the flag of an equation that is done and leads
  abbrev pub Flagged : Slots → CoreEq → Type 0
  Flagged s x = leads plan x ≡ true → s (first x.var) ≡ Bool (is_first (old x) (restarts cells x.restarts))

  -- equations of one clock and the same restarts have the same first instants
  abbrev pub AreAlike : Type 0
  AreAlike = (x e : CoreEq) → x.clock ≡ e.clock → x.restarts ≡ e.restarts → (old x).first ≡ (old e).first

  pub is_led : AreAlike → (done : List CoreEq) (s : Slots) → AllOf (Flagged s) done → (e : CoreEq) → (remembers plan e.right ≡ true → leads plan e ≡ false → IsFollower plan done e) → Led plan cells old s e
  is_led alike done s flags e follows = λ yes' no'.
      let f = follows yes' no' in
      subst (λ g. s (first g) ≡ Bool (is_first (old e) (restarts cells e.restarts))) f.var
      ((at_of (Flagged s) done f.leader flags f.is_done) f.leading
      ∙ ap₂ (λ t rs. Bool (if restarts cells rs then true else t)) (alike f.leader e f.clock f.restarts) f.restarts)

  pub flagged_else : (v : ℕ) (as' : List Guarded) → OwnedBy v as' → (s : Slots) (known : List ℕ) → ¬ Has known v → (done : List CoreEq) → AllOf (λ x. Has known x.var) done → AllOf (Flagged s) done → AllOf (Flagged (after_acts as' s)) done
  flagged_else v as' o s known new [] h f = tt
  flagged_else v as' o s known new (x ∷ rest) h f = (
    (λ t. acts_else as' s (first x.var) (owned_spares v as' (first x.var) o (λ same. new (subst (λ w. Has known w) same h.0))) ∙ f.0 t),
    flagged_else v as' o s known new rest h.1 f.1,
  )

  pub has_more : (known : List ℕ) (v : ℕ) (done : List CoreEq) → AllOf (λ x. Has known x.var) done → AllOf (λ x. Has (v ∷ known) x.var) done
  has_more known v done h = all_of (λ x. Has known x.var) (λ x. Has (v ∷ known) x.var) (λ x m. inr m) done h

  pub equations_know : AreAlike → (done : List CoreEq) (known : List ℕ) (eqs : List CoreEq) → AreLed plan done eqs → AllOf (λ x. Has known x.var) done → ArePlanned plan known eqs → AllOf IsSolved eqs
      → (s : Slots) → AllOf (Flagged s) done → Knows plan cells known s → AllOf (Before plan cells old s) eqs
      → Knows plan cells (grown known eqs) (equations_done eqs s) × AllOf (After plan cells old (equations_done eqs s)) eqs
  equations_know alike done known [] l hd h c s f k b = (k, tt)
  equations_know alike done known (e ∷ rest) l hd h c s f k b =
      let led = is_led alike done s f e l.0 in
      let s' : Slots = after_acts (equation_acts plan e) s in
      let after : After plan cells old s' e = equation_after plan cells old known e h.0 c.0 s k b.0 led in
      let more = equations_know alike (e ∷ done) (e.var ∷ known) rest l.1 (inl refl, has_more known e.var done hd) h.1 c.1 s'
      ((λ t. after.may_be_first t), flagged_else e.var (equation_acts plan e) (owned_equation plan cells old known e h.0 c.0) s known h.0.is_new done hd f)
      (equation_knows plan cells old known e h.0 c.0 s k b.0 led)
      (all_before_else e.var (equation_acts plan e) (owned_equation plan cells old known e h.0 c.0) s rest (others plan (e.var ∷ known) rest e.var h.1 (inl refl)) b.1) in
      let whole : after_acts (flat_map (equation_acts plan) (e ∷ rest)) s ≡ after_acts (flat_map (equation_acts plan) rest) s' = after_append (equation_acts plan e) (flat_map (equation_acts plan) rest) s in
      let own : After plan cells old (after_acts (flat_map (equation_acts plan) rest) s') e =
      after_else s' (after_acts (flat_map (equation_acts plan) rest) s') e
      (λ q is. rest_else (e.var ∷ known) rest h.1 c.1 s' q (inl (sym is))) after in (
        subst (λ r. Knows plan cells (grown (e.var ∷ known) rest) r) (sym whole) more.0,
        (subst (λ r. After plan cells old r e) (sym whole) own, subst (λ r. AllOf (After plan cells old r) rest) (sym whole) more.1),
      )

  -- ---- what delays keep

  pub record Next (s : Slots) (e : CoreEq) : Type 0 where
    pub is_kept : keeps_leaf plan e.right ≡ true → s (memory e.var) ≡ (kept_after old cells e).memory
    pub may_be_first : leads plan e ≡ true → s (first e.var) ≡ Bool (kept_after old cells e).first
    pub is_constant : (l : Leaf) → e.right ≡ Const l → s (value e.var) ≡ l

  owned_kept : (v : ℕ) (on : List Place) (right : CoreRight) → OwnedBy v (kept plan v on right)
  owned_kept v on (Const leaf) = tt
  owned_kept v on (Copy a) = tt
  owned_kept v on (Op op args) = tt
  owned_kept v on (Pre a) = (refl, tt)
  owned_kept v on (Fby a b) = (refl, tt)
  owned_kept v on (Init a b) = tt
  owned_kept v on (Sample a) = tt
  owned_kept v on (Choose c branches) = tt

  abbrev start_acts : CoreEq → List Guarded
  start_acts e = only (leads plan e) (path e.clock, put (first e.var) (Bool false))

  owned_update : (e : CoreEq) → OwnedBy e.var (update_acts plan e)
  owned_update e = owned_append e.var (kept plan e.var (path e.clock) e.right) (start_acts e) (owned_kept e.var (path e.clock) e.right)
      (owned_only plan cells e.var (leads plan e) (path e.clock, put (first e.var) (Bool false)) refl)

  spares_kept : (v : ℕ) (on : List Place) (right : CoreRight) (q : Place) → same_place (memory v) q ≡ false → Spares q (kept plan v on right)
  spares_kept v on (Const leaf) q a = tt
  spares_kept v on (Copy x) q a = tt
  spares_kept v on (Op op args) q a = tt
  spares_kept v on (Pre x) q a = (a, tt)
  spares_kept v on (Fby x y) q a = (a, tt)
  spares_kept v on (Init x y) q a = tt
  spares_kept v on (Sample x) q a = tt
  spares_kept v on (Choose c branches) q a = tt

  spares_update : (e : CoreEq) (q : Place) → same_place (memory e.var) q ≡ false → same_place (first e.var) q ≡ false → Spares q (update_acts plan e)
  spares_update e q a b = spares_append q (kept plan e.var (path e.clock) e.right) (start_acts e) (spares_kept e.var (path e.clock) e.right q a)
      (spares_only plan cells (leads plan e) (path e.clock, put (first e.var) (Bool false)) q b)

  pub updates_know : (known : List ℕ) (eqs : List CoreEq) (s : Slots) → Knows plan cells known s → Knows plan cells known (after_acts (flat_map (update_acts plan) eqs) s)
  updates_know known [] s k = k
  updates_know known (e ∷ rest) s k =
      subst (λ r. Knows plan cells known r) (sym (after_append (update_acts plan e) (flat_map (update_acts plan) rest) s))
      (updates_know known rest (after_acts (update_acts plan e) s)
      (knows_else plan cells known s (after_acts (update_acts plan e) s) k
      (λ v h. acts_else (update_acts plan e) s (value v) (spares_update e (value v) refl refl))
      (λ v l h. acts_else (update_acts plan e) s (guard v l) (spares_update e (guard v l) refl refl))))

  -- the slots of an output flag stay
  pub updates_flags : (eqs : List CoreEq) (s : Slots) (q : Place) → ((v : ℕ) → same_place (memory v) q ≡ false) → ((v : ℕ) → same_place (first v) q ≡ false) → after_acts (flat_map (update_acts plan) eqs) s q ≡ s q
  updates_flags [] s q a b = refl
  updates_flags (e ∷ rest) s q a b =
      ap (λ (r : Slots). r q) (after_append (update_acts plan e) (flat_map (update_acts plan) rest) s)
      ∙ updates_flags rest (after_acts (update_acts plan e) s) q a b
      ∙ acts_else (update_acts plan e) s q (spares_update e q (a e.var) (b e.var))

  -- the memory is kept where the equation is on
  keeping : (known : List ℕ) (s : Slots) → Knows plan cells known s → (v a : ℕ) (clock : List (ℕ × Leaf)) → IsClock plan known [] clock → IsOperand plan known clock a → (m : Leaf)
      → s (memory v) ≡ m → after_acts ((path clock, copy (memory v) (value a)) ∷ []) s (memory v) ≡ (if is_on cells clock then leaf_of (cells a) else m)
  keeping known s k v a clock c o m is_m =
      ap (λ t. (if t then place_put s (memory v) (s (value a)) else s) (memory v)) (path_on plan cells known s k clock c) ∙ of_memory (is_on cells clock) refl
    where
      of_memory : (t : Truth) → is_on cells clock ≡ t → (if t then place_put s (memory v) (s (value a)) else s) (memory v) ≡ (if t then leaf_of (cells a) else m)
      of_memory true on = put_there s (memory v) (s (value a)) ∙ leaf_at plan cells known s k a o.0 (ap (is_on cells) o.1 ∙ on)
      of_memory false off = is_m

  -- and the next instant is no first one
  starting : (known : List ℕ) (s : Slots) → Knows plan cells known s → (v : ℕ) (clock : List (ℕ × Leaf)) → IsClock plan known [] clock → (f : Truth) → s (first v) ≡ Bool f
      → after_acts ((path clock, put (first v) (Bool false)) ∷ []) s (first v) ≡ Bool (if is_on cells clock then false else f)
  starting known s k v clock c f is_f =
      ap (λ t. (if t then place_put s (first v) (Bool false) else s) (first v)) (path_on plan cells known s k clock c) ∙ of_first (is_on cells clock)
    where
      of_first : (t : Truth) → (if t then place_put s (first v) (Bool false) else s) (first v) ≡ Bool (if t then false else f)
      of_first true = put_there s (first v) (Bool false)
      of_first false = is_f

  -- the record of what is kept, taken apart
  kept_memory : (t : Truth) (x m : Leaf) (f : Truth) → (if t then x else m) ≡ (if t then record { memory = x; first = false } else (let k : Kept = record { memory = m; first = f } in k)).memory
  kept_memory true x m f = refl
  kept_memory false x m f = refl

  kept_first : (t : Truth) (x m : Leaf) (f : Truth) → Bool (if t then false else f) ≡ Bool (if t then record { memory = x; first = false } else (let k : Kept = record { memory = m; first = f } in k)).first
  kept_first true x m f = refl
  kept_first false x m f = refl

  one_update : (known : List ℕ) (s : Slots) → Knows plan cells known s → (e : CoreEq) → IsClock plan known [] e.clock → IsKept plan known e.clock e.right → After plan cells old s e
      → Next (after_acts (update_acts plan e) s) e
  one_update known s k e c o a = record {
    is_kept = λ yes'. ap (λ (r : Slots). r (memory e.var)) in_parts
        ∙ acts_else (start_acts e) s1 (memory e.var) (spares_only plan cells (leads plan e) (path e.clock, put (first e.var) (Bool false)) (memory e.var) refl)
        ∙ of_memory e.right yes' (a.is_kept yes') o;
    may_be_first = λ yes'. ap (λ (r : Slots). r (first e.var)) in_parts
        ∙ ap (λ t. after_acts (only t (path e.clock, put (first e.var) (Bool false))) s1 (first e.var)) yes'
        ∙ starting known s1 k1 e.var e.clock c f (acts_else (kept plan e.var (path e.clock) e.right) s (first e.var) (spares_kept e.var (path e.clock) e.right (first e.var) refl) ∙ a.may_be_first yes')
        ∙ kept_first (is_on cells e.clock) (delayed e.right cells) (old e).memory f;
    is_constant = λ l r. acts_else (update_acts plan e) s (value e.var) (spares_update e (value e.var) refl refl) ∙ a.is_constant l r;
  }
    where
      f : Truth
      f = is_first (old e) (restarts cells e.restarts)

      s1 : Slots
      s1 = after_acts (kept plan e.var (path e.clock) e.right) s

      in_parts : after_acts (update_acts plan e) s ≡ after_acts (start_acts e) s1
      in_parts = after_append (kept plan e.var (path e.clock) e.right) (start_acts e) s

      k1 : Knows plan cells known s1
      k1 = knows_else plan cells known s s1 k
          (λ v h. acts_else (kept plan e.var (path e.clock) e.right) s (value v) (spares_kept e.var (path e.clock) e.right (value v) refl))
          (λ v l h. acts_else (kept plan e.var (path e.clock) e.right) s (guard v l) (spares_kept e.var (path e.clock) e.right (guard v l) refl))

      M : CoreRight → Type 0
      M r = after_acts (kept plan e.var (path e.clock) r) s (memory e.var) ≡ (if is_on cells e.clock then record { memory = delayed r cells; first = false } else (let k' : Kept = record { memory = (old e).memory; first = f } in k')).memory

      of_memory : (r : CoreRight) → keeps_leaf plan r ≡ true → s (memory e.var) ≡ (old e).memory → IsKept plan known e.clock r → M r
      of_memory (Const leaf) t m h = absurd (false≢true t)
      of_memory (Copy x) t m h = absurd (false≢true t)
      of_memory (Op op args) t m h = absurd (false≢true t)
      of_memory (Pre x) t m h = keeping known s k e.var x e.clock c h (old e).memory m ∙ kept_memory (is_on cells e.clock) (leaf_of (cells x)) (old e).memory f
      of_memory (Fby x y) t m h = keeping known s k e.var y e.clock c h (old e).memory m ∙ kept_memory (is_on cells e.clock) (leaf_of (cells y)) (old e).memory f
      of_memory (Init x y) t m h = absurd (false≢true t)
      of_memory (Sample x) t m h = absurd (false≢true t)
      of_memory (Choose x branches) t m h = absurd (false≢true t)

  next_else : (s s' : Slots) (e : CoreEq) → ((q : Place) → owner q ≡ e.var → s' q ≡ s q) → Next s e → Next s' e
  next_else s s' e stays n = record {
    is_kept = λ t. stays (memory e.var) refl ∙ n.is_kept t;
    may_be_first = λ t. stays (first e.var) refl ∙ n.may_be_first t;
    is_constant = λ l r. stays (value e.var) refl ∙ n.is_constant l r;
  }

  updates_else : (eqs : List CoreEq) (s : Slots) (q : Place) → AllOf (λ e. ¬ (owner q ≡ e.var)) eqs → after_acts (flat_map (update_acts plan) eqs) s q ≡ s q
  updates_else [] s q other = refl
  updates_else (e ∷ rest) s q other =
      ap (λ (r : Slots). r q) (after_append (update_acts plan e) (flat_map (update_acts plan) rest) s)
      ∙ updates_else rest (after_acts (update_acts plan e) s) q other.1
      ∙ acts_else (update_acts plan e) s q (owned_spares e.var (update_acts plan e) q (owned_update e) other.0)

  -- what is to hold of an equation once all is known
  pub record IsWhole (known : List ℕ) (e : CoreEq) : Type 0 where
    pub is_clock : IsClock plan known [] e.clock
    pub is_kept : IsKept plan known e.clock e.right

  all_after_else : (s s' : Slots) (v : ℕ) → ((q : Place) → ¬ (owner q ≡ v) → s' q ≡ s q) → (eqs : List CoreEq) → AllOf (λ e. ¬ (v ≡ e.var)) eqs → AllOf (After plan cells old s) eqs → AllOf (After plan cells old s') eqs
  all_after_else s s' v stays [] other a = tt
  all_after_else s s' v stays (e ∷ rest) other a =
      (after_else s s' e (λ q is. stays q (λ same. other.0 (sym same ∙ is))) a.0, all_after_else s s' v stays rest other.1 a.1)

  pub updates_next : (from known : List ℕ) (eqs : List CoreEq) → ArePlanned plan from eqs → AllOf (IsWhole known) eqs → (s : Slots) → Knows plan cells known s → AllOf (After plan cells old s) eqs
      → AllOf (Next (after_acts (flat_map (update_acts plan) eqs) s)) eqs
  updates_next from known [] h w s k a = tt
  updates_next from known (e ∷ rest) h w s k a =
      let s' : Slots = after_acts (update_acts plan e) s in
      let whole : after_acts (flat_map (update_acts plan) (e ∷ rest)) s ≡ after_acts (flat_map (update_acts plan) rest) s' = after_append (update_acts plan e) (flat_map (update_acts plan) rest) s in
      let stays : (q : Place) → ¬ (owner q ≡ e.var) → s' q ≡ s q = λ q other. acts_else (update_acts plan e) s q (owned_spares e.var (update_acts plan e) q (owned_update e) other) in
      let apart = others plan (e.var ∷ from) rest e.var h.1 (inl refl) in
      let k' : Knows plan cells known s' = knows_else plan cells known s s' k
      (λ v m. acts_else (update_acts plan e) s (value v) (spares_update e (value v) refl refl))
      (λ v l m. acts_else (update_acts plan e) s (guard v l) (spares_update e (guard v l) refl refl)) in
      let own : Next (after_acts (flat_map (update_acts plan) rest) s') e =
      next_else s' (after_acts (flat_map (update_acts plan) rest) s') e
      (λ q is. updates_else rest s' q (all_of (λ x. ¬ (e.var ≡ x.var)) (λ x. ¬ (owner q ≡ x.var)) (λ x other same. other (sym is ∙ same)) rest apart))
      (one_update known s k e w.0.is_clock w.0.is_kept a.0) in (
        subst (λ r. Next r e) (sym whole) own,
        subst (λ r. AllOf (Next r) rest) (sym whole) (updates_next (e.var ∷ from) known rest h.1 w.1 s' k' (all_after_else s s' e.var stays rest apart a.1)),
      )
