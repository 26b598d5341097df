-- Laws of instances of types.
use Rattle.std.specs.Prelude.{◌≡◌, ℕ, ◌+◌, ◌≤◌, ◌&&◌, Bool, true, List, [], ◌∷◌, ◌++◌, map, Option, Some, unwrap_or, refl}
use Rattle.std.proofs.Common.{subst, ap, ap₂, sym, ◌∙◌, arith}
use Rattle.std.proofs.lemmas.Bool.{and_parts}
use Rattle.ls_terms.specs.declared.types.TypeTerm.{TypeTerm, out-TypeTerm, roll-TypeTerm, fold-roll-TypeTerm, out-roll-TypeTerm, ind-TypeTerm, map-TypeTerm}
use Rattle.ls_terms.specs.declared.types.TypeTerm.TheOpen.{TypeTerm-F}
use Rattle.ls_terms.specs.Types.{kids_at, apply, apply_at, sum, size}
use Rattle.type_rules.specs.Schemes.{joined, vars_step, vars, every, data_step, is_data, put}
use Rattle.tree_notes.specs.Each.{Each}
use Rattle.type_rules.proofs.Agreeing.{each_left, each_right, each_both}

pub each_joined_end : {X : Type 0} (P : X → Type 0) (tss : List (List X)) (ts : List X) → Each P (joined tss) → Each P ts → Each P (joined (tss ++ ts ∷ []))
each_joined_end P [] ts a b = each_both P ts [] b tt
each_joined_end P (us ∷ tss) ts a b = each_both P us _ (each_left P us _ a) (each_joined_end P tss ts (each_right P us _ a) b)

-- ---- one substitution after another

module _ (s : ℕ → Option TypeTerm) (g : ℕ → TypeTerm) where
  abbrev pub then : ℕ → TypeTerm
  then x = apply s (g x)

  abbrev Twice : TypeTerm → Type 0
  Twice t = apply s (put g t) ≡ put then t

  abbrev WithTwice : Type 0
  WithTwice = (t : TypeTerm) × Twice t

  abbrev bare : TypeTerm-F WithTwice → TypeTerm-F TypeTerm
  bare = map-TypeTerm WithTwice TypeTerm (λ p. p.0)

  abbrev g' : ℕ → Option TypeTerm
  g' x = Some (g x)

  abbrev h' : ℕ → Option TypeTerm
  h' x = Some (then x)

  twice_all : (ps : List WithTwice) → map (apply s) (map (put g) (map (λ p. p.0) ps)) ≡ map (put then) (map (λ p. p.0) ps)
  twice_all [] = refl
  twice_all (p ∷ ps) = ap₂ (λ t ts. t ∷ ts) p.1 (twice_all ps)

  abbrev rolled : TypeTerm-F TypeTerm → TypeTerm
  rolled x = roll-TypeTerm x

  twice_layer : (y : TypeTerm-F WithTwice) → apply s (apply_at g' (map-TypeTerm TypeTerm TypeTerm (put g) (bare y))) ≡ apply_at h' (map-TypeTerm TypeTerm TypeTerm (put then) (bare y))
  twice_layer (TypeTerm-F.Var x) = refl
  twice_layer (TypeTerm-F.Tuple ps) = fold-roll-TypeTerm TypeTerm (apply_at s) (TypeTerm-F.Tuple (map (put g) (map (λ p. p.0) ps))) ∙ ap (λ ts. rolled (TypeTerm-F.Tuple ts)) (twice_all ps)
  twice_layer (TypeTerm-F.Arrow k ps p) = fold-roll-TypeTerm TypeTerm (apply_at s) (TypeTerm-F.Arrow k (map (put g) (map (λ p. p.0) ps)) (put g p.0)) ∙ ap₂ (λ ts t. rolled (TypeTerm-F.Arrow k ts t)) (twice_all ps) p.1
  twice_layer (TypeTerm-F.Signal p) = fold-roll-TypeTerm TypeTerm (apply_at s) (TypeTerm-F.Signal (put g p.0)) ∙ ap (λ t. rolled (TypeTerm-F.Signal t)) p.1
  twice_layer TypeTerm-F.Int = fold-roll-TypeTerm TypeTerm (apply_at s) TypeTerm-F.Int
  twice_layer TypeTerm-F.Bool = fold-roll-TypeTerm TypeTerm (apply_at s) TypeTerm-F.Bool
  twice_layer TypeTerm-F.Char = fold-roll-TypeTerm TypeTerm (apply_at s) TypeTerm-F.Char
  twice_layer TypeTerm-F.Text = fold-roll-TypeTerm TypeTerm (apply_at s) TypeTerm-F.Text
  twice_layer TypeTerm-F.Unit = fold-roll-TypeTerm TypeTerm (apply_at s) TypeTerm-F.Unit
  twice_layer (TypeTerm-F.Enum x) = fold-roll-TypeTerm TypeTerm (apply_at s) (TypeTerm-F.Enum x)

  pub twice : (t : TypeTerm) → Twice t
  twice = ind-TypeTerm Twice (λ x y from. subst (λ z. Twice (roll-TypeTerm z)) from
      (ap (apply s) (fold-roll-TypeTerm TypeTerm (apply_at g') (bare y)) ∙ twice_layer y ∙ sym (fold-roll-TypeTerm TypeTerm (apply_at h') (bare y))))

-- ---- where an instance is data, so are the type and what stands for its variables

module _ (s : ℕ → Option TypeTerm) where
  abbrev var : ℕ → TypeTerm
  var x = roll-TypeTerm (TypeTerm-F.Var x)

  abbrev pub value : ℕ → TypeTerm
  value x = unwrap_or (s x) (var x)

  abbrev IsData : ℕ → Type 0
  IsData x = is_data (value x) ≡ true

  abbrev Back : TypeTerm → Type 0
  Back t = is_data (apply s t) ≡ true → (is_data t ≡ true) × Each IsData (vars t)

  abbrev WithBack : Type 0
  WithBack = (t : TypeTerm) × Back t

  abbrev low : TypeTerm-F WithBack → TypeTerm-F TypeTerm
  low = map-TypeTerm WithBack TypeTerm (λ p. p.0)

  back_all : (ps : List WithBack) → every (map is_data (map (apply s) (map (λ p. p.0) ps))) ≡ true
      → (every (map is_data (map (λ p. p.0) ps)) ≡ true) × Each IsData (joined (map vars (map (λ p. p.0) ps)))
  back_all [] e = (refl, tt)
  back_all (p ∷ ps) e =
      let a = and_parts (is_data (apply s p.0)) (every (map is_data (map (apply s) (map (λ p. p.0) ps)))) e in
      let q = p.1 a.0 in let r = back_all ps a.1 in
      (ap₂ (λ b c. b && c) q.0 r.0, each_both IsData (vars p.0) _ q.1 r.1)

  abbrev DataLayer : TypeTerm-F TypeTerm → Type 0
  DataLayer x = is_data (apply_at s (map-TypeTerm TypeTerm TypeTerm (apply s) x)) ≡ true
      → (data_step (map-TypeTerm TypeTerm Bool is_data x) ≡ true) × Each IsData (vars_step (map-TypeTerm TypeTerm (List ℕ) vars x))

  data_roll : (x : TypeTerm-F TypeTerm) → is_data (roll-TypeTerm x) ≡ data_step (map-TypeTerm TypeTerm Bool is_data x)
  data_roll x = fold-roll-TypeTerm Bool data_step x

  back_layer : (y : TypeTerm-F WithBack) → DataLayer (low y)
  back_layer (TypeTerm-F.Var x) e = (refl, (e, tt))
  back_layer (TypeTerm-F.Tuple ps) e = back_all ps (sym (data_roll (TypeTerm-F.Tuple (map (apply s) (map (λ p. p.0) ps)))) ∙ e)
  back_layer (TypeTerm-F.Arrow k ps p) e = absurd (let f = sym (data_roll (TypeTerm-F.Arrow k (map (apply s) (map (λ p. p.0) ps)) (apply s p.0))) ∙ e in cc)
  back_layer (TypeTerm-F.Signal p) e = absurd (let f = sym (data_roll (TypeTerm-F.Signal (apply s p.0))) ∙ e in cc)
  back_layer _ e = (refl, tt)

  pub data_back : (t : TypeTerm) → Back t
  data_back = ind-TypeTerm Back (λ x y from. subst (λ z. Back (roll-TypeTerm z)) from (λ e.
      let r = back_layer y (sym (ap is_data (fold-roll-TypeTerm TypeTerm (apply_at s) (low y))) ∙ e) in
      (data_roll (low y) ∙ r.0, subst (λ vs. Each IsData vs) (sym (fold-roll-TypeTerm (List ℕ) vars_step (low y))) r.1)))

  -- ---- what an instance leaves as it is mentions no variable that is replaced

  abbrev Stays : ℕ → Type 0
  Stays x = value x ≡ var x

  abbrev Fixed : TypeTerm → Type 0
  Fixed t = apply s t ≡ t → Each Stays (vars t)

  abbrev WithFixed : Type 0
  WithFixed = (t : TypeTerm) × Fixed t

  abbrev base : TypeTerm-F WithFixed → TypeTerm-F TypeTerm
  base = map-TypeTerm WithFixed TypeTerm (λ p. p.0)

  fixed_all : (ps : List WithFixed) → map (apply s) (map (λ p. p.0) ps) ≡ map (λ p. p.0) ps → Each Stays (joined (map vars (map (λ p. p.0) ps)))
  fixed_all [] e = tt
  fixed_all (p ∷ ps) e =
      let h : apply s p.0 ≡ p.0 = cc in
      let t : map (apply s) (map (λ p. p.0) ps) ≡ map (λ p. p.0) ps = cc in
      each_both Stays (vars p.0) _ (p.1 h) (fixed_all ps t)

  opened : (x : TypeTerm-F TypeTerm) (y : TypeTerm-F TypeTerm) → roll-TypeTerm x ≡ roll-TypeTerm y → x ≡ y
  opened x y e = sym (out-roll-TypeTerm x) ∙ ap out-TypeTerm e ∙ out-roll-TypeTerm y

  fixed_layer : (y : TypeTerm-F WithFixed) → apply_at s (map-TypeTerm TypeTerm TypeTerm (apply s) (base y)) ≡ roll-TypeTerm (base y) → Each Stays (vars_step (map-TypeTerm TypeTerm (List ℕ) vars (base y)))
  fixed_layer (TypeTerm-F.Var x) e = (e, tt)
  fixed_layer (TypeTerm-F.Tuple ps) e = fixed_all ps (ap kids_at (opened (TypeTerm-F.Tuple (map (apply s) (map (λ p. p.0) ps))) (TypeTerm-F.Tuple (map (λ p. p.0) ps)) e))
  fixed_layer (TypeTerm-F.Arrow k ps p) e =
      let o = opened (TypeTerm-F.Arrow k (map (apply s) (map (λ p. p.0) ps)) (apply s p.0)) (TypeTerm-F.Arrow k (map (λ p. p.0) ps) p.0) e in
      let h : map (apply s) (map (λ p. p.0) ps) ≡ map (λ p. p.0) ps = cc in
      let t : apply s p.0 ≡ p.0 = cc in
      each_joined_end Stays (map vars (map (λ p. p.0) ps)) (vars p.0) (fixed_all ps h) (p.1 t)
  fixed_layer (TypeTerm-F.Signal p) e =
      let o = opened (TypeTerm-F.Signal (apply s p.0)) (TypeTerm-F.Signal p.0) e in
      let t : apply s p.0 ≡ p.0 = cc in
      each_both Stays (vars p.0) [] (p.1 t) tt
  fixed_layer _ e = tt

  pub fixed : (t : TypeTerm) → Fixed t
  fixed = ind-TypeTerm Fixed (λ x y from. subst (λ z. Fixed (roll-TypeTerm z)) from (λ e.
      subst (λ vs. Each Stays vs) (sym (fold-roll-TypeTerm (List ℕ) vars_step (base y)))
      (fixed_layer y (sym (fold-roll-TypeTerm TypeTerm (apply_at s) (base y)) ∙ e))))

  -- ---- what stands for a variable is no larger than the whole

  abbrev Within : ℕ → ℕ → Type 0
  Within n x = size (value x) ≤ n

  abbrev Small : TypeTerm → Type 0
  Small t = Each (Within (size (apply s t))) (vars t)

  abbrev WithSmall : Type 0
  WithSmall = (t : TypeTerm) × Small t

  abbrev lowest : TypeTerm-F WithSmall → TypeTerm-F TypeTerm
  lowest = map-TypeTerm WithSmall TypeTerm (λ p. p.0)

  wider : (n m : ℕ) (xs : List ℕ) → n ≤ m → Each (Within n) xs → Each (Within m) xs
  wider n m [] l a = tt
  wider n m (x ∷ xs) l a = let b = a.0 in (omega (arith, l, b), wider n m xs l a.1)

  small_all : (n : ℕ) (ps : List WithSmall) → sum (map size (map (apply s) (map (λ p. p.0) ps))) ≤ n → Each (Within n) (joined (map vars (map (λ p. p.0) ps)))
  small_all n [] l = tt
  small_all n (p ∷ ps) l =
      let a : size (apply s p.0) ≤ n = omega (arith, l) in
      let b : sum (map size (map (apply s) (map (λ p. p.0) ps))) ≤ n = omega (arith, l) in
      each_both (Within n) (vars p.0) _ (wider (size (apply s p.0)) n (vars p.0) a p.1) (small_all n ps b)

  size_roll : (x : TypeTerm-F TypeTerm) → size (roll-TypeTerm x) ≡ 1 + sum (kids_at (map-TypeTerm TypeTerm ℕ size x))
  size_roll x = fold-roll-TypeTerm ℕ (λ x. 1 + sum (kids_at x)) x

  sum_end : (ns : List ℕ) (n : ℕ) → sum (ns ++ n ∷ []) ≡ sum ns + n
  sum_end [] n = omega arith
  sum_end (m ∷ ns) n = let h = sum_end ns n in omega (arith, h)

  small_layer : (y : TypeTerm-F WithSmall) → Each (Within (size (apply_at s (map-TypeTerm TypeTerm TypeTerm (apply s) (lowest y))))) (vars_step (map-TypeTerm TypeTerm (List ℕ) vars (lowest y)))
  small_layer (TypeTerm-F.Var x) = (omega arith, tt)
  small_layer (TypeTerm-F.Tuple ps) =
      let e = size_roll (TypeTerm-F.Tuple (map (apply s) (map (λ p. p.0) ps))) in
      small_all _ ps (omega (arith, e))
  small_layer (TypeTerm-F.Arrow k ps p) =
      let ts = map (apply s) (map (λ p. p.0) ps) in
      let e = size_roll (TypeTerm-F.Arrow k ts (apply s p.0)) in
      let d = sum_end (map size ts) (size (apply s p.0)) in
      let n = size (roll-TypeTerm (TypeTerm-F.Arrow k ts (apply s p.0))) in
      let a : sum (map size ts) ≤ n = omega (arith, e, d) in
      let b : size (apply s p.0) ≤ n = omega (arith, e, d) in
      each_joined_end (Within n) (map vars (map (λ p. p.0) ps)) (vars p.0) (small_all n ps a) (wider (size (apply s p.0)) n (vars p.0) b p.1)
  small_layer (TypeTerm-F.Signal p) =
      let e = size_roll (TypeTerm-F.Signal (apply s p.0)) in
      let n = size (roll-TypeTerm (TypeTerm-F.Signal (apply s p.0))) in
      let b : size (apply s p.0) ≤ n = omega (arith, e) in
      each_both (Within n) (vars p.0) [] (wider (size (apply s p.0)) n (vars p.0) b p.1) tt
  small_layer _ = tt

  pub small : (t : TypeTerm) → Small t
  small = ind-TypeTerm Small (λ x y from. subst (λ z. Small (roll-TypeTerm z)) from
      (subst (λ n. Each (Within n) (vars (roll-TypeTerm (lowest y)))) (sym (ap size (fold-roll-TypeTerm TypeTerm (apply_at s) (lowest y))))
      (subst (λ vs. Each (Within (size (apply_at s (map-TypeTerm TypeTerm TypeTerm (apply s) (lowest y))))) vs) (sym (fold-roll-TypeTerm (List ℕ) vars_step (lowest y))) (small_layer y))))
