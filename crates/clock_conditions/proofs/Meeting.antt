-- The tests on names are the conditions.
use Rattle.std.specs.Prelude.{◌≡◌, refl, ℕ, zero, suc, ◌<◌, ◌-◌, Bool, true, false, List, [], ◌∷◌, map, length, Option, Some, None, option_map, unwrap_or, if◌then◌else◌, nat_le, nat_lt}
use Rattle.std.proofs.Common.{ap, sym, ◌∙◌}
use Rattle.std.proofs.lemmas.Bool.{and_parts, leb-true, le-leb, ltb-true, lt-ltb}
use Rattle.ls_terms.specs.declared.clocks.ClockTerm.{ClockTerm}
use Rattle.ls_terms.specs.Clocks.{size}
use Rattle.ls_sig.specs.declared.binder.Note.{Note}
use Rattle.ls_places.specs.Places.{InnerArm}
use Rattle.ls_places.specs.Search.{nth, starts_with}
use Rattle.ls_places.specs.declared.places.Named.{Named}
use Rattle.ls_places.specs.declared.places.Named.TheVariants as named
use Rattle.ls_places.specs.declared.places.Variable.{Variable}
use Rattle.tree_notes.specs.Each.{Each}
use Rattle.clock_rules.specs.Facts.{Facts}
use Rattle.clock_rules.specs.Rules as R
use Rattle.clock_rules.specs.Rules.{Clocks, at}
use Rattle.clock_rules.specs.Terms.{limit, names_in}
use Rattle.clock_conditions.specs.Bounds as spec
use Rattle.clock_conditions.specs.Every.{every}
use Rattle.clock_conditions.specs.Met.{IsPublic, IsRanked, IsWithin, Met, ParamMet, clocks, facts}
use Rattle.clock_conditions.specs.declared.conditions.Bounds.{Bounds}
use Rattle.clock_conditions.proofs.Testing.{both, to_each, from_each}

nth_map : {A B : Type 0} (f : A → B) (xs : List A) (k : ℕ) → nth (map f xs) k ≡ option_map f (nth xs k)
nth_map f [] k = refl
nth_map f (x ∷ xs) zero = refl
nth_map f (x ∷ xs) (suc k) = nth_map f xs k

module _ (b : Bounds) where
  abbrev d : Facts Note
  d = facts b

  abbrev cs : Clocks
  cs = clocks b

  abbrev place_of : Named → List InnerArm
  place_of = R.name_place [] (λ x. None) d cs

  abbrev list_of : Named → List InnerArm
  list_of = spec.list_of b.vars.now

  abbrev name_list : ℕ → List InnerArm
  name_list = R.name_list [] (λ x. None) d cs

  abbrev first : ℕ
  first = length b.params.now

  abbrev lists : List (List InnerArm)
  lists = map list_of b.names.now

  place_is : (n : Named) → list_of n ≡ place_of n
  place_is (named.Clock x) = refl
  place_is (named.Match k all p) = refl
  place_is (named.Present xs p) = refl
  place_is (named.Active all p) = refl
  place_is (named.Tested all p) = refl

  begins_at : (here : List InnerArm) (o : Option Named) → spec.begins here (option_map list_of o) ≡ starts_with here (unwrap_or (option_map place_of o) [])
  begins_at here None = refl
  begins_at here (Some n) = ap (starts_with here) (place_is n)

  chosen : (here : List InnerArm) (c : Bool) (o : Option (List InnerArm)) (l : List InnerArm) → spec.begins here o ≡ starts_with here l
      → (if c then true else spec.begins here o) ≡ starts_with here (if c then [] else l)
  chosen here true o l e = refl
  chosen here false o l e = e

  around_is : (here : List InnerArm) (m : ℕ) → spec.is_around here first lists m ≡ starts_with here (name_list m)
  around_is here m = chosen here (nat_lt m first) (nth lists (m - first)) (unwrap_or (option_map place_of (nth b.names.now (m - first))) [])
      (ap (spec.begins here) (nth_map list_of b.names.now (m - first)) ∙ begins_at here (nth b.names.now (m - first)))

  within_holds : (here : List InnerArm) (ck : ClockTerm) → spec.within first lists here ck ≡ true → IsWithin d cs here ck
  within_holds here ck e = to_each (spec.is_around here first lists) (λ m. starts_with here (name_list m)) (around_is here) (names_in ck) e

  within_back : (here : List InnerArm) (ck : ClockTerm) → IsWithin d cs here ck → spec.within first lists here ck ≡ true
  within_back here ck h = from_each (spec.is_around here first lists) (λ m. starts_with here (name_list m)) (around_is here) (names_in ck) h

  public_holds : (ck : ClockTerm) → spec.public b.marks.now ck ≡ true → IsPublic d cs ck
  public_holds ck e = to_each (spec.is_clock_parameter b.marks.now) (spec.is_clock_parameter b.marks.now) (λ m. refl) (names_in ck) e

  public_back : (ck : ClockTerm) → IsPublic d cs ck → spec.public b.marks.now ck ≡ true
  public_back ck h = from_each (spec.is_clock_parameter b.marks.now) (spec.is_clock_parameter b.marks.now) (λ m. refl) (names_in ck) h

  -- ---- variables

  vars_hold : (vs : List Variable) (ts : List ClockTerm) → length ts ≡ length vs → spec.vars_met first lists vs ts ≡ true → (x : ℕ) (v : Variable) → nth vs x ≡ Some v → IsWithin d cs v.list (at ts x)
  vars_hold [] ts l e x v p = absurd (cc)
  vars_hold (w ∷ vs) [] l e x v p = absurd (cc)
  vars_hold (w ∷ vs) (t ∷ ts) l e zero v p =
      let q = and_parts (spec.within first lists w.list t) (spec.vars_met first lists vs ts) e in
      let same : w ≡ v = cc in
      within_holds v.list t (ap (λ (z : Variable). spec.within first lists z.list t) (sym same) ∙ q.0)
  vars_hold (w ∷ vs) (t ∷ ts) l e (suc x) v p =
      let q = and_parts (spec.within first lists w.list t) (spec.vars_met first lists vs ts) e in
      let m : length ts ≡ length vs = cc in
      vars_hold vs ts m q.1 x v p

  vars_back : (vs : List Variable) (ts : List ClockTerm) → ((x : ℕ) (v : Variable) → nth vs x ≡ Some v → IsWithin d cs v.list (at ts x)) → spec.vars_met first lists vs ts ≡ true
  vars_back [] ts h = refl
  vars_back (v ∷ vs) [] h = refl
  vars_back (v ∷ vs) (t ∷ ts) h = both (spec.within first lists v.list t) (spec.vars_met first lists vs ts) (within_back v.list t (h 0 v refl)) (vars_back vs ts (λ x w e. h (suc x) w e))

  -- ---- blocks

  abbrev BlockHolds : Named → ClockTerm → Type 0
  BlockHolds n t = (size t < limit) × IsWithin d cs (place_of n) t

  block_holds : (n : Named) (t : ClockTerm) → spec.block_met first lists (list_of n) t ≡ true → BlockHolds n t
  block_holds n t e =
      let q = and_parts (nat_lt (size t) limit) (spec.within first lists (list_of n) t) e in
      (ltb-true (size t) limit q.0, within_holds (place_of n) t (ap (λ l. spec.within first lists l t) (sym (place_is n)) ∙ q.1))

  block_back : (n : Named) (t : ClockTerm) → BlockHolds n t → spec.block_met first lists (list_of n) t ≡ true
  block_back n t h = both (nat_lt (size t) limit) (spec.within first lists (list_of n) t) (lt-ltb (size t) limit h.0) (ap (λ l. spec.within first lists l t) (place_is n) ∙ within_back (place_of n) t h.1)

  blocks_hold : (ns : List Named) (ts : List ClockTerm) → length ts ≡ length ns → spec.blocks_met first lists (map list_of ns) ts ≡ true → (j : ℕ) (n : Named) → nth ns j ≡ Some n → BlockHolds n (at ts j)
  blocks_hold [] ts l e j n p = absurd (cc)
  blocks_hold (m ∷ ns) [] l e j n p = absurd (cc)
  blocks_hold (m ∷ ns) (t ∷ ts) l e zero n p =
      let q = and_parts (spec.block_met first lists (list_of m) t) (spec.blocks_met first lists (map list_of ns) ts) e in
      let same : m ≡ n = cc in
      block_holds n t (ap (λ z. spec.block_met first lists (list_of z) t) (sym same) ∙ q.0)
  blocks_hold (m ∷ ns) (t ∷ ts) l e (suc j) n p =
      let q = and_parts (spec.block_met first lists (list_of m) t) (spec.blocks_met first lists (map list_of ns) ts) e in
      let k : length ts ≡ length ns = cc in
      blocks_hold ns ts k q.1 j n p

  blocks_back : (ns : List Named) (ts : List ClockTerm) → ((j : ℕ) (n : Named) → nth ns j ≡ Some n → BlockHolds n (at ts j)) → spec.blocks_met first lists (map list_of ns) ts ≡ true
  blocks_back [] ts h = refl
  blocks_back (n ∷ ns) [] h = refl
  blocks_back (n ∷ ns) (t ∷ ts) h = both (spec.block_met first lists (list_of n) t) (spec.blocks_met first lists (map list_of ns) ts) (block_back n t (h 0 n refl)) (blocks_back ns ts (λ j m e. h (suc j) m e))

  -- ---- parameters

  params_hold : (ns : List Note) → every (spec.param_met b.marks.now) ns ≡ true → Each (ParamMet d cs) ns
  params_hold [] e = tt
  params_hold (n ∷ ns) e =
      let q = and_parts (spec.param_met b.marks.now n) (every (spec.param_met b.marks.now) ns) e in
      let r = and_parts (nat_le (size n.ck) limit) (spec.public b.marks.now n.ck) q.0 in
      (record { small = leb-true (size n.ck) limit r.0; public = public_holds n.ck r.1 }, params_hold ns q.1)

  params_back : (ns : List Note) → Each (ParamMet d cs) ns → every (spec.param_met b.marks.now) ns ≡ true
  params_back [] h = refl
  params_back (n ∷ ns) h =
      both (spec.param_met b.marks.now n) (every (spec.param_met b.marks.now) ns)
      (both (nat_le (size n.ck) limit) (spec.public b.marks.now n.ck) (le-leb (size n.ck) limit h.0.small) (public_back n.ck h.0.public))
      (params_back ns h.1)

  -- ---- all

  pub met : length b.var_clocks.now ≡ length b.vars.now → length b.block_clocks.now ≡ length b.names.now
      → spec.local_met b ≡ true → spec.signature_met b ≡ true → IsRanked b.marks.now b.notes.now → Met d cs
  met lv lb e f ranked =
      let p = and_parts (spec.vars_met first lists b.vars.now b.var_clocks.now) (spec.blocks_met first lists lists b.block_clocks.now) e in
      let q = and_parts (every (spec.param_met b.marks.now) b.notes.now) (spec.public b.marks.now b.result.now.ck) f in
      record {
        vars = vars_hold b.vars.now b.var_clocks.now lv p.0;
        blocks = λ j n h. let r = blocks_hold b.names.now b.block_clocks.now lb p.1 j n h in record { arm = r.0; within = r.1 };
        params = params_hold b.notes.now q.0;
        result = public_holds b.result.now.ck q.1;
        acyclic = ranked;
      }

  pub local_back : Met d cs → spec.local_met b ≡ true
  local_back h = both (spec.vars_met first lists b.vars.now b.var_clocks.now) (spec.blocks_met first lists lists b.block_clocks.now)
      (vars_back b.vars.now b.var_clocks.now h.vars)
      (blocks_back b.names.now b.block_clocks.now (λ j n e. ((h.blocks j n e).arm, (h.blocks j n e).within)))

  pub signature_back : Met d cs → spec.signature_met b ≡ true
  signature_back h = both (every (spec.param_met b.marks.now) b.notes.now) (spec.public b.marks.now b.result.now.ck) (params_back b.notes.now h.params) (public_back b.result.now.ck h.result)

  pub params_public : spec.signature_met b ≡ true → every (spec.param_met b.marks.now) b.notes.now ≡ true
  params_public e = (and_parts (every (spec.param_met b.marks.now) b.notes.now) (spec.public b.marks.now b.result.now.ck) e).0
