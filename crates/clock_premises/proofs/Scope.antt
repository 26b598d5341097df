-- What the laws of clocks suppose of a definition, from its scope.
use Rattle.std.specs.Prelude.{◌≡◌, refl, ℕ, zero, suc, ◌+◌, ◌<◌, ◌&&◌, ◌||◌, not, Bool, true, false, List, [], ◌∷◌, ◌++◌, map, length, slice_get, Option, Some, None, if◌then◌else◌, ◌⊎◌}
use Rattle.std.specs.List.{list_any}
use Rattle.std.proofs.Common.{ap, sym, ◌∙◌, subst, inl, inr, arith, length-append}
use Rattle.std.proofs.lemmas.Bool.{and_parts}
use Rattle.ls_ast.specs.declared.tree.BodyOf.{BodyOf}
use Rattle.ls_ast.specs.declared.tree.Expr.{Expr}
use Rattle.ls_ast.specs.declared.tree.Mark.TheVariants as mark
use Rattle.ls_ast.specs.declared.tree.Pat.{Pat, fold-Pat}
use Rattle.ls_ast.specs.declared.tree.Pat.TheOpen.{Pat-F}
use Rattle.ls_ast.specs.declared.tree.Plain.{Plain}
use Rattle.ls_sig.specs.Notes.{is_signal}
use Rattle.ls_sig.specs.declared.binder.Binder.{Binder}
use Rattle.ls_sig.specs.declared.binder.Binder.TheVariants as binder
use Rattle.ls_sig.specs.declared.binder.Note.{Note}
use Rattle.ls_sig.specs.declared.binder.Use.{Use}
use Rattle.ls_places.specs.Patterns as FP
use Rattle.ls_places.specs.Places as found
use Rattle.ls_places.specs.Search.{nth}
use Rattle.ls_places.specs.declared.places.Named.{Named}
use Rattle.ls_places.specs.declared.places.Whole.{Whole}
use Rattle.tree_notes.specs.Each.{Each}
use Rattle.tree_notes.specs.Noted.{in_body}
use Rattle.scope_rules.specs.Places as P
use Rattle.scope_rules.specs.Places.{Place, same_place, reads, tests, option_list}
use Rattle.scope_rules.specs.Claims.{claims}
use Rattle.scope_rules.specs.declared.claims.Asked.{Asked}
use Rattle.scope_rules.specs.declared.claims.Claim.{Claim}
use Rattle.scope_rules.specs.declared.claims.Claim.TheVariants.{Named as named}
use Rattle.scope_rules.specs.declared.claims.Earlier.{Earlier}
use Rattle.scope_rules.specs.declared.claims.Stand.TheVariants.{At as at, Asked as questioned}
use Rattle.scope_rules.specs.Faults as F
use Rattle.scope_rules.specs.Faults.{Judged, Sight, Fault, Twice, Unbound, NotAllArms, Mixed, NotCombinatorial, asked_by, any_claim, binder_at, var_binder, param_binder, def_binder, is_nothing, clock_way}
use Rattle.scope_rules.specs.Laws.{InSight, Holding, placed_exprs, whole_key}
use Rattle.scope_rules.specs.Resolved as R
use Rattle.scope_rules.proofs.AsFound.{exprs_alike, variables_alike}
use Rattle.scope_rules.proofs.InSight.{binder_in_sight}
use Rattle.clock_rules.specs.declared.scheme.ClockScheme.{ClockScheme}
use Rattle.clock_rules.specs.Facts.{Facts, nodes_of, placed}
use Rattle.clock_rules.specs.Fresh.{facts_of}
use Rattle.clock_rules.specs.Layers.{Layer, layers}
use Rattle.clock_rules.specs.Rules.{clock_name, is_clock_of, param_at, param_here, after_names}
use Rattle.clock_rules.specs.Terms.{is_function}
use Rattle.clock_laws.specs.Scoped.{IsName, IsScoped, ArmsNamed, FormScoped, NodeScoped}
use Rattle.type_premises.proofs.Trees as Tr
use Rattle.clock_premises.specs.Premises.{use_of, SchemesOf, FormGiven, AllGiven}
use Rattle.clock_premises.proofs.Lists.{or_parts, not_false, each_both, each_left, each_right}
use Rattle.clock_premises.proofs.Walk as W
use Rattle.clock_premises.proofs.Sites.{clock_number}
use Rattle.clock_premises.proofs.Conditions.{SameNames, expr_good}

-- earlier definitions

pub scheme_at : (es : List Earlier) (ss : List ClockScheme) → SchemesOf es ss → (j : ℕ) → SameNames (slice_get es j) (nth ss j)
scheme_at [] [] h zero = tt
scheme_at [] [] h (suc j) = tt
scheme_at (e ∷ es) (s ∷ ss) h zero = h.0
scheme_at (e ∷ es) (s ∷ ss) h (suc j) = scheme_at es ss h.1 j
scheme_at [] (s ∷ ss) h j = absurd h
scheme_at (e ∷ es) [] h j = absurd h

-- no fault

pub no_fault : (a b c e f : Bool) → (if a then Some Twice else if b then Some Unbound else if c then Some NotAllArms else if e then Some Mixed else if f then Some NotCombinatorial else None) ≡ None → (b ≡ false) × (e ≡ false)
no_fault true b c e f h = absurd (cc)
no_fault false true c e f h = absurd (cc)
no_fault false false true e f h = absurd (cc)
no_fault false false false true f h = absurd (cc)
no_fault false false false false f h = (refl, refl)

-- each item that is there

pub record Item {A : Type 0} (o : Option A) : Type 0 where
  pub item : A
  pub is : o ≡ Some item

pub item_at : {A : Type 0} (xs : List A) (k : ℕ) → k < length xs → Item (slice_get xs k)
item_at [] k l = absurd (omega (arith, l))
item_at (x ∷ xs) zero l = record { item = x; is = refl }
item_at (x ∷ xs) (suc k) l = item_at xs k (omega (arith, l))

item_if : (b : Bool) (m : ℕ) (o : Option ℕ) → (b ≡ false → Item o) → Item (if b then Some m else o)
item_if true m o h = record { item = m; is = refl }
item_if false m o h = h refl

pub clock_found : (x : ℕ) (ns : List Named) (m : ℕ) → list_any (is_clock_of x) ns ≡ true → Item (clock_name x ns m)
clock_found x [] m h = absurd (cc)
clock_found x (n ∷ ns) m h = item_if (is_clock_of x n) m (clock_name x ns (suc m)) (λ e. clock_found x ns (suc m) (sym (ap (λ b. b || list_any (is_clock_of x) ns) e) ∙ h))

-- the parameter of a name

joined_same : {A : Type 0} (xs : List (List A)) → P.joined xs ≡ FP.joined xs
joined_same [] = refl
joined_same (x ∷ xs) = ap (λ z. x ++ z) (joined_same xs)

pattern_same : (x : Pat-F (List ℕ)) → P.pattern_names x ≡ FP.pattern_names x
pattern_same Pat-F.Any = refl
pattern_same Pat-F.Unit = refl
pattern_same (Pat-F.Var x) = refl
pattern_same (Pat-F.Tuple parts) = joined_same parts

names_same : (p : Pat) → P.names_of p ≡ FP.names_of p
names_same p = λ i. fold-Pat (List ℕ) (λ x. pattern_same x i) p

-- what is left of a number after some names
record After (xs : List ℕ) (k : ℕ) : Type 0 where
  pub left : ℕ
  pub is : after_names xs k ≡ Some left
  pub at' : k ≡ length xs + left

after_case : (xs : List ℕ) (k : ℕ) → (after_names xs k ≡ None) ⊎ After xs k
after_case [] k = inr (record { left = k; is = refl; at' = omega arith })
after_case (x ∷ xs) zero = inl refl
after_case (x ∷ xs) (suc k) = elim (after_case xs k) [
  | inl e ↦ inl e
  | inr a ↦ let h = a.at' in inr (record { left = a.left; is = a.is; at' = omega (arith, h) })
]

pub param_found : (ps : List Pat) (k i : ℕ) → k < length (P.joined (map P.names_of ps)) → Item (param_at k ps i)
param_found [] k i l = absurd (omega (arith, l))
param_found (p ∷ ps) k i l = elim (after_case (FP.names_of p) k) [
  | inl e ↦ record { item = i; is = ap (param_here i (λ r. param_at r ps (suc i))) e }
  | inr a ↦
      let h = a.at' in
      let n = ap length (names_same p) in
      let s = length-append (P.names_of p) (P.joined (map P.names_of ps)) in
      let r = param_found ps a.left (suc i) (omega (arith, l, h, n, s)) in
      record { item = r.item; is = ap (param_here i (λ r. param_at r ps (suc i))) a.is ∙ r.is }
]

-- a name is no constructor

abbrev pub is_case : Binder → Bool
is_case (binder.Case t k) = true
is_case _ = false

pub no_case : (o p q : Option ℕ) → is_case (var_binder o (param_binder p (def_binder q))) ≡ false
no_case (Some k) p q = refl
no_case None (Some k) q = refl
no_case None None (Some k) = refl
no_case None None None = refl

long_marks : (asks : List Asked) (ps : List Pat) (k : ℕ) → length (F.marks_from asks ps k) ≡ length ps
long_marks asks [] k = refl
long_marks asks (p ∷ ps) k = ap suc (long_marks asks ps (k + length (P.names_of p)))

pub or_false : (a : Bool) → a || false ≡ false → a ≡ false
or_false true h = h
or_false false h = refl

module _ (d : Judged Plain) (schemes : List ClockScheme) (cases : ℕ → Option ℕ) (notes : List Note) (body : BodyOf Note) (is : in_body Note Use use_of body ≡ R.resolved_body d)
    (sound : F.fault d ≡ None) (heads : SchemesOf d.known.defs schemes) where
  abbrev D : Facts Note
  D = facts_of schemes cases d.params (F.marks d) notes body

  abbrev first : ℕ
  first = length d.params

  abbrev function : Note → Bool
  function n = is_function n.ty

  abbrev signal : Expr Note → Bool
  signal e = is_signal e.note.ty

  abbrev h : Sight
  h = F.sight d

  abbrev f : P.Contents Note
  f = P.contents_of Note first body

  abbrev g : found.Found Note
  g = found.find Note first cases signal body

  good : W.Good schemes D cases signal f g
  good = W.body_good schemes D cases signal body refl

  -- the claims at fault
  abbrev bad : Place → Claim → Bool
  bad p c = F.unbound_claim d p c || F.mixed_claim d p c

  faultless : (F.unbound d ≡ false) × (F.mixed d ≡ false)
  faultless = no_fault (F.twice d) (F.unbound d) (F.not_all_arms d) (F.mixed d) (F.not_combinatorial d) sound

  pub none_unbound : any_claim (F.unbound_claim d) (F.asks d) ≡ false
  none_unbound =
      let a = list_any (λ (s : ℕ × Place). not (F.equation_of d s.1 s.0)) (F.contents d).starts in
      let b = list_any (λ (as' : List (Option ℕ)). list_any (λ c. not (F.is_there d.known c)) (F.named_arms d as')) (F.contents d).arms in
      let c = list_any (λ (x : List ℕ × List ℕ). list_any (λ t. not (F.among x.0 t)) x.1) (F.contents d).automata in
      let q = any_claim (F.unbound_claim d) (F.asks d) in
      (or_parts c q (or_parts b (c || q) (or_parts a (b || (c || q)) faultless.0).1).1).1

  pub none_mixed : any_claim (F.mixed_claim d) (F.asks d) ≡ false
  none_mixed =
      let a = list_any (F.mixed_site d) (F.contents d).sites in
      let b = list_any (F.mixed_start d) (F.contents d).starts in
      let q = any_claim (F.mixed_claim d) (F.asks d) in
      (or_parts b q (or_parts a (b || q) faultless.1).1).1

  both_false : (a b : Bool) → a ≡ false → b ≡ false → a || b ≡ false
  both_false true b x y = x
  both_false false b x y = y

  pub any_both : (p : Place) (cs : List Claim) → list_any (F.unbound_claim d p) cs ≡ false → list_any (F.mixed_claim d p) cs ≡ false → list_any (bad p) cs ≡ false
  any_both p [] x y = refl
  any_both p (c ∷ cs) x y =
      let x' = or_parts (F.unbound_claim d p c) (list_any (F.unbound_claim d p) cs) x in
      let y' = or_parts (F.mixed_claim d p c) (list_any (F.mixed_claim d p) cs) y in
      both_false (bad p c) (list_any (bad p) cs) (both_false (F.unbound_claim d p c) (F.mixed_claim d p c) x'.0 y'.0) (any_both p cs x'.1 y'.1)

  -- a name that may be a condition is a clock name

  var_is : (k : ℕ) (p : Place) → Holding h.vars p k → F.wrong_use d p (binder.Var k) (at mark.Clock) ≡ false → IsName schemes D (binder.Var k)
  var_is k p s w =
      let wrong : F.wrong_variable (F.is_signal h s.site) s.site p (at mark.Clock) ≡ false =
      or_false (F.wrong_variable (F.is_signal h s.site) s.site p (at mark.Clock))
      (sym (ap (λ o. list_any (λ v. F.wrong_variable (F.is_signal h v) v p (at mark.Clock)) (option_list o)) s.is) ∙ w) in
      let clock : clock_way s.site.way ≡ true = (and_parts (clock_way s.site.way) (same_place s.site.list p) (not_false (clock_way s.site.way && same_place s.site.list p) wrong)).0 in
      let there : slice_get (F.variables f.sites) k ≡ Some s.site = ap (λ z. slice_get (F.variables z) k) (sym (Tr.sites_same use_of d body is)) ∙ s.is in
      let r = clock_found k D.names first (clock_number schemes D cases f g signal good (variables_alike Note first cases signal body) k s.site there clock) in
      (r.item, r.is)

  name_is : (z : Binder) (p : Place) → InSight h d.known.enums p z → is_case z ≡ false → is_nothing z ≡ false → F.wrong_use d p z (at mark.Clock) ≡ false → IsName schemes D z
  name_is binder.Nothing p s c n w = absurd (cc)
  name_is (binder.Case t k) p s c n w = absurd (cc)
  name_is (binder.Var k) p s c n w = var_is k p s w
  name_is (binder.Param k) p s c n w = let r = param_found d.params k 0 s in (r.item, r.is)
  name_is (binder.Def k) p s c n w =
      let e = item_at h.defs k s in
      let wrong = sym (ap (λ o. list_any (λ v. F.wrong_def v (at mark.Clock)) (option_list o)) e.is) ∙ w in
      absurd (cc)

  condition : (p : Place) (x : ℕ) → bad p (named (binder_at h p x) x (at mark.Clock)) ≡ false → IsName schemes D (binder_at h p x)
  condition p x b =
      let parts = or_parts (is_nothing (binder_at h p x)) (F.wrong_use d p (binder_at h p x) (at mark.Clock)) b in
      name_is (binder_at h p x) p (binder_in_sight h d.known.enums p x) (no_case (F.place_where (F.seen_at x p) h.vars) (F.place_of x h.params) (F.place_of x (F.titles h.defs))) parts.0 parts.1

  -- each layer of a whole expression

  abbrev GoodLayer : Layer Note → Type 0
  GoodLayer l = FormGiven schemes l.note l.form → FormScoped schemes D l.note l.form

  abbrev GoodAt : Expr Note × Place → Type 0
  GoodAt x = Each GoodLayer (layers Note function x.0)

  all_good : (rs : List (P.Reading Note)) → any_claim (F.unbound_claim d) (map (asked_by h) rs) ≡ false → any_claim (F.mixed_claim d) (map (asked_by h) rs) ≡ false
      → Each (Tr.NotesAre use_of h d.known) rs → Each GoodAt (placed_exprs rs)
  all_good [] u m n = tt
  all_good (reads e s p ∷ rs) u m n =
      let cs = claims h.defs (binder_at h p) e s in
      let u' = or_parts (list_any (F.unbound_claim d p) cs) (any_claim (F.unbound_claim d) (map (asked_by h) rs)) u in
      let m' = or_parts (list_any (F.mixed_claim d p) cs) (any_claim (F.mixed_claim d) (map (asked_by h) rs)) m in (
        expr_good schemes D function (bad p) refl h.defs (scheme_at h.defs schemes heads) (binder_at h p) (R.case_of d.known) (condition p) e s n.0 (any_both p cs u'.0 m'.0),
        all_good rs u'.1 m'.1 n.1,
      )
  all_good (tests x p ∷ rs) u m n =
      let cs = named (binder_at h p x) x questioned ∷ [] in
      all_good rs (or_parts (list_any (F.unbound_claim d p) cs) (any_claim (F.unbound_claim d) (map (asked_by h) rs)) u).1 (or_parts (list_any (F.mixed_claim d p) cs) (any_claim (F.mixed_claim d) (map (asked_by h) rs)) m).1 n.1

  each_mapped : {A B : Type 0} (f : A → B) (Q : B → Type 0) (xs : List A) → Each Q (map f xs) → Each (λ x. Q (f x)) xs
  each_mapped f Q [] a = tt
  each_mapped f Q (x ∷ xs) a = (a.0, each_mapped f Q xs a.1)

  wholes_good : Each (λ (w : Whole Note). Each GoodLayer (layers Note function w.expr)) g.exprs
  wholes_good =
      let rs = Tr.readings use_of d body is in
      each_mapped whole_key GoodAt g.exprs (subst (Each GoodAt) (exprs_alike Note first cases signal body)
      (all_good rs (subst (λ z. any_claim (F.unbound_claim d) z ≡ false) (Tr.asks_same use_of d body is) none_unbound) (subst (λ z. any_claim (F.mixed_claim d) z ≡ false) (Tr.asks_same use_of d body is) none_mixed) (Tr.all_notes use_of d body is)))

  abbrev GivenNode : Layer Note × found.Place → Type 0
  GivenNode n = FormGiven schemes n.0.note n.0.form

  placed_scoped : (p : found.Place) (ls : List (Layer Note)) → ArmsNamed schemes D (found.arms p) → Each GoodLayer ls → Each GivenNode (placed Note p ls) → Each (NodeScoped schemes D) (placed Note p ls)
  placed_scoped p [] a l k = tt
  placed_scoped p (x ∷ ls) a l k = ((a, l.0 k.0), placed_scoped p ls a l.1 k.1)

  nodes_scoped : (ws : List (Whole Note)) → Each (λ (w : Whole Note). ArmsNamed schemes D (found.arms w.place)) ws → Each (λ (w : Whole Note). Each GoodLayer (layers Note function w.expr)) ws
      → Each GivenNode (nodes_of Note function ws) → Each (NodeScoped schemes D) (nodes_of Note function ws)
  nodes_scoped [] a l k = tt
  nodes_scoped (w ∷ ws) a l k =
      let xs = placed Note w.place (layers Note function w.expr) in
      each_both (NodeScoped schemes D) xs (nodes_of Note function ws) (placed_scoped w.place (layers Note function w.expr) a.0 l.0 (each_left GivenNode xs (nodes_of Note function ws) k))
      (nodes_scoped ws a.1 l.1 (each_right GivenNode xs (nodes_of Note function ws) k))

  pub scoped : length notes ≡ length d.params → AllGiven schemes D → IsScoped schemes D
  scoped many given = record {
    many = many;
    marks = long_marks (F.asks d) d.params 0;
    nodes = nodes_scoped g.exprs good.exprs wholes_good given;
    sites = good.sites;
    names = good.names;
  }
