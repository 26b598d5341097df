-- What scope says of the expressions of a definition: variables that are used are bound around, conditions in the same arms.
use Rattle.std.specs.Prelude.{◌≡◌, refl, ℕ, zero, suc, ◌+◌, ◌==◌, ◌<◌, ◌&&◌, ◌||◌, Bool, true, false, List, [], ◌∷◌, ◌++◌, map, length, slice_get, Option, Some, None, if◌then◌else◌}
use Rattle.std.specs.List.{list_any}
use Rattle.std.proofs.Common.{ap, ap₂, sym, ◌∙◌, subst, arith}
use Rattle.std.proofs.lemmas.Bool.{and_parts, eqb-true, eq-eqb}
use Rattle.ls_ast.specs.declared.tree.BodyOf.{BodyOf}
use Rattle.ls_ast.specs.declared.tree.Expr.{Expr}
use Rattle.ls_ast.specs.declared.tree.Form.TheOpen.{Form-F}
use Rattle.ls_ast.specs.declared.tree.Mark.TheVariants as mark
use Rattle.ls_ast.specs.declared.tree.Plain.{Plain}
use Rattle.ls_sig.specs.Notes.{is_signal}
use Rattle.ls_sig.specs.declared.binder.Binder.{Binder}
use Rattle.ls_sig.specs.declared.binder.Binder.TheVariants as binder
use Rattle.ls_sig.specs.declared.binder.Note.{Note}
use Rattle.ls_sig.specs.declared.binder.Use.{Use}
use Rattle.ls_places.specs.Places as found
use Rattle.ls_places.specs.Places.{InnerArm, same_arms}
use Rattle.ls_places.specs.Search.{list_of, nth, starts_with}
use Rattle.ls_places.specs.declared.places.Named.{Named}
use Rattle.ls_places.specs.declared.places.Named.TheVariants as kinds
use Rattle.ls_places.specs.declared.places.Variable.{Variable}
use Rattle.ls_places.specs.declared.places.Whole.{Whole}
use Rattle.tree_notes.specs.Each.{Each}
use Rattle.tree_notes.specs.Noted.{in_body}
use Rattle.tree_notes.specs.Order as Or
use Rattle.scope_rules.specs.Places as P
use Rattle.scope_rules.specs.Places.{Place, holds, same_place, reads, tests, option_list}
use Rattle.scope_rules.specs.Claims.{claims, uses}
use Rattle.scope_rules.specs.declared.claims.Claim.{Claim}
use Rattle.scope_rules.specs.declared.claims.Claim.TheVariants.{Named as named}
use Rattle.scope_rules.specs.declared.claims.Stand.TheVariants.{At as at, Asked as questioned}
use Rattle.scope_rules.specs.declared.places.Site.{Site}
use Rattle.scope_rules.specs.Faults as F
use Rattle.scope_rules.specs.Faults.{Judged, Sight, asked_by, any_claim, binder_at, is_nothing, clock_way}
use Rattle.scope_rules.specs.Laws.{InSight, Holding, placed_exprs, whole_key, site_key, variable_key}
use Rattle.scope_rules.specs.Resolved as R
use Rattle.scope_rules.proofs.AsFound.{exprs_alike, variables_alike}
use Rattle.scope_rules.proofs.InSight.{binder_in_sight, uses_in_sight}
use Rattle.clock_rules.specs.declared.scheme.ClockScheme.{ClockScheme}
use Rattle.clock_rules.specs.Facts.{Facts, nodes_of, placed}
use Rattle.clock_rules.specs.Fresh.{facts_of}
use Rattle.clock_rules.specs.Layers.{Layer, layers}
use Rattle.clock_rules.specs.Rules.{clock_name, is_clock_of, list_at}
use Rattle.clock_rules.specs.Terms.{is_function}
use Rattle.clock_rules.proofs.Noting.{exprs_are}
use Rattle.clock_rules.proofs.Sides.{all_left, all_right, all_both}
use Rattle.clock_laws.specs.Scoped as S
use Rattle.clock_laws.specs.Scoped.{IsName, FormScoped}
use Rattle.type_premises.proofs.Trees as Tr
use Rattle.clock_premises.specs.Premises.{use_of, SchemesOf, FormGiven, AllGiven}
use Rattle.clock_premises.proofs.Lists.{or_parts, not_false}
use Rattle.clock_premises.proofs.Conditions.{expr_good}
use Rattle.clock_premises.proofs.Scope as Sc
use Rattle.causality_accepted.proofs.Placed.{arms_are}
use Rattle.causality_accepted.proofs.Occurs.{starts_on}
use Rattle.causality_accepted.proofs.Moved as M
use Rattle.causality_accepted.proofs.Moved.{NodeUsed, Here, HereAt, GivenHere, CallHere, FormHere}

-- ---- places

holds_begins : (l p : Place) → holds l p ≡ true → (r : Place) × (p ≡ l ++ r)
holds_begins [] p e = (p, refl)
holds_begins (a ∷ l) [] e = absurd (cc)
holds_begins (a ∷ l) (c ∷ p) e =
    let x = and_parts (a.0 == c.0) (a.1 == c.1 && holds l p) e in
    let y = and_parts (a.1 == c.1) (holds l p) x.1 in
    let r = holds_begins l p y.1 in
    (r.0, λ i. (sym (eqb-true a.0 c.0 x.0) i, sym (eqb-true a.1 c.1 y.0) i) ∷ r.1 i)

same_is : (l p : Place) → same_place l p ≡ true → l ≡ p
same_is [] [] e = refl
same_is [] (c ∷ p) e = absurd (cc)
same_is (a ∷ l) [] e = absurd (cc)
same_is (a ∷ l) (c ∷ p) e =
    let x = and_parts (a.0 == c.0) (a.1 == c.1 && same_place l p) e in
    let y = and_parts (a.1 == c.1) (same_place l p) x.1 in
    λ i. (eqb-true a.0 c.0 x.0 i, eqb-true a.1 c.1 y.0 i) ∷ same_is l p y.1 i

arms_self : (p : List InnerArm) → same_arms p p ≡ true
arms_self [] = refl
arms_self (a ∷ p) = ap₂ (λ x y. x && y) (eq-eqb a.0 a.0 refl) (ap₂ (λ x y. x && y) (eq-eqb a.1 a.1 refl) (arms_self p))

-- ---- clock names of the variables that a list binds

abbrev names_here : List InnerArm → ℕ → List Variable → List Named
names_here p k [] = []
names_here p k (v ∷ vs) = if same_arms v.list p then kinds.Clock k ∷ names_here p (suc k) vs else names_here p (suc k) vs

-- such a name is of a variable that the list binds
here_if : (c : Bool) (x k m r : ℕ) (p : List InnerArm) (ns : List Named) (P : Type 0) → (c ≡ true → k ≡ x → P) → ((m : ℕ) → clock_name x ns m ≡ Some r → P)
    → clock_name x (if c then kinds.Clock k ∷ ns else ns) m ≡ Some r → P
here_if true x k m r p ns P f g e = by_case (x == k) refl e
  where
    by_case : (t : Bool) → (x == k) ≡ t → (if t then Some m else clock_name x ns (suc m)) ≡ Some r → P
    by_case true h q = f refl (sym (eqb-true x k h))
    by_case false h q = g (suc m) q
here_if false x k m r p ns P f g e = g m e

here_named : (p : List InnerArm) (vs : List Variable) (k x m r : ℕ) → clock_name x (names_here p k vs) m ≡ Some r → (j : ℕ) × (x ≡ k + j) × (list_at vs j ≡ p)
here_named p [] k x m r e = absurd (cc)
here_named p (v ∷ vs) k x m r e =
    here_if (same_arms v.list p) x k m r p (names_here p (suc k) vs) ((j : ℕ) × (x ≡ k + j) × (list_at (v ∷ vs) j ≡ p))
    (λ c h. (0, omega (arith, h), arms_are v.list p c))
    (λ n q. let r = here_named p vs (suc k) x n r q in let z = r.1 in (suc r.0, omega (arith, z), r.2)) e

there_if : (c : Bool) (x k : ℕ) (ns : List Named) → list_any (is_clock_of x) ns ≡ true → list_any (is_clock_of x) (if c then kinds.Clock k ∷ ns else ns) ≡ true
there_if true x k ns e = or_right (x == k) (list_any (is_clock_of x) ns) e
  where
    or_right : (a b : Bool) → b ≡ true → a || b ≡ true
    or_right true b h = refl
    or_right false b h = h
there_if false x k ns e = e

first_if : (c : Bool) (k : ℕ) (ns : List Named) → c ≡ true → list_any (is_clock_of k) (if c then kinds.Clock k ∷ ns else ns) ≡ true
first_if true k ns e = ap (λ t. t || list_any (is_clock_of k) ns) (eq-eqb k k refl)
first_if false k ns e = absurd (cc)

here_listed : (p : List InnerArm) (vs : List Variable) (k j : ℕ) (v : Variable) → nth vs j ≡ Some v → v.list ≡ p → list_any (is_clock_of (k + j)) (names_here p k vs) ≡ true
here_listed p [] k j v e f = absurd (cc)
here_listed p (u ∷ vs) k zero v e f =
    let s : u ≡ v = cc in
    let z : k ≡ k + 0 = omega arith in
    subst (λ i. list_any (is_clock_of i) (names_here p k (u ∷ vs)) ≡ true) z
    (first_if (same_arms u.list p) k (names_here p (suc k) vs) (ap (λ (w : Variable). same_arms w.list p) s ∙ ap (λ l. same_arms l p) f ∙ arms_self p))
here_listed p (u ∷ vs) k (suc j) v e f =
    let z : suc k + j ≡ k + suc j = omega arith in
    there_if (same_arms u.list p) (k + suc j) k (names_here p (suc k) vs) (subst (λ i. list_any (is_clock_of i) (names_here p (suc k) vs) ≡ true) z (here_listed p vs (suc k) j v e f))

-- ---- lists of keys

record Same (vs : List Variable) (k : ℕ) (l : Place) : Type 0 where
  pub variable : Variable
  pub is : nth vs k ≡ Some variable
  pub list : variable.list ≡ l

same_at : (ss : List Site) (vs : List Variable) (k : ℕ) (s : Site) → map site_key ss ≡ map variable_key vs → slice_get ss k ≡ Some s → Same vs k s.list
same_at [] vs k s e f = absurd (cc)
same_at (t ∷ ss) [] k s e f = absurd (let n = ap length e in omega (arith, n))
same_at (t ∷ ss) (v ∷ vs) zero s e f =
    let q : t ≡ s = cc in
    record { variable = v; is = refl; list = ap (λ z. (first_key z).1) (sym e) ∙ ap (λ (z : Site). z.list) q }
  where
    first_key : List (ℕ × Place) → ℕ × Place
    first_key [] = (v.name, v.list)
    first_key (x ∷ xs) = x
same_at (t ∷ ss) (v ∷ vs) (suc k) s e f = let r = same_at ss vs k s (ap rest e) f in record { variable = r.variable; is = r.is; list = r.list }
  where
    rest : List (ℕ × Place) → List (ℕ × Place)
    rest [] = []
    rest (x ∷ xs) = xs

nth_below : {A : Type 0} (xs : List A) (k : ℕ) (x : A) → nth xs k ≡ Some x → k < length xs
nth_below [] k x e = absurd (cc)
nth_below (y ∷ xs) zero x e = omega arith
nth_below (y ∷ xs) (suc k) x e = let h = nth_below xs k x e in omega (arith, h)

each_weaker : {A : Type 0} (Q Q' : A → Type 0) (xs : List A) → ((x : A) → Q x → Q' x) → Each Q xs → Each Q' xs
each_weaker Q Q' [] f h = tt
each_weaker Q Q' (x ∷ xs) f h = (f x h.0, each_weaker Q Q' xs f h.1)

each_mapped : {A B : Type 0} (f : A → B) (Q : B → Type 0) (xs : List A) → Each Q (map f xs) → Each (λ x. Q (f x)) xs
each_mapped f Q [] a = tt
each_mapped f Q (x ∷ xs) a = (a.0, each_mapped f Q xs a.1)

module _ (d : Judged Plain) (schemes : List ClockScheme) (cases : ℕ → Option ℕ) (notes : List Note) (body : BodyOf Note) (is : in_body Note Use use_of body ≡ R.resolved_body d)
    (sound : F.fault d ≡ None) (heads : SchemesOf d.known.defs schemes) where
  abbrev D : Facts Note
  D = facts_of schemes cases d.params (F.marks d) notes body

  abbrev first : ℕ
  first = length d.params

  abbrev function : Note → Bool
  function n = is_function n.ty

  abbrev signal : Expr Note → Bool
  signal e = is_signal e.note.ty

  abbrev h : Sight
  h = F.sight d

  abbrev g : found.Found Note
  g = found.find Note first cases signal body

  abbrev V : List Variable
  V = g.vars

  abbrev bad : Place → Claim → Bool
  bad p c = F.unbound_claim d p c || F.mixed_claim d p c

  -- a variable of scope is that of the same number
  variable_is : (k : ℕ) (s : Site) → slice_get h.vars k ≡ Some s → Same V k s.list
  variable_is k s e = same_at (F.variables (P.contents_of Note first body).sites) V k s (variables_alike Note first cases signal body)
      (ap (λ z. slice_get (F.variables z) k) (sym (Tr.sites_same use_of d body is)) ∙ e)

  list_is : (k : ℕ) (l : Place) → Same V k l → list_at V k ≡ l
  list_is k l s = ap list_of s.is ∙ s.list

  -- the facts with the clock names of the variables that the list of a place binds alone
  abbrev At : Place → Facts Note
  At p = record D { names = names_here p 0 V }

  var_here : (k : ℕ) (p : Place) → Holding h.vars p k → F.wrong_use d p (binder.Var k) (at mark.Clock) ≡ false → IsName schemes (At p) (binder.Var k)
  var_here k p s w =
      let wrong : F.wrong_variable (F.is_signal h s.site) s.site p (at mark.Clock) ≡ false =
      Sc.or_false (F.wrong_variable (F.is_signal h s.site) s.site p (at mark.Clock))
      (sym (ap (λ o. list_any (λ v. F.wrong_variable (F.is_signal h v) v p (at mark.Clock)) (option_list o)) s.is) ∙ w) in
      let same : same_place s.site.list p ≡ true = (and_parts (clock_way s.site.way) (same_place s.site.list p) (not_false (clock_way s.site.way && same_place s.site.list p) wrong)).1 in
      let v = variable_is k s.site s.is in
      let z : 0 + k ≡ k = omega arith in
      let r = Sc.clock_found k (names_here p 0 V) first (subst (λ i. list_any (is_clock_of i) (names_here p 0 V) ≡ true) z (here_listed p V 0 k v.variable v.is (v.list ∙ same_is s.site.list p same))) in
      (r.item, r.is)

  name_here : (z : Binder) (p : Place) → InSight h d.known.enums p z → Sc.is_case z ≡ false → is_nothing z ≡ false → F.wrong_use d p z (at mark.Clock) ≡ false → IsName schemes (At p) z
  name_here binder.Nothing p s c n w = absurd (cc)
  name_here (binder.Case t k) p s c n w = absurd (cc)
  name_here (binder.Var k) p s c n w = var_here k p s w
  name_here (binder.Param k) p s c n w = let r = Sc.param_found d.params k 0 s in (r.item, r.is)
  name_here (binder.Def k) p s c n w =
      let e = Sc.item_at h.defs k s in
      let wrong = sym (ap (λ o. list_any (λ v. F.wrong_def v (at mark.Clock)) (option_list o)) e.is) ∙ w in
      absurd (cc)

  condition_here : (p : Place) (x : ℕ) → bad p (named (binder_at h p x) x (at mark.Clock)) ≡ false → IsName schemes (At p) (binder_at h p x)
  condition_here p x b =
      let parts = or_parts (is_nothing (binder_at h p x)) (F.wrong_use d p (binder_at h p x) (at mark.Clock)) b in
      name_here (binder_at h p x) p (binder_in_sight h d.known.enums p x) (Sc.no_case (F.place_where (F.seen_at x p) h.vars) (F.place_of x h.params) (F.place_of x (F.titles h.defs))) parts.0 parts.1

  -- ---- each layer of a whole expression

  abbrev Sighted : Place → Binder → Type 0
  Sighted p z = InSight h d.known.enums p z

  record LayerUsed (p : Place) (l : Layer Note) : Type 0 where
    pub sight : Sighted p l.note.bound
    pub form : FormGiven schemes l.note l.form → FormScoped schemes (At p) l.note l.form

  abbrev UsedAt : Expr Note × Place → Type 0
  UsedAt x = Each (LayerUsed x.1) (layers Note function x.0)

  layers_used : (p : Place) (ls : List (Layer Note)) → Each (λ (l : Layer Note). Sighted p l.note.bound) ls → Each (λ (l : Layer Note). FormGiven schemes l.note l.form → FormScoped schemes (At p) l.note l.form) ls → Each (LayerUsed p) ls
  layers_used p [] a b = tt
  layers_used p (l ∷ ls) a b = (record { sight = a.0; form = b.0 }, layers_used p ls a.1 b.1)

  abbrev notes_of : List (Layer Note) → List Note
  notes_of [] = []
  notes_of (l ∷ ls) = l.note ∷ notes_of ls

  layers_each : (Q : Note → Type 0) (ls : List (Layer Note)) (ns : List Note) → notes_of ls ≡ ns → Each Q ns → Each (λ (l : Layer Note). Q l.note) ls
  layers_each Q ls ns e a = go ls (subst (Each Q) (sym e) a)
    where
      go : (ls : List (Layer Note)) → Each Q (notes_of ls) → Each (λ (l : Layer Note). Q l.note) ls
      go [] a = tt
      go (l ∷ ls) a = (a.0, go ls a.1)

  sights : (e : Expr Note) (p : Place) → map use_of (Or.notes Note e) ≡ uses (binder_at h p) (R.case_of d.known) e → Each (λ (l : Layer Note). Sighted p l.note.bound) (layers Note function e)
  sights e p same =
      let Q : Use → Type 0 = λ u. Sighted p u.bound in
      layers_each (λ (n : Note). Sighted p n.bound) (layers Note function e) (Or.notes Note e) (exprs_are Note function e)
      (each_mapped use_of Q (Or.notes Note e) (subst (Each Q) (sym same) (uses_in_sight Note h d.known p e)))

  all_used : (rs : List (P.Reading Note)) → any_claim (F.unbound_claim d) (map (asked_by h) rs) ≡ false → any_claim (F.mixed_claim d) (map (asked_by h) rs) ≡ false
      → Each (Tr.NotesAre use_of h d.known) rs → Each UsedAt (placed_exprs rs)
  all_used [] u m n = tt
  all_used (reads e s p ∷ rs) u m n =
      let cs = claims h.defs (binder_at h p) e s in
      let u' = or_parts (list_any (F.unbound_claim d p) cs) (any_claim (F.unbound_claim d) (map (asked_by h) rs)) u in
      let m' = or_parts (list_any (F.mixed_claim d p) cs) (any_claim (F.mixed_claim d) (map (asked_by h) rs)) m in (
        layers_used p (layers Note function e) (sights e p n.0)
            (expr_good schemes (At p) function (bad p) refl h.defs (Sc.scheme_at h.defs schemes heads) (binder_at h p) (R.case_of d.known) (condition_here p) e s n.0
            (Sc.any_both d schemes cases notes body is sound heads p cs u'.0 m'.0)),
        all_used rs u'.1 m'.1 n.1,
      )
  all_used (tests x p ∷ rs) u m n =
      let cs = named (binder_at h p x) x questioned ∷ [] in
      all_used rs (or_parts (list_any (F.unbound_claim d p) cs) (any_claim (F.unbound_claim d) (map (asked_by h) rs)) u).1 (or_parts (list_any (F.mixed_claim d p) cs) (any_claim (F.mixed_claim d) (map (asked_by h) rs)) m).1 n.1

  wholes_used : Each (λ (w : Whole Note). UsedAt (whole_key w)) g.exprs
  wholes_used =
      let rs = Tr.readings use_of d body is in
      each_mapped whole_key UsedAt g.exprs (subst (Each UsedAt) (exprs_alike Note first cases signal body)
      (all_used rs (subst (λ z. any_claim (F.unbound_claim d) z ≡ false) (Tr.asks_same use_of d body is) (Sc.none_unbound d schemes cases notes body is sound heads))
      (subst (λ z. any_claim (F.mixed_claim d) z ≡ false) (Tr.asks_same use_of d body is) (Sc.none_mixed d schemes cases notes body is sound heads)) (Tr.all_notes use_of d body is)))

  -- ---- each node

  sight_of : (p : found.Place) (z : Binder) → Sighted (found.arms p) z → M.InSight schemes V p z
  sight_of p (binder.Var k) s =
      let v = variable_is k s.site s.is in
      let r = holds_begins s.site.list (found.arms p) s.inside in
      (nth_below V k v.variable v.is, ap₂ starts_with r.1 (list_is k s.site.list v) ∙ starts_on s.site.list r.0)
  sight_of p binder.Nothing s = tt
  sight_of p (binder.Param k) s = tt
  sight_of p (binder.Def k) s = tt
  sight_of p (binder.Case t k) s = tt

  here_of : (p : found.Place) (z : Binder) → IsName schemes (At (found.arms p)) z → Here schemes V p z
  here_of p (binder.Var k) n = let r = here_named (found.arms p) V 0 k first n.0 n.1 in let z = r.1 in let s : r.0 ≡ k = omega (arith, z) in subst (λ j. list_at V j ≡ found.arms p) s r.2
  here_of p binder.Nothing n = tt
  here_of p (binder.Param k) n = tt
  here_of p (binder.Def k) n = tt
  here_of p (binder.Case t k) n = tt

  here_at : (p : found.Place) (o : Option Note) → S.IsNameAt schemes (At (found.arms p)) o → HereAt schemes V p o
  here_at p None n = absurd n
  here_at p (Some a) n = here_of p a.bound n

  given_here : (p : found.Place) (args : List Note) (o : Option ClockScheme) → S.GivesNames schemes (At (found.arms p)) args o → GivenHere schemes V p args o
  given_here p args None n = tt
  given_here p args (Some s) n = each_weaker (λ q. S.IsNameAt schemes (At (found.arms p)) (nth args q)) (λ q. HereAt schemes V p (nth args q)) s.names (λ q a. here_at p (nth args q) a) n

  call_here : (p : found.Place) (args : List Note) (z : Binder) → S.CallScoped schemes (At (found.arms p)) args z → CallHere schemes V p args z
  call_here p args (binder.Def j) n = given_here p args (nth schemes j) n
  call_here p args binder.Nothing n = tt
  call_here p args (binder.Var k) n = tt
  call_here p args (binder.Param k) n = tt
  call_here p args (binder.Case t k) n = tt

  form_here : (p : found.Place) (n : Note) (x : Form-F Note (Unit {0}) Note) → FormScoped schemes (At (found.arms p)) n x → FormHere schemes V p n x
  form_here p n (Form-F.Leaf l) s = tt
  form_here p n (Form-F.Case x) s = tt
  form_here p n (Form-F.Var x) s = tt
  form_here p n (Form-F.Last x) s = tt
  form_here p n (Form-F.Asked x) s = tt
  form_here p n (Form-F.Op o args) s = tt
  form_here p n (Form-F.Tuple all) s = tt
  form_here p n (Form-F.Pre e) s = tt
  form_here p n (Form-F.Fby x y) s = tt
  form_here p n (Form-F.Init x y) s = tt
  form_here p n (Form-F.When e x k) s = here_of p n.bound s
  form_here p n (Form-F.Merge x all) s = here_of p n.bound s
  form_here p n (Form-F.Call run x args every) s = call_here p args n.bound s

  abbrev GivenNode : Layer Note × found.Place → Type 0
  GivenNode n = FormGiven schemes n.0.note n.0.form

  placed_used : (p : found.Place) (ls : List (Layer Note)) → Each (LayerUsed (found.arms p)) ls → Each GivenNode (placed Note p ls) → Each (NodeUsed schemes V) (placed Note p ls)
  placed_used p [] l k = tt
  placed_used p (x ∷ ls) l k = (record { sight = sight_of p x.note.bound l.0.sight; here = form_here p x.note x.form (l.0.form k.0) }, placed_used p ls l.1 k.1)

  nodes_used : (ws : List (Whole Note)) → Each (λ (w : Whole Note). UsedAt (whole_key w)) ws → Each GivenNode (nodes_of Note function ws) → Each (NodeUsed schemes V) (nodes_of Note function ws)
  nodes_used [] l k = tt
  nodes_used (w ∷ ws) l k =
      let xs = placed Note w.place (layers Note function w.expr) in
      all_both (NodeUsed schemes V) xs (nodes_of Note function ws) (placed_used w.place (layers Note function w.expr) l.0 (all_left GivenNode xs (nodes_of Note function ws) k))
      (nodes_used ws l.1 (all_right GivenNode xs (nodes_of Note function ws) k))

  pub used : AllGiven schemes D → Each (NodeUsed schemes V) D.nodes
  used given = nodes_used g.exprs wholes_used given
