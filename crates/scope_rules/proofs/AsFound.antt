-- The walk of scope and `find` go through a body alike: they bind the same variables, meet the same expressions and count the same clock names.
use Rattle.std.specs.Prelude.{◌≡◌, ℕ, suc, ◌+◌, ◌==◌, ◌&&◌, ◌||◌, Bool, true, false, List, [], ◌∷◌, ◌++◌, map, length, slice_set, Option, Some, None, option_map, is_some, unwrap_or, if◌then◌else◌, refl}
use Rattle.std.specs.List.{list_any}
use Rattle.std.proofs.Common.{ap, ap₂, sym, ◌∙◌, subst, append_assoc, arith}
use Rattle.std.proofs.lemmas.List.{length-append, length-set}
use Rattle.ls_ast.specs.declared.tree.Pat.{Pat, fold-Pat}
use Rattle.ls_ast.specs.declared.tree.Pat.TheOpen.{Pat-F}
use Rattle.ls_ast.specs.declared.tree.BodyOf.{BodyOf}
use Rattle.ls_ast.specs.declared.tree.Expr.{Expr}
use Rattle.ls_ast.specs.declared.tree.Equation.{Equation}
use Rattle.ls_ast.specs.declared.tree.Equation.TheOpen.{Equation-F, Arm-F, Guard-F, Handler-F, State-F, Test-F}
use Rattle.ls_places.specs.Places as F
use Rattle.ls_places.specs.Patterns as FP
use Rattle.ls_places.specs.declared.around.Where as around_of
use Rattle.ls_places.specs.declared.places.Frame.TheVariants as frame
use Rattle.ls_places.specs.declared.places.Named.{Named}
use Rattle.ls_places.specs.declared.places.Right.{Right}
use Rattle.ls_places.specs.declared.places.Right.TheVariants as rhs
use Rattle.ls_places.specs.declared.places.Named.TheVariants as named
use Rattle.ls_places.specs.declared.places.Variable.{Variable}
use Rattle.scope_rules.specs.Places as P
use Rattle.scope_rules.specs.Places.{Place, Where, Site, Way, Stand, Reading, reads, tests, whole, stream}
use Rattle.scope_rules.specs.declared.places.Way.TheVariants as way
use Rattle.scope_rules.specs.Faults.{place_from, place_where, of_list, with_site, first_sites, variables}
use Rattle.scope_rules.specs.Laws.{site_key, variable_key, placed_exprs, whole_key}
use Rattle.tree_notes.proofs.RelatedEquations.{related_equations, lefts_Equation, lefts_Arm, lefts_Guard, lefts_Handler, lefts_State, lefts_Test, rights_Equation, rights_Arm, rights_Guard, rights_Handler, rights_State, rights_Test}

-- lists

end_nil : {A : Type 0} (xs : List A) → xs ++ [] ≡ xs
end_nil [] = refl
end_nil (x ∷ xs) = ap (λ z. x ∷ z) (end_nil xs)

map_end : {A B : Type 0} (f : A → B) (xs : List A) (x : A) → map f (xs ++ x ∷ []) ≡ map f xs ++ f x ∷ []
map_end f [] x = refl
map_end f (y ∷ xs) x = ap (λ z. f y ∷ z) (map_end f xs x)

-- names of patterns

joined_same : {A : Type 0} (xs : List (List A)) → P.joined xs ≡ FP.joined xs
joined_same [] = refl
joined_same (x ∷ xs) = ap (λ z. x ++ z) (joined_same xs)

pattern_same : (x : Pat-F (List ℕ)) → P.pattern_names x ≡ FP.pattern_names x
pattern_same Pat-F.Any = refl
pattern_same Pat-F.Unit = refl
pattern_same (Pat-F.Var x) = refl
pattern_same (Pat-F.Tuple parts) = joined_same parts

names_same : (p : Pat) → P.names_of p ≡ FP.names_of p
names_same p = λ i. fold-Pat (List ℕ) (λ x. pattern_same x i) p

-- places

arms_same : (p q : Place) → F.same_arms p q ≡ P.same_place p q
arms_same [] [] = refl
arms_same [] (b ∷ q) = refl
arms_same (a ∷ p) [] = refl
arms_same (a ∷ p) (b ∷ q) = ap (λ z. a.0 == b.0 && (a.1 == b.1 && z)) (arms_same p q)

arms_on : (p q : F.Place) → F.arms (p ++ q) ≡ F.arms p ++ F.arms q
arms_on [] q = refl
arms_on (frame.Reset r ∷ p) q = arms_on p q
arms_on (frame.Arm m j ∷ p) q = ap (λ z. (m, j) ∷ z) (arms_on p q)

in_reset_same : (r : ℕ) (p : F.Place) → F.arms p ≡ F.arms (p ++ frame.Reset r ∷ [])
in_reset_same r p = sym (arms_on p (frame.Reset r ∷ []) ∙ end_nil (F.arms p))

-- the two tell the same place
record At (w : Where) (v : around_of.Where) : Type 0 where
  pub list : w.list ≡ F.arms (F.spot v)
  pub around : P.around w ≡ F.arms v.place

reset_spot : (r : ℕ) (p : F.Place) (o : Option F.Place) → F.arms (unwrap_or o p) ≡ F.arms (unwrap_or o (p ++ frame.Reset r ∷ []))
reset_spot r p (Some q) = refl
reset_spot r p None = in_reset_same r p

at_reset : (r : ℕ) (w : Where) (v : around_of.Where) → At w v → At w (F.in_reset r v)
at_reset r w v a = record { list = a.list ∙ reset_spot r v.place v.block; around = a.around ∙ in_reset_same r v.place }

at_do : (m j : ℕ) (w : Where) (v : around_of.Where) → At w v → At (P.in_do m j w) (F.in_do m j v)
at_do m j w v a = record {
  list = a.list;
  around = sym (append_assoc w.list w.inner ((m, j) ∷ [])) ∙ ap (λ z. z ++ (m, j) ∷ []) a.around ∙ sym (arms_on v.place (frame.Arm m j ∷ []));
}

at_let : (m j : ℕ) (w : Where) (v : around_of.Where) → At w v → At (P.in_let m j w) (F.in_let m j v)
at_let m j w v a =
    let here' : P.around w ++ (m, j) ∷ [] ≡ F.arms (v.place ++ frame.Arm m j ∷ []) = ap (λ z. z ++ (m, j) ∷ []) a.around ∙ sym (arms_on v.place (frame.Arm m j ∷ [])) in
    record { list = here'; around = end_nil (P.around w ++ (m, j) ∷ []) ∙ here' }

-- variables by their names and lists

abbrev key_is : ℕ → Place → ℕ × Place → Bool
key_is x l k = k.0 == x && P.same_place k.1 l

found_some : (b : Bool) (k : ℕ) (o : Option ℕ) (r : Bool) → is_some o ≡ r → is_some (if b then Some k else o) ≡ b || r
found_some true k o r e = refl
found_some false k o r e = e

site_there : (x : ℕ) (l : Place) (ss : List Site) (k : ℕ) → is_some (place_from (of_list x l) ss k) ≡ list_any (key_is x l) (map site_key ss)
site_there x l [] k = refl
site_there x l (s ∷ ss) k = found_some (of_list x l s) k (place_from (of_list x l) ss (suc k)) (list_any (key_is x l) (map site_key ss)) (site_there x l ss (suc k))

variable_there : (x : ℕ) (l : Place) (vs : List Variable) (k : ℕ) → is_some (F.place_of x l vs k) ≡ list_any (key_is x l) (map variable_key vs)
variable_there x l [] k = refl
variable_there x l (v ∷ vs) k =
    found_some (v.name == x && F.same_arms v.list l) k (F.place_of x l vs (suc k)) (list_any (key_is x l) (map variable_key vs)) (variable_there x l vs (suc k))
    ∙ ap (λ z. (v.name == x && z) || list_any (key_is x l) (map variable_key vs)) (arms_same v.list l)

abbrev with_key : List (ℕ × Place) → ℕ → Place → List (ℕ × Place)
with_key keys x l = if list_any (key_is x l) keys then keys else keys ++ (x, l) ∷ []

site_added : (b : Bool) (done : List Site) (s : Site) → map site_key (if b then done else done ++ s ∷ []) ≡ (if b then map site_key done else map site_key done ++ site_key s ∷ [])
site_added true done s = refl
site_added false done s = map_end site_key done s

site_with : (done : List Site) (s : Site) → map site_key (with_site done s) ≡ with_key (map site_key done) s.var s.list
site_with done s =
    site_added (is_some (place_where (of_list s.var s.list) done)) done s
    ∙ ap (λ b. if b then map site_key done else map site_key done ++ site_key s ∷ []) (site_there s.var s.list done 0)

variable_added : (x : ℕ) (signal : Bool) (v : around_of.Where) (b : F.Bound) (o : Option ℕ)
    → map variable_key (F.bind_at x signal v b o).0 ≡ (if is_some o then map variable_key b.0 else map variable_key b.0 ++ (x, F.arms (F.spot v)) ∷ [])
variable_added x signal v b (Some k) = refl
variable_added x signal v b None = map_end variable_key b.0 (record { name = x; list = F.arms (F.spot v); place = F.spot v; signal = signal })

variable_with : (x : ℕ) (signal : Bool) (v : around_of.Where) (b : F.Bound) → map variable_key (F.bind x signal v b).0 ≡ with_key (map variable_key b.0) x (F.arms (F.spot v))
variable_with x signal v b =
    variable_added x signal v b (F.place_of x (F.arms (F.spot v)) b.0 0)
    ∙ ap (λ c. if c then map variable_key b.0 else map variable_key b.0 ++ (x, F.arms (F.spot v)) ∷ []) (variable_there x (F.arms (F.spot v)) b.0 0)

more_sites : (done ss : List Site) (s : Site) → first_sites done (ss ++ s ∷ []) ≡ with_site (first_sites done ss) s
more_sites done [] s = refl
more_sites done (t ∷ ss) s = more_sites (with_site done t) ss s

counted : {A : Type 0} (k first : ℕ) (xs : List A) (x : A) → k ≡ first + length xs → k + 1 ≡ first + length (xs ++ x ∷ [])
counted k first xs x e = let l = length-append xs (x ∷ []) in omega (arith, e, l)

two_counted : {A : Type 0} (k first : ℕ) (xs : List A) (x y : A) → k ≡ first + length xs → k + 2 ≡ first + length ((xs ++ x ∷ []) ++ y ∷ [])
two_counted k first xs x y e = let l = length-append xs (x ∷ []) in let m = length-append (xs ++ x ∷ []) (y ∷ []) in omega (arith, e, l, m)

module _ {N : Type 0} where
  read_end : (rs : List (Reading N)) (e : Expr N) (s : Stand) (p : Place) → placed_exprs (rs ++ reads e s p ∷ []) ≡ placed_exprs rs ++ (e, p) ∷ []
  read_end [] e s p = refl
  read_end (reads d t q ∷ rs) e s p = ap (λ z. (d, q) ∷ z) (read_end rs e s p)
  read_end (tests x q ∷ rs) e s p = read_end rs e s p

  test_end : (rs : List (Reading N)) (x : ℕ) (p : Place) → placed_exprs (rs ++ tests x p ∷ []) ≡ placed_exprs rs
  test_end [] x p = refl
  test_end (reads d t q ∷ rs) x p = ap (λ z. (d, q) ∷ z) (test_end rs x p)
  test_end (tests y q ∷ rs) x p = test_end rs x p

module _ (N : Type 0) (first : ℕ) (cases : ℕ → Option ℕ) (signal : Expr N → Bool) where
  abbrev C : Type 0
  C = P.Contents N

  abbrev G : Type 0
  G = F.Found N

  -- the same variables, expressions and number of clock names
  record Same (f : C) (g : G) : Type 0 where
    pub vars : map site_key (variables f.sites) ≡ map variable_key g.vars
    pub exprs : placed_exprs f.readings ≡ map whole_key g.exprs
    pub next : f.next ≡ first + length g.names

  bound : (xs : List ℕ) (how : Way) (w : Where) (sig : Bool) (v : around_of.Where) (f : C) (b : F.Bound) → w.list ≡ F.arms (F.spot v)
      → map site_key (variables f.sites) ≡ map variable_key b.0 → map site_key (variables (P.bind_all N how w xs f).sites) ≡ map variable_key (F.bind_all xs sig v b).0
  bound [] how w sig v f b e h = h
  bound (x ∷ xs) how w sig v f b e h = bound xs how w sig v (P.bind N how w x f) (F.bind x sig v b) e (
      ap (map site_key) (more_sites [] f.sites (P.site_at how w x)) ∙ site_with (variables f.sites) (P.site_at how w x)
      ∙ (λ i. with_key (h i) x (e i)) ∙ sym (variable_with x sig v b))

  kept_readings : (xs : List ℕ) (how : Way) (w : Where) (f : C) → (P.bind_all N how w xs f).readings ≡ f.readings
  kept_readings [] how w f = refl
  kept_readings (x ∷ xs) how w f = kept_readings xs how w (P.bind N how w x f)

  kept_next : (xs : List ℕ) (how : Way) (w : Where) (f : C) → (P.bind_all N how w xs f).next ≡ f.next
  kept_next [] how w f = refl
  kept_next (x ∷ xs) how w f = kept_next xs how w (P.bind N how w x f)

  same_bind : (xs : List ℕ) (how : Way) (w : Where) (sig : Bool) (right : Right) (v : around_of.Where) (f : C) (g : G) → At w v → Same f g
      → Same (P.bind_all N how w xs f) (F.site_at N xs sig right v g)
  same_bind xs how w sig right v f g a s = record {
    vars = bound xs how w sig v f (g.vars, []) a.list s.vars;
    exprs = ap placed_exprs (kept_readings xs how w f) ∙ s.exprs;
    next = kept_next xs how w f ∙ s.next;
  }

  same_read : (e : Expr N) (st : Stand) (w : Where) (v : around_of.Where) (f : C) (g : G) → At w v → Same f g → Same (P.read N (reads e st (P.around w)) f) (F.reading N e v.place g)
  same_read e st w v f g a s = record {
    vars = s.vars;
    exprs = read_end f.readings e st (P.around w) ∙ (λ i. s.exprs i ++ (e, a.around i) ∷ []) ∙ sym (map_end whole_key g.exprs (record { expr = e; place = v.place }));
    next = s.next;
  }

  same_tests : (xs : List ℕ) (w : Where) (f : C) (g : G) → Same f g → Same (P.read_tests N xs w f) g
  same_tests [] w f g s = s
  same_tests (x ∷ xs) w f g s = same_tests xs w (P.read N (tests x (P.around w)) f) g (record {
    vars = s.vars;
    exprs = test_end f.readings x (P.around w) ∙ s.exprs;
    next = s.next;
  })

  -- what is alike

  abbrev R1 : P.Walk N → F.Walk N → Type 0
  R1 a b = (w : Where) (v : around_of.Where) (f : C) (g : G) → At w v → Same f g → Same (a w f) (b v g)

  abbrev R4 : P.InArm N → F.InArm N → Type 0
  R4 a b = (m j : ℕ) (w : Where) (v : around_of.Where) (f : C) (g : G) → At w v → Same f g → Same (a m j w f) (b m j v g)

  abbrev R2 : P.AnArm N → F.AnArm N → Type 0
  R2 a b = R4 a.walk b.walk

  abbrev R3 : P.AGuard N → F.AGuard N → Type 0
  R3 a b = R4 a.walk b.walk

  abbrev R5 : P.AState N → F.AState N → Type 0
  R5 a b = R4 a.walk b.walk

  abbrev R6 : P.ATest N → F.ATest N → Type 0
  R6 a b = R4 a.walk b.walk

  abbrev T1 : Type 0
  T1 = (a : P.Walk N) × (b : F.Walk N) × R1 a b

  abbrev T2 : Type 0
  T2 = (a : P.AnArm N) × (b : F.AnArm N) × R2 a b

  abbrev T3 : Type 0
  T3 = (a : P.AGuard N) × (b : F.AGuard N) × R3 a b

  abbrev T4 : Type 0
  T4 = (a : P.InArm N) × (b : F.InArm N) × R4 a b

  abbrev T5 : Type 0
  T5 = (a : P.AState N) × (b : F.AState N) × R5 a b

  abbrev T6 : Type 0
  T6 = (a : P.ATest N) × (b : F.ATest N) × R6 a b

  all_alike : (qs : List T1) (w : Where) (v : around_of.Where) (f : C) (g : G) → At w v → Same f g
      → Same (P.walk_all N (map {A = T1} {B = P.Walk N} (λ p. p.0) qs) w f) (F.walk_all N (map {A = T1} {B = F.Walk N} (λ p. p.1) qs) v g)
  all_alike [] w v f g a s = s
  all_alike (q ∷ qs) w v f g a s = all_alike qs w v (q.0 w f) (q.1 v g) a (q.2 w v f g a s)

  arms_alike : (all : List T2) (m j : ℕ) (w : Where) (v : around_of.Where) (f : C) (g : G) → At w v → Same f g
      → Same (P.arms_from N m j (P.arm_walks N (map {A = T2} {B = P.AnArm N} (λ p. p.0) all)) w f) (F.arms_from N m j (F.arm_walks N (map {A = T2} {B = F.AnArm N} (λ p. p.1) all)) v g)
  arms_alike [] m j w v f g a s = s
  arms_alike (q ∷ all) m j w v f g a s = arms_alike all m (suc j) w v (q.0.walk m j w f) (q.1.walk m j v g) a (q.2 m j w v f g a s)

  states_alike : (all : List T5) (m j : ℕ) (w : Where) (v : around_of.Where) (f : C) (g : G) → At w v → Same f g
      → Same (P.arms_from N m j (P.state_walks N (map {A = T5} {B = P.AState N} (λ p. p.0) all)) w f) (F.arms_from N m j (F.state_walks N (map {A = T5} {B = F.AState N} (λ p. p.1) all)) v g)
  states_alike [] m j w v f g a s = s
  states_alike (q ∷ all) m j w v f g a s = states_alike all m (suc j) w v (q.0.walk m j w f) (q.1.walk m j v g) a (q.2 m j w v f g a s)

  guards_alike : (all : List T3) (m j : ℕ) (w : Where) (v : around_of.Where) (f : C) (g : G) → At w v → Same f g
      → Same (P.walk_guards N (map {A = T3} {B = P.AGuard N} (λ p. p.0) all) m j w f) (F.walk_guards N (map {A = T3} {B = F.AGuard N} (λ p. p.1) all) m j v g)
  guards_alike [] m j w v f g a s = s
  guards_alike (q ∷ all) m j w v f g a s = guards_alike all m j w v (q.0.walk m j w f) (q.1.walk m j v g) a (q.2 m j w v f g a s)

  other_alike : (other : Option T4) (m j : ℕ) (w : Where) (v : around_of.Where) (f : C) (g : G) → At w v → Same f g
      → Same (P.other_arm N m j (option_map {T = T4} {U = P.InArm N} (λ p. p.0) other) w f) (F.arms_from N m j (F.option_list (option_map {T = T4} {U = F.InArm N} (λ p. p.1) other)) v g)
  other_alike None m j w v f g a s = s
  other_alike (Some h) m j w v f g a s = h.2 m j w v f g a s

  tests_alike : (all : List T6) (other : Option T4) (m j n : ℕ) (w : Where) (v : around_of.Where) (f : C) (g : G) → n ≡ j + length (map {A = T6} {B = P.ATest N} (λ p. p.0) all) → At w v → Same f g
      → Same (P.other_arm N m n (option_map {T = T4} {U = P.InArm N} (λ p. p.0) other) w (P.arms_from N m j (P.test_walks N (map {A = T6} {B = P.ATest N} (λ p. p.0) all)) w f))
      (F.arms_from N m j (F.test_walks N (map {A = T6} {B = F.ATest N} (λ p. p.1) all) ++ F.option_list (option_map {T = T4} {U = F.InArm N} (λ p. p.1) other)) v g)
  tests_alike [] other m j n w v f g e a s =
      let same : j ≡ n = omega (arith, e) in
      subst (λ k. Same (P.other_arm N m k (option_map {T = T4} {U = P.InArm N} (λ p. p.0) other) w f) (F.arms_from N m j (F.option_list (option_map {T = T4} {U = F.InArm N} (λ p. p.1) other)) v g))
      same (other_alike other m j w v f g a s)
  tests_alike (q ∷ all) other m j n w v f g e a s = tests_alike all other m (suc j) n w v (q.0.walk m j w f) (q.1.walk m j v g) (omega (arith, e)) a (q.2 m j w v f g a s)

  present_alike : (all : List T6) (other : Option T4) (w : Where) (v : around_of.Where) (f : C) (g : G) → At w v → Same f g
      → Same (P.other_arm N f.next (length (map {A = T6} {B = P.ATest N} (λ p. p.0) all)) (option_map {T = T4} {U = P.InArm N} (λ p. p.0) other) w
      (P.arms_from N f.next 0 (P.test_walks N (map {A = T6} {B = P.ATest N} (λ p. p.0) all)) w (P.count_name N (P.read_tests N (P.test_signals N (map {A = T6} {B = P.ATest N} (λ p. p.0) all)) w f))))
      (F.arms_from N (first + length g.names) 0 (F.test_walks N (map {A = T6} {B = F.ATest N} (λ p. p.1) all) ++ F.option_list (option_map {T = T4} {U = F.InArm N} (λ p. p.1) other)) v
      (F.open_present N (F.test_signals N (map {A = T6} {B = F.ATest N} (λ p. p.1) all)) v g))
  present_alike all other w v f g a s =
      let xs : List ℕ = P.test_signals N (map {A = T6} {B = P.ATest N} (λ p. p.0) all) in
      let t : Same (P.read_tests N xs w f) g = same_tests xs w f g s in
      let f' : C = P.count_name N (P.read_tests N xs w f) in
      let g' : G = F.open_present N (F.test_signals N (map {A = T6} {B = F.ATest N} (λ p. p.1) all)) v g in
      let n : ℕ = length (map {A = T6} {B = P.ATest N} (λ p. p.0) all) in
      let u : Same f' g' = record { vars = t.vars; exprs = t.exprs; next = counted (P.read_tests N xs w f).next first g.names _ t.next } in
      subst (λ k. Same (P.other_arm N k n (option_map {T = T4} {U = P.InArm N} (λ p. p.0) other) w (P.arms_from N k 0 (P.test_walks N (map {A = T6} {B = P.ATest N} (λ p. p.0) all)) w f'))
      (F.arms_from N (first + length g.names) 0 (F.test_walks N (map {A = T6} {B = F.ATest N} (λ p. p.1) all) ++ F.option_list (option_map {T = T4} {U = F.InArm N} (λ p. p.1) other)) v g'))
      (sym s.next) (tests_alike all other (first + length g.names) 0 n w v f' g' (omega arith) a u)

  -- the steps

  abbrev s1 : Equation-F N (P.Walk N) (P.AnArm N) (P.AGuard N) (P.InArm N) (P.AState N) (P.ATest N) → P.Walk N
  s1 = P.equation_step N

  abbrev t1 : Equation-F N (F.Walk N) (F.AnArm N) (F.AGuard N) (F.InArm N) (F.AState N) (F.ATest N) → F.Walk N
  t1 = F.equation_step N first cases signal

  abbrev s2 : Arm-F N (P.Walk N) (P.AnArm N) (P.AGuard N) (P.InArm N) (P.AState N) (P.ATest N) → P.AnArm N
  s2 = P.arm_step N

  abbrev t2 : Arm-F N (F.Walk N) (F.AnArm N) (F.AGuard N) (F.InArm N) (F.AState N) (F.ATest N) → F.AnArm N
  t2 = F.arm_step N first cases signal

  abbrev s3 : Guard-F N (P.Walk N) (P.AnArm N) (P.AGuard N) (P.InArm N) (P.AState N) (P.ATest N) → P.AGuard N
  s3 = P.guard_step N

  abbrev t3 : Guard-F N (F.Walk N) (F.AnArm N) (F.AGuard N) (F.InArm N) (F.AState N) (F.ATest N) → F.AGuard N
  t3 = F.guard_step N first cases signal

  abbrev s4 : Handler-F N (P.Walk N) (P.AnArm N) (P.AGuard N) (P.InArm N) (P.AState N) (P.ATest N) → P.InArm N
  s4 = P.handler_step N

  abbrev t4 : Handler-F N (F.Walk N) (F.AnArm N) (F.AGuard N) (F.InArm N) (F.AState N) (F.ATest N) → F.InArm N
  t4 = F.handler_step N first cases signal

  abbrev s5 : State-F N (P.Walk N) (P.AnArm N) (P.AGuard N) (P.InArm N) (P.AState N) (P.ATest N) → P.AState N
  s5 = P.state_step N

  abbrev t5 : State-F N (F.Walk N) (F.AnArm N) (F.AGuard N) (F.InArm N) (F.AState N) (F.ATest N) → F.AState N
  t5 = F.state_step N first cases signal

  abbrev s6 : Test-F N (P.Walk N) (P.AnArm N) (P.AGuard N) (P.InArm N) (P.AState N) (P.ATest N) → P.ATest N
  s6 = P.test_step N

  abbrev t6 : Test-F N (F.Walk N) (F.AnArm N) (F.AGuard N) (F.InArm N) (F.AState N) (F.ATest N) → F.ATest N
  t6 = F.test_step N first cases signal

  step1 : (y : Equation-F N T1 T2 T3 T4 T5 T6) → R1 (s1 (lefts_Equation s1 s2 s3 s4 s5 s6 t1 t2 t3 t4 t5 t6 R1 R2 R3 R4 R5 R6 y)) (t1 (rights_Equation s1 s2 s3 s4 s5 s6 t1 t2 t3 t4 t5 t6 R1 R2 R3 R4 R5 R6 y))
  step1 (Equation-F.Plain p e) w v f g a s =
      subst (λ xs. Same (P.walk_plain N p e w f) (F.site_at N xs (signal e) (rhs.Part p (F.next_expr N g)) v (F.reading N e v.place g))) (names_same p)
      (same_bind (P.names_of p) (P.way_of (P.is_name p) e) w (signal e) (rhs.Part p (F.next_expr N g)) v (P.read N (reads e (P.stand_of (P.is_name p)) (P.around w)) f) (F.reading N e v.place g) a
      (same_read e (P.stand_of (P.is_name p)) w v f g a s))
  step1 (Equation-F.Clock x e) w v f g a s =
      let t = same_bind (x.0 ∷ []) way.Clock w false (rhs.Whole (F.next_expr N g)) v (P.read N (reads e stream (P.around w)) f) (F.reading N e v.place g) a (same_read e stream w v f g a s) in
      record { vars = t.vars; exprs = t.exprs; next = counted f.next first g.names _ s.next }
  step1 (Equation-F.Initial x e) w v f g a s = let t = same_read e stream w v f g a s in record { vars = t.vars; exprs = t.exprs; next = t.next }
  step1 (Equation-F.Emit x e) w v f g a s =
      same_bind (x.0 ∷ []) way.Emitted w true (rhs.Whole (F.next_expr N g)) v (P.read N (reads e stream (P.around w)) f) (F.reading N e v.place g) a (same_read e stream w v f g a s)
  step1 (Equation-F.Reset eqs e) w v f g a s =
      let t = same_read e stream w v f g a s in
      all_alike eqs w (F.in_reset (length g.resets) v) (P.read N (reads e stream (P.around w)) f) (F.open_reset N e v g) (at_reset (length g.resets) w v a) (record { vars = t.vars; exprs = t.exprs; next = t.next })
  step1 (Equation-F.Match e all) w v f g a s =
      let t = same_read e stream w v f g a s in
      let cs : List (Option ℕ) = P.arm_cases N (map {A = T2} {B = P.AnArm N} (λ p. p.0) all) in
      let ds : List (Option ℕ) = F.arm_cases N (map {A = T2} {B = F.AnArm N} (λ p. p.1) all) in
      let f' : C = P.open_match N cs (P.read N (reads e stream (P.around w)) f) in
      let g' : G = F.open_match N e ds v g in
      subst (λ m. Same (P.arms_from N m 0 (P.arm_walks N (map {A = T2} {B = P.AnArm N} (λ p. p.0) all)) w f') (F.arms_from N (first + length g.names) 0 (F.arm_walks N (map {A = T2} {B = F.AnArm N} (λ p. p.1) all)) v g'))
      (sym s.next) (arms_alike all (first + length g.names) 0 w v f' g' a (record { vars = t.vars; exprs = t.exprs; next = counted f.next first g.names _ s.next }))
  step1 (Equation-F.Present all None) w v f g a s = present_alike all None w v f g a s
  step1 (Equation-F.Present all (Some h)) w v f g a s = present_alike all (Some h) w v f g a s
  step1 (Equation-F.Automaton all) w v f g a s =
      let f' : C = P.open_automaton N (P.state_titles N (map {A = T5} {B = P.AState N} (λ p. p.0) all)) (P.state_targets N (map {A = T5} {B = P.AState N} (λ p. p.0) all)) f in
      let g' : G = F.open_modes N v.place g in
      let m : ℕ = first + length g.names in
      let us : List (F.AState N) = map {A = T5} {B = F.AState N} (λ p. p.1) all in
      let f'' : C = P.arms_from N f.next 0 (P.state_walks N (map {A = T5} {B = P.AState N} (λ p. p.0) all)) w f' in
      let g'' : G = F.arms_from N m 0 (F.state_walks N us) v g' in
      let t : Same f'' g'' = subst (λ k. Same (P.arms_from N k 0 (P.state_walks N (map {A = T5} {B = P.AState N} (λ p. p.0) all)) w f') g'')
      (sym s.next) (states_alike all m 0 w v f' g' a (record { vars = s.vars; exprs = s.exprs; next = two_counted f.next first g.names _ _ s.next })) in
      record {
        vars = t.vars;
        exprs = t.exprs;
        next = t.next ∙ ap (λ k. first + k) (sym (length-set (slice_set g''.names (length g.names) (named.Active (F.strongs_from N m 0 us v g') v.place)) (length g.names + 1) (named.Tested (F.weaks_from N m 0 us v g') v.place)
            ∙ length-set g''.names (length g.names) (named.Active (F.strongs_from N m 0 us v g') v.place)));
      }

  step2 : (y : Arm-F N T1 T2 T3 T4 T5 T6) → R2 (s2 (lefts_Arm s1 s2 s3 s4 s5 s6 t1 t2 t3 t4 t5 t6 R1 R2 R3 R4 R5 R6 y)) (t2 (rights_Arm s1 s2 s3 s4 s5 s6 t1 t2 t3 t4 t5 t6 R1 R2 R3 R4 R5 R6 y))
  step2 y m j w v f g a s = y.handler.2 m j w v f g a s

  step3 : (y : Guard-F N T1 T2 T3 T4 T5 T6) → R3 (s3 (lefts_Guard s1 s2 s3 s4 s5 s6 t1 t2 t3 t4 t5 t6 R1 R2 R3 R4 R5 R6 y)) (t3 (rights_Guard s1 s2 s3 s4 s5 s6 t1 t2 t3 t4 t5 t6 R1 R2 R3 R4 R5 R6 y))
  step3 y m j w v f g a s =
      same_read y.cond stream (P.in_let m j w) (F.in_let m j v) (P.walk_all N (map {A = T1} {B = P.Walk N} (λ p. p.0) y.eqs) (P.in_let m j w) f) (F.walk_all N (map {A = T1} {B = F.Walk N} (λ p. p.1) y.eqs) (F.in_let m j v) g)
      (at_let m j w v a) (all_alike y.eqs (P.in_let m j w) (F.in_let m j v) f g (at_let m j w v a) s)

  step4 : (y : Handler-F N T1 T2 T3 T4 T5 T6) → R4 (s4 (lefts_Handler s1 s2 s3 s4 s5 s6 t1 t2 t3 t4 t5 t6 R1 R2 R3 R4 R5 R6 y)) (t4 (rights_Handler s1 s2 s3 s4 s5 s6 t1 t2 t3 t4 t5 t6 R1 R2 R3 R4 R5 R6 y))
  step4 y m j w v f g a s =
      all_alike y.eqs (P.in_do m j w) (F.in_do m j v) (P.walk_all N (map {A = T1} {B = P.Walk N} (λ p. p.0) y.locals) (P.in_let m j w) f) (F.walk_all N (map {A = T1} {B = F.Walk N} (λ p. p.1) y.locals) (F.in_let m j v) g)
      (at_do m j w v a) (all_alike y.locals (P.in_let m j w) (F.in_let m j v) f g (at_let m j w v a) s)

  step5 : (y : State-F N T1 T2 T3 T4 T5 T6) → R5 (s5 (lefts_State s1 s2 s3 s4 s5 s6 t1 t2 t3 t4 t5 t6 R1 R2 R3 R4 R5 R6 y)) (t5 (rights_State s1 s2 s3 s4 s5 s6 t1 t2 t3 t4 t5 t6 R1 R2 R3 R4 R5 R6 y))
  step5 y m j w v f g a s =
      guards_alike y.weak m j w v (P.walk_guards N (map {A = T3} {B = P.AGuard N} (λ p. p.0) y.strong) (m + 1) j w (y.handler.0 m j w f)) (F.walk_guards N (map {A = T3} {B = F.AGuard N} (λ p. p.1) y.strong) (m + 1) j v (y.handler.1 m j v g)) a
      (guards_alike y.strong (m + 1) j w v (y.handler.0 m j w f) (y.handler.1 m j v g) a (y.handler.2 m j w v f g a s))

  tested_alike : (o : Option Pat) (x : ℕ) (w : Where) (v : around_of.Where) (f : C) (g : G) → At w v → Same f g → Same (P.bind_pattern N o w f) (F.bind_pattern N x o v g)
  tested_alike None x w v f g a s = s
  tested_alike (Some p) x w v f g a s = subst (λ xs. Same (P.bind_all N way.Tested w (P.names_of p) f) (F.site_at N xs false (rhs.Pattern x p) v g)) (names_same p)
      (same_bind (P.names_of p) way.Tested w false (rhs.Pattern x p) v f g a s)

  step6 : (y : Test-F N T1 T2 T3 T4 T5 T6) → R6 (s6 (lefts_Test s1 s2 s3 s4 s5 s6 t1 t2 t3 t4 t5 t6 R1 R2 R3 R4 R5 R6 y)) (t6 (rights_Test s1 s2 s3 s4 s5 s6 t1 t2 t3 t4 t5 t6 R1 R2 R3 R4 R5 R6 y))
  step6 y m j w v f g a s =
      y.handler.2 m j w v (P.bind_pattern N y.pat (P.in_let m j w) f) (F.bind_pattern N y.signal.0 y.pat (F.in_let m j v) g) a
      (tested_alike y.pat y.signal.0 (P.in_let m j w) (F.in_let m j v) f g (at_let m j w v a) s)

  equation_alike : (q : Equation N) → R1 (P.walk_of N q) (F.walk_of N first cases signal q)
  equation_alike = related_equations s1 s2 s3 s4 s5 s6 t1 t2 t3 t4 t5 t6 R1 R2 R3 R4 R5 R6 step1 step2 step3 step4 step5 step6

  eqs_alike : (qs : List (Equation N)) (w : Where) (v : around_of.Where) (f : C) (g : G) → At w v → Same f g → Same (P.walk_all N (map (P.walk_of N) qs) w f) (F.walk_all N (map (F.walk_of N first cases signal) qs) v g)
  eqs_alike [] w v f g a s = s
  eqs_alike (q ∷ qs) w v f g a s = eqs_alike qs w v (P.walk_of N q w f) (F.walk_of N first cases signal q v g) a (equation_alike q w v f g a s)

  body_alike : (b : BodyOf N) → Same (P.contents_of N first b) (F.find N first cases signal b)
  body_alike b =
      same_read b.result whole P.at_top F.at_top (P.walk_all N (map (P.walk_of N) b.eqs) P.at_top (P.nothing_yet N first)) (F.walk_body N first cases signal b.eqs F.at_top (F.nothing N))
      (record { list = refl; around = refl })
      (eqs_alike b.eqs P.at_top F.at_top (P.nothing_yet N first) (F.nothing N) (record { list = refl; around = refl }) (record { vars = refl; exprs = refl; next = omega arith }))

  pub variables_alike : (b : BodyOf N) → map site_key (variables (P.contents_of N first b).sites) ≡ map variable_key (F.find N first cases signal b).vars
  variables_alike b = (body_alike b).vars

  pub exprs_alike : (b : BodyOf N) → placed_exprs (P.contents_of N first b).readings ≡ map whole_key (F.find N first cases signal b).exprs
  exprs_alike b = (body_alike b).exprs
