-- The pairs of clocks that the rules ask to be equal commute with substitution.
use Rattle.std.specs.Prelude.{◌≡◌, ℕ, zero, suc, ◌-◌, ◌&&◌, Bool, true, false, not, List, [], ◌∷◌, ◌++◌, map, length, drop, Option, Some, None, option_map, unwrap_or, if◌then◌else◌, refl}
use Rattle.std.proofs.Common.{ap, ap₂, sym, ◌∙◌}
use Rattle.std.proofs.lemmas.List.{map-append, length-map}
use Rattle.ls_ast.specs.declared.tree.Case.{Case}
use Rattle.ls_ast.specs.declared.tree.Form.TheOpen.{Form-F}
use Rattle.ls_terms.specs.declared.clocks.ClockTerm.{ClockTerm}
use Rattle.ls_terms.specs.Clocks.{apply}
use Rattle.ls_places.specs.Places.{Place, InnerArm, arms, place_of}
use Rattle.ls_sig.specs.declared.binder.Binder.{Binder}
use Rattle.ls_sig.specs.declared.binder.Binder.TheVariants as b
use Rattle.ls_sig.specs.declared.binder.Note.{Note}
use Rattle.clock_rules.specs.declared.scheme.ClockScheme.{ClockScheme}
use Rattle.ls_places.specs.declared.places.Named.{Named}
use Rattle.ls_places.specs.declared.places.Named.TheVariants as named
use Rattle.ls_places.specs.declared.places.Right.{Right}
use Rattle.ls_places.specs.declared.places.Right.TheVariants as rhs
use Rattle.ls_places.specs.declared.places.Site.{Site}
use Rattle.ls_places.specs.declared.places.Start.{Start}
use Rattle.ls_places.specs.declared.places.Transition.{Transition}
use Rattle.clock_rules.specs.Terms.{on, arrow, pointwise, instance, is_function, is_comb}
use Rattle.clock_rules.specs.Layers.{Layer, map_choices}
use Rattle.clock_rules.specs.Facts.{Facts}
use Rattle.clock_rules.specs.Rules as R
use Rattle.ls_places.specs.Definitions.{note_clocks}
use Rattle.ls_places.specs.Search.{nth, signal_in}
use Rattle.clock_rules.specs.Rules.{Pair, Clocks, at, sampled, between, innermost, opt_pairs, list_at, param_at, param_named}
use Rattle.clock_rules.specs.Instances.{Subst, in_note, in_clocks, in_pair, in_facts, in_node, map_form}
use Rattle.clock_rules.proofs.Substitution.{apply_on, apply_pointwise, apply_arrow, apply_instance, apply_instances}

pub nth_map : {A B : Type 0} (f : A → B) (xs : List A) (k : ℕ) → nth (map f xs) k ≡ option_map f (nth xs k)
nth_map f [] k = refl
nth_map f (x ∷ xs) zero = refl
nth_map f (x ∷ xs) (suc k) = nth_map f xs k

drop_map : {A B : Type 0} (f : A → B) (n : ℕ) (xs : List A) → drop n (map f xs) ≡ map f (drop n xs)
drop_map f zero xs = refl
drop_map f (suc n) [] = refl
drop_map f (suc n) (x ∷ xs) = drop_map f n xs

if_in : {A B : Type 0} (f : A → B) (t : Bool) (x y : B) (u v : A) → x ≡ f u → y ≡ f v → (if t then x else y) ≡ f (if t then u else v)
if_in f true x y u v p q = p
if_in f false x y u v p q = q

module _ (by : Subst) (sigs : List ClockScheme) (cases : ℕ → Option ℕ) (d : Facts Note) (cs : Clocks) where
  abbrev D : Facts Note
  D = in_facts by d

  abbrev C : Clocks
  C = in_clocks by cs

  abbrev ap_by : ClockTerm → ClockTerm
  ap_by = apply by

  abbrev N : Note → Note
  N = in_note by

  abbrev I : Pair → Pair
  I = in_pair by

  abbrev Is : List Pair → List Pair
  Is = map I

  both : {p q : List Pair} (r s : List Pair) → p ≡ Is r → q ≡ Is s → p ++ q ≡ Is (r ++ s)
  both r s h k = ap₂ (λ x y. x ++ y) h k ∙ sym (map-append I r s)

  pub at_in : (xs : List ClockTerm) (k : ℕ) → at (map ap_by xs) k ≡ ap_by (at xs k)
  at_in xs k = ap (λ o. unwrap_or o pointwise) (nth_map ap_by xs k) ∙ given (nth xs k)
    where
      given : (o : Option ClockTerm) → unwrap_or (option_map ap_by o) pointwise ≡ ap_by (unwrap_or o pointwise)
      given None = sym (apply_pointwise by)
      given (Some t) = refl

  block_clock : (m : ℕ) → R.block sigs cases D C m ≡ ap_by (R.block sigs cases d cs m)
  block_clock m = at_in cs.blocks (m - length d.params)

  -- ---- names

  param_clock_in : (o : Option ℕ) → R.param_clock sigs cases D C o ≡ option_map ap_by (R.param_clock sigs cases d cs o)
  param_clock_in None = refl
  param_clock_in (Some i) = ap (option_map (λ (n : Note). n.ck)) (nth_map N d.notes i) ∙ twice (nth d.notes i)
    where
      twice : (o : Option Note) → option_map (λ (n : Note). n.ck) (option_map N o) ≡ option_map ap_by (option_map (λ (n : Note). n.ck) o)
      twice None = refl
      twice (Some n) = refl

  abbrev Home : Type 0
  Home = ClockTerm × List InnerArm

  abbrev J : Home → Home
  J m = (ap_by m.0, m.1)

  with_list_in : (l : List InnerArm) (o o' : Option ClockTerm) → o' ≡ option_map ap_by o → R.with_list sigs cases D C l o' ≡ option_map J (R.with_list sigs cases d cs l o)
  with_list_in l o o' e = ap (option_map (λ ck. (ck, l))) e ∙ twice o
    where
      twice : (o : Option ClockTerm) → option_map (λ ck. (ck, l)) (option_map ap_by o) ≡ option_map J (option_map (λ ck. (ck, l)) o)
      twice None = refl
      twice (Some t) = refl

  meaning_in : (bound : Binder) → R.meaning sigs cases D C bound ≡ option_map J (R.meaning sigs cases d cs bound)
  meaning_in (b.Var k) = ap (λ z. Some (z, list_at d.vars k)) (at_in cs.vars k)
  meaning_in (b.Param k) = with_list_in [] (R.param_clock sigs cases d cs (param_at k d.params 0)) (R.param_clock sigs cases D C (param_at k d.params 0)) (param_clock_in (param_at k d.params 0))
  meaning_in b.Nothing = refl
  meaning_in (b.Def k) = refl
  meaning_in (b.Case t k) = refl

  number_in : (bound : Binder) → R.number_or sigs cases D C bound ≡ R.number_or sigs cases d cs bound
  number_in (b.Var k) = refl
  number_in (b.Param k) = refl
  number_in b.Nothing = refl
  number_in (b.Def k) = refl
  number_in (b.Case t k) = refl

  opt_in : {A B : Type 0} (j : A → B) (f : A → List Pair) (f' : B → List Pair) → ((x : A) → f' (j x) ≡ Is (f x)) → (o : Option A) → opt_pairs (option_map j o) f' ≡ Is (opt_pairs o f)
  opt_in j f f' h None = refl
  opt_in j f f' h (Some x) = h x

  -- ---- what is seen in arms

  borders_in : (ck : ClockTerm) (p : List InnerArm) → R.borders sigs cases D C (ap_by ck) p ≡ Is (R.borders sigs cases d cs ck p)
  borders_in ck [] = refl
  borders_in ck (a ∷ p) =
      ap₂ (λ y z. (ap_by ck, y) ∷ R.borders sigs cases D C z p) (block_clock a.0) (sym (apply_on by ck a.0 a.1))
      ∙ ap (λ z. (ap_by ck, ap_by (R.block sigs cases d cs a.0)) ∷ z) (borders_in (on ck a.0 a.1) p)

  sampled_in : (ck : ClockTerm) (p : List InnerArm) → sampled (ap_by ck) p ≡ ap_by (sampled ck p)
  sampled_in ck [] = refl
  sampled_in ck (a ∷ p) = ap (λ z. sampled z p) (sym (apply_on by ck a.0 a.1)) ∙ sampled_in (on ck a.0 a.1) p

  seen_in : (ck : ClockTerm) (p : List InnerArm) (here : ClockTerm) → R.seen sigs cases D C (ap_by ck) p (ap_by here) ≡ Is (R.seen sigs cases d cs ck p here)
  seen_in ck p here = both (R.borders sigs cases d cs ck p) ((sampled ck p, here) ∷ []) (borders_in ck p) (ap (λ z. (z, ap_by here) ∷ []) (sampled_in ck p))

  used_in : (n : Note) (p : Place) → R.used sigs cases D C (N n) p ≡ Is (R.used sigs cases d cs n p)
  used_in n p =
      ap (λ o. opt_pairs o (λ m. if is_function n.ty then (m.0, ap_by n.ck) ∷ [] else R.seen_at sigs cases D C p (ap_by n.ck) m)) (meaning_in n.bound)
      ∙ opt_in J (λ m. if is_function n.ty then (m.0, n.ck) ∷ [] else R.seen_at sigs cases d cs p n.ck m)
      (λ m. if is_function n.ty then (m.0, ap_by n.ck) ∷ [] else R.seen_at sigs cases D C p (ap_by n.ck) m)
      (λ m. if_in Is (is_function n.ty) ((ap_by m.0, ap_by n.ck) ∷ []) (R.seen sigs cases D C (ap_by m.0) (between m.1 p) (ap_by n.ck)) ((m.0, n.ck) ∷ []) (R.seen sigs cases d cs m.0 (between m.1 p) n.ck) refl (seen_in m.0 (between m.1 p) n.ck))
      (R.meaning sigs cases d cs n.bound)

  -- ---- calls

  parts_in : (ck : ClockTerm) (ns : List Note) → R.parts_on sigs cases D C (ap_by ck) (map N ns) ≡ Is (R.parts_on sigs cases d cs ck ns)
  parts_in ck [] = refl
  parts_in ck (n ∷ ns) = ap (λ z. (ap_by n.ck, ap_by ck) ∷ z) (parts_in ck ns)

  streams_in : (ck : ClockTerm) (ns : List Note) → R.streams_on sigs cases D C (ap_by ck) (map N ns) ≡ Is (R.streams_on sigs cases d cs ck ns)
  streams_in ck [] = refl
  streams_in ck (n ∷ ns) = both (if is_function n.ty then [] else (n.ck, ck) ∷ []) (R.streams_on sigs cases d cs ck ns)
      (if_in Is (is_function n.ty) [] ((ap_by n.ck, ap_by ck) ∷ []) [] ((n.ck, ck) ∷ []) refl refl) (streams_in ck ns)

  clocks_in : (ns : List Note) → note_clocks (map N ns) ≡ map ap_by (note_clocks ns)
  clocks_in [] = refl
  clocks_in (n ∷ ns) = ap (λ z. ap_by n.ck ∷ z) (clocks_in ns)

  given_in : (args : List Note) (p : ℕ) → R.given_names sigs cases D C (map N args) p ≡ R.given_names sigs cases d cs args p
  given_in args p = ap (λ o. unwrap_or (option_map (λ (n : Note). R.number_or sigs cases D C n.bound) o) 0) (nth_map N args p) ∙ same (nth args p)
    where
      same : (o : Option Note) → unwrap_or (option_map (λ (n : Note). R.number_or sigs cases D C n.bound) (option_map N o)) 0 ≡ unwrap_or (option_map (λ (n : Note). R.number_or sigs cases d cs n.bound) o) 0
      same None = refl
      same (Some n) = number_in n.bound

  meet_in : (cks : List ClockTerm) (ns : List Note) → R.meet sigs cases D C (map ap_by cks) (map N ns) ≡ Is (R.meet sigs cases d cs cks ns)
  meet_in [] [] = refl
  meet_in [] (n ∷ ns) = refl
  meet_in (ck ∷ cks) [] = refl
  meet_in (ck ∷ cks) (n ∷ ns) = ap (λ z. (ap_by ck, ap_by n.ck) ∷ z) (meet_in cks ns)

  condition_in : (bound : Binder) (ck : ClockTerm) → R.condition sigs cases D C bound (ap_by ck) ≡ Is (R.condition sigs cases d cs bound ck)
  condition_in bound ck = ap (λ o. opt_pairs o (λ m. (m.0, ap_by ck) ∷ [])) (meaning_in bound)
      ∙ opt_in J (λ m. (m.0, ck) ∷ []) (λ m. (m.0, ap_by ck) ∷ []) (λ m. refl) (R.meaning sigs cases d cs bound)

  named_in : (args : List Note) (qs : List ℕ) → R.named_pairs sigs cases D C (map N args) qs ≡ Is (R.named_pairs sigs cases d cs args qs)
  named_in args [] = refl
  named_in args (q ∷ qs) = both (opt_pairs (nth args q) (λ n. R.condition sigs cases d cs n.bound n.ck)) (R.named_pairs sigs cases d cs args qs)
      (ap (λ o. opt_pairs o (λ (n : Note). R.condition sigs cases D C n.bound n.ck)) (nth_map N args q)
      ∙ opt_in N (λ n. R.condition sigs cases d cs n.bound n.ck) (λ n. R.condition sigs cases D C n.bound n.ck) (λ n. condition_in n.bound n.ck) (nth args q))
      (named_in args qs)

  module _ (f : List ClockTerm) where
    abbrev g : List ClockTerm
    g = map ap_by f

    -- the instance of a clock of a signature
    instance_in : (args : List Note) (ck : ClockTerm) → instance (R.given_names sigs cases D C (map N args)) (at g) ck ≡ ap_by (instance (R.given_names sigs cases d cs args) (at f) ck)
    instance_in args ck = (λ i. instance (λ p. given_in args p i) (λ v. at_in f v i) ck) ∙ sym (apply_instance by (R.given_names sigs cases d cs args) (at f) ck)

    instances_in : (args : List Note) (cks : List ClockTerm) → R.instances sigs cases D C g (map N args) cks ≡ map ap_by (R.instances sigs cases d cs f args cks)
    instances_in args cks = (λ i. map (instance (λ p. given_in args p i) (λ v. at_in f v i)) cks) ∙ sym (apply_instances by (R.given_names sigs cases d cs args) (at f) cks)

    rest_in : (args : List Note) (s : ClockScheme) → arrow (drop (length (map N args)) (R.instances sigs cases D C g (map N args) s.clocks)) (instance (R.given_names sigs cases D C (map N args)) (at g) s.result)
        ≡ ap_by (arrow (drop (length args) (R.instances sigs cases d cs f args s.clocks)) (instance (R.given_names sigs cases d cs args) (at f) s.result))
    rest_in args s =
        (λ i. arrow (drop (length-map args N i) (instances_in args s.clocks i)) (instance_in args s.result i))
        ∙ ap (λ z. arrow z (ap_by (instance (R.given_names sigs cases d cs args) (at f) s.result))) (drop_map ap_by (length args) (R.instances sigs cases d cs f args s.clocks))
        ∙ sym (apply_arrow by (drop (length args) (R.instances sigs cases d cs f args s.clocks)) (instance (R.given_names sigs cases d cs args) (at f) s.result))

    result_in : (s : ClockScheme) (n : Note) (args : List Note) (holds : Bool) → R.result_pairs sigs cases D C g s (N n) (map N args) holds ≡ Is (R.result_pairs sigs cases d cs f s n args holds)
    result_in s n args holds =
        if_in Is (is_function n.ty)
        (if is_comb n.ty && not holds then [] else (arrow (drop (length (map N args)) (R.instances sigs cases D C g (map N args) s.clocks)) (instance (R.given_names sigs cases D C (map N args)) (at g) s.result), ap_by n.ck) ∷ [])
        ((instance (R.given_names sigs cases D C (map N args)) (at g) s.result, ap_by n.ck) ∷ [])
        (if is_comb n.ty && not holds then [] else (arrow (drop (length args) (R.instances sigs cases d cs f args s.clocks)) (instance (R.given_names sigs cases d cs args) (at f) s.result), n.ck) ∷ [])
        ((instance (R.given_names sigs cases d cs args) (at f) s.result, n.ck) ∷ [])
        (if_in Is (is_comb n.ty && not holds) [] ((arrow (drop (length (map N args)) (R.instances sigs cases D C g (map N args) s.clocks)) (instance (R.given_names sigs cases D C (map N args)) (at g) s.result), ap_by n.ck) ∷ [])
        [] ((arrow (drop (length args) (R.instances sigs cases d cs f args s.clocks)) (instance (R.given_names sigs cases d cs args) (at f) s.result), n.ck) ∷ []) refl (ap (λ z. (z, ap_by n.ck) ∷ []) (rest_in args s)))
        (ap (λ z. (z, ap_by n.ck) ∷ []) (instance_in args s.result))

    definition_in : (n : Note) (args : List Note) (holds : Bool) (o : Option ClockScheme) → R.definition_pairs sigs cases D C g (N n) (map N args) holds o ≡ Is (R.definition_pairs sigs cases d cs f n args holds o)
    definition_in n args holds None = refl
    definition_in n args holds (Some s) =
        both (R.meet sigs cases d cs (R.instances sigs cases d cs f args s.clocks) args) (R.named_pairs sigs cases d cs args s.names ++ R.result_pairs sigs cases d cs f s n args holds)
        (ap (λ z. R.meet sigs cases D C z (map N args)) (instances_in args s.clocks) ∙ meet_in (R.instances sigs cases d cs f args s.clocks) args)
        (both (R.named_pairs sigs cases d cs args s.names) (R.result_pairs sigs cases d cs f s n args holds) (named_in args s.names) (result_in s n args holds))

    run_in : (run : Bool) (n : Note) (args : List Note) (o : Option Home) → R.parameter_pairs sigs cases D C run (N n) (map N args) (option_map J o) ≡ Is (R.parameter_pairs sigs cases d cs run n args o)
    run_in true n args None = refl
    run_in false n args None = refl
    run_in true n args (Some m) = ap (λ z. (ap_by m.0, z) ∷ []) (ap (λ z. arrow z (ap_by n.ck)) (clocks_in args) ∙ sym (apply_arrow by (note_clocks args) n.ck))
    run_in false n args (Some m) = streams_in n.ck args

    parameter_in : (run : Bool) (n : Note) (args : List Note) (bound : Binder) → R.parameter_pairs sigs cases D C run (N n) (map N args) (R.meaning sigs cases D C bound) ≡ Is (R.parameter_pairs sigs cases d cs run n args (R.meaning sigs cases d cs bound))
    parameter_in run n args bound = ap (R.parameter_pairs sigs cases D C run (N n) (map N args)) (meaning_in bound) ∙ run_in run n args (R.meaning sigs cases d cs bound)

    call_in : (run : Bool) (n : Note) (args : List Note) (holds : Bool) (bound : Binder) → R.call_pairs sigs cases D C g run (N n) (map N args) holds bound ≡ Is (R.call_pairs sigs cases d cs f run n args holds bound)
    call_in run n args holds (b.Def k) = definition_in n args holds (nth sigs k)
    call_in run n args holds (b.Var k) = parameter_in run n args (b.Var k)
    call_in run n args holds (b.Param k) = parameter_in run n args (b.Param k)
    call_in run n args holds b.Nothing = parameter_in run n args b.Nothing
    call_in run n args holds (b.Case t k) = parameter_in run n args (b.Case t k)

    name_in : (n : Note) (p : Place) (bound : Binder) → R.name_pairs sigs cases D C g (N n) p bound ≡ Is (R.name_pairs sigs cases d cs f n p bound)
    name_in n p (b.Def k) = definition_in n [] false (nth sigs k)
    name_in n p (b.Var k) = used_in n p
    name_in n p (b.Param k) = used_in n p
    name_in n p b.Nothing = used_in n p
    name_in n p (b.Case t k) = used_in n p

    -- ---- expressions

    branches_in : (ck : ClockTerm) (m m' : ℕ) → m' ≡ m → (all : List (Case × Note)) → R.branch_pairs sigs cases D C (ap_by ck) m' (map_choices N all) ≡ Is (R.branch_pairs sigs cases d cs ck m all)
    branches_in ck m m' e [] = refl
    branches_in ck m m' e (c ∷ all) = ap₂ (λ x xs. (ap_by c.1.ck, x) ∷ xs)
        (ap (λ z. on (ap_by ck) z (R.case_number sigs cases d cs c.0)) e ∙ sym (apply_on by ck m (R.case_number sigs cases d cs c.0))) (branches_in ck m m' e all)

    form_in : (p : Place) (n : Note) (holds : Bool) (x : Form-F Note (Unit {0}) Note) → R.form_pairs sigs cases D C g p (N n) holds (map_form N x) ≡ Is (R.form_pairs sigs cases d cs f p n holds x)
    form_in p n holds (Form-F.Leaf l) = refl
    form_in p n holds (Form-F.Case x) = refl
    form_in p n holds (Form-F.Var x) = name_in n p n.bound
    form_in p n holds (Form-F.Last x) = used_in n p
    form_in p n holds (Form-F.Asked x) = used_in n p
    form_in p n holds (Form-F.Op o args) = parts_in n.ck args
    form_in p n holds (Form-F.Tuple all) = parts_in n.ck all
    form_in p n holds (Form-F.Pre e) = refl
    form_in p n holds (Form-F.Fby x y) = refl
    form_in p n holds (Form-F.Init x y) = refl
    form_in p n holds (Form-F.When e x k) =
        both (R.condition sigs cases d cs n.bound e.ck) ((on e.ck (R.number_or sigs cases d cs n.bound) (R.case_number sigs cases d cs k), n.ck) ∷ []) (condition_in n.bound e.ck)
        (ap (λ z. (z, ap_by n.ck) ∷ []) (ap (λ z. on (ap_by e.ck) z (R.case_number sigs cases d cs k)) (number_in n.bound) ∙ sym (apply_on by e.ck (R.number_or sigs cases d cs n.bound) (R.case_number sigs cases d cs k))))
    form_in p n holds (Form-F.Merge x all) =
        both (R.condition sigs cases d cs n.bound n.ck) (R.branch_pairs sigs cases d cs n.ck (R.number_or sigs cases d cs n.bound) all) (condition_in n.bound n.ck)
        (branches_in n.ck (R.number_or sigs cases d cs n.bound) (R.number_or sigs cases D C n.bound) (number_in n.bound) all)
    form_in p n holds (Form-F.Call run x args every) = call_in run n args holds n.bound

    pub node_in : (node : Layer Note × Place) → R.node_pairs sigs cases D C g (in_node by node) ≡ Is (R.node_pairs sigs cases d cs f node)
    node_in node = form_in node.1 node.0.note node.0.holds node.0.form

  -- ---- equations and blocks

  pattern_in : (x : ℕ) (o : Option InnerArm) → R.pattern_pairs sigs cases D C x o ≡ Is (R.pattern_pairs sigs cases d cs x o)
  pattern_in x None = refl
  pattern_in x (Some a) = ap₂ (λ y z. (y, z) ∷ []) (at_in cs.vars x) (ap (λ z. on z a.0 a.1) (block_clock a.0) ∙ sym (apply_on by (R.block sigs cases d cs a.0) a.0 a.1))

  whole_in : (k : ℕ) (f f' : Note → List Pair) → ((n : Note) → f' (N n) ≡ Is (f n)) → R.whole_pairs sigs cases D C k f' ≡ Is (R.whole_pairs sigs cases d cs k f)
  whole_in k f f' h = ap (λ o. opt_pairs o f') (nth_map N d.wholes k) ∙ opt_in N f f' h (nth d.wholes k)

  right_seen : (x k : ℕ) (s : Site)
      → R.whole_pairs sigs cases D C k (λ n. R.seen sigs cases D C (at C.vars x) s.inner n.ck) ≡ Is (R.whole_pairs sigs cases d cs k (λ n. R.seen sigs cases d cs (at cs.vars x) s.inner n.ck))
  right_seen x k s = whole_in k (λ n. R.seen sigs cases d cs (at cs.vars x) s.inner n.ck) (λ n. R.seen sigs cases D C (at C.vars x) s.inner n.ck)
      (λ n. ap (λ z. R.seen sigs cases D C z s.inner (ap_by n.ck)) (at_in cs.vars x) ∙ seen_in (at cs.vars x) s.inner n.ck)

  right_in : (x : ℕ) (s : Site) (r : Right) → R.right_pairs sigs cases D C x s r ≡ Is (R.right_pairs sigs cases d cs x s r)
  right_in x s (rhs.Part p k) = right_seen x k s
  right_in x s (rhs.Whole k) = right_seen x k s
  right_in x s (rhs.Pattern y p) = pattern_in x (innermost (arms s.place))

  vars_in : (s : Site) (xs : List ℕ) → R.vars_pairs sigs cases D C s xs ≡ Is (R.vars_pairs sigs cases d cs s xs)
  vars_in s [] = refl
  vars_in s (x ∷ xs) = both (R.right_pairs sigs cases d cs x s s.right) (R.vars_pairs sigs cases d cs s xs) (right_in x s s.right) (vars_in s xs)

  sites_in : (all : List Site) → R.sites_pairs sigs cases D C all ≡ Is (R.sites_pairs sigs cases d cs all)
  sites_in [] = refl
  sites_in (s ∷ all) = both (R.site_pairs sigs cases d cs s) (R.sites_pairs sigs cases d cs all) (vars_in s s.vars) (sites_in all)

  begin_in : (s : Start) (o : Option ℕ) → R.begin_pairs sigs cases D C s o ≡ Is (R.begin_pairs sigs cases d cs s o)
  begin_in s None = refl
  begin_in s (Some x) = whole_in s.right (λ n. (at cs.vars x, n.ck) ∷ []) (λ n. (at C.vars x, n.ck) ∷ []) (λ n. ap (λ z. (z, ap_by n.ck) ∷ []) (at_in cs.vars x))

  starts_in : (all : List Start) → R.starts_pairs sigs cases D C all ≡ Is (R.starts_pairs sigs cases d cs all)
  starts_in [] = refl
  starts_in (s ∷ all) = both (R.start_pairs sigs cases d cs s) (R.starts_pairs sigs cases d cs all) (begin_in s (place_of s.name s.list d.vars 0)) (starts_in all)

  signal_meaning_in : (x : ℕ) (o : Option ℕ) → R.signal_meaning sigs cases D C x o ≡ option_map J (R.signal_meaning sigs cases d cs x o)
  signal_meaning_in x (Some k) = ap (λ z. Some (z, list_at d.vars k)) (at_in cs.vars k)
  signal_meaning_in x None = with_list_in [] (R.param_clock sigs cases d cs (param_named x d.params 0)) (R.param_clock sigs cases D C (param_named x d.params 0)) (param_clock_in (param_named x d.params 0))

  signals_in : (ck : ClockTerm) (p : Place) (xs : List ℕ) → R.signal_pairs sigs cases D C (ap_by ck) p xs ≡ Is (R.signal_pairs sigs cases d cs ck p xs)
  signals_in ck p [] = refl
  signals_in ck p (x ∷ xs) =
      both (opt_pairs (R.signal_meaning sigs cases d cs x (signal_in x (arms p) d.vars 0)) (R.seen_at sigs cases d cs p ck)) (R.signal_pairs sigs cases d cs ck p xs)
      (ap (λ o. opt_pairs o (R.seen_at sigs cases D C p (ap_by ck))) (signal_meaning_in x (signal_in x (arms p) d.vars 0))
      ∙ opt_in J (R.seen_at sigs cases d cs p ck) (R.seen_at sigs cases D C p (ap_by ck)) (λ m. seen_in m.0 (between m.1 p) ck) (R.signal_meaning sigs cases d cs x (signal_in x (arms p) d.vars 0)))
      (signals_in ck p xs)

  conditions_in : (ck : ClockTerm) (gs : List Transition) → R.conditions_on sigs cases D C (ap_by ck) gs ≡ Is (R.conditions_on sigs cases d cs ck gs)
  conditions_in ck [] = refl
  conditions_in ck (g ∷ gs) = both (R.whole_pairs sigs cases d cs g.cond (λ n. (n.ck, ck) ∷ [])) (R.conditions_on sigs cases d cs ck gs)
      (whole_in g.cond (λ n. (n.ck, ck) ∷ []) (λ n. (n.ck, ap_by ck) ∷ []) (λ n. refl)) (conditions_in ck gs)

  guards_in : (ck : ClockTerm) (m s : ℕ) (all : List (ℕ × List Transition)) → R.guard_pairs sigs cases D C (ap_by ck) m s all ≡ Is (R.guard_pairs sigs cases d cs ck m s all)
  guards_in ck m s [] = refl
  guards_in ck m s (gs ∷ all) =
      both (R.conditions_on sigs cases d cs (on ck m s) gs.1) (R.guard_pairs sigs cases d cs ck m (suc s) all)
      (ap (λ z. R.conditions_on sigs cases D C z gs.1) (sym (apply_on by ck m s)) ∙ conditions_in (on ck m s) gs.1) (guards_in ck m (suc s) all)

  block_in : (m : ℕ) (n : Named) → R.block_pairs sigs cases D C m n ≡ Is (R.block_pairs sigs cases d cs m n)
  block_in m (named.Clock x) = refl
  block_in m (named.Match k all p) = whole_in k (λ n. (n.ck, R.block sigs cases d cs m) ∷ []) (λ n. (n.ck, R.block sigs cases D C m) ∷ []) (λ n. ap (λ z. (ap_by n.ck, z) ∷ []) (block_clock m))
  block_in m (named.Present xs p) = ap (λ z. R.signal_pairs sigs cases D C z p xs) (block_clock m) ∙ signals_in (R.block sigs cases d cs m) p xs
  block_in m (named.Active all p) =
      ap₂ (λ y z. (y, z) ∷ R.guard_pairs sigs cases D C z (suc m) 0 all) (block_clock (suc m)) (block_clock m)
      ∙ ap (λ z. (ap_by (R.block sigs cases d cs (suc m)), ap_by (R.block sigs cases d cs m)) ∷ z) (guards_in (R.block sigs cases d cs m) (suc m) 0 all)
  block_in m (named.Tested all p) = ap (λ z. R.guard_pairs sigs cases D C z (m - 1) 0 all) (block_clock m) ∙ guards_in (R.block sigs cases d cs m) (m - 1) 0 all

  blocks_in : (m : ℕ) (ns : List Named) → R.blocks_pairs sigs cases D C m ns ≡ Is (R.blocks_pairs sigs cases d cs m ns)
  blocks_in m [] = refl
  blocks_in m (n ∷ ns) = both (R.block_pairs sigs cases d cs m n) (R.blocks_pairs sigs cases d cs (suc m) ns) (block_in m n) (blocks_in (suc m) ns)

  pub equations_in : R.equation_pairs sigs cases D C ≡ Is (R.equation_pairs sigs cases d cs)
  equations_in =
      both (R.sites_pairs sigs cases d cs d.sites) (R.starts_pairs sigs cases d cs d.starts ++ R.blocks_pairs sigs cases d cs (length d.params) d.names) (sites_in d.sites)
      (both (R.starts_pairs sigs cases d cs d.starts) (R.blocks_pairs sigs cases d cs (length d.params) d.names) (starts_in d.starts) (blocks_in (length d.params) d.names))
