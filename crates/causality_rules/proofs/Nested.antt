-- The condition of a `reset` stands inside earlier resets alone, and the two rows of an automaton side by side: each step of
-- the walk keeps this.
use Rattle.std.specs.Prelude.{◌≡◌, refl, ℕ, zero, suc, ◌+◌, ◌<◌, ◌≤◌, ◌⊎◌, Bool, true, false, List, [], ◌∷◌, ◌++◌, map, length, slice_set, Option, Some, None, unwrap_or}
use Rattle.std.proofs.Common.{ap, sym, subst, ◌∙◌, arith, append_assoc, inl, inr}
use Rattle.std.proofs.lemmas.List.{length-append}
use Rattle.ls_ast.specs.declared.tree.Expr.{Expr}
use Rattle.ls_ast.specs.declared.tree.Pat.{Pat}
use Rattle.ls_ast.specs.declared.tree.BodyOf.{BodyOf}
use Rattle.ls_ast.specs.declared.tree.Equation.{Equation, fold-roll-Equation, ind-Equation, map-Equation, roll-Equation}
use Rattle.ls_ast.specs.declared.tree.Equation.TheOpen.{Equation-F, Arm-F, Guard-F, Handler-F, State-F, Test-F}
use Rattle.ls_ast.specs.declared.tree.Arm.{Arm, fold-roll-Arm, roll-Arm}
use Rattle.ls_ast.specs.declared.tree.Guard.{Guard, fold-roll-Guard, roll-Guard}
use Rattle.ls_ast.specs.declared.tree.Handler.{Handler, fold-roll-Handler, roll-Handler}
use Rattle.ls_ast.specs.declared.tree.State.{State, fold-roll-State, roll-State}
use Rattle.ls_ast.specs.declared.tree.Test.{Test, fold-roll-Test, roll-Test}
use Rattle.ls_sig.specs.declared.binder.Note.{Note}
use Rattle.ls_places.specs.Clocks.{is_signal}
use Rattle.ls_places.specs.Patterns.{names_of}
use Rattle.ls_places.specs.Places
use Rattle.ls_places.specs.Places.{arms, bind_all, place_of, spot}
use Rattle.ls_places.specs.Search.{nth, whole_at}
use Rattle.ls_places.specs.declared.around.Where.{Where}
use Rattle.ls_places.specs.declared.definition.Key.{Key}
use Rattle.ls_places.specs.declared.definition.Key.TheVariants as key
use Rattle.ls_places.specs.declared.places.Frame.TheVariants as frame
use Rattle.ls_places.specs.declared.places.Named.{Named}
use Rattle.ls_places.specs.declared.places.Named.TheVariants as named
use Rattle.ls_places.specs.declared.places.Right.{Right}
use Rattle.ls_places.specs.declared.places.Right.TheVariants as rhs
use Rattle.ls_places.specs.declared.places.Whole.{Whole}
use Rattle.digraph.specs.Graph.{In}
use Rattle.digraph.proofs.Marks.{none_in, in_either}
use Rattle.causality_rules.specs.Reads.{place_rows}
use Rattle.causality_rules.specs.Laws.{DefinitionNests, DefinitionPairs, ModesPaired}
use Rattle.causality_rules.proofs.Lists.{in_cons}

abbrev N : Type 0
N = Note

abbrev F : Type 0
F = Places.Found N

-- all resets around a place are below a number
abbrev Inside : ℕ → Places.Place → Type 0
Inside n p = (q : ℕ) → In (key.Reset q) (place_rows p) → q < n

-- each condition that is found stands inside earlier resets
abbrev Nested : F → Type 0
Nested f = (r k : ℕ) → nth f.resets r ≡ Some k → (k < length f.exprs) × Inside r (whole_at f.exprs k).place

inside_more : (m n : ℕ) (p : Places.Place) → m ≤ n → Inside m p → Inside n p
inside_more m n p l h q i = omega (arith, l, h q i)

append_rows : (p q : Places.Place) → place_rows (p ++ q) ≡ place_rows p ++ place_rows q
append_rows [] q = refl
append_rows (frame.Reset r ∷ p) q = ap (λ z. key.Reset r ∷ z) (append_rows p q)
append_rows (frame.Arm m j ∷ p) q = ap (λ z. key.Name m ∷ z) (append_rows p q)

split_rows : (p q : Places.Place) (x : ℕ) → In (key.Reset x) (place_rows (p ++ q)) → In (key.Reset x) (place_rows p) ⊎ In (key.Reset x) (place_rows q)
split_rows p q x h = in_either (key.Reset x) (place_rows p) (place_rows q) (subst (λ z. In (key.Reset x) z) (append_rows p q) h)

no_name : (x m : ℕ) → In (key.Reset x) (key.Name m ∷ []) → ⊥
no_name x m h = elim (in_cons (key.Reset x) (key.Name m) [] h) [ inl e ↦ absurd (cc e) | inr a ↦ none_in a ]

inside_arm : (n m j : ℕ) (p : Places.Place) → Inside n p → Inside n (p ++ frame.Arm m j ∷ [])
inside_arm n m j p h q i = elim (split_rows p (frame.Arm m j ∷ []) q i) [ inl a ↦ h q a | inr a ↦ absurd (no_name q m a) ]

one_reset : (x r : ℕ) → In (key.Reset x) (key.Reset r ∷ []) → r ≡ x
one_reset x r h = elim (in_cons (key.Reset x) (key.Reset r) [] h) [ inl e ↦ number r x e | inr a ↦ absurd (none_in a) ]
  where
    of_key : Key → ℕ
    of_key (key.Reset r) = r
    of_key _ = 0

    number : (r x : ℕ) → key.Reset r ≡ key.Reset x → r ≡ x
    number r x e = ap of_key e

inside_reset : (n r : ℕ) (p : Places.Place) → r < n → Inside n p → Inside n (p ++ frame.Reset r ∷ [])
inside_reset n r p l h q i = elim (split_rows p (frame.Reset r ∷ []) q i) [ inl a ↦ h q a | inr a ↦ omega (arith, one_reset q r a, l) ]

whole_first : (xs : List (Whole N)) (x : Whole N) (k : ℕ) → k < length xs → whole_at (xs ++ x ∷ []) k ≡ whole_at xs k
whole_first [] x k l = absurd (omega (arith, l))
whole_first (y ∷ ys) x zero l = refl
whole_first (y ∷ ys) x (suc k) l = whole_first ys x k (omega (arith, l))

whole_last : (xs : List (Whole N)) (x : Whole N) → whole_at (xs ++ x ∷ []) (length xs) ≡ x
whole_last [] x = refl
whole_last (y ∷ ys) x = whole_last ys x

longer : {A : Type 0} (xs : List A) (x : A) → length (xs ++ x ∷ []) ≡ length xs + 1
longer xs x = length-append xs (x ∷ [])

-- the last of a list, or one before
nth_more : (xs : List ℕ) (x r k : ℕ) → nth (xs ++ x ∷ []) r ≡ Some k → (nth xs r ≡ Some k) ⊎ ((r ≡ length xs) × (x ≡ k))
nth_more [] x zero k e = inr (refl, value x k e)
  where
    of_some : Option ℕ → ℕ
    of_some None = 0
    of_some (Some v) = v

    value : (x k : ℕ) → Some x ≡ Some k → x ≡ k
    value x k e = ap of_some e
nth_more [] x (suc r) k e = absurd (cc e)
nth_more (y ∷ ys) x zero k e = inl e
nth_more (y ∷ ys) x (suc r) k e = elim (nth_more ys x r k e) [ inl a ↦ inl a | inr a ↦ inr (ap suc a.0, a.1) ]

-- ---- more clock names, whose modes are paired

paired_append : (t : Bool) (xs ys : List Named) → ModesPaired t xs → ModesPaired false ys → ModesPaired t (xs ++ ys)
paired_append true [] ys h k = absurd h
paired_append true (named.Clock x ∷ xs) ys h k = absurd h
paired_append true (named.Match e all p ∷ xs) ys h k = absurd h
paired_append true (named.Present all p ∷ xs) ys h k = absurd h
paired_append true (named.Active s p ∷ xs) ys h k = absurd h
paired_append true (named.Tested s p ∷ xs) ys h k = paired_append false xs ys h k
paired_append false [] ys h k = k
paired_append false (named.Clock x ∷ xs) ys h k = paired_append false xs ys h k
paired_append false (named.Match e all p ∷ xs) ys h k = paired_append false xs ys h k
paired_append false (named.Present all p ∷ xs) ys h k = paired_append false xs ys h k
paired_append false (named.Active s p ∷ xs) ys h k = paired_append true xs ys h k
paired_append false (named.Tested s p ∷ xs) ys h k = absurd h

pub record Adds (xs ys : List Named) : Type 0 where
  pub more : List Named
  pub is : ys ≡ xs ++ more
  pub paired : ModesPaired false more

nothing_after : {A : Type 0} → (xs : List A) → xs ≡ xs ++ []
nothing_after [] = refl
nothing_after (x ∷ xs) = ap (λ z. x ∷ z) (nothing_after xs)

adds_none : (xs : List Named) → Adds xs xs
adds_none xs = record { more = []; is = nothing_after xs; paired = tt }

adds_then : (xs ys zs : List Named) → Adds xs ys → Adds ys zs → Adds xs zs
adds_then xs ys zs a c = record {
  more = a.more ++ c.more;
  is = c.is ∙ ap (λ z. z ++ c.more) a.is ∙ append_assoc xs a.more c.more;
  paired = paired_append false a.more c.more a.paired c.paired;
}

set_at : (xs : List Named) (y z : Named) (ys : List Named) → slice_set (xs ++ y ∷ ys) (length xs) z ≡ xs ++ z ∷ ys
set_at [] y z ys = refl
set_at (x ∷ xs) y z ys = ap (λ l. x ∷ l) (set_at xs y z ys)

one_on : (n : ℕ) → suc n + 1 ≡ suc (n + 1)
one_on n = omega arith

set_next : (xs : List Named) (x y z : Named) (ys : List Named) → slice_set (xs ++ x ∷ y ∷ ys) (length xs + 1) z ≡ xs ++ x ∷ z ∷ ys
set_next [] x y z ys = let e : 0 + 1 ≡ 1 = omega arith in ap (λ i. slice_set (x ∷ y ∷ ys) i z) e
set_next (w ∷ xs) x y z ys = ap (λ i. slice_set (w ∷ xs ++ x ∷ y ∷ ys) i z) (one_on (length xs)) ∙ ap (λ l. w ∷ l) (set_next xs x y z ys)

-- ---- what a step of the walk does

pub record Goes (w : Where) (f g : F) : Type 0 where
  pub resets : length f.resets ≤ length g.resets
  pub kept : Inside (length f.resets) w.place → Nested f → Nested g
  pub names : Adds f.names g.names

stays : (w : Where) (f : F) → Goes w f f
stays w f = record { resets = omega arith; kept = λ i h. h; names = adds_none f.names }

goes_on : (w : Where) (f g h : F) → Goes w f g → Goes w g h → Goes w f h
goes_on w f g h a c = record {
  resets = let p = a.resets in let q = c.resets in omega (arith, p, q);
  kept = λ i n. c.kept (inside_more (length f.resets) (length g.resets) w.place a.resets i) (a.kept i n);
  names = adds_then f.names g.names h.names a.names c.names;
}

goes_at : (w v : Where) (f g : F) → (Inside (length f.resets) w.place → Inside (length f.resets) v.place) → Goes v f g → Goes w f g
goes_at w v f g t a = record { resets = a.resets; kept = λ i n. a.kept (t i) n; names = a.names }

read_goes : (e : Expr N) (p : Places.Place) (w : Where) (f : F) → Goes w f (Places.reading N e p f)
read_goes e p w f =
    let x : Whole N = record { expr = e; place = p } in
    record {
      resets = omega arith;
      kept = λ i h r k s. let o = h r k s in (
        (let l = longer f.exprs x in let m = o.0 in omega (arith, l, m)),
        subst (λ (z : Whole N). Inside r z.place) (sym (whole_first f.exprs x k o.0)) o.1,
      );
      names = adds_none f.names;
    }

-- what changes no condition and no expression
same_goes : (w : Where) (f g : F) → g.resets ≡ f.resets → g.exprs ≡ f.exprs → Adds f.names g.names → Goes w f g
same_goes w f g e x names = record {
  resets = subst (λ z. length f.resets ≤ length z) (sym e) (omega arith);
  kept = λ i h r k s. subst (λ z. (k < length z) × Inside r (whole_at z k).place) (sym x) (h r k (subst (λ z. nth z r ≡ Some k) e s));
  names = names;
}

name_goes : (n : Named) (w : Where) (f : F) → ModesPaired false (n ∷ []) → Goes w f (Places.naming N n f)
name_goes n w f h = same_goes w f (Places.naming N n f) refl refl (record { more = n ∷ []; is = refl; paired = h })

site_goes : (xs : List ℕ) (signal : Bool) (right : Right) (w : Where) (f : F) → Goes w f (Places.site_at N xs signal right w f)
site_goes xs signal right w f = same_goes w f (Places.site_at N xs signal right w f) refl refl (adds_none f.names)

plain_goes : (p : Pat) (signal : Bool) (e : Expr N) (w : Where) (f : F) → Goes w f (Places.plain_at N p signal e w f)
plain_goes p signal e w f = goes_on w f (Places.reading N e w.place f) (Places.plain_at N p signal e w f) (read_goes e w.place w f)
    (site_goes (names_of p) signal (rhs.Part p (Places.next_expr N f)) w (Places.reading N e w.place f))

whole_goes : (x : ℕ) (signal : Bool) (e : Expr N) (w : Where) (f : F) → Goes w f (Places.whole_at N x signal e w f)
whole_goes x signal e w f = goes_on w f (Places.reading N e w.place f) (Places.whole_at N x signal e w f) (read_goes e w.place w f)
    (site_goes (x ∷ []) signal (rhs.Whole (Places.next_expr N f)) w (Places.reading N e w.place f))

clock_goes : (x : ℕ) (e : Expr N) (w : Where) (f : F) → Goes w f (Places.clock_at N x w (Places.whole_at N x false e w f))
clock_goes x e w f =
    let g : F = Places.whole_at N x false e w f in
    goes_on w f g (Places.clock_at N x w g) (whole_goes x false e w f) (name_goes (named.Clock (unwrap_or (place_of x (arms (spot w)) g.vars 0) 0)) w g tt)

start_goes : (x : ℕ) (e : Expr N) (w : Where) (f : F) → Goes w f (Places.start_at N x e w f)
start_goes x e w f =
    let g : F = record f { starts = f.starts ++ record { name = x; list = arms (spot w); right = Places.next_expr N f } ∷ [] } in
    goes_on w f g (Places.start_at N x e w f) (same_goes w f g refl refl (adds_none f.names)) (read_goes e w.place w g)

reset_case : (e : Expr N) (w : Where) (f : F) → Inside (length f.resets) w.place → Nested f → (r k : ℕ)
    → (nth f.resets r ≡ Some k) ⊎ ((r ≡ length f.resets) × (length f.exprs ≡ k))
    → (k < length (Places.open_reset N e w f).exprs) × Inside r (whole_at (Places.open_reset N e w f).exprs k).place
reset_case e w f i h r k (inl s) =
    let x : Whole N = record { expr = e; place = w.place } in
    let o = h r k s in
    let l = longer f.exprs x in
    let m = o.0 in
    (omega (arith, l, m), subst (λ (z : Whole N). Inside r z.place) (sym (whole_first f.exprs x k o.0)) o.1)
reset_case e w f i h r k (inr s) =
    let x : Whole N = record { expr = e; place = w.place } in
    let l = longer f.exprs x in
    let m = s.1 in (
      omega (arith, l, m),
      subst (λ z. Inside r (whole_at (f.exprs ++ x ∷ []) z).place) s.1
          (subst (λ (z : Whole N). Inside r z.place) (sym (whole_last f.exprs x)) (subst (λ z. Inside z w.place) (sym s.0) i)),
    )

reset_goes : (e : Expr N) (w : Where) (f : F) → Goes w f (Places.open_reset N e w f)
reset_goes e w f = record {
  resets = let l = longer f.resets (Places.next_expr N f) in omega (arith, l);
  kept = λ i h r k s. reset_case e w f i h r k (nth_more f.resets (Places.next_expr N f) r k s);
  names = adds_none f.names;
}

match_goes : (e : Expr N) (all : List (Option ℕ)) (w : Where) (f : F) → Goes w f (Places.open_match N e all w f)
match_goes e all w f = goes_on w f (Places.reading N e w.place f) (Places.open_match N e all w f) (read_goes e w.place w f)
    (name_goes (named.Match (Places.next_expr N f) all w.place) w (Places.reading N e w.place f) tt)

open_goes : (p : Places.Place) (w : Where) (f : F) → Goes w f (Places.open_modes N p f)
open_goes p w f = same_goes w f (Places.open_modes N p f) refl refl
    (record { more = named.Active [] p ∷ named.Tested [] p ∷ []; is = append_assoc f.names (named.Active [] p ∷ []) (named.Tested [] p ∷ []); paired = tt })

-- `f` is what was found before the automaton, and `g` what its arms made of it with its two names
closed : (strong weak : Places.Guards N) (p : Places.Place) (f g : F) → Adds (Places.open_modes N p f).names g.names → Adds f.names (Places.close_modes N (length f.names) strong weak p g).names
closed strong weak p f g a =
    let x = named.Active [] p in
    let y = named.Tested [] p in
    record {
      more = named.Active strong p ∷ named.Tested weak p ∷ a.more;
      is = ap (λ z. slice_set (slice_set z (length f.names) (named.Active strong p)) (length f.names + 1) (named.Tested weak p))
          (a.is ∙ append_assoc (f.names ++ x ∷ []) (y ∷ []) a.more ∙ append_assoc f.names (x ∷ []) (y ∷ a.more))
          ∙ ap (λ z. slice_set z (length f.names + 1) (named.Tested weak p)) (set_at f.names x (named.Active strong p) (y ∷ a.more))
          ∙ set_next f.names (named.Active strong p) y (named.Tested weak p) a.more;
      paired = a.paired;
    }

pattern_goes : (s : ℕ) (o : Option Pat) (w : Where) (f : F) → Goes w f (Places.bind_pattern N s o w f)
pattern_goes s None w f = stays w f
pattern_goes s (Some p) w f = site_goes (names_of p) false (rhs.Pattern s p) w f

-- ---- walks

abbrev pub GoodWalk : Places.Walk N → Type 0
GoodWalk walk = (w : Where) (f : F) → Goes w f (walk w f)

abbrev pub GoodArm : Places.InArm N → Type 0
GoodArm walk = (m j : ℕ) (w : Where) (f : F) → Goes w f (walk m j w f)

abbrev EachArm : List (Places.InArm N) → Type 0
EachArm [] = Unit {0}
EachArm (a ∷ all) = GoodArm a × EachArm all

abbrev EachWalk : List (Places.Walk N) → Type 0
EachWalk [] = Unit {0}
EachWalk (a ∷ all) = GoodWalk a × EachWalk all

abbrev EachGuard : List (Places.AGuard N) → Type 0
EachGuard [] = Unit {0}
EachGuard (a ∷ all) = GoodArm a.walk × EachGuard all

abbrev EachState : List (Places.AState N) → Type 0
EachState [] = Unit {0}
EachState (a ∷ all) = GoodArm a.walk × EachState all

each_both : (all bs : List (Places.InArm N)) → EachArm all → EachArm bs → EachArm (all ++ bs)
each_both [] bs h k = k
each_both (a ∷ all) bs h k = (h.0, each_both all bs h.1 k)

walks_go : (all : List (Places.Walk N)) → EachWalk all → GoodWalk (Places.walk_all N all)
walks_go [] h w f = stays w f
walks_go (a ∷ all) h w f = goes_on w f (a w f) (Places.walk_all N all w (a w f)) (h.0 w f) (walks_go all h.1 w (a w f))

arms_go : (all : List (Places.InArm N)) → EachArm all → (m j : ℕ) (w : Where) (f : F) → Goes w f (Places.arms_from N m j all w f)
arms_go [] h m j w f = stays w f
arms_go (a ∷ all) h m j w f = goes_on w f (a m j w f) (Places.arms_from N m (suc j) all w (a m j w f)) (h.0 m j w f) (arms_go all h.1 m (suc j) w (a m j w f))

guards_go : (all : List (Places.AGuard N)) → EachGuard all → GoodArm (Places.walk_guards N all)
guards_go [] h m j w f = stays w f
guards_go (a ∷ all) h m j w f = goes_on w f (a.walk m j w f) (Places.walk_guards N all m j w (a.walk m j w f)) (h.0 m j w f) (guards_go all h.1 m j w (a.walk m j w f))

state_arms : (all : List (Places.AState N)) → EachState all → EachArm (Places.state_walks N all)
state_arms [] h = tt
state_arms (a ∷ all) h = (h.0, state_arms all h.1)

let_goes : (m j : ℕ) (w : Where) (f g : F) → Goes (Places.in_let m j w) f g → Goes w f g
let_goes m j w f g a = goes_at w (Places.in_let m j w) f g (inside_arm (length f.resets) m j w.place) a

do_goes : (m j : ℕ) (w : Where) (f g : F) → Goes (Places.in_do m j w) f g → Goes w f g
do_goes m j w f g a = goes_at w (Places.in_do m j w) f g (inside_arm (length f.resets) m j w.place) a

within_goes : (r : ℕ) (w : Where) (f g : F) → r < length f.resets → Goes (Places.in_reset r w) f g → Goes w f g
within_goes r w f g l a = goes_at w (Places.in_reset r w) f g (inside_reset (length f.resets) r w.place l) a

module _ (first : ℕ) (cases : ℕ → Option ℕ) (signal : Expr N → Bool) where
  automaton_goes : (all : List (Places.AState N)) → EachState all → (w : Where) (f : F)
      → Goes w f (Places.automaton_at N first cases signal all w f (Places.open_modes N w.place f))
  automaton_goes all h w f =
      let m : ℕ = Places.next N first cases signal f in
      let opened : F = Places.open_modes N w.place f in
      let done : F = Places.arms_from N m 0 (Places.state_walks N all) w opened in
      let inside : Goes w opened done = arms_go (Places.state_walks N all) (state_arms all h) m 0 w opened in
      let both : Goes w f done = goes_on w f opened done (open_goes w.place w f) inside in
      record {
        resets = both.resets;
        kept = both.kept;
        names = closed (Places.strongs_from N m 0 all w opened) (Places.weaks_from N m 0 all w opened) w.place f done inside.names;
      }

  -- ---- one layer

  abbrev equation_step : Equation-F N (Places.Walk N) (Places.AnArm N) (Places.AGuard N) (Places.InArm N) (Places.AState N) (Places.ATest N) → Places.Walk N
  equation_step = Places.equation_step N first cases signal

  abbrev EquationGood : Equation N → Type 0
  EquationGood x = GoodWalk (Places.walk_of N first cases signal x)

  abbrev ArmGood : Arm N → Type 0
  ArmGood x = GoodArm (Places.arm_of N first cases signal x).walk

  abbrev GuardGood : Guard N → Type 0
  GuardGood x = GoodArm (Places.guard_of N first cases signal x).walk

  abbrev HandlerGood : Handler N → Type 0
  HandlerGood x = GoodArm (Places.handler_of N first cases signal x)

  abbrev StateGood : State N → Type 0
  StateGood x = GoodArm (Places.state_of N first cases signal x).walk

  abbrev TestGood : Test N → Type 0
  TestGood x = GoodArm (Places.test_of N first cases signal x).walk

  abbrev WEquation : Type 0
  WEquation = (x : Equation N) × EquationGood x

  abbrev WArm : Type 0
  WArm = (x : Arm N) × ArmGood x

  abbrev WGuard : Type 0
  WGuard = (x : Guard N) × GuardGood x

  abbrev WHandler : Type 0
  WHandler = (x : Handler N) × HandlerGood x

  abbrev WState : Type 0
  WState = (x : State N) × StateGood x

  abbrev WTest : Type 0
  WTest = (x : Test N) × TestGood x

  abbrev equations_of : List WEquation → List (Equation N)
  equations_of = map {A = WEquation} {B = Equation N} (λ q. q.0)

  abbrev guards_of : List WGuard → List (Guard N)
  guards_of = map {A = WGuard} {B = Guard N} (λ q. q.0)

  each_walk : (ps : List WEquation) → EachWalk (map (Places.walk_of N first cases signal) (equations_of ps))
  each_walk [] = tt
  each_walk (p ∷ ps) = (p.1, each_walk ps)

  each_arm : (ps : List WArm) → EachArm (Places.arm_walks N (map (Places.arm_of N first cases signal) (map {A = WArm} {B = Arm N} (λ q. q.0) ps)))
  each_arm [] = tt
  each_arm (p ∷ ps) = (p.1, each_arm ps)

  each_guard : (ps : List WGuard) → EachGuard (map (Places.guard_of N first cases signal) (guards_of ps))
  each_guard [] = tt
  each_guard (p ∷ ps) = (p.1, each_guard ps)

  each_state : (ps : List WState) → EachState (map (Places.state_of N first cases signal) (map {A = WState} {B = State N} (λ q. q.0) ps))
  each_state [] = tt
  each_state (p ∷ ps) = (p.1, each_state ps)

  each_test : (ps : List WTest) → EachArm (Places.test_walks N (map (Places.test_of N first cases signal) (map {A = WTest} {B = Test N} (λ q. q.0) ps)))
  each_test [] = tt
  each_test (p ∷ ps) = (p.1, each_test ps)

  abbrev bottom : Equation-F N WEquation WArm WGuard WHandler WState WTest → Equation-F N (Equation N) (Arm N) (Guard N) (Handler N) (State N) (Test N)
  bottom y = map-Equation N WEquation WArm WGuard WHandler WState WTest (Equation N) (Arm N) (Guard N) (Handler N) (State N) (Test N) (λ q. q.0) (λ q. q.0) (λ q. q.0) (λ q. q.0) (λ q. q.0) (λ q. q.0) y

  abbrev walked : Equation-F N (Equation N) (Arm N) (Guard N) (Handler N) (State N) (Test N) → Places.Walk N
  walked x = equation_step (map-Equation N (Equation N) (Arm N) (Guard N) (Handler N) (State N) (Test N) (Places.Walk N) (Places.AnArm N) (Places.AGuard N) (Places.InArm N) (Places.AState N) (Places.ATest N)
      (Places.walk_of N first cases signal) (Places.arm_of N first cases signal) (Places.guard_of N first cases signal) (Places.handler_of N first cases signal) (Places.state_of N first cases signal) (Places.test_of N first cases signal) x)

  opened : (e : Expr N) (w : Where) (f : F) → length f.resets < length (Places.open_reset N e w f).resets
  opened e w f = let l = longer f.resets (Places.next_expr N f) in omega (arith, l)

  layer_goes : (y : Equation-F N WEquation WArm WGuard WHandler WState WTest) → GoodWalk (walked (bottom y))
  layer_goes (Equation-F.Plain p e) w f = plain_goes p (signal e) e w f
  layer_goes (Equation-F.Clock x e) w f = clock_goes x.0 e w f
  layer_goes (Equation-F.Initial x e) w f = start_goes x.0 e w f
  layer_goes (Equation-F.Emit x e) w f = whole_goes x.0 true e w f
  layer_goes (Equation-F.Reset ps e) w f = goes_on w f (Places.open_reset N e w f) _ (reset_goes e w f)
      (within_goes (length f.resets) w (Places.open_reset N e w f) _ (opened e w f)
      (walks_go (map (Places.walk_of N first cases signal) (equations_of ps)) (each_walk ps) (Places.in_reset (length f.resets) w) (Places.open_reset N e w f)))
  layer_goes (Equation-F.Match e ps) w f = goes_on w f (Places.open_match N e _ w f) _ (match_goes e _ w f)
      (arms_go _ (each_arm ps) (Places.next N first cases signal f) 0 w (Places.open_match N e _ w f))
  layer_goes (Equation-F.Present ps None) w f = goes_on w f (Places.open_present N _ w f) _ (name_goes _ w f tt)
      (arms_go _ (each_both _ [] (each_test ps) tt) (Places.next N first cases signal f) 0 w (Places.open_present N _ w f))
  layer_goes (Equation-F.Present ps (Some h)) w f = goes_on w f (Places.open_present N _ w f) _ (name_goes _ w f tt)
      (arms_go _ (each_both _ (Places.handler_of N first cases signal h.0 ∷ []) (each_test ps) (h.1, tt)) (Places.next N first cases signal f) 0 w (Places.open_present N _ w f))
  layer_goes (Equation-F.Automaton ps) w f = automaton_goes _ (each_state ps) w f

  equation_good : (y : Equation-F N WEquation WArm WGuard WHandler WState WTest) → EquationGood (roll-Equation N (bottom y))
  equation_good y = subst GoodWalk (sym (fold-roll-Equation N (Places.Walk N) (Places.AnArm N) (Places.AGuard N) (Places.InArm N) (Places.AState N) (Places.ATest N)
      (Places.equation_step N first cases signal) (Places.arm_step N first cases signal) (Places.guard_step N first cases signal)
      (Places.handler_step N first cases signal) (Places.state_step N first cases signal) (Places.test_step N first cases signal) (bottom y))) (layer_goes y)

  arm_good : (y : Arm-F N WEquation WArm WGuard WHandler WState WTest) → ArmGood (roll-Arm N (record { case = y.case; handler = y.handler.0 }))
  arm_good y = subst (λ (a : Places.AnArm N). GoodArm a.walk) (sym (fold-roll-Arm N (Places.Walk N) (Places.AnArm N) (Places.AGuard N) (Places.InArm N) (Places.AState N) (Places.ATest N)
      (Places.equation_step N first cases signal) (Places.arm_step N first cases signal) (Places.guard_step N first cases signal)
      (Places.handler_step N first cases signal) (Places.state_step N first cases signal) (Places.test_step N first cases signal) (record { case = y.case; handler = y.handler.0 }))) y.handler.1

  test_good : (y : Test-F N WEquation WArm WGuard WHandler WState WTest) → TestGood (roll-Test N (record { signal = y.signal; pat = y.pat; handler = y.handler.0 }))
  test_good y = subst (λ (a : Places.ATest N). GoodArm a.walk) (sym (fold-roll-Test N (Places.Walk N) (Places.AnArm N) (Places.AGuard N) (Places.InArm N) (Places.AState N) (Places.ATest N)
      (Places.equation_step N first cases signal) (Places.arm_step N first cases signal) (Places.guard_step N first cases signal)
      (Places.handler_step N first cases signal) (Places.state_step N first cases signal) (Places.test_step N first cases signal) (record { signal = y.signal; pat = y.pat; handler = y.handler.0 })))
      (λ m j w f. goes_on w f (Places.bind_pattern N y.signal.0 y.pat (Places.in_let m j w) f) _
      (let_goes m j w f (Places.bind_pattern N y.signal.0 y.pat (Places.in_let m j w) f) (pattern_goes y.signal.0 y.pat (Places.in_let m j w) f))
      (y.handler.1 m j w (Places.bind_pattern N y.signal.0 y.pat (Places.in_let m j w) f)))

  handler_good : (y : Handler-F N WEquation WArm WGuard WHandler WState WTest) → HandlerGood (roll-Handler N (record { locals = equations_of y.locals; eqs = equations_of y.eqs }))
  handler_good y = subst GoodArm (sym (fold-roll-Handler N (Places.Walk N) (Places.AnArm N) (Places.AGuard N) (Places.InArm N) (Places.AState N) (Places.ATest N)
      (Places.equation_step N first cases signal) (Places.arm_step N first cases signal) (Places.guard_step N first cases signal)
      (Places.handler_step N first cases signal) (Places.state_step N first cases signal) (Places.test_step N first cases signal) (record { locals = equations_of y.locals; eqs = equations_of y.eqs })))
      (λ m j w f.
      let g : F = Places.walk_all N (map (Places.walk_of N first cases signal) (equations_of y.locals)) (Places.in_let m j w) f in
      goes_on w f g _ (let_goes m j w f g (walks_go _ (each_walk y.locals) (Places.in_let m j w) f)) (do_goes m j w g _ (walks_go _ (each_walk y.eqs) (Places.in_do m j w) g)))

  guard_good : (y : Guard-F N WEquation WArm WGuard WHandler WState WTest) → GuardGood (roll-Guard N (record { eqs = equations_of y.eqs; cond = y.cond; restart = y.restart; target = y.target }))
  guard_good y = subst (λ (a : Places.AGuard N). GoodArm a.walk) (sym (fold-roll-Guard N (Places.Walk N) (Places.AnArm N) (Places.AGuard N) (Places.InArm N) (Places.AState N) (Places.ATest N)
      (Places.equation_step N first cases signal) (Places.arm_step N first cases signal) (Places.guard_step N first cases signal)
      (Places.handler_step N first cases signal) (Places.state_step N first cases signal) (Places.test_step N first cases signal) (record { eqs = equations_of y.eqs; cond = y.cond; restart = y.restart; target = y.target })))
      (λ m j w f.
      let g : F = Places.walk_all N (map (Places.walk_of N first cases signal) (equations_of y.eqs)) (Places.in_let m j w) f in
      goes_on w f g _ (let_goes m j w f g (walks_go _ (each_walk y.eqs) (Places.in_let m j w) f)) (read_goes y.cond (Places.in_let m j w).place w g))

  state_good : (y : State-F N WEquation WArm WGuard WHandler WState WTest) → StateGood (roll-State N (record { name = y.name; handler = y.handler.0; strong = guards_of y.strong; weak = guards_of y.weak }))
  state_good y =
      let strong : List (Places.AGuard N) = map (Places.guard_of N first cases signal) (guards_of y.strong) in
      let weak : List (Places.AGuard N) = map (Places.guard_of N first cases signal) (guards_of y.weak) in
      let inside : Places.InArm N = Places.handler_of N first cases signal y.handler.0 in
      subst (λ (a : Places.AState N). GoodArm a.walk) (sym (fold-roll-State N (Places.Walk N) (Places.AnArm N) (Places.AGuard N) (Places.InArm N) (Places.AState N) (Places.ATest N)
      (Places.equation_step N first cases signal) (Places.arm_step N first cases signal) (Places.guard_step N first cases signal)
      (Places.handler_step N first cases signal) (Places.state_step N first cases signal) (Places.test_step N first cases signal) (record { name = y.name; handler = y.handler.0; strong = guards_of y.strong; weak = guards_of y.weak })))
      (λ m j w f. goes_on w f (inside m j w f) _ (y.handler.1 m j w f)
      (goes_on w (inside m j w f) (Places.walk_guards N strong (m + 1) j w (inside m j w f)) _ (guards_go strong (each_guard y.strong) (m + 1) j w (inside m j w f))
      (guards_go weak (each_guard y.weak) m j w (Places.walk_guards N strong (m + 1) j w (inside m j w f)))))

  equations_good : (x : Equation N) → EquationGood x
  equations_good = ind-Equation N EquationGood ArmGood GuardGood HandlerGood StateGood TestGood
      (λ x y from. subst (λ z. EquationGood (roll-Equation N z)) from (equation_good y))
      (λ x y from. subst (λ z. ArmGood (roll-Arm N z)) from (arm_good y))
      (λ x y from. subst (λ z. GuardGood (roll-Guard N z)) from (guard_good y))
      (λ x y from. subst (λ z. HandlerGood (roll-Handler N z)) from (handler_good y))
      (λ x y from. subst (λ z. StateGood (roll-State N z)) from (state_good y))
      (λ x y from. subst (λ z. TestGood (roll-Test N z)) from (test_good y))

  each_equation : (xs : List (Equation N)) → EachWalk (map (Places.walk_of N first cases signal) xs)
  each_equation [] = tt
  each_equation (x ∷ xs) = (equations_good x, each_equation xs)

  -- what is found in a body has paired modes
  pub found_paired : (b : BodyOf N) → ModesPaired false (Places.find N first cases signal b).names
  found_paired b =
      let a = (walks_go _ (each_equation b.eqs) Places.at_top (Places.nothing N)).names in
      subst (ModesPaired false) (sym a.is) a.paired

  -- and is nested
  pub found_nested : (b : BodyOf N) → Nested (Places.find N first cases signal b)
  found_nested b =
      let walked : F = Places.walk_body N first cases signal b.eqs Places.at_top (Places.nothing N) in
      let none : Inside 0 [] = λ q h. absurd (none_in h) in
      (read_goes b.result [] Places.at_top walked).kept
      (inside_more 0 (length walked.resets) [] (omega arith) none)
      ((walks_go _ (each_equation b.eqs) Places.at_top (Places.nothing N)).kept none (λ r k s. absurd (cc s)))

pub definition_nests : DefinitionNests
definition_nests cases params notes body = λ r k s q h. (found_nested (length params) cases (λ e. is_signal e.note) body r k s).1 q h

pub definition_pairs : DefinitionPairs
definition_pairs cases params notes body = found_paired (length params) cases (λ e. is_signal e.note) body
