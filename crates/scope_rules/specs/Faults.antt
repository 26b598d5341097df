-- The scope of a definition: binders, marks, and the five kinds of fault.
use Rattle.std.specs.Prelude.{ℕ, suc, ◌+◌, ◌==◌, ◌&&◌, ◌||◌, not, Bool, true, false, List, [], ◌∷◌, ◌++◌, map, length, slice_get, Option, Some, None, is_some, if◌then◌else◌, codes}
use Rattle.std.specs.List.{list_any, list_all}
use Rattle.std.specs.Str.{bytes_eq}
use Rattle.ls_ast.specs.declared.tree.Mark.{Mark}
use Rattle.ls_ast.specs.declared.tree.Mark.TheVariants as mark
use Rattle.ls_ast.specs.declared.tree.Case.{Case}
use Rattle.ls_ast.specs.declared.tree.Case.TheVariants as case
use Rattle.ls_sig.specs.declared.binder.Binder.{Binder}
use Rattle.ls_sig.specs.declared.binder.Binder.TheVariants as binder
use Rattle.ls_ast.specs.declared.tree.Pat.{Pat}
use Rattle.ls_ast.specs.declared.tree.Expr.{Expr}
use Rattle.ls_ast.specs.declared.tree.Form.{Form}
use Rattle.ls_ast.specs.declared.tree.Form.TheOpen.{Form-F}
use Rattle.ls_ast.specs.declared.tree.Equation.{Equation, out-Equation}
use Rattle.ls_ast.specs.declared.tree.Equation.TheOpen.{Equation-F}
use Rattle.ls_ast.specs.declared.tree.BodyOf.{BodyOf}
use Rattle.scope_rules.specs.declared.claims.Asked.{Asked}
use Rattle.scope_rules.specs.declared.places.Way.TheVariants as way
use Rattle.scope_rules.specs.Places.{Place, same_place, holds, later, Stand, whole, right, at, loose, before, asked, applied, Way, Site, Reading, reads, tests, Contents, joined, option_list, names_of, is_name, root, contents_of}
use Rattle.scope_rules.specs.Claims.{Earlier, Known, Claim, named, constructor, branches, stray, answered, timed, Head, def, param, other, head_by, claims, is_function, passable}

abbrev pub text_true : List ℕ
text_true = codes "true"

abbrev pub text_false : List ℕ
text_false = codes "false"

abbrev pub is_plain_at : {N X1 X2 X3 X4 X5 X6 : Type 0} → Equation-F N X1 X2 X3 X4 X5 X6 → Bool
is_plain_at (Equation-F.Plain p e) = true
is_plain_at _ = false

abbrev pub is_plain : {N : Type 0} → Equation N → Bool
is_plain {N} q = is_plain_at (out-Equation N q)

pub data Fault : Type 0 where
  Twice : Fault
  Unbound : Fault
  NotAllArms : Fault
  Mixed : Fault
  NotCombinatorial : Fault

-- the place of the first item of a kind
abbrev pub place_from : {A : Type 0} → (A → Bool) → List A → ℕ → Option ℕ
place_from f [] k = None
place_from f (x ∷ xs) k = if f x then Some k else place_from f xs (suc k)

abbrev pub place_where : {A : Type 0} → (A → Bool) → List A → Option ℕ
place_where f xs = place_from f xs 0

-- the item at a place that was found
abbrev pub picked : {A : Type 0} → List A → Option ℕ → List A
picked xs (Some k) = option_list (slice_get xs k)
picked xs None = []

-- two of a list, one before the other, are so to each other
abbrev pub any_two : {A : Type 0} → (A → A → Bool) → List A → Bool
any_two r [] = false
any_two r (x ∷ xs) = list_any (r x) xs || any_two r xs

abbrev pub among : List ℕ → ℕ → Bool
among xs x = list_any (λ y. y == x) xs

-- the place of a number
abbrev pub place_of : ℕ → List ℕ → Option ℕ
place_of x xs = place_where (λ y. y == x) xs

abbrev pub repeated : List ℕ → Bool
repeated = any_two (λ x y. x == y)

abbrev pub same_case : Case → Case → Bool
same_case case.True case.True = true
same_case case.False case.False = true
same_case (case.Of c) (case.Of d) = c.0 == d.0
same_case _ _ = false

abbrev pub repeated_case : List Case → Bool
repeated_case = any_two same_case

-- the spelling of a name
abbrev pub spelled : List (List ℕ) → List ℕ → ℕ → Bool
spelled names text x = list_any (bytes_eq text) (option_list (slice_get names x))

abbrev pub of_name : ℕ → Case
of_name x = case.Of (record { 0 = x })

-- the constructor that an arm names
abbrev pub arm_case : List (List ℕ) → ℕ → Case
arm_case names x = if spelled names text_true x then case.True else if spelled names text_false x then case.False else of_name x

-- the constructors that arms name
abbrev pub arm_cases_named : List (List ℕ) → List (Option ℕ) → List Case
arm_cases_named names as' = map (arm_case names) (joined (map option_list as'))

abbrev pub or_next : ℕ → Option ℕ → Option (ℕ × ℕ) → Option (ℕ × ℕ)
or_next t (Some k) rest = Some (t, k)
or_next t None rest = rest

-- the enumeration of a constructor, from number t on, and its place in it
abbrev pub case_place : ℕ → List (ℕ × List ℕ) → ℕ → Option (ℕ × ℕ)
case_place t [] c = None
case_place t (e ∷ es) c = or_next t (place_of c e.1) (case_place (suc t) es c)

abbrev pub case_binder : Option (ℕ × ℕ) → Binder
case_binder (Some p) = binder.Case p.0 p.1
case_binder None = binder.Nothing

-- a constructor is there; true and false always are
abbrev pub is_there : Known → Case → Bool
is_there k (case.Of c) = is_some (case_place 0 k.enums c.0)
is_there k _ = true

-- the constructors of an enumeration that was found
abbrev pub cases_at : List (ℕ × List ℕ) → Option (ℕ × ℕ) → List Case
cases_at es (Some p) = joined (map (λ (e : ℕ × List ℕ). map of_name e.1) (option_list (slice_get es p.0)))
cases_at es None = []

-- all constructors of the enumeration, or of bool, that has this one
abbrev pub its_type : Known → Case → List Case
its_type k (case.Of c) = cases_at k.enums (case_place 0 k.enums c.0)
its_type k _ = case.False ∷ case.True ∷ []

-- each constructor of the first one's type is named
abbrev pub cover : Known → List Case → Bool
cover k [] = true
cover k (c ∷ cs) = list_all (λ a. list_any (λ b. same_case b a) (c ∷ cs)) (its_type k c)

-- it is of this name and list
abbrev pub of_list : ℕ → Place → Site → Bool
of_list x l s = s.var == x && same_place s.list l

-- it is of this name, and its list holds the place
abbrev pub seen_at : ℕ → Place → Site → Bool
seen_at x p s = s.var == x && holds s.list p

-- the names that sites bind, each once for each list, in the order of the text
abbrev pub same_variable : Site → Site → Bool
same_variable s t = s.var == t.var && same_place s.list t.list

-- one more binding, which is a new variable where its list has not bound the name before
abbrev pub with_site : List Site → Site → List Site
with_site done s = if is_some (place_where (of_list s.var s.list) done) then done else done ++ s ∷ []

abbrev pub first_sites : List Site → List Site → List Site
first_sites done [] = done
first_sites done (s ∷ ss) = first_sites (with_site done s) ss

abbrev pub variables : List Site → List Site
variables sites = first_sites [] sites

-- bound again in the same list, and not in a later arm of the same block
abbrev pub again : Site → Site → Bool
again s t = same_variable s t && not (later s.inner t.inner)

-- `q` stands inside what stands at `p`
abbrev pub holds_inside : Place → Place → Bool
holds_inside [] [] = false
holds_inside [] (b ∷ q) = true
holds_inside (a ∷ p) [] = false
holds_inside (a ∷ p) (b ∷ q) = a.0 == b.0 && (a.1 == b.1 && holds_inside p q)

-- the name of s is bound by t in a list that is around that of s
abbrev pub above : Site → Site → Bool
above s t = t.var == s.var && holds_inside t.list s.list

-- bound by an equation, and not by the pattern of a test
abbrev pub by_equation : Way → Bool
by_equation way.Tested = false
by_equation _ = true

abbrev pub equation_sites : List Site → List Site
equation_sites [] = []
equation_sites (s ∷ ss) = if by_equation s.way then s ∷ equation_sites ss else equation_sites ss

-- What is in sight at the places of a definition.
pub record Sight : Type 0 where
  pub params : List ℕ
  pub vars : List Site
  pub defs : List Earlier

abbrev pub def_binder : Option ℕ → Binder
def_binder (Some k) = binder.Def k
def_binder None = binder.Nothing

abbrev pub param_binder : Option ℕ → Binder → Binder
param_binder (Some k) b = binder.Param k
param_binder None b = b

abbrev pub var_binder : Option ℕ → Binder → Binder
var_binder (Some k) b = binder.Var k
var_binder None b = b

abbrev pub titles : List Earlier → List ℕ
titles = map {A = Earlier} {B = ℕ} (λ d. d.title)

-- The binder of a name at a place: the variable of that name whose list holds the place, else the parameter, else the earlier definition.
abbrev pub binder_at : Sight → Place → ℕ → Binder
binder_at h p x = var_binder (place_where (seen_at x p) h.vars)
    (param_binder (place_of x h.params) (def_binder (place_of x (titles h.defs))))

abbrev pub head_at : Sight → Place → ℕ → Head
head_at h p x = head_by h.defs (binder_at h p x)

module _ {N : Type 0} where
  -- what an expression or a test of a body asks of the scope
  abbrev pub asked_by : Sight → Reading N → Asked
  asked_by h (reads e s p) = record { claims = claims h.defs (binder_at h p) e s; place = p }
  asked_by h (tests x p) = record { claims = named (binder_at h p x) x asked ∷ []; place = p }

-- some claim is at fault
abbrev pub any_claim : (Place → Claim → Bool) → List Asked → Bool
any_claim f = list_any (λ a. list_any (f a.place) a.claims)

-- What is judged of a `let` definition.
pub record Judged (N : Type 0) : Type 0 where
  pub names : List (List ℕ)  -- the spellings of names
  pub known : Known
  pub title : ℕ
  pub node : Bool
  pub params : List Pat
  pub body : BodyOf N

-- Marks of parameters.

-- the mark that a use gives to a parameter
abbrev pub mark_of : Stand → Option Mark
mark_of (at mark.Data) = None
mark_of (at m) = Some m
mark_of asked = Some mark.Signal
mark_of (applied m) = Some m
mark_of _ = None

abbrev pub same_mark : Mark → Mark → Bool
same_mark mark.Clock mark.Clock = true
same_mark mark.Signal mark.Signal = true
same_mark mark.Comb mark.Comb = true
same_mark mark.Seq mark.Seq = true
same_mark _ _ = false

abbrev pub is_signal_mark : Mark → Bool
is_signal_mark m = same_mark mark.Signal m

abbrev pub means_param : ℕ → Binder → Bool
means_param k (binder.Param i) = i == k
means_param k _ = false

abbrev pub mark_if : Bool → Stand → Option Mark
mark_if true s = mark_of s
mark_if false s = None

-- the mark that a claim gives to the k-th name in the parameters
abbrev pub mark_in : ℕ → Claim → Option Mark
mark_in k (named b x s) = mark_if (means_param k b) s
mark_in k _ = None

abbrev pub or_later : {A : Type 0} → Option A → Option A → Option A
or_later (Some m) n = Some m
or_later None n = n

abbrev pub first_in : ℕ → List Claim → Option Mark
first_in k [] = None
first_in k (c ∷ cs) = or_later (mark_in k c) (first_in k cs)

abbrev pub first_mark : ℕ → List Asked → Option Mark
first_mark k [] = None
first_mark k (a ∷ as') = or_later (first_in k a.claims) (first_mark k as')

abbrev pub mark_or_data : Option Mark → Mark
mark_or_data (Some m) = m
mark_or_data None = mark.Data

-- the mark of the k-th name in the parameters: the one that the first use gives it which gives one, else Data
abbrev pub mark_at : List Asked → ℕ → Mark
mark_at asks k = mark_or_data (first_mark k asks)

-- which names in the parameters are whole parameters, and not in a tuple
abbrev pub singles : List Pat → List Bool
singles [] = []
singles (p ∷ ps) = map (λ x. is_name p) (names_of p) ++ singles ps

-- the mark of a parameter: that of its name where it is one, else Data
abbrev pub mark_from : List Asked → Bool → ℕ → Mark
mark_from asks true k = mark_at asks k
mark_from asks false k = mark.Data

-- the marks of the parameters, from the k-th name on
abbrev pub marks_from : List Asked → List Pat → ℕ → List Mark
marks_from asks [] k = []
marks_from asks (p ∷ ps) k = mark_from asks (is_name p) k ∷ marks_from asks ps (k + length (names_of p))

-- Which variables are signals.

abbrev pub head_answers : Head → Bool
head_answers (def e) = e.answers
head_answers _ = false

abbrev pub signal_way : Sight → Place → Way → Bool
signal_way h p way.Emitted = true
signal_way h p (way.Called x) = head_answers (head_at h p x)
signal_way h p _ = false

-- it binds a signal: by `emit`, or by a call of a definition whose result is one
abbrev pub is_signal : Sight → Site → Bool
is_signal h s = signal_way h (s.list ++ s.inner) s.way

abbrev pub clock_way : Way → Bool
clock_way way.Clock = true
clock_way _ = false

-- Uses that a name does not have.

-- a use gives another mark than this, or any to a name in a tuple
abbrev pub gives_other : Bool → Mark → Stand → Bool
gives_other single m s = not single || not (list_all (same_mark m) (option_list (mark_of s)))

-- A use that a parameter of this mark does not have: it gives another mark, or any to a name in a tuple; a signal or a function is used as a stream; `last` stands before it.
abbrev pub wrong_param : Bool → Mark → Stand → Bool
wrong_param single m (at mark.Data) = is_function m || is_signal_mark m
wrong_param single m right = is_function m || is_signal_mark m
wrong_param single m loose = is_signal_mark m
wrong_param single m whole = is_function m
wrong_param single m before = true
wrong_param single m s = gives_other single m s

-- A use that a variable does not have, which is a signal or not: a signal is used as a stream, or `last` stands before it; a condition is no clock name, or one from outside an
-- arm that holds the place; an argument at a Signal, Comb or Seq position is not of that kind.
abbrev pub wrong_variable : Bool → Site → Place → Stand → Bool
wrong_variable signal v p (at mark.Clock) = not (clock_way v.way && same_place v.list p)
wrong_variable signal v p (at mark.Signal) = not signal
wrong_variable signal v p (at mark.Comb) = true
wrong_variable signal v p (at mark.Seq) = true
wrong_variable signal v p (applied m) = false
wrong_variable signal v p asked = false
wrong_variable signal v p whole = false
wrong_variable signal v p s = signal

-- a definition is no clock name and no signal, and not each is passed as a function
abbrev pub wrong_function : Earlier → Bool
wrong_function e = length e.marks == 0 || not (passable e 0)

abbrev pub wrong_def : Earlier → Stand → Bool
wrong_def e (at mark.Clock) = true
wrong_def e (at mark.Signal) = true
wrong_def e (at mark.Comb) = wrong_function e
wrong_def e (at mark.Seq) = wrong_function e
wrong_def e s = false

-- a clock name that is a parameter is bound outside each arm
abbrev pub in_an_arm : Place → Stand → Bool
in_an_arm p (at mark.Clock) = not (same_place [] p)
in_an_arm p s = false

abbrev pub is_nothing : Binder → Bool
is_nothing binder.Nothing = true
is_nothing _ = false

abbrev pub different : Bool → Bool → Bool
different true b = not b
different false b = b

-- two initial equations of one name, in one list
abbrev pub same_start : ℕ × Place → ℕ × Place → Bool
same_start a b = a.0 == b.0 && same_place a.1 b.1

-- two branches of one constructor
abbrev pub twice_claim : Place → Claim → Bool
twice_claim p (branches cs) = repeated_case cs
twice_claim p _ = false

-- a form that is not combinatorial
abbrev pub timed_claim : Place → Claim → Bool
timed_claim p timed = true
timed_claim p _ = false

module _ {N : Type 0} (d : Judged N) where
  abbrev pub param_names : List ℕ
  param_names = joined (map names_of d.params)

  abbrev pub contents : Contents N
  contents = contents_of N (length d.params) d.body

  abbrev pub sight : Sight
  sight = record { params = param_names; vars = variables contents.sites; defs = d.known.defs }

  abbrev pub asks : List Asked
  asks = map (asked_by sight) contents.readings

  -- 1. A name is bound twice.

  abbrev pub named_arms : List (Option ℕ) → List Case
  named_arms as' = arm_cases_named d.names as'

  abbrev pub twice : Bool
  twice = among (titles d.known.defs) d.title
      || (repeated param_names
      || (list_any (λ s. among param_names s.var) contents.sites
      || (any_two again contents.sites
      || (list_any (λ s. list_any (above s) sight.vars) sight.vars
      || (any_two same_start contents.starts
      || (list_any (λ as'. repeated_case (named_arms as')) contents.arms
      || (list_any (λ (a : List ℕ × List ℕ). repeated a.0) contents.automata
      || any_claim twice_claim asks)))))))

  -- 2. A name is not bound at its place.

  -- an equation that is seen at the place binds the name
  abbrev pub equation_seen : Place → ℕ → Bool
  equation_seen p x = list_any (seen_at x p) (equation_sites contents.sites)

  -- an equation of the list binds the name
  abbrev pub equation_of : Place → ℕ → Bool
  equation_of l x = list_any (of_list x l) (equation_sites contents.sites)

  abbrev pub unbound_name : Place → Binder → ℕ → Stand → Bool
  unbound_name p b x before = not (among param_names x) && not (equation_seen p x)
  unbound_name p b x s = is_nothing b

  abbrev pub unbound_claim : Place → Claim → Bool
  unbound_claim p (named b x s) = unbound_name p b x s
  unbound_claim p (constructor c) = not (is_there d.known (of_name c))
  unbound_claim p (branches cs) = list_any (λ c. not (is_there d.known c)) cs
  unbound_claim p _ = false

  abbrev pub unbound : Bool
  unbound = list_any (λ (s : ℕ × Place). not (equation_of s.1 s.0)) contents.starts
      || (list_any (λ as'. list_any (λ c. not (is_there d.known c)) (named_arms as')) contents.arms
      || (list_any (λ (a : List ℕ × List ℕ). list_any (λ t. not (among a.0 t)) a.1) contents.automata
      || any_claim unbound_claim asks))

  -- 3. A constructor has no arm or branch.

  abbrev pub open_arms : List (Option ℕ) → Bool
  open_arms as' = list_all is_some as' && not (cover d.known (named_arms as'))

  abbrev pub open_claim : Place → Claim → Bool
  open_claim p (branches cs) = not (cover d.known cs)
  open_claim p _ = false

  abbrev pub not_all_arms : Bool
  not_all_arms = list_any open_arms contents.arms || any_claim open_claim asks

  -- 4. A name is used in two ways.

  -- the variable of a name and list is a signal
  abbrev pub signal_at : ℕ → Place → List Bool
  signal_at x l = map (is_signal sight) (picked sight.vars (place_where (of_list x l) sight.vars))

  -- the name is bound as a signal and as a variable
  abbrev pub mixed_site : Site → Bool
  mixed_site s = list_any (λ b. different b (is_signal sight s)) (signal_at s.var s.list)

  -- the initial equation of a signal
  abbrev pub mixed_start : ℕ × Place → Bool
  mixed_start s = list_any (λ b. b) (signal_at s.0 s.1)

  abbrev pub wrong_use : Place → Binder → Stand → Bool
  wrong_use p (binder.Var k) s = list_any (λ v. wrong_variable (is_signal sight v) v p s) (option_list (slice_get sight.vars k))
  wrong_use p (binder.Param k) s = in_an_arm p s || list_any (λ single. wrong_param single (mark_at asks k) s) (option_list (slice_get (singles d.params) k))
  wrong_use p (binder.Def k) s = list_any (λ e. wrong_def e s) (option_list (slice_get d.known.defs k))
  wrong_use p _ s = false

  abbrev pub mixed_claim : Place → Claim → Bool
  mixed_claim p (named b x s) = wrong_use p b s
  mixed_claim p stray = true
  mixed_claim p answered = true
  mixed_claim p _ = false

  abbrev pub mixed : Bool
  mixed = list_any mixed_site contents.sites || (list_any mixed_start contents.starts || any_claim mixed_claim asks)

  -- 5. It is not combinatorial.

  abbrev pub not_combinatorial : Bool
  not_combinatorial = not d.node && (not (list_all is_plain d.body.eqs) || any_claim timed_claim asks)

  -- the first kind of fault that it has
  abbrev pub fault : Option Fault
  fault = if twice then Some Twice else if unbound then Some Unbound else if not_all_arms then Some NotAllArms else if mixed then Some Mixed else if not_combinatorial then Some NotCombinatorial else None

  -- Marks, and what later definitions see.

  abbrev pub marks : List Mark
  marks = marks_from asks d.params 0

  abbrev pub signal_binder : Binder → Bool
  signal_binder (binder.Param k) = is_signal_mark (mark_at asks k)
  signal_binder (binder.Var k) = list_any (is_signal sight) (option_list (slice_get sight.vars k))
  signal_binder _ = false

  -- its result is a signal
  abbrev pub result_by : Form-F N (Form N) (Expr N) → Bool
  result_by (Form-F.Var x) = signal_binder (binder_at sight [] x.0)
  result_by (Form-F.Call run x args every) = head_answers (head_at sight [] x.0)
  result_by _ = false

  -- the definition, as later ones see it
  abbrev pub seen_later : Earlier
  seen_later = record { title = d.title; node = d.node; marks = marks; answers = result_by (root d.body.result) }
