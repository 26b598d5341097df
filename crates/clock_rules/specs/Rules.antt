-- The rules of clocks, after Colaço and Pouzet (EMSOFT 2003): for each expression, equation and block the pairs of clocks
-- that have to be equal, by the notes of direct parts alone; and the conditions on names.
use Rattle.std.specs.Prelude.{◌≡◌, ℕ, zero, suc, ◌-◌, ◌<◌, ◌==◌, ◌&&◌, Bool, true, false, not, List, [], ◌∷◌, ◌++◌, map, length, drop, Option, Some, None, option_map, unwrap_or, if◌then◌else◌, nat_lt}
use Rattle.ls_ast.specs.declared.tree.Case.{Case}
use Rattle.ls_ast.specs.declared.tree.Case.TheVariants as case
use Rattle.ls_ast.specs.declared.tree.Form.TheOpen.{Form-F}
use Rattle.ls_ast.specs.declared.tree.Mark.{Mark}
use Rattle.ls_ast.specs.declared.tree.Mark.TheVariants as mark
use Rattle.ls_ast.specs.declared.tree.Pat.{Pat}
use Rattle.ls_terms.specs.declared.clocks.ClockTerm.{ClockTerm}
use Rattle.ls_terms.specs.Clocks.{size}
use Rattle.ls_sig.specs.declared.binder.Binder.{Binder}
use Rattle.ls_sig.specs.declared.binder.Binder.TheVariants as b
use Rattle.ls_sig.specs.declared.binder.Note.{Note}
use Rattle.clock_rules.specs.declared.scheme.ClockScheme.{ClockScheme}
use Rattle.ls_places.specs.Definitions.{note_clocks}
use Rattle.ls_places.specs.Patterns.{names_of, has_name}
use Rattle.ls_places.specs.Places.{Place, InnerArm, arms, place_of}
use Rattle.ls_places.specs.Search.{nth, starts_with, signal_in, list_of}
use Rattle.ls_places.specs.declared.places.Named.{Named}
use Rattle.ls_places.specs.declared.places.Named.TheVariants as named
use Rattle.ls_places.specs.declared.places.Right.{Right}
use Rattle.ls_places.specs.declared.places.Right.TheVariants as rhs
use Rattle.ls_places.specs.declared.places.Site.{Site}
use Rattle.ls_places.specs.declared.places.Start.{Start}
use Rattle.ls_places.specs.declared.places.Transition.{Transition}
use Rattle.ls_places.specs.declared.places.Variable.{Variable}
use Rattle.clock_rules.specs.Terms.{on, arrow, pointwise, variables, larger, greatest_from, names_in, instance, IsClock, IsClockOf, limit, is_function, is_comb}
use Rattle.clock_rules.specs.Layers.{Layer}
use Rattle.clock_rules.specs.Facts.{Facts}
use Rattle.tree_notes.specs.Each.{Each}

abbrev pub Pair : Type 0
Pair = ClockTerm × ClockTerm

abbrev pub IsEqual : Pair → Type 0
IsEqual p = p.0 ≡ p.1

abbrev pub AreEqual : List Pair → Type 0
AreEqual = Each IsEqual

-- ---- where names stand

abbrev pub list_at : List Variable → ℕ → List InnerArm
list_at vars x = list_of (nth vars x)

-- what is left of a number after as many names; none where there are more names
abbrev pub after_names : List ℕ → ℕ → Option ℕ
after_names [] k = Some k
after_names (x ∷ xs) zero = None
after_names (x ∷ xs) (suc k) = after_names xs k

abbrev pub param_here : ℕ → (ℕ → Option ℕ) → Option ℕ → Option ℕ
param_here i further None = Some i
param_here i further (Some k) = further k

-- the parameter that binds the k-th of the parameters' names
abbrev pub param_at : ℕ → List Pat → ℕ → Option ℕ
param_at k [] i = None
param_at k (p ∷ ps) i = param_here i (λ r. param_at r ps (suc i)) (after_names (names_of p) k)

-- the parameter that binds a name
abbrev pub param_named : ℕ → List Pat → ℕ → Option ℕ
param_named x [] i = None
param_named x (p ∷ ps) i = if has_name x (names_of p) then Some i else param_named x ps (suc i)

abbrev pub is_clock_of : ℕ → Named → Bool
is_clock_of x (named.Clock y) = x == y
is_clock_of x _ = false

-- the number of the clock name that a variable brings
abbrev pub clock_name : ℕ → List Named → ℕ → Option ℕ
clock_name x [] m = None
clock_name x (n ∷ ns) m = if is_clock_of x n then Some m else clock_name x ns (suc m)

-- the arms between a list and a place in it
abbrev pub between : List InnerArm → Place → List InnerArm
between list p = drop (length list) (arms p)

abbrev pub innermost : List InnerArm → Option InnerArm
innermost [] = None
innermost (a ∷ []) = Some a
innermost (a ∷ p) = innermost p

abbrev pub opt_pairs : {A : Type 0} → Option A → (A → List Pair) → List Pair
opt_pairs None f = []
opt_pairs (Some x) f = f x

-- a clock inside these arms
abbrev pub sampled : ClockTerm → List InnerArm → ClockTerm
sampled ck [] = ck
sampled ck (a ∷ p) = sampled (on ck a.0 a.1) p

-- the clock of this number; past the end one that no stream has
abbrev pub at : List ClockTerm → ℕ → ClockTerm
at cks k = unwrap_or (nth cks k) pointwise

-- the clocks of the variables, and those of the blocks, one for each clock name that is no parameter
pub record Clocks : Type 0 where
  pub vars : List ClockTerm
  pub blocks : List ClockTerm

-- how many clock variables the signature has that a name means
abbrev pub sig_count : Option ClockScheme → ℕ
sig_count None = 0
sig_count (Some s) = larger (variables s.result) (greatest_from (map variables s.clocks) 0)

abbrev pub count_at : List ClockScheme → Binder → ℕ
count_at sigs (b.Def k) = sig_count (nth sigs k)
count_at sigs _ = 0

abbrev pub is_clock_mark : Mark → Bool
is_clock_mark mark.Clock = true
is_clock_mark _ = false

module _ (sigs : List ClockScheme) (cases : ℕ → Option ℕ) (d : Facts Note) (cs : Clocks) where
  -- ---- names

  -- the clock of the block with this clock name
  abbrev pub block : ℕ → ClockTerm
  block m = at cs.blocks (m - length d.params)

  abbrev pub param_clock : Option ℕ → Option ClockTerm
  param_clock None = None
  param_clock (Some i) = option_map (λ (n : Note). n.ck) (nth d.notes i)

  abbrev pub with_list : List InnerArm → Option ClockTerm → Option (ClockTerm × List InnerArm)
  with_list list = option_map (λ ck. (ck, list))

  -- the clock of what a name means, and the arms around the list that binds it
  abbrev pub meaning : Binder → Option (ClockTerm × List InnerArm)
  meaning (b.Var k) = Some (at cs.vars k, list_at d.vars k)
  meaning (b.Param k) = with_list [] (param_clock (param_at k d.params 0))
  meaning _ = None

  -- the number of the clock name that is meant
  abbrev pub number : Binder → Option ℕ
  number (b.Var k) = clock_name k d.names (length d.params)
  number (b.Param k) = param_at k d.params 0
  number _ = None

  abbrev pub number_or : Binder → ℕ
  number_or bound = unwrap_or (number bound) 0

  abbrev pub case_number : Case → ℕ
  case_number case.True = 1
  case_number case.False = 0
  case_number (case.Of x) = unwrap_or (cases x.0) 0

  -- ---- what is seen in arms

  -- at the border of an arm the clock is that of its block
  abbrev pub borders : ClockTerm → List InnerArm → List Pair
  borders ck [] = []
  borders ck (a ∷ p) = (ck, block a.0) ∷ borders (on ck a.0 a.1) p

  -- a clock is seen inside these arms as another
  abbrev pub seen : ClockTerm → List InnerArm → ClockTerm → List Pair
  seen ck p here = borders ck p ++ (sampled ck p, here) ∷ []

  abbrev pub seen_at : Place → ClockTerm → (ClockTerm × List InnerArm) → List Pair
  seen_at p here m = seen m.0 (between m.1 p) here

  -- a use of a stream's or a signal's name; a function's name is not sampled
  abbrev pub used : Note → Place → List Pair
  used n p = opt_pairs (meaning n.bound) (λ m. if is_function n.ty then (m.0, n.ck) ∷ [] else seen_at p n.ck m)

  -- the condition of a sampling, which is no name from outside an arm: its own clock is that of what is sampled
  abbrev pub condition : Binder → ClockTerm → List Pair
  condition bound ck = opt_pairs (meaning bound) (λ m. (m.0, ck) ∷ [])

  -- ---- calls

  abbrev pub parts_on : ClockTerm → List Note → List Pair
  parts_on ck [] = []
  parts_on ck (n ∷ ns) = (n.ck, ck) ∷ parts_on ck ns

  abbrev pub streams_on : ClockTerm → List Note → List Pair
  streams_on ck [] = []
  streams_on ck (n ∷ ns) = (if is_function n.ty then [] else (n.ck, ck) ∷ []) ++ streams_on ck ns

  -- the clock name given at each position
  abbrev pub given_names : List Note → ℕ → ℕ
  given_names args p = unwrap_or (option_map (λ (n : Note). number_or n.bound) (nth args p)) 0

  -- what is given meets the clocks of the parameters
  abbrev pub meet : List ClockTerm → List Note → List Pair
  meet (ck ∷ cks) (n ∷ ns) = (ck, n.ck) ∷ meet cks ns
  meet _ _ = []

  -- and so is what is given at a Clock position
  abbrev pub named_pairs : List Note → List ℕ → List Pair
  named_pairs args [] = []
  named_pairs args (q ∷ qs) = opt_pairs (nth args q) (λ n. condition n.bound n.ck) ++ named_pairs args qs

  abbrev pub instances : List ClockTerm → List Note → List ClockTerm → List ClockTerm
  instances by args = map (instance (given_names args) (at by))

  -- The clock of a call is that of the result. A combinatorial function that is passed is pointwise by its type; of any other
  -- function, and of one that holds a stream, the clock is the arrow of what is left.
  abbrev pub result_pairs : List ClockTerm → ClockScheme → Note → List Note → Bool → List Pair
  result_pairs by s n args holds =
      if is_function n.ty
      then (if is_comb n.ty && not holds then [] else (arrow (drop (length args) (instances by args s.clocks)) (instance (given_names args) (at by) s.result), n.ck) ∷ [])
      else (instance (given_names args) (at by) s.result, n.ck) ∷ []

  abbrev pub definition_pairs : List ClockTerm → Note → List Note → Bool → Option ClockScheme → List Pair
  definition_pairs by n args holds None = []
  definition_pairs by n args holds (Some s) =
      meet (instances by args s.clocks) args ++ (named_pairs args s.names ++ result_pairs by s n args holds)

  -- a call of a combinatorial parameter is pointwise, one of a sequential parameter by its one clock arrow
  abbrev pub parameter_pairs : Bool → Note → List Note → Option (ClockTerm × List InnerArm) → List Pair
  parameter_pairs run n args None = []
  parameter_pairs true n args (Some m) = (m.0, arrow (note_clocks args) n.ck) ∷ []
  parameter_pairs false n args (Some m) = streams_on n.ck args

  abbrev pub call_pairs : List ClockTerm → Bool → Note → List Note → Bool → Binder → List Pair
  call_pairs by run n args holds (b.Def k) = definition_pairs by n args holds (nth sigs k)
  call_pairs by run n args holds bound = parameter_pairs run n args (meaning bound)

  abbrev pub name_pairs : List ClockTerm → Note → Place → Binder → List Pair
  name_pairs by n p (b.Def k) = definition_pairs by n [] false (nth sigs k)
  name_pairs by n p bound = used n p

  -- ---- expressions

  abbrev pub branch_pairs : ClockTerm → ℕ → List (Case × Note) → List Pair
  branch_pairs ck m [] = []
  branch_pairs ck m (c ∷ all) = (c.1.ck, on ck m (case_number c.0)) ∷ branch_pairs ck m all

  abbrev pub form_pairs : List ClockTerm → Place → Note → Bool → Form-F Note (Unit {0}) Note → List Pair
  form_pairs by p n holds (Form-F.Leaf l) = []
  form_pairs by p n holds (Form-F.Case x) = []
  form_pairs by p n holds (Form-F.Var x) = name_pairs by n p n.bound
  form_pairs by p n holds (Form-F.Last x) = used n p
  form_pairs by p n holds (Form-F.Asked x) = used n p
  form_pairs by p n holds (Form-F.Op o args) = parts_on n.ck args
  form_pairs by p n holds (Form-F.Tuple all) = parts_on n.ck all
  form_pairs by p n holds (Form-F.Pre e) = (e.ck, n.ck) ∷ []
  form_pairs by p n holds (Form-F.Fby x y) = (x.ck, n.ck) ∷ (y.ck, n.ck) ∷ []
  form_pairs by p n holds (Form-F.Init x y) = (x.ck, n.ck) ∷ (y.ck, n.ck) ∷ []
  form_pairs by p n holds (Form-F.When e x k) = condition n.bound e.ck ++ (on e.ck (number_or n.bound) (case_number k), n.ck) ∷ []
  form_pairs by p n holds (Form-F.Merge x all) = condition n.bound n.ck ++ branch_pairs n.ck (number_or n.bound) all
  form_pairs by p n holds (Form-F.Call run x args every) = call_pairs by run n args holds n.bound

  abbrev pub node_pairs : List ClockTerm → Layer Note × Place → List Pair
  node_pairs by node = form_pairs by node.1 node.0.note node.0.holds node.0.form

  -- An expression obeys the rules with some clocks for the variables of the signature, if it is a call.
  pub record NodeObeys (node : Layer Note × Place) : Type 0 where
    pub clock : IsClockOf node.0.note.ty node.0.note.ck
    pub by : List ClockTerm
    pub many : length by ≡ count_at sigs node.0.note.bound
    pub clocks : Each IsClock by
    pub equal : AreEqual (node_pairs by node)

  -- ---- equations and blocks

  abbrev pub pattern_pairs : ℕ → Option InnerArm → List Pair
  pattern_pairs x None = []
  pattern_pairs x (Some a) = (at cs.vars x, on (block a.0) a.0 a.1) ∷ []

  -- the pairs of a whole expression's note
  abbrev pub whole_pairs : ℕ → (Note → List Pair) → List Pair
  whole_pairs k f = opt_pairs (nth d.wholes k) f

  -- the clock of a variable is seen at its equation as that of the right side
  abbrev pub right_pairs : ℕ → Site → Right → List Pair
  right_pairs x s (rhs.Part p k) = whole_pairs k (λ n. seen (at cs.vars x) s.inner n.ck)
  right_pairs x s (rhs.Whole k) = whole_pairs k (λ n. seen (at cs.vars x) s.inner n.ck)
  right_pairs x s (rhs.Pattern y p) = pattern_pairs x (innermost (arms s.place))

  abbrev pub vars_pairs : Site → List ℕ → List Pair
  vars_pairs s [] = []
  vars_pairs s (x ∷ xs) = right_pairs x s s.right ++ vars_pairs s xs

  abbrev pub site_pairs : Site → List Pair
  site_pairs s = vars_pairs s s.vars

  abbrev pub begin_pairs : Start → Option ℕ → List Pair
  begin_pairs s None = []
  begin_pairs s (Some x) = whole_pairs s.right (λ n. (at cs.vars x, n.ck) ∷ [])

  abbrev pub start_pairs : Start → List Pair
  start_pairs s = begin_pairs s (place_of s.name s.list d.vars 0)

  abbrev pub signal_meaning : ℕ → Option ℕ → Option (ClockTerm × List InnerArm)
  signal_meaning x (Some k) = Some (at cs.vars k, list_at d.vars k)
  signal_meaning x None = with_list [] (param_clock (param_named x d.params 0))

  abbrev pub signal_pairs : ClockTerm → Place → List ℕ → List Pair
  signal_pairs ck p [] = []
  signal_pairs ck p (x ∷ xs) = opt_pairs (signal_meaning x (signal_in x (arms p) d.vars 0)) (seen_at p ck) ++ signal_pairs ck p xs

  -- the conditions of guards are on this clock
  abbrev pub conditions_on : ClockTerm → List Transition → List Pair
  conditions_on ck [] = []
  conditions_on ck (g ∷ gs) = whole_pairs g.cond (λ n. (n.ck, ck) ∷ []) ++ conditions_on ck gs

  -- the guards of the states from s on are on the clocks of their states
  abbrev pub guard_pairs : ClockTerm → ℕ → ℕ → List (ℕ × List Transition) → List Pair
  guard_pairs ck m s [] = []
  guard_pairs ck m s (gs ∷ all) = conditions_on (on ck m s) gs.1 ++ guard_pairs ck m (suc s) all

  -- the first clock name of an automaton is that of its bodies and weak guards, the second that of its strong guards
  abbrev pub block_pairs : ℕ → Named → List Pair
  block_pairs m (named.Clock x) = []
  block_pairs m (named.Match k all p) = whole_pairs k (λ n. (n.ck, block m) ∷ [])
  block_pairs m (named.Present xs p) = signal_pairs (block m) p xs
  block_pairs m (named.Active all p) = (block (suc m), block m) ∷ guard_pairs (block m) (suc m) 0 all
  block_pairs m (named.Tested all p) = guard_pairs (block m) (m - 1) 0 all

  abbrev pub blocks_pairs : ℕ → List Named → List Pair
  blocks_pairs m [] = []
  blocks_pairs m (n ∷ ns) = block_pairs m n ++ blocks_pairs (suc m) ns

  abbrev pub sites_pairs : List Site → List Pair
  sites_pairs [] = []
  sites_pairs (s ∷ all) = site_pairs s ++ sites_pairs all

  abbrev pub starts_pairs : List Start → List Pair
  starts_pairs [] = []
  starts_pairs (s ∷ all) = start_pairs s ++ starts_pairs all

  abbrev pub equation_pairs : List Pair
  equation_pairs = sites_pairs d.sites ++ (starts_pairs d.starts ++ blocks_pairs (length d.params) d.names)

  -- ---- the conditions on names

  abbrev pub name_place : Named → List InnerArm
  name_place (named.Clock x) = list_at d.vars x
  name_place (named.Match k all p) = arms p
  name_place (named.Present xs p) = arms p
  name_place (named.Active all p) = arms p
  name_place (named.Tested all p) = arms p

  -- the arms around the list that binds a clock name
  abbrev pub name_list : ℕ → List InnerArm
  name_list m = if nat_lt m (length d.params) then [] else unwrap_or (option_map name_place (nth d.names (m - length d.params))) []

  -- a clock mentions only names bound in lists around
  abbrev pub IsWithin : List InnerArm → ClockTerm → Type 0
  IsWithin list ck = Each (λ m. starts_with list (name_list m) ≡ true) (names_in ck)

  abbrev pub is_clock_parameter : ℕ → Bool
  is_clock_parameter m = unwrap_or (option_map is_clock_mark (nth d.marks m)) false

  -- a clock of the signature mentions no local name
  abbrev pub IsPublic : ClockTerm → Type 0
  IsPublic ck = Each (λ m. is_clock_parameter m ≡ true) (names_in ck)

  -- what the clock of a Clock parameter mentions has a smaller number
  abbrev pub Below : (ℕ → ℕ) → ℕ → Note → Type 0
  Below rank i n = is_clock_parameter i ≡ true → Each (λ m. rank m < rank i) (names_in n.ck)

  pub record Acyclic : Type 0 where
    pub rank : ℕ → ℕ
    pub below : (i : ℕ) (n : Note) → nth d.notes i ≡ Some n → Below rank i n

  -- a variable
  pub record VarObeys (x : ℕ) (v : Variable) : Type 0 where
    pub clock : IsClock (at cs.vars x)
    pub within : IsWithin v.list (at cs.vars x)

  -- the j-th clock name that is no parameter, and its block; the clock of an arm has one node more
  pub record BlockObeys (j : ℕ) (n : Named) : Type 0 where
    pub clock : IsClock (at cs.blocks j)
    pub arm : size (at cs.blocks j) < limit
    pub within : IsWithin (name_place n) (at cs.blocks j)

  pub record ParamObeys (n : Note) : Type 0 where
    pub clock : IsClockOf n.ty n.ck
    pub public : IsPublic n.ck

  -- The conditions on names, and the sizes of the clocks that stand at no expression.
  pub record Conditions : Type 0 where
    pub many_vars : length cs.vars ≡ length d.vars
    pub many_blocks : length cs.blocks ≡ length d.names
    pub vars : (x : ℕ) (v : Variable) → nth d.vars x ≡ Some v → VarObeys x v
    pub blocks : (j : ℕ) (n : Named) → nth d.names j ≡ Some n → BlockObeys j n
    pub params : Each ParamObeys d.notes
    pub result : IsPublic d.result.ck
    pub acyclic : Acyclic

  -- a definition whose annotation obeys the rules with these clocks for its variables and blocks
  pub record Obeys : Type 0 where
    pub nodes : Each NodeObeys d.nodes
    pub equal : AreEqual equation_pairs
    pub conditions : Conditions
