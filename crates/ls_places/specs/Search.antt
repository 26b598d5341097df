-- Looking things up among what stands in a body.
use Rattle.std.specs.Prelude.{ℕ, zero, suc, ◌+◌, ◌-◌, ◌==◌, ◌&&◌, ◌||◌, Bool, true, false, List, [], ◌∷◌, ◌++◌, map, length, Option, Some, None, if◌then◌else◌}
use Rattle.ls_value.specs.declared.leaf.Leaf.TheVariants as leaf
use Rattle.ls_ast.specs.declared.tree.Expr.{Expr}
use Rattle.ls_ast.specs.declared.tree.Form.TheVariants as form
use Rattle.ls_ast.specs.declared.tree.Pat.{Pat}
use Rattle.ls_terms.specs.declared.clocks.ClockTerm.{ClockTerm, fold-ClockTerm}
use Rattle.ls_terms.specs.declared.clocks.ClockTerm.TheOpen.{ClockTerm-F}
use Rattle.ls_terms.specs.declared.clocks.ClockTerm.TheVariants as clock
use Rattle.ls_terms.specs.declared.types.TypeTerm.TheVariants as type
use Rattle.ls_sig.specs.declared.binder.Binder.TheVariants as b
use Rattle.ls_sig.specs.declared.binder.Note.{Note}
use Rattle.ls_places.specs.Clocks.{any, or_else, mentions, noted, clocks_in}
use Rattle.ls_places.specs.Patterns.{joined, has_name, names_of}
use Rattle.ls_places.specs.Places.{InnerArm, arms, option_list}
use Rattle.ls_places.specs.declared.definition.Definition.{Definition}
use Rattle.ls_places.specs.declared.places.Named.{Named}
use Rattle.ls_places.specs.declared.places.Named.TheVariants as named
use Rattle.ls_places.specs.declared.places.Site.{Site}
use Rattle.ls_places.specs.declared.places.Start.{Start}
use Rattle.ls_places.specs.declared.places.Transition.{Transition}
use Rattle.ls_places.specs.declared.places.Variable.{Variable}
use Rattle.ls_places.specs.declared.places.Whole.{Whole}

abbrev pub E : Type 0
E = Expr Note

abbrev pub same_number : ℕ → ℕ → Bool
same_number j k = j == k

abbrev pub and : Bool → Bool → Bool
and a b = a && b

abbrev pub nth : {A : Type 0} → List A → ℕ → Option A
nth [] k = None
nth (x ∷ xs) zero = Some x
nth (x ∷ xs) (suc k) = nth xs k

-- ---- whole expressions

-- stands where a number has no expression: it is never present
abbrev pub never : E
never = record { note = record { bound = b.Nothing; ty = type.Unit; ck = clock.Pointwise; restarts = [] }; form = form.Leaf leaf.Nil }

abbrev pub whole_at : List (Whole Note) → ℕ → Whole Note
whole_at [] k = record { expr = never; place = [] }
whole_at (x ∷ xs) zero = x
whole_at (x ∷ xs) (suc k) = whole_at xs k

-- the whole expression of this number
abbrev pub whole_of : Definition → ℕ → Whole Note
whole_of d k = whole_at d.places.exprs k

-- ---- where a clock variable occurs

-- the common beginning of two places
abbrev pub common : List InnerArm → List InnerArm → List InnerArm
common (a ∷ p) (c ∷ q) = if a.0 == c.0 && a.1 == c.1 then a ∷ common p q else []
common _ _ = []

-- the arms around the block of this name
abbrev pub outside : ℕ → List InnerArm → List InnerArm
outside m [] = []
outside m (mj ∷ p) = if mj.0 == m then [] else mj ∷ outside m p

-- the places where a clock variable occurs, by what the parts of a clock say
abbrev pub Occurring : Type 0
Occurring = List InnerArm → List (List InnerArm)

abbrev pub all_occurring : List Occurring → Occurring
all_occurring [] p = []
all_occurring (o ∷ os) p = o p ++ all_occurring os p

-- A clock below a sampling on a block is the clock of that block, which stands outside its arms. Each part of an arrow is
-- judged by its own samplings.
abbrev pub occurs_step : ℕ → ClockTerm-F Occurring → Occurring
occurs_step w (ClockTerm-F.Var v) p = if v == w then p ∷ [] else []
occurs_step w (ClockTerm-F.On ck m k) p = ck (outside m p)
occurs_step w ClockTerm-F.Pointwise p = []
occurs_step w (ClockTerm-F.Arrow cks ck) p = all_occurring cks p ++ ck p

-- where a clock variable occurs, by a clock noted at a place
abbrev pub occurrences : ℕ → ClockTerm → List InnerArm → List (List InnerArm)
occurrences w = fold-ClockTerm Occurring (occurs_step w)

-- where it occurs, by the clocks noted at one place
abbrev pub term_places : ℕ → List InnerArm → List ClockTerm → List (List InnerArm)
term_places w p [] = []
term_places w p (t ∷ ts) = occurrences w t p ++ term_places w p ts

abbrev pub starts_with : List InnerArm → List InnerArm → Bool
starts_with p [] = true
starts_with [] (a ∷ q) = false
starts_with (a ∷ p) (c ∷ q) = (a.0 == c.0 && a.1 == c.1) && starts_with p q

-- the smallest arm that holds all these places
abbrev pub narrow : List (List InnerArm) → List InnerArm
narrow [] = []
narrow (p ∷ []) = p
narrow (p ∷ ps) = common p (narrow ps)

-- whether a clock variable stands in a definition's signature
abbrev pub in_signature : Definition → ℕ → Bool
in_signature d w = any (map (mentions w) (d.result.note.ck ∷ d.clocks))

-- the arms around the places where a clock variable occurs
abbrev pub places_of : ℕ → List (Whole Note) → List (List InnerArm)
places_of w [] = []
places_of w (x ∷ all) = term_places w (arms x.place) (clocks_in x.expr) ++ places_of w all

-- the smallest arm that holds all of them
abbrev pub home_of : ℕ → List (Whole Note) → List InnerArm
home_of w all = narrow (places_of w all)

abbrev pub all_clocks : List (Whole Note) → List ClockTerm
all_clocks [] = []
all_clocks (x ∷ all) = clocks_in x.expr ++ all_clocks all

-- the clock of an automaton with the clock names `m` and `m + 1`, where a clock is sampled on one of them
abbrev pub mode_clock : ℕ → List (Whole Note) → Option ClockTerm
mode_clock m all = or_else (noted m (all_clocks all)) (noted (m + 1) (all_clocks all))

-- ---- variables and signals

-- the equations of a variable, in the order of the text
abbrev pub sites_of : ℕ → List Site → List Site
sites_of x [] = []
sites_of x (s ∷ all) = if has_name x s.vars then s ∷ sites_of x all else sites_of x all

-- the initial equation of a variable
abbrev pub start_of : Variable → List Start → Option Start
start_of w [] = None
start_of w (s ∷ all) = if s.name == w.name && (starts_with s.list w.list && starts_with w.list s.list) then Some s else start_of w all

-- the signal of this name that is seen at a place; None where it is a parameter
abbrev pub signal_in : ℕ → List InnerArm → List Variable → ℕ → Option ℕ
signal_in x p [] k = None
signal_in x p (w ∷ ws) k = if w.name == x && starts_with p w.list then Some k else signal_in x p ws (suc k)

abbrev pub signal_at : Definition → ℕ → List InnerArm → Option ℕ
signal_at d x p = signal_in x p d.places.vars 0

-- the arms around the list of a variable
abbrev pub list_of : Option Variable → List InnerArm
list_of None = []
list_of (Some w) = w.list

-- the arms around the list that binds the signal of this name that is seen at a place; none where it is a parameter
abbrev pub signal_list_at : Definition → Option ℕ → List InnerArm
signal_list_at d None = []
signal_list_at d (Some k) = list_of (nth d.places.vars k)

abbrev pub signal_list : Definition → ℕ → List InnerArm → List InnerArm
signal_list d x p = signal_list_at d (signal_at d x p)

-- without the arms of the first
abbrev pub arms_within : List InnerArm → List InnerArm → List InnerArm
arms_within [] p = p
arms_within (a ∷ l) [] = []
arms_within (a ∷ l) (c ∷ p) = arms_within l p

-- the arms between the list that binds a signal and a place where it is seen
abbrev pub signal_arms : Definition → ℕ → List InnerArm → List InnerArm
signal_arms d x p = arms_within (signal_list d x p) p

-- ---- parameters

-- the clock of the parameter that binds this name
abbrev pub param_clock : ℕ → List Pat → List ClockTerm → Option ClockTerm
param_clock x (p ∷ ps) (t ∷ ts) = if has_name x (names_of p) then Some t else param_clock x ps ts
param_clock x _ _ = None

abbrev pub clock_of_param : Definition → ℕ → Option ClockTerm
clock_of_param d x = param_clock x d.params d.clocks

-- ---- automata on whose names no clock is sampled

-- whether a place is in an arm of the automaton with the clock names `m` and `m + 1`
abbrev pub in_modes : ℕ → List InnerArm → Bool
in_modes m [] = false
in_modes m (a ∷ p) = (a.0 == m || a.0 == m + 1) || in_modes m p

-- the first of these signals, seen at a place, that is bound outside the automaton
abbrev pub first_outside : Definition → ℕ → List InnerArm → List ℕ → Option ℕ
first_outside d m p [] = None
first_outside d m p (x ∷ xs) = if in_modes m (signal_list d x p) then first_outside d m p xs else Some x

abbrev pub tested_by : Definition → ℕ → Named → Option ℕ
tested_by d m (named.Present xs p) = if in_modes m (arms p) then first_outside d m (arms p) xs else None
tested_by d m _ = None

abbrev pub tested_among : Definition → ℕ → List Named → Option ℕ
tested_among d m [] = None
tested_among d m (n ∷ all) = or_else (tested_by d m n) (tested_among d m all)

-- the first signal from outside that a `present` in an arm of this automaton tests
abbrev pub tested_outside : Definition → ℕ → Option ℕ
tested_outside d m = tested_among d m d.places.names

-- ---- states and arms

-- the number of the state of this name
abbrev pub state_of : ℕ → List (ℕ × List Transition) → ℕ → ℕ
state_of x [] k = k
state_of x (s ∷ all) k = if s.0 == x then k else state_of x all (suc k)

-- the guards of the state of this number
abbrev pub guards_of : List (ℕ × List Transition) → ℕ → List Transition
guards_of [] k = []
guards_of (s ∷ all) zero = s.1
guards_of (s ∷ all) (suc k) = guards_of all k

-- the first arm that takes the case `k`
abbrev pub arm_of : ℕ → List (Option ℕ) → ℕ → Option ℕ
arm_of k [] j = None
arm_of k (None ∷ all) j = Some j
arm_of k (Some c ∷ all) j = if c == k then Some j else arm_of k all (suc j)

-- ---- arms without an equation

-- the number of arms of a block
abbrev pub arm_count : Option Named → ℕ
arm_count (Some (named.Match e all p)) = length all
arm_count (Some (named.Present xs p)) = suc (length xs)
arm_count (Some (named.Active states p)) = length states
arm_count _ = 0

-- the arms around an equation, without the outermost, for those in this arm
abbrev pub path_inside : InnerArm → List InnerArm → Option (List InnerArm)
path_inside mj [] = None
path_inside mj (a ∷ path) = if a.0 == mj.0 && a.1 == mj.1 then Some path else None

abbrev pub paths_inside : InnerArm → List (List InnerArm) → List (List InnerArm)
paths_inside mj [] = []
paths_inside mj (path ∷ paths) = option_list (path_inside mj path) ++ paths_inside mj paths

abbrev pub is_empty : {A : Type 0} → List A → Bool
is_empty [] = true
is_empty (x ∷ xs) = false

-- the block that the first equation stands in
abbrev pub outer_block : List (List InnerArm) → ℕ
outer_block ((a ∷ path) ∷ paths) = a.0
outer_block _ = 0

-- the numbers from `k` on, `n` of them
abbrev pub count_up : ℕ → ℕ → List ℕ
count_up zero k = []
count_up (suc n) k = k ∷ count_up n (suc k)

-- Whether some arm, of the blocks that the equations at these places stand in, has none of them: looked for at most so
-- many blocks deep.
abbrev pub lacks_within : Definition → ℕ → List (List InnerArm) → Bool
lacks_within d zero paths = true
lacks_within d (suc depth) paths = if any (map is_empty paths) then false else
    (is_empty paths || any (map (λ j. lacks_within d depth (paths_inside (outer_block paths, j) paths))
    (count_up (arm_count (nth d.places.names (outer_block paths - length d.params))) 0)))

-- whether some arm has no equation for a variable that has these
abbrev pub lacks : Definition → List Site → Bool
lacks d all = lacks_within d (suc (length (joined (map (λ (s : Site). s.inner) all)))) (map (λ (s : Site). s.inner) all)
