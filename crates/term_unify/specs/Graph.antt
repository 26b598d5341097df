use Rattle.std.specs.Prelude.{◌≡◌, ◌≢◌, ℕ, zero, suc, ◌+◌, ◌<◌, ◌≤◌, ◌==◌, Bool, true, ◌||◌, List, [], ◌∷◌, ◌++◌, map, length, slice_get, slice_index, slice_set, Option, Some, None, is_some, All, if◌then◌else◌}
use Rattle.std.specs.Option.{option_map, option_and_then, option_map_or}
use Rattle.std.specs.List.{AllZip}
use Rattle.std.specs.Borrow.{Bor}
use Rattle.term_unify.specs.declared.laws.Term.{Ghosts}

-- ---- unifiers

-- both terms of each pair become one
abbrev pub Unifies : {T : Type 0} → Ghosts T → (ℕ → Option T) → List (T × T) → Type 0
Unifies A by pairs = All (λ p. A.apply by p.0 ≡ A.apply by p.1) pairs

-- what stands for a variable has at most so many nodes, and may stand there
abbrev pub IsAdmissible : {T : Type 0} → Ghosts T → ℕ → (ℕ → Option T) → Type 0
IsAdmissible {T} A limit by = (x : ℕ) (t : T) → by x ≡ Some t → (A.size t ≤ limit) × (A.stands t ≡ true)

-- what stands for a variable has at most so many nodes
abbrev pub IsBounded : {T : Type 0} → Ghosts T → ℕ → (ℕ → Option T) → Type 0
IsBounded {T} A limit by = (x : ℕ) (t : T) → by x ≡ Some t → A.size t ≤ limit

-- whether a term is let take a variable's place, where all are if the variables are free
abbrev pub taken : {T : Type 0} → Ghosts T → Bool → T → Bool
taken A free t = free || A.stands t

-- what stands for a variable has at most so many nodes, and is let take its place
abbrev pub IsAllowed : {T : Type 0} → Ghosts T → Bool → ℕ → (ℕ → Option T) → Type 0
IsAllowed {T} A free limit by = (x : ℕ) (t : T) → by x ≡ Some t → (A.size t ≤ limit) × (taken A free t ≡ true)

-- a substitution makes of each term what it makes of the term that another one gives
abbrev pub IsInstanceOf : {T : Type 0} → Ghosts T → (ℕ → Option T) → (ℕ → Option T) → Type 0
IsInstanceOf {T} A by of = (t : T) → A.apply by (A.apply of t) ≡ A.apply by t

-- ---- the nodes of some terms

-- the terms that references lead to
abbrev pub nodes : {T : Type 0} → List (Bor T) → List T
nodes ts = map (λ t. t.now) ts

-- the parts of each of the first nodes stand side by side
abbrev pub PartsFollow : {T : Type 0} → Ghosts T → List T → List ℕ → ℕ → Type 0
PartsFollow {T} A ts first most =
    (i n : ℕ) (t u : T) → i < most → slice_get ts i ≡ Some t → slice_get (A.kids t) n ≡ Some u →
    slice_get ts (slice_index first i + n) ≡ Some u

-- each node has its parts among the nodes
pub record IsGraph {T : Type 0} (A : Ghosts T) (ts : List T) (first : List ℕ) : Type 0 where
  pub all : length first ≡ length ts
  pub parts : PartsFollow A ts first (length ts)

-- the nodes that were there are still there
abbrev pub Keeps : {T : Type 0} → List T → List T → Type 0
Keeps {T} old new = (i : ℕ) (t : T) → slice_get old i ≡ Some t → slice_get new i ≡ Some t

-- a node's term with the variables replaced
abbrev pub value : {T : Type 0} → Ghosts T → List T → (ℕ → Option T) → ℕ → Option T
value A ts by i = option_map (A.apply by) (slice_get ts i)

-- a fact about the terms of two nodes
abbrev pub AtNodes : {T : Type 0} → List T → ℕ → ℕ → (T → T → Type 0) → Type 0
AtNodes {T} ts a b fact = (s t : T) → slice_get ts a ≡ Some s → slice_get ts b ≡ Some t → fact s t

-- ---- equations between nodes

-- a function gives both nodes of each equation the same
abbrev pub Solves : {X : Type 0} → (ℕ → X) → List (ℕ × ℕ) → Type 0
Solves f [] = Unit {0}
Solves f (e ∷ es) = (f e.0 ≡ f e.1) × Solves f es

-- each equation is between nodes
abbrev pub AreWithin : ℕ → List (ℕ × ℕ) → Type 0
AreWithin n [] = Unit {0}
AreWithin n (e ∷ es) = (e.0 < n) × (e.1 < n) × AreWithin n es

-- each equation is between the two terms of its pair
abbrev pub Pose : {T : Type 0} → List T → List (ℕ × ℕ) → List (T × T) → Type 0
Pose ts equal pairs = AllZip (λ e p. (slice_get ts e.0 ≡ Some p.0) × (slice_get ts e.1 ≡ Some p.1)) equal pairs

-- a function gives all nodes of a variable the same
abbrev pub JoinsVariables : {T : Type 0} → Ghosts T → List T → ℕ → (ℕ → ℕ) → Type 0
JoinsVariables {T} A ts most f =
    (i j : ℕ) (s t : T) (x : ℕ) → i < most → j < most → slice_get ts i ≡ Some s → slice_get ts j ≡ Some t →
    A.var_of s ≡ Some x → A.var_of t ≡ Some x → f i ≡ f j

-- what solves the one equations, as a substitution gives values, solves the others
abbrev pub SolvesAlso : {T : Type 0} → Ghosts T → List T → List (ℕ × ℕ) → List (ℕ × ℕ) → Type 0
SolvesAlso {T} A ts these those = (by : ℕ → Option T) → Solves (value A ts by) these → Solves (value A ts by) those

-- no substitution solves the equations
abbrev pub NoneSolves : {T : Type 0} → Ghosts T → List T → List (ℕ × ℕ) → Type 0
NoneSolves {T} A ts equal = (by : ℕ → Option T) → Solves (value A ts by) equal → ⊥

-- what solves the equations gives all nodes of a variable the same
abbrev pub SolvingJoins : {T : Type 0} → Ghosts T → List T → ℕ → List (ℕ × ℕ) → Type 0
SolvingJoins A ts most equal = (f : ℕ → ℕ) → Solves f equal → JoinsVariables A ts most f

-- ---- classes, by links from each node to one of its class

-- a function gives each node and the node that it is linked to the same
abbrev pub Follows : {X : Type 0} → (ℕ → X) → List ℕ → Type 0
Follows f links = (i : ℕ) → i < length links → f i ≡ f (slice_index links i)

-- links lead from one node to the other
pub data Leads (links : List ℕ) : ℕ → ℕ → Type 0 where
  here : {i : ℕ} → Leads links i i
  up : {i j : ℕ} → i < length links → Leads links (slice_index links i) j → Leads links i j

-- some links were replaced by the two links that a node begins
pub data Shortened (old : List ℕ) : List ℕ → Type 0 where
  same : Shortened old old
  halved : {links : List ℕ} (i : ℕ) → i < length links → slice_index links i ≢ i → Shortened old links →
      Shortened old (slice_set links i (slice_index links (slice_index links i)))

-- variables come after all other nodes
abbrev pub rank : {T : Type 0} → Ghosts T → List T → ℕ → ℕ
rank A ts i = (if is_some (option_and_then A.var_of (slice_get ts i)) then length ts else 0) + i

-- each link that is no loop leads to a lower node
pub record IsForest {T : Type 0} (A : Ghosts T) (ts : List T) (links : List ℕ) : Type 0 where
  pub all : length links ≡ length ts
  pub within : (i : ℕ) → i < length ts → slice_index links i < length ts
  pub down : (i : ℕ) → i < length ts → slice_index links i ≢ i → rank A ts (slice_index links i) < rank A ts i

-- while classes are brought together: the links, the equations still to be looked at, and those that
-- the work began with
pub record IsClosing {T : Type 0} (A : Ghosts T) (ts : List T) (first : List ℕ) (goal : List (ℕ × ℕ)) (links : List ℕ) (pending : List (ℕ × ℕ)) : Type 0 where
  pub forest : IsForest A ts links
  pub within : AreWithin (length ts) pending
  pub heads : (i : ℕ) (s : T) → slice_get ts i ≡ Some s → A.var_of s ≡ None →
      (t : T) × (slice_get ts (slice_index links i) ≡ Some t) × (A.var_of t ≡ None) × (A.alike s t ≡ true)
  pub parts : (f : ℕ → ℕ) → Follows f links → Solves f pending → (i n : ℕ) (s : T) → slice_get ts i ≡ Some s → A.var_of s ≡ None →
      n < length (A.kids s) → f (slice_index first i + n) ≡ f (slice_index first (slice_index links i) + n)
  pub sound : (by : ℕ → Option T) → Solves (value A ts by) goal → Follows (value A ts by) links × Solves (value A ts by) pending
  pub complete : (f : ℕ → ℕ) → Follows f links → Solves f pending → Solves f goal

-- as many pairs of nodes, one beside the other
abbrev pub pair_up : ℕ → ℕ → ℕ → List (ℕ × ℕ)
pair_up m n zero = []
pair_up m n (suc k) = pair_up m n k ++ (m + k, n + k) ∷ []

-- an equation more for each part of two nodes
abbrev pub EquatesParts : {T : Type 0} → Ghosts T → List T → List ℕ → ℕ → ℕ → List (ℕ × ℕ) → List (ℕ × ℕ) → Type 0
EquatesParts {T} A ts first over under old new =
    (t : T) → slice_get ts under ≡ Some t → new ≡ old ++ pair_up (slice_index first over) (slice_index first under) (length (A.kids t))

-- the links and the equations to be looked at still serve what the work began with
abbrev pub StaysClosing : {T : Type 0} → Ghosts T → List T → List ℕ → List ℕ → List (ℕ × ℕ) → List ℕ → List (ℕ × ℕ) → Type 0
StaysClosing A ts first old_links old new_links new = (goal : List (ℕ × ℕ)) → IsClosing A ts first goal old_links old → IsClosing A ts first goal new_links new

-- what the work began with has no solution
abbrev pub NeverCloses : {T : Type 0} → Ghosts T → List T → List ℕ → List ℕ → List (ℕ × ℕ) → Type 0
NeverCloses A ts first links pending = (goal : List (ℕ × ℕ)) → IsClosing A ts first goal links pending → NoneSolves A ts goal

-- the nodes and parts of the first nodes that stand for their class
abbrev pub live : {T : Type 0} → Ghosts T → List T → List ℕ → ℕ → ℕ
live A ts links zero = 0
live A ts links (suc n) = (if slice_index links n == n then 1 + option_map_or (λ t. length (A.kids t)) (slice_get ts n) 0 else 0) + live A ts links n

-- how many steps are left at most
abbrev pub work : {T : Type 0} → Ghosts T → List T → List ℕ → List (ℕ × ℕ) → ℕ
work A ts links pending = length pending + live A ts links (length ts)

-- each node with the one that stands for its class
pub record AreLabels (links cls : List ℕ) : Type 0 where
  pub all : length cls ≡ length links
  pub leads : (i : ℕ) → i < length links → Leads links i (slice_index cls i)
  pub root : (i : ℕ) → i < length links → slice_index links (slice_index cls i) ≡ slice_index cls i
  pub within : (i : ℕ) → i < length links → slice_index cls i < length links

-- classes of nodes: two terms of one class have one head, and their parts are in one class each
pub record AreClasses {T : Type 0} (A : Ghosts T) (ts : List T) (first cls : List ℕ) : Type 0 where
  pub all : length cls ≡ length ts
  pub within : (i : ℕ) → i < length ts → slice_index cls i < length ts
  pub root : (i : ℕ) → i < length ts → slice_index cls (slice_index cls i) ≡ slice_index cls i
  pub heads : (i : ℕ) (s : T) → slice_get ts i ≡ Some s → A.var_of s ≡ None →
      (t : T) × (slice_get ts (slice_index cls i) ≡ Some t) × (A.var_of t ≡ None) × (A.alike s t ≡ true)
  pub parts : (i n : ℕ) (s : T) → slice_get ts i ≡ Some s → A.var_of s ≡ None → n < length (A.kids s) →
      slice_index cls (slice_index first i + n) ≡ slice_index cls (slice_index first (slice_index cls i) + n)

-- a substitution gives all nodes of a class one value
abbrev pub Respects : {T : Type 0} → Ghosts T → List T → List ℕ → (ℕ → Option T) → Type 0
Respects A ts cls by = (i : ℕ) → i < length ts → value A ts by i ≡ value A ts by (slice_index cls i)

-- each solution of the equations gives all nodes of a class one value
abbrev pub AllRespect : {T : Type 0} → Ghosts T → List T → List (ℕ × ℕ) → List ℕ → Type 0
AllRespect {T} A ts equal cls = (by : ℕ → Option T) → Solves (value A ts by) equal → Respects A ts cls by
