use Rattle.std.specs.Prelude.{◌≡◌, ◌≢◌, ◌⊎◌, ℕ, ◌<◌, ◌≤◌, List, length, slice_get, slice_index, Option, Some, None, All}
use Rattle.std.proofs.Common.{Vec, Global}
use Rattle.term_unify.specs.Graph.{AreClasses, JoinsVariables, IsGraph}
use Rattle.term_unify.specs.Order.{IsWalk}
use Rattle.term_unify.specs.Terms.{first}
use Rattle.term_unify.specs.declared.laws.Term.{Ghosts}

-- the nodes of variables by their class
pub record AreGroups {T : Type 0} (A : Ghosts T) (ts : List T) (cls : List ℕ) (most : ℕ) (groups : List (Vec ℕ Global)) : Type 0 where
  pub all : length groups ≡ length ts
  pub known : (c k i : ℕ) (g : Vec ℕ Global) → slice_get groups c ≡ Some g → slice_get g.items k ≡ Some i →
      (slice_index cls i ≡ c) × ((t : T) × (x : ℕ) × (slice_get ts i ≡ Some t) × (A.var_of t ≡ Some x))
  pub whole : (i x : ℕ) (t : T) → i < most → slice_get ts i ≡ Some t → A.var_of t ≡ Some x →
      (g : Vec ℕ Global) × (k : ℕ) × (slice_get groups (slice_index cls i) ≡ Some g) × (slice_get g.items k ≡ Some i)

-- a variable of a class is the class's own term, or it has that term's value
abbrev pub IsHandled : {T : Type 0} → Ghosts T → List (ℕ × T) → ℕ → T → Type 0
IsHandled A list x s = (A.var_of s ≡ Some x) ⊎ (first list x ≡ Some (A.apply (first list) s))

-- the entries so far, of the classes before a place in their order and of some at that place
pub record IsBinding {T : Type 0} (A : Ghosts T) (ts : List T) (cls order : List ℕ) (p : ℕ) (list : List (ℕ × T)) : Type 0 where
  pub handled : (i x q : ℕ) (t s : T) → slice_get ts i ≡ Some t → A.var_of t ≡ Some x → slice_get ts (slice_index cls i) ≡ Some s →
      q < p → slice_get order q ≡ Some (slice_index cls i) → IsHandled A list x s
  pub free : (i x : ℕ) (s : T) → slice_get ts i ≡ Some s → slice_index cls i ≡ i → A.var_of s ≡ Some x → first list x ≡ None
  pub listed : (k : ℕ) (e : ℕ × T) → slice_get list k ≡ Some e →
      (i : ℕ) × (q : ℕ) × (t : T) × (s : T) × (slice_get ts i ≡ Some t) × (A.var_of t ≡ Some e.0) × (slice_get ts (slice_index cls i) ≡ Some s) × (q ≤ p)
      × (slice_get order q ≡ Some (slice_index cls i)) × (A.var_of s ≢ Some e.0) × (e.1 ≡ A.apply (first list) s)
  pub once : (k l : ℕ) (e f : ℕ × T) → slice_get list k ≡ Some e → slice_get list l ≡ Some f → e.0 ≡ f.0 → k ≡ l

-- each variable among some nodes is handled by the term of a node
abbrev pub AllHandled : {T : Type 0} → Ghosts T → List T → List ℕ → ℕ → List (ℕ × T) → Type 0
AllHandled {T} A ts group root list =
    (k i x : ℕ) (t s : T) → slice_get group k ≡ Some i → slice_get ts i ≡ Some t → A.var_of t ≡ Some x → slice_get ts root ≡ Some s → IsHandled A list x s

-- the entries go on from those of the classes before a class to those of its variables, too
abbrev pub Binds : {T : Type 0} → Ghosts T → List T → ℕ → List ℕ → ℕ → List ℕ → List (ℕ × T) → List (ℕ × T) → Type 0
Binds A ts most parts root group old new =
    (cls sizes order : List ℕ) (p : ℕ) → AreClasses A ts parts cls → JoinsVariables A ts most (slice_index cls) → IsGraph A ts parts →
    IsWalk A ts parts cls sizes order → slice_get order p ≡ Some root → ((k i : ℕ) → slice_get group k ≡ Some i → slice_index cls i ≡ root) →
    IsBinding A ts cls order p old → IsBinding A ts cls order p new × AllHandled A ts group root new

-- no variable is listed twice
abbrev pub ListsOnce : {T : Type 0} → List (ℕ × T) → Type 0
ListsOnce {T} list = (k l : ℕ) (e f : ℕ × T) → slice_get list k ≡ Some e → slice_get list l ≡ Some f → e.0 ≡ f.0 → k ≡ l

-- the values hold none of the listed variables: what replaces these alone leaves them as they are
abbrev pub HoldNoneListed : {T : Type 0} → Ghosts T → List (ℕ × T) → Type 0
HoldNoneListed {T} A list = (by : ℕ → Option T) → ((x : ℕ) → first list x ≡ None → by x ≡ None) → All (λ e. A.apply by e.1 ≡ e.1) list
