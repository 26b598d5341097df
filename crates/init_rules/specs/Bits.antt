-- The rules of initialisation, after Colaço and Pouzet (STTT 2004): which bits an assignment gives to expressions, and
-- which of them must be 0.
use Rattle.std.specs.Prelude.{◌≡◌, ℕ, zero, suc, ◌||◌, ◌==◌, not, Bool, true, false, List, [], ◌∷◌, map, length, Option, Some, None, if◌then◌else◌}
use Rattle.ls_ast.specs.declared.tree.Expr.{Expr-F, fold-Expr}
use Rattle.ls_ast.specs.declared.tree.Form.TheOpen.{Form-F}
use Rattle.ls_ast.specs.declared.tree.Pat.{Pat}
use Rattle.ls_places.specs.Patterns.{names_of}
use Rattle.ls_places.specs.Places.{Place}
use Rattle.ls_sig.specs.declared.binder.Binder.{Binder}
use Rattle.ls_sig.specs.declared.binder.Binder.TheVariants as b
use Rattle.ls_sig.specs.declared.binder.Note.{Note}
use Rattle.ls_places.specs.declared.places.Frame.TheVariants as frame
use Rattle.ls_places.specs.declared.places.Named.{Named}
use Rattle.ls_places.specs.declared.places.Named.TheVariants as named
use Rattle.ls_places.specs.declared.places.Right.{Right}
use Rattle.ls_places.specs.declared.places.Right.TheVariants as rhs
use Rattle.ls_places.specs.declared.places.Site.{Site}
use Rattle.ls_places.specs.declared.places.Start.{Start}
use Rattle.ls_places.specs.declared.places.Transition.{Transition}
use Rattle.ls_places.specs.declared.places.Variable.{Variable}
use Rattle.ls_places.specs.declared.places.Whole.{Whole}
use Rattle.ls_sig.specs.declared.sigs.InitSig.{InitSig}
use Rattle.ls_places.specs.declared.definition.Definition.{Definition}
use Rattle.ls_places.specs.Clocks.{any, choice_parts, is_function}
use Rattle.ls_places.specs.Patterns.{has_name}
use Rattle.ls_places.specs.Search.{E, nth, lacks, sites_of, start_of, is_empty, count_up, whole_of}
use Rattle.init_rules.specs.Slots.{of_param, of_var, of_start, Bits}

-- the bit of an expression, and whether a bit in it is 1 that must be 0
pub record Both : Type 0 where
  pub bit : Bool
  pub wrong : Bool

pub record Judged : Type 0 where
  pub note : Note
  pub bit : Bool
  pub wrong : Bool

abbrev pub fine : Both
fine = record { bit = false; wrong = false }

abbrev pub if_so : Bool → Bool → Bool
if_so c x = if c then x else false

abbrev pub greatest : List Judged → Bool
greatest [] = false
greatest (j ∷ js) = j.bit || greatest js

abbrev pub any_wrong : List Judged → Bool
any_wrong [] = false
any_wrong (j ∷ js) = j.wrong || any_wrong js

-- ---- signatures

-- an argument of bit 1 where the parameter may not have it
abbrev pub barred : List Bool → List Judged → Bool
barred may [] = false
barred [] (j ∷ js) = j.bit || barred [] js
barred (m ∷ may) (j ∷ js) = if_so (not m) j.bit || barred may js

-- an argument of bit 1 that reaches the result
abbrev pub reached : List Bool → List Judged → Bool
reached [] js = false
reached (r ∷ reaches) [] = false
reached (r ∷ reaches) (j ∷ js) = if_so r j.bit || reached reaches js

abbrev pub own_of : Option InitSig → Bool
own_of None = false
own_of (Some s) = s.own

-- a call: each argument of bit 1 needs a parameter with `may`
abbrev pub call_bits : Option InitSig → List Judged → Both
call_bits None js = record { bit = false; wrong = greatest js || any_wrong js }
call_bits (Some s) js = record { bit = s.own || reached s.reaches js; wrong = barred s.may js || any_wrong js }

-- a function argument: its result is not 1 by itself, and what it is given is 0
abbrev pub function_bits : Bool → List Judged → Both
function_bits own js = record { bit = false; wrong = own || (greatest js || any_wrong js) }

-- a parameter that is applied: by `run` its arguments must have 0
abbrev pub applied_bits : Bool → List Judged → Both
applied_bits true js = record { bit = false; wrong = greatest js || any_wrong js }
applied_bits false js = record { bit = greatest js; wrong = any_wrong js }

-- `every e`: e and the result must have 0
abbrev pub every_bits : Option Judged → Both → Both
every_bits None r = r
every_bits (Some j) r = record { bit = r.bit; wrong = (r.wrong || j.wrong) || (j.bit || r.bit) }

-- ---- places

abbrev pub holds_reset : ℕ → Place → Bool
holds_reset r [] = false
holds_reset r (frame.Reset q ∷ p) = r == q || holds_reset r p
holds_reset r (frame.Arm m j ∷ p) = holds_reset r p

-- whether a `reset` around the second place is not around the first
abbrev pub leaves_reset : Place → Place → Bool
leaves_reset p [] = false
leaves_reset p (frame.Reset r ∷ q) = not (holds_reset r p) || leaves_reset p q
leaves_reset p (frame.Arm m j ∷ q) = leaves_reset p q

-- whether a `reset` stands inside the first `n` arms of a place
abbrev pub reset_within : ℕ → Place → Bool
reset_within n [] = false
reset_within zero (frame.Reset r ∷ p) = true
reset_within (suc n) (frame.Reset r ∷ p) = reset_within (suc n) p
reset_within zero (frame.Arm m j ∷ p) = reset_within zero p
reset_within (suc n) (frame.Arm m j ∷ p) = reset_within n p

-- ---- names

-- the parameter that holds a name
abbrev pub param_of : ℕ → List Pat → ℕ → Option ℕ
param_of x [] k = None
param_of x (p ∷ ps) k = if has_name x (names_of p) then Some k else param_of x ps (suc k)

abbrev pub is_whole : Right → Bool
is_whole (rhs.Whole e) = true
is_whole _ = false

-- an equation in an arm, one of `clock` or `emit`, and one inside a `reset`, unless an arm inside it holds the list that
-- binds the name, has the bit 0
abbrev pub is_bound_by_zero : Option Variable → Site → Bool
is_bound_by_zero None s = true
is_bound_by_zero (Some w) s = not (is_empty s.inner) || (is_whole s.right || reset_within (length w.list) s.place)

-- whether one of the variables that an equation binds has it
abbrev pub binds_zero : Definition → Site → Bool
binds_zero d s = any (map (λ k. is_bound_by_zero (nth d.places.vars k) s) s.vars)

-- `sigs` are the signatures of the definitions before
module _ (d : Definition) (sigs : List InitSig) where
  module _ (A : Bits) where
    abbrev pub param_bit : Option ℕ → Bool
    param_bit None = false
    param_bit (Some k) = A (of_param k)

    abbrev pub name_bit : Binder → ℕ → Bool
    name_bit (b.Var k) x = A (of_var k)
    name_bit (b.Param k) x = param_bit (param_of x d.params 0)
    name_bit _ x = false

    -- `last x` is 0 where x has an initial equation of bit 0
    abbrev pub started_bit : ℕ → Option Start → Bool
    started_bit k None = true
    started_bit k (Some s) = A (of_start k)

    abbrev pub last_bit : ℕ → Variable → Bool
    last_bit k w = started_bit k (start_of w d.places.starts)

    -- x must have 0; outside a `reset` around x, `last x` must have it, too
    abbrev pub last_bits_of : Place → ℕ → Option Variable → Both
    last_bits_of p k None = fine
    last_bits_of p k (Some w) = record { bit = last_bit k w; wrong = A (of_var k) || if_so (leaves_reset p w.place) (last_bit k w) }

    abbrev pub last_bits : Place → Binder → Both
    last_bits p (b.Var k) = last_bits_of p k (nth d.places.vars k)
    last_bits p _ = fine

    abbrev pub head_bits : Bool → Binder → List Judged → Both
    head_bits run (b.Def k) js = call_bits (nth sigs k) js
    head_bits run bound js = applied_bits run js

    abbrev pub head_own : Binder → Bool
    head_own (b.Def k) = own_of (nth sigs k)
    head_own _ = false

    abbrev pub called_bits : Bool → Note → List Judged → Both
    called_bits run n js = if is_function n then function_bits (head_own n.bound) js else head_bits run n.bound js

    abbrev pub used_bits : Note → Binder → ℕ → Both
    used_bits n (b.Def k) x = called_bits false n []
    used_bits n bound x = record { bit = name_bit bound x; wrong = false }

    abbrev pub form_bits : Place → Form-F Note (Note → Both) Judged → Note → Both
    form_bits p (Form-F.Leaf l) n = fine
    form_bits p (Form-F.Case x) n = fine
    form_bits p (Form-F.Var x) n = used_bits n n.bound x.0
    form_bits p (Form-F.Last x) n = last_bits p n.bound
    form_bits p (Form-F.Asked x) n = fine
    form_bits p (Form-F.Op o js) n = record { bit = greatest js; wrong = any_wrong js }
    form_bits p (Form-F.Tuple js) n = record { bit = greatest js; wrong = any_wrong js }
    form_bits p (Form-F.Pre e) n = record { bit = true; wrong = e.bit || e.wrong }
    form_bits p (Form-F.Fby x y) n = record { bit = x.bit; wrong = y.bit || (x.wrong || y.wrong) }
    form_bits p (Form-F.Init x y) n = record { bit = x.bit; wrong = x.wrong || y.wrong }
    form_bits p (Form-F.When e x k) n = record { bit = e.bit; wrong = name_bit n.bound x.0 || e.wrong }
    form_bits p (Form-F.Merge x choices) n =
        record { bit = false; wrong = name_bit n.bound x.0 || (greatest (choice_parts choices) || any_wrong (choice_parts choices)) }
    form_bits p (Form-F.Call run x js every) n = every_bits every (called_bits run n js)

    abbrev pub expr_bits : Expr-F Note (Note → Both) Judged → Judged
    expr_bits e = record { note = e.note; bit = (e.form e.note).bit; wrong = (e.form e.note).wrong }

    -- an expression at a place
    abbrev pub judged : Place → E → Judged
    judged p = fold-Expr Note (Note → Both) Judged (form_bits p) expr_bits

    -- the bit of the whole expression of this number
    abbrev pub whole_bit : ℕ → Bool
    whole_bit k = (judged (whole_of d k).place (whole_of d k).expr).bit

    -- ---- equations and blocks

    abbrev pub right_bit : Right → Bool
    right_bit (rhs.Part pat k) = whole_bit k
    right_bit (rhs.Whole k) = whole_bit k
    right_bit (rhs.Pattern y pat) = false

    -- a variable has the greatest of the bits of its equations: of the one that it has, and otherwise they are all 0
    abbrev pub sites_bit : List Site → Bool
    sites_bit [] = false
    sites_bit (s ∷ all) = right_bit s.right || sites_bit all

    abbrev pub variable_bit : ℕ → Bool
    variable_bit k = sites_bit (sites_of k d.places.sites)

    abbrev pub start_bit : Option Start → Bool
    start_bit None = false
    start_bit (Some s) = whole_bit s.right

    abbrev pub initial_bit : Option Variable → Bool
    initial_bit None = false
    initial_bit (Some w) = start_bit (start_of w d.places.starts)

    -- what must be 0

    abbrev pub expr_wrong : Whole Note → Bool
    expr_wrong w = (judged w.place w.expr).wrong

    abbrev pub site_wrong : Site → Bool
    site_wrong s = if_so (binds_zero d s) (right_bit s.right)

    -- an arm without an equation for x is `last x`
    abbrev pub variable_wrong : ℕ → Option Variable → Bool
    variable_wrong k None = false
    variable_wrong k (Some w) = if_so (not w.signal) (if_so (lacks d (sites_of k d.places.sites)) (last_bit k w))

    abbrev pub guards_bit : List Transition → Bool
    guards_bit [] = false
    guards_bit (g ∷ gs) = whole_bit g.cond || guards_bit gs

    abbrev pub states_bit : List (ℕ × List Transition) → Bool
    states_bit [] = false
    states_bit (s ∷ all) = guards_bit s.1 || states_bit all

    abbrev pub named_wrong : Named → Bool
    named_wrong (named.Clock x) = false
    named_wrong (named.Match k all p) = whole_bit k
    named_wrong (named.Present xs p) = false
    named_wrong (named.Active states p) = states_bit states
    named_wrong (named.Tested states p) = states_bit states

    abbrev pub numbers : List ℕ
    numbers = count_up (length d.places.vars) 0

    abbrev pub body_wrong : Bool
    body_wrong = any (map expr_wrong d.places.exprs) || (any (map site_wrong d.places.sites)
        || (any (map (λ k. variable_wrong k (nth d.places.vars k)) numbers)
        || (any (map named_wrong d.places.names) || any (map whole_bit d.places.resets))))

    abbrev pub result_bit : Bool
    result_bit = (judged [] d.result).bit

    -- the rules
    pub record Obeys : Type 0 where
      pub variables : (k : ℕ) → A (of_var k) ≡ variable_bit k
      pub initials : (k : ℕ) → A (of_start k) ≡ initial_bit (nth d.places.vars k)
      pub zeros : body_wrong ≡ false
