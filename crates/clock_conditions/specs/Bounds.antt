-- Tests on the names that clocks mention.
use Rattle.std.specs.Prelude.{ℕ, suc, ◌-◌, ◌==◌, ◌&&◌, Bool, true, false, List, [], ◌∷◌, map, length, Option, Some, None, option_map, unwrap_or, if◌then◌else◌, nat_le, nat_lt}
use Rattle.ls_ast.specs.declared.tree.Mark.{Mark}
use Rattle.ls_terms.specs.declared.clocks.ClockTerm.{ClockTerm}
use Rattle.ls_terms.specs.Clocks.{size}
use Rattle.ls_sig.specs.declared.binder.Note.{Note}
use Rattle.ls_places.specs.Places.{InnerArm, arms}
use Rattle.ls_places.specs.Search.{nth, starts_with}
use Rattle.ls_places.specs.declared.places.Named.{Named}
use Rattle.ls_places.specs.declared.places.Named.TheVariants as named
use Rattle.ls_places.specs.declared.places.Variable.{Variable}
use Rattle.clock_rules.specs.Rules.{is_clock_mark, list_at}
use Rattle.clock_rules.specs.Terms.{limit, names_in}
use Rattle.clock_conditions.specs.Every.{every}
use Rattle.clock_conditions.specs.declared.conditions.Bounds.{Bounds}

abbrev pub same_arm : InnerArm → InnerArm → Bool
same_arm a c = a.0 == c.0 && a.1 == c.1

-- the arms around what binds a clock name
abbrev pub list_of : List Variable → Named → List InnerArm
list_of vars (named.Clock x) = list_at vars x
list_of vars (named.Match k all p) = arms p
list_of vars (named.Present xs p) = arms p
list_of vars (named.Active all p) = arms p
list_of vars (named.Tested all p) = arms p

abbrev pub begins : List InnerArm → Option (List InnerArm) → Bool
begins here None = true
begins here (Some list) = starts_with here list

-- a clock name is bound in a list around some arms
abbrev pub is_around : List InnerArm → ℕ → List (List InnerArm) → ℕ → Bool
is_around here first lists m = if nat_lt m first then true else begins here (nth lists (m - first))

abbrev pub is_clock_parameter : List Mark → ℕ → Bool
is_clock_parameter marks m = unwrap_or (option_map is_clock_mark (nth marks m)) false

-- a clock mentions only names bound in lists around some arms
abbrev pub within : ℕ → List (List InnerArm) → List InnerArm → ClockTerm → Bool
within first lists here ck = every (is_around here first lists) (names_in ck)

abbrev pub public : List Mark → ClockTerm → Bool
public marks ck = every (is_clock_parameter marks) (names_in ck)

-- the clock of each variable
abbrev pub vars_met : ℕ → List (List InnerArm) → List Variable → List ClockTerm → Bool
vars_met first lists (v ∷ vs) (t ∷ ts) = within first lists v.list t && vars_met first lists vs ts
vars_met first lists _ _ = true

abbrev pub block_met : ℕ → List (List InnerArm) → List InnerArm → ClockTerm → Bool
block_met first lists here ck = nat_lt (size ck) limit && within first lists here ck

-- the clock of each block, by the arms around what binds its name
abbrev pub blocks_met : ℕ → List (List InnerArm) → List (List InnerArm) → List ClockTerm → Bool
blocks_met first lists (l ∷ ls) (t ∷ ts) = block_met first lists l t && blocks_met first lists ls ts
blocks_met first lists _ _ = true

-- the clock of a parameter
abbrev pub param_met : List Mark → Note → Bool
param_met marks n = nat_le (size n.ck) limit && public marks n.ck

-- what the clock of a Clock parameter mentions
abbrev pub row : List Mark → ℕ → Option Note → List ℕ
row marks i None = []
row marks i (Some n) = if is_clock_parameter marks i then names_in n.ck else []

-- for each parameter from a number on
abbrev pub rows : List Mark → List Note → List Mark → ℕ → List (List ℕ)
rows marks notes [] i = []
rows marks notes (m ∷ ms) i = row marks i (nth notes i) ∷ rows marks notes ms (suc i)

-- the clocks of variables and blocks
abbrev pub local_met : Bounds → Bool
local_met b =
    vars_met (length b.params.now) (map (list_of b.vars.now) b.names.now) b.vars.now b.var_clocks.now
    && blocks_met (length b.params.now) (map (list_of b.vars.now) b.names.now) (map (list_of b.vars.now) b.names.now) b.block_clocks.now

-- those of the signature, but for cycles
abbrev pub signature_met : Bounds → Bool
signature_met b = every (param_met b.marks.now) b.notes.now && public b.marks.now b.result.now.ck
