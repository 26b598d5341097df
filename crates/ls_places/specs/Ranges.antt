-- The numbers in what stands in a body point to what is there.
use Rattle.std.specs.Prelude.{ℕ, ◌<◌, List, length}
use Rattle.std.specs.List.{All}
use Rattle.ls_places.specs.declared.places.Named.{Named}
use Rattle.ls_places.specs.declared.places.Named.TheVariants as named
use Rattle.ls_places.specs.declared.places.Places.{Places}
use Rattle.ls_places.specs.declared.places.Right.{Right}
use Rattle.ls_places.specs.declared.places.Right.TheVariants as rhs
use Rattle.ls_places.specs.declared.places.Site.{Site}
use Rattle.ls_places.specs.declared.places.Start.{Start}
use Rattle.ls_places.specs.declared.places.Transition.{Transition}

abbrev pub AllBelow : ℕ → List ℕ → Type 0
AllBelow n = All (λ k. k < n)

abbrev pub RightBelow : ℕ → Right → Type 0
RightBelow exprs (rhs.Part p k) = k < exprs
RightBelow exprs (rhs.Whole k) = k < exprs
RightBelow exprs (rhs.Pattern x p) = Unit {0}

abbrev pub SiteBelow : ℕ → ℕ → Site → Type 0
SiteBelow vars exprs s = AllBelow vars s.vars × RightBelow exprs s.right

abbrev pub GuardsBelow : ℕ → List (ℕ × List Transition) → Type 0
GuardsBelow exprs = All (λ (s : ℕ × List Transition). All (λ (t : Transition). t.cond < exprs) s.1)

abbrev pub NamedBelow : ℕ → ℕ → Named → Type 0
NamedBelow vars exprs (named.Clock x) = x < vars
NamedBelow vars exprs (named.Match k all p) = k < exprs
NamedBelow vars exprs (named.Present xs p) = Unit {0}
NamedBelow vars exprs (named.Active states p) = GuardsBelow exprs states
NamedBelow vars exprs (named.Tested states p) = GuardsBelow exprs states

-- each number of a variable is that of a variable, and each of an expression that of an expression
pub record InRange {N : Type 0} (f : Places N) : Type 0 where
  pub sites : All (SiteBelow (length f.vars) (length f.exprs)) f.sites
  pub starts : All (λ (s : Start). s.right < length f.exprs) f.starts
  pub names : All (NamedBelow (length f.vars) (length f.exprs)) f.names
  pub resets : AllBelow (length f.exprs) f.resets
