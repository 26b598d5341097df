-- What scope says of the clock names of a definition, and of a scheme.
use Rattle.std.specs.Prelude.{◌≡◌, ℕ, ◌-◌, ◌&&◌, Bool, true, false, not, List, [], ◌∷◌, length, Option, Some, None, if◌then◌else◌, nat_lt}
use Rattle.ls_ast.specs.declared.tree.Form.TheOpen.{Form-F}
use Rattle.ls_terms.specs.declared.clocks.ClockTerm.{ClockTerm}
use Rattle.ls_sig.specs.declared.binder.Binder.{Binder}
use Rattle.ls_sig.specs.declared.binder.Binder.TheVariants as b
use Rattle.ls_sig.specs.declared.binder.Note.{Note}
use Rattle.ls_places.specs.Definitions.{note_clocks}
use Rattle.ls_places.specs.Patterns.{has_name}
use Rattle.ls_places.specs.Places.{Place, InnerArm, arms}
use Rattle.ls_places.specs.Search.{nth}
use Rattle.ls_places.specs.declared.places.Named.{Named}
use Rattle.ls_places.specs.declared.places.Named.TheVariants as named
use Rattle.ls_places.specs.declared.places.Site.{Site}
use Rattle.tree_notes.specs.Each.{Each}
use Rattle.clock_rules.specs.declared.scheme.ClockScheme.{ClockScheme}
use Rattle.clock_rules.specs.Facts.{Facts}
use Rattle.clock_rules.specs.Layers.{Layer}
use Rattle.clock_rules.specs.Rules.{Clocks, at, param_at, clock_name}
use Rattle.clock_laws.specs.WellFormed.{samplings}

-- ---- the clock of a clock name

abbrev pub named_clock : Clocks → ℕ → Option Named → Option ClockTerm
named_clock cs j None = None
named_clock cs j (Some (named.Clock x)) = Some (at cs.vars x)
named_clock cs j (Some (named.Match k all p)) = Some (at cs.blocks j)
named_clock cs j (Some (named.Present xs p)) = Some (at cs.blocks j)
named_clock cs j (Some (named.Active all p)) = Some (at cs.blocks j)
named_clock cs j (Some (named.Tested all p)) = Some (at cs.blocks j)

-- that of a Clock parameter, of a variable, or of a block; none where the number names nothing of the definition
abbrev pub own : Facts Note → Clocks → ℕ → Option ClockTerm
own d cs m = if nat_lt m (length d.params) then nth (note_clocks d.notes) m else named_clock cs (m - length d.params) (nth d.names (m - length d.params))

-- ---- schemes

-- what is sampled in a scheme is the clock of a parameter that is a clock name
abbrev pub InScheme : ClockScheme → ClockTerm × ℕ → Type 0
InScheme s z = (nth s.clocks z.1 ≡ Some z.0) × (has_name z.1 s.names ≡ true)

pub record IsWell (s : ClockScheme) : Type 0 where
  pub clocks : Each (λ ck. Each (InScheme s) (samplings ck)) s.clocks
  pub result : Each (InScheme s) (samplings s.result)

-- ---- definitions

abbrev pub no_clock : Option Named → Bool
no_clock None = false
no_clock (Some (named.Clock x)) = false
no_clock (Some (named.Match k all p)) = true
no_clock (Some (named.Present xs p)) = true
no_clock (Some (named.Active all p)) = true
no_clock (Some (named.Tested all p)) = true

module _ (schemes : List ClockScheme) (d : Facts Note) where
  -- the name of a block
  abbrev pub is_block : ℕ → Bool
  is_block m = not (nat_lt m (length d.params)) && no_clock (nth d.names (m - length d.params))

  abbrev pub ArmsNamed : List InnerArm → Type 0
  ArmsNamed = Each (λ a. is_block a.0 ≡ true)

  -- the clock name that is meant
  abbrev pub number : Binder → Option ℕ
  number (b.Var k) = clock_name k d.names (length d.params)
  number (b.Param k) = param_at k d.params 0
  number _ = None

  abbrev pub IsName : Binder → Type 0
  IsName bound = (r : ℕ) × (number bound ≡ Some r)

  abbrev pub IsNameAt : Option Note → Type 0
  IsNameAt None = ⊥
  IsNameAt (Some n) = IsName n.bound

  -- what is given at each Clock position is a name
  abbrev pub GivesNames : List Note → Option ClockScheme → Type 0
  GivesNames args None = Unit {0}
  GivesNames args (Some s) = Each (λ q. IsNameAt (nth args q)) s.names

  abbrev pub CallScoped : List Note → Binder → Type 0
  CallScoped args (b.Def k) = GivesNames args (nth schemes k)
  CallScoped args _ = Unit {0}

  abbrev pub FormScoped : Note → Form-F Note (Unit {0}) Note → Type 0
  FormScoped n (Form-F.Var x) = CallScoped [] n.bound
  FormScoped n (Form-F.When e x k) = IsName n.bound
  FormScoped n (Form-F.Merge x all) = IsName n.bound
  FormScoped n (Form-F.Call run x args every) = CallScoped args n.bound
  FormScoped n _ = Unit {0}

  abbrev pub NodeScoped : Layer Note × Place → Type 0
  NodeScoped n = ArmsNamed (arms n.1) × FormScoped n.0.note n.0.form

  abbrev pub SiteScoped : Site → Type 0
  SiteScoped s = ArmsNamed s.inner × ArmsNamed (arms s.place)

  -- the two names of an automaton stand side by side
  abbrev pub NamesScoped : List Named → Type 0
  NamesScoped [] = Unit {0}
  NamesScoped (named.Clock x ∷ ns) = NamesScoped ns
  NamesScoped (named.Match k all p ∷ ns) = NamesScoped ns
  NamesScoped (named.Present xs p ∷ ns) = ArmsNamed (arms p) × NamesScoped ns
  NamesScoped (named.Active all p ∷ named.Tested all' p' ∷ ns) = NamesScoped ns
  NamesScoped _ = ⊥

  pub record IsScoped : Type 0 where
    pub many : length d.notes ≡ length d.params
    pub marks : length d.marks ≡ length d.params
    pub nodes : Each NodeScoped d.nodes
    pub sites : Each SiteScoped d.sites
    pub names : NamesScoped d.names
