-- What each row of a body's table is computed from: the rows that it reads at the same instant, those of which it reads
-- earlier cells, and the calls that it makes.
use Rattle.std.specs.Prelude.{ℕ, ◌+◌, ◌-◌, List, [], ◌∷◌, ◌++◌, map, length, Option, Some, None, if◌then◌else◌, nat_lt}
use Rattle.ls_ast.specs.declared.tree.Expr.{Expr-F, fold-Expr}
use Rattle.ls_ast.specs.declared.tree.Form.TheOpen.{Form-F}
use Rattle.ls_ast.specs.declared.tree.Pat.{Pat}
use Rattle.ls_terms.specs.declared.clocks.ClockTerm.{ClockTerm, fold-ClockTerm}
use Rattle.ls_terms.specs.declared.clocks.ClockTerm.TheOpen.{ClockTerm-F}
use Rattle.ls_places.specs.Patterns.{names_of, joined}
use Rattle.ls_places.specs.Places.{Place, InnerArm, arms}
use Rattle.ls_sig.specs.declared.binder.Binder.{Binder}
use Rattle.ls_sig.specs.declared.binder.Binder.TheVariants as b
use Rattle.ls_sig.specs.declared.binder.Note.{Note}
use Rattle.ls_places.specs.declared.places.Frame.{Frame}
use Rattle.ls_places.specs.declared.places.Frame.TheVariants as frame
use Rattle.ls_places.specs.declared.places.Named.{Named}
use Rattle.ls_places.specs.declared.places.Named.TheVariants as named
use Rattle.ls_places.specs.declared.places.Right.{Right}
use Rattle.ls_places.specs.declared.places.Right.TheVariants as rhs
use Rattle.ls_places.specs.declared.places.Site.{Site}
use Rattle.ls_places.specs.declared.places.Start.{Start}
use Rattle.ls_places.specs.declared.places.Transition.{Transition}
use Rattle.ls_places.specs.declared.places.Variable.{Variable}
use Rattle.ls_places.specs.declared.definition.Key.{Key}
use Rattle.ls_places.specs.declared.definition.Key.TheVariants as key
use Rattle.ls_places.specs.declared.definition.Definition.{Definition}
use Rattle.ls_places.specs.Clocks.{bare, choice_parts, is_function}
use Rattle.kahn_model.specs.Functions.{Arg, stream, def, given}
use Rattle.ls_places.specs.Patterns.{has_name}
use Rattle.ls_places.specs.Search.{E, nth, lacks, in_signature, home_of, mode_clock, param_clock, signal_arms, signal_at, sites_of, start_of, tested_outside, whole_of}

-- what an argument is apart from its rows: a stream, a definition, or a function with one more argument
pub data Shape : Type 0 where
  a_stream : Shape
  a_function : ℕ → Shape
  with_argument : Shape → Shape → Shape

abbrev pub shape_of : Arg → Shape
shape_of (stream row) = a_stream
shape_of (def k clocks) = a_function k
shape_of (given f x) = with_argument (shape_of f) (shape_of x)

abbrev pub shapes_of : List Arg → List Shape
shapes_of = map {A = Arg} {B = Shape} shape_of

abbrev pub give_shapes : Shape → List Shape → Shape
give_shapes f [] = f
give_shapes f (x ∷ xs) = give_shapes (with_argument f x) xs

abbrev pub param_shape : ℕ → List Pat → List Shape → Shape
param_shape x (p ∷ ps) (s ∷ ss) = if has_name x (names_of p) then s else param_shape x ps ss
param_shape x _ _ = a_stream

-- a call: the definition, and the shapes of its arguments
abbrev pub Call : Type 0
Call = ℕ × List Shape

abbrev pub calls_of : Shape → List Shape → List Call
calls_of a_stream args = []
calls_of (a_function k) args = (k, args) ∷ []
calls_of (with_argument f x) args = calls_of f (x ∷ args)

-- the rows read at the same instant, those of which earlier cells are read, and the calls
pub record Needs : Type 0 where
  pub now : List Key
  pub before : List Key
  pub calls : List Call

abbrev pub nothing : Needs
nothing = record { now = []; before = []; calls = [] }

abbrev pub now_only : List Key → Needs
now_only ks = record { now = ks; before = []; calls = [] }

abbrev pub together : Needs → Needs → Needs
together r s = record { now = r.now ++ s.now; before = r.before ++ s.before; calls = r.calls ++ s.calls }

-- what is read at an earlier instant alone
abbrev pub earlier : Needs → Needs
earlier r = record { now = []; before = r.now ++ r.before; calls = r.calls }

-- what a form needs, and the shape of what stands at it
pub record Formed : Type 0 where
  pub needs : Needs
  pub shape : Shape

pub record Reading : Type 0 where
  pub note : Note
  pub needs : Needs
  pub shape : Shape

abbrev pub all_needs : List Reading → Needs
all_needs [] = nothing
all_needs (r ∷ rs) = together r.needs (all_needs rs)

abbrev pub every_needs : Option Reading → Needs
every_needs None = nothing
every_needs (Some r) = r.needs

abbrev pub shapes_read : List Reading → List Shape
shapes_read = map {A = Reading} {B = Shape} (λ r. r.shape)

abbrev pub clocks_read : List Reading → List ClockTerm
clocks_read = map {A = Reading} {B = ClockTerm} (λ r. r.note.ck)

-- the block of an arm, and what is around a place
abbrev pub arm_key : InnerArm → Key
arm_key mj = key.Name mj.0

abbrev pub arm_keys : List InnerArm → List Key
arm_keys = map {A = InnerArm} {B = Key} arm_key

abbrev pub frame_key : Frame → Key
frame_key (frame.Reset r) = key.Reset r
frame_key (frame.Arm m j) = key.Name m

abbrev pub around_keys : Place → List Key
around_keys = map {A = Frame} {B = Key} frame_key

abbrev pub name_key : Option Named → ℕ → Key
name_key (Some (named.Clock x)) m = key.Var x
name_key _ m = key.Name m

abbrev pub bound_keys : Binder → List Key
bound_keys (b.Var k) = key.Var k ∷ []
bound_keys _ = []

abbrev pub start_keys : ℕ → Option Start → List Key
start_keys x None = []
start_keys x (Some s) = key.Start x ∷ []

-- `shapes` are those of the arguments of the body
module _ (d : Definition) (shapes : List Shape) where
  -- ---- presence

  abbrev pub case_keys : ℕ → List Key
  case_keys m = if nat_lt m (length d.params) then [] else name_key (nth d.places.names (m - length d.params)) m ∷ []

  abbrev pub clock_step : ClockTerm-F (List Key) → List Key
  clock_step (ClockTerm-F.Var w) = if in_signature d w then [] else arm_keys (home_of w d.places.exprs)
  clock_step (ClockTerm-F.On ck m k) = case_keys m ++ ck
  clock_step ClockTerm-F.Pointwise = []
  clock_step (ClockTerm-F.Arrow cks ck) = joined cks ++ ck

  -- the rows that tell whether a clock is on
  abbrev pub clock_keys : ClockTerm → List Key
  clock_keys = fold-ClockTerm (List Key) clock_step

  abbrev pub clocks_keys : List ClockTerm → List Key
  clocks_keys cks = joined (map clock_keys cks)

  -- the clock of a variable, by an equation for it
  abbrev pub right_clock_keys : Site → Right → List Key
  right_clock_keys s (rhs.Part p k) = clock_keys (bare (length s.inner) (whole_of d k).expr.note.ck)
  right_clock_keys s (rhs.Whole k) = clock_keys (bare (length s.inner) (whole_of d k).expr.note.ck)
  right_clock_keys s (rhs.Pattern x p) = arm_keys (arms s.place)

  abbrev pub site_clock_keys : Option Site → List Key
  site_clock_keys None = []
  site_clock_keys (Some s) = right_clock_keys s s.right

  abbrev pub variable_clock_keys : ℕ → List Key
  variable_clock_keys x = site_clock_keys (nth (sites_of x d.places.sites) 0)

  -- the clock of a signal that is seen in these arms, and the blocks between its list and here
  abbrev pub some_clock_keys : Option ClockTerm → List Key
  some_clock_keys None = []
  some_clock_keys (Some ck) = clock_keys ck

  abbrev pub signal_clock_keys : ℕ → Option ℕ → List Key
  signal_clock_keys x (Some k) = variable_clock_keys k
  signal_clock_keys x None = some_clock_keys (param_clock x d.params d.clocks)

  abbrev pub signal_here_keys : ℕ → List InnerArm → List Key
  signal_here_keys x p = signal_clock_keys x (signal_at d x p) ++ arm_keys (signal_arms d x p)

  -- ---- expressions

  -- `last x`: the initial equation of x and the restarts around its place, and x and its clock earlier
  abbrev pub last_needs_of : ℕ → Option Variable → Needs
  last_needs_of x None = nothing
  last_needs_of x (Some w) = record {
    now = around_keys w.place ++ start_keys x (start_of w d.places.starts);
    before = key.Var x ∷ variable_clock_keys x;
    calls = [];
  }

  abbrev pub last_needs : Binder → Needs
  last_needs (b.Var x) = last_needs_of x (nth d.places.vars x)
  last_needs _ = nothing

  abbrev pub look_shape : Binder → ℕ → Shape
  look_shape (b.Param k) x = param_shape x d.params shapes
  look_shape _ x = a_stream

  abbrev pub head_shape : Binder → ℕ → Shape
  head_shape (b.Def k) x = a_function k
  head_shape bound x = look_shape bound x

  -- a call reads all its arguments and their clocks; a function value that is only passed makes no call
  abbrev pub called : Note → Binder → ℕ → List Reading → Option Reading → Formed
  called n bound x args every = record {
    needs = together (record {
      now = bound_keys bound ++ clocks_keys (clocks_read args ++ n.ck ∷ []);
      before = [];
      calls = if is_function n then [] else calls_of (head_shape bound x) (shapes_read args);
    })
        (together (all_needs args) (every_needs every));
    shape = if is_function n then give_shapes (head_shape bound x) (shapes_read args) else a_stream;
  }

  abbrev pub used : Note → Binder → ℕ → Formed
  used n (b.Def k) x = called n (b.Def k) x [] None
  used n bound x = record { needs = now_only (bound_keys bound); shape = look_shape bound x }

  -- a delay reads the variables that its note lists
  abbrev pub restart_keys : List ℕ → List Key
  restart_keys = map {A = ℕ} {B = Key} key.Var

  abbrev pub delayed : Note → Needs → Needs
  delayed n r = together (now_only (restart_keys n.restarts)) r

  abbrev pub a_row : Needs → Formed
  a_row r = record { needs = r; shape = a_stream }

  -- nothing is read at once below `pre` or on the right of `fby`
  abbrev pub form_reading : Form-F Note (Note → Formed) Reading → Note → Formed
  form_reading (Form-F.Leaf l) n = a_row nothing
  form_reading (Form-F.Case x) n = a_row nothing
  form_reading (Form-F.Var x) n = used n n.bound x.0
  form_reading (Form-F.Last x) n = a_row (last_needs n.bound)
  form_reading (Form-F.Asked x) n = a_row (now_only (bound_keys n.bound))
  form_reading (Form-F.Op o args) n = a_row (all_needs args)
  form_reading (Form-F.Tuple all) n = a_row (all_needs all)
  form_reading (Form-F.Pre e) n = a_row (delayed n (earlier e.needs))
  form_reading (Form-F.Fby x y) n = a_row (delayed n (together x.needs (earlier y.needs)))
  form_reading (Form-F.Init x y) n = a_row (delayed n (together x.needs y.needs))
  form_reading (Form-F.When e x k) n = a_row e.needs
  form_reading (Form-F.Merge x choices) n = a_row (together (now_only (bound_keys n.bound)) (all_needs (choice_parts choices)))
  form_reading (Form-F.Call run head args every) n = called n n.bound head.0 args every

  -- every expression reads the names in its own clock
  abbrev pub expr_reading : Expr-F Note (Note → Formed) Reading → Reading
  expr_reading e = record {
    note = e.note;
    needs = together (now_only (clock_keys e.note.ck)) (e.form e.note).needs;
    shape = (e.form e.note).shape;
  }

  abbrev pub reading : E → Reading
  reading = fold-Expr Note (Note → Formed) Reading form_reading expr_reading

  -- an expression at a place reads what is around it
  abbrev pub needs_at : Place → E → Needs
  needs_at p e = together (now_only (around_keys p)) (reading e).needs

  -- the whole expression of this number
  abbrev pub whole_needs : ℕ → Needs
  whole_needs k = needs_at (whole_of d k).place (whole_of d k).expr

  -- ---- rows

  abbrev pub signal_keys_of : Option ℕ → List Key
  signal_keys_of (Some k) = key.Var k ∷ []
  signal_keys_of None = []

  abbrev pub signal_keys : Place → ℕ → List Key
  signal_keys p x = signal_keys_of (signal_at d x (arms p))

  abbrev pub right_needs : Place → Right → Needs
  right_needs place (rhs.Part p k) = whole_needs k
  right_needs place (rhs.Whole k) = whole_needs k
  right_needs place (rhs.Pattern y p) = now_only (signal_keys place y)

  -- `last x`, if some arm has no equation for x
  abbrev pub otherwise_needs : ℕ → Variable → Needs
  otherwise_needs x w = if w.signal then nothing else (if lacks d (sites_of x d.places.sites) then last_needs_of x (Some w) else nothing)

  -- all equations of a variable, together with the blocks between
  abbrev pub site_needs : List InnerArm → Needs → Needs → Needs
  site_needs [] right more = right
  site_needs (mj ∷ inner) right more = together (together (now_only (arm_keys (mj ∷ inner))) right) more

  abbrev pub sites_needs : Needs → List Site → Needs
  sites_needs more [] = more
  sites_needs more (s ∷ rest) = site_needs s.inner (right_needs s.place s.right) (sites_needs more rest)

  abbrev pub variable_needs : ℕ → Option Variable → Needs
  variable_needs x None = nothing
  variable_needs x (Some w) = together (now_only (variable_clock_keys x))
      (sites_needs (otherwise_needs x w) (sites_of x d.places.sites))

  abbrev pub start_needs : Option Start → Needs
  start_needs None = nothing
  start_needs (Some s) = whole_needs s.right

  abbrev pub variable_start_needs : Option Variable → Needs
  variable_start_needs None = nothing
  variable_start_needs (Some w) = start_needs (start_of w d.places.starts)

  abbrev pub mode_keys_of : Option ClockTerm → Option ℕ → Place → List Key
  mode_keys_of (Some ck) tested p = clock_keys ck
  mode_keys_of None (Some x) p = signal_here_keys x (arms p)
  mode_keys_of None None p = arm_keys (arms p)

  abbrev pub mode_keys : ℕ → Place → List Key
  mode_keys m p = mode_keys_of (mode_clock m d.places.exprs) (tested_outside d m) p

  abbrev pub present_keys : List ℕ → Place → List Key
  present_keys [] p = arm_keys (arms p)
  present_keys (x ∷ xs) p = signal_here_keys x (arms p)

  abbrev pub transitions_needs : List Transition → Needs
  transitions_needs [] = nothing
  transitions_needs (g ∷ gs) = together (whole_needs g.cond) (transitions_needs gs)

  -- the guards of all states
  abbrev pub guards_needs : List (ℕ × List Transition) → Needs
  guards_needs [] = nothing
  guards_needs (t ∷ ts) = together (transitions_needs t.1) (guards_needs ts)

  -- A tested row reads no guard at its own instant. An active row reads the tested row and all strong guards.
  abbrev pub name_needs : ℕ → Option Named → Needs
  name_needs m None = nothing
  name_needs m (Some (named.Clock x)) = nothing
  name_needs m (Some (named.Match k all p)) = together (now_only (clock_keys (whole_of d k).expr.note.ck)) (whole_needs k)
  name_needs m (Some (named.Present xs p)) = now_only (present_keys xs p ++ joined (map (signal_keys p) xs))
  name_needs m (Some (named.Active states p)) =
      together (now_only (mode_keys m p ++ key.Name (m + 1) ∷ [])) (guards_needs states)
  name_needs m (Some (named.Tested states p)) =
      together (now_only (mode_keys (m - 1) p ++ around_keys p))
      (earlier (together (now_only (key.Name (m - 1) ∷ [])) (guards_needs states)))

  abbrev pub reset_needs : Option ℕ → Needs
  reset_needs None = nothing
  reset_needs (Some k) = whole_needs k

  -- what a row of the table needs
  abbrev pub key_needs : Key → Needs
  key_needs (key.Var x) = variable_needs x (nth d.places.vars x)
  key_needs (key.Start x) = variable_start_needs (nth d.places.vars x)
  key_needs (key.Name m) = name_needs m (nth d.places.names (m - length d.params))
  key_needs (key.Reset r) = reset_needs (nth d.places.resets r)

  -- what the result needs
  abbrev pub result_needs : Needs
  result_needs = needs_at [] d.result
