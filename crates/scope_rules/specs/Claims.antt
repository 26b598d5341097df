-- What an expression asks of the scope, and the binders of its names.
use Rattle.std.specs.Prelude.{ℕ, suc, ◌+◌, ◌==◌, nat_lt, ◌&&◌, ◌||◌, not, Bool, true, false, List, [], ◌∷◌, ◌++◌, map, length, take, drop, slice_get, Option, Some, None, is_some}
use Rattle.std.specs.List.{list_all}
use Rattle.ls_ast.specs.declared.tree.Mark.{Mark}
use Rattle.ls_ast.specs.declared.tree.Mark.TheVariants as mark
use Rattle.ls_ast.specs.declared.tree.Case.{Case}
use Rattle.ls_ast.specs.declared.tree.Case.TheVariants as case
use Rattle.ls_ast.specs.declared.tree.Expr.{Expr, Expr-F, fold-Expr}
use Rattle.ls_ast.specs.declared.tree.Form.{Form, fold-Form}
use Rattle.ls_ast.specs.declared.tree.Form.TheOpen.{Form-F}
use Rattle.ls_sig.specs.declared.binder.Binder.{Binder}
use Rattle.ls_sig.specs.declared.binder.Binder.TheVariants as binder
use Rattle.ls_sig.specs.declared.binder.Use.{Use}
use Rattle.scope_rules.specs.Places.{Stand, whole, right, at, loose, before, asked, applied, stream}
pub use Rattle.scope_rules.specs.declared.claims.Earlier.{Earlier}
pub use Rattle.scope_rules.specs.declared.claims.Claim.{Claim}
pub use Rattle.scope_rules.specs.declared.claims.Claim.TheVariants.{Named as named, Constructor as constructor, Branches as branches, Stray as stray, Answered as answered, Timed as timed}
use Rattle.scope_rules.specs.declared.claims.Applied.{Applied}
use Rattle.scope_rules.specs.declared.claims.Applied.TheVariants as head

-- what stands before a definition: the enumerations, each with its name and constructors, and the definitions
pub record Known : Type 0 where
  pub enums : List (ℕ × List ℕ)
  pub defs : List Earlier

-- what a name that is applied means
pub data Head : Type 0 where
  def : Earlier → Head
  param : Head
  other : Head

abbrev pub told_head : Applied → Head
told_head (head.Def d) = def d.now
told_head head.Param = param
told_head head.Other = other

abbrev pub head_def : Option Earlier → Head
head_def (Some d) = def d
head_def None = other

abbrev pub head_by : List Earlier → Binder → Head
head_by defs (binder.Def k) = head_def (slice_get defs k)
head_by defs (binder.Param k) = param
head_by defs _ = other

abbrev pub is_function : Mark → Bool
is_function mark.Comb = true
is_function mark.Seq = true
is_function _ = false

-- a stream stands here, or may
abbrev pub for_stream : Stand → Bool
for_stream (at mark.Clock) = false
for_stream (at mark.Signal) = false
for_stream (at mark.Comb) = false
for_stream (at mark.Seq) = false
for_stream _ = true

-- a function stands here, or may
abbrev pub for_function : Stand → Bool
for_function (at m) = is_function m
for_function loose = true
for_function _ = false

abbrev pub is_loose : Stand → Bool
is_loose loose = true
is_loose _ = false

-- a call that answers a signal may stand here
abbrev pub for_answer : Stand → Bool
for_answer whole = true
for_answer right = true
for_answer _ = false

abbrev pub claim_if : Bool → Claim → List Claim
claim_if true c = c ∷ []
claim_if false c = []

-- an expression other than a name or a function stands here
abbrev pub proper : Stand → List Claim
proper s = claim_if (not (for_stream s)) stray

-- a parameter of this mark may be left: not Clock and not Signal
abbrev pub may_be_left : Mark → Bool
may_be_left m = for_stream (at m) || is_function m

-- with so many arguments given, the definition may be passed as a function: the given ones are functions, no Clock or Signal parameter is left, and it answers no signal
abbrev pub passable : Earlier → ℕ → Bool
passable d n = not d.answers && (list_all is_function (take n d.marks) && list_all may_be_left (drop n d.marks))

abbrev pub Claims : Type 0
Claims = Stand → List Claim

-- where the argument of a parameter stands: at the position of its mark; as a stream where there is no parameter
abbrev pub stand_for : Option Mark → Stand
stand_for (Some m) = at m
stand_for None = stream

-- the arguments from number i on, each at the position of its mark
abbrev pub at_marks : List Mark → ℕ → List Claims → List Claim
at_marks ms i [] = []
at_marks ms i (a ∷ as') = a (stand_for (slice_get ms i)) ++ at_marks ms (i + 1) as'

abbrev pub all_at : Stand → List Claims → List Claim
all_at s [] = []
all_at s (a ∷ as') = a s ++ all_at s as'

abbrev pub all_branches : List (Case × Claims) → List Claim
all_branches [] = []
all_branches (b ∷ bs) = b.1 stream ++ all_branches bs

abbrev pub cases_of : List (Case × Claims) → List Case
cases_of = map {A = Case × Claims} {B = Case} (λ b. b.0)

abbrev pub cases_in : {A : Type 0} → List (Case × A) → List Case
cases_in {A} = map {A = Case × A} {B = Case} (λ b. b.0)

abbrev pub if_any : Option Claims → List Claim
if_any None = []
if_any (Some a) = a stream

abbrev pub case_claims : Case → List Claim
case_claims (case.Of c) = constructor c.0 ∷ []
case_claims _ = []

abbrev pub applied_by : Bool → Mark
applied_by true = mark.Seq
applied_by false = mark.Comb

-- `(g a ..)` with fewer arguments than g has parameters, where a function may stand
abbrev pub given_some : Bool → Bool → Earlier → ℕ → Stand → Bool
given_some run restarts d n s = for_function s && (not run && (not restarts && nat_lt n (length d.marks)))

abbrev pub def_claims : Bool → Bool → Bool → Earlier → List Claims → Stand → List Claim
def_claims true run restarts d args s = claim_if (not (is_loose s || passable d (length args))) stray ++ at_marks d.marks 0 args
def_claims false run restarts d args s =
    proper s ++ (claim_if (d.answers && not (for_answer s)) answered ++ (claim_if (run || (restarts || d.node)) timed ++ at_marks d.marks 0 args))

abbrev pub loose_claims : Stand → Bool → Bool → List Claims → Stand → List Claim
loose_claims position run restarts args s = proper s ++ (claim_if (run || restarts) timed ++ all_at position args)

abbrev pub call_claims : Head → Bool → Bool → List Claims → Stand → List Claim
call_claims (def d) run restarts args s = def_claims (given_some run restarts d (length args) s) run restarts d args s
call_claims param run restarts args s = loose_claims loose run restarts args s
call_claims other run restarts args s = loose_claims stream run restarts args s

-- a name stands so
abbrev pub claim_of : (ℕ → Binder) → ℕ → Stand → Claim
claim_of bound x s = named (bound x) x s

abbrev pub merge_claims : Claim → List Case → List (Case × Claims) → Stand → List Claim
merge_claims condition cases bs s = timed ∷ condition ∷ branches cases ∷ proper s ++ all_branches bs

-- `defs` are the earlier definitions, `bound` is what names mean at the place
module _ {N : Type 0} (defs : List Earlier) (bound : ℕ → Binder) where
  abbrev pub form_step : Form-F N Claims Claims → Claims
  form_step (Form-F.Leaf l) s = proper s
  form_step (Form-F.Case c) s = constructor c.0 ∷ proper s
  form_step (Form-F.Var x) s = claim_of bound x.0 s ∷ []
  form_step (Form-F.Last x) s = timed ∷ claim_of bound x.0 before ∷ proper s
  form_step (Form-F.Asked x) s = timed ∷ claim_of bound x.0 asked ∷ proper s
  form_step (Form-F.Op op args) s = proper s ++ all_at stream args
  form_step (Form-F.Tuple parts) s = proper s ++ all_at stream parts
  form_step (Form-F.Pre e) s = timed ∷ proper s ++ e stream
  form_step (Form-F.Fby a b) s = timed ∷ proper s ++ (a stream ++ b stream)
  form_step (Form-F.Init a b) s = timed ∷ proper s ++ (a stream ++ b stream)
  form_step (Form-F.When e x c) s = timed ∷ claim_of bound x.0 (at mark.Clock) ∷ case_claims c ++ (proper s ++ e stream)
  form_step (Form-F.Merge x bs) s = merge_claims (claim_of bound x.0 (at mark.Clock)) (cases_of bs) bs s
  form_step (Form-F.Call run x args every) s =
      claim_of bound x.0 (applied (applied_by run)) ∷ call_claims (head_by defs (bound x.0)) run (is_some every) args s ++ if_any every

  abbrev pub expr_step : Expr-F N Claims Claims → Claims
  expr_step e = e.form

  -- what an expression asks of the scope where it stands so
  abbrev pub claims : Expr N → Claims
  claims = fold-Expr N Claims Claims form_step expr_step

  -- the branches of a `merge`, and their cases
  abbrev pub branch_claims : List (Case × Expr N) → List (Case × Claims)
  branch_claims = map {A = Case × Expr N} {B = Case × Claims} (λ b. (b.0, claims b.1))

  abbrev pub form_claims : Form N → Claims
  form_claims = fold-Form N Claims Claims form_step expr_step

abbrev pub joined_uses : List (List Use) → List Use
joined_uses [] = []
joined_uses (xs ∷ rest) = xs ++ joined_uses rest

abbrev pub branch_uses : List (Case × List Use) → List Use
branch_uses [] = []
branch_uses (b ∷ bs) = b.1 ++ branch_uses bs

abbrev pub option_uses : Option (List Use) → List Use
option_uses None = []
option_uses (Some us) = us

abbrev pub use_of : Binder → Use
use_of b = record { bound = b }

-- The notes of an expression at a place, the outermost first: each has the binder of the name that its form uses. `bound` is what names mean there, `cases` what constructors mean.
module _ {N : Type 0} (bound : ℕ → Binder) (cases : ℕ → Binder) where
  abbrev pub form_uses : Form-F N (List Use) (List Use) → List Use
  form_uses (Form-F.Leaf l) = use_of binder.Nothing ∷ []
  form_uses (Form-F.Case c) = use_of (cases c.0) ∷ []
  form_uses (Form-F.Var x) = use_of (bound x.0) ∷ []
  form_uses (Form-F.Last x) = use_of (bound x.0) ∷ []
  form_uses (Form-F.Asked x) = use_of (bound x.0) ∷ []
  form_uses (Form-F.Op op args) = use_of binder.Nothing ∷ joined_uses args
  form_uses (Form-F.Tuple parts) = use_of binder.Nothing ∷ joined_uses parts
  form_uses (Form-F.Pre e) = use_of binder.Nothing ∷ e
  form_uses (Form-F.Fby a b) = use_of binder.Nothing ∷ a ++ b
  form_uses (Form-F.Init a b) = use_of binder.Nothing ∷ a ++ b
  form_uses (Form-F.When e x c) = use_of (bound x.0) ∷ e
  form_uses (Form-F.Merge x bs) = use_of (bound x.0) ∷ branch_uses bs
  form_uses (Form-F.Call run x args every) = use_of (bound x.0) ∷ joined_uses args ++ option_uses every

  abbrev pub expr_uses : Expr-F N (List Use) (List Use) → List Use
  expr_uses e = e.form

  abbrev pub uses : Expr N → List Use
  uses = fold-Expr N (List Use) (List Use) form_uses expr_uses

  abbrev pub uses_in : Form N → List Use
  uses_in = fold-Form N (List Use) (List Use) form_uses expr_uses
