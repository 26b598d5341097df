-- A file that is resolved again is as it was.
use Rattle.std.specs.Prelude.{◌≡◌, ℕ, ◌+◌, ◌==◌, ◌||◌, ◌&&◌, not, Bool, true, false, List, [], ◌∷◌, ◌++◌, map, length, Option, Some, None, is_some, slice_get, if◌then◌else◌, refl}
use Rattle.std.specs.List.{list_any, list_all}
use Rattle.std.specs.Str.{bytes_eq}
use Rattle.std.specs.Bool.{Decides}
use Rattle.std.proofs.lemmas.Slice.Eq.{bytes_eq-Decides}
use Rattle.std.proofs.Common.{ap, ap₂, sym, ◌∙◌, subst}
use Rattle.ls_base.specs.declared.Name.{Name}
use Rattle.ls_base.specs.Names.{with_name}
use Rattle.ls_ast.specs.declared.tree.BodyOf.{BodyOf}
use Rattle.ls_ast.specs.declared.tree.DefOf.{DefOf}
use Rattle.ls_ast.specs.declared.tree.FileOf.{FileOf}
use Rattle.ls_ast.specs.declared.tree.Plain.{Plain}
use Rattle.ls_ast.specs.declared.tree.Pat.{Pat}
use Rattle.ls_ast.specs.declared.tree.Expr.{Expr}
use Rattle.ls_ast.specs.declared.tree.Form.{Form, map-Form, out-Form}
use Rattle.ls_ast.specs.declared.tree.Form.TheOpen.{Form-F}
use Rattle.ls_sig.specs.declared.binder.Binder.{Binder}
use Rattle.ls_sig.specs.declared.binder.Binder.TheVariants as binder
use Rattle.ls_sig.specs.declared.binder.Use.{Use}
use Rattle.ls_sig.specs.declared.env.Env.{Env}
use Rattle.scope_rules.specs.declared.claims.Asked.{Asked}
use Rattle.scope_rules.specs.declared.notes.UseNotes.{UseNotes}
use Rattle.scope_rules.specs.Notes.{use_at, after}
use Rattle.scope_rules.specs.Places as P
use Rattle.scope_rules.specs.Places.{Place, Site, Stand, whole, right, at, loose, before, asked, applied, Reading, reads, tests, joined, option_list, root}
use Rattle.scope_rules.specs.Claims.{Known, Claim, named, constructor, branches, stray, answered, timed}
use Rattle.scope_rules.specs.Faults as F
use Rattle.scope_rules.specs.Faults.{Judged, Sight, Fault, Twice, Unbound, NotAllArms, Mixed, NotCombinatorial, asked_by, any_claim, among}
use Rattle.scope_rules.specs.File as File
use Rattle.scope_rules.specs.File.{with_line, or_else}
use Rattle.scope_rules.specs.Resolved as R
use Rattle.scope_rules.specs.After as A
use Rattle.scope_rules.proofs.NotesMade.{made, body_made}
use Rattle.scope_rules.proofs.OtherBodies as O
use Rattle.scope_rules.proofs.OtherNotes.{claims_same, uses_same, root_same}
use Rattle.tree_notes.specs.Agreement as Ag
use Rattle.tree_notes.specs.Noted as T
use Rattle.tree_notes.specs.Numbered as Nu
use Rattle.tree_notes.specs.Order as Or
use Rattle.tree_notes.proofs.Numbering.{body_good}
use Rattle.tree_notes.proofs.Refold.{noted, noted_form}
use Rattle.tree_notes.proofs.Same as Same

abbrev pub erase : Use → Plain
erase u = record {}

abbrev pub step : {N : Type 0} → UseNotes → N → Use
step it n = use_at it

abbrev pub next : {N : Type 0} → UseNotes → N → UseNotes
next it n = after it

any_same : {X : Type 0} (f g : X → Bool) (xs : List X) → ((x : X) → f x ≡ g x) → list_any f xs ≡ list_any g xs
any_same f g [] h = refl
any_same f g (x ∷ xs) h = ap₂ (λ a b. a || b) (h x) (any_same f g xs h)

same_claims : (f g : Place → Claim → Bool) (all : List Asked) → ((p : Place) (c : Claim) → f p c ≡ g p c) → any_claim f all ≡ any_claim g all
same_claims f g all h = any_same (λ a. list_any (f a.place) a.claims) (λ a. list_any (g a.place) a.claims) all (λ a. any_same (f a.place) (g a.place) a.claims (h a.place))

-- the walk gives each note by the state alone

plain_agrees : (ns : List Plain) (k : UseNotes) → Ag.Agree UseNotes Plain Plain Use (λ n. n) step next erase k ns
plain_agrees [] k = tt
plain_agrees (n ∷ ns) k = (refl, plain_agrees ns (after k))

made_agrees : (ns : List Plain) (k : UseNotes) → Ag.Agree UseNotes Use Use Use (λ n. n) step next (λ n. n) k (made step next ns k)
made_agrees [] k = tt
made_agrees (n ∷ ns) k = (refl, made_agrees ns (after k))

module _ (b : BodyOf Plain) (k : UseNotes) where
  abbrev pub noted_body : BodyOf Use
  noted_body = (Nu.number_body (λ (it : UseNotes) (n : Plain). use_at it) (λ (it : UseNotes) (n : Plain). after it) b k).0

  -- without its notes it is the body
  pub erased : T.in_body Use Plain erase noted_body ≡ b
  erased =
      ap (λ z. T.in_body Use Plain erase (Nu.number_body (λ (it : UseNotes) (n : Plain). use_at it) (λ (it : UseNotes) (n : Plain). after it) z k).0) (sym (Same.body_same Plain b))
      ∙ (body_good UseNotes Plain Plain Use (λ n. n) step next erase b k (plain_agrees (Or.notes_body Plain b) k)).0

  agrees : Ag.Agree UseNotes Use Use Use (λ n. n) step next (λ n. n) k (Or.notes_body Use noted_body)
  agrees = subst (Ag.Agree UseNotes Use Use Use (λ n. n) step next (λ n. n) k) (sym (body_made step next b k)) (made_agrees (Or.notes_body Plain b) k)

  -- with the same notes again it is as it was
  pub noted_again : (Nu.number_body (λ (it : UseNotes) (n : Use). use_at it) (λ (it : UseNotes) (n : Use). after it) noted_body k).0 ≡ noted_body
  noted_again =
      ap (λ z. (Nu.number_body (λ (it : UseNotes) (n : Use). use_at it) (λ (it : UseNotes) (n : Use). after it) z k).0) (sym (Same.body_same Use noted_body))
      ∙ sym (Same.body_same Use _)
      ∙ (body_good UseNotes Use Use Use (λ n. n) step next (λ n. n) noted_body k agrees).0

-- a definition, and the same with its notes

module _ (d : Judged Plain) where
  abbrev pub d' : Judged Use
  d' = record { names = d.names; known = d.known; title = d.title; node = d.node; params = d.params; body = R.resolved_body d }

  abbrev first : ℕ
  first = length d.params

  without : T.in_body Use Plain erase d'.body ≡ d.body
  without = erased d.body (record { list = R.body_uses d; next = 0 })

  pub contents_same : F.contents d ≡ O.renoted erase (F.contents d')
  contents_same = ap (P.contents_of Plain first) (sym without) ∙ O.body_same erase first d'.body

  pub sight_same : F.sight d ≡ F.sight d'
  sight_same i = record { params = F.param_names d; vars = F.variables (contents_same i).sites; defs = d.known.defs }

  asked_same : (h : Sight) (r : Reading Use) → asked_by h (O.told erase r) ≡ asked_by h r
  asked_same h (reads e s p) = ap (λ (c : Stand → List Claim). record { claims = c s; place = p }) (claims_same erase h.defs (F.binder_at h p) e)
  asked_same h (tests x p) = refl

  all_asked : (h : Sight) (rs : List (Reading Use)) → map (asked_by h) (map (O.told erase) rs) ≡ map (asked_by h) rs
  all_asked h [] = refl
  all_asked h (r ∷ rs) = ap₂ (λ a b. a ∷ b) (asked_same h r) (all_asked h rs)

  asks_same : F.asks d ≡ F.asks d'
  asks_same = (λ i. map (asked_by (sight_same i)) (contents_same i).readings) ∙ all_asked (F.sight d') (F.contents d').readings

  used_same : (h : Sight) (k : Known) (r : Reading Use) → R.reading_uses h k (O.told erase r) ≡ R.reading_uses h k r
  used_same h k (reads e s p) = uses_same erase (F.binder_at h p) (R.case_of k) e
  used_same h k (tests x p) = refl

  all_used : (h : Sight) (k : Known) (rs : List (Reading Use)) → joined (map (R.reading_uses h k) (map (O.told erase) rs)) ≡ joined (map (R.reading_uses h k) rs)
  all_used h k [] = refl
  all_used h k (r ∷ rs) = ap₂ (λ a b. a ++ b) (used_same h k r) (all_used h k rs)

  pub uses_are_same : R.body_uses d ≡ R.body_uses d'
  uses_are_same = (λ i. joined (map (R.reading_uses (sight_same i) d.known) (contents_same i).readings)) ∙ all_used (F.sight d') d.known (F.contents d').readings

  pub body_again : R.resolved_body d' ≡ R.resolved_body d
  body_again =
      (λ i. (Nu.number_body (λ (it : UseNotes) (n : Use). use_at it) (λ (it : UseNotes) (n : Use). after it) d'.body (record { list = sym uses_are_same i; next = 0 })).0)
      ∙ noted_again d.body (record { list = R.body_uses d; next = 0 })

  -- marks, and what later definitions see

  pub marks_again : F.marks d' ≡ F.marks d
  marks_again i = F.marks_from (sym asks_same i) d.params 0

  signal_same : (b : Binder) → F.signal_binder d b ≡ F.signal_binder d' b
  signal_same (binder.Param k) = λ i. F.is_signal_mark (F.mark_at (asks_same i) k)
  signal_same (binder.Var k) = λ i. list_any (F.is_signal (sight_same i)) (option_list (slice_get (sight_same i).vars k))
  signal_same binder.Nothing = refl
  signal_same (binder.Def k) = refl
  signal_same (binder.Case t k) = refl

  layer_same : (y : Form-F Use (Form Use) (Expr Use)) → F.result_by d (T.retag {N = Use} {M = Plain} (map-Form Use (Form Use) (Expr Use) (Form Plain) (Expr Plain) (noted_form erase) (noted erase) y)) ≡ F.result_by d' y
  layer_same (Form-F.Leaf l) = refl
  layer_same (Form-F.Case c) = refl
  layer_same (Form-F.Var x) = (λ i. F.signal_binder d (F.binder_at (sight_same i) [] x.0)) ∙ signal_same (F.binder_at (F.sight d') [] x.0)
  layer_same (Form-F.Last x) = refl
  layer_same (Form-F.Asked x) = refl
  layer_same (Form-F.Op op args) = refl
  layer_same (Form-F.Tuple parts) = refl
  layer_same (Form-F.Pre e) = refl
  layer_same (Form-F.Fby a b) = refl
  layer_same (Form-F.Init a b) = refl
  layer_same (Form-F.When e x c) = refl
  layer_same (Form-F.Merge x bs) = refl
  layer_same (Form-F.Call run x args None) = λ i. F.head_answers (F.head_at (sight_same i) [] x.0)
  layer_same (Form-F.Call run x args (Some e)) = λ i. F.head_answers (F.head_at (sight_same i) [] x.0)

  result_same : F.result_by d (root d.body.result) ≡ F.result_by d' (root d'.body.result)
  result_same =
      ap (λ (b : BodyOf Plain). F.result_by d (root b.result)) (sym without)
      ∙ ap (F.result_by d) (root_same erase d'.body.result)
      ∙ layer_same (root d'.body.result)

  pub seen_again : F.seen_later d' ≡ F.seen_later d
  seen_again i = record { title = d.title; node = d.node; marks = marks_again i; answers = sym result_same i }

  -- faults

  twice_same : F.twice d ≡ F.twice d'
  twice_same i = among (F.titles d.known.defs) d.title
      || (F.repeated (F.param_names d)
      || (list_any (λ s. among (F.param_names d) s.var) (contents_same i).sites
      || (F.any_two F.again (contents_same i).sites
      || (list_any (λ s. list_any (F.above s) (sight_same i).vars) (sight_same i).vars
      || (F.any_two F.same_start (contents_same i).starts
      || (list_any (λ as'. F.repeated_case (F.arm_cases_named d.names as')) (contents_same i).arms
      || (list_any (λ (a : List ℕ × List ℕ). F.repeated a.0) (contents_same i).automata
      || any_claim F.twice_claim (asks_same i))))))))

  name_same : (p : Place) (b : Binder) (x : ℕ) (s : Stand) → F.unbound_name d p b x s ≡ F.unbound_name d' p b x s
  name_same p b x before = λ i. not (among (F.param_names d) x) && not (list_any (F.seen_at x p) (F.equation_sites (contents_same i).sites))
  name_same p b x whole = refl
  name_same p b x right = refl
  name_same p b x (at m) = refl
  name_same p b x loose = refl
  name_same p b x asked = refl
  name_same p b x (applied m) = refl

  unbound_claim_same : (p : Place) (c : Claim) → F.unbound_claim d p c ≡ F.unbound_claim d' p c
  unbound_claim_same p (named b x s) = name_same p b x s
  unbound_claim_same p (constructor c) = refl
  unbound_claim_same p (branches cs) = refl
  unbound_claim_same p stray = refl
  unbound_claim_same p answered = refl
  unbound_claim_same p timed = refl

  unbound_same : F.unbound d ≡ F.unbound d'
  unbound_same =
      (λ i. list_any (λ (s : ℕ × Place). not (list_any (F.of_list s.0 s.1) (F.equation_sites (contents_same i).sites))) (contents_same i).starts
      || (list_any (λ as'. list_any (λ c. not (F.is_there d.known c)) (F.arm_cases_named d.names as')) (contents_same i).arms
      || (list_any (λ (a : List ℕ × List ℕ). list_any (λ t. not (among a.0 t)) a.1) (contents_same i).automata
      || any_claim (F.unbound_claim d) (asks_same i))))
      ∙ ap (λ b. list_any (λ (s : ℕ × Place). not (F.equation_of d' s.1 s.0)) (F.contents d').starts
      || (list_any (λ as'. list_any (λ c. not (F.is_there d.known c)) (F.arm_cases_named d.names as')) (F.contents d').arms
      || (list_any (λ (a : List ℕ × List ℕ). list_any (λ t. not (among a.0 t)) a.1) (F.contents d').automata || b)))
      (same_claims (F.unbound_claim d) (F.unbound_claim d') (F.asks d') unbound_claim_same)

  open_claim_same : (p : Place) (c : Claim) → F.open_claim d p c ≡ F.open_claim d' p c
  open_claim_same p (named b x s) = refl
  open_claim_same p (constructor c) = refl
  open_claim_same p (branches cs) = refl
  open_claim_same p stray = refl
  open_claim_same p answered = refl
  open_claim_same p timed = refl

  open_same : F.not_all_arms d ≡ F.not_all_arms d'
  open_same =
      (λ i. list_any (λ (as' : List (Option ℕ)). list_all is_some as' && not (F.cover d.known (F.arm_cases_named d.names as'))) (contents_same i).arms || any_claim (F.open_claim d) (asks_same i))
      ∙ ap (λ b. list_any (F.open_arms d') (F.contents d').arms || b) (same_claims (F.open_claim d) (F.open_claim d') (F.asks d') open_claim_same)

  use_same : (p : Place) (b : Binder) (s : Stand) → F.wrong_use d p b s ≡ F.wrong_use d' p b s
  use_same p (binder.Var k) s = λ i. list_any (λ v. F.wrong_variable (F.is_signal (sight_same i) v) v p s) (option_list (slice_get (sight_same i).vars k))
  use_same p (binder.Param k) s = λ i. F.in_an_arm p s || list_any (λ single. F.wrong_param single (F.mark_at (asks_same i) k) s) (option_list (slice_get (F.singles d.params) k))
  use_same p (binder.Def k) s = refl
  use_same p binder.Nothing s = refl
  use_same p (binder.Case t k) s = refl

  mixed_claim_same : (p : Place) (c : Claim) → F.mixed_claim d p c ≡ F.mixed_claim d' p c
  mixed_claim_same p (named b x s) = use_same p b s
  mixed_claim_same p (constructor c) = refl
  mixed_claim_same p (branches cs) = refl
  mixed_claim_same p stray = refl
  mixed_claim_same p answered = refl
  mixed_claim_same p timed = refl

  abbrev signals : Sight → ℕ → Place → List Bool
  signals h x l = map (F.is_signal h) (F.picked h.vars (F.place_where (F.of_list x l) h.vars))

  mixed_same : F.mixed d ≡ F.mixed d'
  mixed_same =
      (λ i. list_any (λ (s : Site). list_any (λ b. F.different b (F.is_signal (sight_same i) s)) (signals (sight_same i) s.var s.list)) (contents_same i).sites
      || (list_any (λ (s : ℕ × Place). list_any (λ b. b) (signals (sight_same i) s.0 s.1)) (contents_same i).starts
      || any_claim (F.mixed_claim d) (asks_same i)))
      ∙ ap (λ b. list_any (F.mixed_site d') (F.contents d').sites || (list_any (F.mixed_start d') (F.contents d').starts || b))
      (same_claims (F.mixed_claim d) (F.mixed_claim d') (F.asks d') mixed_claim_same)

  plain_same : list_all F.is_plain d.body.eqs ≡ list_all F.is_plain d'.body.eqs
  plain_same = ap (λ (b : BodyOf Plain). list_all F.is_plain b.eqs) (sym without) ∙ O.all_plain_same erase d'.body.eqs

  timed_same : F.not_combinatorial d ≡ F.not_combinatorial d'
  timed_same i = not d.node && (not (plain_same i) || any_claim F.timed_claim (asks_same i))

  pub fault_again : F.fault d' ≡ F.fault d
  fault_again = λ i. if sym twice_same i then Some Twice else if sym unbound_same i then Some Unbound else if sym open_same i then Some NotAllArms else if sym mixed_same i then Some Mixed else if sym timed_same i then Some NotCombinatorial else None

-- the definitions of a file

module _ (names : List (List ℕ)) where
  abbrev judged : Known → Bool → Name → List Pat → BodyOf Plain → Judged Plain
  judged k node f params body = record { names = names; known = k; title = f.0; node = node; params = params; body = body }

  def_again : (k : Known) (x : DefOf Plain) → R.resolved_def names k (R.resolved_def names k x) ≡ R.resolved_def names k x
  def_again k (DefOf.Cases line t cs) = refl
  def_again k (DefOf.Let line node f params ms ns body) =
      λ i. DefOf.Let line node f params (marks_again (judged k node f params body) i) (R.no_uses params) (body_again (judged k node f params body) i)

  known_again : (k : Known) (x : DefOf Plain) → File.known_after names k (R.resolved_def names k x) ≡ File.known_after names k x
  known_again k (DefOf.Cases line t cs) = refl
  known_again k (DefOf.Let line node f params ms ns body) = λ i. record { enums = k.enums; defs = k.defs ++ seen_again (judged k node f params body) i ∷ [] }

  blamed_again : (k : Known) (x : DefOf Plain) → File.def_fault names k (R.resolved_def names k x) ≡ File.def_fault names k x
  blamed_again k (DefOf.Cases line t cs) = refl
  blamed_again k (DefOf.Let line node f params ms ns body) = ap (with_line line.0) (fault_again (judged k node f params body))

  defs_again : (k : Known) (ds : List (DefOf Plain)) → R.resolved_defs names k (R.resolved_defs names k ds) ≡ R.resolved_defs names k ds
  defs_again k [] = refl
  defs_again k (x ∷ ds) = (λ i. def_again k x i ∷ R.resolved_defs names (known_again k x i) (R.resolved_defs names (File.known_after names k x) ds)) ∙ ap (λ z. R.resolved_def names k x ∷ z) (defs_again (File.known_after names k x) ds)

  faults_again : (k : Known) (ds : List (DefOf Plain)) → File.first_fault names k (R.resolved_defs names k ds) ≡ File.first_fault names k ds
  faults_again k [] = refl
  faults_again k (x ∷ ds) = (λ i. or_else (blamed_again k x i) (File.first_fault names (known_again k x i) (R.resolved_defs names (File.known_after names k x) ds))) ∙ ap (or_else (File.def_fault names k x)) (faults_again (File.known_after names k x) ds)

-- names that are joined again

abbrev has : List (List ℕ) → List ℕ → Bool
has names x = list_any (bytes_eq x) names

bytes_same : (x : List ℕ) → bytes_eq x x ≡ true
bytes_same x = by_decision (bytes_eq x x) (bytes_eq-Decides x x)
  where
    by_decision : (b : Bool) → Decides b (x ≡ x) → b ≡ true
    by_decision true h = refl
    by_decision false h = h.1 refl

or_false : (a : Bool) → a || false ≡ a
or_false true = refl
or_false false = refl

or_assoc : (a b c : Bool) → a || (b || c) ≡ (a || b) || c
or_assoc true b c = refl
or_assoc false b c = refl

or_true : (a b : Bool) → b ≡ true → a || b ≡ true
or_true true b h = refl
or_true false b h = h

any_end : {X : Type 0} (f : X → Bool) (xs : List X) (t : X) → list_any f (xs ++ t ∷ []) ≡ list_any f xs || f t
any_end f [] t = or_false (f t)
any_end f (x ∷ xs) t = ap (λ z. f x || z) (any_end f xs t) ∙ or_assoc (f x) (list_any f xs) (f t)

kept_if : (b : Bool) (x y : List ℕ) (names : List (List ℕ)) → has names x ≡ true → has (if b then names else names ++ y ∷ []) x ≡ true
kept_if true x y names h = h
kept_if false x y names h = any_end (bytes_eq x) names y ∙ ap (λ z. z || bytes_eq x y) h

new_if : (b : Bool) (x : List ℕ) (names : List (List ℕ)) → has names x ≡ b → has (if b then names else names ++ x ∷ []) x ≡ true
new_if true x names e = e
new_if false x names e = any_end (bytes_eq x) names x ∙ or_true (has names x) (bytes_eq x x) (bytes_same x)

joint_keeps : (x : List ℕ) (names xs : List (List ℕ)) → has names x ≡ true → has (A.joint names xs) x ≡ true
joint_keeps x names [] h = h
joint_keeps x names (y ∷ xs) h = joint_keeps x (with_name names y) xs (kept_if (has names y) x y names h)

abbrev HasAll : List (List ℕ) → List (List ℕ) → Type 0
HasAll names [] = Unit {0}
HasAll names (x ∷ xs) = (has names x ≡ true) × HasAll names xs

joint_has : (names xs : List (List ℕ)) → HasAll (A.joint names xs) xs
joint_has names [] = tt
joint_has names (x ∷ xs) = (joint_keeps x (with_name names x) xs (new_if (has names x) x names refl), joint_has (with_name names x) xs)

joint_same : (names xs : List (List ℕ)) → HasAll names xs → A.joint names xs ≡ names
joint_same names [] h = refl
joint_same names (x ∷ xs) h = ap (λ b. A.joint (if b then names else names ++ x ∷ []) xs) h.0 ∙ joint_same names xs h.1

names_again : (env : Env) (own : List (List ℕ)) → A.names_after env (A.names_after env own) ≡ A.names_after env own
names_again env own = joint_same (A.joint own env.names) env.names (joint_has own env.names)

pub resolved_again : (env : Env) (file : FileOf Plain) → A.resolved env (A.resolved env file) ≡ A.resolved env file
resolved_again env file =
    let n : List (List ℕ) = A.names_after env file.names in
    let k : Known = A.known_by env file.names in
    (λ i. record {
      defs = R.resolved_defs (names_again env file.names i) (A.known_with (A.renumbered (names_again env file.names i) env.names) env) (R.resolved_defs n k file.defs);
      names = names_again env file.names i;
    })
    ∙ ap (λ (z : List (DefOf Use)). record { defs = z; names = n }) (defs_again n k file.defs)

pub scope_again : (env : Env) (file : FileOf Plain) → A.scope_fault env (A.resolved env file) ≡ A.scope_fault env file
scope_again env file =
    let n : List (List ℕ) = A.names_after env file.names in
    let k : Known = A.known_by env file.names in
    (λ i. File.first_fault (names_again env file.names i) (A.known_with (A.renumbered (names_again env file.names i) env.names) env) (R.resolved_defs n k file.defs))
    ∙ faults_again n k file.defs
