-- What a definition without a fault gives.
use Rattle.std.specs.Prelude.{◌≡◌, ℕ, ◌+◌, Bool, true, false, List, [], ◌∷◌, map, length, Option, Some, None, slice_get, refl}
use Rattle.std.proofs.Common.{ap, ap₂, sym, ◌∙◌}
use Rattle.std.specs.List.{list_any}
use Rattle.ls_ast.specs.declared.tree.BodyOf.{BodyOf}
use Rattle.ls_ast.specs.declared.tree.Expr.{Expr}
use Rattle.ls_ast.specs.declared.tree.Form.{Form}
use Rattle.ls_ast.specs.declared.tree.Form.TheOpen.{Form-F}
use Rattle.ls_ast.specs.declared.tree.Mark.{Mark}
use Rattle.ls_ast.specs.declared.tree.Pat.{Pat}
use Rattle.ls_sig.specs.declared.binder.Binder.{Binder}
use Rattle.ls_sig.specs.declared.binder.Binder.TheVariants as binder
use Rattle.ls_sig.specs.declared.binder.Use.{Use}
use Rattle.scope_rules.specs.declared.claims.Asked.{Asked}
use Rattle.scope_rules.specs.declared.places.Site.{Site}
use Rattle.scope_rules.specs.Places.{Reading, option_list, is_name, names_of, joined, root, contents_of}
use Rattle.scope_rules.specs.Claims.{Known}
use Rattle.scope_rules.specs.Faults as faults
use Rattle.scope_rules.specs.Faults.{Judged, Sight, asked_by, binder_at, head_answers, head_at, is_signal, is_signal_mark, mark_or_data, first_mark}
use Rattle.scope_rules.specs.Resolved.{reading_uses, body_uses}
use Rattle.ls_scope.specs.declared.contents.Reading as reading
use Rattle.ls_scope.specs.declared.definition.Judgement.{Judgement}
use Rattle.ls_scope.specs.declared.definition.Scene.{Scene}
use Rattle.scope_rules.specs.declared.notes.UseNotes.{UseNotes}
use Rattle.scope_rules.specs.Notes.{use_at, after}
use Rattle.tree_notes.specs.Numbered.{number_body}
use Rattle.ls_scope.specs.declared.marks.Marks.{Marks}
use Rattle.ls_scope.specs.Judgement as judgement
use Rattle.ls_scope.specs.Judgement.{Shows, HasParts, judged_of}
use Rattle.ls_scope.specs.Marks as giving
use Rattle.ls_scope.specs.Marks.{Gives}
use Rattle.ls_scope.specs.Sight.{sight_of}
use Rattle.ls_scope.specs.Told as code

module _ (asks : List Asked) (m : Marks) (g : Gives asks m) where
  one_mark : (b : Bool) (k : ℕ) → giving.mark_from m b k ≡ faults.mark_from asks b k
  one_mark true k = ap mark_or_data (g k)
  one_mark false k = refl

  pub marks_same : (ps : List Pat) (k : ℕ) → giving.marks_from m ps k ≡ faults.marks_from asks ps k
  marks_same [] k = refl
  marks_same (p ∷ ps) k = ap₂ (λ x xs. x ∷ xs) (one_mark (is_name p) k) (marks_same ps (k + length (names_of p)))

module _ {N : Type 0} (s : Scene N) (sh : Shows s) (m : Marks) (g : Gives s.asks.now m) where
  abbrev d : Judged N
  d = judged_of s.judged.now

  sight_is : sight_of s.sight ≡ faults.sight d
  sight_is i = record { params = sh.params i; vars = sh.vars i; defs = (sh.known i).defs }

  given : Gives (faults.asks d) m
  given k = g k ∙ ap (first_mark k) sh.asks

  pub marks_are : giving.marks_from m s.judged.now.params.now 0 ≡ faults.marks d
  marks_are = marks_same (faults.asks d) m given s.judged.now.params.now 0

  binder_signal : (b : Binder) → judgement.signal_binder (faults.sight d) m b ≡ faults.signal_binder d b
  binder_signal (binder.Param k) = ap (λ o. is_signal_mark (mark_or_data o)) (given k)
  binder_signal (binder.Var k) = refl
  binder_signal binder.Nothing = refl
  binder_signal (binder.Def k) = refl
  binder_signal (binder.Case t k) = refl

  by_form : (F : Form-F N (Form N) (Expr N)) → judgement.result_by (faults.sight d) m F ≡ faults.result_by d F
  by_form (Form-F.Leaf l) = refl
  by_form (Form-F.Case c) = refl
  by_form (Form-F.Var x) = binder_signal (binder_at (faults.sight d) [] x.0)
  by_form (Form-F.Last x) = refl
  by_form (Form-F.Asked x) = refl
  by_form (Form-F.Op o args) = refl
  by_form (Form-F.Tuple parts) = refl
  by_form (Form-F.Pre e) = refl
  by_form (Form-F.Fby a b) = refl
  by_form (Form-F.Init a b) = refl
  by_form (Form-F.When e x c) = refl
  by_form (Form-F.Merge x bs) = refl
  by_form (Form-F.Call run x args every) = refl

  pub answers_are : (e : Expr N) → judgement.result_by (sight_of s.sight) m (root e) ≡ faults.result_by d (root e)
  answers_are e = (λ i. judgement.result_by (sight_is i) m (root e)) ∙ by_form (root e)

  pub uses_are : (slice : List (reading.Reading N)) → slice ≡ s.contents.now.readings
      → joined (map (reading_uses (sight_of s.sight) s.sight.known.now) (map code.told slice)) ≡ body_uses d
  uses_are slice same =
      (λ i. joined (map (reading_uses (sight_is i) (sh.known i)) (map code.told (same i))))
      ∙ (λ i. joined (map (reading_uses (faults.sight d) d.known) (sh.contents i).readings))

  -- what is made of these parts
  pub outcome_is : (list copied : List Mark) (ans : Bool) (slice : List (reading.Reading N)) (us : List Use) (body : BodyOf Use)
      → list ≡ giving.marks_from m s.judged.now.params.now 0 → copied ≡ list
      → ans ≡ judgement.result_by (sight_of s.sight) m (root s.judged.now.body.now.result)
      → slice ≡ s.contents.now.readings → us ≡ joined (map (reading_uses (sight_of s.sight) s.sight.known.now) (map code.told slice))
      → body ≡ (number_body (λ (it : UseNotes) (n : N). use_at it) (λ (it : UseNotes) (n : N). after it) s.judged.now.body.now (record { list = us; next = 0 })).0
      → ◌≡◌ {A = Judgement} (record { marks = list; body = body; earlier = record { title = s.judged.now.title; node = s.judged.now.node; marks = copied; answers = ans } }) (judgement.judgement_of d)
  outcome_is list copied ans slice us body ml cl al sl ul bl = λ i. record {
    marks = (ml ∙ marks_are) i;
    body = (bl ∙ ap (λ z. (number_body (λ (it : UseNotes) (n : N). use_at it) (λ (it : UseNotes) (n : N). after it) s.judged.now.body.now (record { list = z; next = 0 })).0) (ul ∙ uses_are slice sl)) i;
    earlier = record { title = s.judged.now.title; node = s.judged.now.node; marks = (cl ∙ ml ∙ marks_are) i; answers = (al ∙ answers_are s.judged.now.body.now.result) i };
  }

-- a scene of what a definition has

module _ {N : Type 0} (s : Scene N) (h : HasParts s.judged.now s.names.now s.sight.params.now s.contents.now s.sight.vars.now) (k : s.sight.known.now ≡ s.judged.now.known.now) where
  abbrev d' : Judged N
  d' = judged_of s.judged.now

  scene_sight : sight_of s.sight ≡ faults.sight d'
  scene_sight i = record { params = h.params i; vars = h.vars i; defs = (k i).defs }

  pub shows : s.asks.now ≡ map (asked_by (sight_of s.sight)) (map code.told s.contents.now.readings) → Shows s
  shows e = record {
    contents = h.contents;
    params = h.params;
    vars = h.vars;
    known = k;
    asks = e ∙ (λ i. map (asked_by (scene_sight i)) (h.contents i).readings);
    names = h.names;
  }
