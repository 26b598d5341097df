-- What is heard at an expression is what is said at it, and where it is alarmed.
use Rattle.std.specs.Prelude.{◌≡◌, refl, List, [], ◌∷◌, map, Some, None}
use Rattle.std.proofs.Common.{ap, ◌∙◌}
use Rattle.ls_ast.specs.declared.tree.Case.{Case}
use Rattle.ls_ast.specs.declared.tree.Expr.{Expr, Expr-F, fold-Expr, fold-roll-Expr}
use Rattle.ls_ast.specs.declared.tree.Form.{Form, fold-Form, map-Form}
use Rattle.ls_ast.specs.declared.tree.Form.TheOpen.{Form-F}
use Rattle.ls_places.specs.Places.{Place}
use Rattle.ls_sig.specs.declared.binder.Note.{Note}
use Rattle.kahn_model.specs.Alarm
use Rattle.kahn_model.specs.Alarm.{Heard, HeardForm}
use Rattle.kahn_model.specs.Functions.{Arg, Said}
use Rattle.kahn_model.specs.Turn
use Rattle.kahn_model.proofs.Related
use Rattle.kahn_model.proofs.Related.{in_choices, related}
use Rattle.kahn_exprs.specs.declared.body.Body.{Body}
use Rattle.kahn_exprs.specs.Body as spec

module _ (b : Body) (p : Place) where
  abbrev hs : Form-F Note HeardForm Heard → HeardForm
  hs = Alarm.form_heard (spec.cases b) b.defs.now (spec.call b) (spec.alarmed b) b.def.now (spec.around b) (spec.table b) (spec.active b p) (spec.again b p)

  abbrev he : Expr-F Note HeardForm Heard → Heard
  he = Alarm.expr_heard (spec.cases b) b.defs.now (spec.call b) (spec.alarmed b) b.def.now (spec.around b) (spec.table b)

  abbrev ss : Form-F Note (Note → Arg) Said → Note → Arg
  ss = Turn.form_step (spec.cases b) b.defs.now (spec.call b) b.def.now (spec.around b) (spec.table b) (spec.active b p) (spec.again b p)

  abbrev se : Expr-F Note (Note → Arg) Said → Said
  se = Turn.expr_step (spec.cases b) b.defs.now (spec.call b) b.def.now (spec.around b) (spec.table b)

  abbrev Same : HeardForm → (Note → Arg) → Type 0
  Same f g = (n : Note) → (f n).0 ≡ g n

  abbrev Same' : Heard → Said → Type 0
  Same' h s = h.0 ≡ s

  abbrev Two : Type 0
  Two = (f : HeardForm) × (g : Note → Arg) × Same f g

  abbrev Two' : Type 0
  Two' = (h : Heard) × (s : Said) × Same' h s

  abbrev lefts : Form-F Note Two Two' → Form-F Note HeardForm Heard
  lefts = Related.lefts hs he ss se Same Same'

  abbrev rights : Form-F Note Two Two' → Form-F Note (Note → Arg) Said
  rights = Related.rights hs he ss se Same Same'

  abbrev quiet : Form-F Note HeardForm Heard → Form-F Note (Note → Arg) Said
  quiet = map-Form Note HeardForm Heard (Note → Arg) Said (λ f n. (f n).0) (λ h. h.0)

  list_same : (ps : List Two') → map (λ (h : Heard). h.0) (map (λ (q : Two'). q.0) ps) ≡ map (λ (q : Two'). q.1) ps
  list_same [] = refl
  list_same (q ∷ ps) = ap (λ z. z ∷ map (λ (h : Heard). h.0) (map (λ (q : Two'). q.0) ps)) q.2 ∙ ap (λ zs. q.1 ∷ zs) (list_same ps)

  choices_same : (ps : List (Case × Two')) → in_choices (λ (h : Heard). h.0) (in_choices (λ (q : Two'). q.0) ps) ≡ in_choices (λ (q : Two'). q.1) ps
  choices_same [] = refl
  choices_same (q ∷ ps) = ap (λ z. (q.0, z) ∷ in_choices (λ (h : Heard). h.0) (in_choices (λ (q : Two'). q.0) ps)) q.1.2 ∙ ap (λ zs. (q.0, q.1.1) ∷ zs) (choices_same ps)

  parts_same : (y : Form-F Note Two Two') → quiet (lefts y) ≡ rights y
  parts_same (Form-F.Op o args) = ap (Form-F.Op o) (list_same args)
  parts_same (Form-F.Tuple all) = ap Form-F.Tuple (list_same all)
  parts_same (Form-F.Pre e) = ap Form-F.Pre e.2
  parts_same (Form-F.Fby x y) = ap (λ z. Form-F.Fby z y.0.0) x.2 ∙ ap (Form-F.Fby x.1) y.2
  parts_same (Form-F.Init x y) = ap (λ z. Form-F.Init z y.0.0) x.2 ∙ ap (Form-F.Init x.1) y.2
  parts_same (Form-F.When e x k) = ap (λ z. Form-F.When z x k) e.2
  parts_same (Form-F.Merge x choices) = ap (Form-F.Merge x) (choices_same choices)
  parts_same (Form-F.Call run x args None) = ap (λ z. Form-F.Call run x z None) (list_same args)
  parts_same (Form-F.Call run x args (Some e)) = ap (λ z. Form-F.Call run x z (Some e.0.0)) (list_same args) ∙ ap (λ z. Form-F.Call run x (map (λ (q : Two'). q.1) args) (Some z)) e.2
  parts_same (Form-F.Leaf l) = refl
  parts_same (Form-F.Case x) = refl
  parts_same (Form-F.Var x) = refl
  parts_same (Form-F.Last x) = refl
  parts_same (Form-F.Asked x) = refl

  form_same : (y : Form-F Note Two Two') → Same (hs (lefts y)) (ss (rights y))
  form_same y n = ap (λ z. ss z n) (parts_same y)

  expr_same : (n : Note) (q : Two) → Same' (he (record { note = n; form = q.0 })) (se (record { note = n; form = q.1 }))
  expr_same n q = ap (λ z. record { note = n; arg = spec.on_clock b n z }) (q.2 n)

  abbrev pub heard : Expr Note → Heard
  heard = fold-Expr Note HeardForm Heard hs he

  abbrev pub heard_form : Form Note → HeardForm
  heard_form = fold-Form Note HeardForm Heard hs he

  pub heard_said : (e : Expr Note) → (heard e).0 ≡ spec.said b p e
  heard_said = related hs he ss se Same Same' form_same expr_same

  pub heard_is : (e : Expr Note) → (heard e).1 ≡ (heard_form e.form e.note).1
  heard_is e = ap (λ (h : Heard). h.1) (fold-roll-Expr Note HeardForm Heard hs he (record { note = e.note; form = e.form }))

  pub saids : (args : List (Expr Note)) → map (λ (h : Heard). h.0) (map heard args) ≡ map (spec.said b p) args
  saids [] = refl
  saids (e ∷ args) = ap (λ z. z ∷ map (λ (h : Heard). h.0) (map heard args)) (heard_said e) ∙ ap (λ zs. spec.said b p e ∷ zs) (saids args)
