-- Forms, by what they are.
use Rattle.std.specs.Prelude.{◌≡◌, refl, ℕ, Bool, List, ◌++◌, map, Option, Some, None}
use Rattle.std.proofs.Common.{ap, sym, ◌∙◌, append_assoc}
use Rattle.ls_ast.specs.declared.tree.Case.{Case}
use Rattle.ls_ast.specs.declared.tree.Form.{Form, fold-roll-Form}
use Rattle.ls_ast.specs.declared.tree.Form.TheOpen.{Form-F}
use Rattle.ls_ast.specs.declared.tree.Form.TheVariants as form
use Rattle.ls_base.specs.declared.Name.{Name}
use Rattle.ls_ops.specs.declared.kinds.Op.{Op}
use Rattle.ls_places.specs.Clocks.{choice_parts}
use Rattle.ls_places.specs.Places.{Place}
use Rattle.ls_places.specs.Search.{E}
use Rattle.ls_places.specs.declared.definition.Definition.{Definition}
use Rattle.ls_sig.specs.declared.binder.Note.{Note}
use Rattle.ls_sig.specs.declared.sigs.InitSig.{InitSig}
use Rattle.init_rules.specs.Flow.{Flow, Sourced, called_flow, every_flow, expr_flow, form_flow, name_flow, sourced, sources_of, zeros_of}
use Rattle.init_rules.specs.Nodes.{counts, nodes}
use Rattle.init_check.specs.Walks as own
use Rattle.init_check.proofs.Calls.{call_zeros_are}
use Rattle.init_check.proofs.Pushed.{all_sources_are, all_zeros_are, choice_sources_are, choice_zeros_are, choices, last_sources_are, last_zeros_are, name_nodes_are, nodes_append}

module _ (d : Definition) (sigs : List InitSig) (p : Place) (n : Note) (f : Form Note) where
  abbrev flow_at : Form Note → Flow
  flow_at form = own.flow_of d sigs p form n

  abbrev S : E → Sourced
  S = sourced d sigs p

  op_is : (o : Op) (args : List E) → f ≡ form.Op o args → flow_at f ≡ form_flow d sigs p (Form-F.Op o (map S args)) n
  op_is o args is =
      ap flow_at (is ∙ sym (form.rolls-Op o args)) ∙ ap (λ (z : Note → Flow). z n) (fold-roll-Form Note (Note → Flow) Sourced (form_flow d sigs p) (expr_flow d sigs) (Form-F.Op o args))

  tuple_is : (args : List E) → f ≡ form.Tuple args → flow_at f ≡ form_flow d sigs p (Form-F.Tuple (map S args)) n
  tuple_is args is =
      ap flow_at (is ∙ sym (form.rolls-Tuple args)) ∙ ap (λ (z : Note → Flow). z n) (fold-roll-Form Note (Note → Flow) Sourced (form_flow d sigs p) (expr_flow d sigs) (Form-F.Tuple args))

  var_is : (x : Name) → f ≡ form.Var x → flow_at f ≡ form_flow d sigs p (Form-F.Var x) n
  var_is x is =
      ap flow_at (is ∙ sym (form.rolls-Var x)) ∙ ap (λ (z : Note → Flow). z n) (fold-roll-Form Note (Note → Flow) Sourced (form_flow d sigs p) (expr_flow d sigs) (Form-F.Var x))

  last_is : (x : Name) → f ≡ form.Last x → flow_at f ≡ form_flow d sigs p (Form-F.Last x) n
  last_is x is =
      ap flow_at (is ∙ sym (form.rolls-Last x)) ∙ ap (λ (z : Note → Flow). z n) (fold-roll-Form Note (Note → Flow) Sourced (form_flow d sigs p) (expr_flow d sigs) (Form-F.Last x))

  pre_is : (e : E) → f ≡ form.Pre e → flow_at f ≡ form_flow d sigs p (Form-F.Pre (S e)) n
  pre_is e is =
      ap flow_at (is ∙ sym (form.rolls-Pre e)) ∙ ap (λ (z : Note → Flow). z n) (fold-roll-Form Note (Note → Flow) Sourced (form_flow d sigs p) (expr_flow d sigs) (Form-F.Pre e))

  fby_is : (a b : E) → f ≡ form.Fby a b → flow_at f ≡ form_flow d sigs p (Form-F.Fby (S a) (S b)) n
  fby_is a b is =
      ap flow_at (is ∙ sym (form.rolls-Fby a b)) ∙ ap (λ (z : Note → Flow). z n) (fold-roll-Form Note (Note → Flow) Sourced (form_flow d sigs p) (expr_flow d sigs) (Form-F.Fby a b))

  init_is : (a b : E) → f ≡ form.Init a b → flow_at f ≡ form_flow d sigs p (Form-F.Init (S a) (S b)) n
  init_is a b is =
      ap flow_at (is ∙ sym (form.rolls-Init a b)) ∙ ap (λ (z : Note → Flow). z n) (fold-roll-Form Note (Note → Flow) Sourced (form_flow d sigs p) (expr_flow d sigs) (Form-F.Init a b))

  when_is : (e : E) (x : Name) (k : Case) → f ≡ form.When e x k → flow_at f ≡ form_flow d sigs p (Form-F.When (S e) x k) n
  when_is e x k is =
      ap flow_at (is ∙ sym (form.rolls-When e x k)) ∙ ap (λ (z : Note → Flow). z n) (fold-roll-Form Note (Note → Flow) Sourced (form_flow d sigs p) (expr_flow d sigs) (Form-F.When e x k))

  merge_is : (x : Name) (cs : List (Case × E)) → f ≡ form.Merge x cs → flow_at f ≡ form_flow d sigs p (Form-F.Merge x (choices d sigs p cs)) n
  merge_is x cs is =
      ap flow_at (is ∙ sym (form.rolls-Merge x cs)) ∙ ap (λ (z : Note → Flow). z n) (fold-roll-Form Note (Note → Flow) Sourced (form_flow d sigs p) (expr_flow d sigs) (Form-F.Merge x cs))

  abbrev maybe : Option E → Option Sourced
  maybe None = None
  maybe (Some e) = Some (S e)

  call_is : (run : Bool) (head : Name) (args : List E) (every : Option E) (o : Option E) → f ≡ form.Call run head args every → every ≡ o
      → flow_at f ≡ every_flow (maybe o) (called_flow d sigs run n (map S args))
  call_is run head args every None is e =
      ap flow_at (is ∙ ap (form.Call run head args) e ∙ sym (form.rolls-Call run head args None))
      ∙ ap (λ (z : Note → Flow). z n) (fold-roll-Form Note (Note → Flow) Sourced (form_flow d sigs p) (expr_flow d sigs) (Form-F.Call run head args None))
  call_is run head args every (Some j) is e =
      ap flow_at (is ∙ ap (form.Call run head args) e ∙ sym (form.rolls-Call run head args (Some j)))
      ∙ ap (λ (z : Note → Flow). z n) (fold-roll-Form Note (Note → Flow) Sourced (form_flow d sigs p) (expr_flow d sigs) (Form-F.Call run head args (Some j)))

  -- ---- what feeds a form

  sources_by : {x : Flow} → flow_at f ≡ x → nodes (counts d) x.sources ≡ own.form_sources d sigs p f n
  sources_by e = sym (ap (λ (z : Flow). nodes (counts d) z.sources) e)

  pub op_sources : (o : Op) (args slice : List E) → f ≡ form.Op o args → slice ≡ args → own.all_sources d sigs p slice ≡ own.form_sources d sigs p f n
  op_sources o args slice is e = ap (own.all_sources d sigs p) e ∙ all_sources_are d sigs p args ∙ sources_by (op_is o args is)

  pub tuple_sources : (args slice : List E) → f ≡ form.Tuple args → slice ≡ args → own.all_sources d sigs p slice ≡ own.form_sources d sigs p f n
  tuple_sources args slice is e = ap (own.all_sources d sigs p) e ∙ all_sources_are d sigs p args ∙ sources_by (tuple_is args is)

  pub var_sources : (x : Name) → f ≡ form.Var x → own.used_sources d sigs n x.0 ≡ own.form_sources d sigs p f n
  var_sources x is = sources_by (var_is x is)

  pub last_sources : (x : Name) → f ≡ form.Last x → own.last_sources d n.bound ≡ own.form_sources d sigs p f n
  last_sources x is = last_sources_are d sigs p n.bound ∙ sources_by (last_is x is)

  every_sources : (o : Option E) (r : Flow) → (every_flow (maybe o) r).sources ≡ r.sources
  every_sources None r = refl
  every_sources (Some j) r = refl

  pub call_sources : (run : Bool) (head : Name) (args slice : List E) (every : Option E) → f ≡ form.Call run head args every → slice ≡ args
      → own.call_sources d sigs p run n slice ≡ own.form_sources d sigs p f n
  call_sources run head args slice every is e =
      ap (own.call_sources d sigs p run n) e ∙ ap (nodes (counts d)) (sym (every_sources every (called_flow d sigs run n (map S args))))
      ∙ sources_by (call_is run head args every every is refl)

  -- ---- what has to be 0 in it

  zeros_by : {x : Flow} → flow_at f ≡ x → nodes (counts d) x.zeros ≡ own.form_zeros d sigs p f n
  zeros_by e = sym (ap (λ (z : Flow). nodes (counts d) z.zeros) e)

  pub op_zeros : (o : Op) (args slice : List E) → f ≡ form.Op o args → slice ≡ args → own.all_zeros d sigs p slice ≡ own.form_zeros d sigs p f n
  op_zeros o args slice is e = ap (own.all_zeros d sigs p) e ∙ all_zeros_are d sigs p args ∙ zeros_by (op_is o args is)

  pub tuple_zeros : (args slice : List E) → f ≡ form.Tuple args → slice ≡ args → own.all_zeros d sigs p slice ≡ own.form_zeros d sigs p f n
  tuple_zeros args slice is e = ap (own.all_zeros d sigs p) e ∙ all_zeros_are d sigs p args ∙ zeros_by (tuple_is args is)

  pub var_zeros : (x : Name) → f ≡ form.Var x → own.used_zeros d sigs n x.0 ≡ own.form_zeros d sigs p f n
  var_zeros x is = zeros_by (var_is x is)

  pub last_zeros : (x : Name) → f ≡ form.Last x → own.last_zeros d p n.bound ≡ own.form_zeros d sigs p f n
  last_zeros x is = last_zeros_are d sigs p n.bound ∙ zeros_by (last_is x is)

  -- after what is pushed before
  two : (out x y : List ℕ) {z : List ℕ} → x ++ y ≡ z → (out ++ x) ++ y ≡ out ++ z
  two out x y e = append_assoc out x y ∙ ap (λ v. out ++ v) e

  three : (out x y w : List ℕ) {z : List ℕ} → x ++ (y ++ w) ≡ z → ((out ++ x) ++ y) ++ w ≡ out ++ z
  three out x y w e = append_assoc (out ++ x) y w ∙ append_assoc out x (y ++ w) ∙ ap (λ v. out ++ v) e

  pub pre_zeros : (out : List ℕ) (e : E) → f ≡ form.Pre e → (out ++ own.sources d sigs p e) ++ own.zeros d sigs p e ≡ out ++ own.form_zeros d sigs p f n
  pre_zeros out e is = two out (own.sources d sigs p e) (own.zeros d sigs p e) (sym (nodes_append (counts d) (S e).sources (S e).zeros) ∙ zeros_by (pre_is e is))

  pub fby_zeros : (out : List ℕ) (a b : E) → f ≡ form.Fby a b
      → ((out ++ own.sources d sigs p b) ++ own.zeros d sigs p a) ++ own.zeros d sigs p b ≡ out ++ own.form_zeros d sigs p f n
  fby_zeros out a b is =
      three out (own.sources d sigs p b) (own.zeros d sigs p a) (own.zeros d sigs p b)
      (ap (λ z. own.sources d sigs p b ++ z) (sym (nodes_append (counts d) (S a).zeros (S b).zeros)) ∙ sym (nodes_append (counts d) (S b).sources ((S a).zeros ++ (S b).zeros))
      ∙ zeros_by (fby_is a b is))

  pub init_zeros : (out : List ℕ) (a b : E) → f ≡ form.Init a b → (out ++ own.zeros d sigs p a) ++ own.zeros d sigs p b ≡ out ++ own.form_zeros d sigs p f n
  init_zeros out a b is = two out (own.zeros d sigs p a) (own.zeros d sigs p b) (sym (nodes_append (counts d) (S a).zeros (S b).zeros) ∙ zeros_by (init_is a b is))

  pub when_zeros : (out : List ℕ) (e : E) (x : Name) (k : Case) → f ≡ form.When e x k
      → (out ++ own.name_nodes d n.bound x.0) ++ own.zeros d sigs p e ≡ out ++ own.form_zeros d sigs p f n
  when_zeros out e x k is =
      two out (own.name_nodes d n.bound x.0) (own.zeros d sigs p e)
      (ap (λ z. z ++ own.zeros d sigs p e) (name_nodes_are d sigs n.bound x.0) ∙ sym (nodes_append (counts d) (name_flow d sigs n.bound x.0) (S e).zeros) ∙ zeros_by (when_is e x k is))

  merged : (x : Name) (cs : List (Case × E)) → own.name_nodes d n.bound x.0 ++ (own.choice_sources d sigs p cs ++ own.choice_zeros d sigs p cs)
      ≡ nodes (counts d) (name_flow d sigs n.bound x.0 ++ (sources_of (choice_parts (choices d sigs p cs)) ++ zeros_of (choice_parts (choices d sigs p cs))))
  merged x cs =
      let xs = sources_of (choice_parts (choices d sigs p cs)) in
      let ys = zeros_of (choice_parts (choices d sigs p cs)) in
      ap (λ z. z ++ (own.choice_sources d sigs p cs ++ own.choice_zeros d sigs p cs)) (name_nodes_are d sigs n.bound x.0)
      ∙ ap (λ z. nodes (counts d) (name_flow d sigs n.bound x.0) ++ (z ++ own.choice_zeros d sigs p cs)) (choice_sources_are d sigs p cs)
      ∙ ap (λ z. nodes (counts d) (name_flow d sigs n.bound x.0) ++ (nodes (counts d) xs ++ z)) (choice_zeros_are d sigs p cs)
      ∙ ap (λ z. nodes (counts d) (name_flow d sigs n.bound x.0) ++ z) (sym (nodes_append (counts d) xs ys)) ∙ sym (nodes_append (counts d) (name_flow d sigs n.bound x.0) (xs ++ ys))

  pub merge_zeros : (out : List ℕ) (x : Name) (cs slice again : List (Case × E)) → f ≡ form.Merge x cs → slice ≡ cs → again ≡ cs
      → ((out ++ own.name_nodes d n.bound x.0) ++ own.choice_sources d sigs p slice) ++ own.choice_zeros d sigs p again ≡ out ++ own.form_zeros d sigs p f n
  merge_zeros out x cs slice again is e e' =
      ap (λ z. ((out ++ own.name_nodes d n.bound x.0) ++ own.choice_sources d sigs p z) ++ own.choice_zeros d sigs p again) e
      ∙ ap (λ z. ((out ++ own.name_nodes d n.bound x.0) ++ own.choice_sources d sigs p cs) ++ own.choice_zeros d sigs p z) e'
      ∙ three out (own.name_nodes d n.bound x.0) (own.choice_sources d sigs p cs) (own.choice_zeros d sigs p cs) (merged x cs ∙ zeros_by (merge_is x cs is))

  -- a call, with and without `every`
  pub call_none : (out : List ℕ) (run : Bool) (head : Name) (args slice again : List E) (every : Option E) → f ≡ form.Call run head args every → every ≡ None → slice ≡ args → again ≡ args
      → (out ++ own.call_asked d sigs p run n slice) ++ own.all_zeros d sigs p again ≡ out ++ own.form_zeros d sigs p f n
  call_none out run head args slice again every is none e e' =
      ap (λ z. (out ++ own.call_asked d sigs p run n z) ++ own.all_zeros d sigs p again) e ∙ ap (λ z. (out ++ own.call_asked d sigs p run n args) ++ own.all_zeros d sigs p z) e'
      ∙ two out (own.call_asked d sigs p run n args) (own.all_zeros d sigs p args) (sym (call_zeros_are d sigs p run n args) ∙ zeros_by (call_is run head args every None is none))

  every_zeros : (run : Bool) (args : List E) (j : E)
      → ((own.call_asked d sigs p run n args ++ own.all_zeros d sigs p args) ++ own.zeros d sigs p j) ++ (own.sources d sigs p j ++ own.call_sources d sigs p run n args)
      ≡ nodes (counts d) (every_flow (Some (S j)) (called_flow d sigs run n (map S args))).zeros
  every_zeros run args j =
      let r = called_flow d sigs run n (map S args) in
      ap (λ z. (z ++ own.zeros d sigs p j) ++ (own.sources d sigs p j ++ own.call_sources d sigs p run n args)) (sym (call_zeros_are d sigs p run n args))
      ∙ ap (λ z. z ++ (own.sources d sigs p j ++ own.call_sources d sigs p run n args)) (sym (nodes_append (counts d) r.zeros (S j).zeros))
      ∙ ap (λ z. nodes (counts d) (r.zeros ++ (S j).zeros) ++ z) (sym (nodes_append (counts d) (S j).sources r.sources))
      ∙ sym (nodes_append (counts d) (r.zeros ++ (S j).zeros) ((S j).sources ++ r.sources))

  five : (out a b c x y : List ℕ) {z : List ℕ} → ((a ++ b) ++ c) ++ (x ++ y) ≡ z → ((((out ++ a) ++ b) ++ c) ++ x) ++ y ≡ out ++ z
  five out a b c x y e =
      append_assoc (((out ++ a) ++ b) ++ c) x y ∙ ap (λ v. (v ++ c) ++ (x ++ y)) (append_assoc out a b) ∙ ap (λ v. v ++ (x ++ y)) (append_assoc out (a ++ b) c)
      ∙ append_assoc out ((a ++ b) ++ c) (x ++ y) ∙ ap (λ v. out ++ v) e

  pub call_some : (out : List ℕ) (run : Bool) (head : Name) (args slice again third : List E) (every : Option E) (j : E) → f ≡ form.Call run head args every → every ≡ Some j
      → slice ≡ args → again ≡ args → third ≡ args
      → ((((out ++ own.call_asked d sigs p run n slice) ++ own.all_zeros d sigs p again) ++ own.zeros d sigs p j) ++ own.sources d sigs p j) ++ own.call_sources d sigs p run n third
      ≡ out ++ own.form_zeros d sigs p f n
  call_some out run head args slice again third every j is some e e' e'' =
      ap (λ z. ((((out ++ own.call_asked d sigs p run n z) ++ own.all_zeros d sigs p again) ++ own.zeros d sigs p j) ++ own.sources d sigs p j) ++ own.call_sources d sigs p run n third) e
      ∙ ap (λ z. ((((out ++ own.call_asked d sigs p run n args) ++ own.all_zeros d sigs p z) ++ own.zeros d sigs p j) ++ own.sources d sigs p j) ++ own.call_sources d sigs p run n third) e'
      ∙ ap (λ z. ((((out ++ own.call_asked d sigs p run n args) ++ own.all_zeros d sigs p args) ++ own.zeros d sigs p j) ++ own.sources d sigs p j) ++ own.call_sources d sigs p run n z) e''
      ∙ five out (own.call_asked d sigs p run n args) (own.all_zeros d sigs p args) (own.zeros d sigs p j) (own.sources d sigs p j) (own.call_sources d sigs p run n args)
      (every_zeros run args j ∙ zeros_by (call_is run head args every (Some j) is some))
