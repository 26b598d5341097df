-- The row of what has to be 0, part by part.
use Rattle.std.specs.Prelude.{◌≡◌, refl, ℕ, not, List, [], ◌∷◌, ◌++◌, map, length, Option, Some, None}
use Rattle.std.proofs.Common.{ap, sym, ◌∙◌, append_assoc}
use Rattle.ls_places.specs.Patterns.{joined}
use Rattle.ls_places.specs.Search.{count_up, lacks, nth, sites_of}
use Rattle.ls_places.specs.declared.definition.Definition.{Definition}
use Rattle.ls_places.specs.declared.places.Variable.{Variable}
use Rattle.ls_sig.specs.declared.sigs.InitSig.{InitSig}
use Rattle.init_rules.specs.Flow.{if_list, last_flow, variable_zeros}
use Rattle.init_rules.specs.Nodes.{counts, expr_zero_row, named_row, nodes, variable_zero_row, whole_node, zero_row}
use Rattle.init_check.specs.Rows.{site_zero_nodes, variable_zero_nodes, variable_zero_of}
use Rattle.init_check.specs.Walks.{if_nodes}
use Rattle.init_check.proofs.Pushed.{nodes_if, start_nodes_are}

module _ (d : Definition) (sigs : List InitSig) where
  of_variable : (k : ℕ) (o : Option Variable) → variable_zero_of d k o ≡ nodes (counts d) (variable_zeros d sigs k o)
  of_variable k None = refl
  of_variable k (Some w) =
      ap (λ z. if_nodes (not w.signal) (if_nodes (lacks d (sites_of k d.places.sites)) z)) (start_nodes_are d sigs k w)
      ∙ ap (if_nodes (not w.signal)) (sym (nodes_if (counts d) (lacks d (sites_of k d.places.sites)) (last_flow d sigs k w)))
      ∙ sym (nodes_if (counts d) (not w.signal) (if_list (lacks d (sites_of k d.places.sites)) (last_flow d sigs k w)))

  of_variables : (ks : List ℕ) → joined (map (variable_zero_nodes d) ks) ≡ joined (map (variable_zero_row d sigs) ks)
  of_variables [] = refl
  of_variables (k ∷ ks) = ap (λ z. z ++ joined (map (variable_zero_nodes d) ks)) (of_variable k (nth d.places.vars k)) ∙ ap (λ z. variable_zero_row d sigs k ++ z) (of_variables ks)

  pub zero_row_is :
      (((joined (map (expr_zero_row d sigs) d.places.exprs) ++ joined (map (site_zero_nodes d) d.places.sites)) ++ joined (map (variable_zero_nodes d) (count_up (length d.places.vars) 0)))
      ++ joined (map (named_row (counts d)) d.places.names)) ++ map (whole_node (counts d)) d.places.resets ≡ zero_row d sigs
  zero_row_is =
      let a = joined (map (expr_zero_row d sigs) d.places.exprs) in
      let b = joined (map (site_zero_nodes d) d.places.sites) in
      let v = joined (map (variable_zero_nodes d) (count_up (length d.places.vars) 0)) in
      let n = joined (map (named_row (counts d)) d.places.names) in
      let r = map (whole_node (counts d)) d.places.resets in
      append_assoc ((a ++ b) ++ v) n r ∙ append_assoc (a ++ b) v (n ++ r) ∙ append_assoc a b (v ++ (n ++ r))
      ∙ ap (λ z. a ++ (b ++ (z ++ (n ++ r)))) (of_variables (count_up (length d.places.vars) 0))
