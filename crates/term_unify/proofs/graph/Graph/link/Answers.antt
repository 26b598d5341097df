use Rattle.std.proofs.Common.{◌≡◌, [], ◌++◌, ◌∙◌, sym, ap, length, arith, true, false, append-nil}
use Rattle.std.specs.Option.{is_some}
use Rattle.term_unify.proofs.Closing.{var_no_parts}
use Rattle.std.specs.List.{slice_index}
use Rattle.term_unify.specs.Graph.{nodes, pair_up}
use Rattle.term_unify.proofs.Algebra.{laws_of}
use Rattle.term_unify.proofs.Nodes.{node_at}
use Rattle.term_unify.proofs.Lists.{same_item}
use Rattle.term_unify.proofs.graph.Graph.link.Goals as goal
use Rattle.term_unify.proofs.graph.Graph.link.Goals.{then-is_none+else-not-same_head+in_ok-equate_parts, else-is_none}

pub returns-clause-equated : goal.returns-clause-equated
returns-clause-equated g c t at =
    elim c.if-is_none.branch [
      | then-is_none+else-not-same_head+in_ok-equate_parts w ↦ ap (λ v. v.items) w.pending-is ∙ w.in_ok-equate_parts.ensures t at
      | else-is_none w ↦
          let here = node_at c.args.self.now.terms.items c.args.under c.index-2.result.now (omega (arith, c.requires.all, c.requires.lower)) c.index-2.ensures in
          let is = same_item (nodes c.args.self.now.terms.items) c.args.under t c.index-2.result.now.now at here in
          let var : is_some (g.T.Term.var_of t) ≡ true = ap (λ z. is_some (g.T.Term.var_of z)) is ∙ ap is_some (sym c.as_var.ensures) ∙ w.if-is_none.ensures in
          let no = var_no_parts g.T.Term (laws_of g.met.T.Term) (nodes c.args.self.now.terms.items) c.args.self.now.first.items [] t var in
          ap (λ v. v.items) w.pending-is ∙ sym (append-nil c.args.pending.now.items)
          ∙ (λ i. c.args.pending.now.items ++ pair_up (slice_index c.args.self.now.first.items c.args.over) (slice_index c.args.self.now.first.items c.args.under) (length (sym no i)))
    ]

pub returns-clause-alike : goal.returns-clause-alike
returns-clause-alike g c s t at at' none =
    let ts = nodes c.args.self.now.terms.items in
    let over = node_at c.args.self.now.terms.items c.args.over c.index.result.now (omega (arith, c.requires.all, c.requires.upper)) c.index.ensures in
    let under = node_at c.args.self.now.terms.items c.args.under c.index-2.result.now (omega (arith, c.requires.all, c.requires.lower)) c.index-2.ensures in
    let s-is = same_item ts c.args.over s c.index.result.now.now at over in
    let t-is = same_item ts c.args.under t c.index-2.result.now.now at' under in
    elim c.if-is_none.branch [
      | then-is_none+else-not-same_head+in_ok-equate_parts w ↦ (λ i. g.T.Term.alike (s-is i) (t-is i)) ∙ sym w.same_head.ensures ∙ w.if-not-same_head.false
      | else-is_none w ↦
          let var : is_some (g.T.Term.var_of t) ≡ true = ap (λ z. is_some (g.T.Term.var_of z)) t-is ∙ ap is_some (sym c.as_var.ensures) ∙ w.if-is_none.ensures in
          let f : is_some (g.T.Term.var_of t) ≡ false = ap is_some none in absurd (cc)
    ]
