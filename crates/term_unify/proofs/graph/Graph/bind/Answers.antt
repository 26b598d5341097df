use Rattle.std.proofs.Common.{◌≡◌, ◌≢◌, ◌+◌, arith, sym, ap, subst, ◌∙◌, Some, None, true, false, [], ◌∷◌, ◌++◌}
use Rattle.std.specs.List.{slice_get, slice_index}
use Rattle.std.specs.Option.{is_some}
use Rattle.std.proofs.lemmas.List.{length-map}
use Rattle.std.proofs.lemmas.Option.{slice_get-get_or, slice_get_within}
use Rattle.term_unify.specs.Graph.{nodes, JoinsVariables}
use Rattle.term_unify.specs.Terms.{first}
use Rattle.term_unify.proofs.Algebra.{laws_of}
use Rattle.term_unify.proofs.Lists.{some_of, none_of}
use Rattle.term_unify.proofs.Nodes.{node_at}
use Rattle.term_unify.proofs.Bindings.{Binds, binds_other, binds_own, binds_listed, binds_added}
use Rattle.term_unify.proofs.graph.Graph.bind.Goals as goal
use Rattle.std.specs.Option.{option_copied}
use Rattle.std.specs.Prelude.{not}
use Rattle.term_unify.proofs.graph.Graph.bind.Goals.{in-Some+then-not-same_head+then-is_none+in_ok-value+in_ok-push, in-Some+else-not-same_head, else-not-same_head-via-then-not-same_head+else-is_none, else-not-same_head-via-else-not-same_head, in_default}

pub loop-node-preserved : goal.loop-node-preserved
loop-node-preserved g c =
    let ts = nodes c.args.self.now.terms.items in
    let firsts = c.args.self.now.first.items in
    let L = laws_of g.met.T.Term in
    let n = c.loop-node.node-index in
    let i = slice_index c.args.group.now n in
    let item : slice_get c.args.group.now n ≡ Some i = slice_get-get_or c.args.group.now n 0 c.loop-node-test.true in
    let hi = c.requires.group n 0 c.loop-node-test.true in
    let t = c.index-this.result.now.now in
    let s = c.index-term.result.now.now in
    let at = node_at c.args.self.now.terms.items i c.index-this.result.now hi c.index-this.ensures in
    let at-s = node_at c.args.self.now.terms.items c.args.root c.index-term.result.now c.requires.root c.index-term.ensures in
    let old = c.args.done.now.list in
    let cur = c.loop-node.done.list in
    let prev = c.loop-node.invariant in
    elim c.match-as_var.branch [
      | in-Some+then-not-same_head+then-is_none+in_ok-value+in_ok-push w ↦
          let x = w.in-Some.variable in
          let var : g.T.Term.var_of t ≡ Some x = sym w.in-Some.ensures in
          let off : g.T.Term.alike s t ≡ false = sym w.same_head.ensures ∙ w.if-not-same_head.true in
          let other : g.T.Term.var_of s ≢ Some x = λ e. (let yes : g.T.Term.alike s t ≡ true = ap (g.T.Term.alike s) (sym (L.var_same s t x e var)) ∙ L.alike_self s in cc) in
          let gone : is_some w.get.result ≡ false = w.is_none.ensures ∙ ap not w.if-is_none.true in
          let none : first cur x ≡ None = sym w.get.ensures ∙ ap option_copied (none_of w.get.result gone) in
          subst (λ z. Binds g.T.Term ts firsts c.args.root c.args.group.now (n + 1) old z) (sym (ap (λ d. d.list) w.done-is))
          (binds_added g.T.Term L ts firsts c.args.root c.args.group.now n i x old cur w.push.new.self.list t s item at var at-s none other
          (w.in_ok-push.ensures.ok ∙ ap (λ v. cur ++ (x, v) ∷ []) w.in_ok-value.ensures) prev)
      | in-Some+else-not-same_head w ↦
          let x = w.in-Some.variable in
          let var : g.T.Term.var_of t ≡ Some x = sym w.in-Some.ensures in
          subst (λ z. Binds g.T.Term ts firsts c.args.root c.args.group.now (n + 1) old z) (sym (ap (λ d. d.list) w.done-is))
          (elim w.else-not-same_head.branch [
            | else-not-same_head-via-then-not-same_head+else-is_none w' ↦
                let there : is_some w'.get.result ≡ true = w'.is_none.ensures ∙ ap not w'.if-is_none.false in
                let u = some_of w'.get.result there in
                binds_listed g.T.Term L ts firsts c.args.root c.args.group.now n i x old cur t u.0.now item at var (sym w'.get.ensures ∙ ap option_copied u.1) prev
            | else-not-same_head-via-else-not-same_head w' ↦
                let on : g.T.Term.alike s t ≡ true = sym w.same_head.ensures ∙ w'.if-not-same_head.false in
                binds_own g.T.Term L ts firsts c.args.root c.args.group.now n i x old cur t s item at var at-s (L.alike_var s t on ∙ var) prev
          ])
      | in_default w ↦
          subst (λ z. Binds g.T.Term ts firsts c.args.root c.args.group.now (n + 1) old z) (sym (ap (λ d. d.list) w.done-is))
          (binds_other g.T.Term L ts firsts c.args.root c.args.group.now n i old cur t item at (sym w.in_default.ensures) prev)
    ]

pub returns : goal.returns
returns g c cls sizes order p K J G W place mine B =
    let ts = nodes c.args.self.now.terms.items in
    let n = length-map c.args.self.now.terms.items (λ t. t.now) in
    let r = c.loop-node.invariant cls sizes order p K (subst (λ m. JoinsVariables g.T.Term ts m (slice_index cls)) (sym n) J) G W place mine B in
    (r.0, λ k i x t s at-k. r.1 k i x t s (let h = slice_get_within c.args.group.now k i at-k in omega (arith, h, c.loop-node-test.false)) at-k)
