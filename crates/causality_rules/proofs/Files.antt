-- A file is judged in one way.
use Rattle.std.specs.Prelude.{ℕ, List, [], ◌∷◌, ◌++◌, map}
use Rattle.std.proofs.Common.{subst}
use Rattle.ls_sig.specs.declared.sigs.Item.{Item}
use Rattle.digraph.proofs.Numbering.{waits_exclude}
use Rattle.causality_rules.specs.Reads.{reads}
use Rattle.causality_rules.specs.Items.{is_condition, key_of, IsCausal}
use Rattle.causality_rules.specs.Files.{Let, AllRanked}
use Rattle.causality_rules.specs.Laws.{RankedIsCausal, CyclicExcludes, NotBoth}

pub ranked_is_causal : RankedIsCausal
ranked_is_causal d list r = (r.0, r.1)

pub cyclic_excludes : CyclicExcludes
cyclic_excludes d rows cycle is = waits_exclude is_condition (reads d) is.0 is.1 rows cycle.1

not_here : (before : List Let) (d : Let) (after : List Let) (ls : List (List (Item × ℕ))) → AllRanked (before ++ d ∷ after) ls → (IsCausal d.body → ⊥) → ⊥
not_here [] d after [] r n = r
not_here [] d after (l ∷ ls) r n = n (ranked_is_causal d.body l r.0)
not_here (x ∷ before) d after [] r n = r
not_here (x ∷ before) d after (l ∷ ls) r n = not_here before d after ls r.1 n

pub not_both : NotBoth
not_both ds ls line found r u = not_here u.0 u.1 u.2 ls (subst (λ z. AllRanked z ls) u.3 r)
    (λ is. cyclic_excludes u.1.body (map (key_of u.1.body) found) u.6.cyclic is)
