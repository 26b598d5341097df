-- The clocks of a principal annotation are well-formed: it is shrunk, and an instance is no smaller.
use Rattle.std.specs.Prelude.{◌≡◌, ℕ, zero, suc, ◌≤◌, ◌<◌, true, List, [], ◌∷◌, ◌++◌, map, length, Option, Some, None, option_map, refl}
use Rattle.std.proofs.Common.{ap, ap₂, sym, ◌∙◌, subst, arith}
use Rattle.std.proofs.lemmas.List.{length-map}
use Rattle.ls_ast.specs.declared.tree.BodyOf.{BodyOf}
use Rattle.ls_ast.specs.declared.tree.Mark.{Mark}
use Rattle.ls_ast.specs.declared.tree.Pat.{Pat}
use Rattle.ls_terms.specs.declared.clocks.ClockTerm.{ClockTerm}
use Rattle.ls_terms.specs.Clocks.{apply, size}
use Rattle.ls_sig.specs.Notes.{is_signal}
use Rattle.ls_sig.specs.declared.binder.Note.{Note}
use Rattle.ls_sig.specs.declared.binder.TypeNote.{TypeNote}
use Rattle.ls_places.specs.Places.{Place, InnerArm}
use Rattle.ls_places.specs.Search.{nth, starts_with}
use Rattle.ls_places.specs.declared.places.Named.{Named}
use Rattle.ls_places.specs.declared.places.Variable.{Variable}
use Rattle.tree_notes.specs.Each.{Each}
use Rattle.tree_notes.specs.Noted as T
use Rattle.tree_notes.specs.Order.{notes_body}
use Rattle.tree_notes.proofs.Twice as Tw
use Rattle.clock_rules.specs.declared.scheme.ClockScheme.{ClockScheme}
use Rattle.clock_rules.specs.Facts.{Facts}
use Rattle.clock_rules.specs.Fresh.{erase, facts_of}
use Rattle.clock_rules.specs.Instances.{in_note, map_facts, map_node}
use Rattle.clock_rules.specs.Judged.{IsPrincipal, IsInstance, Annotates, Unrestarted}
use Rattle.clock_rules.specs.Layers.{Layer}
use Rattle.clock_rules.specs.Rules as R
use Rattle.clock_rules.specs.Rules.{Clocks, AreEqual, at}
use Rattle.clock_rules.specs.Terms.{IsClock, IsClockOf, is_function, limit, names_in}
use Rattle.clock_rules.proofs.FactsNatural.{facts_in}
use Rattle.clock_rules.proofs.Natural.{note_in}
use Rattle.clock_rules.proofs.Noting.{nodes_of_notes, notes_of_nodes}
use Rattle.clock_rules.proofs.Sides.{all_left, all_right, all_both, size_up}
use Rattle.clock_laws.specs.Laws.{AreWellFormed}
use Rattle.clock_laws.specs.Scoped as S
use Rattle.clock_laws.specs.Scoped.{own, IsWell, IsScoped}
use Rattle.clock_laws.specs.WellFormed.{IsWellFormed}
use Rattle.clock_laws.proofs.Equal as Eq
use Rattle.clock_laws.proofs.Shrink as Sh

nth_each : {A : Type 0} (P : A → Type 0) (xs : List A) (k : ℕ) (x : A) → Each P xs → nth xs k ≡ Some x → P x
nth_each P [] k x h e = absurd (cc)
nth_each P (y ∷ xs) zero x h e = let f : y ≡ x = cc in subst P f h.0
nth_each P (y ∷ xs) (suc k) x h e = nth_each P xs k x h.1 e

each_map : {A B : Type 0} (P : A → Type 0) (Q : B → Type 0) (f : A → B) → ((x : A) → P x → Q (f x)) → (xs : List A) → Each P xs → Each Q (map f xs)
each_map P Q f h [] k = tt
each_map P Q f h (x ∷ xs) k = (h x k.0, each_map P Q f h xs k.1)

each_turned : {A : Type 0} (P Q : A → Type 0) → ((x : A) → P x → Q x) → (xs : List A) → Each P xs → Each Q xs
each_turned P Q h [] k = tt
each_turned P Q h (x ∷ xs) k = (h x k.0, each_turned P Q h xs k.1)

pub each_zip : {A : Type 0} (P Q W : A → Type 0) → ((x : A) → P x → Q x → W x) → (xs : List A) → Each P xs → Each Q xs → Each W xs
each_zip P Q W h [] k l = tt
each_zip P Q W h (x ∷ xs) k l = (h x k.0 l.0, each_zip P Q W h xs k.1 l.1)

maps_alike : {A B : Type 0} (f g : A → B) (xs : List A) → map f xs ≡ map g xs → Each (λ x. f x ≡ g x) xs
maps_alike f g [] e = tt
maps_alike f g (x ∷ xs) e = let a : f x ≡ g x = cc in let b : map f xs ≡ map g xs = cc in (a, maps_alike f g xs b)

nth_some : {A B : Type 0} (f : A → B) (o : Option A) (y : B) (P : B → Type 0) → option_map f o ≡ Some y → ((x : A) → o ≡ Some x → P (f x)) → P y
nth_some f None y P e h = absurd (cc)
nth_some f (Some x) y P e h = let k : f x ≡ y = cc in subst P k (h x refl)

module _ (schemes : List ClockScheme) (cases : ℕ → Option ℕ) (d : Facts Note) (cs : Clocks) (scoped : IsScoped schemes d) (wells : Each IsWell schemes) (o : R.Obeys schemes cases d cs) where
  abbrev shrink : ClockTerm → ClockTerm
  shrink = Eq.shrink schemes cases d cs scoped

  abbrev N : Note → Note
  N = Eq.N schemes cases d cs scoped

  abbrev D : Facts Note
  D = Eq.D schemes cases d cs scoped

  abbrev C : Clocks
  C = Eq.C schemes cases d cs scoped

  clock_still : (t : ClockTerm) → IsClock t → IsClock (shrink t)
  clock_still t h = record { stands = Sh.stands_still (own d cs) t h.stands; small = let k = Sh.no_larger (own d cs) t in let l = h.small in omega (arith, k, l) }

  clock_of_still : (n : Note) → IsClockOf n.ty n.ck → IsClockOf n.ty (shrink n.ck)
  clock_of_still n h = record { form = Sh.fits_still (own d cs) n.ty n.ck h.form; small = let k = Sh.no_larger (own d cs) n.ck in let l = h.small in omega (arith, k, l) }

  node_obeys : (n : Layer Note × Place) → S.NodeScoped schemes d n → R.NodeObeys schemes cases d cs n → R.NodeObeys schemes cases D C (map_node N n)
  node_obeys n s h = record {
    clock = clock_of_still n.0.note h.clock;
    by = map shrink h.by;
    many = length-map h.by shrink ∙ h.many;
    clocks = each_map IsClock IsClock shrink clock_still h.by h.clocks;
    equal = Eq.node_equal schemes cases d cs scoped h.by (λ k s e. nth_each IsWell schemes k s wells e) n s h.equal;
  }

  nodes_obey : (ns : List (Layer Note × Place)) → Each (S.NodeScoped schemes d) ns → Each (R.NodeObeys schemes cases d cs) ns → Each (R.NodeObeys schemes cases D C) (map (map_node N) ns)
  nodes_obey [] s h = tt
  nodes_obey (n ∷ ns) s h = (node_obeys n s.0 h.0, nodes_obey ns s.1 h.1)

  within_still : (list : List InnerArm) (t : ClockTerm) → R.IsWithin schemes cases d cs list t → R.IsWithin schemes cases D C list (shrink t)
  within_still list t h = each_turned (λ m. starts_with list (R.name_list schemes cases d cs m) ≡ true) (λ m. starts_with list (R.name_list schemes cases D C m) ≡ true) (λ m p. p) (names_in (shrink t))
      (Sh.fewer_names (own d cs) (λ m. starts_with list (R.name_list schemes cases d cs m) ≡ true) t h)

  public_still : (t : ClockTerm) → R.IsPublic schemes cases d cs t → R.IsPublic schemes cases D C (shrink t)
  public_still t h = Sh.fewer_names (own d cs) (λ m. R.is_clock_parameter schemes cases d cs m ≡ true) t h

  param_still : (n : Note) → R.ParamObeys schemes cases d cs n → R.ParamObeys schemes cases D C (N n)
  param_still n h = record { clock = clock_of_still n h.clock; public = public_still n.ck h.public }

  var_at : (k : ℕ) → at C.vars k ≡ shrink (at cs.vars k)
  var_at k = Eq.at_shrunk schemes cases d cs scoped cs.vars k

  block_at : (k : ℕ) → at C.blocks k ≡ shrink (at cs.blocks k)
  block_at k = Eq.at_shrunk schemes cases d cs scoped cs.blocks k

  var_still : (x : ℕ) (v : Variable) → R.VarObeys schemes cases d cs x v → R.VarObeys schemes cases D C x v
  var_still x v h = record {
    clock = subst IsClock (sym (var_at x)) (clock_still (at cs.vars x) h.clock);
    within = subst (R.IsWithin schemes cases D C v.list) (sym (var_at x)) (within_still v.list (at cs.vars x) h.within);
  }

  block_still : (j : ℕ) (n : Named) → R.BlockObeys schemes cases d cs j n → R.BlockObeys schemes cases D C j n
  block_still j n h = record {
    clock = subst IsClock (sym (block_at j)) (clock_still (at cs.blocks j) h.clock);
    arm = subst (λ z. size z < limit) (sym (block_at j)) (let k = Sh.no_larger (own d cs) (at cs.blocks j) in let l = h.arm in omega (arith, k, l));
    within = subst (R.IsWithin schemes cases D C (R.name_place schemes cases D C n)) (sym (block_at j)) (within_still (R.name_place schemes cases d cs n) (at cs.blocks j) h.within);
  }

  below_still : (i : ℕ) (n : Note) → nth (map N d.notes) i ≡ Some n → R.Below schemes cases D C o.conditions.acyclic.rank i n
  below_still i n e = nth_some N (nth d.notes i) n (R.Below schemes cases D C o.conditions.acyclic.rank i) (sym (Eq.nth_map N d.notes i) ∙ e)
      (λ m f c. Sh.fewer_names (own d cs) (λ k. o.conditions.acyclic.rank k < o.conditions.acyclic.rank i) m.ck (o.conditions.acyclic.below i m f c))

  pub obeys : R.Obeys schemes cases D C
  obeys = record {
    nodes = nodes_obey d.nodes scoped.nodes o.nodes;
    equal = Eq.equations_equal schemes cases d cs scoped o.equal;
    conditions = record {
      many_vars = length-map cs.vars shrink ∙ o.conditions.many_vars;
      many_blocks = length-map cs.blocks shrink ∙ o.conditions.many_blocks;
      vars = λ x v e. var_still x v (o.conditions.vars x v e);
      blocks = λ j n e. block_still j n (o.conditions.blocks j n e);
      params = each_map (R.ParamObeys schemes cases d cs) (R.ParamObeys schemes cases D C) N param_still d.notes o.conditions.params;
      result = public_still d.result.ck o.conditions.result;
      acyclic = record { rank = o.conditions.acyclic.rank; below = below_still };
    };
  }

module _ (schemes : List ClockScheme) (cases : ℕ → Option ℕ) (params : List Pat) (marks : List Mark) (types : List TypeNote) (tree : BodyOf TypeNote) (notes : List Note) (body : BodyOf Note)
    (wells : Each IsWell schemes) (scoped : IsScoped schemes (facts_of schemes cases params marks notes body)) (p : IsPrincipal schemes cases params marks types tree notes body) where
  abbrev d0 : Facts Note
  d0 = facts_of schemes cases params marks notes body

  abbrev N0 : Note → Note
  N0 = Eq.N schemes cases d0 p.clocks scoped

  abbrev C0 : Clocks
  C0 = Eq.C schemes cases d0 p.clocks scoped

  abbrev notes1 : List Note
  notes1 = map N0 notes

  abbrev body1 : BodyOf Note
  body1 = T.in_body Note Note N0 body

  facts_put : (f : Note → Note) → ((n : Note) → is_function (f n).ty ≡ is_function n.ty) → ((n : Note) → is_signal (f n).ty ≡ is_signal n.ty)
      → facts_of schemes cases params marks (map f notes) (T.in_body Note Note f body) ≡ map_facts f d0
  facts_put f a s = facts_in Note Note f (λ n. is_function n.ty) (λ n. is_function n.ty) a cases (λ n. is_signal n.ty) (λ n. is_signal n.ty) s params marks notes body

  erased : (ns : List Note) → map erase (map N0 ns) ≡ map erase ns
  erased [] = refl
  erased (n ∷ ns) = ap (λ z. erase n ∷ z) (erased ns)

  nodes_put : Each (λ (n : Layer Note × Place). Unrestarted n.0.note) d0.nodes → Each (λ (n : Layer Note × Place). Unrestarted n.0.note) (facts_of schemes cases params marks notes1 body1).nodes
  nodes_put h = subst (λ (z : Facts Note). Each (λ (n : Layer Note × Place). Unrestarted n.0.note) z.nodes) (sym (facts_put N0 (λ n. refl) (λ n. refl)))
      (each_map (λ (n : Layer Note × Place). Unrestarted n.0.note) (λ (n : Layer Note × Place). Unrestarted n.0.note) (map_node N0) (λ n e. e) d0.nodes h)

  unrestarted : Each Unrestarted (notes ++ notes_body Note body) → Each Unrestarted (notes1 ++ notes_body Note body1)
  unrestarted h = all_both Unrestarted notes1 (notes_body Note body1)
      (each_map Unrestarted Unrestarted N0 (λ n e. e) notes (all_left Unrestarted notes (notes_body Note body) h))
      (notes_of_nodes Note (λ n. is_function n.ty) Unrestarted (length params) cases (λ e. is_signal e.note.ty) body1
      (nodes_put (nodes_of_notes Note (λ n. is_function n.ty) Unrestarted (length params) cases (λ e. is_signal e.note.ty) body (all_right Unrestarted notes (notes_body Note body) h))))

  annotates : Annotates schemes cases params marks types tree notes1 body1
  annotates = record {
    of_types = erased notes ∙ p.annotates.of_types;
    of_tree = Tw.body_twice Note Note TypeNote N0 erase body ∙ p.annotates.of_tree;
    unrestarted = unrestarted p.annotates.unrestarted;
  }

  made : IsInstance schemes cases params marks notes body p.clocks notes1 body1 C0
  made = p.general notes1 body1 C0 annotates
      (subst (λ z. R.Obeys schemes cases z C0) (sym (facts_put N0 (λ n. refl) (λ n. refl))) (obeys schemes cases d0 p.clocks scoped wells p.obeys))

  well : (t : ClockTerm) → apply made.by t ≡ Eq.shrink schemes cases d0 p.clocks scoped t → IsWellFormed (own d0 p.clocks) t
  well t e = Sh.well_formed (own d0 p.clocks) t (subst (λ z. size t ≤ size z) e (size_up made.by t))

  all_well : (ts : List ClockTerm) → map (apply made.by) ts ≡ map (Eq.shrink schemes cases d0 p.clocks scoped) ts → Each (IsWellFormed (own d0 p.clocks)) ts
  all_well ts e = each_turned (λ t. apply made.by t ≡ Eq.shrink schemes cases d0 p.clocks scoped t) (IsWellFormed (own d0 p.clocks)) well ts (maps_alike (apply made.by) (Eq.shrink schemes cases d0 p.clocks scoped) ts e)

  notes_well : Each (λ (n : Note). IsWellFormed (own d0 p.clocks) n.ck) notes
  notes_well = each_turned (λ (n : Note). in_note made.by n ≡ N0 n) (λ (n : Note). IsWellFormed (own d0 p.clocks) n.ck) (λ n e. well n.ck (ap (λ (z : Note). z.ck) e)) notes
      (maps_alike (in_note made.by) N0 notes made.of_notes)

  nodes_alike : map (map_node (in_note made.by)) d0.nodes ≡ map (map_node N0) d0.nodes
  nodes_alike = ap (λ (z : Facts Note). z.nodes)
      (sym (facts_put (in_note made.by) (λ n. refl) (λ n. refl)) ∙ ap₂ (facts_of schemes cases params marks) made.of_notes made.of_body ∙ facts_put N0 (λ n. refl) (λ n. refl))

  nodes_well : Each (λ (n : Layer Note × Place). IsWellFormed (own d0 p.clocks) n.0.note.ck) d0.nodes
  nodes_well = each_turned (λ (n : Layer Note × Place). map_node (in_note made.by) n ≡ map_node N0 n) (λ (n : Layer Note × Place). IsWellFormed (own d0 p.clocks) n.0.note.ck)
      (λ n e. well n.0.note.ck (ap (λ (z : Layer Note × Place). z.0.note.ck) e)) d0.nodes (maps_alike (map_node (in_note made.by)) (map_node N0) d0.nodes nodes_alike)

  pub are_well_formed : AreWellFormed (own d0 p.clocks) notes body p.clocks
  are_well_formed = record {
    notes = notes_well;
    body = notes_of_nodes Note (λ n. is_function n.ty) (λ (n : Note). IsWellFormed (own d0 p.clocks) n.ck) (length params) cases (λ e. is_signal e.note.ty) body nodes_well;
    vars = all_well p.clocks.vars (ap (λ (z : Clocks). z.vars) made.of_clocks);
    blocks = all_well p.clocks.blocks (ap (λ (z : Clocks). z.blocks) made.of_clocks);
  }

  -- the clock of the result, as it stands in the tree
  pub result_well : IsWellFormed (own d0 p.clocks) body.result.note.ck
  result_well = well body.result.note.ck
      (ap (λ (n : Note). n.ck) (sym (note_in Note Note (in_note made.by) (λ n. is_function n.ty) (λ n. is_function n.ty) (λ n. refl) body.result))
      ∙ ap (λ (b : BodyOf Note). b.result.note.ck) made.of_body
      ∙ ap (λ (n : Note). n.ck) (note_in Note Note N0 (λ n. is_function n.ty) (λ n. is_function n.ty) (λ n. refl) body.result))
