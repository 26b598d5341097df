-- Arms, one by one, by the numbers of the equations in them.
use Rattle.std.specs.Prelude.{◌≡◌, ◌≢◌, refl, ℕ, zero, suc, ◌+◌, ◌-◌, ◌<◌, ◌==◌, ◌||◌, ◌&&◌, Bool, true, false, List, [], ◌∷◌, ◌++◌, length, map, drop, Option, Some, None, nat_lt, if◌then◌else◌}
use Rattle.std.proofs.Common.{ap, sym, subst, ◌∙◌, arith, append_assoc}
use Rattle.std.proofs.lemmas.List.{length-append}
use Rattle.ls_places.specs.Clocks.{any, or_else}
use Rattle.ls_places.specs.Patterns.{joined}
use Rattle.ls_places.specs.Places.{InnerArm, option_list}
use Rattle.ls_places.specs.Search.{count_up, is_empty, lacks, lacks_within, nth, outer_block, path_inside, paths_inside}
use Rattle.ls_places.specs.declared.definition.Definition.{Definition}
use Rattle.ls_places.specs.declared.places.Site.{Site}
use Rattle.place_tables.specs.Groups.{picked}
use Rattle.place_tables.specs.Lacks.{all_lengths, any_arm_lacks, any_ends, arm_at, block_of, count_arms, ends, first_block, if_inside, inside, next_arm, path, paths, site_ends, site_length, stands_in}
use Rattle.place_tables.proofs.Lists.{counted}

-- ---- one path

the_some : {A : Type 0} (x a : A) → Some x ≡ Some a → x ≡ a
the_some x a e = cc e

-- a path by its first arm
headed : {A : Type 0} (skip : ℕ) (all : List A) (a : A) → nth all skip ≡ Some a → drop skip all ≡ a ∷ drop (suc skip) all
headed zero [] a e = absurd (cc e)
headed zero (x ∷ xs) a e = ap (λ z. z ∷ xs) (the_some x a e)
headed (suc k) [] a e = absurd (cc e)
headed (suc k) (x ∷ xs) a e = headed k xs a e

ended : {A : Type 0} (skip : ℕ) (all : List A) → nth all skip ≡ None → drop skip all ≡ []
ended zero [] e = refl
ended zero (x ∷ xs) e = absurd (cc e)
ended (suc k) [] e = refl
ended (suc k) (x ∷ xs) e = ended k xs e

-- ---- no arm is left

none_less : (k : ℕ) → nat_lt 0 (suc k) ≡ true
none_less k = grind arith

not_less : (n : ℕ) → nat_lt (suc n) 1 ≡ false
not_less n = grind arith

less_suc : (a b : ℕ) → nat_lt (suc a) (suc b) ≡ nat_lt a b
less_suc a b = grind arith

empty_is : {A : Type 0} (skip : ℕ) (all : List A) → nat_lt (length all) (suc skip) ≡ is_empty (drop skip all)
empty_is zero [] = none_less 0
empty_is zero (x ∷ xs) = not_less (length xs)
empty_is (suc k) [] = none_less (suc k)
empty_is (suc k) (x ∷ xs) = less_suc (length xs) (suc k) ∙ empty_is k xs

any_empty_step : (sites : List Site) (skip : ℕ) (ks : List ℕ) (o : Option Site) → any_ends sites skip ks ≡ any (map is_empty (paths sites skip ks))
    → (site_ends skip o || any_ends sites skip ks) ≡ any (map is_empty (map (path skip) (option_list o ++ picked sites ks)))
any_empty_step sites skip ks None e = e
any_empty_step sites skip ks (Some s) e = ap (λ z. z || any_ends sites skip ks) (empty_is skip s.inner) ∙ ap (λ z. is_empty (drop skip s.inner) || z) e

pub any_empty_is : (sites : List Site) (skip : ℕ) (numbers : List ℕ) → any_ends sites skip numbers ≡ any (map is_empty (paths sites skip numbers))
any_empty_is sites skip [] = refl
any_empty_is sites skip (k ∷ ks) = any_empty_step sites skip ks (nth sites k) (any_empty_is sites skip ks)

-- ---- the first block, where each path has an arm

abbrev FirstBlock : List (List InnerArm) → Option ℕ → Type 0
FirstBlock paths None = paths ≡ []
FirstBlock paths (Some m) = (is_empty paths ≡ false) × (m ≡ outer_block paths)

by_arm : (skip : ℕ) (inner : List InnerArm) (rest : List (List InnerArm)) (o : Option InnerArm) (more : Option ℕ) → nth inner skip ≡ o
    → (nat_lt (length inner) (suc skip) ≡ false) → FirstBlock (drop skip inner ∷ rest) (or_else (block_of o) more)
by_arm skip inner rest None more e p = absurd (cc (sym p ∙ empty_is skip inner ∙ ap is_empty (ended skip inner e)))
by_arm skip inner rest (Some a) more e p = (refl, sym (ap (λ z. outer_block (z ∷ rest)) (headed skip inner a e)))

or_left : (a b : Bool) → (a || b) ≡ false → a ≡ false
or_left true b e = e
or_left false b e = refl

or_right : (a b : Bool) → (a || b) ≡ false → b ≡ false
or_right true b e = absurd (cc e)
or_right false b e = e

first_step : (sites : List Site) (skip : ℕ) (ks : List ℕ) (o : Option Site) → site_ends skip o ≡ false → FirstBlock (paths sites skip ks) (first_block sites skip ks)
    → FirstBlock (map (path skip) (option_list o ++ picked sites ks)) (or_else (block_of (next_arm skip o)) (first_block sites skip ks))
first_step sites skip ks None p e = e
first_step sites skip ks (Some s) p e = by_arm skip s.inner (paths sites skip ks) (nth s.inner skip) (first_block sites skip ks) refl p

first_block_is : (sites : List Site) (skip : ℕ) (numbers : List ℕ) → any_ends sites skip numbers ≡ false → FirstBlock (paths sites skip numbers) (first_block sites skip numbers)
first_block_is sites skip [] p = refl
first_block_is sites skip (k ∷ ks) p =
    first_step sites skip ks (nth sites k) (or_left (ends sites skip k) (any_ends sites skip ks) p) (first_block_is sites skip ks (or_right (ends sites skip k) (any_ends sites skip ks) p))

-- ---- the equations in an arm

and_if : (a b : Bool) → (a && b) ≡ (if a then b else false)
and_if true b = refl
and_if false b = refl

path_in : (m j : ℕ) (a : InnerArm) (p : List InnerArm) → path_inside (m, j) (a ∷ p) ≡ (if stands_in m j (Some a) then Some p else None)
path_in m j a p = ap (λ z. if z then Some p else None) (and_if (a.0 == m) (a.1 == j))

inside_site : (m j skip : ℕ) (inner : List InnerArm) (o : Option InnerArm) → nth inner skip ≡ o
    → path_inside (m, j) (drop skip inner) ≡ (if stands_in m j o then Some (drop (suc skip) inner) else None)
inside_site m j skip inner None e = ap (path_inside (m, j)) (ended skip inner e)
inside_site m j skip inner (Some a) e = ap (path_inside (m, j)) (headed skip inner a e) ∙ path_in m j a (drop (suc skip) inner)

picked_append : {A : Type 0} (all : List A) (xs ys : List ℕ) → picked all (xs ++ ys) ≡ picked all xs ++ picked all ys
picked_append all [] ys = refl
picked_append all (x ∷ xs) ys = ap (λ z. option_list (nth all x) ++ z) (picked_append all xs ys) ∙ sym (append_assoc (option_list (nth all x)) (picked all xs) (picked all ys))

map_append : {A B : Type 0} (f : A → B) (xs ys : List A) → map f (xs ++ ys) ≡ map f xs ++ map f ys
map_append f [] ys = refl
map_append f (x ∷ xs) ys = ap (λ z. f x ∷ z) (map_append f xs ys)

paths_append : (sites : List Site) (skip : ℕ) (xs ys : List ℕ) → paths sites skip (xs ++ ys) ≡ paths sites skip xs ++ paths sites skip ys
paths_append sites skip xs ys = ap (map (path skip)) (picked_append sites xs ys) ∙ map_append (path skip) (picked sites xs) (picked sites ys)

-- one equation, inside or not
one_inside : (sites : List Site) (skip k : ℕ) (o : Option Site) (t : Bool) → nth sites k ≡ o
    → paths sites (suc skip) (if t then k ∷ [] else []) ≡ map (path (suc skip)) (if t then option_list o else [])
one_inside sites skip k o true e = ap (λ z. map (path (suc skip)) (z ++ [])) (ap option_list e) ∙ no_more o
  where
    no_more : (o : Option Site) → map (path (suc skip)) (option_list o ++ []) ≡ map (path (suc skip)) (option_list o)
    no_more None = refl
    no_more (Some s) = refl
one_inside sites skip k o false e = refl

if_option : (t : Bool) (s : Site) (n : ℕ) → map (path n) (if t then s ∷ [] else []) ≡ option_list (if t then Some (path n s) else None)
if_option true s n = refl
if_option false s n = refl

nothing_in : (t : Bool) (n : ℕ) → map (path n) (if t then [] else []) ≡ []
nothing_in true n = refl
nothing_in false n = refl

inside_step : (sites : List Site) (m j skip k : ℕ) (rest : List (List InnerArm)) (more : List Site) (o : Option Site) → rest ≡ paths_inside (m, j) (map (path skip) more)
    → map (path (suc skip)) (if stands_in m j (next_arm skip o) then option_list o else []) ++ rest ≡ paths_inside (m, j) (map (path skip) (option_list o ++ more))
inside_step sites m j skip k rest more None e = ap (λ z. z ++ rest) (nothing_in (stands_in m j None) (suc skip)) ∙ e
inside_step sites m j skip k rest more (Some s) e =
    ap (λ z. z ++ rest) (if_option (stands_in m j (nth s.inner skip)) s (suc skip) ∙ sym (ap option_list (inside_site m j skip s.inner (nth s.inner skip) refl)))
    ∙ ap (λ z. option_list (path_inside (m, j) (drop skip s.inner)) ++ z) e

pub inside_is : (sites : List Site) (m j skip : ℕ) (numbers : List ℕ) → paths sites (suc skip) (inside sites m skip j numbers) ≡ paths_inside (m, j) (paths sites skip numbers)
inside_is sites m j skip [] = refl
inside_is sites m j skip (k ∷ ks) =
    paths_append sites (suc skip) (if_inside sites m skip j k) (inside sites m skip j ks)
    ∙ ap (λ z. z ++ paths sites (suc skip) (inside sites m skip j ks)) (one_inside sites skip k (nth sites k) (stands_in m j (arm_at sites skip k)) refl)
    ∙ inside_step sites m j skip k (paths sites (suc skip) (inside sites m skip j ks)) (picked sites ks) (nth sites k) (inside_is sites m j skip ks)

-- ---- the recursion

one_less : (i : ℕ) → suc i - 1 ≡ i
one_less i = omega arith

one_more : (i : ℕ) → i + 1 ≡ suc i
one_more i = omega arith

pub here : (d : Definition) (depth m skip : ℕ) (numbers inner : List ℕ) (j : ℕ) (b : Bool) → b ≡ lacks_within d depth (paths d.places.sites (skip + 1) inner)
    → inner ≡ inside d.places.sites m skip j numbers → b ≡ lacks_within d depth (paths_inside (m, j) (paths d.places.sites skip numbers))
here d depth m skip numbers inner j b is e =
    is ∙ ap (λ z. lacks_within d depth (paths d.places.sites z inner)) (one_more skip) ∙ ap (λ z. lacks_within d depth (paths d.places.sites (suc skip) z)) e
    ∙ ap (lacks_within d depth) (inside_is d.places.sites m j skip numbers)

pub next_lacks : (d : Definition) (depth m skip : ℕ) (numbers inner : List ℕ) (count j : ℕ) (b whole : Bool) → j < count
    → b ≡ lacks_within d depth (paths d.places.sites (skip + 1) inner) → b ≡ false → inner ≡ inside d.places.sites m skip j numbers
    → any_arm_lacks d depth m (paths d.places.sites skip numbers) (count_up (count - j) j) ≡ whole
    → any_arm_lacks d depth m (paths d.places.sites skip numbers) (count_up (count - (j + 1)) (j + 1)) ≡ whole
next_lacks d depth m skip numbers inner count j b whole below is none e so_far =
    let all = paths d.places.sites skip numbers in
    let rest = any_arm_lacks d depth m all (count_up (count - (j + 1)) (j + 1)) in
    ap (λ z. z || rest) (sym none ∙ here d depth m skip numbers inner j b is e) ∙ sym (ap (any_arm_lacks d depth m all) (counted count j below)) ∙ so_far

-- an arm that lacks an equation
pub found_lacking : (d : Definition) (depth m skip : ℕ) (numbers inner : List ℕ) (count j : ℕ) (b whole : Bool) → j < count
    → b ≡ lacks_within d depth (paths d.places.sites (skip + 1) inner) → b ≡ true → inner ≡ inside d.places.sites m skip j numbers
    → any_arm_lacks d depth m (paths d.places.sites skip numbers) (count_up (count - j) j) ≡ whole → true ≡ whole
found_lacking d depth m skip numbers inner count j b whole below is some e so_far =
    let all = paths d.places.sites skip numbers in
    let rest = any_arm_lacks d depth m all (count_up (count - (j + 1)) (j + 1)) in
    ap (λ z. z || rest) (sym some ∙ here d depth m skip numbers inner j b is e) ∙ sym (ap (any_arm_lacks d depth m all) (counted count j below)) ∙ so_far

lacks_some : (d : Definition) (depth m : ℕ) (paths : List (List InnerArm)) → any (map is_empty paths) ≡ false → (is_empty paths ≡ false) × (m ≡ outer_block paths)
    → any_arm_lacks d depth m paths (count_up (count_arms d m) 0) ≡ lacks_within d (suc depth) paths
lacks_some d depth m paths none p =
    ap (λ k. any_arm_lacks d depth k paths (count_up (count_arms d k) 0)) p.1
    ∙ sym (ap (λ z. if z then false else (is_empty paths || any_arm_lacks d depth (outer_block paths) paths (count_up (count_arms d (outer_block paths)) 0))) none
    ∙ ap (λ z. z || any_arm_lacks d depth (outer_block paths) paths (count_up (count_arms d (outer_block paths)) 0)) p.0)

-- a block is there
pub lacks_in : (d : Definition) (depth m skip : ℕ) (numbers : List ℕ) (b : Bool) (o : Option ℕ) → depth ≢ 0 → b ≡ any_ends d.places.sites skip numbers → b ≡ false
    → o ≡ first_block d.places.sites skip numbers → o ≡ Some m
    → any_arm_lacks d (depth - 1) m (paths d.places.sites skip numbers) (count_up (count_arms d m) 0) ≡ lacks_within d depth (paths d.places.sites skip numbers)
lacks_in d zero m skip numbers b o p is none block some = absurd (p refl)
lacks_in d (suc depth) m skip numbers b o p is none block some =
    let sites = d.places.sites in
    ap (λ k. any_arm_lacks d k m (paths sites skip numbers) (count_up (count_arms d m) 0)) (one_less depth)
    ∙ lacks_some d depth m (paths sites skip numbers) (sym (any_empty_is sites skip numbers) ∙ sym is ∙ none)
    (subst (FirstBlock (paths sites skip numbers)) (sym block ∙ some) (first_block_is sites skip numbers (sym is ∙ none)))

-- none is there
pub lacks_out : (d : Definition) (depth skip : ℕ) (numbers : List ℕ) (b : Bool) (o : Option ℕ) → depth ≢ 0 → b ≡ any_ends d.places.sites skip numbers → b ≡ false
    → o ≡ first_block d.places.sites skip numbers → o ≡ None → true ≡ lacks_within d depth (paths d.places.sites skip numbers)
lacks_out d zero skip numbers b o p is none block e = absurd (p refl)
lacks_out d (suc depth) skip numbers b o p is none block e =
    sym (ap (lacks_within d (suc depth)) (subst (FirstBlock (paths d.places.sites skip numbers)) (sym block ∙ e) (first_block_is d.places.sites skip numbers (sym is ∙ none))))

-- an equation is in no more arms
pub lacks_not : (d : Definition) (depth skip : ℕ) (numbers : List ℕ) (b : Bool) → depth ≢ 0 → b ≡ any_ends d.places.sites skip numbers → b ≡ true
    → false ≡ lacks_within d depth (paths d.places.sites skip numbers)
lacks_not d zero skip numbers b p is e = absurd (p refl)
lacks_not d (suc depth) skip numbers b p is e =
    let all = paths d.places.sites skip numbers in
    sym (ap (λ z. if z then false else (is_empty all || any_arm_lacks d depth (outer_block all) all (count_up (count_arms d (outer_block all)) 0))) (sym (any_empty_is d.places.sites skip numbers) ∙ sym is ∙ e))

-- ---- how many arms there are

lengths_step : (sites : List Site) (ks : List ℕ) (o : Option Site) → all_lengths sites ks ≡ length (joined (map (λ (s : Site). s.inner) (picked sites ks)))
    → site_length o + all_lengths sites ks ≡ length (joined (map (λ (s : Site). s.inner) (option_list o ++ picked sites ks)))
lengths_step sites ks None e = omega arith ∙ e
lengths_step sites ks (Some s) e = ap (λ z. length s.inner + z) e ∙ sym (length-append s.inner (joined (map (λ (s : Site). s.inner) (picked sites ks))))

lengths_are : (sites : List Site) (numbers : List ℕ) → all_lengths sites numbers ≡ length (joined (map (λ (s : Site). s.inner) (picked sites numbers)))
lengths_are sites [] = refl
lengths_are sites (k ∷ ks) = lengths_step sites ks (nth sites k) (lengths_are sites ks)

no_drop : {A : Type 0} (xs : List A) → drop 0 xs ≡ xs
no_drop xs = refl

-- from the outermost arms on
pub lacks_whole : (d : Definition) (numbers : List ℕ) (n : ℕ) → n ≡ all_lengths d.places.sites numbers
    → lacks_within d (n + 1) (paths d.places.sites 0 numbers) ≡ lacks d (picked d.places.sites numbers)
lacks_whole d numbers n e =
    ap (λ z. lacks_within d z (paths d.places.sites 0 numbers)) (one_more n ∙ ap suc (e ∙ lengths_are d.places.sites numbers))
