-- Sort expressions matched by their heads and their arguments.
use Rattle.std.proofs.Common.{◌≡◌, ℕ, zero, suc, ◌+◌, ◌<◌, ◌≤◌, ◌==◌, Bool, true, false, nat_eq, if◌then◌else◌, List, [], ◌∷◌, ◌++◌, length, reverse, drop, map, replicate, slice_set, option_map, unwrap_or, Option, Some, None, MatchOption, Result, Ok, Err, IfOk, OnOk, Vec, Global, All, IfSome, slice_get, refl, sym, ◌∙◌, ap, ap₂, subst, ⊎_elim, arith, length-append}
use Rattle.std.specs.Prelude.{⊤}
use Rattle.std.specs.List.{AllZip}
use Rattle.std.specs.Option.{option_and_then}
use Rattle.std.proofs.lemmas.Bool.{true≢false}
use Rattle.std.proofs.lemmas.Bool.Decides.{Decides-eqb}
use Rattle.std.proofs.lemmas.Option.{none-some, same_Some, slice_get_within}
use Rattle.std.proofs.lemmas.List.{append-nil}
use Rattle.ct_lemmas.proofs.Booleans.{not_true}
use Rattle.ct_lemmas.proofs.Each.{All-at, All-from_slice_get}
use Rattle.ct_lemmas.proofs.Lists.{slice_get-map_at, slice_get-push_cases}
use Rattle.ct_lemmas.proofs.Pairs.{AllZip-at_left, AllZip-one_length}
use Rattle.ct_generics.specs.Declarations.{Head, Takes, IsExpression}
use Rattle.ct_generics.specs.Denoted.{expression_at}
use Rattle.ct_generics.specs.Expression.{Expression, parameter, named, applied, head_of, args_of}
use Rattle.ct_generics.specs.Nodes.{Stands, StandFor}
use Rattle.ct_generics.specs.declared.nodes.ExprId.{ExprId}
use Rattle.ct_generics.specs.declared.nodes.Node.{Node}
use Rattle.ct_generics.specs.declared.nodes.Node.TheVariants.{Param, Head as HeadNode, Apply}
use Rattle.ct_sorts.specs.declared.ids.SortId.{SortId}
use Rattle.ct_sorts.specs.declared.ids.GenId.{GenId}
use Rattle.ct_sorts.specs.Applied.{TakesAll}
use Rattle.ct_sorts.specs.Consistent.{IsConsistent}
use Rattle.ct_sorts.specs.Declarations.{Declarations, IsSort}
use Rattle.ct_sorts.specs.Instances.{IsOrigin}
use Rattle.ct_sorts.specs.Lookup.{IsGenericHead}
use Rattle.ct_sorts.specs.Same.{is_same}
use Rattle.ct_sorts.proofs.SameLemmas.{is_same-decides}
use Rattle.ct_instances.specs.Among.{origin_of, is_head}
use Rattle.ct_instances.specs.Matching.{Assignment, assign, matched_parameter, matched, all_matched, sorts_for}
use Rattle.ct_instances.specs.Pairs.{HoldSorts, assigned, HasMatched, pair_matched, pairs_matched, ArePairs, side_by_side, size, weight, IsParted, GoesOn, parameter_in}
use Rattle.ct_instances.specs.declared.matching.Matching.{Matching}
use Rattle.ct_instances.specs.Fields.{IsMatched, generic_params}
use Rattle.ct_instances.specs.Left.{fields_left, assignment_of, NextFits}
use Rattle.ct_instances.proofs.InstanceLemmas.{origin_there, origin_is}

-- nothing comes of nothing
after_none : {X Y : Type 0} (f : X → Option Y) (o : Option X) → o ≡ None → option_and_then f o ≡ None
after_none f o e = ap (option_and_then f) e

-- lists that are not as long as each other
longer : {X : Type 0} (xs : List X) (x : X) → 0 ≡ length (xs ++ x ∷ []) → ⊥
longer xs x e = absurd (omega (arith, e, length-append xs (x ∷ [])))

shorter : {X : Type 0} (xs : List X) (x : X) → length (xs ++ x ∷ []) ≡ 0 → ⊥
shorter xs x e = absurd (omega (arith, e, length-append xs (x ∷ [])))

one_less : {X Y : Type 0} (xs : List X) (x : X) (ys : List Y) (y : Y) → length (xs ++ x ∷ []) ≡ length (ys ++ y ∷ []) → length xs ≡ length ys
one_less xs x ys y e = omega (arith, e, length-append xs (x ∷ []), length-append ys (y ∷ []))

one_more : {X Y : Type 0} (xs : List X) (x : X) (ys : List Y) (y : Y) → length xs ≡ length ys → length (xs ++ x ∷ []) ≡ length (ys ++ y ∷ [])
one_more xs x ys y e = omega (arith, e, length-append xs (x ∷ []), length-append ys (y ∷ []))

-- one field more at the end
all_matched-push : (es os : List Expression) (a b : Expression) (m : Assignment) → length es ≡ length os → all_matched (es ++ a ∷ []) (os ++ b ∷ []) m ≡ option_and_then (matched a b) (all_matched es os m)
all_matched-push [] [] a b m e = by (matched a b m)
  where
    by : (found : Option Assignment) → option_and_then (all_matched [] []) found ≡ found
    by None = refl
    by (Some n) = refl
all_matched-push [] (o ∷ os) a b m e = absurd (omega (arith, e))
all_matched-push (x ∷ es) [] a b m e = absurd (omega (arith, e))
all_matched-push (x ∷ es) (o ∷ os) a b m e = by (matched x o m) (λ n. all_matched-push es os a b n (omega (arith, e)))
  where
    by : (found : Option Assignment) → ((n : Assignment) → all_matched (es ++ a ∷ []) (os ++ b ∷ []) n ≡ option_and_then (matched a b) (all_matched es os n)) → option_and_then (all_matched (es ++ a ∷ []) (os ++ b ∷ [])) found ≡ option_and_then (matched a b) (option_and_then (all_matched es os) found)
    by None rest = refl
    by (Some n) rest = rest n

-- where the heads are one and there are as many arguments, these are matched in order
pub by_arguments : (e o : Expression) (h : ℕ) (m : Assignment) → head_of e ≡ Some h → head_of o ≡ Some h → length (args_of e) ≡ length (args_of o) → matched e o m ≡ all_matched (args_of e) (args_of o) m
by_arguments (parameter i) o h m he ho long = absurd (none-some h he)
by_arguments (named g) (parameter j) h m he ho long = absurd (none-some h ho)
by_arguments (named g) (named k) h m he ho long =
    let same : g ≡ k = same_Some g h he ∙ sym (same_Some k h ho) in
    ap (λ (b : Bool). if b then Some m else None) ((Decides-eqb g k).1 same)
by_arguments (named g) (applied p b) h m he ho long = absurd (longer (args_of p) b long)
by_arguments (applied f a) (parameter j) h m he ho long = absurd (none-some h ho)
by_arguments (applied f a) (named k) h m he ho long = absurd (shorter (args_of f) a long)
by_arguments (applied f a) (applied p b) h m he ho long =
    let less = one_less (args_of f) a (args_of p) b long in
    ap (option_and_then (matched a b)) (by_arguments f p h m he ho less) ∙ sym (all_matched-push (args_of f) (args_of p) a b m less)

-- else they do not match
pub other_heads : (e o : Expression) (h k : ℕ) (m : Assignment) → head_of e ≡ Some h → head_of o ≡ Some k → (h ≡ k → ⊥) → matched e o m ≡ None
other_heads (parameter i) o h k m he ho differ = absurd (none-some h he)
other_heads (named g) (parameter j) h k m he ho differ = refl
other_heads (named g) (named l) h k m he ho differ = by (g == l) refl
  where
    by : (b : Bool) → (g == l) ≡ b → (if b then Some m else None) ≡ None
    by true e = absurd (differ (sym (same_Some g h he) ∙ (Decides-eqb g l).0 e ∙ same_Some l k ho))
    by false e = refl
other_heads (named g) (applied p b) h k m he ho differ = refl
other_heads (applied f a) (parameter j) h k m he ho differ = refl
other_heads (applied f a) (named l) h k m he ho differ = refl
other_heads (applied f a) (applied p b) h k m he ho differ = after_none (matched a b) (matched f p m) (other_heads f p h k m he ho differ)

pub other_lengths : (e o : Expression) (h : ℕ) (m : Assignment) → head_of e ≡ Some h → (length (args_of e) ≡ length (args_of o) → ⊥) → matched e o m ≡ None
other_lengths (parameter i) o h m he differ = absurd (none-some h he)
other_lengths (named g) (parameter j) h m he differ = refl
other_lengths (named g) (named l) h m he differ = absurd (differ refl)
other_lengths (named g) (applied p b) h m he differ = refl
other_lengths (applied f a) (parameter j) h m he differ = refl
other_lengths (applied f a) (named l) h m he differ = refl
other_lengths (applied f a) (applied p b) h m he differ = after_none (matched a b) (matched f p m) (other_lengths f p h m he (λ e. differ (one_more (args_of f) a (args_of p) b e)))

-- an expression over parameters without a head is a parameter
pub headless : (heads : List Head) (params more : ℕ) (e : Expression) → Takes heads params more e → head_of e ≡ None → (more ≡ 0) × (i : ℕ) × (e ≡ parameter i)
headless heads params more (parameter i) takes none = (takes.0, i, refl)
headless heads params more (named h) takes none = absurd (none-some h (sym none))
headless heads params more (applied f a) takes none = absurd (omega (arith, (headless heads params (suc more) f takes.0 none).0))

-- the arguments are over the parameters, and smaller
abbrev sizes : List Expression → ℕ
sizes [] = 0
sizes (e ∷ es) = size e + sizes es

sizes-push : (es : List Expression) (e : Expression) → sizes (es ++ e ∷ []) ≡ sizes es + size e
sizes-push [] e = omega arith
sizes-push (x ∷ es) e = omega (arith, sizes-push es e)

size-args : (e : Expression) → size e ≡ 1 + sizes (args_of e)
size-args (parameter i) = refl
size-args (named h) = refl
size-args (applied f a) = omega (arith, size-args f, sizes-push (args_of f) a)

abbrev AllTake : List Head → ℕ → List Expression → Type 0
AllTake heads params [] = Unit {0}
AllTake heads params (e ∷ es) = IsExpression heads params e × AllTake heads params es

AllTake-push : (heads : List Head) (params : ℕ) (es : List Expression) (e : Expression) → AllTake heads params es → IsExpression heads params e → AllTake heads params (es ++ e ∷ [])
AllTake-push heads params [] e all last = (last, tt)
AllTake-push heads params (x ∷ es) e all last = (all.0, AllTake-push heads params es e all.1 last)

args_take : (heads : List Head) (params more : ℕ) (e : Expression) → Takes heads params more e → AllTake heads params (args_of e)
args_take heads params more (parameter i) takes = tt
args_take heads params more (named h) takes = tt
args_take heads params more (applied f a) takes = AllTake-push heads params (args_of f) a (args_take heads params (suc more) f takes.0) takes.1

module _ (d : Declarations) (nodes : List Node) (denote : (id : ExprId) (e : Expression) → Stands nodes id.0 e → expression_at nodes id ≡ e) where
  -- arguments side by side
  side_matched : (ids : List ExprId) (es : List Expression) (sorts : List SortId) (os : List Expression) (m : Assignment) → StandFor nodes ids es → AllZip (IsOrigin d) sorts os → length ids ≡ length sorts → pairs_matched d nodes (side_by_side ids sorts) m ≡ all_matched es os m
  side_matched [] [] [] [] m stand are long = refl
  side_matched [] [] [] (o ∷ os) m stand are long = absurd are
  side_matched [] [] (s ∷ sorts) os m stand are long = absurd (omega (arith, long))
  side_matched [] (e ∷ es) sorts os m stand are long = absurd stand
  side_matched (id ∷ ids) [] sorts os m stand are long = absurd stand
  side_matched (id ∷ ids) (e ∷ es) [] os m stand are long = absurd (omega (arith, long))
  side_matched (id ∷ ids) (e ∷ es) (s ∷ sorts) [] m stand are long = absurd are
  side_matched (id ∷ ids) (e ∷ es) (s ∷ sorts) (o ∷ os) m stand are long =
      ap₂ (λ (x y : Expression). option_and_then (pairs_matched d nodes (side_by_side ids sorts)) (matched x y m)) (denote id e stand.0) (ap (λ (x : Option Expression). unwrap_or x (named 0)) are.0) ∙ by (matched e o m) (λ n. side_matched ids es sorts os n stand.1 are.1 (omega (arith, long)))
    where
      by : (found : Option Assignment) → ((n : Assignment) → pairs_matched d nodes (side_by_side ids sorts) n ≡ all_matched es os n) → option_and_then (pairs_matched d nodes (side_by_side ids sorts)) found ≡ option_and_then (all_matched es os) found
      by None rest = refl
      by (Some n) rest = rest n

  side_weight : (ids : List ExprId) (es : List Expression) (sorts : List SortId) → StandFor nodes ids es → length ids ≡ length sorts → weight nodes (side_by_side ids sorts) ≡ sizes es
  side_weight [] [] sorts stand long = refl
  side_weight [] (e ∷ es) sorts stand long = absurd stand
  side_weight (id ∷ ids) [] sorts stand long = absurd stand
  side_weight (id ∷ ids) (e ∷ es) [] stand long = absurd (omega (arith, long))
  side_weight (id ∷ ids) (e ∷ es) (s ∷ sorts) stand long = ap₂ (λ (x y : ℕ). x + y) (ap size (denote id e stand.0)) (side_weight ids es sorts stand.1 (omega (arith, long)))

  side_pairs : (params : ℕ) (ids : List ExprId) (es : List Expression) (sorts : List SortId) → StandFor nodes ids es → AllTake d.declared.heads params es → ((i : ℕ) (s : SortId) → slice_get sorts i ≡ Some s → IsSort d s) → ArePairs d nodes params (side_by_side ids sorts)
  side_pairs params [] es sorts stand take sorted = tt
  side_pairs params (id ∷ ids) [] sorts stand take sorted = absurd stand
  side_pairs params (id ∷ ids) (e ∷ es) [] stand take sorted = tt
  side_pairs params (id ∷ ids) (e ∷ es) (s ∷ sorts) stand take sorted = (((e, stand.0, take.0), sorted 0 s refl), side_pairs params ids es sorts stand.1 take.1 (λ i t at. sorted (suc i) t at))

  -- an expression with a head beside a sort with the same head and as many arguments
  pub record AreParts (params : ℕ) (id : ExprId) (s : SortId) (parts : List (ExprId × SortId)) : Type 0 where
    pub pairs : ArePairs d nodes params parts
    pub less : weight nodes parts < size (expression_at nodes id)
    pub matched_are : (m : Assignment) → pair_matched d nodes id s m ≡ pairs_matched d nodes parts m

  pub parts_are : (params : ℕ) (id : ExprId) (s : SortId) (e o : Expression) (h : ℕ) (ids : List ExprId) (sorts : List SortId) → Stands nodes id.0 e → IsExpression d.declared.heads params e → origin_of d s ≡ o → head_of e ≡ Some h → head_of o ≡ Some h → StandFor nodes ids (args_of e) → AllZip (IsOrigin d) sorts (args_of o) → length (args_of e) ≡ length (args_of o) → length ids ≡ length sorts → ((i : ℕ) (t : SortId) → slice_get sorts i ≡ Some t → IsSort d t) → AreParts params id s (side_by_side ids sorts)
  parts_are params id s e o h ids sorts stands is at he ho stand are same long sorted =
      record {
        pairs = side_pairs params ids (args_of e) sorts stand (args_take d.declared.heads params 0 e is) sorted;
        less = omega (arith, side_weight ids (args_of e) sorts stand long, size-args e, ap size (denote id e stands));
        matched_are = λ m. ap₂ (λ (x y : Expression). matched x y m) (denote id e stands) at ∙ by_arguments e o h m he ho same ∙ sym (side_matched ids (args_of e) sorts (args_of o) m stand are long);
      }

-- ---- pairs on a stack

pub pairs_matched-append : (d : Declarations) (nodes : List Node) (ps qs : List (ExprId × SortId)) (m : Assignment) → pairs_matched d nodes (ps ++ qs) m ≡ option_and_then (pairs_matched d nodes qs) (pairs_matched d nodes ps m)
pairs_matched-append d nodes [] qs m = refl
pairs_matched-append d nodes (p ∷ ps) qs m = by (pair_matched d nodes p.0 p.1 m) (λ n. pairs_matched-append d nodes ps qs n)
  where
    by : (found : Option Assignment) → ((n : Assignment) → pairs_matched d nodes (ps ++ qs) n ≡ option_and_then (pairs_matched d nodes qs) (pairs_matched d nodes ps n)) → option_and_then (pairs_matched d nodes (ps ++ qs)) found ≡ option_and_then (pairs_matched d nodes qs) (option_and_then (pairs_matched d nodes ps) found)
    by None rest = refl
    by (Some n) rest = rest n

pub ArePairs-append : (d : Declarations) (nodes : List Node) (params : ℕ) (ps qs : List (ExprId × SortId)) → ArePairs d nodes params ps → ArePairs d nodes params qs → ArePairs d nodes params (ps ++ qs)
ArePairs-append d nodes params [] qs first second = second
ArePairs-append d nodes params (p ∷ ps) qs first second = (first.0, ArePairs-append d nodes params ps qs first.1 second)

pub weight-append : (nodes : List Node) (ps qs : List (ExprId × SortId)) → weight nodes (ps ++ qs) ≡ weight nodes ps + weight nodes qs
weight-append nodes [] qs = omega arith
weight-append nodes (p ∷ ps) qs = omega (arith, weight-append nodes ps qs)

-- ---- parameters

module _ (d : Declarations) (consistent : IsConsistent d) where
  -- sorts with different numbers are different
  one_origin : (r s : SortId) → IsSort d r → IsSort d s → origin_of d r ≡ origin_of d s → r.0 ≡ s.0
  one_origin r s is_r is_s same =
      let at_r = origin_there d consistent r.0 is_r in
      let at_s = origin_there d consistent s.0 is_s in
      consistent.origins.different r.0 s.0 at_s.0 (at_r.1 ∙ ap (λ (e : Expression). Some e) (sym (origin_is d consistent r at_r.0 at_r.1) ∙ same ∙ origin_is d consistent s at_s.0 at_s.1)) at_s.1

  pub param_met : (items : List (Option SortId)) (i : ℕ) (first sort : SortId) → IsSort d first → IsSort d sort → slice_get items i ≡ Some (Some first) → HasMatched (matched (parameter i) (origin_of d sort) (assigned d items)) (assigned d items) (nat_eq first.0 sort.0)
  param_met items i first sort is_first is at =
      subst (λ (o : Option (Option Expression)). HasMatched (matched_parameter i (origin_of d sort) (assigned d items) o) (assigned d items) (nat_eq first.0 sort.0)) (sym (slice_get-map_at (option_map (origin_of d)) items i (Some first) at)) (by (nat_eq first.0 sort.0) refl)
    where
      by : (b : Bool) → nat_eq first.0 sort.0 ≡ b → HasMatched (if is_same (origin_of d first) (origin_of d sort) then Some (assigned d items) else None) (assigned d items) b
      by true e = ap (λ (t : Bool). if t then Some (assigned d items) else None) ((is_same-decides (origin_of d first) (origin_of d sort)).1 (ap (λ (n : ℕ). unwrap_or (slice_get d.origins n) (named 0)) ((Decides-eqb first.0 sort.0).0 e)))
      by false e = ap (λ (t : Bool). if t then Some (assigned d items) else None) (not_true (is_same (origin_of d first) (origin_of d sort)) (λ same. true≢false (sym ((Decides-eqb first.0 sort.0).1 (one_origin first sort is_first is ((is_same-decides (origin_of d first) (origin_of d sort)).0 same))) ∙ e)))

-- a parameter that was not matched yet
assign_is : (d : Declarations) (items : List (Option SortId)) (i : ℕ) (sort : SortId) → assign i (origin_of d sort) (assigned d items) ≡ assigned d (slice_set items i (Some sort))
assign_is d [] zero sort = refl
assign_is d [] (suc i) sort = refl
assign_is d (x ∷ items) zero sort = refl
assign_is d (x ∷ items) (suc i) sort = ap (λ (m : Assignment). option_map (origin_of d) x ∷ m) (assign_is d items i sort)

pub param_new : (d : Declarations) (items : List (Option SortId)) (i : ℕ) (sort : SortId) → slice_get items i ≡ Some None → matched (parameter i) (origin_of d sort) (assigned d items) ≡ Some (assigned d (slice_set items i (Some sort)))
param_new d items i sort at =
    ap (matched_parameter i (origin_of d sort) (assigned d items)) (slice_get-map_at (option_map (origin_of d)) items i None at) ∙ ap (λ (m : Assignment). Some m) (assign_is d items i sort)

-- what a parameter was matched with is a sort
pub held_at : (d : Declarations) (items : List (Option SortId)) (i : ℕ) (first : SortId) → HoldSorts d items → slice_get items i ≡ Some (Some first) → IsSort d first
held_at d items i first hold at = All-at (λ (s : Option SortId). IfSome s (IsSort d)) items i (Some first) hold at

-- ---- sorts for which parameters stand

pub for_more : (d : Declarations) (o : Option (List Expression)) (all : List SortId) (s : SortId) (left : List (Option SortId)) → o ≡ option_map (λ (es : List Expression). map (origin_of d) all ++ es) (sorts_for (assigned d (Some s ∷ left))) → o ≡ option_map (λ (es : List Expression). map (origin_of d) (all ++ s ∷ []) ++ es) (sorts_for (assigned d left))
for_more d o all s left e = e ∙ by (sorts_for (assigned d left))
  where
    pushed : (xs : List SortId) (es : List Expression) → map (origin_of d) xs ++ origin_of d s ∷ es ≡ map (origin_of d) (xs ++ s ∷ []) ++ es
    pushed [] es = refl
    pushed (x ∷ xs) es = ap (λ (ys : List Expression). origin_of d x ∷ ys) (pushed xs es)

    by : (r : Option (List Expression)) → option_map (λ (es : List Expression). map (origin_of d) all ++ es) (option_map (λ (es : List Expression). origin_of d s ∷ es) r) ≡ option_map (λ (es : List Expression). map (origin_of d) (all ++ s ∷ []) ++ es) r
    by None = refl
    by (Some es) = ap (λ (ys : List Expression). Some ys) (pushed all es)

pub for_all : (d : Declarations) (o : Option (List Expression)) (all : List SortId) → o ≡ option_map (λ (es : List Expression). map (origin_of d) all ++ es) (Some []) → o ≡ Some (map (origin_of d) all)
for_all d o all e = e ∙ ap (λ (es : List Expression). Some es) (append-nil (map (origin_of d) all))

-- ---- an expression with a head, beside a sort

module _ (d : Declarations) (consistent : IsConsistent d) (nodes : List Node) (denote : (id : ExprId) (e : Expression) → Stands nodes id.0 e → expression_at nodes id ≡ e) (params : ℕ) (id : ExprId) (e : Expression) (stands : Stands nodes id.0 e) (is : IsExpression d.declared.heads params e) (none_is : (i : ℕ) → e ≡ parameter i → ⊥) (s : SortId) (sort : IsSort d s) (g : ℕ) (head : (o : Expression) → IsOrigin d s o → head_of o ≡ Some g) where
  -- it has a head
  headed : (o : Option ℕ) → head_of e ≡ o → (h : ℕ) × (head_of e ≡ Some h)
  headed None at = let p = headless d.declared.heads params 0 e is at in absurd (none_is p.1 p.2)
  headed (Some h) at = (h, at)

  pub other_head : (top : Option ℕ) → top ≡ head_of e → is_head g top ≡ false → (m : Assignment) → pair_matched d nodes id s m ≡ None
  other_head top at test m =
      let h = headed (head_of e) refl in
      let o = origin_there d consistent s.0 sort in
      let differ : h.0 ≡ g → ⊥ = λ same. true≢false (sym ((Decides-eqb g h.0).1 (sym same)) ∙ ap (is_head g) (sym (at ∙ h.1)) ∙ test) in
      ap₂ (λ (x y : Expression). matched x y m) (denote id e stands) (origin_is d consistent s o.0 o.1) ∙ other_heads e o.0 h.0 g m h.1 (head o.0 o.1) differ

  pub other_length : (ids : List ExprId) (sorts : List SortId) → StandFor nodes ids (args_of e) → ((o : Expression) → IsOrigin d s o → AllZip (IsOrigin d) sorts (args_of o)) → (length ids ≡ length sorts → ⊥) → (m : Assignment) → pair_matched d nodes id s m ≡ None
  other_length ids sorts stand are differ m =
      let h = headed (head_of e) refl in
      let o = origin_there d consistent s.0 sort in
      let long = AllZip-one_length (λ (k : ExprId) (x : Expression). Stands nodes k.0 x) ids (args_of e) stand in
      let many = AllZip-one_length (IsOrigin d) sorts (args_of o.0) (are o.0 o.1) in
      ap₂ (λ (x y : Expression). matched x y m) (denote id e stands) (origin_is d consistent s o.0 o.1) ∙ other_lengths e o.0 h.0 m h.1 (λ same. differ (long ∙ same ∙ sym many))

  pub same_head : (top : Option ℕ) (ids : List ExprId) (sorts : List SortId) → top ≡ head_of e → is_head g top ≡ true → StandFor nodes ids (args_of e) → ((o : Expression) → IsOrigin d s o → AllZip (IsOrigin d) sorts (args_of o)) → length ids ≡ length sorts → AreParts d nodes denote params id s (side_by_side ids sorts)
  same_head top ids sorts at test stand are same =
      let h = headed (head_of e) refl in
      let o = origin_there d consistent s.0 sort in
      let long = AllZip-one_length (λ (k : ExprId) (x : Expression). Stands nodes k.0 x) ids (args_of e) stand in
      let many = AllZip-one_length (IsOrigin d) sorts (args_of o.0) (are o.0 o.1) in
      let number : g ≡ h.0 = (Decides-eqb g h.0).0 (ap (is_head g) (sym (at ∙ h.1)) ∙ test) in
      parts_are d nodes denote params id s e o.0 h.0 ids sorts stands is (origin_is d consistent s o.0 o.1) h.1 (head o.0 o.1 ∙ ap (λ (n : ℕ). Some n) number) stand (are o.0 o.1) (sym long ∙ same ∙ many) same
      (λ i t at_t. let found = AllZip-at_left (IsOrigin d) sorts (args_of o.0) i t (are o.0 o.1) at_t in omega (arith, slice_get_within d.origins t.0 found.0 found.2, consistent.origins.one_each))

-- ---- the next pair

pub goes_on-parts : (d : Declarations) (nodes : List Node) (old new parts : List (ExprId × SortId)) (found : Option Assignment) (m : Assignment) → new ≡ parts ++ old → found ≡ pairs_matched d nodes parts m → option_and_then (pairs_matched d nodes old) found ≡ pairs_matched d nodes new m
goes_on-parts d nodes old new parts found m is e =
    ap (option_and_then (pairs_matched d nodes old)) e ∙ sym (pairs_matched-append d nodes parts old m) ∙ ap (λ (ps : List (ExprId × SortId)). pairs_matched d nodes ps m) (sym is)

-- in place of a parameter that is matched nothing comes
pub goes_on-parameter : (d : Declarations) (nodes : List Node) (id : ExprId) (s : SortId) (stack : List (ExprId × SortId)) (before after : Assignment) (b : Bool) → HasMatched (pair_matched d nodes id s before) after b → GoesOn d nodes id s stack stack before after b
goes_on-parameter d nodes id s stack before after true e = ap (option_and_then (pairs_matched d nodes (reverse stack))) e
goes_on-parameter d nodes id s stack before after false e = e

size-some : (e : Expression) → 0 < size e
size-some e = omega (arith, size-args e)

-- what is said of an expression with a head, as its caller needs it
pub record HasParted {E : Type 0} (d : Declarations) (nodes : List Node) (params : ℕ) (id : ExprId) (s : SortId) (old new : List (ExprId × SortId)) (m : Assignment) (r : Result Bool E) : Type 0 where
  pub goes_on : IfOk r (GoesOn d nodes id s old new m m)
  pub pairs : OnOk r (ArePairs d nodes params (reverse new))
  pub less : OnOk r (weight nodes (reverse new) < size (expression_at nodes id) + weight nodes (reverse old))

pub has_parted : {E : Type 0} (d : Declarations) (nodes : List Node) (params : ℕ) (id : ExprId) (s : SortId) (old new : List (ExprId × SortId)) (m : Assignment) (r : Result Bool E) → ArePairs d nodes params (reverse old) → IfOk r (IsParted d nodes params id s old new) → HasParted d nodes params id s old new m r
has_parted d nodes params id s old new m (Err e) are h = record { goes_on = tt; pairs = tt; less = tt }
has_parted d nodes params id s old new m (Ok false) are h =
    record {
      goes_on = h.1 m;
      pairs = subst (λ (ps : List (ExprId × SortId)). ArePairs d nodes params (reverse ps)) (sym h.0) are;
      less = subst (λ (ps : List (ExprId × SortId)). weight nodes (reverse ps) < size (expression_at nodes id) + weight nodes (reverse old)) (sym h.0) (omega (arith, size-some (expression_at nodes id)));
    }
has_parted d nodes params id s old new m (Ok true) are h =
    record {
      goes_on = goes_on-parts d nodes (reverse old) (reverse new) h.0 (pair_matched d nodes id s m) m h.1 (h.4 m);
      pairs = subst (ArePairs d nodes params) (sym h.1) (ArePairs-append d nodes params h.0 (reverse old) h.2 are);
      less = omega (arith, h.3, ap (weight nodes) h.1, weight-append nodes h.0 (reverse old));
    }

-- ---- nodes

pub stands_within : (nodes : List Node) (n : ℕ) (e : Expression) → Stands nodes n e → n < length nodes
stands_within nodes n (parameter i) stands = slice_get_within nodes n (Param i) stands
stands_within nodes n (named h) stands = slice_get_within nodes n (HeadNode (record { 0 = h })) stands
stands_within nodes n (applied e a) stands = slice_get_within nodes n (Apply stands.0 stands.1) stands.2

node_is : (node : Node) (i : ℕ) → parameter_in node ≡ Some i → node ≡ Param i
node_is (Param j) i e = ap Param (same_Some j i e)
node_is (HeadNode h) i e = absurd (none-some i e)
node_is (Apply m k) i e = absurd (none-some i e)

-- a parameter's node stands for the parameter
pub parameter_stands : (nodes : List Node) (n i : ℕ) (e : Expression) (node : Node) → Stands nodes n e → slice_get nodes n ≡ Some node → parameter_in node ≡ Some i → e ≡ parameter i
parameter_stands nodes n i (parameter j) node stands at is =
    let same : Param j ≡ Param i = same_Some (Param j) (Param i) (sym stands ∙ at ∙ ap (λ (x : Node). Some x) (node_is node i is)) in
    ap parameter (same_Some j i (ap parameter_in same))
parameter_stands nodes n i (named h) node stands at is =
    let same : HeadNode (record { 0 = h }) ≡ Param i = same_Some (HeadNode (record { 0 = h })) (Param i) (sym stands ∙ at ∙ ap (λ (x : Node). Some x) (node_is node i is)) in
    absurd (none-some i (ap parameter_in same))
parameter_stands nodes n i (applied e a) node stands at is =
    let same : Apply stands.0 stands.1 ≡ Param i = same_Some (Apply stands.0 stands.1) (Param i) (sym stands.2 ∙ at ∙ ap (λ (x : Node). Some x) (node_is node i is)) in
    absurd (none-some i (ap parameter_in same))

-- another node stands for no parameter
pub no_parameter : (nodes : List Node) (n : ℕ) (e : Expression) (node : Node) → Stands nodes n e → slice_get nodes n ≡ Some node → parameter_in node ≡ None → (i : ℕ) → e ≡ parameter i → ⊥
no_parameter nodes n e node stands at is i same =
    let stood : slice_get nodes n ≡ Some (Param i) = subst (Stands nodes n) same stands in
    let one : node ≡ Param i = same_Some node (Param i) (sym at ∙ stood) in
    none-some i (sym is ∙ ap parameter_in one)

-- ---- the next field

-- what the field stands for, in the row
pub row_item : (nodes : List Node) (ids : List ExprId) (row : List Expression) (i : ℕ) (id : ExprId) → StandFor nodes ids row → slice_get ids i ≡ Some id → (e : Expression) × (slice_get row i ≡ Some e) × Stands nodes id.0 e
row_item nodes ids row i id stand at = AllZip-at_left (λ (k : ExprId) (x : Expression). Stands nodes k.0 x) ids row i id stand at

pub drop_at : {X : Type 0} (xs : List X) (i : ℕ) (x : X) → slice_get xs i ≡ Some x → drop i xs ≡ x ∷ drop (i + 1) xs
drop_at [] i x at = absurd (none-some x at)
drop_at (y ∷ xs) zero x at = ap (λ z. z ∷ xs) (same_Some y x at)
drop_at (y ∷ xs) (suc i) x at = let s : suc i + 1 ≡ suc (i + 1) = omega arith in rw s (drop_at xs i x at)

pub drop_past : {X : Type 0} (xs : List X) (i : ℕ) → length xs ≤ i → drop i xs ≡ []
drop_past [] zero past = refl
drop_past [] (suc i) past = refl
drop_past (x ∷ xs) zero past = absurd (omega (arith, past))
drop_past (x ∷ xs) (suc i) past = drop_past xs i (omega (arith, past))

past_end : {X : Type 0} (xs : List X) (i : ℕ) → slice_get xs i ≡ None → length xs ≤ i
past_end [] i e = omega arith
past_end (x ∷ xs) zero e = absurd (none-some x (sym e))
past_end (x ∷ xs) (suc i) e = omega (arith, past_end xs i e)

-- where there is no field, none is left
pub none_left : (nodes : List Node) (ids : List ExprId) (row : List Expression) (i : ℕ) → StandFor nodes ids row → slice_get ids i ≡ None → (field : Expression) (rest : List Expression) → drop i row ≡ field ∷ rest → ⊥
none_left nodes ids row i stand e field rest left =
    let long = AllZip-one_length (λ (k : ExprId) (x : Expression). Stands nodes k.0 x) ids row stand in
    let none_is = drop_past row i (omega (arith, long, past_end ids i e)) in
    absurd (omega (arith, ap (λ (xs : List Expression). length xs) (sym none_is ∙ left)))

same_first : (a b : Expression) (xs ys : List Expression) → a ∷ xs ≡ b ∷ ys → a ≡ b
same_first a b xs ys e = cc

pub next_fits : (d : Declarations) (before after : Matching) (s : SortId) (e : Expression) (b : Bool) → fields_left d before ≡ e ∷ fields_left d after → HasMatched (matched e (origin_of d s) (assignment_of d before)) (assignment_of d after) b → NextFits d before s after b
next_fits d before after s e true left h = (e, left, h)
next_fits d before after s e false left h = λ field rest other. ap (λ (x : Expression). matched x (origin_of d s) (assignment_of d before)) (same_first field e rest (fields_left d after) (sym other ∙ left)) ∙ h

-- ---- sorts for which parameters stand, place by place

pub for_none : (d : Declarations) (o : Option (List Expression)) (all : List SortId) (items : List (Option SortId)) (i : ℕ) → slice_get items i ≡ Some None → o ≡ option_map (λ (es : List Expression). map (origin_of d) all ++ es) (sorts_for (assigned d (drop i items))) → o ≡ None
for_none d o all items i at e = e ∙ ap (λ (xs : List (Option SortId)). option_map (λ (es : List Expression). map (origin_of d) all ++ es) (sorts_for (assigned d xs))) (drop_at items i None at)

pub for_next : (d : Declarations) (o : Option (List Expression)) (all : List SortId) (items : List (Option SortId)) (i : ℕ) (s : SortId) → slice_get items i ≡ Some (Some s) → o ≡ option_map (λ (es : List Expression). map (origin_of d) all ++ es) (sorts_for (assigned d (drop i items))) → o ≡ option_map (λ (es : List Expression). map (origin_of d) (all ++ s ∷ []) ++ es) (sorts_for (assigned d (drop (i + 1) items)))
for_next d o all items i s at e = for_more d o all s (drop (i + 1) items) (e ∙ ap (λ (xs : List (Option SortId)). option_map (λ (es : List Expression). map (origin_of d) all ++ es) (sorts_for (assigned d xs))) (drop_at items i (Some s) at))

pub for_end : (d : Declarations) (o : Option (List Expression)) (all : List SortId) (items : List (Option SortId)) (i : ℕ) → length items ≤ i → o ≡ option_map (λ (es : List Expression). map (origin_of d) all ++ es) (sorts_for (assigned d (drop i items))) → o ≡ Some (map (origin_of d) all)
for_end d o all items i past e = for_all d o all (e ∙ ap (λ (xs : List (Option SortId)). option_map (λ (es : List Expression). map (origin_of d) all ++ es) (sorts_for (assigned d xs))) (drop_past items i past))

pub All-more : {X : Type 0} (P : X → Type 0) (xs : List X) (x : X) → All P xs → P x → All P (xs ++ x ∷ [])
All-more P xs x all last = All-from_slice_get P (xs ++ x ∷ []) (λ k y at. ⊎_elim (λ before. All-at P xs k y all before) (λ end. subst P end.1 last) (slice_get-push_cases xs x y k at))

-- no parameter was matched
pub assigned_none : (d : Declarations) (n : ℕ) → assigned d (replicate n None) ≡ replicate n None
assigned_none d zero = refl
assigned_none d (suc n) = ap (λ (m : Assignment). None ∷ m) (assigned_none d n)

-- ---- the whole

pub is_matched : (d : Declarations) (whole : Option Assignment) (m : Assignment) (found : Option (Vec SortId Global)) → whole ≡ Some m → MatchOption found (sorts_for m ≡ None) (λ sorts. sorts_for m ≡ Some (map (origin_of d) sorts.items)) → IsMatched d whole found
is_matched d whole m None e h = ap (option_and_then sorts_for) e ∙ h
is_matched d whole m (Some sorts) e h = ap (option_and_then sorts_for) e ∙ h

-- as many sorts as the generic has parameters
pub takes_found : (d : Declarations) (g : GenId) (head : Head) → IsGenericHead d g head → (m : Matching) → m.g ≡ g → length m.sorts.items ≡ generic_params d m.g → (found : Option (Vec SortId Global)) → MatchOption found ⊤ (λ (sorts : Vec SortId Global). length sorts.items ≡ length m.sorts.items) → MatchOption found ⊤ (λ (sorts : Vec SortId Global). TakesAll d g sorts.items)
takes_found d g head at m same params None h = tt
takes_found d g head at m same params (Some sorts) h = (head, at, h ∙ params ∙ ap (generic_params d) same ∙ ap (λ (o : Option Head). unwrap_or (option_map (λ (x : Head). x.params) o) 0) at.0)
