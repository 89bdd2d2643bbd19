-- Which expressions are the text of a sort: by its head, and by its arguments one for one.
use Rattle.std.proofs.Common.{◌≡◌, ℕ, zero, suc, ◌+◌, ◌-◌, ◌<◌, ◌≤◌, Bool, true, false, ◌&&◌, List, [], ◌∷◌, length, map, take, drop, get_or, Option, None, Some, option_map, unwrap_or, slice_get, refl, sym, ap, subst, ◌∙◌, arith}
use Rattle.std.specs.List.{All, AllZip}
use Rattle.std.proofs.lemmas.Option.{same_Some, slice_get_within}
use Rattle.ct_lemmas.proofs.Pairs.{AllZip-at_left}
use Rattle.ct_lemmas.proofs.Lists.{slice_get-map_source}
use Rattle.ct_generics.specs.Expression.{Expression as Sort, named, head_of, args_of}
use Rattle.ct_generics.specs.Declarations.{Head}
use Rattle.ct_sorts.specs.declared.ids.GenId.{GenId}
use Rattle.ct_sorts.specs.declared.ids.SortId.{SortId}
use Rattle.ct_sorts.specs.Consistent.{IsConsistent}
use Rattle.ct_sorts.specs.Declarations.{Declarations, Sort as Declared, IsSort, sort_names}
use Rattle.ct_sorts.specs.Instances.{IsOrigin}
use Rattle.ct_sorts.specs.Lookup.{IsPlainSort, IsGenericHead}
use Rattle.ct_sorts.specs.SortText.{head_name, name_of_head}
use Rattle.ct_sorts.proofs.MadeAtLemmas.{sort_is_made}
use Rattle.ct_instances.specs.Among.{origin_of}
use Rattle.ct_instances.proofs.CtorNameLemmas.{origin_at}
use Rattle.ct_sexpr.specs.declared.sexpr.Sexpr.{Sexpr}
use Rattle.ct_sexpr.specs.Expression.{Expression, Expressions, more}
use Rattle.ct_sexpr.specs.View.{expression_of, expressions_of}
use Rattle.ct_readback.specs.Words.{is_named}
use Rattle.ct_readback.specs.SortText.{says, says_items, says_each, says_head}
use Rattle.ct_readback.proofs.RestLemmas.{rest_at, rest_none, drop_at, drop_none}

-- ---- arguments

-- the sorts with these numbers are these
pub arguments_are : (d : Declarations) (args : List SortId) (sorts : List Sort) → AllZip (IsOrigin d) args sorts → map (origin_of d) args ≡ sorts
arguments_are d [] [] h = refl
arguments_are d [] (e ∷ sorts) h = absurd h
arguments_are d (a ∷ args) [] h = absurd h
arguments_are d (a ∷ args) (e ∷ sorts) h =
    ap (λ (o : Option Sort). unwrap_or o (named 0) ∷ map (origin_of d) args) h.0 ∙ ap (λ (es : List Sort). e ∷ es) (arguments_are d args sorts h.1)

pub arguments_inside : (d : Declarations) → IsConsistent d → (args : List SortId) (sorts : List Sort) → AllZip (IsOrigin d) args sorts → (i : ℕ) (t : SortId) → slice_get args i ≡ Some t → IsSort d t
arguments_inside d consistent args sorts h i t at =
    let found = AllZip-at_left (IsOrigin d) args sorts i t h at in
    omega (arith, slice_get_within d.origins t.0 found.0 found.2, consistent.origins.one_each)

-- ---- heads

first_of : {X : Type 0} (xs : List X) (x : X) → take 1 xs ≡ x ∷ [] → slice_get xs 0 ≡ Some x
first_of [] x h = absurd (omega (arith, ap length h))
first_of (y ∷ xs) x h = ap (λ (zs : List _). slice_get zs 0) h

bool_named : (d : Declarations) → IsConsistent d → (h : ℕ) (sort : Declared) → slice_get d.origins 0 ≡ Some (named h) → slice_get d.sorts 0 ≡ Some sort → sort.name ≡ head_name d.declared.heads h
bool_named d consistent h sort origin at =
    let first = first_of d.origins (named 0) consistent.first_origin in
    let number : h ≡ 0 = same_Some h 0 (ap head_of (same_Some (named h) (named 0) (sym origin ∙ first))) in
    let declared = first_of d.sorts _ consistent.first_sort in
    let head = first_of d.declared.heads _ consistent.first_head in
    ap (λ (s : Declared). s.name) (same_Some sort _ (sym at ∙ declared)) ∙ sym (ap name_of_head head) ∙ ap (head_name d.declared.heads) (sym number)

named_by : (d : Declarations) → IsConsistent d → (i h : ℕ) (sort : Declared) → slice_get d.origins i ≡ Some (named h) → slice_get d.sorts i ≡ Some sort → sort.name ≡ head_name d.declared.heads h
named_by d consistent zero h sort origin at = bool_named d consistent h sort origin at
named_by d consistent (suc i) h sort origin at =
    let one : suc i ≡ 1 + i = omega arith in
    let made = sort_is_made d consistent.origins i (named h) (ap (slice_get d.origins) (sym one) ∙ origin) in
    ap (λ (s : Declared). s.name) (same_Some sort made.0 (sym at ∙ ap (slice_get d.sorts) one ∙ made.1)) ∙ made.3

by_origin : (d : Declarations) (s : SortId) (e : Sort) → IsOrigin d s e → origin_of d s ≡ e
by_origin d s e h = ap (λ (o : Option Sort). unwrap_or o (named 0)) h

-- the name of a sort without parameters is that of its head
pub plain_head : (d : Declarations) → IsConsistent d → (s : SortId) → IsPlainSort d s → (name : List ℕ) (e : Expression) → slice_get (sort_names d) s.0 ≡ Some name → is_named name e ≡ says_head d.declared.heads (head_of (origin_of d s)) e
plain_head d consistent s plain name e at =
    let sort = slice_get-map_source (λ (x : Declared). x.name) d.sorts s.0 name at in
    let same : name ≡ head_name d.declared.heads plain.0 = sym sort.2 ∙ named_by d consistent s.0 plain.0 sort.0 plain.1 sort.1 in
    ap (λ n. is_named n e) same ∙ ap (λ (o : Sort). says_head d.declared.heads (head_of o) e) (sym (by_origin d s (named plain.0) plain.1))

-- and that of an instance the name of its generic
pub generic_head : (d : Declarations) (s : SortId) (g : GenId) (head : Head) → head_of (origin_of d s) ≡ Some g.0 → IsGenericHead d g head → (name : List ℕ) (e : Expression) → name ≡ head.name → is_named name e ≡ says_head d.declared.heads (head_of (origin_of d s)) e
generic_head d s g head top is name e same =
    ap (λ n. is_named n e) (same ∙ sym (ap name_of_head is.0)) ∙ ap (λ (o : Option ℕ). says_head d.declared.heads o e) (sym top)

-- ---- items

and_false : (b : Bool) → false ≡ (b && false)
and_false true = refl
and_false false = refl

and_right : (b c : Bool) → false ≡ c → false ≡ (b && c)
and_right true c h = h
and_right false c h = refl

pub short_items : (heads : List Head) (s : Sort) (items : List Sexpr) → length items < 2 → false ≡ says_items heads s (expressions_of items)
short_items heads s [] h = refl
short_items heads s (x ∷ []) h = and_false (says_head heads (head_of s) (expression_of x))
short_items heads s (x ∷ (y ∷ items)) h = absurd (omega (arith, h))

-- the name before the arguments
pub some_items : (heads : List Head) (s : Sort) (items : List Sexpr) (head : Sexpr) → 2 ≤ length items → head ≡ get_or items 0 head
    → (says_head heads (head_of s) (expression_of head) && says_each heads (args_of s) (expressions_of (take (length items - 1) (drop 1 items)))) ≡ says_items heads s (expressions_of items)
some_items heads s [] head h is = absurd (omega (arith, h))
some_items heads s (x ∷ []) head h is = absurd (omega (arith, h))
some_items heads s (x ∷ (y ∷ items)) head h is =
    ap (λ (z : Sexpr). says_head heads (head_of s) (expression_of z) && says_each heads (args_of s) (expressions_of (take (length (x ∷ (y ∷ items)) - 1) (y ∷ items)))) is
    ∙ ap (λ (rest : List Sexpr). says_head heads (head_of s) (expression_of x) && says_each heads (args_of s) (expressions_of rest)) (take_rest x (y ∷ items))
  where
    take_whole : (xs : List Sexpr) → take (length xs) xs ≡ xs
    take_whole [] = refl
    take_whole (z ∷ xs) = ap (λ (rest : List Sexpr). z ∷ rest) (take_whole xs)

    take_rest : (z : Sexpr) (xs : List Sexpr) → take (length (z ∷ xs) - 1) xs ≡ xs
    take_rest z xs = let n : length (z ∷ xs) - 1 ≡ length xs = omega arith in ap (λ k. take k xs) n ∙ take_whole xs

-- ---- one for one

pub each_uncounted : (heads : List Head) (sorts : List Sort) (items : List Sexpr) → (length sorts ≡ length items → ⊥) → false ≡ says_each heads sorts (expressions_of items)
each_uncounted heads [] [] never = absurd (never refl)
each_uncounted heads [] (x ∷ items) never = refl
each_uncounted heads (s ∷ sorts) [] never = refl
each_uncounted heads (s ∷ sorts) (x ∷ items) never = and_right (says heads s (expression_of x)) (says_each heads sorts (expressions_of items)) (each_uncounted heads sorts items (λ same. never (ap suc same)))

-- from an index on: the first of them, and those after it
pub each_from : (d : Declarations) (heads : List Head) (sorts : List SortId) (items : List Sexpr) (i : ℕ) (s : SortId) (x : Sexpr) → i < length items → slice_get sorts i ≡ Some s → x ≡ get_or items i x
    → says_each heads (map (origin_of d) (drop i sorts)) (expressions_of (drop i items)) ≡ (says heads (origin_of d s) (expression_of x) && says_each heads (map (origin_of d) (drop (suc i) sorts)) (expressions_of (drop (suc i) items)))
each_from d heads sorts items i s x within at is =
    ap (λ (es : Expressions). says_each heads (map (origin_of d) (drop i sorts)) es) (rest_at items i x within is)
    ∙ ap (λ (ss : List SortId). says_each heads (map (origin_of d) ss) (more (expression_of x) (expressions_of (drop (suc i) items)))) (drop_at sorts i s at)

pub each_said : (d : Declarations) (heads : List Head) (sorts : List SortId) (items : List Sexpr) (i : ℕ) (s : SortId) (x : Sexpr) → i < length items → slice_get sorts i ≡ Some s → x ≡ get_or items i x → says heads (origin_of d s) (expression_of x) ≡ true
    → says_each heads (map (origin_of d) (drop (i + 1) sorts)) (expressions_of (drop (i + 1) items)) ≡ says_each heads (map (origin_of d) (drop i sorts)) (expressions_of (drop i items))
each_said d heads sorts items i s x within at is said =
    let next : i + 1 ≡ suc i = omega arith in
    ap (λ k. says_each heads (map (origin_of d) (drop k sorts)) (expressions_of (drop k items))) next
    ∙ sym (each_from d heads sorts items i s x within at is ∙ ap (λ (b : Bool). b && says_each heads (map (origin_of d) (drop (suc i) sorts)) (expressions_of (drop (suc i) items))) said)

pub each_unsaid : (d : Declarations) (heads : List Head) (sorts : List SortId) (items : List Sexpr) (i : ℕ) (s : SortId) (x : Sexpr) → i < length items → slice_get sorts i ≡ Some s → x ≡ get_or items i x → says heads (origin_of d s) (expression_of x) ≡ false
    → false ≡ says_each heads (map (origin_of d) (drop i sorts)) (expressions_of (drop i items))
each_unsaid d heads sorts items i s x within at is unsaid =
    sym (each_from d heads sorts items i s x within at is ∙ ap (λ (b : Bool). b && says_each heads (map (origin_of d) (drop (suc i) sorts)) (expressions_of (drop (suc i) items))) unsaid)

pub each_done : (d : Declarations) (heads : List Head) (sorts : List SortId) (items : List Sexpr) (i : ℕ) → length sorts ≡ length items → length items ≤ i → says_each heads (map (origin_of d) (drop i sorts)) (expressions_of (drop i items)) ≡ true
each_done d heads sorts items i same past =
    let long : length sorts ≤ i = omega (arith, same, past) in
    ap (λ (ss : List SortId). says_each heads (map (origin_of d) ss) (expressions_of (drop i items))) (drop_none sorts i long)
    ∙ ap (λ (es : Expressions). says_each heads [] es) (rest_none items i past)
