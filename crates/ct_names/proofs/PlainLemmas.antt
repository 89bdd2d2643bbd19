-- The name of a sort that was declared without parameters.
use Rattle.std.proofs.Common.{◌≡◌, ℕ, zero, suc, ◌+◌, Bool, true, false, cond, List, [], ◌∷◌, ◌++◌, map, slice_get, position, option_map, Option, Some, None, MatchOption, IfSome, Ok, refl, sym, ◌∙◌, ap}
use Rattle.std.specs.List.{position_from}
use Rattle.std.specs.Option.{option_and_then, option_or}
use Rattle.std.specs.Str.{bytes_eq}
use Rattle.std.proofs.lemmas.Iterator.Adapters.{position_from-zero}
use Rattle.std.proofs.lemmas.Option.{none-some, same_Some}
use Rattle.std.proofs.lemmas.Slice.Eq.{bytes_eq-Decides}
use Rattle.ct_lemmas.proofs.Lists.{slice_get-append_left, slice_get-map_at}
use Rattle.ct_generics.specs.Declarations.{Declared, Head, Synonym}
use Rattle.ct_generics.specs.Expression.{named}
use Rattle.ct_generics.specs.Resolved.{Meaning, a_head, head_number, named_synonym, meaning, with_meaning}
use Rattle.ct_sexpr.specs.Atom.{Atom}
use Rattle.ct_sexpr.specs.Expression.{Expression as Sexpr, leaf, list}
use Rattle.ct_sexpr.specs.Readable.{name_of_atom}
use Rattle.ct_sorts.specs.declared.ids.SortId.{SortId}
use Rattle.ct_sorts.specs.Consistent.{IsConsistent}
use Rattle.ct_sorts.specs.Declarations.{Declarations, start}
use Rattle.ct_sorts.specs.Lookup.{NamesSort}
use Rattle.ct_names.specs.Elaboration.{part_of}
use Rattle.ct_names.specs.Parts.{name_of}
use Rattle.ct_names.specs.Sorts.{lone_sort, name_in, written_sort, sort_of}
use Rattle.ct_names.proofs.AddLemmas.{there_is, sort_of_is}
use Rattle.ct_names.proofs.FoundLemmas.{position_passes}

-- the name that a part is
pub name_part : (d : Declarations) (x : Sexpr) → name_of (part_of d x) ≡ name_in x
name_part d (leaf a) = refl
name_part d (list es) = refl

pub name_at : (x : Sexpr) (o : Option (List ℕ)) → name_of (part_of start x) ≡ o → name_in x ≡ o
name_at x o is = sym (name_part start x) ∙ is

-- where it is an atom
pub name_of_leaf : (x : Sexpr) (a : Atom) (o : Option (List ℕ)) → x ≡ leaf a → name_of (part_of start x) ≡ o → name_of_atom a ≡ o
name_of_leaf x a o e is = ap name_in (sym e) ∙ name_at x o is

-- something passes a test
some_from : {X : Type 0} (test : X → Bool) (xs : List X) (i n : ℕ) (x : X) → slice_get xs n ≡ Some x → test x ≡ true → (k : ℕ) × (position_from test i xs ≡ Some k)
some_from test [] i n x at passes = absurd (none-some x at)
some_from test (y ∷ xs) i zero x at passes = (i, ap (λ (b : Bool). cond b (Some i) (position_from test (i + 1) xs)) (ap test (same_Some y x at) ∙ passes))
some_from {X} test (y ∷ xs) i (suc n) x at passes = by (test y) (some_from test xs (i + 1) n x at passes)
  where
    by : (b : Bool) → ((k : ℕ) × (position_from test (i + 1) xs ≡ Some k)) → (k : ℕ) × (cond b (Some i) (position_from test (i + 1) xs) ≡ Some k)
    by true rest = (i, refl)
    by false rest = rest

-- the number of a name
head_number_is : (d : Declarations) → IsConsistent d → (h : ℕ) (head : Head) (name : List ℕ) → slice_get d.declared.heads h ≡ Some head → head.name ≡ name → head_number d.declared.heads name ≡ Some h
head_number_is d c h head name at is =
    let heads = d.declared.heads in
    let test : Head → Bool = λ (x : Head). bytes_eq name x.name in
    let some = some_from test heads 0 h head at ((bytes_eq-Decides name head.name).1 (sym is)) in
    let found : position test heads ≡ Some some.0 = position_from-zero test heads ∙ some.1 in
    let first = position_passes test heads some.0 found in
    let own : (k : ℕ) (x : Head) → slice_get heads k ≡ Some x → x.name ≡ name → slice_get (map (λ (y : Head). y.name) heads ++ map (λ (s : Synonym). s.name) d.declared.synonyms) k ≡ Some name =
    λ k x at_k named_k. slice_get-append_left (map (λ (y : Head). y.name) heads) (map (λ (s : Synonym). s.name) d.declared.synonyms) k name (slice_get-map_at (λ (y : Head). y.name) heads k x at_k ∙ ap Some named_k) in
    found ∙ ap Some (c.names_distinct some.0 h name (own some.0 first.0 first.1 (sym ((bytes_eq-Decides name first.0.name).0 first.2))) (own h head at is))

-- what it stands for
head_meaning : (d : Declared) (h : ℕ) (head : Head) (name : List ℕ) → head_number d.heads name ≡ Some h → slice_get d.heads h ≡ Some head → meaning d name ≡ Some (a_head h head.params)
head_meaning d h head name number at =
    ap (λ (o : Option ℕ). option_or (option_and_then (λ (k : ℕ). option_map (λ (x : Head). a_head k x.params) (slice_get d.heads k)) o) (named_synonym d.synonyms name)) number
    ∙ ap (λ (o : Option Head). option_or (option_map (λ (x : Head). a_head h x.params) o) (named_synonym d.synonyms name)) at

written_plain : (d : Declared) (x : Sexpr) (name : List ℕ) (h : ℕ) → name_in x ≡ Some name → meaning d name ≡ Some (a_head h 0) → written_sort d [] x ≡ Ok (named h)
written_plain d (leaf a) name h is at = ap (lone_sort d []) is ∙ ap (λ (m : Option Meaning). with_meaning m []) at
written_plain d (list es) name h is at = absurd (none-some name is)

-- the sort of this name is what an expression writes that is the name
pub plain_is : (d : Declarations) → IsConsistent d → (x : Sexpr) (name : List ℕ) (s : SortId) → name_of (part_of d x) ≡ Some name → NamesSort d name s → sort_of d x ≡ Ok s
plain_is d c x name s is names =
    let h = names.0 in
    let head = names.1 in
    let params : head.params ≡ 0 = same_Some head.params 0 (sym (ap (option_map (λ (y : Head). y.params)) names.3) ∙ c.origins.sorts s.0 (named h) names.2) in
    let at = head_meaning d.declared h head name (head_number_is d c h head name names.3 names.4) names.3 in
    sort_of_is d x (named h) (written_plain d.declared x name h (sym (name_part d x) ∙ is) (at ∙ ap (λ (p : ℕ). Some (a_head h p)) params)) ∙ there_is d c (named h) s names.2

pub named_some : (d : Declarations) → IsConsistent d → (x : Sexpr) (name : List ℕ) → name_of (part_of d x) ≡ Some name → (o : Option SortId) → MatchOption o ((s : SortId) → NamesSort d name s → ⊥) (NamesSort d name) → IfSome o (λ s. sort_of d x ≡ Ok s)
named_some d c x name is None h = tt
named_some d c x name is (Some s) h = plain_is d c x name s is h
