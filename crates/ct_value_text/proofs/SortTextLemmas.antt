-- The sorts that texts of values name: what they are, and that their texts can be read, also without bars.
use Rattle.std.proofs.Common.{◌≡◌, ◌↔◌, ℕ, ◌+◌, ◌<◌, ◌==◌, Bool, true, false, List, [], ◌∷◌, ◌++◌, Option, Some, option_map, unwrap_or, slice_get, length, take, get_or, codes, refl, sym, ap, ap₂, ◌∙◌, append_assoc, if◌then◌else◌}
use Rattle.std.specs.List.{list_all}
use Rattle.std.specs.Cmp.Derive.{both_true}
use Rattle.std.proofs.lemmas.List.{take_more}
use Rattle.std.proofs.lemmas.List.Folds.{list_all-append}
use Rattle.ct_lemmas.proofs.Booleans.{both_parts}
use Rattle.ct_sexpr.specs.Atom.{Atom}
use Rattle.ct_sexpr.specs.Token.{is_in_quoted_symbol}
use Rattle.ct_sexpr.specs.Expression.{Expression as Sexpr, Expressions as Sexprs, list, none, more, with_last}
use Rattle.ct_sexpr.specs.Written.{written, written_after, written_name, is_simple, canonical, canonical_atom}
use Rattle.ct_sexpr.specs.Readable.{IsReadable, AreReadable, name_of_atom}
use Rattle.ct_generics.specs.Expression.{Expression, parameter, named, applied}
use Rattle.ct_sorts.specs.declared.ids.SortId.{SortId}
use Rattle.ct_sorts.specs.Consistent.{IsConsistent}
use Rattle.ct_sorts.specs.declared.ids.CtorId.{CtorId}
use Rattle.ct_sorts.specs.Declarations.{Declarations, Constructor, IsSort, ctor_names}
use Rattle.ct_sorts.specs.SortText.{as_written, items_of, head_name}
use Rattle.ct_sorts.proofs.BaseLemmas.{base_of}
use Rattle.ct_sorts.proofs.TextLemmas.{readable}
use Rattle.ct_instances.specs.Among.{origin_of}
use Rattle.ct_instances.specs.Fields.{is_ctor_determined, sort_of_ctor}
use Rattle.ct_instances.proofs.CtorNameLemmas.{origin_at}
use Rattle.ct_value_text.specs.ValueText.{name, ctor_name, ctor_expression, sort_expression, without_bars, bare_sort, qualified}

-- what the texts of expressions tell
pub record TextTheorems : Type 0 where
  pub same_text : (e f : Sexpr) → IsReadable e → IsReadable f → (written e ≡ written f) ↔ (canonical e ≡ canonical f)
  pub one_name : (a : Atom) → name_of_atom (canonical_atom a) ≡ name_of_atom a

pub sort_readable : TextTheorems → (d : Declarations) → IsConsistent d → (s : SortId) → IsSort d s → IsReadable (sort_expression d s.0)
sort_readable theorems d consistent s within =
    readable theorems.same_text theorems.one_name d (base_of d consistent) (origin_of d s) 0 (consistent.origins.sorts s.0 (origin_of d s) (origin_at d consistent s within))

-- ---- a text without its bars

pub without_bars-append : (xs ys : List ℕ) → without_bars (xs ++ ys) ≡ without_bars xs ++ without_bars ys
without_bars-append [] ys = refl
without_bars-append (x ∷ xs) ys = by (x == 124) (without_bars-append xs ys)
  where
    by : (b : Bool) → without_bars (xs ++ ys) ≡ without_bars xs ++ without_bars ys → (if b then without_bars (xs ++ ys) else x ∷ without_bars (xs ++ ys)) ≡ (if b then without_bars xs else x ∷ without_bars xs) ++ without_bars ys
    by true rest = rest
    by false rest = ap (λ (zs : List ℕ). x ∷ zs) rest

-- what is true of each byte is true of each that is left
bare_all : (p : ℕ → Bool) (xs : List ℕ) → list_all p xs ≡ true → list_all p (without_bars xs) ≡ true
bare_all p [] all = refl
bare_all p (x ∷ xs) all = by (x == 124) (both_parts (p x) (list_all p xs) all).0 (bare_all p xs (both_parts (p x) (list_all p xs) all).1)
  where
    by : (b : Bool) → p x ≡ true → list_all p (without_bars xs) ≡ true → list_all p (if b then without_bars xs else x ∷ without_bars xs) ≡ true
    by true first rest = rest
    by false first rest = both_true first rest

-- its bytes may stand in a quoted symbol but for bars
abbrev IsBare : List ℕ → Type 0
IsBare text = list_all is_in_quoted_symbol (without_bars text) ≡ true

bare_append : (xs ys : List ℕ) → IsBare xs → IsBare ys → IsBare (xs ++ ys)
bare_append xs ys first second =
    ap (list_all is_in_quoted_symbol) (without_bars-append xs ys)
    ∙ list_all-append is_in_quoted_symbol (without_bars xs) (without_bars ys)
    ∙ both_true first second

bare_name : (name : List ℕ) → list_all is_in_quoted_symbol name ≡ true → IsBare (written_name name)
bare_name name clean = by (is_simple name)
  where
    by : (b : Bool) → IsBare (if b then name else 124 ∷ (name ++ 124 ∷ []))
    by true = bare_all is_in_quoted_symbol name clean
    by false = bare_append name (124 ∷ []) (bare_all is_in_quoted_symbol name clean) refl

-- so may those of lists
abbrev AreBare : Sexprs → Type 0
AreBare none = Unit {0}
AreBare (more e es) = IsBare (written e) × AreBare es

bare_after : (es : Sexprs) → AreBare es → IsBare (written_after es)
bare_after none all = refl
bare_after (more e es) all = bare_append (32 ∷ []) (written e ++ written_after es) refl (bare_append (written e) (written_after es) all.0 (bare_after es all.1))

bare_list : (es : Sexprs) → AreBare es → IsBare (written (list es))
bare_list none all = refl
bare_list (more e es) all =
    bare_append (40 ∷ []) ((written e ++ written_after es) ++ 41 ∷ []) refl
    (bare_append (written e ++ written_after es) (41 ∷ []) (bare_append (written e) (written_after es) all.0 (bare_after es all.1)) refl)

bare_last : (es : Sexprs) (e : Sexpr) → AreBare es → IsBare (written e) → AreBare (with_last es e)
bare_last none e all last = (last, tt)
bare_last (more f es) e all last = (all.0, bare_last es e all.1 last)

-- the items of an expression that can be read
readable_parts : (es : Sexprs) (e : Sexpr) → AreReadable (with_last es e) → AreReadable es × IsReadable e
readable_parts none e all = (tt, all.0)
readable_parts (more f es) e all = let rest = readable_parts es e all.1 in ((all.0, rest.0), rest.1)

module _ (d : Declarations) where
  mutual
    bare_sort_text : (e : Expression) → IsReadable (as_written d.declared.heads e) → IsBare (written (as_written d.declared.heads e))
    bare_sort_text (parameter i) form = refl
    bare_sort_text (named h) form = bare_name (head_name d.declared.heads h) form
    bare_sort_text (applied e a) form =
        let parts = readable_parts (items_of d.declared.heads e) (as_written d.declared.heads a) form in
        bare_list (with_last (items_of d.declared.heads e) (as_written d.declared.heads a)) (bare_last (items_of d.declared.heads e) (as_written d.declared.heads a) (bare_items e parts.0) (bare_sort_text a parts.1))

    bare_items : (e : Expression) → AreReadable (items_of d.declared.heads e) → AreBare (items_of d.declared.heads e)
    bare_items (parameter i) form = tt
    bare_items (named h) form = (bare_name (head_name d.declared.heads h) form.0, tt)
    bare_items (applied e a) form =
        let parts = readable_parts (items_of d.declared.heads e) (as_written d.declared.heads a) form in
        bare_last (items_of d.declared.heads e) (as_written d.declared.heads a) (bare_items e parts.0) (bare_sort_text a parts.1)

-- what stands for a sort in the symbols of its elements can be quoted
pub bare_clean : TextTheorems → (d : Declarations) → IsConsistent d → (s : SortId) → IsSort d s → list_all is_in_quoted_symbol (bare_sort d s.0) ≡ true
bare_clean theorems d consistent s within = bare_sort_text d (origin_of d s) (sort_readable theorems d consistent s within)

-- one more byte after those that were gone through
pub without_bars-more : (text : List ℕ) (i : ℕ) (old now new : List ℕ) → i < length text
    → now ≡ old ++ without_bars (take i text) → new ≡ now ++ without_bars (get_or text i 0 ∷ [])
    → new ≡ old ++ without_bars (take (i + 1) text)
without_bars-more text i old now new within p q =
    let more = without_bars (get_or text i 0 ∷ []) in
    q
    ∙ ap (λ w. w ++ more) p
    ∙ append_assoc old (without_bars (take i text)) more
    ∙ ap (λ w. old ++ w) (sym (without_bars-append (take i text) (get_or text i 0 ∷ [])) ∙ ap without_bars (sym (take_more text i 0 within)))

-- what is qualified by a sort, from its parts
pub written-qualified : (symbol : List ℕ) (sort : Sexpr) (old begun worded spaced sorted new : List ℕ)
    → begun ≡ old ++ codes "(as " → worded ≡ begun ++ written_name symbol → spaced ≡ worded ++ 32 ∷ [] → sorted ≡ spaced ++ written sort → new ≡ sorted ++ 41 ∷ []
    → new ≡ old ++ written (qualified symbol sort)
written-qualified symbol sort old begun worded spaced sorted new p q r s t =
    let w = written_name symbol in
    let x = written sort in
    t
    ∙ ap (λ z. z ++ 41 ∷ []) (s ∙ ap (λ z. z ++ x) (r ∙ ap (λ z. z ++ 32 ∷ []) (q ∙ ap (λ z. z ++ w) p)))
    ∙ append_assoc (((old ++ codes "(as ") ++ w) ++ 32 ∷ []) x (41 ∷ [])
    ∙ append_assoc ((old ++ codes "(as ") ++ w) (32 ∷ []) (x ++ 41 ∷ [])
    ∙ append_assoc (old ++ codes "(as ") w (32 ∷ (x ++ 41 ∷ []))
    ∙ append_assoc old (codes "(as ") (w ++ 32 ∷ (x ++ 41 ∷ []))
    ∙ ap (λ z. old ++ (codes "(as " ++ z)) (sym (append_assoc w (32 ∷ (x ++ [])) (41 ∷ []) ∙ ap (λ z. w ++ 32 ∷ z) (append_assoc x [] (41 ∷ []))))

-- ---- a constructor alone, from its parts

pub written-determined : (d : Declarations) (c : CtorId) (bytes : List ℕ) (b : Bool) (old new : List ℕ) → b ≡ is_ctor_determined d c → b ≡ true → slice_get (ctor_names d) c.0 ≡ Some bytes
    → new ≡ old ++ written_name bytes → new ≡ old ++ written (ctor_expression d c)
written-determined d c bytes b old new value is at e =
    e
    ∙ ap (λ (w : List ℕ). old ++ written_name w) (sym (ap (λ (o : Option (List ℕ)). unwrap_or o []) at))
    ∙ ap (λ (t : Bool). old ++ written (if t then name (ctor_name d c.0) else qualified (ctor_name d c.0) (sort_expression d (sort_of_ctor d c).0))) (sym is ∙ value)

pub written-undetermined : (d : Declarations) (c : CtorId) (bytes : List ℕ) (s : SortId) (b : Bool) (old new : List ℕ) → b ≡ is_ctor_determined d c → b ≡ false → slice_get (ctor_names d) c.0 ≡ Some bytes
    → option_map (λ (k : Constructor). k.sort) (slice_get d.ctors c.0) ≡ Some s → new ≡ old ++ written (qualified bytes (sort_expression d s.0)) → new ≡ old ++ written (ctor_expression d c)
written-undetermined d c bytes s b old new value is at sort e =
    e
    ∙ ap₂ (λ (w : List ℕ) (t : SortId). old ++ written (qualified w (sort_expression d t.0))) (sym (ap (λ (o : Option (List ℕ)). unwrap_or o []) at)) (sym (ap (λ (o : Option SortId). unwrap_or o (record { 0 = 0 })) sort))
    ∙ ap (λ (t : Bool). old ++ written (if t then name (ctor_name d c.0) else qualified (ctor_name d c.0) (sort_expression d (sort_of_ctor d c).0))) (sym is ∙ value)
