-- Whether the fields of a constructor determine the arguments of its generic, as a test.
use Rattle.std.proofs.Common.{◌≡◌, ℕ, zero, suc, ◌+◌, ◌<◌, ◌≤◌, ◌↔◌, IsTrue, length, Bool, true, false, List, [], ◌∷◌, slice_get, Some, refl, sym, ◌∙◌, ap, ap₂, subst, inl, inr, ⊎_elim, arith}
use Rattle.std.specs.List.{list_all, list_any, range_with_len}
use Rattle.std.proofs.lemmas.Bool.{true≢false}
use Rattle.std.proofs.lemmas.Bool.Decides.{Decides-eqb}
use Rattle.std.proofs.lemmas.Option.{none-some, same_Some, slice_get_within}
use Rattle.ct_lemmas.proofs.Booleans.{or_cases, or_left, or_right, both_parts, both_true}
use Rattle.ct_lemmas.proofs.Numbers.{same_or_other}
use Rattle.ct_lemmas.proofs.Pairs.{AllZip-one_length}
use Rattle.ct_generics.specs.declared.nodes.ExprId.{ExprId}
use Rattle.ct_generics.specs.declared.nodes.Node.{Node}
use Rattle.ct_generics.specs.Declarations.{Head}
use Rattle.ct_generics.specs.Expression.{Expression, parameter, named, applied}
use Rattle.ct_generics.specs.Nodes.{Stands, StandFor}
use Rattle.ct_generics.specs.Occurrence.{Occurs, OccursIn, OccurAll}
use Rattle.ct_sorts.specs.declared.ids.GenId.{GenId}
use Rattle.ct_sorts.specs.declared.ids.Symbol.TheVariants.{GenCtor}
use Rattle.ct_sorts.specs.Consistent.{IsConsistent}
use Rattle.ct_sorts.specs.Declarations.{Declarations}
use Rattle.ct_sorts.specs.Determined.{DetermineArguments}
use Rattle.ct_sorts.specs.Lookup.{IsGenericHead, IsSymbol}
use Rattle.ct_instances.specs.Fields.{occurs, generic_fields, is_determined}
use Rattle.ct_instances.proofs.InstanceLemmas.{row_there, fields_are, params_are}

occurs-is : (i : ℕ) (e : Expression) → occurs i e ≡ true → Occurs i e
occurs-is i (parameter j) h = (Decides-eqb i j).0 h
occurs-is i (named g) h = absurd (true≢false (sym h))
occurs-is i (applied e a) h = ⊎_elim (λ first. inl (occurs-is i e first)) (λ second. inr (occurs-is i a second)) (or_cases (occurs i e) (occurs i a) h)

is-occurs : (i : ℕ) (e : Expression) → Occurs i e → occurs i e ≡ true
is-occurs i (parameter j) h = (Decides-eqb i j).1 h
is-occurs i (named g) h = absurd h
is-occurs i (applied e a) h = ⊎_elim (λ first. or_left (occurs i e) (occurs i a) (is-occurs i e first)) (λ second. or_right (occurs i e) (occurs i a) (is-occurs i a second)) h

any-is : (i : ℕ) (row : List Expression) → list_any (occurs i) row ≡ true → OccursIn row i
any-is i [] h = absurd (true≢false (sym h))
any-is i (e ∷ row) h =
    ⊎_elim (λ first. (0, e, refl, occurs-is i e first)) (λ rest. let found = any-is i row rest in (suc found.0, found.1, found.2, found.3)) (or_cases (occurs i e) (list_any (occurs i) row) h)

is-any : (i : ℕ) (row : List Expression) (j : ℕ) (e : Expression) → slice_get row j ≡ Some e → Occurs i e → list_any (occurs i) row ≡ true
is-any i [] j e at h = absurd (none-some e at)
is-any i (x ∷ row) zero e at h = or_left (occurs i x) (list_any (occurs i) row) (subst (λ (y : Expression). occurs i y ≡ true) (sym (same_Some x e at)) (is-occurs i e h))
is-any i (x ∷ row) (suc j) e at h = or_right (occurs i x) (list_any (occurs i) row) (is-any i row j e at h)

pub all-is : (row : List Expression) (a n : ℕ) → list_all (λ j. list_any (occurs j) row) (range_with_len a n) ≡ true → (i : ℕ) → a ≤ i → i < a + n → OccursIn row i
all-is row a zero h i low high = absurd (omega (arith, low, high))
all-is row a (suc n) h i low high =
    let parts = both_parts (list_any (occurs a) row) (list_all (λ j. list_any (occurs j) row) (range_with_len (a + 1) n)) h in
    let rest = λ (other : i ≡ a → ⊥). all-is row (a + 1) n parts.1 i (omega (arith, low, other)) (omega (arith, high)) in
    ⊎_elim (λ (same : i ≡ a). subst (OccursIn row) (sym same) (any-is a row parts.0)) rest (same_or_other i a)

is-all : (row : List Expression) (a n : ℕ) → ((i : ℕ) → a ≤ i → i < a + n → OccursIn row i) → list_all (λ j. list_any (occurs j) row) (range_with_len a n) ≡ true
is-all row a zero all = refl
is-all row a (suc n) all =
    let first = all a (omega arith) (omega arith) in
    both_true (list_any (occurs a) row) (list_all (λ j. list_any (occurs j) row) (range_with_len (a + 1) n)) (is-any a row first.0 first.1 first.2 first.3)
    (is-all row (a + 1) n (λ i low high. all i (omega (arith, low)) (omega (arith, high))))

-- what tells whether each parameter occurs is the test
pub determined_is : (row : List Expression) (n : ℕ) (b : Bool) → (b ≡ true → OccurAll n row) → (OccurAll n row → b ≡ true) → b ≡ list_all (λ j. list_any (occurs j) row) (range_with_len 0 n)
determined_is row n b tells back = by b tells back (list_all (λ j. list_any (occurs j) row) (range_with_len 0 n)) (λ h i high. all-is row 0 n h i (omega arith) (omega (arith, high))) (λ all. is-all row 0 n (λ i low high. all i (omega (arith, high))))
  where
    by : (x : Bool) → (x ≡ true → OccurAll n row) → (OccurAll n row → x ≡ true) → (y : Bool) → (y ≡ true → OccurAll n row) → (OccurAll n row → y ≡ true) → x ≡ y
    by true first second true third fourth = refl
    by true first second false third fourth = sym (fourth (first refl))
    by false first second true third fourth = second (third refl)
    by false first second false third fourth = refl

-- so is what is kept of a generic's constructor
pub gen_determined_is : (d : Declarations) → IsConsistent d → (g : GenId) (i : ℕ) → IsSymbol d (GenCtor g i) → (b : Bool) → ((head : Head) → IsGenericHead d g head → IsTrue b ↔ DetermineArguments head i) → b ≡ is_determined d g i
gen_determined_is d c g i is b tells =
    let head = is.1.0.0 in
    let row = row_there d c g i is.0 is.1 head is.1.0.1 in
    let both = tells head is.1.0.1 in
    determined_is row.0 head.params b (λ t. both.0 t row.0 row.1) (λ all. both.1 (λ r at. subst (OccurAll head.params) (same_Some row.0 r (sym row.1 ∙ at)) all))
    ∙ ap₂ (λ (es : List Expression) (n : ℕ). list_all (λ j. list_any (occurs j) es) (range_with_len 0 n)) (sym (fields_are d c g i head row.0 is.1.0.1 row.1)) (sym (params_are d c g head is.1.0.1))

-- the constructor is one of the generic's, with as many fields as stand for them
pub gen_ctor_within : (d : Declarations) → IsConsistent d → (g : GenId) (i : ℕ) → IsSymbol d (GenCtor g i) → (head : Head) → IsGenericHead d g head → i < length head.ctors
gen_ctor_within d c g i is head at = let row = row_there d c g i is.0 is.1 head at in slice_get_within head.ctors i row.0 row.1

pub gen_fields_long : (d : Declarations) → IsConsistent d → (g : GenId) (i : ℕ) → IsSymbol d (GenCtor g i) → (nodes : List Node) (ids : List ExprId) → ((head : Head) (row : List Expression) → IsGenericHead d g head → slice_get head.ctors i ≡ Some row → StandFor nodes ids row) → length ids ≡ length (generic_fields d g i)
gen_fields_long d c g i is nodes ids stand =
    let head = is.1.0.0 in
    let row = row_there d c g i is.0 is.1 head is.1.0.1 in
    AllZip-one_length (λ (id : ExprId) (e : Expression). Stands nodes id.0 e) ids row.0 (stand head row.0 is.1.0.1 row.1)
    ∙ ap (λ (es : List Expression). length es) (sym (fields_are d c g i head row.0 is.1.0.1 row.1))
