-- Forms that are none: lists of other lengths, and leaves where a list is wanted.
use Rattle.std.proofs.Common.{◌≡◌, ◌⊎◌, inl, inr, ℕ, ◌<◌, Bool, true, false, List, [], ◌∷◌, length, Option, Err, Vec, Global, refl, sym, ◌∙◌, ap, subst, arith}
use Rattle.ct_sexpr.specs.declared.sexpr.Sexpr.{Sexpr, Symbol, Quoted, Keyword, Text, Numeral, Decimal, Binary, Hex, Sexpr-F, List as list_in_memory, out-Sexpr, roll-Sexpr, roll-out-Sexpr}
use Rattle.ct_sexpr.specs.declared.sexpr.Sexpr.TheOpen as layer
use Rattle.ct_sexpr.specs.declared.sexpr.Sexpr.TheVariants.{rolls-Symbol, rolls-Quoted, rolls-Keyword, rolls-Text, rolls-Numeral, rolls-Decimal, rolls-Binary, rolls-Hex, rolls-List}
use Rattle.ct_sexpr.specs.Atom.{Atom, symbol, quoted, keyword, text, numeral, decimal, binary, hexadecimal}
use Rattle.ct_sexpr.specs.View.{expression_of, expressions_of}
use Rattle.ct_sorts.specs.declared.ids.SortId.{SortId}
use Rattle.ct_sorts.specs.Declarations.{Declarations}
use Rattle.ct_formulas.specs.declared.tree.Quantifier.{Quantifier}
use Rattle.ct_names.specs.Outcome.{Elaborated, Sorted, refused}
use Rattle.ct_names.specs.Refusals.{out_of_scope}
use Rattle.ct_names.specs.Variables.{Variable}
use Rattle.ct_names.specs.Parts.{Part, Parts, atom_part, list_part, no_parts, with_part, name_of}
use Rattle.ct_names.specs.Elaboration.{elaborated, lone, part_of, parts_of, list_meaning, annotated, let_form, match_form, bound_terms, listable_sort, quantified_form, checked_cases}
use Rattle.ct_names.proofs.PartLemmas.{part_of_list}

-- an expression that is no list in memory is a leaf
leaf-by : (d : Declarations) (shown : Sexpr-F Sexpr) (e : Sexpr) → roll-Sexpr shown ≡ e → ((items : Vec Sexpr Global) → e ≡ list_in_memory items → ⊥) → (a : Atom) × (part_of d (expression_of e) ≡ atom_part a)
leaf-by d (layer.Symbol w) e is other =
    let same : e ≡ Symbol w = cc (rolls-Symbol w) in
    (symbol w, ap (λ (x : Sexpr). part_of d (expression_of x)) same)
leaf-by d (layer.Quoted w) e is other =
    let same : e ≡ Quoted w = cc (rolls-Quoted w) in
    (quoted w, ap (λ (x : Sexpr). part_of d (expression_of x)) same)
leaf-by d (layer.Keyword w) e is other =
    let same : e ≡ Keyword w = cc (rolls-Keyword w) in
    (keyword w, ap (λ (x : Sexpr). part_of d (expression_of x)) same)
leaf-by d (layer.Text w) e is other =
    let same : e ≡ Text w = cc (rolls-Text w) in
    (text w, ap (λ (x : Sexpr). part_of d (expression_of x)) same)
leaf-by d (layer.Numeral n) e is other =
    let same : e ≡ Numeral n = cc (rolls-Numeral n) in
    (numeral n, ap (λ (x : Sexpr). part_of d (expression_of x)) same)
leaf-by d (layer.Decimal w) e is other =
    let same : e ≡ Decimal w = cc (rolls-Decimal w) in
    (decimal w, ap (λ (x : Sexpr). part_of d (expression_of x)) same)
leaf-by d (layer.Binary w) e is other =
    let same : e ≡ Binary w = cc (rolls-Binary w) in
    (binary w, ap (λ (x : Sexpr). part_of d (expression_of x)) same)
leaf-by d (layer.Hex w) e is other =
    let same : e ≡ Hex w = cc (rolls-Hex w) in
    (hexadecimal w, ap (λ (x : Sexpr). part_of d (expression_of x)) same)
leaf-by d (layer.List items) e is other =
    let same : e ≡ list_in_memory items = cc (rolls-List items) in
    absurd (other items same)

pub leaf-part : (d : Declarations) (e : Sexpr) → ((items : Vec Sexpr Global) → e ≡ list_in_memory items → ⊥) → (a : Atom) × (part_of d (expression_of e) ≡ atom_part a)
leaf-part d e other = leaf-by d (out-Sexpr e) e (roll-out-Sexpr e) other

-- nothing at the head, and nothing to annotate
pub list-empty : (d : Declarations) (scope : List Variable) (items : List Sexpr) → length items < 1 → list_meaning d (parts_of d (expressions_of items)) scope ≡ Err (refused out_of_scope)
list-empty d scope [] h = refl
list-empty d scope (a ∷ items) h = absurd (omega arith)

pub annotated-empty : (d : Declarations) (scope : List Variable) (items : List Sexpr) → length items < 1 → annotated d scope (parts_of d (expressions_of items)) ≡ Err (refused out_of_scope)
annotated-empty d scope [] h = refl
annotated-empty d scope (a ∷ items) h = absurd (omega arith)

-- `let` and `match` of another length
let-one : (d : Declarations) (scope : List Variable) (p : Part) → let_form d scope (with_part p no_parts) ≡ Err (refused out_of_scope)
let-one d scope (atom_part a) = refl
let-one d scope (list_part ps m) = refl

let-three : (d : Declarations) (scope : List Variable) (p q r : Part) (ps : Parts) → let_form d scope (with_part p (with_part q (with_part r ps))) ≡ Err (refused out_of_scope)
let-three d scope (atom_part a) q r ps = refl
let-three d scope (list_part bs m) q r ps = refl

pub let-length : (d : Declarations) (scope : List Variable) (args : List Sexpr) → (length args ≡ 2 → ⊥) → let_form d scope (parts_of d (expressions_of args)) ≡ Err (refused out_of_scope)
let-length d scope [] h = refl
let-length d scope (a ∷ []) h = let-one d scope (part_of d (expression_of a))
let-length d scope (a ∷ (b ∷ [])) h = absurd (h refl)
let-length d scope (a ∷ (b ∷ (c ∷ args))) h = let-three d scope (part_of d (expression_of a)) (part_of d (expression_of b)) (part_of d (expression_of c)) (parts_of d (expressions_of args))

match-three : (d : Declarations) (scope : List Variable) (p q r : Part) (ps : Parts) → match_form d scope (with_part p (with_part q (with_part r ps))) ≡ Err (refused out_of_scope)
match-three d scope p (atom_part a) r ps = refl
match-three d scope p (list_part cs m) r ps = refl

pub match-length : (d : Declarations) (scope : List Variable) (args : List Sexpr) → (length args ≡ 2 → ⊥) → match_form d scope (parts_of d (expressions_of args)) ≡ Err (refused out_of_scope)
match-length d scope [] h = refl
match-length d scope (a ∷ []) h = refl
match-length d scope (a ∷ (b ∷ [])) h = absurd (h refl)
match-length d scope (a ∷ (b ∷ (c ∷ args))) h = match-three d scope (part_of d (expression_of a)) (part_of d (expression_of b)) (part_of d (expression_of c)) (parts_of d (expressions_of args))

-- a leaf in place of the bindings, and in place of the cases
pub let-leaf : (d : Declarations) (scope : List Variable) (args : List Sexpr) (first body : Sexpr) → args ≡ first ∷ (body ∷ []) → ((items : Vec Sexpr Global) → first ≡ list_in_memory items → ⊥) → let_form d scope (parts_of d (expressions_of args)) ≡ Err (refused out_of_scope)
let-leaf d scope args first body two other =
    ap (λ (xs : List Sexpr). let_form d scope (parts_of d (expressions_of xs))) two
    ∙ ap (λ (p : Part). let_form d scope (with_part p (with_part (part_of d (expression_of body)) no_parts))) (leaf-part d first other).1

pub match-leaf : (d : Declarations) (scope : List Variable) (args : List Sexpr) (first second : Sexpr) → args ≡ first ∷ (second ∷ []) → ((items : Vec Sexpr Global) → second ≡ list_in_memory items → ⊥) → match_form d scope (parts_of d (expressions_of args)) ≡ Err (refused out_of_scope)
match-leaf d scope args first second two other =
    ap (λ (xs : List Sexpr). match_form d scope (parts_of d (expressions_of xs))) two
    ∙ ap (λ (p : Part). match_form d scope (with_part (part_of d (expression_of first)) (with_part p no_parts))) (leaf-part d second other).1

-- so for a quantifier
quantified-one : (d : Declarations) (scope : List Variable) (q : Quantifier) (p : Part) → quantified_form d scope q (with_part p no_parts) ≡ Err (refused out_of_scope)
quantified-one d scope q (atom_part a) = refl
quantified-one d scope q (list_part ps m) = refl

quantified-three : (d : Declarations) (scope : List Variable) (q : Quantifier) (p r s : Part) (ps : Parts) → quantified_form d scope q (with_part p (with_part r (with_part s ps))) ≡ Err (refused out_of_scope)
quantified-three d scope q (atom_part a) r s ps = refl
quantified-three d scope q (list_part bs m) r s ps = refl

pub quantified-length : (d : Declarations) (scope : List Variable) (q : Quantifier) (args : List Sexpr) → (length args ≡ 2 → ⊥) → quantified_form d scope q (parts_of d (expressions_of args)) ≡ Err (refused out_of_scope)
quantified-length d scope q [] h = refl
quantified-length d scope q (a ∷ []) h = quantified-one d scope q (part_of d (expression_of a))
quantified-length d scope q (a ∷ (b ∷ [])) h = absurd (h refl)
quantified-length d scope q (a ∷ (b ∷ (c ∷ args))) h = quantified-three d scope q (part_of d (expression_of a)) (part_of d (expression_of b)) (part_of d (expression_of c)) (parts_of d (expressions_of args))

pub quantified-leaf : (d : Declarations) (scope : List Variable) (q : Quantifier) (list : Sexpr) (body : Part) → ((items : Vec Sexpr Global) → list ≡ list_in_memory items → ⊥) → quantified_form d scope q (with_part (part_of d (expression_of list)) (with_part body no_parts)) ≡ Err (refused out_of_scope)
quantified-leaf d scope q list body other = ap (λ (p : Part). quantified_form d scope q (with_part p (with_part body no_parts))) (leaf-part d list other).1

-- a list of two parts
abbrev pub is_pair : Part → Bool
is_pair (atom_part a) = false
is_pair (list_part no_parts m) = false
is_pair (list_part (with_part x no_parts) m) = false
is_pair (list_part (with_part x (with_part t no_parts)) m) = true
is_pair (list_part (with_part x (with_part t (with_part u ps))) m) = false

pub leaf-no_pair : (d : Declarations) (e : Sexpr) → ((items : Vec Sexpr Global) → e ≡ list_in_memory items → ⊥) → is_pair (part_of d (expression_of e)) ≡ false
leaf-no_pair d e other = ap is_pair (leaf-part d e other).1

items-no_pair : (d : Declarations) (m : List Variable → Elaborated Sorted) (items : List Sexpr) → (length items ≡ 2 → ⊥) → is_pair (list_part (parts_of d (expressions_of items)) m) ≡ false
items-no_pair d m [] h = refl
items-no_pair d m (a ∷ []) h = refl
items-no_pair d m (a ∷ (b ∷ [])) h = absurd (h refl)
items-no_pair d m (a ∷ (b ∷ (c ∷ items))) h = refl

pub length-no_pair : (d : Declarations) (e : Sexpr) (items : Vec Sexpr Global) (slice : List Sexpr) → e ≡ list_in_memory items → slice ≡ items.items → (length slice ≡ 2 → ⊥) → is_pair (part_of d (expression_of e)) ≡ false
length-no_pair d e items slice is same h =
    ap is_pair (part_of_list d e items slice is same) ∙ items-no_pair d (list_meaning d (parts_of d (expressions_of slice))) slice h

-- a binding, and a case, that is no list of two
pub binding-other : (d : Declarations) (scope : List Variable) (b : Part) (bs : Parts) → is_pair b ≡ false → bound_terms d scope (with_part b bs) ≡ Err (refused out_of_scope)
binding-other d scope (atom_part a) bs e = refl
binding-other d scope (list_part no_parts m) bs e = refl
binding-other d scope (list_part (with_part x no_parts) m) bs e = refl
binding-other d scope (list_part (with_part x (with_part t no_parts)) m) bs e = absurd cc
binding-other d scope (list_part (with_part x (with_part t (with_part u ps))) m) bs e = refl

pub sort-other : (d : Declarations) (b : Part) → is_pair b ≡ false → listable_sort d b ≡ Err (refused out_of_scope)
sort-other d (atom_part a) e = refl
sort-other d (list_part no_parts m) e = refl
sort-other d (list_part (with_part x no_parts) m) e = refl
sort-other d (list_part (with_part x (with_part t no_parts)) m) e = absurd cc
sort-other d (list_part (with_part x (with_part t (with_part u ps))) m) e = refl

pub case-other : (d : Declarations) (scope : List Variable) (side : SortId) (sort : Option SortId) (c : Part) (cs : Parts) → is_pair c ≡ false → checked_cases d scope side sort (with_part c cs) ≡ Err (refused out_of_scope)
case-other d scope side sort (atom_part a) cs e = refl
case-other d scope side sort (list_part no_parts m) cs e = refl
case-other d scope side sort (list_part (with_part x no_parts) m) cs e = refl
case-other d scope side sort (list_part (with_part x (with_part t no_parts)) m) cs e = absurd cc
case-other d scope side sort (list_part (with_part x (with_part t (with_part u ps))) m) cs e = refl

-- a leaf is a name that stands alone
abbrev StandsAlone : Declarations → List Variable → Sexpr → Type 0
StandsAlone d scope e = elaborated d scope (expression_of e) ≡ lone d scope (name_of (part_of d (expression_of e)))

pub leaf-lone : (d : Declarations) (scope : List Variable) (e : Sexpr)
    → ((w : List ℕ) × (e ≡ Symbol w)) ⊎ (((w : List ℕ) × (e ≡ Quoted w)) ⊎ (((w : List ℕ) × (e ≡ Keyword w)) ⊎ (((w : List ℕ) × (e ≡ Text w)) ⊎ (((n : ℕ) × (e ≡ Numeral n)) ⊎ (((w : List ℕ) × (e ≡ Decimal w)) ⊎ (((w : List ℕ) × (e ≡ Binary w)) ⊎ ((w : List ℕ) × (e ≡ Hex w))))))))
    → StandsAlone d scope e
leaf-lone d scope e (inl s) = subst (StandsAlone d scope) (sym s.1) refl
leaf-lone d scope e (inr (inl s)) = subst (StandsAlone d scope) (sym s.1) refl
leaf-lone d scope e (inr (inr (inl s))) = subst (StandsAlone d scope) (sym s.1) refl
leaf-lone d scope e (inr (inr (inr (inl s)))) = subst (StandsAlone d scope) (sym s.1) refl
leaf-lone d scope e (inr (inr (inr (inr (inl s))))) = subst (StandsAlone d scope) (sym s.1) refl
leaf-lone d scope e (inr (inr (inr (inr (inr (inl s)))))) = subst (StandsAlone d scope) (sym s.1) refl
leaf-lone d scope e (inr (inr (inr (inr (inr (inr (inl s))))))) = subst (StandsAlone d scope) (sym s.1) refl
leaf-lone d scope e (inr (inr (inr (inr (inr (inr (inr s))))))) = subst (StandsAlone d scope) (sym s.1) refl
