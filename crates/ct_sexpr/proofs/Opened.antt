-- The tokens of open lists, as lists are opened, filled and closed.
use Rattle.std.proofs.Common.{◌≡◌, ℕ, suc, ◌+◌, ◌-◌, ◌<◌, List, [], ◌∷◌, ◌++◌, length, get_or, set, zero, Vec, Global, Result, Ok, Err, OnErr, refl, sym, ap, ◌∙◌, arith, append_assoc, length-set}
use Rattle.std.proofs.lemmas.List.{append-nil, length_push, nil_from_length}
use Rattle.ct_sexpr.specs.Token.{Token, opening, closing}
use Rattle.ct_sexpr.specs.Expression.{tokens_of, tokens_of_each}
use Rattle.ct_sexpr.specs.declared.sexpr.Sexpr.{Sexpr, List as list_in_memory}
use Rattle.ct_sexpr.specs.View.{expression_of, expressions_of}
use Rattle.ct_sexpr.specs.Open.{Open, none_open}
use Rattle.ct_sexpr.specs.OpenTokens.{tokens_of_lists}
use Rattle.ct_sexpr.proofs.Rows.{expression_of_list}

-- the tokens of one more item
tokens_of_each-push : (items : List Sexpr) (e : Sexpr) →
    tokens_of_each (expressions_of (items ++ e ∷ [])) ≡ tokens_of_each (expressions_of items) ++ tokens_of (expression_of e)
tokens_of_each-push [] e = append-nil (tokens_of (expression_of e))
tokens_of_each-push (i ∷ items) e =
    ap (λ ts. tokens_of (expression_of i) ++ ts) (tokens_of_each-push items e) ∙ sym (append_assoc (tokens_of (expression_of i)) (tokens_of_each (expressions_of items)) (tokens_of (expression_of e)))

-- the tokens of lists, one of them further inside
tokens_of_lists-push : (lists : List (Vec Sexpr Global)) (inner : Vec Sexpr Global) →
    tokens_of_lists (lists ++ inner ∷ []) ≡ tokens_of_lists lists ++ opening ∷ tokens_of_each (expressions_of inner.items)
tokens_of_lists-push [] inner = ap (λ ts. opening ∷ ts) (append-nil (tokens_of_each (expressions_of inner.items)))
tokens_of_lists-push (l ∷ lists) inner =
    ap (λ ts. opening ∷ (tokens_of_each (expressions_of l.items) ++ ts)) (tokens_of_lists-push lists inner) ∙ ap (λ ts. opening ∷ ts) (sym (append_assoc (tokens_of_each (expressions_of l.items)) (tokens_of_lists lists) (opening ∷ tokens_of_each (expressions_of inner.items))))

-- a list that keeps its items leaves the tokens
tokens_of_lists-refill : (lists : List (Vec Sexpr Global)) (i : ℕ) (before after : Vec Sexpr Global) →
    i < length lists → before ≡ get_or lists i before → after.items ≡ before.items → tokens_of_lists (set lists i after) ≡ tokens_of_lists lists
tokens_of_lists-refill [] i before after lt at same = refl
tokens_of_lists-refill (l ∷ lists) zero before after lt at same =
    ap (λ items. opening ∷ (tokens_of_each (expressions_of items) ++ tokens_of_lists lists)) (same ∙ ap (λ v. v.items) at)
tokens_of_lists-refill (l ∷ lists) (suc i) before after lt at same =
    ap (λ ts. opening ∷ (tokens_of_each (expressions_of l.items) ++ ts)) (tokens_of_lists-refill lists i before after (omega arith) at same)

-- one more item of the innermost list adds its tokens
tokens_of_lists-fill : (lists : List (Vec Sexpr Global)) (i : ℕ) (before after : Vec Sexpr Global) (e : Sexpr) →
    i + 1 ≡ length lists → before ≡ get_or lists i before → after.items ≡ before.items ++ e ∷ [] →
    tokens_of_lists (set lists i after) ≡ tokens_of_lists lists ++ tokens_of (expression_of e)
tokens_of_lists-fill [] i before after e last at same = absurd (omega arith)
tokens_of_lists-fill (l ∷ []) zero before after e last at same =
    let items : after.items ≡ l.items ++ e ∷ [] = same ∙ ap (λ v. v.items ++ e ∷ []) at in
    ap (λ x. opening ∷ (tokens_of_each (expressions_of x) ++ [])) items
    ∙ ap (λ ts. opening ∷ (ts ++ [])) (tokens_of_each-push l.items e)
    ∙ simp append-nil
tokens_of_lists-fill (l ∷ m ∷ lists) zero before after e last at same = absurd (omega arith)
tokens_of_lists-fill (l ∷ lists) (suc i) before after e last at same =
    let A = tokens_of_each (expressions_of l.items) in
    ap (λ ts. opening ∷ (A ++ ts)) (tokens_of_lists-fill lists i before after e (omega arith) at same)
    ∙ ap (λ ts. opening ∷ ts) (sym (append_assoc A (tokens_of_lists lists) (tokens_of (expression_of e))))

same_open : {ts us : List Token} {d e : ℕ} → ts ≡ us → d ≡ e → ◌≡◌ {A = Open} (record { tokens = ts; depth = d }) (record { tokens = us; depth = e })
same_open p q = cc

-- what the lists stand for
abbrev pub open_of : List (Vec Sexpr Global) → Open
open_of lists = record { tokens = tokens_of_lists lists; depth = length lists }

-- one more list is open
pub open_of-push : (lists : List (Vec Sexpr Global)) (inner : Vec Sexpr Global) (old : Open) →
    open_of lists ≡ old → inner.items ≡ [] → open_of (lists ++ inner ∷ []) ≡ record { tokens = old.tokens ++ opening ∷ []; depth = old.depth + 1 }
open_of-push lists inner old view empty =
    same_open
    (tokens_of_lists-push lists inner ∙ ap (λ items. tokens_of_lists lists ++ opening ∷ tokens_of_each (expressions_of items)) empty ∙ ap (λ o. o.tokens ++ opening ∷ []) view)
    (length_push lists inner ∙ ap (λ o. o.depth + 1) view)

-- a list that keeps its items leaves what is open
pub open_of-refill : (lists : List (Vec Sexpr Global)) (i : ℕ) (before after : Vec Sexpr Global) (old : Open) →
    open_of lists ≡ old → i < length lists → before ≡ get_or lists i before → after.items ≡ before.items → open_of (set lists i after) ≡ old
open_of-refill lists i before after old view lt at same =
    same_open (tokens_of_lists-refill lists i before after lt at same) (length-set lists i after) ∙ view

-- an item of the innermost list adds its tokens
pub open_of-fill : (lists : List (Vec Sexpr Global)) (i : ℕ) (before after : Vec Sexpr Global) (e : Sexpr) (ts : List Token) (old : Open) →
    open_of lists ≡ old → i + 1 ≡ length lists → before ≡ get_or lists i before → after.items ≡ before.items ++ e ∷ [] → tokens_of (expression_of e) ≡ ts →
    open_of (set lists i after) ≡ record { tokens = old.tokens ++ ts; depth = old.depth }
open_of-fill lists i before after e ts old view last at same its =
    same_open
    (tokens_of_lists-fill lists i before after e last at same ∙ ap (λ us. tokens_of_lists lists ++ us) its ∙ ap (λ o. o.tokens ++ ts) view)
    (length-set lists i after ∙ ap (λ o. o.depth) view)

-- the innermost list becomes an item of the one around it
pub open_of-close : (lists outer : List (Vec Sexpr Global)) (inner before after : Vec Sexpr Global) (i : ℕ) (old : Open) →
    open_of lists ≡ old → lists ≡ outer ++ inner ∷ [] → i + 1 ≡ length outer → before ≡ get_or outer i before →
    after.items ≡ before.items ++ list_in_memory inner ∷ [] →
    open_of (set outer i after) ≡ record { tokens = old.tokens ++ closing ∷ []; depth = old.depth - 1 }
open_of-close lists outer inner before after i old view split last at same =
    let spelled : tokens_of_lists lists ≡ tokens_of_lists outer ++ opening ∷ tokens_of_each (expressions_of inner.items) =
    ap tokens_of_lists split ∙ tokens_of_lists-push outer inner in
    let tokens : old.tokens ++ closing ∷ [] ≡ tokens_of_lists outer ++ tokens_of (expression_of (list_in_memory inner)) =
    ap (λ o. o.tokens ++ closing ∷ []) (sym view) ∙ ap (λ ts. ts ++ closing ∷ []) spelled
    ∙ append_assoc (tokens_of_lists outer) (opening ∷ tokens_of_each (expressions_of inner.items)) (closing ∷ [])
    ∙ ap (λ e. tokens_of_lists outer ++ tokens_of e) (sym (expression_of_list inner)) in
    let count : length lists ≡ length outer + 1 = ap length split ∙ length_push outer inner in
    let depth : length lists ≡ old.depth = ap (λ o. o.depth) view in
    same_open
    (tokens_of_lists-fill outer i before after (list_in_memory inner) last at same ∙ sym tokens)
    (length-set outer i after ∙ omega arith)

-- the outermost list is the command
pub open_of-finish : (lists outer : List (Vec Sexpr Global)) (inner : Vec Sexpr Global) (old : Open) →
    open_of lists ≡ old → lists ≡ outer ++ inner ∷ [] → old.depth ≡ 1 →
    (tokens_of (expression_of (list_in_memory inner)) ≡ old.tokens ++ closing ∷ []) × (open_of outer ≡ none_open)
open_of-finish lists outer inner old view split one =
    let count : length lists ≡ length outer + 1 = ap length split ∙ length_push outer inner in
    let depth : length lists ≡ old.depth = ap (λ o. o.depth) view in
    let empty : outer ≡ [] = nil_from_length outer (omega arith) in
    let spelled : tokens_of_lists lists ≡ opening ∷ tokens_of_each (expressions_of inner.items) =
    ap tokens_of_lists split ∙ tokens_of_lists-push outer inner ∙ ap (λ o. tokens_of_lists o ++ opening ∷ tokens_of_each (expressions_of inner.items)) empty in
    (ap tokens_of (expression_of_list inner) ∙ ap (λ ts. ts ++ closing ∷ []) (sym spelled) ∙ ap (λ o. o.tokens ++ closing ∷ []) view, ap open_of empty)

-- what holds whatever the answer
pub OnErr-any : {T E P : Type 0} (r : Result T E) → P → OnErr r P
OnErr-any (Ok x) p = tt
OnErr-any (Err e) p = p
