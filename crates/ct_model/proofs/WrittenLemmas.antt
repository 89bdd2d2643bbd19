-- What is written of lists of texts with one more text, and of a choice by rows.
use Rattle.std.proofs.Common.{◌≡◌, ◌≢◌, ℕ, zero, suc, ◌+◌, ◌≤◌, Bool, true, false, not, List, [], ◌∷◌, ◌++◌, length, refl, sym, ap, subst, ◌∙◌, arith, append_assoc, append-nil, codes}
use Rattle.ct_sorts.specs.declared.ids.SortId.{SortId}
use Rattle.ct_sorts.specs.Declarations.{Declarations}
use Rattle.ct_value_text.specs.Separation.{gap}
use Rattle.ct_model.specs.Listed.{spaced, joined, listed, lines}
use Rattle.ct_model.specs.TableText.{parameters, sorted_parameter, equation, equations, conjunction, RowTexts, row_test, GroupTexts, with_row, grouped, disjunction, choice_of, choice}
use Rattle.ct_model.specs.Opening.{opening, openings, begins_after, ended, ends, closings}

-- one text more
pub spaced-push : (ts : List (List ℕ)) (t : List ℕ) → spaced (ts ++ t ∷ []) ≡ spaced ts ++ 32 ∷ t
spaced-push [] t = ap (λ w. 32 ∷ w) (append-nil t)
spaced-push (u ∷ us) t = ap (λ w. 32 ∷ (u ++ w)) (spaced-push us t) ∙ ap (λ w. 32 ∷ w) (sym (append_assoc u (spaced us) (32 ∷ t)))

pub joined-push : (ts : List (List ℕ)) (t : List ℕ) → joined (ts ++ t ∷ []) ≡ joined ts ++ (gap (length ts) ++ t)
joined-push [] t = append-nil t
joined-push (u ∷ us) t = ap (λ w. u ++ w) (spaced-push us t) ∙ sym (append_assoc u (spaced us) (32 ∷ t))

pub lines-push : (ts : List (List ℕ)) (t : List ℕ) → lines (ts ++ t ∷ []) ≡ lines ts ++ (t ++ 10 ∷ [])
lines-push [] t = refl
lines-push (u ∷ us) t = ap (λ w. u ++ 10 ∷ w) (lines-push us t) ∙ sym (append_assoc u (10 ∷ lines us) (t ++ 10 ∷ []))

pub lines-append : (ts us : List (List ℕ)) → lines (ts ++ us) ≡ lines ts ++ lines us
lines-append [] us = refl
lines-append (t ∷ ts) us = ap (λ w. t ++ 10 ∷ w) (lines-append ts us) ∙ sym (append_assoc t (10 ∷ lines ts) (lines us))

-- one equation more
equations-from : (n : ℕ) (vs : List (List ℕ)) (v : List ℕ) → equations n (vs ++ v ∷ []) ≡ equations n vs ++ equation (n + length vs) v ∷ []
equations-from n [] v =
    let at : n ≡ n + 0 = omega arith in
    ap (λ k. equation k v ∷ []) at
equations-from n (w ∷ ws) v =
    let at : suc n + length ws ≡ n + suc (length ws) = omega arith in
    ap (λ es. equation n w ∷ es) (equations-from (suc n) ws v ∙ ap (λ k. equations (suc n) ws ++ equation k v ∷ []) at)

pub equations-push : (vs : List (List ℕ)) (v : List ℕ) → spaced (equations 0 (vs ++ v ∷ [])) ≡ spaced (equations 0 vs) ++ 32 ∷ equation (length vs) v
equations-push vs v =
    let at : 0 + length vs ≡ length vs = omega arith in
    ap spaced (equations-from 0 vs v ∙ ap (λ k. equations 0 vs ++ equation k v ∷ []) at) ∙ spaced-push (equations 0 vs) (equation (length vs) v)

-- one parameter more
parameters-from : (d : Declarations) (n : ℕ) (ss : List SortId) (s : SortId) → parameters d n (ss ++ s ∷ []) ≡ parameters d n ss ++ sorted_parameter d (n + length ss) s ∷ []
parameters-from d n [] s =
    let at : n ≡ n + 0 = omega arith in
    ap (λ k. sorted_parameter d k s ∷ []) at
parameters-from d n (t ∷ ts) s =
    let at : suc n + length ts ≡ n + suc (length ts) = omega arith in
    ap (λ es. sorted_parameter d n t ∷ es) (parameters-from d (suc n) ts s ∙ ap (λ k. parameters d (suc n) ts ++ sorted_parameter d k s ∷ []) at)

length-parameters : (d : Declarations) (n : ℕ) (ss : List SortId) → length (parameters d n ss) ≡ length ss
length-parameters d n [] = refl
length-parameters d n (s ∷ ss) = ap suc (length-parameters d (suc n) ss)

pub parameters-push : (d : Declarations) (ss : List SortId) (s : SortId) → joined (parameters d 0 (ss ++ s ∷ [])) ≡ joined (parameters d 0 ss) ++ (gap (length ss) ++ sorted_parameter d (length ss) s)
parameters-push d ss s =
    let at : 0 + length ss ≡ length ss = omega arith in
    let last = sorted_parameter d (length ss) s in
    ap joined (parameters-from d 0 ss s ∙ ap (λ k. parameters d 0 ss ++ sorted_parameter d k s ∷ []) at)
    ∙ joined-push (parameters d 0 ss) last
    ∙ ap (λ k. joined (parameters d 0 ss) ++ (gap k ++ last)) (length-parameters d 0 ss)

-- a conjunction of none or of two and more
pub conjunction-many : (es : List (List ℕ)) → length es ≢ 1 → conjunction es ≡ listed (codes "and" ∷ es)
conjunction-many [] many = refl
conjunction-many (e ∷ []) many = absurd (many refl)
conjunction-many (e ∷ (f ∷ es)) many = refl

pub length-equations : (n : ℕ) (vs : List (List ℕ)) → length (equations n vs) ≡ length vs
length-equations n [] = refl
length-equations n (v ∷ vs) = ap suc (length-equations (suc n) vs)

-- one row more
pub openings-push : (first : Bool) (rows : List RowTexts) (row : RowTexts)
    → openings first (rows ++ row ∷ []) ≡ openings first rows ++ opening (begins_after first rows) row.joins (row_test row) row.result
openings-push first [] row = append-nil (opening first row.joins (row_test row) row.result)
openings-push first (r ∷ rs) row =
    let own = opening first r.joins (row_test r) r.result in
    ap (λ w. own ++ w) (openings-push (not r.joins) rs row) ∙ sym (append_assoc own (openings (not r.joins) rs) (opening (begins_after (not r.joins) rs) row.joins (row_test row) row.result))

pub begins_after-push : (first : Bool) (rows : List RowTexts) (row : RowTexts) → begins_after first (rows ++ row ∷ []) ≡ not row.joins
begins_after-push first [] row = refl
begins_after-push first (r ∷ rs) row = begins_after-push (not r.joins) rs row

pub ends-push : (rows : List RowTexts) (row : RowTexts) → ends (rows ++ row ∷ []) ≡ ends rows + ended row.joins 0
ends-push [] row = sym (left-zero (ended row.joins 0))
  where
    left-zero : (n : ℕ) → 0 + n ≡ n
    left-zero n = omega arith
ends-push (r ∷ rs) row = by r.joins (ends-push rs row)
  where
    by : (b : Bool) → ends (rs ++ row ∷ []) ≡ ends rs + ended row.joins 0 → ended b (ends (rs ++ row ∷ [])) ≡ ended b (ends rs) + ended row.joins 0
    by true e = e
    by false e = omega (arith, e)

pub ends-few : (rows : List RowTexts) → ends rows ≤ length rows
ends-few [] = omega arith
ends-few (r ∷ rs) = by r.joins (ends-few rs)
  where
    by : (b : Bool) → ends rs ≤ length rs → ended b (ends rs) ≤ suc (length rs)
    by true few = omega (arith, few)
    by false few = omega (arith, few)

closings-last : (n : ℕ) → closings n ++ 41 ∷ [] ≡ 41 ∷ closings n
closings-last zero = refl
closings-last (suc n) = ap (λ w. 41 ∷ w) (closings-last n)

pub closings-more : (n : ℕ) → closings (n + 1) ≡ closings n ++ 41 ∷ []
closings-more n =
    let at : n + 1 ≡ suc n = omega arith in
    ap closings at ∙ sym (closings-last n)

-- the last of the rows ends its group
abbrev pub Closes : List RowTexts → Type 0
Closes [] = Unit {0}
Closes (row ∷ []) = row.joins ≡ false
Closes (row ∷ (next ∷ rows)) = Closes (next ∷ rows)

closes_later : (row : RowTexts) (rows : List RowTexts) → Closes (row ∷ rows) → Closes rows
closes_later row [] c = tt
closes_later row (next ∷ rows) c = c

-- the text goes on in the first of the groups, after a row of it
abbrev Follows : List ℕ → List GroupTexts → List ℕ → Type 0
Follows default [] text = ⊥
Follows default (group ∷ groups) text =
    (t : List ℕ) × (ts : List (List ℕ)) × (group.tests ≡ t ∷ ts)
    × (text ≡ spaced group.tests ++ 41 ∷ (32 ∷ (group.result ++ 32 ∷ (choice_of groups default ++ 41 ∷ []))))

more_tests : (test t : List ℕ) (tests ts : List (List ℕ)) → tests ≡ t ∷ ts → disjunction (test ∷ tests) ≡ listed (codes "or" ∷ (test ∷ tests))
more_tests test t tests ts e = ap (λ xs. disjunction (test ∷ xs)) e ∙ ap (λ xs. listed (codes "or" ∷ (test ∷ xs))) (sym e)

closed_later : (text default : List ℕ) (n : ℕ) → (text ++ (default ++ closings n)) ++ 41 ∷ [] ≡ text ++ (default ++ closings (suc n))
closed_later text default n =
    append_assoc text (default ++ closings n) (41 ∷ [])
    ∙ ap (λ w. text ++ w) (append_assoc default (closings n) (41 ∷ []) ∙ ap (λ w. default ++ w) (closings-last n))

-- one row before those of which this is known
step : (joins : Bool) (test result : List ℕ) (groups : List GroupTexts) (opened : Bool → List ℕ) (default : List ℕ) (n : ℕ)
    → choice_of groups default ≡ opened true ++ (default ++ closings n)
    → (joins ≡ true → Follows default groups (opened false ++ (default ++ closings n)))
    → (choice_of (with_row joins test result groups) default ≡ (opening true joins test result ++ opened (not joins)) ++ (default ++ closings (ended joins n)))
    × Follows default (with_row joins test result groups) ((opening false joins test result ++ opened (not joins)) ++ (default ++ closings (ended joins n)))
step true test result [] opened default n whole rest = absurd (rest refl)
step true test result (group ∷ groups) opened default n whole rest =
    let f = rest refl in
    let end = 41 ∷ (32 ∷ (group.result ++ 32 ∷ (choice_of groups default ++ 41 ∷ []))) in
    let together = more_tests test f.0 group.tests f.1 f.2 in
    let begun : listed (codes "ite" ∷ (listed (codes "or" ∷ (test ∷ group.tests)) ∷ (group.result ∷ (choice_of groups default ∷ [])))) ≡ (codes "(ite (or " ++ (test ++ [])) ++ (spaced group.tests ++ end) = simp (append_assoc, append-nil) in
    let later : (codes " " ++ (test ++ [])) ++ (spaced group.tests ++ end) ≡ (32 ∷ (test ++ spaced group.tests)) ++ end = simp (append_assoc, append-nil) in (
      ap (λ w. listed (codes "ite" ∷ (w ∷ (group.result ∷ (choice_of groups default ∷ []))))) together
          ∙ begun
          ∙ ap (λ w. (codes "(ite (or " ++ (test ++ [])) ++ w) (sym f.3)
          ∙ sym (append_assoc (codes "(ite (or " ++ (test ++ [])) (opened false) (default ++ closings n)),
      (test, group.tests, refl, append_assoc (codes " " ++ (test ++ [])) (opened false) (default ++ closings n) ∙ ap (λ w. (codes " " ++ (test ++ [])) ++ w) f.3 ∙ later),
    )
step false test result groups opened default n whole rest = by groups refl
  where
    closed : choice_of groups default ++ 41 ∷ [] ≡ opened true ++ (default ++ closings (suc n))
    closed = ap (λ w. w ++ 41 ∷ []) whole ∙ closed_later (opened true) default n

    begun : listed (codes "ite" ∷ (test ∷ (result ∷ (choice_of groups default ∷ [])))) ≡ (codes "(ite " ++ (test ++ 32 ∷ (result ++ 32 ∷ []))) ++ (choice_of groups default ++ 41 ∷ [])
    begun = simp (append_assoc, append-nil)

    later : (codes " " ++ (test ++ 41 ∷ (32 ∷ (result ++ 32 ∷ [])))) ++ (choice_of groups default ++ 41 ∷ []) ≡ spaced (test ∷ []) ++ 41 ∷ (32 ∷ (result ++ 32 ∷ (choice_of groups default ++ 41 ∷ [])))
    later = simp (append_assoc, append-nil)

    first : listed (codes "ite" ∷ (test ∷ (result ∷ (choice_of groups default ∷ [])))) ≡ (opening true false test result ++ opened true) ++ (default ++ closings (suc n))
    first = begun ∙ ap (λ w. opening true false test result ++ w) closed ∙ sym (append_assoc (opening true false test result) (opened true) (default ++ closings (suc n)))

    follows : (opening false false test result ++ opened true) ++ (default ++ closings (suc n)) ≡ spaced (test ∷ []) ++ 41 ∷ (32 ∷ (result ++ 32 ∷ (choice_of groups default ++ 41 ∷ [])))
    follows = append_assoc (opening false false test result) (opened true) (default ++ closings (suc n)) ∙ ap (λ w. opening false false test result ++ w) (sym closed) ∙ later

    by : (gs : List GroupTexts) → groups ≡ gs
        → (choice_of (with_row false test result groups) default ≡ (opening true false test result ++ opened true) ++ (default ++ closings (suc n)))
        × Follows default (with_row false test result groups) ((opening false false test result ++ opened true) ++ (default ++ closings (suc n)))
    by [] e = subst (λ (gs : List GroupTexts). (choice_of (with_row false test result gs) default ≡ (opening true false test result ++ opened true) ++ (default ++ closings (suc n)))
        × Follows default (with_row false test result gs) ((opening false false test result ++ opened true) ++ (default ++ closings (suc n)))) (sym e)
        (ap (λ gs. listed (codes "ite" ∷ (test ∷ (result ∷ (choice_of gs default ∷ []))))) (sym e) ∙ first, (test, [], refl, follows ∙ ap (λ gs. spaced (test ∷ []) ++ 41 ∷ (32 ∷ (result ++ 32 ∷ (choice_of gs default ++ 41 ∷ [])))) e))
    by (g ∷ gs) e = subst (λ (gs : List GroupTexts). (choice_of (with_row false test result gs) default ≡ (opening true false test result ++ opened true) ++ (default ++ closings (suc n)))
        × Follows default (with_row false test result gs) ((opening false false test result ++ opened true) ++ (default ++ closings (suc n)))) (sym e)
        (ap (λ gs. listed (codes "ite" ∷ (test ∷ (result ∷ (choice_of gs default ∷ []))))) (sym e) ∙ first, (test, [], refl, follows ∙ ap (λ gs. spaced (test ∷ []) ++ 41 ∷ (32 ∷ (result ++ 32 ∷ (choice_of gs default ++ 41 ∷ [])))) e))

in_order : (rows : List RowTexts) (default : List ℕ) → Closes rows
    → (choice rows default ≡ openings true rows ++ (default ++ closings (ends rows)))
    × ((rows ≡ [] → ⊥) → Follows default (grouped rows) (openings false rows ++ (default ++ closings (ends rows))))
in_order [] default closes = (sym (append-nil default), λ some. absurd (some refl))
in_order (row ∷ rows) default closes =
    let later = in_order rows default (closes_later row rows closes) in
    let both = step row.joins (row_test row) row.result (grouped rows) (λ first. openings first rows) default (ends rows) later.0 (λ joins. later.1 (some rows closes joins)) in
    (both.0, λ nonempty. both.1)
  where
    some : (rs : List RowTexts) → Closes (row ∷ rs) → row.joins ≡ true → rs ≡ [] → ⊥
    some [] c joins e = let clash : true ≡ false = sym joins ∙ c in cc
    some (r ∷ rs) c joins e = cc

-- a choice is the openings of its rows, the default, and as many parentheses as groups
pub choice-in_order : (rows : List RowTexts) (default : List ℕ) → Closes rows → choice rows default ≡ openings true rows ++ (default ++ closings (ends rows))
choice-in_order rows default closes = (in_order rows default closes).0
