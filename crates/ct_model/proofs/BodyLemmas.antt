-- Tests, rows and choices from their parts, and what a table without arguments gives.
use Rattle.std.proofs.Common.{◌≡◌, ◌≢◌, ℕ, suc, ◌+◌, ◌<◌, ◌≤◌, ◌==◌, Bool, true, false, not, List, [], ◌∷◌, ◌++◌, length, take, get_or, slice_get, Option, None, Some, All, refl, sym, ap, ap₂, subst, ◌∙◌, arith, append_assoc, append-nil, codes, inl, inr}
use Rattle.std.specs.List.{AllZip}
use Rattle.std.proofs.lemmas.Option.{none-some, slice_get_cases, slice_get-get_or}
use Rattle.std.proofs.lemmas.List.{take_more, length-take, take_all}
use Rattle.std.proofs.lemmas.Slice.Zip.{AllZip-long}
use Rattle.ct_lemmas.proofs.Lists.{slice_get-push_cases}
use Rattle.ct_lemmas.proofs.Pairs.{AllZip-push}
use Rattle.ct_sorts.specs.Declarations.{Declarations}
use Rattle.ct_values.specs.declared.node.NodeId.{NodeId}
use Rattle.ct_values.specs.Graph.{Nodes}
use Rattle.ct_value_text.specs.ValueText.{IsValueText}
use Rattle.ct_eval.specs.declared.interp.Row.{Row}
use Rattle.ct_eval.specs.declared.interp.Table.{Table}
use Rattle.ct_model.specs.Within.{IsNode, IsRowWithin}
use Rattle.ct_model.specs.Listed.{spaced, listed}
use Rattle.ct_model.specs.TableText.{equation, equations, conjunction, RowTexts, row_test, AreRowTexts, AreJoined, have_one_result, choice, IsChoiceText, constant}
use Rattle.ct_model.specs.Opening.{before_test, after_test, opening, openings, begins_after, ended, ends, closings}
use Rattle.ct_model.proofs.WrittenLemmas.{conjunction-many, length-equations, openings-push, begins_after-push, ends-push, ends-few, Closes, choice-in_order}

-- the test of a row with one argument
pub test-one : (d : Declarations) (g : Nodes) (nodes : List NodeId) (z : NodeId) (old new : List ℕ) → length nodes ≡ 1
    → (text : List ℕ) × IsValueText d g (get_or nodes 0 z) text × (new ≡ old ++ equation 0 text)
    → (texts : List (List ℕ)) × AllZip (IsValueText d g) nodes texts × (new ≡ old ++ conjunction (equations 0 texts))
test-one d g [] z old new one h = absurd (omega (arith, one))
test-one d g (n ∷ []) z old new one h = (h.0 ∷ [], (h.1, tt), h.2)
test-one d g (n ∷ (m ∷ ns)) z old new one h = absurd (omega (arith, one))

-- and with more
pub test-many : (d : Declarations) (g : Nodes) (nodes : List NodeId) (texts : List (List ℕ)) (old begun all new : List ℕ) → length nodes ≢ 1
    → AllZip (IsValueText d g) nodes texts → begun ≡ old ++ codes "(and" → all ≡ begun ++ spaced (equations 0 texts) → new ≡ all ++ 41 ∷ []
    → new ≡ old ++ conjunction (equations 0 texts)
test-many d g nodes texts old begun all new many zipped p q r =
    let several : length (equations 0 texts) ≢ 1 = λ one. many (sym (AllZip-long (IsValueText d g) nodes texts zipped) ∙ sym (length-equations 0 texts) ∙ one) in
    let es = equations 0 texts in
    let regrouped : ((old ++ codes "(and") ++ spaced es) ++ 41 ∷ [] ≡ old ++ listed (codes "and" ∷ es) = simp append_assoc in
    r
    ∙ ap (λ w. w ++ 41 ∷ []) (q ∙ ap (λ w. w ++ spaced es) p)
    ∙ regrouped
    ∙ ap (λ w. old ++ w) (sym (conjunction-many (equations 0 texts) several))

-- what stands of a row before the rest
pub opening-parts : (first joins : Bool) (test result old begun tested new : List ℕ) → begun ≡ old ++ before_test first joins → tested ≡ begun ++ test
    → new ≡ tested ++ after_test first joins result → new ≡ old ++ opening first joins test result
opening-parts first joins test result old begun tested new p q r =
    let after = after_test first joins result in
    r
    ∙ ap (λ w. w ++ after) (q ∙ ap (λ w. w ++ test) p)
    ∙ append_assoc (old ++ before_test first joins) test after
    ∙ append_assoc old (before_test first joins) (test ++ after)

-- the last row stands together with none after it
pub joins_none : (rows : List Row) (r : ℕ) → r + 1 ≡ length rows → false ≡ have_one_result (slice_get rows r) (slice_get rows (suc r))
joins_none rows r e = elim (slice_get_cases rows (suc r)).1 [
  | inl within ↦ absurd (omega (arith, e, within.1))
  | inr past ↦ by (slice_get rows r) ∙ ap (have_one_result (slice_get rows r)) (sym past.1)
]
  where
    by : (o : Option Row) → false ≡ have_one_result o None
    by None = refl
    by (Some row) = refl

pub joins_at : (rows : List Row) (r : ℕ) (row next : Row) → r < length rows → (r + 1 ≡ length rows → ⊥)
    → ((get_or rows r row).result.0 == (get_or rows (r + 1) next).result.0) ≡ have_one_result (slice_get rows r) (slice_get rows (suc r))
joins_at rows r row next within more =
    let after : r + 1 ≡ suc r = omega arith in
    ap₂ have_one_result (sym (slice_get-get_or rows r row within)) (sym (slice_get-get_or rows (r + 1) next (omega (arith, within, more))))
    ∙ ap (λ k. have_one_result (slice_get rows r) (slice_get rows k)) after

-- rows that were written: the first so many, whether the next is the first of its group, and how many groups have ended
pub record AreOpened (d : Declarations) (g : Nodes) (rows : List Row) (written : ℕ) (first : Bool) (count : ℕ) (old now : List ℕ) : Type 0 where
  pub texts : List RowTexts
  pub zipped : AllZip (AreRowTexts d g) (take written rows) texts
  pub joined : AreJoined rows texts
  pub first_is : first ≡ begins_after true texts
  pub count_is : count ≡ ends texts
  pub now_is : now ≡ old ++ openings true texts

pub none_opened : (d : Declarations) (g : Nodes) (rows : List Row) (old : List ℕ) → AreOpened d g rows 0 true 0 old old
none_opened d g rows old = record {
  texts = [];
  zipped = tt;
  joined = λ i text at. absurd (none-some text at);
  first_is = refl;
  count_is = refl;
  now_is = sym (append-nil old);
}

joined_push : (rows : List Row) (texts : List RowTexts) (text : RowTexts) → AreJoined rows texts → text.joins ≡ have_one_result (slice_get rows (length texts)) (slice_get rows (suc (length texts))) → AreJoined rows (texts ++ text ∷ [])
joined_push rows texts text joined is i t at =
    elim (slice_get-push_cases texts text t i at) [
      | inl old ↦ joined i t old
      | inr last ↦ subst (λ k. t.joins ≡ have_one_result (slice_get rows k) (slice_get rows (suc k))) (sym last.0) (ap (λ (x : RowTexts). x.joins) (sym last.1) ∙ is)
    ]

pub one_more_opened : (d : Declarations) (g : Nodes) (rows : List Row) (r : ℕ) (first joins : Bool) (count : ℕ) (row : Row) (old now new : List ℕ)
    → r < length rows → row ≡ get_or rows r row → joins ≡ have_one_result (slice_get rows r) (slice_get rows (suc r)) → AreOpened d g rows r first count old now
    → (texts : RowTexts) × AreRowTexts d g row texts × (texts.joins ≡ joins) × (new ≡ now ++ opening first joins (row_test texts) texts.result)
    → AreOpened d g rows (r + 1) (not joins) (count + ended joins 0) old new
one_more_opened d g rows r first joins count row old now new within at is before last =
    let t = last.0 in
    let ts = before.texts in
    let long : r ≡ length ts = omega (arith, length-take {A = Row}, AllZip-long (AreRowTexts d g) (take r rows) ts before.zipped) in
    record {
      texts = ts ++ t ∷ [];
      zipped = subst (λ xs. AllZip (AreRowTexts d g) xs (ts ++ t ∷ [])) (sym (take_more rows r row within))
          (AllZip-push (AreRowTexts d g) (take r rows) ts (get_or rows r row) t before.zipped (subst (λ x. AreRowTexts d g x t) at last.1));
      joined = joined_push rows ts t before.joined (last.2 ∙ is ∙ ap (λ k. have_one_result (slice_get rows k) (slice_get rows (suc k))) long);
      first_is = sym (begins_after-push true ts t ∙ ap not last.2);
      count_is = ap (λ k. k + ended joins 0) before.count_is ∙ ap (λ b. ends ts + ended b 0) (sym last.2) ∙ sym (ends-push ts t);
      now_is =
          last.3
          ∙ ap (λ w. w ++ opening first joins (row_test t) t.result) before.now_is
          ∙ append_assoc old (openings true ts) (opening first joins (row_test t) t.result)
          ∙ ap₂ (λ a b. old ++ (openings true ts ++ opening a b (row_test t) t.result)) before.first_is (sym last.2)
          ∙ ap (λ w. old ++ w) (sym (openings-push true ts t));
    }

pub opened_few : (d : Declarations) (g : Nodes) (rows : List Row) (r : ℕ) (first : Bool) (count : ℕ) (old now : List ℕ) → AreOpened d g rows r first count old now → count ≤ r
opened_few d g rows r first count old now are =
    omega (arith, are.count_is, ends-few are.texts, length-take {A = Row}, AllZip-long (AreRowTexts d g) (take r rows) are.texts are.zipped)

pub all_opened : (d : Declarations) (g : Nodes) (rows : List Row) (r : ℕ) (first : Bool) (count : ℕ) (old now : List ℕ) → length rows ≤ r → AreOpened d g rows r first count old now
    → (texts : List RowTexts) × AllZip (AreRowTexts d g) rows texts × AreJoined rows texts × (count ≡ ends texts) × (now ≡ old ++ openings true texts)
all_opened d g rows r first count old now all are =
    (are.texts, subst (λ xs. AllZip (AreRowTexts d g) xs are.texts) (take_all r rows all) are.zipped, are.joined, are.count_is, are.now_is)

-- the last row of all ends its group
pub closes_at_end : (d : Declarations) (g : Nodes) (rows : List Row) (texts : List RowTexts) → AllZip (AreRowTexts d g) rows texts → AreJoined rows texts → Closes texts
closes_at_end d g [] [] zipped joined = tt
closes_at_end d g [] (t ∷ ts) zipped joined = absurd zipped
closes_at_end d g (r ∷ rs) [] zipped joined = absurd zipped
closes_at_end d g (r ∷ []) (t ∷ []) zipped joined = joined 0 t refl
closes_at_end d g (r ∷ []) (t ∷ (u ∷ ts)) zipped joined = absurd zipped.1
closes_at_end d g (r ∷ (q ∷ rs)) (t ∷ []) zipped joined = absurd zipped.1
closes_at_end d g (r ∷ (q ∷ rs)) (t ∷ (u ∷ ts)) zipped joined = closes_at_end d g (q ∷ rs) (u ∷ ts) zipped.1 (λ i text at. joined (suc i) text at)

-- a choice
pub choice-parts : (d : Declarations) (g : Nodes) (table : Table) (rows : List Row) (count : ℕ) (old opened valued new : List ℕ) → rows ≡ table.rows
    → (texts : List RowTexts) × AllZip (AreRowTexts d g) rows texts × AreJoined rows texts × (count ≡ ends texts) × (opened ≡ old ++ openings true texts)
    → (text : List ℕ) × IsValueText d g table.default text × (valued ≡ opened ++ text)
    → new ≡ valued ++ closings count
    → (text : List ℕ) × IsChoiceText d g table text × (new ≡ old ++ text)
choice-parts d g table rows count old opened valued new same first last p =
    let texts = first.0 in
    let default = last.0 in (
      choice texts default,
      record {
        row_texts = texts;
        rows_are = subst (λ rs. AllZip (AreRowTexts d g) rs texts) same first.1;
        joined = subst (λ rs. AreJoined rs texts) same first.2;
        default_text = default;
        default_is = last.1;
        text_is = refl;
      },
      p
          ∙ ap (λ w. w ++ closings count) (last.2 ∙ ap (λ w. w ++ default) first.4)
          ∙ append_assoc (old ++ openings true texts) default (closings count)
          ∙ append_assoc old (openings true texts) (default ++ closings count)
          ∙ ap (λ k. old ++ (openings true texts ++ (default ++ closings k))) first.3
          ∙ ap (λ w. old ++ w) (sym (choice-in_order texts default (closes_at_end d g rows texts first.1 first.2))),
    )

-- what a table without arguments gives is a node
pub constant-within : (g : Nodes) (rows : List Row) (default : NodeId) → All (IsRowWithin g) rows → IsNode g default → IsNode g (constant rows default)
constant-within g [] default all within = within
constant-within g (row ∷ rows) default all within = let first : IsRowWithin g row = all 0 row (omega arith) in first.result_within
