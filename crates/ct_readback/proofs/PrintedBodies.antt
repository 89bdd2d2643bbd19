-- What bodies of tables read back as where they were printed.
use Rattle.std.proofs.Common.{◌≡◌, ℕ, suc, ◌≤◌, Bool, true, false, not, ◌&&◌, ◌==◌, List, [], ◌∷◌, ◌++◌, length, flat_map, All, Option, None, Some, option_map, option_and_then, slice_get, refl, sym, ap, ap₂, subst, ◌∙◌, arith, codes, inl, inr, true≢false, if◌then◌else◌}
use Rattle.std.specs.List.{AllZip}
use Rattle.std.proofs.lemmas.Option.{none-some, same_Some}
use Rattle.std.proofs.lemmas.Bool.Decides.{nat_tests, Decides-eqb}
use Rattle.std.proofs.lemmas.List.Elements.{Contains-append_cases, All-cons, All-nil}
use Rattle.ct_lemmas.proofs.Booleans.{both_true}
use Rattle.ct_sorts.specs.declared.ids.SortId.{SortId}
use Rattle.ct_sorts.specs.Declarations.{Declarations}
use Rattle.ct_sexpr.specs.Expression.{Expression, leaf, list, Expressions, none, more, word}
use Rattle.ct_sexpr.specs.Written.{canonical, canonical_each}
use Rattle.ct_sexpr.specs.Readable.{AreReadable}
use Rattle.ct_values.specs.declared.node.NodeId.{NodeId}
use Rattle.ct_values.specs.Graph.{Nodes}
use Rattle.ct_values.specs.Agreement.{Point}
use Rattle.ct_values.specs.Fitting.{HasNodeSort}
use Rattle.ct_value_text.specs.ValueText.{IsValueText}
use Rattle.ct_value_text.proofs.SortTextLemmas.{TextTheorems}
use Rattle.ct_eval.specs.declared.interp.Row.{Row}
use Rattle.ct_eval.specs.declared.interp.Table.{Table}
use Rattle.ct_eval.specs.Interpretation.{FitsRow, FitsTable}
use Rattle.ct_model.specs.Listed.{listed}
use Rattle.ct_model.specs.TableText.{RowTexts, row_test, GroupTexts, alone, with_row, grouped, disjunction, choice_of as text_of, constant, AreRowTexts, AreJoined, have_one_result, IsBodyText}
use Rattle.ct_readback.specs.Words.{is_word, is_numbered, number_bound}
use Rattle.ct_readback.specs.Parts.{holds, only_if, three_of, parts_after, count}
use Rattle.ct_readback.specs.Cycles.{HasDataCycle}
use Rattle.ct_readback.specs.ValueAt.{is_value, IsValueAt}
use Rattle.ct_readback.specs.Rows.{equation_value, conjuncts, is_equation, are_equations, is_test, are_all_tests, are_tests, are_tests_by, is_choice, is_body, body_row, choice_of, or_of, tests_in, first_row, after_tests}
use Rattle.ct_readback.specs.ItemAt.{RowValues, TableValues, IsTestAt, IsBodyAt, SaysTable, values_in_row, values_in, HasCycle, HasValue, IsRowFor, IsTableFor}
use Rattle.ct_readback.proofs.PrintedValues.{IsPrintable, ValueReads, IsPrinted, value_printed}
use Rattle.ct_readback.proofs.BodyLemmas.{row_of_choice, row_after}
use Rattle.ct_readback.proofs.PrintedWords.{word_is}
use Rattle.ct_readback.proofs.PrintedRows.{AreWritten, acyclic_more, acyclic_none, listed_written, TestReads, test_printed}

-- ---- what is no row is a value

only_false : {X : Type 0} (b : Bool) (x : X) → only_if b x ≡ None → b ≡ false
only_false true x h = absurd (none-some x (sym h))
only_false false x h = refl

pub is_choice_value : (p : ℕ) (e : Expression) → parts_after (codes "ite") e ≡ None → is_choice p e ≡ is_value e
is_choice_value p (leaf a) h = refl
is_choice_value p (list none) h = refl
is_choice_value p (list (more w none)) h = refl
is_choice_value p (list (more w (more t none))) h = refl
is_choice_value p (list (more w (more t (more r none)))) h = refl
is_choice_value p (list (more w (more t (more r (more rest none))))) h =
    ap (λ (b : Bool). if b then are_tests p t && (is_value r && is_choice p rest) else is_value (list (more w (more t (more r (more rest none))))))
    (only_false (is_word (codes "ite") w) (more t (more r (more rest none))) h)
is_choice_value p (list (more w (more t (more r (more rest (more x es)))))) h = refl

no_row_in : (p : ℕ) (e : Expression) → parts_after (codes "ite") e ≡ None → body_row p e ≡ None
no_row_in p e h = ap (λ o. option_map first_row (option_and_then (λ (row : Expression × Expression × Expression). only_if (not (p == 0)) row) (option_and_then three_of o))) h

-- ---- cycles among the values of a table

cycle_cases : (d : Declarations) (ps qs : List Point) → (HasCycle d ps → ⊥) → (HasCycle d qs → ⊥) → HasCycle d (ps ++ qs) → ⊥
cycle_cases d ps qs first rest (p, inside, cycle) =
    elim (Contains-append_cases ps qs p inside) [
      | inl e ↦ first (p, e, cycle)
      | inr e ↦ rest (p, e, cycle)
    ]

-- those of rows
abbrev pub values_of_rows : List RowValues → List Point
values_of_rows rows = flat_map values_in_row rows

-- ---- rows one inside the other

pub record ChoiceReads (d : Declarations) (g : Nodes) (args : List SortId) (s : SortId) (rows : List Row) (default : NodeId) (e : Expression) : Type 0 where
  pub row_values : List RowValues
  pub value : Point
  pub said : IsBodyAt d args s e row_values value
  pub only : (rs : List RowValues) (p : Point) → IsBodyAt d args s e rs p → (rs ≡ row_values) × (p ≡ value)
  pub same_rows : AllZip (IsRowFor g) row_values rows
  pub same_default : HasValue g value default
  pub acyclic_rows : HasCycle d (values_of_rows row_values) → ⊥
  pub acyclic_default : HasDataCycle d value.graph → ⊥
  pub form : is_choice (length args) e ≡ true

-- the default alone
default_reads : (d : Declarations) (g : Nodes) (args : List SortId) (s : SortId) (default : NodeId) (e : Expression) → ValueReads d g s default e → ChoiceReads d g args s [] default e
default_reads d g args s default e reads =
    let nothing : body_row (length args) e ≡ None = no_row_in (length args) e reads.no_row in
    record {
      row_values = [];
      value = reads.value;
      said = (nothing, reads.said);
      only = λ rs p said. by nothing rs p said;
      same_rows = tt;
      same_default = reads.same;
      acyclic_rows = acyclic_none d;
      acyclic_default = reads.acyclic;
      form = is_choice_value (length args) e reads.no_row ∙ reads.form;
    }
  where
    by : body_row (length args) e ≡ None → (rs : List RowValues) (p : Point) → IsBodyAt d args s e rs p → (rs ≡ []) × (p ≡ reads.value)
    by nothing [] p said = (refl, reads.only p said.1)
    by nothing (r ∷ rs) p said = absurd (none-some (said.1.test, said.1.result, said.0) (sym nothing ∙ said.1.written))

-- the values of a row
abbrev pub values_from : List Point → Point → RowValues
values_from args result = record { args = args; result = result }

some_parameters : (n : ℕ) → (suc n == 0) ≡ false
some_parameters n = grind (arith, nat_tests)

-- a row, and what stands where its test fails
row_reads : (d : Declarations) (g : Nodes) (a : SortId) (bs : List SortId) (s : SortId) (row : Row) (rows : List Row) (default : NodeId) (body test result rest : Expression)
    → body_row (length (a ∷ bs)) body ≡ Some (test, result, rest) → is_choice (length (a ∷ bs)) body ≡ true
    → TestReads d g (a ∷ bs) row.args test → ValueReads d g s row.result result → ChoiceReads d g (a ∷ bs) s rows default rest → ChoiceReads d g (a ∷ bs) s (row ∷ rows) default body
row_reads d g a bs s row rows default body test result rest written form tests results others = record {
  row_values = values_from tests.values results.value ∷ others.row_values;
  value = others.value;
  said = (rest, record { test = test; result = result; written = written; said = record { args_are = tests.said; result_is = results.said } }, others.said);
  only = λ rs p said. by rs p said;
  same_rows = (record { args = tests.same; result = results.same }, others.same_rows);
  same_default = others.same_default;
  acyclic_rows = cycle_cases d (values_in_row (values_from tests.values results.value)) (values_of_rows others.row_values)
      (cycle_cases d tests.values (results.value ∷ []) tests.acyclic (acyclic_more d results.value [] results.acyclic (acyclic_none d)))
      others.acyclic_rows;
  acyclic_default = others.acyclic_default;
  form = form;
}
  where
    by : (rs : List RowValues) (p : Point) → IsBodyAt d (a ∷ bs) s body rs p → (rs ≡ values_from tests.values results.value ∷ others.row_values) × (p ≡ others.value)
    by [] p said = absurd (none-some (test, result, rest) (sym said.0 ∙ written))
    by (r ∷ rs) p said =
        let parts : (said.1.test, said.1.result, said.0) ≡ (test, result, rest) = same_Some (said.1.test, said.1.result, said.0) (test, result, rest) (sym said.1.written ∙ written) in
        let test_is : said.1.test ≡ test = ap (λ (x : Expression × Expression × Expression). x.0) parts in
        let result_is : said.1.result ≡ result = ap (λ (x : Expression × Expression × Expression). x.1) parts in
        let rest_is : said.0 ≡ rest = ap (λ (x : Expression × Expression × Expression). x.2) parts in
        let args : r.args ≡ tests.values = tests.only r.args (subst (λ (x : Expression). IsTestAt d (a ∷ bs) x r.args) test_is said.1.said.args_are) in
        let value : r.result ≡ results.value = results.only r.result (subst (λ (x : Expression). IsValueAt d s x r.result) result_is said.1.said.result_is) in
        let row_is : r ≡ values_from tests.values results.value = ap₂ values_from args value in
        let later = others.only rs p (subst (λ (x : Expression). IsBodyAt d (a ∷ bs) s x rs p) rest_is said.2) in
        (ap₂ (λ (x : RowValues) (xs : List RowValues). x ∷ xs) row_is later.0, later.1)

-- what tests of rows with one result read as
abbrev pub AreTestsFor : Declarations → Nodes → List SortId → List Row → Expressions → Type 0
AreTestsFor d g sorts [] none = Unit {0}
AreTestsFor d g sorts [] (more e es) = ⊥
AreTestsFor d g sorts (row ∷ rows) none = ⊥
AreTestsFor d g sorts (row ∷ rows) (more e es) = TestReads d g sorts row.args e × AreTestsFor d g sorts rows es

-- these rows have this node as their result
abbrev HaveResult : NodeId → List Row → Type 0
HaveResult n rows = All (λ (row : Row). row.result ≡ n) rows

tests_form : (d : Declarations) (g : Nodes) (sorts : List SortId) (rows : List Row) (tests : Expressions) → AreTestsFor d g sorts rows tests → are_all_tests (length sorts) tests ≡ true
tests_form d g sorts [] none reads = refl
tests_form d g sorts [] (more e es) reads = absurd reads
tests_form d g sorts (row ∷ rows) none reads = absurd reads
tests_form d g sorts (row ∷ rows) (more e es) reads = both_true (is_test (length sorts) e) (are_all_tests (length sorts) es) reads.0.form (tests_form d g sorts rows es reads.1)

-- several tests in an `or`
group_reads : (d : Declarations) (g : Nodes) (a : SortId) (bs : List SortId) (s : SortId) (n : NodeId) (group rows : List Row) (default : NodeId) (tests : Expressions) (result rest : Expression)
    → AreTestsFor d g (a ∷ bs) group tests → HaveResult n group → ValueReads d g s n result → ChoiceReads d g (a ∷ bs) s rows default rest
    → ChoiceReads d g (a ∷ bs) s (group ++ rows) default (after_tests tests result rest)
group_reads d g a bs s n [] rows default none result rest tests same results others = others
group_reads d g a bs s n [] rows default (more e es) result rest tests same results others = absurd tests
group_reads d g a bs s n (row ∷ group) rows default none result rest tests same results others = absurd tests
group_reads d g a bs s n (row ∷ group) rows default (more e es) result rest tests same results others =
    let own : row.result ≡ n = same 0 row (omega arith) in
    let all = tests_form d g (a ∷ bs) (row ∷ group) (more e es) tests in
    row_reads d g a bs s row (group ++ rows) default (after_tests (more e es) result rest) e result (after_tests es result rest)
    (row_after (length (a ∷ bs)) e es result rest (some_parameters (length bs)))
    (both_true (are_all_tests (length (a ∷ bs)) (more e es)) (is_value result && is_choice (length (a ∷ bs)) rest) all (both_true (is_value result) (is_choice (length (a ∷ bs)) rest) results.form others.form))
    tests.0 (subst (λ (m : NodeId). ValueReads d g s m result) (sym own) results)
    (group_reads d g a bs s n group rows default es result rest tests.1 (λ i r at. same (suc i) r (omega (arith, at))) results others)

-- a test is no `or`
equation_word : (i : ℕ) (w : Expression) (es : Expressions) → is_equation i (list (more w es)) ≡ true → is_word (codes "=") w ≡ true
equation_word i w none h = absurd (true≢false (sym h))
equation_word i w (more b none) h = absurd (true≢false (sym h))
equation_word i w (more b (more c none)) h = by (is_word (codes "=") w) refl h
  where
    by : (x : Bool) → is_word (codes "=") w ≡ x → holds is_value (only_if (x && is_numbered (codes "@x") i b) c) ≡ true → is_word (codes "=") w ≡ true
    by true e k = e
    by false e k = absurd (true≢false (sym k))
equation_word i w (more b (more c (more x es))) h = absurd (true≢false (sym h))

conjunct_word : (n : ℕ) (w : Expression) (es : Expressions) → holds (are_equations 0) (conjuncts n (list (more w es))) ≡ true → is_word (codes "and") w ≡ true
conjunct_word n w es h = by (is_word (codes "and") w) refl h
  where
    by : (x : Bool) → is_word (codes "and") w ≡ x → holds (are_equations 0) (option_and_then (λ (xs : Expressions). only_if (count xs == n) xs) (only_if x es)) ≡ true → is_word (codes "and") w ≡ true
    by true e k = e
    by false e k = absurd (true≢false (sym k))

other_word : (text : List ℕ) (w : Expression) (es : Expressions) → is_word (codes "or") (word text) ≡ false → is_word text w ≡ true → tests_in (list (more w es)) ≡ None
other_word text w es differs h = ap (λ (x : Expression). only_if (is_word (codes "or") x) es) (word_is text w h) ∙ ap (λ (b : Bool). only_if b es) differs

test_alone : (n : ℕ) (e : Expression) → is_test n e ≡ true → tests_in e ≡ None
test_alone n (leaf a) h = refl
test_alone n (list none) h = refl
test_alone n (list (more w es)) h = by (n == 1) h
  where
    by : (b : Bool) → (if b then is_equation 0 (list (more w es)) else holds (are_equations 0) (conjuncts n (list (more w es)))) ≡ true → tests_in (list (more w es)) ≡ None
    by true k = other_word (codes "=") w es refl (equation_word 0 w es k)
    by false k = other_word (codes "and") w es refl (conjunct_word n w es k)

-- nodes of one number
one_node : (a b : NodeId) → (a.0 == b.0) ≡ true → a ≡ b
one_node a b h = ap (λ (k : ℕ). record { 0 = k }) ((Decides-eqb a.0 b.0).0 h)

same_head : {x y : Row} {xs ys : List Row} → x ∷ xs ≡ y ∷ ys → x ≡ y
same_head {x} {y} e = same_Some x y (ap (λ (zs : List Row). slice_get zs 0) e)

-- one test alone
single_reads : (d : Declarations) (g : Nodes) (a : SortId) (bs : List SortId) (s : SortId) (row : Row) (rows : List Row) (default : NodeId) (test result rest : Expression)
    → TestReads d g (a ∷ bs) row.args test → tests_in test ≡ None → ValueReads d g s row.result result → ChoiceReads d g (a ∷ bs) s rows default rest
    → ChoiceReads d g (a ∷ bs) s (row ∷ rows) default (choice_of test result rest)
single_reads d g a bs s row rows default test result rest tests alone results others =
    let n = length (a ∷ bs) in
    row_reads d g a bs s row rows default (choice_of test result rest) test result rest
    (row_of_choice n (choice_of test result rest) test result rest None (ap (λ (b : Bool). only_if (not b) (test, result, rest)) (some_parameters (length bs))) alone)
    (both_true (are_tests n test) (is_value result && is_choice n rest) (ap (are_tests_by n test) alone ∙ tests.form) (both_true (is_value result) (is_choice n rest) results.form others.form))
    tests results others

-- ---- bodies

pub record BodyReads (d : Declarations) (g : Nodes) (args : List SortId) (s : SortId) (table : Table) (e : Expression) : Type 0 where
  pub values : TableValues
  pub said : SaysTable d args s e values
  pub only : (other : TableValues) → SaysTable d args s e other → other ≡ values
  pub same : IsTableFor g values table
  pub acyclic : HasCycle d (values_in values) → ⊥
  pub form : is_body (length args) e ≡ true

-- the table that is printed: without arguments what it gives, alone
abbrev pub printed_table : List SortId → Table → Table
printed_table [] table = record { rows = []; default = constant table.rows table.default }
printed_table (s ∷ ss) table = table

body_reads : (d : Declarations) (g : Nodes) (args : List SortId) (s : SortId) (table : Table) (e : Expression) → ChoiceReads d g args s table.rows table.default e → is_body (length args) e ≡ true → BodyReads d g args s table e
body_reads d g args s table e reads form = record {
  values = record { rows = reads.row_values; default = reads.value };
  said = reads.said;
  only = λ other said.
      let both = reads.only other.rows other.default said in
      ap₂ (λ (rs : List RowValues) (p : Point). record { rows = rs; default = p }) both.0 both.1;
  same = record { rows = reads.same_rows; default = reads.same_default };
  acyclic = cycle_cases d (values_of_rows reads.row_values) (reads.value ∷ []) reads.acyclic_rows (acyclic_more d reads.value [] reads.acyclic_default (acyclic_none d));
  form = form;
}

constant_sorted : (d : Declarations) (g : Nodes) (s : SortId) (table : Table) → FitsTable d g [] s table → HasNodeSort d g (constant table.rows table.default) s
constant_sorted d g s table fits = by table.rows (λ i row at. fits.rows_fit i row at)
  where
    by : (rows : List Row) → ((i : ℕ) (row : Row) → slice_get rows i ≡ Some row → FitsRow d g [] s row) → HasNodeSort d g (constant rows table.default) s
    by [] fit = fits.default_fits
    by (row ∷ rows) fit = (fit 0 row refl).result_fits

module _ (theorems : TextTheorems) (d : Declarations) (g : Nodes) (printable : IsPrintable d g) where
  -- rows of one result that were printed together, what stands after them, and that all of this reads as it should
  record IsGroupPrinted (a : SortId) (bs : List SortId) (s : SortId) (rows : List Row) (default : NodeId) (group : GroupTexts) (after : List ℕ) : Type 0 where
    first : Row
    others : List Row
    later : List Row
    rows_are : rows ≡ first ∷ (others ++ later)
    node : NodeId
    same : HaveResult node (first ∷ others)
    tests : Expressions
    readable : AreReadable tests
    written_as : AreWritten group.tests tests
    read : AreTestsFor d g (a ∷ bs) (first ∷ others) (canonical_each tests)
    result : IsPrinted group.result (ValueReads d g s node)
    rest : IsPrinted after (ChoiceReads d g (a ∷ bs) s later default)

  -- groups that were printed
  abbrev AreGroupsPrinted : SortId → List SortId → SortId → List Row → NodeId → List ℕ → List GroupTexts → Type 0
  AreGroupsPrinted a bs s rows default text [] = (rows ≡ []) × IsPrinted text (ChoiceReads d g (a ∷ bs) s rows default)
  AreGroupsPrinted a bs s rows default text (group ∷ groups) = IsGroupPrinted a bs s rows default group (text_of groups text)

  group_choice : (a : SortId) (bs : List SortId) (s : SortId) (rows : List Row) (default : NodeId) (group : GroupTexts) (after : List ℕ) → IsGroupPrinted a bs s rows default group after
      → IsPrinted (listed (codes "ite" ∷ (disjunction group.tests ∷ (group.result ∷ (after ∷ []))))) (ChoiceReads d g (a ∷ bs) s rows default)
  group_choice a bs s rows default group after is =
      subst (λ (rs : List Row). IsPrinted (listed (codes "ite" ∷ (disjunction group.tests ∷ (group.result ∷ (after ∷ []))))) (ChoiceReads d g (a ∷ bs) s rs default)) (sym is.rows_are)
      (by group.tests is.tests is.others is.readable is.written_as is.read is.same)
    where
      by : (texts : List (List ℕ)) (tests : Expressions) (others : List Row) → AreReadable tests → AreWritten texts tests → AreTestsFor d g (a ∷ bs) (is.first ∷ others) (canonical_each tests) → HaveResult is.node (is.first ∷ others)
          → IsPrinted (listed (codes "ite" ∷ (disjunction texts ∷ (group.result ∷ (after ∷ []))))) (ChoiceReads d g (a ∷ bs) s (is.first ∷ (others ++ is.later)) default)
      by [] none others readable w_is read same = absurd read
      by [] (more e es) others readable w_is read same = absurd w_is
      by (t ∷ ts) none others readable w_is read same = absurd w_is
      by (t ∷ []) (more e none) [] readable w_is read same =
          let own : is.first.result ≡ is.node = same 0 is.first (omega arith) in
          record {
            printed = choice_of e is.result.printed is.rest.printed;
            readable = (refl, (readable.0, (is.result.readable, (is.rest.readable, tt))));
            text_is = listed_written (codes "ite" ∷ (t ∷ (group.result ∷ (after ∷ [])))) (more (word (codes "ite")) (more e (more is.result.printed (more is.rest.printed none)))) (refl, (w_is.0, (is.result.text_is, (is.rest.text_is, tt))));
            reads = single_reads d g a bs s is.first is.later default (canonical e) (canonical is.result.printed) (canonical is.rest.printed) read.0 (test_alone (length (a ∷ bs)) (canonical e) read.0.form)
                (subst (λ (m : NodeId). ValueReads d g s m (canonical is.result.printed)) (sym own) is.result.reads) is.rest.reads;
          }
      by (t ∷ []) (more e none) (o ∷ os) readable w_is read same = absurd read.1
      by (t ∷ []) (more e (more f es)) others readable w_is read same = absurd w_is.1
      by (t ∷ (u ∷ ts)) (more e none) others readable w_is read same = absurd w_is.1
      by (t ∷ (u ∷ ts)) (more e (more f es)) others readable w_is read same =
          let tests = more e (more f es) in
          record {
            printed = choice_of (or_of tests) is.result.printed is.rest.printed;
            readable = (refl, ((refl, readable), (is.result.readable, (is.rest.readable, tt))));
            text_is = listed_written (codes "ite" ∷ (listed (codes "or" ∷ (t ∷ (u ∷ ts))) ∷ (group.result ∷ (after ∷ [])))) (more (word (codes "ite")) (more (or_of tests) (more is.result.printed (more is.rest.printed none))))
                (refl, (listed_written (codes "or" ∷ (t ∷ (u ∷ ts))) (more (word (codes "or")) tests) (refl, w_is), (is.result.text_is, (is.rest.text_is, tt))));
            reads = group_reads d g a bs s is.node (is.first ∷ others) is.later default (canonical_each tests) (canonical is.result.printed) (canonical is.rest.printed) read same is.result.reads is.rest.reads;
          }

  groups_choice : (a : SortId) (bs : List SortId) (s : SortId) (rows : List Row) (default : NodeId) (text : List ℕ) (groups : List GroupTexts) → AreGroupsPrinted a bs s rows default text groups
      → IsPrinted (text_of groups text) (ChoiceReads d g (a ∷ bs) s rows default)
  groups_choice a bs s rows default text [] are = are.1
  groups_choice a bs s rows default text (group ∷ groups) are = group_choice a bs s rows default group (text_of groups text) are

  -- a row alone before groups
  alone_printed : (a : SortId) (bs : List SortId) (s : SortId) (row : Row) (rows : List Row) (default : NodeId) (test result after : List ℕ)
      → IsPrinted test (TestReads d g (a ∷ bs) row.args) → IsPrinted result (ValueReads d g s row.result) → IsPrinted after (ChoiceReads d g (a ∷ bs) s rows default)
      → IsGroupPrinted a bs s (row ∷ rows) default (alone test result) after
  alone_printed a bs s row rows default test result after tests results rest = record {
    first = row;
    others = [];
    later = rows;
    rows_are = refl;
    node = row.result;
    same = λ i r at. single i r at;
    tests = more tests.printed none;
    readable = (tests.readable, tt);
    written_as = (tests.text_is, tt);
    read = (tests.reads, tt);
    result = results;
    rest = rest;
  }
    where
      single : HaveResult row.result (row ∷ [])
      single = All-cons (λ (r : Row). r.result ≡ row.result) row [] refl (All-nil (λ (r : Row). r.result ≡ row.result))

  -- a row that has the result of the group after it
  joined_printed : (a : SortId) (bs : List SortId) (s : SortId) (row next : Row) (rows : List Row) (default : NodeId) (test after : List ℕ) (group : GroupTexts)
      → IsPrinted test (TestReads d g (a ∷ bs) row.args) → row.result ≡ next.result → IsGroupPrinted a bs s (next ∷ rows) default group after
      → IsGroupPrinted a bs s (row ∷ (next ∷ rows)) default (record { tests = test ∷ group.tests; result = group.result }) after
  joined_printed a bs s row next rows default test after group tests one is =
      let next_is : next ≡ is.first = same_head is.rows_are in
      let own : row.result ≡ is.node = one ∙ ap (λ (r : Row). r.result) next_is ∙ is.same 0 is.first (omega arith) in
      record {
        first = row;
        others = is.first ∷ is.others;
        later = is.later;
        rows_are = ap (λ (rs : List Row). row ∷ rs) is.rows_are;
        node = is.node;
        same = All-cons (λ (r : Row). r.result ≡ is.node) row (is.first ∷ is.others) own is.same;
        tests = more tests.printed is.tests;
        readable = (tests.readable, is.readable);
        written_as = (tests.text_is, is.written_as);
        read = (tests.reads, is.read);
        result = is.result;
        rest = is.rest;
      }

  -- one row before those that were printed
  row_printed : (a : SortId) (bs : List SortId) (s : SortId) (row : Row) (rows : List Row) (default : NodeId) (text : List ℕ) (joins : Bool) (test result : List ℕ) (groups : List GroupTexts)
      → joins ≡ have_one_result (Some row) (slice_get rows 0) → IsPrinted test (TestReads d g (a ∷ bs) row.args) → (joins ≡ false → IsPrinted result (ValueReads d g s row.result))
      → AreGroupsPrinted a bs s rows default text groups → AreGroupsPrinted a bs s (row ∷ rows) default text (with_row joins test result groups)
  row_printed a bs s row rows default text false test result [] joined tests results rest = alone_printed a bs s row rows default test result text tests (results refl) rest.1
  row_printed a bs s row rows default text false test result (group ∷ groups) joined tests results rest =
      alone_printed a bs s row rows default test result (text_of (group ∷ groups) text) tests (results refl) (groups_choice a bs s rows default text (group ∷ groups) rest)
  row_printed a bs s row rows default text true test result [] joined tests results rest =
      let clash : true ≡ false = joined ∙ ap (λ (rs : List Row). have_one_result (Some row) (slice_get rs 0)) rest.0 in cc
  row_printed a bs s row [] default text true test result (group ∷ groups) joined tests results rest = let clash : true ≡ false = joined in cc
  row_printed a bs s row (next ∷ rows) default text true test result (group ∷ groups) joined tests results rest =
      joined_printed a bs s row next rows default test (text_of groups text) group tests (one_node row.result next.result (sym joined)) rest

  rows_printed : (a : SortId) (bs : List SortId) (s : SortId) (rows : List Row) (texts : List RowTexts) (default : NodeId) (text : List ℕ) → length (a ∷ bs) ≤ number_bound
      → ((i : ℕ) (row : Row) → slice_get rows i ≡ Some row → FitsRow d g (a ∷ bs) s row) → HasNodeSort d g default s
      → AllZip (AreRowTexts d g) rows texts → AreJoined rows texts → IsValueText d g default text → AreGroupsPrinted a bs s rows default text (grouped texts)
  rows_printed a bs s [] [] default text few fit sorted are joined is =
      let first = value_printed theorems d g s default text printable sorted is in
      (refl, record { printed = first.printed; readable = first.readable; text_is = first.text_is; reads = default_reads d g (a ∷ bs) s default (canonical first.printed) first.reads })
  rows_printed a bs s [] (t ∷ ts) default text few fit sorted are joined is = absurd are
  rows_printed a bs s (row ∷ rows) [] default text few fit sorted are joined is = absurd are
  rows_printed a bs s (row ∷ rows) (t ∷ ts) default text few fit sorted are joined is =
      let own = fit 0 row refl in
      let test = test_printed theorems d g printable a bs row.args t.args few own.args_fit are.0.args_are in
      let rest = rows_printed a bs s rows ts default text few (λ i r at. fit (suc i) r at) sorted are.1 (λ i u at. joined (suc i) u at) is in
      row_printed a bs s row rows default text t.joins (row_test t) t.result (grouped ts) (joined 0 t refl) test (λ e. value_printed theorems d g s row.result t.result printable own.result_fits (are.0.result_is e)) rest

  pub body_printed : (args : List SortId) (s : SortId) (table : Table) (text : List ℕ) → length args ≤ number_bound → FitsTable d g args s table → IsBodyText d g args table text
      → IsPrinted text (BodyReads d g args s (printed_table args table))
  body_printed [] s table text few fits is =
      let value = constant table.rows table.default in
      let first = value_printed theorems d g s value text printable (constant_sorted d g s table fits) is in
      record {
        printed = first.printed;
        readable = first.readable;
        text_is = first.text_is;
        reads = body_reads d g [] s (record { rows = []; default = value }) (canonical first.printed) (default_reads d g [] s value (canonical first.printed) first.reads) first.reads.form;
      }
  body_printed (a ∷ bs) s table text few fits is =
      let all = groups_choice a bs s table.rows table.default is.default_text (grouped is.row_texts) (rows_printed a bs s table.rows is.row_texts table.default is.default_text few fits.rows_fit fits.default_fits is.rows_are is.joined is.default_is) in
      record {
        printed = all.printed;
        readable = all.readable;
        text_is = is.text_is ∙ all.text_is;
        reads = body_reads d g (a ∷ bs) s table (canonical all.printed) all.reads
            (ap (λ (b : Bool). if b then is_value (canonical all.printed) else is_choice (length (a ∷ bs)) (canonical all.printed)) (some_parameters (length bs)) ∙ all.reads.form);
      }
