-- What items of models read back as where they were printed.
use Rattle.std.proofs.Common.{◌≡◌, ℕ, suc, ◌+◌, ◌<◌, ◌≤◌, Bool, true, false, not, ◌&&◌, ◌||◌, ◌==◌, List, [], ◌∷◌, length, All, Some, option_and_then, refl, sym, ap, subst, ◌∙◌, arith, inr}
use Rattle.std.specs.List.{list_all}
use Rattle.std.proofs.lemmas.Option.{same_Some}
use Rattle.std.proofs.lemmas.List.Elements.{All-head, All-tail}
use Rattle.std.proofs.lemmas.Slice.Eq.{bytes_eq-Decides}
use Rattle.ct_lemmas.proofs.Booleans.{both_true}
use Rattle.ct_sorts.specs.declared.ids.SortId.{SortId}
use Rattle.ct_sorts.specs.Declarations.{Declarations, IsSort}
use Rattle.ct_sorts.specs.Availability.{IsUnavailable}
use Rattle.ct_sorts.specs.Consistent.{IsConsistent}
use Rattle.ct_sexpr.specs.Token.{is_in_quoted_symbol}
use Rattle.ct_sexpr.specs.Expression.{Expression, list, Expressions, none, more, word}
use Rattle.ct_sexpr.specs.Written.{written_name, canonical, canonical_each, forms_symbol}
use Rattle.ct_sexpr.specs.Readable.{AreReadable}
use Rattle.ct_values.specs.Graph.{Nodes}
use Rattle.ct_value_text.specs.ValueText.{name, sort_expression, sort_text}
use Rattle.ct_value_text.proofs.FitNameLemmas.{fit_between}
use Rattle.ct_value_text.proofs.SortTextLemmas.{TextTheorems, sort_readable}
use Rattle.ct_eval.specs.declared.interp.Table.{Table}
use Rattle.ct_eval.specs.Interpretation.{FitsTable}
use Rattle.ct_model.specs.Listed.{listed}
use Rattle.ct_model.specs.TableText.{parameter, parameters, definition, IsBodyText}
use Rattle.ct_readback.specs.Words.{is_word, is_name, is_named, number_bound}
use Rattle.ct_readback.specs.Parts.{holds, only_if, count, four_of}
use Rattle.ct_readback.specs.SortText.{is_sort_text, says_sort}
use Rattle.ct_readback.specs.Rows.{is_body}
use Rattle.ct_readback.specs.ItemText.{Due, ItemText, item_word, item_of, item_in, parameter_sort, are_parameters, has_parts, say_parameters, is_heading}
use Rattle.ct_readback.specs.ItemAt.{TableValues, SaysTable, IsItemAt, IsTableFor, IsRight}
use Rattle.ct_readback.proofs.PrintedWords.{read_name, name_is, named_own}
use Rattle.ct_readback.proofs.PrintedSorts.{read_sort, sort_reads, sort_form}
use Rattle.ct_readback.proofs.PrintedValues.{IsPrintable, IsPrinted}
use Rattle.ct_readback.proofs.PrintedRows.{AreWritten, listed_written, parameter_word, parameter_is, parameter_readable}
use Rattle.ct_readback.proofs.PrintedBodies.{BodyReads, printed_table, body_printed}

-- ---- names that can be written

-- the bytes may stand in a quoted symbol
abbrev pub IsClean : List ℕ → Type 0
IsClean bytes = list_all is_in_quoted_symbol bytes ≡ true

-- they may in each name that may be declared
pub available_clean : (bytes : List ℕ) → (IsUnavailable [] bytes → ⊥) → IsClean bytes
available_clean bytes available = fit_between bytes (λ unfit. available (inr (inr unfit)))

-- ---- parameters

abbrev pub parameter_of : Declarations → ℕ → SortId → Expression
parameter_of d n s = list (more (parameter_word n) (more (sort_expression d s.0) none))

abbrev pub parameters_of : Declarations → ℕ → List SortId → Expressions
parameters_of d n [] = none
parameters_of d n (s ∷ ss) = more (parameter_of d n s) (parameters_of d (suc n) ss)

parameters_written : (d : Declarations) (n : ℕ) (ss : List SortId) → AreWritten (parameters d n ss) (parameters_of d n ss)
parameters_written d n [] = tt
parameters_written d n (s ∷ ss) =
    (listed_written (parameter n ∷ (sort_text d s.0 ∷ [])) (more (parameter_word n) (more (sort_expression d s.0) none)) (refl, (refl, tt)), parameters_written d (suc n) ss)

sort_of_parameter : (d : Declarations) (n : ℕ) (s : SortId) → n < number_bound → parameter_sort n (canonical (parameter_of d n s)) ≡ Some (read_sort d s)
sort_of_parameter d n s small = ap (λ (b : Bool). only_if b (read_sort d s)) (parameter_is n small)

module _ (d : Declarations) (consistent : IsConsistent d) where
  parameters_readable : TextTheorems → (n : ℕ) (ss : List SortId) → All (IsSort d) ss → AreReadable (parameters_of d n ss)
  parameters_readable theorems n [] there = tt
  parameters_readable theorems n (s ∷ ss) there =
      ((parameter_readable n, (sort_readable theorems d consistent s (All-head (IsSort d) s ss there), tt)), parameters_readable theorems (suc n) ss (All-tail (IsSort d) s ss there))

  parameters_form : (n : ℕ) (ss : List SortId) → All (IsSort d) ss → n + length ss ≤ number_bound → are_parameters n (canonical_each (parameters_of d n ss)) ≡ true
  parameters_form n [] there few = refl
  parameters_form n (s ∷ ss) there few =
      both_true (holds is_sort_text (parameter_sort n (canonical (parameter_of d n s)))) (are_parameters (suc n) (canonical_each (parameters_of d (suc n) ss)))
      (ap (holds is_sort_text) (sort_of_parameter d n s (omega (arith, few))) ∙ sort_form d consistent s (All-head (IsSort d) s ss there))
      (parameters_form (suc n) ss (All-tail (IsSort d) s ss there) (omega (arith, few)))

  parameters_said : (n : ℕ) (ss : List SortId) → All (IsSort d) ss → n + length ss ≤ number_bound → say_parameters d n ss (canonical_each (parameters_of d n ss)) ≡ true
  parameters_said n [] there few = refl
  parameters_said n (s ∷ ss) there few =
      both_true (holds (says_sort d s) (parameter_sort n (canonical (parameter_of d n s)))) (say_parameters d (suc n) ss (canonical_each (parameters_of d (suc n) ss)))
      (ap (holds (says_sort d s)) (sort_of_parameter d n s (omega (arith, few))) ∙ sort_reads d consistent s (All-head (IsSort d) s ss there))
      (parameters_said (suc n) ss (All-tail (IsSort d) s ss there) (omega (arith, few)))

parameters_count : (d : Declarations) (n : ℕ) (ss : List SortId) → count (canonical_each (parameters_of d n ss)) ≡ length ss
parameters_count d n [] = refl
parameters_count d n (s ∷ ss) = ap suc (parameters_count d (suc n) ss)

-- ---- items

pub record ItemReads (d : Declarations) (g : Nodes) (due : Due) (table : Table) (e : Expression) : Type 0 where
  pub values : TableValues
  pub right : IsRight d due e values
  pub only : (other : TableValues) → IsItemAt d due e other → other ≡ values
  pub same : IsTableFor g values table

abbrev pub item_expression : Declarations → Due → Expression → Expression
item_expression d due body =
    list (more (word (item_word due.off)) (more (name due.name) (more (list (parameters_of d 0 due.args)) (more (sort_expression d due.result.0) (more body none)))))

word_readable : (off : Bool) → forms_symbol (item_word off) ≡ true
word_readable true = refl
word_readable false = refl

word_own : (w : List ℕ) → is_word w (word w) ≡ true
word_own w = (bytes_eq-Decides w w).1 refl

-- the item as it reads back, part by part
abbrev pub read_parameters : Declarations → Due → Expressions
read_parameters d due = canonical_each (parameters_of d 0 due.args)

abbrev pub item_parts : Declarations → Due → Expression → ItemText
item_parts d due body = record { name = read_name due.name; parameters = read_parameters d due; result = read_sort d due.result; body = canonical body }

item_written : (d : Declarations) (due : Due) (body : Expression) → item_in due.off (canonical (item_expression d due body)) ≡ Some (item_parts d due body)
item_written d due body =
    ap
    (λ (b : Bool). option_and_then item_of
    (option_and_then four_of
    (only_if b (more (read_name due.name) (more (list (read_parameters d due)) (more (read_sort d due.result) (more (canonical body) none)))))))
    (word_own (item_word due.off))

-- the sorts that are due are there
abbrev pub AreSortsDue : Declarations → Due → Type 0
AreSortsDue d due = All (IsSort d) due.args × IsSort d due.result

parts_form : (d : Declarations) (due : Due) (body : Expression) → IsConsistent d → AreSortsDue d due → length due.args ≤ number_bound → (not due.off || length due.args == 1) ≡ true → is_body (length due.args) (canonical body) ≡ true
    → has_parts due.off (item_parts d due body) ≡ true
parts_form d due body consistent there few one form =
    let params = read_parameters d due in
    let counted : count params ≡ length due.args = parameters_count d 0 due.args in
    let sort = read_sort d due.result in
    both_true (is_name (read_name due.name)) (are_parameters 0 params && ((not due.off || count params == 1) && (is_sort_text sort && is_body (count params) (canonical body)))) (name_is due.name)
    (both_true (are_parameters 0 params) ((not due.off || count params == 1) && (is_sort_text sort && is_body (count params) (canonical body))) (parameters_form d consistent 0 due.args there.0 (omega (arith, few)))
    (both_true (not due.off || count params == 1) (is_sort_text sort && is_body (count params) (canonical body)) (ap (λ n. not due.off || n == 1) counted ∙ one)
    (both_true (is_sort_text sort) (is_body (count params) (canonical body)) (sort_form d consistent due.result there.1) (ap (λ n. is_body n (canonical body)) counted ∙ form))))

parts_heading : (d : Declarations) (due : Due) (body : Expression) → IsConsistent d → AreSortsDue d due → length due.args ≤ number_bound → is_heading d due (item_parts d due body) ≡ true
parts_heading d due body consistent there few =
    both_true (is_named due.name (read_name due.name)) (say_parameters d 0 due.args (read_parameters d due) && says_sort d due.result (read_sort d due.result)) (named_own due.name)
    (both_true (say_parameters d 0 due.args (read_parameters d due)) (says_sort d due.result (read_sort d due.result)) (parameters_said d consistent 0 due.args there.0 (omega (arith, few))) (sort_reads d consistent due.result there.1))

item_reads : (d : Declarations) (g : Nodes) (due : Due) (table : Table) (body : Expression) → IsConsistent d → AreSortsDue d due → length due.args ≤ number_bound → (not due.off || length due.args == 1) ≡ true
    → BodyReads d g due.args due.result table (canonical body) → ItemReads d g due table (canonical (item_expression d due body))
item_reads d g due table body consistent there few one reads = record {
  values = reads.values;
  right = record {
    form = ap (holds (has_parts due.off)) (item_written d due body) ∙ parts_form d due body consistent there few one reads.form;
    fits = record { text = item_parts d due body; written = item_written d due body; heading = parts_heading d due body consistent there few; body = reads.said };
    acyclic = reads.acyclic;
  };
  only = λ other is.
      let same : is.text ≡ item_parts d due body = same_Some is.text (item_parts d due body) (sym is.written ∙ item_written d due body) in
      reads.only other (subst (λ (t : ItemText). SaysTable d due.args due.result t.body other) same is.body);
  same = reads.same;
}

-- what is printed of a table reads as the table
pub item_printed : TextTheorems → (d : Declarations) (g : Nodes) (due : Due) (table : Table) (body : List ℕ) → IsPrintable d g → IsClean due.name → AreSortsDue d due → length due.args ≤ number_bound → (not due.off || length due.args == 1) ≡ true
    → FitsTable d g due.args due.result table → IsBodyText d g due.args table body
    → IsPrinted (definition d (item_word due.off) due.name due.args due.result body) (ItemReads d g due (printed_table due.args table))
item_printed theorems d g due table body printable clean there few one fits is =
    let all = body_printed theorems d g printable due.args due.result table body few fits is in
    record {
      printed = item_expression d due all.printed;
      readable = (word_readable due.off, (clean, (parameters_readable d printable.consistent theorems 0 due.args there.0, (sort_readable theorems d printable.consistent due.result there.1, (all.readable, tt)))));
      text_is = listed_written (item_word due.off ∷ (written_name due.name ∷ (listed (parameters d 0 due.args) ∷ (sort_text d due.result.0 ∷ (body ∷ []))))) (more (word (item_word due.off)) (more (name due.name) (more (list (parameters_of d 0 due.args)) (more (sort_expression d due.result.0) (more all.printed none)))))
          (refl, (refl, (listed_written (parameters d 0 due.args) (parameters_of d 0 due.args) (parameters_written d 0 due.args), (refl, (all.text_is, tt)))));
      reads = item_reads d g due (printed_table due.args table) all.printed printable.consistent there few one all.reads;
    }
