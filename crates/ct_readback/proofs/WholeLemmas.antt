-- A whole model from the tables of all its items.
use Rattle.std.proofs.Common.{◌≡◌, ℕ, zero, suc, ◌+◌, ◌<◌, Bool, true, false, List, [], ◌∷◌, length, Option, Some, option_map, option_and_then, unwrap_or, slice_get, refl, sym, ap, subst, ◌∙◌, arith, inl, inr}
use Rattle.std.proofs.lemmas.Bool.{cases_order}
use Rattle.std.proofs.lemmas.Option.{none-some, same_Some, slice_get_within}
use Rattle.ct_lemmas.proofs.Lists.{slice_get-append_left, slice_get-last}
use Rattle.ct_sorts.specs.declared.ids.SortId.{SortId}
use Rattle.ct_sorts.specs.Declarations.{Declarations, Selector, Constructor, bool_sort}
use Rattle.ct_sexpr.specs.Expression.{Expression}
use Rattle.ct_values.specs.Graph.{Nodes}
use Rattle.ct_values.specs.WellFormed.{IsWellFormedGraph}
use Rattle.ct_eval.specs.declared.interp.Table.{Table}
use Rattle.ct_eval.specs.Interpretation.{FitsTable, IsProper}
use Rattle.ct_card.specs.Sizes.{Table as Sizes}
use Rattle.ct_model.specs.ModelText.{can_miss, off_numbers, argument_sort}
use Rattle.ct_readback.specs.ItemText.{Due, due_function, due_off}
use Rattle.ct_readback.specs.ItemAt.{IsRead}
use Rattle.ct_readback.specs.ModelReads.{IsModel}
use Rattle.ct_readback.specs.Progress.{IsReadAt, AreFunctions, AreSelectors, first_offs}
use Rattle.ct_readback.proofs.SelectorLemmas.{offs_more, offs_same}

-- a number that passes the test stands among those that do
pub listed_by : (d : Declarations) (count s k : ℕ) (b : Bool) → can_miss d count ≡ b → slice_get (first_offs d count) k ≡ Some s → slice_get (first_offs d (count + 1)) k ≡ Some s
listed_by d count s k true e at = ap (λ ns. slice_get ns k) (offs_more d count e) ∙ slice_get-append_left (first_offs d count) (count ∷ []) k s at
listed_by d count s k false e at = ap (λ ns. slice_get ns k) (offs_same d count e) ∙ at

pub off_listed : (d : Declarations) (count s : ℕ) → s < count → can_miss d s ≡ true → (k : ℕ) × (slice_get (first_offs d count) k ≡ Some s)
off_listed d zero s below misses = absurd (omega (arith, below))
off_listed d (suc count) s below misses =
    let one : count + 1 ≡ suc count = omega arith in
    elim (cases_order s count) [
      | inl e ↦ (
        length (first_offs d count),
        ap (λ n. slice_get (first_offs d n) (length (first_offs d count))) (sym one)
            ∙ ap (λ ns. slice_get ns (length (first_offs d count))) (offs_more d count (ap (can_miss d) (sym e) ∙ misses))
            ∙ slice_get-last (first_offs d count) count
            ∙ ap Some (sym e),
      )
      | inr h ↦ elim h [
        | inl less ↦
            let old = off_listed d count s less misses in
            (old.0, ap (λ n. slice_get (first_offs d n) old.0) (sym one) ∙ listed_by d count s old.0 (can_miss d count) refl old.1)
        | inr greater ↦ absurd (omega (arith, below, greater))
      ]
    ]

-- what is due of a selector
abbrev pub due_of : Declarations → ℕ → Selector → Due
due_of d s selector = record { off = true; name = selector.name; args = unwrap_or (argument_sort d s) bool_sort ∷ []; result = selector.sort }

pub due_is : (d : Declarations) (s : ℕ) (selector : Selector) → slice_get d.sels s ≡ Some selector → due_off d s ≡ Some (due_of d s selector)
due_is d s selector at = ap (option_map (λ (x : Selector). due_of d s x)) at

argument_is : (d : Declarations) (s : ℕ) (selector : Selector) (ctor : Constructor) → slice_get d.sels s ≡ Some selector → slice_get d.ctors selector.ctor.0 ≡ Some ctor → argument_sort d s ≡ Some ctor.sort
argument_is d s selector ctor at at_ctor =
    ap (option_and_then (λ (x : Selector). option_map (λ (k : Constructor). k.sort) (slice_get d.ctors x.ctor.0))) at ∙ ap (option_map (λ (k : Constructor). k.sort)) at_ctor

module _ (d : Declarations) (sizes : Sizes) (g : Nodes) (items : List Expression) (funs offs : List Table)
    (formed : IsWellFormedGraph d g)
    (functions : AreFunctions d g items (length d.functions) funs)
    (selectors : AreSelectors d sizes g items (length d.functions) (length d.sels) offs)
  where
    selector_fits : (s : ℕ) (selector : Selector) (ctor : Constructor) (table : Table) (b : Bool) → can_miss d s ≡ b → slice_get d.sels s ≡ Some selector → slice_get d.ctors selector.ctor.0 ≡ Some ctor → slice_get offs s ≡ Some table
        → FitsTable d g (ctor.sort ∷ []) selector.sort table
    selector_fits s selector ctor table false never at at_ctor at_table = record {
      rows_fit = λ i row at_row. absurd (none-some row (ap (λ rows. slice_get rows i) (sym (selectors.others s selector table never at at_table).no_rows) ∙ at_row));
      default_fits = (selectors.others s selector table never at at_table).default.sorted;
    }
    selector_fits s selector ctor table true misses at at_ctor at_table =
        let k = off_listed d (length d.sels) s (slice_get_within d.sels s selector at) misses in
        let read = selectors.offs k.0 s (due_of d s selector) table k.1 (due_is d s selector at) at_table in
        let argument : unwrap_or (argument_sort d s) bool_sort ≡ ctor.sort = ap (λ (o : Option SortId). unwrap_or o bool_sort) (argument_is d s selector ctor at at_ctor) in
        subst (λ (of : SortId). FitsTable d g (of ∷ []) selector.sort table) argument read.2.2.fits

    pub whole_proper : IsProper d (record { graph = g; funs = funs; offs = offs })
    whole_proper = record {
      graph = formed;
      functions = record {
        one_each = functions.long;
        fit = λ f function table at at_table. (functions.each f function table at at_table).2.2.fits;
      };
      selectors = record {
        one_each = selectors.long;
        fit = λ s selector ctor table at at_ctor at_table. selector_fits s selector ctor table (can_miss d s) refl at at_ctor at_table;
      };
    }

    -- what was read of an item, as a table of the model
    as_read : (due : Due) (place : ℕ) (item : Expression) (table : Table) → slice_get items place ≡ Some item → IsReadAt d g items due place table → IsRead d g due item table
    as_read due place item table at (found, here, (values, right, is)) =
        let same : found ≡ item = same_Some found item (sym here ∙ at) in
        subst (λ (e : Expression). IsRead d g due e table) same (values, right, is.values_are)

    pub whole_model : length items ≡ length d.functions + length (off_numbers d) → IsModel d sizes items (record { graph = g; funs = funs; offs = offs })
    whole_model count = record {
      proper = whole_proper;
      count = count;
      functions = λ f function item table at at_item at_table. as_read (due_function function) f item table at_item (functions.each f function table at at_table);
      offs = λ k s due item table at at_due at_item at_table. as_read due (length d.functions + k) item table at_item (selectors.offs k s due table at at_due at_table);
      others = λ s selector table never at at_table.
          let other = selectors.others s selector table never at at_table in
          record { no_rows = other.no_rows; value = other.default.value };
    }
