-- What a whole model reads back as where it was printed.
use Rattle.std.proofs.Common.{◌≡◌, ℕ, ◌+◌, ◌-◌, ◌<◌, ◌≤◌, ◌⊎◌, true, List, [], ◌∷◌, ◌++◌, length, length-append, map, Option, None, Some, option_map, option_and_then, unwrap_or, slice_get, refl, sym, ap, subst, ◌∙◌, arith, inl, inr, append_assoc, true≢false}
use Rattle.std.specs.List.{AllZip}
use Rattle.std.proofs.lemmas.Option.{same_Some, slice_get_within, slice_get_past}
use Rattle.std.proofs.lemmas.Bool.{cases_lt}
use Rattle.std.proofs.lemmas.List.{length-map}
use Rattle.std.proofs.lemmas.List.FromFn.{length-range_with_len}
use Rattle.ct_lemmas.proofs.Each.{All-one}
use Rattle.ct_lemmas.proofs.Lists.{slice_get-there, slice_get-map_at, slice_get-append_left, slice_get-append_right}
use Rattle.ct_lemmas.proofs.Pairs.{AllZip-one_length, AllZip-at_left}
use Rattle.ct_sorts.specs.declared.ids.SortId.{SortId}
use Rattle.ct_sorts.specs.Declarations.{Declarations, Function, Selector, Constructor, IsSort, bool_sort}
use Rattle.ct_sorts.specs.Consistent.{IsConsistent}
use Rattle.ct_sorts.proofs.Lists.{slice_get-numbers}
use Rattle.ct_sorts.proofs.StructureLemmas.{of_their_sorts}
use Rattle.ct_sexpr.specs.Expression.{Expression, list, Expressions, none, more, nesting}
use Rattle.ct_sexpr.specs.Written.{canonical, canonical_each}
use Rattle.ct_sexpr.specs.Readable.{IsReadable}
use Rattle.ct_sexpr.specs.Spaced.{IsSpaced, AreSpaced, AreSpacedAfter}
use Rattle.ct_sexpr.specs.Reading.{BeginsCommand, nesting_limit}
use Rattle.ct_sexpr.proofs.SpacedTexts.{spaced_is_read, written_is_spaced}
use Rattle.ct_values.specs.Graph.{Nodes}
use Rattle.ct_values.proofs.LastingLemmas.{fits_closed}
use Rattle.ct_value_text.proofs.SortTextLemmas.{TextTheorems}
use Rattle.ct_eval.specs.declared.interp.Table.{Table}
use Rattle.ct_eval.specs.declared.interp.Interp.{Interp}
use Rattle.ct_eval.specs.Interpretation.{FitsTable, IsProper}
use Rattle.ct_card.specs.Sizes.{Table as Sizes}
use Rattle.ct_model.specs.Listed.{lines}
use Rattle.ct_model.specs.TableText.{IsTableText, IsOffText}
use Rattle.ct_model.specs.ModelText.{argument_sort, can_miss, function_numbers, off_numbers, IsModelText}
use Rattle.ct_readback.specs.ItemText.{Due, due_function, due_off, all_due}
use Rattle.ct_readback.specs.ItemAt.{TableValues, values_in, HasCycle, IsTableFor, IsRead}
use Rattle.ct_readback.specs.ModelReads.{items_of, IsModel, IsRefused, IsRefusedAt, IsFirstRefused}
use Rattle.ct_readback.specs.Printed.{IsInRange, GiveSame, HaveSameTables, ReadsBack}
use Rattle.ct_readback.proofs.ModelLemmas.{due_at, due_off_at}
use Rattle.ct_readback.proofs.WholeLemmas.{off_listed}
use Rattle.ct_readback.proofs.PrintedValues.{IsPrintable, IsPrinted}
use Rattle.ct_readback.proofs.PrintedRows.{AreWritten, ArePrinted}
use Rattle.ct_readback.proofs.PrintedBodies.{printed_table}
use Rattle.ct_readback.proofs.PrintedItems.{IsClean, available_clean, AreSortsDue, ItemReads, item_printed}
use Rattle.ct_readback.proofs.PrintedTexts.{printed_command}
use Rattle.ct_readback.proofs.PrintedLookUps.{given_same}
use Rattle.ct_readback.proofs.PrintedEvaluation.{holds_still}

-- ---- an item that reads as a table is not refused, and what it is read as has the same values

not_refused : (d : Declarations) (g : Nodes) (due : Due) (table : Table) (e : Expression) (code : ℕ) → ItemReads d g due table e → IsRefused d due e code → ⊥
not_refused d g due table e code reads (inl (is, no_form)) = absurd (true≢false (sym reads.right.form ∙ no_form))
not_refused d g due table e code reads (inr (inl (is, form, never))) = never reads.values reads.right.fits
not_refused d g due table e code reads (inr (inr (is, form, values, said, cycle))) =
    reads.right.acyclic (subst (λ (v : TableValues). HasCycle d (values_in v)) (reads.only values said) cycle)

same_values : (d : Declarations) (g h : Nodes) (due : Due) (table other : Table) (e : Expression) → (reads : ItemReads d g due table e) → IsRead d h due e other → IsTableFor h reads.values other
same_values d g h due table other e reads (values, right, is) = subst (λ (v : TableValues). IsTableFor h v other) (reads.only values right.fits) is

-- ---- items, by the numbers of functions and selectors

-- the item is that of the function, or of the selector where it is wrongly applied
pub record FunctionReads (d : Declarations) (i : Interp) (f : ℕ) (e : Expression) : Type 0 where
  pub function : Function
  pub table : Table
  pub declared : slice_get d.functions f ≡ Some function
  pub at_table : slice_get i.funs f ≡ Some table
  pub fits : FitsTable d i.graph function.args function.result table
  pub reads : ItemReads d i.graph (due_function function) (printed_table function.args table) e

pub record OffReads (d : Declarations) (i : Interp) (s : ℕ) (e : Expression) : Type 0 where
  pub sort : SortId
  pub due : Due
  pub table : Table
  pub is_due : due_off d s ≡ Some due
  pub at_table : slice_get i.offs s ≡ Some table
  pub fits : FitsTable d i.graph (sort ∷ []) due.result table
  pub reads : ItemReads d i.graph due table e

abbrev pub ItemText : Declarations → Interp → ℕ ⊎ ℕ → List ℕ → Type 0
ItemText d i (inl f) text = IsTableText d i f text
ItemText d i (inr s) text = IsOffText d i s text

abbrev pub ItemIs : Declarations → Interp → ℕ ⊎ ℕ → Expression → Type 0
ItemIs d i (inl f) e = FunctionReads d i f e
ItemIs d i (inr s) e = OffReads d i s e

module _ (theorems : TextTheorems) (d : Declarations) (i : Interp) (consistent : IsConsistent d) (proper : IsProper d i) (range : IsInRange d i) where
  printable : IsPrintable d i.graph
  printable = record { consistent = consistent; formed = proper.graph; small = λ k n s at. range.elements k n s at; few = range.nodes }

  function_printed : (f : ℕ) (text : List ℕ) → IsTableText d i f text → IsPrinted text (FunctionReads d i f)
  function_printed f text is =
      let function = is.function in
      let fits = proper.functions.fit f function is.table is.declared is.at_table in
      let clean : IsClean function.name = available_clean function.name (consistent.available f function.name (slice_get-map_at (λ (k : Function). k.name) d.functions f function is.declared)) in
      let all = item_printed theorems d i.graph (due_function function) is.table is.body printable clean (consistent.over_sorts f function is.declared) (range.parameters f function is.declared) refl fits is.body_is in
      record {
        printed = all.printed;
        readable = all.readable;
        text_is = is.text_is ∙ all.text_is;
        reads = record { function = function; table = is.table; declared = is.declared; at_table = is.at_table; fits = fits; reads = all.reads };
      }

  off_printed : (s : ℕ) (text : List ℕ) → IsOffText d i s text → IsPrinted text (OffReads d i s)
  off_printed s text is =
      let selector = is.selector in
      let due : Due = record { off = true; name = selector.name; args = is.ctor.sort ∷ []; result = selector.sort } in
      let fits = proper.selectors.fit s selector is.ctor is.table is.declared is.constructed is.at_table in
      let clean : IsClean selector.name = available_clean selector.name (consistent.sels_available s selector.name (slice_get-map_at (λ (k : Selector). k.name) d.sels s selector is.declared)) in
      let own = of_their_sorts d consistent selector.ctor.0 is.ctor is.constructed in
      let there : AreSortsDue d due = (All-one (IsSort d) is.ctor.sort (slice_get_within d.sorts is.ctor.sort.0 own.0 own.2), consistent.fields s selector is.declared) in
      let all = item_printed theorems d i.graph due is.table is.body printable clean there (omega arith) refl fits is.body_is in
      let argument : argument_sort d s ≡ Some is.ctor.sort =
      ap (option_and_then (λ (x : Selector). option_map (λ (k : Constructor). k.sort) (slice_get d.ctors x.ctor.0))) is.declared ∙ ap (option_map (λ (k : Constructor). k.sort)) is.constructed in
      let is_due : due_off d s ≡ Some due =
      ap (option_map (λ (x : Selector). record { off = true; name = x.name; args = unwrap_or (argument_sort d s) bool_sort ∷ []; result = x.sort })) is.declared
      ∙ ap (λ (o : Option SortId). Some (record { off = true; name = selector.name; args = unwrap_or o bool_sort ∷ []; result = selector.sort })) argument in
      record {
        printed = all.printed;
        readable = all.readable;
        text_is = is.text_is ∙ all.text_is;
        reads = record { sort = is.ctor.sort; due = due; table = is.table; is_due = is_due; at_table = is.at_table; fits = fits; reads = all.reads };
      }

  one_printed : (n : ℕ ⊎ ℕ) (text : List ℕ) → ItemText d i n text → IsPrinted text (ItemIs d i n)
  one_printed (inl f) text is = function_printed f text is
  one_printed (inr s) text is = off_printed s text is

  all_printed : (ns : List (ℕ ⊎ ℕ)) (texts : List (List ℕ)) → AllZip (ItemText d i) ns texts → ArePrinted texts (λ es. AllZip (ItemIs d i) ns (items_of es))
  all_printed [] [] are = record { printed = none; readable = tt; text_is = tt; reads = tt }
  all_printed [] (t ∷ ts) are = absurd are
  all_printed (n ∷ ns) [] are = absurd are
  all_printed (n ∷ ns) (t ∷ ts) are =
      let first = one_printed n t are.0 in
      let rest = all_printed ns ts are.1 in
      record {
        printed = more first.printed rest.printed;
        readable = (first.readable, rest.readable);
        text_is = (first.text_is, rest.text_is);
        reads = (first.reads, rest.reads);
      }

-- ---- lists of numbers

mapped : {X Y Z : Type 0} (f : X → Y) (R : Y → Z → Type 0) (xs : List X) (zs : List Z) → AllZip (λ x z. R (f x) z) xs zs → AllZip R (map f xs) zs
mapped f R [] [] all = tt
mapped f R [] (z ∷ zs) all = absurd all
mapped f R (x ∷ xs) [] all = absurd all
mapped f R (x ∷ xs) (z ∷ zs) all = (all.0, mapped f R xs zs all.1)

together : {Y Z : Type 0} (R : Y → Z → Type 0) (xs ys : List Y) (us vs : List Z) → AllZip R xs us → AllZip R ys vs → AllZip R (xs ++ ys) (us ++ vs)
together R [] ys [] vs first rest = rest
together R [] ys (u ∷ us) vs first rest = absurd first
together R (x ∷ xs) ys [] vs first rest = absurd first
together R (x ∷ xs) ys (u ∷ us) vs first rest = (first.0, together R xs ys us vs first.1 rest)

abbrev pub function_items : Declarations → List (ℕ ⊎ ℕ)
function_items d = map inl (function_numbers d)

abbrev pub off_items : Declarations → List (ℕ ⊎ ℕ)
off_items d = map inr (off_numbers d)

abbrev pub item_numbers : Declarations → List (ℕ ⊎ ℕ)
item_numbers d = function_items d ++ off_items d

function_at : (d : Declarations) (f : ℕ) → f < length d.functions → slice_get (item_numbers d) f ≡ Some (inl f)
function_at d f within =
    slice_get-append_left (function_items d) (off_items d) f (inl f)
    (slice_get-map_at inl (function_numbers d) f f (slice_get-numbers 0 (length d.functions) f within ∙ ap Some (let same : 0 + f ≡ f = omega arith in same)))

functions_long : (d : Declarations) → length (function_items d) ≡ length d.functions
functions_long d = length-map (function_numbers d) inl ∙ length-range_with_len 0 (length d.functions)

off_at : (d : Declarations) (k s : ℕ) → slice_get (off_numbers d) k ≡ Some s → slice_get (item_numbers d) (length d.functions + k) ≡ Some (inr s)
off_at d k s at =
    ap (λ n. slice_get (item_numbers d) (n + k)) (sym (functions_long d))
    ∙ slice_get-append_right (function_items d) (off_items d) k (inr s) (slice_get-map_at inr (off_numbers d) k s at)

numbers_long : (d : Declarations) → length (item_numbers d) ≡ length d.functions + length (off_numbers d)
numbers_long d =
    let both = length-append (function_items d) (off_items d) in
    let ours = functions_long d in
    let theirs : length (off_items d) ≡ length (off_numbers d) = length-map (off_numbers d) inr in
    omega (arith, both, ours, theirs)

-- ---- the items of a printed model

module _ (d : Declarations) (sizes : Sizes) (i : Interp) (items : List Expression) (all : AllZip (ItemIs d i) (item_numbers d) items) where
  function_reads : (f : ℕ) → f < length d.functions → (e : Expression) × (slice_get items f ≡ Some e) × FunctionReads d i f e
  function_reads f within = AllZip-at_left (ItemIs d i) (item_numbers d) items f (inl f) all (function_at d f within)

  off_reads : (k s : ℕ) → slice_get (off_numbers d) k ≡ Some s → (e : Expression) × (slice_get items (length d.functions + k) ≡ Some e) × OffReads d i s e
  off_reads k s at = AllZip-at_left (ItemIs d i) (item_numbers d) items (length d.functions + k) (inr s) all (off_at d k s at)

  items_long : length items ≡ length d.functions + length (off_numbers d)
  items_long = sym (AllZip-one_length (ItemIs d i) (item_numbers d) items all) ∙ numbers_long d

  -- none is refused
  function_right : (f code : ℕ) → f < length d.functions → IsRefusedAt d (slice_get (all_due d) f) (slice_get items f) code → ⊥
  function_right f code within refused =
      let item = function_reads f within in
      let here = subst (λ (o : Option Expression). IsRefusedAt d (slice_get (all_due d) f) o code) item.1 refused in
      let due = subst (λ (o : Option (Option Due)). IsRefusedAt d o (Some item.0) code) (due_at d f item.2.function item.2.declared) here in
      not_refused d i.graph (due_function item.2.function) (printed_table item.2.function.args item.2.table) item.0 code item.2.reads due

  off_right : (k s code : ℕ) → slice_get (off_numbers d) k ≡ Some s → IsRefusedAt d (slice_get (all_due d) (length d.functions + k)) (slice_get items (length d.functions + k)) code → ⊥
  off_right k s code at refused =
      let item = off_reads k s at in
      let here = subst (λ (o : Option Expression). IsRefusedAt d (slice_get (all_due d) (length d.functions + k)) o code) item.1 refused in
      let due = subst (λ (o : Option (Option Due)). IsRefusedAt d o (Some item.0) code) (due_off_at d k s at ∙ ap Some item.2.is_due) here in
      not_refused d i.graph item.2.due item.2.table item.0 code item.2.reads due

  nothing_more : (place code : ℕ) → length d.functions + length (off_numbers d) ≤ place → IsRefusedAt d (slice_get (all_due d) place) (slice_get items place) code → ⊥
  nothing_more place code past refused =
      let ours : length (map (λ (f : Function). Some (due_function f)) d.functions) ≡ length d.functions = length-map d.functions (λ (f : Function). Some (due_function f)) in
      let theirs : length (map (due_off d) (off_numbers d)) ≡ length (off_numbers d) = length-map (off_numbers d) (due_off d) in
      let both = length-append (map (λ (f : Function). Some (due_function f)) d.functions) (map (due_off d) (off_numbers d)) in
      let no_due : slice_get (all_due d) place ≡ None = slice_get_past (all_due d) place (omega (arith, ours, theirs, both, past)) in
      let long = items_long in
      let no_item : slice_get items place ≡ None = slice_get_past items place (omega (arith, long, past)) in
      let here = subst (λ (o : Option Expression). IsRefusedAt d (slice_get (all_due d) place) o code) no_item refused in
      subst (λ (o : Option (Option Due)). IsRefusedAt d o None code) no_due here

  accepted : (place code : ℕ) → IsFirstRefused d items place code → ⊥
  accepted place code first =
      elim (cases_lt place (length d.functions)) [
        | inl less ↦ function_right place code less first.here
        | inr not_less ↦
            let k = place - length d.functions in
            let same : length d.functions + k ≡ place = omega (arith, not_less) in
            let here : IsRefusedAt d (slice_get (all_due d) (length d.functions + k)) (slice_get items (length d.functions + k)) code =
            subst (λ n. IsRefusedAt d (slice_get (all_due d) n) (slice_get items n) code) (sym same) first.here in
            elim (cases_lt k (length (off_numbers d))) [
              | inl less ↦ let s = slice_get-there (off_numbers d) k less in off_right k s.0 code s.1 here
              | inr not_there ↦ nothing_more (length d.functions + k) code (omega (arith, not_there)) here
            ]
      ]

  -- its tables give the same
  module _ (consistent : IsConsistent d) (proper : IsProper d i) (j : Interp) (model : IsModel d sizes items j) where
    functions_same : (f : ℕ) (function : Function) (table other : Table) → slice_get d.functions f ≡ Some function → slice_get i.funs f ≡ Some table → slice_get j.funs f ≡ Some other
        → GiveSame i.graph j.graph (length function.args) table other
    functions_same f function table other declared at_table at_other =
        let item = function_reads f (slice_get_within d.functions f function declared) in
        let function_is : item.2.function ≡ function = same_Some item.2.function function (sym item.2.declared ∙ declared) in
        let table_is : item.2.table ≡ table = same_Some item.2.table table (sym item.2.at_table ∙ at_table) in
        let read = model.functions f item.2.function item.0 other item.2.declared item.1 at_other in
        let values = same_values d i.graph j.graph (due_function item.2.function) (printed_table item.2.function.args item.2.table) other item.0 item.2.reads read in
        let given = given_same d i.graph j.graph item.2.function.args item.2.function.result item.2.reads.values item.2.table other (fits_closed d i.graph proper.graph.fits) (fits_closed d j.graph model.proper.graph.fits) item.2.fits item.2.reads.same values in
        subst (λ (t : Table). GiveSame i.graph j.graph (length function.args) t other) table_is
        (subst (λ (k : Function). GiveSame i.graph j.graph (length k.args) item.2.table other) function_is given)

    offs_same : (s : ℕ) (table other : Table) → can_miss d s ≡ true → slice_get i.offs s ≡ Some table → slice_get j.offs s ≡ Some other → GiveSame i.graph j.graph 1 table other
    offs_same s table other misses at_table at_other =
        let within : s < length i.offs = slice_get_within i.offs s table at_table in
        let k = off_listed d (length d.sels) s (let one = proper.selectors.one_each in omega (arith, within, one)) misses in
        let item = off_reads k.0 s k.1 in
        let table_is : item.2.table ≡ table = same_Some item.2.table table (sym item.2.at_table ∙ at_table) in
        let read = model.offs k.0 s item.2.due item.0 other k.1 item.2.is_due item.1 at_other in
        let values = same_values d i.graph j.graph item.2.due item.2.table other item.0 item.2.reads read in
        let given = given_same d i.graph j.graph (item.2.sort ∷ []) item.2.due.result item.2.reads.values item.2.table other (fits_closed d i.graph proper.graph.fits) (fits_closed d j.graph model.proper.graph.fits) item.2.fits item.2.reads.same values in
        subst (λ (t : Table). GiveSame i.graph j.graph 1 t other) table_is given

    pub same_tables : HaveSameTables d i j
    same_tables = record { functions = functions_same; offs = offs_same }

-- ---- the text

-- lines after a line are items after a space
lines_spaced : (ts : List (List ℕ)) (es : Expressions) → AreWritten ts es → AreSpacedAfter es (10 ∷ (lines ts ++ 41 ∷ []))
lines_spaced [] none are = (10 ∷ [], refl, refl)
lines_spaced [] (more e es) are = absurd are
lines_spaced (t ∷ ts) none are = absurd are
lines_spaced (t ∷ ts) (more e es) are =
    (10 ∷ [], t, 10 ∷ (lines ts ++ 41 ∷ []), omega arith, refl, subst (IsSpaced e) (sym are.0) (written_is_spaced e), lines_spaced ts es are.1, ap (λ (bs : List ℕ). 10 ∷ bs) (append_assoc t (10 ∷ lines ts) (41 ∷ [])))

items_spaced : (ts : List (List ℕ)) (es : Expressions) → AreWritten ts es → AreSpaced es (10 ∷ (lines ts ++ 41 ∷ []))
items_spaced [] none are = (10 ∷ [], refl, refl)
items_spaced [] (more e es) are = absurd are
items_spaced (t ∷ ts) none are = absurd are
items_spaced (t ∷ ts) (more e es) are =
    (10 ∷ [], t, 10 ∷ (lines ts ++ 41 ∷ []), refl, subst (IsSpaced e) (sym are.0) (written_is_spaced e), lines_spaced ts es are.1, ap (λ (bs : List ℕ). 10 ∷ bs) (append_assoc t (10 ∷ lines ts) (41 ∷ [])))

-- a printed model reads back
module _ (theorems : TextTheorems) (d : Declarations) (sizes : Sizes) (i : Interp) (text : List ℕ) (consistent : IsConsistent d) (proper : IsProper d i) (range : IsInRange d i) (is : IsModelText d i text) where
  all_items : ArePrinted (is.tables ++ is.offs) (λ es. AllZip (ItemIs d i) (item_numbers d) (items_of es))
  all_items =
      all_printed theorems d i consistent proper range (item_numbers d) (is.tables ++ is.offs)
      (together (ItemText d i) (function_items d) (off_items d) is.tables is.offs
      (mapped inl (ItemText d i) (function_numbers d) is.tables is.tables_are)
      (mapped inr (ItemText d i) (off_numbers d) is.offs is.offs_are))

  all_back : (es : Expressions) → AllZip (ItemIs d i) (item_numbers d) (items_of es) → ReadsBack d sizes i (list es)
  all_back es all = record {
    accepted = λ place code refused. accepted d sizes i (items_of es) all place code refused;
    proper = λ j model. model.proper;
    tables = λ j model. same_tables d sizes i (items_of es) all consistent proper j model;
    assertions = λ j terms asserts model ordered sorted held.
        holds_still d i j consistent proper model.proper (same_tables d sizes i (items_of es) all consistent proper j model) terms ordered sorted asserts held;
  }

  pub model_reads_back : (es : Expressions) × IsReadable (list es) × IsSpaced (list es) text × ReadsBack d sizes i (canonical (list es)) × (nesting (list es) ≤ nesting_limit → BeginsCommand text (canonical (list es)) [])
  model_reads_back =
      let all = all_items in
      let spaced : IsSpaced (list all.printed) text = (10 ∷ (lines (is.tables ++ is.offs) ++ 41 ∷ []), items_spaced (is.tables ++ is.offs) all.printed all.text_is, is.text_is) in
      (all.printed, all.readable, spaced, all_back (canonical_each all.printed) all.reads, λ few. spaced_is_read all.printed text all.readable few spaced)

  -- whatever is read of the text reads back
  pub command_reads_back : (e : Expression) → BeginsCommand text e [] → ReadsBack d sizes i e
  command_reads_back e command =
      let all = all_items in
      subst (ReadsBack d sizes i) (sym (printed_command (is.tables ++ is.offs) all.printed text e all.readable all.text_is is.text_is command)) (all_back (canonical_each all.printed) all.reads)
