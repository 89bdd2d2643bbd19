-- What is due at an item, as the getters of a signature say it.
use Rattle.std.proofs.Common.{◌≡◌, ℕ, ◌<◌, Bool, true, false, List, [], ◌∷◌, length, Option, None, Some, option_map, option_and_then, unwrap_or, nat_lt, slice_get, refl, sym, ap, subst, ◌∙◌}
use Rattle.std.proofs.lemmas.Option.{same_Some}
use Rattle.ct_lemmas.proofs.Lists.{slice_get-there, slice_get-map_at}
use Rattle.ct_sorts.specs.declared.ids.CtorId.{CtorId}
use Rattle.ct_sorts.specs.declared.ids.SortId.{SortId}
use Rattle.ct_sorts.specs.Declarations.{Declarations, Function, Selector, Constructor, Sort, function_names, sel_names, bool_sort}
use Rattle.ct_sexpr.specs.Expression.{Expression}
use Rattle.ct_values.specs.Graph.{Nodes}
use Rattle.ct_eval.specs.declared.interp.Table.{Table}
use Rattle.ct_model.specs.ModelText.{argument_sort, constructor_count, can_miss}
use Rattle.ct_readback.specs.ItemText.{Due, due_function, due_off, all_due}
use Rattle.ct_readback.specs.ItemAt.{TableValues, IsRight}
use Rattle.ct_readback.specs.ModelReads.{IsRefusedAt}
use Rattle.ct_readback.specs.Said.{IsTableOf}
use Rattle.ct_readback.specs.Progress.{IsReadAt}
use Rattle.ct_readback.proofs.ModelLemmas.{due_at}

-- what is due, by its parts
abbrev pub due_by : Bool → List ℕ → List SortId → SortId → Due
due_by off name args result = record { off = off; name = name; args = args; result = result }

-- a table that an item says, and its error, as a caller that reads one item knows them
abbrev pub IsTableAt : Declarations → Nodes → List Expression → ℕ → Due → Table → Type 0
IsTableAt d g items place due table =
    (item : Expression) × (values : TableValues) × (slice_get items place ≡ Some item) × IsRight d due item values × IsTableOf d g due.args due.result values table

pub read_at : (d : Declarations) (g : Nodes) (items : List Expression) (place : ℕ) (due other : Due) (table : Table) → due ≡ other → IsTableAt d g items place due table → IsReadAt d g items other place table
read_at d g items place due other table same (item, values, at, right, is) =
    subst (λ (x : Due). IsReadAt d g items x place table) same (item, at, (values, right, is))

-- the due function
pub function_due : (d : Declarations) (f : ℕ) (function : Function) (name : List ℕ) (args : List SortId) (result : SortId) → slice_get d.functions f ≡ Some function → slice_get (function_names d) f ≡ Some name
    → option_map (λ (k : Function). k.args) (slice_get d.functions f) ≡ Some args → option_map (λ (k : Function). k.result) (slice_get d.functions f) ≡ Some result → due_by false name args result ≡ due_function function
function_due d f function name args result at at_name at_args at_result =
    let name_is : name ≡ function.name = same_Some name function.name (sym at_name ∙ slice_get-map_at (λ (k : Function). k.name) d.functions f function at) in
    let args_are : args ≡ function.args = same_Some args function.args (sym at_args ∙ ap (option_map (λ (k : Function). k.args)) at) in
    let result_is : result ≡ function.result = same_Some result function.result (sym at_result ∙ ap (option_map (λ (k : Function). k.result)) at) in
    ap (λ n. due_by false n args result) name_is ∙ ap (λ (ss : List SortId). due_by false function.name ss result) args_are ∙ ap (λ (s : SortId). due_by false function.name function.args s) result_is

-- a refusal at the due function is one at what is due there
pub function_refusal : (d : Declarations) (f : ℕ) (name : List ℕ) (args : List SortId) (result : SortId) (item : Option Expression) (code : ℕ) → f < length d.functions → slice_get (function_names d) f ≡ Some name
    → option_map (λ (k : Function). k.args) (slice_get d.functions f) ≡ Some args → option_map (λ (k : Function). k.result) (slice_get d.functions f) ≡ Some result
    → IsRefusedAt d (Some (Some (due_by false name args result))) item code → IsRefusedAt d (slice_get (all_due d) f) item code
function_refusal d f name args result item code within at_name at_args at_result refused =
    let function = slice_get-there d.functions f within in
    subst (λ (due : Option (Option Due)). IsRefusedAt d due item code)
    (ap (λ (x : Due). Some (Some x)) (function_due d f function.0 name args result function.1 at_name at_args at_result) ∙ sym (due_at d f function.0 function.1)) refused

-- the due selector
pub off_due : (d : Declarations) (s : ℕ) (name : List ℕ) (ctor : CtorId) (of result : SortId) → s < length d.sels → slice_get (sel_names d) s ≡ Some name
    → option_map (λ (x : Selector). x.ctor) (slice_get d.sels s) ≡ Some ctor → option_map (λ (x : Constructor). x.sort) (slice_get d.ctors ctor.0) ≡ Some of
    → option_map (λ (x : Selector). x.sort) (slice_get d.sels s) ≡ Some result → due_off d s ≡ Some (due_by true name (of ∷ []) result)
off_due d s name ctor of result within at_name at_ctor at_of at_result =
    let found = slice_get-there d.sels s within in
    let selector = found.0 in
    let at = found.1 in
    let name_is : selector.name ≡ name = same_Some selector.name name (sym (slice_get-map_at (λ (x : Selector). x.name) d.sels s selector at) ∙ at_name) in
    let ctor_is : selector.ctor ≡ ctor = same_Some selector.ctor ctor (sym (ap (option_map (λ (x : Selector). x.ctor)) at) ∙ at_ctor) in
    let result_is : selector.sort ≡ result = same_Some selector.sort result (sym (ap (option_map (λ (x : Selector). x.sort)) at) ∙ at_result) in
    let argument : argument_sort d s ≡ Some of =
    ap (option_and_then (λ (x : Selector). option_map (λ (k : Constructor). k.sort) (slice_get d.ctors x.ctor.0))) at ∙ ap (λ (c : CtorId). option_map (λ (k : Constructor). k.sort) (slice_get d.ctors c.0)) ctor_is ∙ at_of in
    ap (option_map (λ (x : Selector). due_by true x.name (unwrap_or (argument_sort d s) bool_sort ∷ []) x.sort)) at
    ∙ ap (λ (o : Option SortId). Some (due_by true selector.name (unwrap_or o bool_sort ∷ []) selector.sort)) argument
    ∙ ap (λ n. Some (due_by true n (of ∷ []) selector.sort)) name_is
    ∙ ap (λ (t : SortId). Some (due_by true name (of ∷ []) t)) result_is

pub off_refusal : (d : Declarations) (s : ℕ) (due : Due) (item : Option Expression) (code : ℕ) → due_off d s ≡ Some due → IsRefusedAt d (Some (Some due)) item code → IsRefusedAt d (Some (due_off d s)) item code
off_refusal d s due item code is refused = subst (λ (o : Option Due). IsRefusedAt d (Some o) item code) (sym is) refused

pub off_read : (d : Declarations) (g : Nodes) (items : List Expression) (place s : ℕ) (own due : Due) (table : Table) → due_off d s ≡ Some own → due_off d s ≡ Some due → IsTableAt d g items place own table → IsReadAt d g items due place table
off_read d g items place s own due table is at read = read_at d g items place own due table (same_Some own due (sym is ∙ at)) read

-- whether the sort of the argument has two or more constructors
pub misses : (d : Declarations) (s : ℕ) (ctor : CtorId) (of : SortId) (ctors : List CtorId) → s < length d.sels → option_map (λ (x : Selector). x.ctor) (slice_get d.sels s) ≡ Some ctor
    → option_map (λ (x : Constructor). x.sort) (slice_get d.ctors ctor.0) ≡ Some of → option_map (λ (x : Sort). x.ctors) (slice_get d.sorts of.0) ≡ Some ctors → nat_lt 1 (length ctors) ≡ can_miss d s
misses d s ctor of ctors within at_ctor at_of at_ctors =
    let found = slice_get-there d.sels s within in
    let ctor_is : found.0.ctor ≡ ctor = same_Some found.0.ctor ctor (sym (ap (option_map (λ (x : Selector). x.ctor)) found.1) ∙ at_ctor) in
    let argument : argument_sort d s ≡ Some of =
    ap (option_and_then (λ (x : Selector). option_map (λ (k : Constructor). k.sort) (slice_get d.ctors x.ctor.0))) found.1 ∙ ap (λ (c : CtorId). option_map (λ (k : Constructor). k.sort) (slice_get d.ctors c.0)) ctor_is ∙ at_of in
    let lengths : option_map (λ (x : Sort). length x.ctors) (slice_get d.sorts of.0) ≡ Some (length ctors) = twice (slice_get d.sorts of.0) ∙ ap (option_map length) at_ctors in
    let counted : constructor_count d s ≡ length ctors =
    ap (λ (o : Option SortId). unwrap_or (option_and_then (λ sort. option_map (λ found. length found.ctors) (slice_get d.sorts sort.0)) o) 0) argument ∙ ap (λ (o : Option ℕ). unwrap_or o 0) lengths in
    ap (nat_lt 1) (sym counted)
  where
    twice : (o : Option Sort) → option_map (λ (x : Sort). length x.ctors) o ≡ option_map length (option_map (λ (x : Sort). x.ctors) o)
    twice None = refl
    twice (Some x) = refl
