-- The tests of sorting: each tells whether there is a sort.
use Rattle.std.proofs.Common.{◌≡◌, ℕ, ◌↔◌, Bool, List, Some, slice_get, option_map, IsTrue, refl, sym, ap, subst, ◌∙◌}
use Rattle.std.specs.List.{AllZip}
use Rattle.ct_lemmas.proofs.Options.{option_map-source, same_found}
use Rattle.ct_sorts.specs.declared.ids.SortId.{SortId}
use Rattle.ct_sorts.specs.declared.ids.SelId.{SelId}
use Rattle.ct_sorts.specs.declared.ids.CtorId.{CtorId}
use Rattle.ct_sorts.specs.Declarations.{Declarations, Constructor, Selector, Function, bool_sort}
use Rattle.ct_terms.specs.declared.ids.TermId.{TermId}
use Rattle.ct_terms.specs.Terms.{Terms, IsOfSort, AreOfSorts, IsOfField, Constructs, Selects, Tests, Applies}

pub Constructs-tested : (d : Declarations) (table : Terms) (c : ℕ) (args : List TermId) (sels : List SelId) (r : Bool) → option_map (λ (g : Constructor). g.sels) (slice_get d.ctors c) ≡ Some sels → (IsTrue r ↔ AllZip (IsOfField d table) args sels) → IsTrue r ↔ ((sort : SortId) × Constructs d table c args sort)
Constructs-tested d table c args sels r at reported =
    let ctor = option_map-source (λ (g : Constructor). g.sels) (slice_get d.ctors c) sels at in
    let fields : List SelId → Type 0 = AllZip (IsOfField d table) args in (
      λ yes. (ctor.0.sort, record { ctor = ctor.0; declared = ctor.1; fields = subst fields (sym ctor.2) (reported.0 yes); result = refl }),
      λ h. reported.1 (subst fields (ap (λ (g : Constructor). g.sels) (same_found (slice_get d.ctors c) h.1.ctor ctor.0 h.1.declared ctor.1) ∙ ctor.2) h.1.fields),
    )

pub Selects-tested : (d : Declarations) (table : Terms) (s : ℕ) (t : TermId) (c : CtorId) (side : SortId) (r : Bool) → option_map (λ (g : Selector). g.ctor) (slice_get d.sels s) ≡ Some c → option_map (λ (g : Constructor). g.sort) (slice_get d.ctors c.0) ≡ Some side → (IsTrue r ↔ IsOfSort table t side) → IsTrue r ↔ ((sort : SortId) × Selects d table s t sort)
Selects-tested d table s t c side r at_sel at_ctor reported =
    let sel = option_map-source (λ (g : Selector). g.ctor) (slice_get d.sels s) c at_sel in
    let ctor = option_map-source (λ (g : Constructor). g.sort) (slice_get d.ctors c.0) side at_ctor in (
      λ yes. (
        sel.0.sort,
        record {
          selector = sel.0;
          ctor = ctor.0;
          declared = sel.1;
          constructor = ap (λ (k : CtorId). slice_get d.ctors k.0) sel.2 ∙ ctor.1;
          sorted = subst (IsOfSort table t) (sym ctor.2) (reported.0 yes);
          result = refl;
        },
      ),
      λ h.
          let named : h.1.selector.ctor ≡ c = ap (λ (g : Selector). g.ctor) (same_found (slice_get d.sels s) h.1.selector sel.0 h.1.declared sel.1) ∙ sel.2 in
          let built : h.1.ctor ≡ ctor.0 = same_found (slice_get d.ctors c.0) h.1.ctor ctor.0 (ap (λ (k : CtorId). slice_get d.ctors k.0) (sym named) ∙ h.1.constructor) ctor.1 in
          reported.1 (subst (IsOfSort table t) (ap (λ (g : Constructor). g.sort) built ∙ ctor.2) h.1.sorted),
    )

pub Tests-tested : (d : Declarations) (table : Terms) (c : ℕ) (t : TermId) (side : SortId) (r : Bool) → option_map (λ (g : Constructor). g.sort) (slice_get d.ctors c) ≡ Some side → (IsTrue r ↔ IsOfSort table t side) → IsTrue r ↔ ((sort : SortId) × Tests d table c t sort)
Tests-tested d table c t side r at reported =
    let ctor = option_map-source (λ (g : Constructor). g.sort) (slice_get d.ctors c) side at in (
      λ yes. (bool_sort, record { ctor = ctor.0; declared = ctor.1; sorted = subst (IsOfSort table t) (sym ctor.2) (reported.0 yes); result = refl }),
      λ h. reported.1 (subst (IsOfSort table t) (ap (λ (g : Constructor). g.sort) (same_found (slice_get d.ctors c) h.1.ctor ctor.0 h.1.declared ctor.1) ∙ ctor.2) h.1.sorted),
    )

pub Applies-tested : (d : Declarations) (table : Terms) (f : ℕ) (args : List TermId) (sorts : List SortId) (r : Bool) → option_map (λ (g : Function). g.args) (slice_get d.functions f) ≡ Some sorts → (IsTrue r ↔ AreOfSorts table args sorts) → IsTrue r ↔ ((sort : SortId) × Applies d table f args sort)
Applies-tested d table f args sorts r at reported =
    let function = option_map-source (λ (g : Function). g.args) (slice_get d.functions f) sorts at in
    let fit : List SortId → Type 0 = AreOfSorts table args in (
      λ yes. (function.0.result, record { function = function.0; declared = function.1; sorted = subst fit (sym function.2) (reported.0 yes); result = refl }),
      λ h. reported.1 (subst fit (ap (λ (g : Function). g.args) (same_found (slice_get d.functions f) h.1.function function.0 h.1.declared function.1) ∙ function.2) h.1.sorted),
    )

-- a term has the sort of a selector's field
pub IsOfField-tested : (d : Declarations) (table : Terms) (t : TermId) (s : SelId) (side : SortId) (r : Bool) → option_map (λ (g : Selector). g.sort) (slice_get d.sels s.0) ≡ Some side → (IsTrue r ↔ IsOfSort table t side) → IsTrue r ↔ IsOfField d table t s
IsOfField-tested d table t s side r at reported =
    let sel = option_map-source (λ (g : Selector). g.sort) (slice_get d.sels s.0) side at in (
      λ yes. record { selector = sel.0; declared = sel.1; sorted = subst (IsOfSort table t) (sym sel.2) (reported.0 yes) },
      λ h. reported.1 (subst (IsOfSort table t) (ap (λ (g : Selector). g.sort) (same_found (slice_get d.sels s.0) h.selector sel.0 h.declared sel.1) ∙ sel.2) h.sorted),
    )
