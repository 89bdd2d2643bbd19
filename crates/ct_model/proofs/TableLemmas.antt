-- Tables of functions and of selectors: their values are nodes, and their texts from their parts.
use Rattle.std.proofs.Common.{◌≡◌, ℕ, ◌<◌, List, [], ◌∷◌, ◌++◌, length, get_or, Some, slice_get, option_map, map, refl, sym, ap, subst, ◌∙◌, append_assoc, append-nil, codes}
use Rattle.std.proofs.lemmas.Option.{slice_get_within, slice_get-get_or, slice_get-map, same_Some}
use Rattle.ct_lemmas.proofs.Lists.{slice_get-there}
use Rattle.ct_lemmas.proofs.Pairs.{AllZip-left_parts}
use Rattle.ct_sorts.specs.declared.ids.SortId.{SortId}
use Rattle.ct_sorts.specs.declared.ids.CtorId.{CtorId}
use Rattle.ct_sorts.specs.Declarations.{Declarations, Constructor, Selector, Function, function_names, sel_names}
use Rattle.ct_sexpr.specs.Written.{written_name}
use Rattle.ct_value_text.specs.ValueText.{sort_text}
use Rattle.ct_values.specs.Graph.{Nodes}
use Rattle.ct_values.specs.Fitting.{HasNodeSort}
use Rattle.ct_eval.specs.declared.interp.Row.{Row}
use Rattle.ct_eval.specs.declared.interp.Table.{Table}
use Rattle.ct_eval.specs.declared.interp.Interp.{Interp}
use Rattle.ct_eval.specs.Interpretation.{FitsRow, FitsTable, IsProper}
use Rattle.ct_model.specs.Within.{IsNode, IsRowWithin, IsTableWithin}
use Rattle.ct_model.specs.Listed.{listed}
use Rattle.ct_model.specs.TableText.{parameters, definition, IsBodyText, IsTableText, IsOffText}
use Rattle.ct_model.specs.Opening.{heading}

module _ (d : Declarations) (g : Nodes) where
  row-within : (args : List SortId) (sort : SortId) (row : Row) → FitsRow d g args sort row → IsRowWithin g row
  row-within args sort row fits = record {
    args_within = AllZip-left_parts (HasNodeSort d g) (IsNode g) (λ n s has. slice_get_within g n.0 has.0 has.1) row.args args fits.args_fit;
    result_within = let has = fits.result_fits in slice_get_within g row.result.0 has.0 has.1;
  }

  pub table-within : (args : List SortId) (sort : SortId) (table : Table) → FitsTable d g args sort table → IsTableWithin g table
  table-within args sort table fits = record {
    rows_within = λ i z within. row-within args sort (get_or table.rows i z) (fits.rows_fit i (get_or table.rows i z) (slice_get-get_or table.rows i z within));
    default_within = let has = fits.default_fits in slice_get_within g table.default.0 has.0 has.1;
  }

-- what stands in a list at an index where it is read by a part
part-at : {X Y : Type 0} (h : X → Y) (xs : List X) (i : ℕ) (x : X) (y : Y) → slice_get xs i ≡ Some x → option_map h (slice_get xs i) ≡ Some y → h x ≡ y
part-at h xs i x y at read = same_Some (h x) y (sym (ap (option_map h) at) ∙ read)

name-at : {X : Type 0} (h : X → List ℕ) (xs : List X) (i : ℕ) (x : X) (name : List ℕ) → slice_get xs i ≡ Some x → slice_get (map h xs) i ≡ Some name → h x ≡ name
name-at h xs i x name at read = part-at h xs i x name at (sym (slice_get-map h xs i) ∙ read)

-- texts that were written one after the other
regroup : (a b c e : List ℕ) → (((((a ++ b) ++ 32 ∷ []) ++ c) ++ 32 ∷ []) ++ e) ++ 32 ∷ [] ≡ a ++ (b ++ 32 ∷ (c ++ 32 ∷ (e ++ 32 ∷ [])))
regroup a b c e = simp append_assoc

regroup-definition : (a w b c e f : List ℕ)
    → (((a ++ 40 ∷ (w ++ 32 ∷ [])) ++ (b ++ 32 ∷ (c ++ 32 ∷ (e ++ 32 ∷ [])))) ++ f) ++ 41 ∷ [] ≡ a ++ 40 ∷ ((w ++ 32 ∷ (b ++ 32 ∷ (c ++ 32 ∷ (e ++ 32 ∷ (f ++ []))))) ++ 41 ∷ [])
regroup-definition a w b c e f = simp (append_assoc, append-nil)

-- a definition, from its parts
definition-parts : (d : Declarations) (word name : List ℕ) (args : List SortId) (sort : SortId) (body old begun headed bodied new : List ℕ)
    → begun ≡ old ++ 40 ∷ (word ++ 32 ∷ []) → headed ≡ begun ++ heading d name args sort → bodied ≡ headed ++ body → new ≡ bodied ++ 41 ∷ []
    → new ≡ old ++ definition d word name args sort body
definition-parts d word name args sort body old begun headed bodied new p q r s =
    s
    ∙ ap (λ w. w ++ 41 ∷ []) (r ∙ ap (λ w. w ++ body) (q ∙ ap (λ w. w ++ heading d name args sort) p))
    ∙ regroup-definition old word (written_name name) (listed (parameters d 0 args)) (sort_text d sort.0) body

-- what stands before a body, from its parts
pub heading-parts : (d : Declarations) (name : List ℕ) (args : List SortId) (sort : SortId) (old named after listed_args spaced sorted new : List ℕ)
    → named ≡ old ++ written_name name → after ≡ named ++ 32 ∷ [] → listed_args ≡ after ++ listed (parameters d 0 args) → spaced ≡ listed_args ++ 32 ∷ []
    → sorted ≡ spaced ++ sort_text d sort.0 → new ≡ sorted ++ 32 ∷ []
    → new ≡ old ++ heading d name args sort
heading-parts d name args sort old named after listed_args spaced sorted new p q r s t u =
    u
    ∙ ap (λ w. w ++ 32 ∷ []) (t ∙ ap (λ w. w ++ sort_text d sort.0) (s ∙ ap (λ w. w ++ 32 ∷ []) (r ∙ ap (λ w. w ++ listed (parameters d 0 args)) (q ∙ ap (λ w. w ++ 32 ∷ []) p))))
    ∙ regroup old (written_name name) (listed (parameters d 0 args)) (sort_text d sort.0)

module _ (d : Declarations) (i : Interp) (proper : IsProper d i) where
  -- the table of a declared function
  pub function-within : (f : ℕ) (args : List SortId) (table : Table) → f < length d.functions → option_map (λ (x : Function). x.args) (slice_get d.functions f) ≡ Some args → slice_get i.funs f ≡ Some table → IsTableWithin i.graph table
  function-within f args table within read at =
      let function = slice_get-there d.functions f within in
      table-within d i.graph function.0.args function.0.result table (proper.functions.fit f function.0 table function.1 at)

  pub function-parts : (f : ℕ) (name : List ℕ) (args : List SortId) (sort : SortId) (table : Table) (old begun headed bodied new : List ℕ) → f < length d.functions
      → slice_get (function_names d) f ≡ Some name → option_map (λ (x : Function). x.args) (slice_get d.functions f) ≡ Some args → option_map (λ (x : Function). x.result) (slice_get d.functions f) ≡ Some sort
      → slice_get i.funs f ≡ Some table
      → begun ≡ old ++ codes "(define-fun " → headed ≡ begun ++ heading d name args sort
      → (body : List ℕ) × IsBodyText d i.graph args table body × (bodied ≡ headed ++ body) → new ≡ bodied ++ 41 ∷ []
      → (text : List ℕ) × IsTableText d i f text × (new ≡ old ++ text)
  function-parts f name args sort table old begun headed bodied new within name_is args_are sort_is at p q r s =
      let function = slice_get-there d.functions f within in
      let h = function.0 in
      let named : h.name ≡ name = name-at (λ (x : Function). x.name) d.functions f h name function.1 name_is in
      let over : h.args ≡ args = part-at (λ (x : Function). x.args) d.functions f h args function.1 args_are in
      let gives : h.result ≡ sort = part-at (λ (x : Function). x.result) d.functions f h sort function.1 sort_is in
      let body = r.0 in
      let headed_is : headed ≡ begun ++ heading d h.name h.args h.result =
      q ∙ ap (λ w. begun ++ heading d w args sort) (sym named) ∙ ap (λ w. begun ++ heading d h.name w sort) (sym over) ∙ ap (λ w. begun ++ heading d h.name h.args w) (sym gives) in (
        definition d (codes "define-fun") h.name h.args h.result body,
        record {
          function = h;
          declared = function.1;
          table = table;
          at_table = at;
          body = body;
          body_is = subst (λ ss. IsBodyText d i.graph ss table body) (sym over) r.1;
          text_is = refl;
        },
        definition-parts d (codes "define-fun") h.name h.args h.result body old begun headed bodied new p headed_is r.2 s,
      )

  -- the table of a declared selector
  pub selector-within : (s : ℕ) (c : CtorId) (of : SortId) (table : Table) → s < length d.sels
      → option_map (λ (x : Selector). x.ctor) (slice_get d.sels s) ≡ Some c → option_map (λ (x : Constructor). x.sort) (slice_get d.ctors c.0) ≡ Some of → c.0 < length d.ctors
      → slice_get i.offs s ≡ Some table → IsTableWithin i.graph table
  selector-within s c of table within ctor_is sort_is ctor_within at =
      let selector = slice_get-there d.sels s within in
      let ctor = slice_get-there d.ctors c.0 ctor_within in
      let built : selector.0.ctor ≡ c = part-at (λ (x : Selector). x.ctor) d.sels s selector.0 c selector.1 ctor_is in
      let constructed : slice_get d.ctors selector.0.ctor.0 ≡ Some ctor.0 = ap (λ (k : CtorId). slice_get d.ctors k.0) built ∙ ctor.1 in
      table-within d i.graph (ctor.0.sort ∷ []) selector.0.sort table (proper.selectors.fit s selector.0 ctor.0 table selector.1 constructed at)

  pub selector-parts : (s : ℕ) (name : List ℕ) (c : CtorId) (of sort : SortId) (table : Table) (old begun headed bodied new : List ℕ) → s < length d.sels
      → slice_get (sel_names d) s ≡ Some name → option_map (λ (x : Selector). x.ctor) (slice_get d.sels s) ≡ Some c → c.0 < length d.ctors → option_map (λ (x : Constructor). x.sort) (slice_get d.ctors c.0) ≡ Some of
      → option_map (λ (x : Selector). x.sort) (slice_get d.sels s) ≡ Some sort
      → slice_get i.offs s ≡ Some table
      → begun ≡ old ++ codes "(@off " → headed ≡ begun ++ heading d name (of ∷ []) sort
      → (body : List ℕ) × IsBodyText d i.graph (of ∷ []) table body × (bodied ≡ headed ++ body) → new ≡ bodied ++ 41 ∷ []
      → (text : List ℕ) × IsOffText d i s text × (new ≡ old ++ text)
  selector-parts s name c of sort table old begun headed bodied new within name_is ctor_is ctor_within of_is sort_is at p q r t =
      let selector = slice_get-there d.sels s within in
      let ctor = slice_get-there d.ctors c.0 ctor_within in
      let h = selector.0 in
      let k = ctor.0 in
      let named : h.name ≡ name = name-at (λ (x : Selector). x.name) d.sels s h name selector.1 name_is in
      let built : h.ctor ≡ c = part-at (λ (x : Selector). x.ctor) d.sels s h c selector.1 ctor_is in
      let constructed : slice_get d.ctors h.ctor.0 ≡ Some k = ap (λ (x : CtorId). slice_get d.ctors x.0) built ∙ ctor.1 in
      let over : k.sort ≡ of = part-at (λ (x : Constructor). x.sort) d.ctors c.0 k of ctor.1 of_is in
      let gives : h.sort ≡ sort = part-at (λ (x : Selector). x.sort) d.sels s h sort selector.1 sort_is in
      let body = r.0 in
      let headed_is : headed ≡ begun ++ heading d h.name (k.sort ∷ []) h.sort =
      q ∙ ap (λ w. begun ++ heading d w (of ∷ []) sort) (sym named) ∙ ap (λ w. begun ++ heading d h.name (w ∷ []) sort) (sym over) ∙ ap (λ w. begun ++ heading d h.name (k.sort ∷ []) w) (sym gives) in (
        definition d (codes "@off") h.name (k.sort ∷ []) h.sort body,
        record {
          selector = h;
          declared = selector.1;
          ctor = k;
          constructed = constructed;
          table = table;
          at_table = at;
          body = body;
          body_is = subst (λ o. IsBodyText d i.graph (o ∷ []) table body) (sym over) r.1;
          text_is = refl;
        },
        definition-parts d (codes "@off") h.name (k.sort ∷ []) h.sort body old begun headed bodied new p headed_is r.2 t,
      )
