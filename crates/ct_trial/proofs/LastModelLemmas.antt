-- Last models of declarations that grow, or of which functions go.
use Rattle.std.proofs.Common.{◌≡◌, ℕ, ◌+◌, ◌-◌, ◌<◌, ◌≤◌, List, [], ◌∷◌, ◌++◌, length, take, drop, All, Some, get_or, slice_get, refl, sym, ap, subst, ◌∙◌, arith}
use Rattle.std.proofs.lemmas.List.{take-append-le, length-take-le, take-append-drop}
use Rattle.std.proofs.lemmas.Option.{same_Some, slice_get-get_or, slice_get_within}
use Rattle.std.proofs.Math.Seq.{take-append-add}
use Rattle.ct_lemmas.proofs.Pairs.{AllZip-weaker}
use Rattle.ct_lemmas.proofs.Prefixes.{take-slice_get, take-slice_get_next, take-past}
use Rattle.ct_sorts.specs.declared.ids.SelId.{SelId}
use Rattle.ct_sorts.specs.declared.ids.SortId.{SortId}
use Rattle.ct_sorts.specs.Declarations.{Declarations, Constructor, Selector, Function}
use Rattle.ct_sorts.specs.Consistent.{IsConsistent}
use Rattle.ct_sorts.specs.Grown.{Begins, Extends}
use Rattle.ct_sorts.specs.Lengths.{Lengths}
use Rattle.ct_sorts.specs.Marks.{CanCut, lengths, cut}
use Rattle.ct_terms.specs.declared.ids.TermId.{TermId}
use Rattle.ct_terms.specs.declared.term.Core.{Core}
use Rattle.ct_terms.specs.declared.term.Core.TheVariants.{Con, Sel, Test, Apply, Eq, Not, And, Or, Iff, Ite}
use Rattle.ct_terms.specs.Terms.{Terms, Has, IsOfSort, IsOfField, HasSort, AreOrdered, AreSorted}
use Rattle.ct_terms.proofs.SortLemmas.{AreSorted-take}
use Rattle.ct_eval.specs.declared.interp.Interp.{Interp}
use Rattle.ct_trial.specs.declared.trial.Trial.{Trial}
use Rattle.ct_trial.specs.declared.last_model.LastModel.{LastModel}
use Rattle.ct_trial.specs.Trial.{IsTrial, IsCutTo}
use Rattle.ct_trial.specs.LastModel.{AppliesBelow, IsNoMore, HasNoMoreFunctions, IsLastModel}

-- ---- the terms that are stored

-- a list of terms that agrees with a table so far agrees with it with one term more
pub same_next : (terms table : Terms) (t : ℕ) (x : Core × SortId) → take t terms ≡ take t table → slice_get terms t ≡ Some x → slice_get table t ≡ Some x → take (t + 1) terms ≡ take (t + 1) table
same_next terms table t x same here there =
    take-slice_get_next terms t x here ∙ ap (λ (ts : Terms). ts ++ x ∷ []) same ∙ sym (take-slice_get_next table t x there)

-- what a table has at a number, by its term and its sort
pub term_there : (table : Terms) (t : TermId) (core : Core) (sort : SortId) → Has table core t.0 → IsOfSort table t sort → slice_get table t.0 ≡ Some (core, sort)
term_there table t core sort had of =
    let one = same_Some (core, had.0) (of.0, sort) (sym had.1 ∙ of.1) in
    had.1 ∙ ap (λ (s : SortId). Some (core, s)) (ap (λ (p : Core × SortId). p.1) one)

-- ---- declarations that grow

pub model_later : ((last later earlier : Declarations) → Extends last later → Extends later earlier → Extends last earlier) → (d later : Declarations) (m : LastModel) → Extends later d → IsLastModel d m → IsLastModel later m
model_later further d later m extends is = record {
  earlier = is.earlier;
  consistent = is.consistent;
  extends = further later d is.earlier extends is.extends;
  declared = is.declared;
  sorted = is.sorted;
  trial = is.trial;
}

-- ---- declarations that are cut

begins_take : {X : Type 0} (n : ℕ) (xs ys : List X) → length xs ≤ n → Begins xs ys → Begins xs (take n ys)
begins_take {X} n xs ys low (rest, is) =
    let more : n ≡ length xs + (n - length xs) = omega (arith, low) in (
      take (n - length xs) rest,
      ap (take n) is ∙ ap (λ (k : ℕ). take k (xs ++ rest)) more ∙ take-append-add xs rest (n - length xs),
    )

take_grown : {X : Type 0} (n : ℕ) (xs ys : List X) → n ≤ length xs → Begins xs ys → take n ys ≡ take n xs
take_grown n xs ys low (rest, is) = ap (take n) is ∙ take-append-le n xs rest low

-- what was declared when no more was there than at the mark is there after the cut
extends_cut : (d e : Declarations) (m : Lengths) → CanCut d m → IsConsistent e → Extends d e → IsNoMore (lengths e) m → Extends (cut d m) e
extends_cut d e m can consistent extends below =
    let beside_sorts : m.origins ≡ m.sorts = omega (arith, can.origins.one_each, length-take-le m.origins d.origins can.origins_within, length-take-le m.sorts d.sorts can.sorts_within) in
    let beside_heads : m.spellings ≡ m.heads = omega (arith, can.heads.one_each, length-take-le m.spellings d.spellings can.spellings_within, length-take-le m.heads d.declared.heads can.heads_within) in
    let low_origins : length e.origins ≤ m.origins = let one = consistent.origins.one_each in let low = below.sorts in omega (arith, one, low, beside_sorts) in
    let low_spellings : length e.spellings ≤ m.spellings = let one = consistent.heads.one_each in let low = below.heads in omega (arith, one, low, beside_heads) in
    record {
      sorts = begins_take m.sorts e.sorts d.sorts below.sorts extends.sorts;
      ctors = begins_take m.ctors e.ctors d.ctors below.ctors extends.ctors;
      sels = begins_take m.sels e.sels d.sels below.sels extends.sels;
      functions = begins_take m.functions e.functions d.functions below.functions extends.functions;
      definitions = begins_take m.definitions e.definitions d.definitions below.definitions extends.definitions;
      heads = begins_take m.heads e.declared.heads d.declared.heads below.heads extends.heads;
      synonyms = begins_take m.synonyms e.declared.synonyms d.declared.synonyms below.synonyms extends.synonyms;
      spellings = begins_take m.spellings e.spellings d.spellings low_spellings extends.spellings;
      origins = begins_take m.origins e.origins d.origins low_origins extends.origins;
    }

-- what is left where nothing of it was cut
pub model_kept : (d : Declarations) (mark : Lengths) (m : LastModel) → CanCut d mark → IsNoMore m.declared mark → IsLastModel d m → IsLastModel (cut d mark) m
model_kept d mark m can below is = record {
  earlier = is.earlier;
  consistent = is.consistent;
  extends = extends_cut d is.earlier mark can is.consistent is.extends (subst (λ (l : Lengths). IsNoMore l mark) is.declared below);
  declared = is.declared;
  sorted = is.sorted;
  trial = is.trial;
}

-- a list that another one begins with is the first part of it that is as long
first_part : {X : Type 0} (n : ℕ) (xs ys : List X) → n ≡ length xs → Begins xs ys → take n ys ≡ xs
first_part n xs ys long begins = take_grown n xs ys (omega (arith, long)) begins ∙ take-past n xs (omega (arith, long))

-- where functions alone go, what is left is the earlier declarations with fewer functions
pub cut_to : (d e : Declarations) (m : Lengths) → CanCut d m → IsConsistent (cut d m) → Extends d e → HasNoMoreFunctions m (lengths e) → IsCutTo e (cut d m)
cut_to d e m can consistent extends fewer =
    let long : length (take m.functions d.functions) ≡ m.functions = length-take-le m.functions d.functions can.functions_within in
    record {
      consistent = consistent;
      sorts = first_part m.sorts e.sorts d.sorts fewer.sorts extends.sorts;
      ctors = first_part m.ctors e.ctors d.ctors fewer.ctors extends.ctors;
      sels = first_part m.sels e.sels d.sels fewer.sels extends.sels;
      functions = take_grown m.functions e.functions d.functions fewer.functions extends.functions ∙ ap (λ (n : ℕ). take n e.functions) (sym long);
    }

pub itself_cut : (e : Declarations) → IsConsistent e → IsCutTo e e
itself_cut e consistent = record {
  consistent = consistent;
  sorts = refl;
  ctors = refl;
  sels = refl;
  functions = sym (take-past (length e.functions) e.functions (omega arith));
}

-- ---- terms over fewer functions

module _ (d e : Declarations) (cuts : IsCutTo d e) (table : Terms) where
  field_left : (t : TermId) (s : SelId) → IsOfField d table t s → IsOfField e table t s
  field_left t s h = record {
    selector = h.selector;
    declared = ap (λ (l : List Selector). slice_get l s.0) cuts.sels ∙ h.declared;
    sorted = h.sorted;
  }

  ctor_left : (c : ℕ) (ctor : Constructor) → slice_get d.ctors c ≡ Some ctor → slice_get e.ctors c ≡ Some ctor
  ctor_left c ctor at = ap (λ (l : List Constructor). slice_get l c) cuts.ctors ∙ at

  sel_left : (s : ℕ) (selector : Selector) → slice_get d.sels s ≡ Some selector → slice_get e.sels s ≡ Some selector
  sel_left s selector at = ap (λ (l : List Selector). slice_get l s) cuts.sels ∙ at

  sort_left : (core : Core) (sort : SortId) → AppliesBelow (length e.functions) (core, sort) → HasSort d table core sort → HasSort e table core sort
  sort_left (Con c args) sort below h = record {
    ctor = h.ctor;
    declared = ctor_left c.0 h.ctor h.declared;
    fields = AllZip-weaker (IsOfField d table) (IsOfField e table) field_left args h.ctor.sels h.fields;
    result = h.result;
  }
  sort_left (Sel s t) sort below h = record {
    selector = h.selector;
    ctor = h.ctor;
    declared = sel_left s.0 h.selector h.declared;
    constructor = ctor_left h.selector.ctor.0 h.ctor h.constructor;
    sorted = h.sorted;
    result = h.result;
  }
  sort_left (Test c t) sort below h = record {
    ctor = h.ctor;
    declared = ctor_left c.0 h.ctor h.declared;
    sorted = h.sorted;
    result = h.result;
  }
  sort_left (Apply f args) sort below h = record {
    function = h.function;
    declared =
        ap (λ (l : List Function). slice_get l f.0) cuts.functions
        ∙ take-slice_get (length e.functions) d.functions f.0 h.function (below f args refl) h.declared;
    sorted = h.sorted;
    result = h.result;
  }
  sort_left (Eq a b) sort below h = h
  sort_left (Not t) sort below h = h
  sort_left (And args) sort below h = h
  sort_left (Or args) sort below h = h
  sort_left (Iff a b) sort below h = h
  sort_left (Ite c a b) sort below h = h

  sorted_left : All (AppliesBelow (length e.functions)) table → AreSorted d table → AreSorted e table
  sorted_left below sorted t core sort at =
      sort_left core sort
      (subst (AppliesBelow (length e.functions)) (same_Some (get_or table t (core, sort)) (core, sort) (sym (slice_get-get_or table t (core, sort) within) ∙ at)) (below t (core, sort) within))
      (sorted t core sort at)
    where
      within : t < length table
      within = slice_get_within table t (core, sort) at

-- the first terms, which apply functions that are left, are well sorted
pub terms_left : (d e : Declarations) (terms : Terms) (count : ℕ) → IsCutTo d e → AreOrdered terms → AreSorted d terms → All (AppliesBelow (length e.functions)) (take count terms) → AreSorted e (take count terms)
terms_left d e terms count cuts ordered sorted below = sorted_left d e cuts (take count terms) below (AreSorted-take d terms count ordered sorted)

-- ---- what is tried

-- the values of the first terms, which are those of the table at hand
pub tried_before : (d : Declarations) (m : LastModel) (table : Terms) (count : ℕ) (interp : Interp) (trial : Trial) → IsLastModel d m → take count m.terms.items ≡ take count table
    → ((a e : Declarations) (terms : Terms) → IsCutTo a e → length e.functions ≡ m.declared.functions → AreSorted e (take count terms) → IsTrial a terms m.interp m.trial → IsTrial e (take count terms) interp trial)
    → (e : Declarations) × (terms : Terms) × Extends d e × Begins terms table × IsTrial e terms interp trial
tried_before d m table count interp trial is same cuts =
    let e = is.earlier in
    let terms = m.terms.items in (
      e,
      take count terms,
      is.extends,
      (drop count table, sym (take-append-drop count table) ∙ ap (λ (ts : Terms). ts ++ drop count table) (sym same)),
      cuts e e terms (itself_cut e is.consistent) (ap (λ (l : Lengths). l.functions) (sym is.declared)) (AreSorted-take e terms count is.trial.tried.ordered is.sorted) is.trial,
    )

-- ---- what is left where functions go

lengths_cut : (d : Declarations) (m : Lengths) → CanCut d m → lengths (cut d m) ≡ m
lengths_cut d m can =
    let sorts : length (take m.sorts d.sorts) ≡ m.sorts = length-take-le m.sorts d.sorts can.sorts_within in
    let ctors : length (take m.ctors d.ctors) ≡ m.ctors = length-take-le m.ctors d.ctors can.ctors_within in
    let sels : length (take m.sels d.sels) ≡ m.sels = length-take-le m.sels d.sels can.sels_within in
    let functions : length (take m.functions d.functions) ≡ m.functions = length-take-le m.functions d.functions can.functions_within in
    let definitions : length (take m.definitions d.definitions) ≡ m.definitions = length-take-le m.definitions d.definitions can.definitions_within in
    let heads : length (take m.heads d.declared.heads) ≡ m.heads = length-take-le m.heads d.declared.heads can.heads_within in
    let synonyms : length (take m.synonyms d.declared.synonyms) ≡ m.synonyms = length-take-le m.synonyms d.declared.synonyms can.synonyms_within in
    let origins : length (take m.origins d.origins) ≡ m.origins = length-take-le m.origins d.origins can.origins_within in
    let spellings : length (take m.spellings d.spellings) ≡ m.spellings = length-take-le m.spellings d.spellings can.spellings_within in
    rw (sorts, ctors, sels, functions, definitions, heads, synonyms, origins, spellings, can.whole_symbols) refl

-- the first terms and their values are of what is left
pub left_trial : (d : Declarations) (mark : Lengths) (m : LastModel) (count : ℕ) (interp : Interp) (trial : Trial) → CanCut d mark → IsConsistent (cut d mark) → HasNoMoreFunctions mark m.declared → (is : IsLastModel d m) → All (AppliesBelow mark.functions) (take count m.terms.items)
    → ((a e : Declarations) (terms : Terms) → IsCutTo a e → length e.functions ≡ mark.functions → AreSorted e (take count terms) → IsTrial a terms m.interp m.trial → IsTrial e (take count terms) interp trial)
    → AreSorted (cut d mark) (take count m.terms.items) × IsTrial (cut d mark) (take count m.terms.items) interp trial × (mark ≡ lengths (cut d mark))
left_trial d mark m count interp trial can consistent fewer is below cuts =
    let e = cut d mark in
    let to : IsCutTo is.earlier e = cut_to d is.earlier mark can consistent is.extends (subst (HasNoMoreFunctions mark) is.declared fewer) in
    let many : length e.functions ≡ mark.functions = length-take-le mark.functions d.functions can.functions_within in
    let sorted : AreSorted e (take count m.terms.items) = terms_left is.earlier e m.terms.items count to is.trial.tried.ordered is.sorted (subst (λ (n : ℕ). All (AppliesBelow n) (take count m.terms.items)) (sym many) below) in
    (sorted, cuts is.earlier e m.terms.items to many sorted is.trial, sym (lengths_cut d mark can))
