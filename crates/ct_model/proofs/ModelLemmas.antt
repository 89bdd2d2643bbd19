-- Lines of a model, and a whole model from its parts.
use Rattle.std.proofs.Common.{◌≡◌, ℕ, ◌+◌, Bool, true, false, List, [], ◌∷◌, ◌++◌, refl, sym, ap, subst, ◌∙◌, append_assoc, append-nil, cond, codes, Some, option_map, slice_get, length, unwrap_or}
use Rattle.std.specs.Bool.{MatchBool}
use Rattle.std.specs.List.{filter, range_with_len}
use Rattle.std.proofs.lemmas.List.Elements.{filter-append}
use Rattle.std.specs.Prelude.{option_and_then}
use Rattle.ct_lemmas.proofs.Options.{option_map-source}
use Rattle.ct_sorts.specs.declared.ids.CtorId.{CtorId}
use Rattle.ct_sorts.specs.declared.ids.SortId.{SortId}
use Rattle.ct_sorts.specs.Declarations.{Declarations, Sort, Constructor, Selector}
use Rattle.ct_model.specs.ModelText.{argument_sort, constructor_count}
use Rattle.ct_model.specs.Listed.{lines}
use Rattle.ct_model.proofs.ListLemmas.{AreWritten, range-more, one_more, one_more_number}
use Rattle.ct_model.proofs.WrittenLemmas.{lines-push, lines-append}

module _ (R : ℕ → List ℕ → Type 0) where
  -- one line more
  pub line-more : (i : ℕ) (old now written new : List ℕ) → AreWritten R lines (range_with_len 0 i) old now
      → (text : List ℕ) × R i text × (written ≡ now ++ text) → new ≡ written ++ 10 ∷ []
      → AreWritten R lines (range_with_len 0 (i + 1)) old new
  line-more i old now written new before text p =
      one_more_number R lines (λ n t. t ++ 10 ∷ []) lines-push i old now new before (text.0, text.1, p ∙ ap (λ w. w ++ 10 ∷ []) text.2 ∙ append_assoc now text.0 (10 ∷ []))

  -- one line more where the number passes the test
  module _ (test : ℕ → Bool) where
    by_test : (i : ℕ) (old now new : List ℕ) (b : Bool) → test i ≡ b → AreWritten R lines (filter test (range_with_len 0 i)) old now
        → MatchBool b ((text : List ℕ) × R i text × (new ≡ now ++ (text ++ 10 ∷ []))) (new ≡ now)
        → AreWritten R lines (filter test (range_with_len 0 i) ++ cond b (i ∷ []) []) old new
    by_test i old now new true e before text = one_more R lines (λ n t. t ++ 10 ∷ []) lines-push (filter test (range_with_len 0 i)) i old now new before text
    by_test i old now new false e before same =
        subst (λ zs. AreWritten R lines zs old new) (sym (append-nil (filter test (range_with_len 0 i))))
        (subst (λ w. AreWritten R lines (filter test (range_with_len 0 i)) old w) (sym same) before)

    pub tested-more : (i : ℕ) (old now new : List ℕ) → AreWritten R lines (filter test (range_with_len 0 i)) old now
        → MatchBool (test i) ((text : List ℕ) × R i text × (new ≡ now ++ (text ++ 10 ∷ []))) (new ≡ now)
        → AreWritten R lines (filter test (range_with_len 0 (i + 1))) old new
    tested-more i old now new before step =
        let more : filter test (range_with_len 0 (i + 1)) ≡ filter test (range_with_len 0 i) ++ cond (test i) (i ∷ []) [] =
        ap (filter test) (range-more i) ∙ filter-append test (range_with_len 0 i) (i ∷ []) in
        subst (λ zs. AreWritten R lines zs old new) (sym more) (by_test i old now new (test i) refl before step)

-- what a test says
pub at_true : (b : Bool) (P Q : Type 0) → b ≡ true → P → MatchBool b P Q
at_true b P Q e p = subst (λ x. MatchBool x P Q) (sym e) p

pub at_false : (b : Bool) (P Q : Type 0) → b ≡ false → Q → MatchBool b P Q
at_false b P Q e q = subst (λ x. MatchBool x P Q) (sym e) q

-- how many constructors the sort of a selector's argument has
pub count-parts : (d : Declarations) (s : ℕ) (c : CtorId) (of : SortId) (ctors : List CtorId)
    → option_map (λ (x : Selector). x.ctor) (slice_get d.sels s) ≡ Some c → option_map (λ (x : Constructor). x.sort) (slice_get d.ctors c.0) ≡ Some of → option_map (λ (x : Sort). x.ctors) (slice_get d.sorts of.0) ≡ Some ctors
    → constructor_count d s ≡ length ctors
count-parts d s c of ctors p q r =
    let selector = option_map-source (λ (x : Selector). x.ctor) (slice_get d.sels s) c p in
    let sort = option_map-source (λ (x : Sort). x.ctors) (slice_get d.sorts of.0) ctors r in
    let argument : argument_sort d s ≡ Some of =
    ap (option_and_then (λ (x : Selector). option_map (λ (k : Constructor). k.sort) (slice_get d.ctors x.ctor.0))) selector.1
    ∙ ap (λ (k : CtorId). option_map (λ (x : Constructor). x.sort) (slice_get d.ctors k.0)) selector.2
    ∙ q in
    ap (λ o. unwrap_or (option_and_then (λ (x : SortId). option_map (λ (f : Sort). length f.ctors) (slice_get d.sorts x.0)) o) 0) argument
    ∙ ap (λ o. unwrap_or (option_map (λ (f : Sort). length f.ctors) o) 0) sort.1
    ∙ ap length sort.2

-- a whole model
pub model-parts : (tables offs : List (List ℕ)) (empty begun tabled offed new : List ℕ) → empty ≡ [] → begun ≡ empty ++ 40 ∷ (10 ∷ [])
    → tabled ≡ begun ++ lines tables → offed ≡ tabled ++ lines offs → new ≡ offed ++ 41 ∷ []
    → new ≡ lines (codes "(" ∷ (tables ++ offs)) ++ codes ")"
model-parts tables offs empty begun tabled offed new o p q r s =
    s
    ∙ ap (λ w. w ++ 41 ∷ []) (r ∙ ap (λ w. w ++ lines offs) (q ∙ ap (λ w. w ++ lines tables) (p ∙ ap (λ w. w ++ 40 ∷ (10 ∷ [])) o)))
    ∙ ap (λ w. 40 ∷ (10 ∷ (w ++ 41 ∷ []))) (sym (lines-append tables offs))
