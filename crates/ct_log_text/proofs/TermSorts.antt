-- The sorts of terms are sorts in the list.
use Rattle.std.proofs.Common.{◌≡◌, ℕ, zero, suc, ◌<◌, List, [], ◌∷◌, length, All, Option, Some, slice_get, unwrap_or, option_map, sym, ap, subst, arith}
use Rattle.std.proofs.lemmas.List.Elements.{All-nil, All-cons, All-head, All-tail}
use Rattle.std.proofs.lemmas.Option.{slice_get_within}
use Rattle.ct_lemmas.proofs.Lists.{slice_get-there}
use Rattle.ct_lemmas.proofs.Prefixes.{slice_get-take}
use Rattle.ct_sorts.specs.declared.ids.SortId.{SortId}
use Rattle.ct_sorts.specs.Consistent.{IsConsistent}
use Rattle.ct_sorts.specs.Declarations.{Declarations, Sort, IsSort, bool, bool_sort}
use Rattle.ct_sorts.proofs.StructureLemmas.{of_their_sorts}
use Rattle.ct_terms.specs.declared.ids.TermId.{TermId}
use Rattle.ct_terms.specs.declared.term.Core.{Core}
use Rattle.ct_terms.specs.declared.term.Core.TheVariants.{Con, Sel, Test, Apply, Eq, Not, And, Or, Iff, Ite}
use Rattle.ct_terms.specs.Terms.{Terms, IsOfSort, AreSorted, AreOrdered}
use Rattle.ct_log_text.specs.Reading.{sort_of, sorts_of}

-- the sort of a term that has one
pub sort_of_is : (terms : Terms) (t : TermId) (s : SortId) → IsOfSort terms t s → s ≡ sort_of terms t
sort_of_is terms t s is = sym (ap (λ (o : Option (Core × SortId)). unwrap_or (option_map (λ (entry : Core × SortId). entry.1) o) (record { 0 = 0 })) is.1)

-- the sort of each term of a well-sorted table is declared
module _ (d : Declarations) (consistent : IsConsistent d) (table : Terms) (sorted : AreSorted d table) (ordered : AreOrdered table) where
  is_bool : (sort : SortId) → sort ≡ bool_sort → IsSort d sort
  is_bool sort e =
      let first : slice_get d.sorts 0 ≡ Some bool = slice_get-take 1 d.sorts 0 bool (ap (λ (xs : List Sort). slice_get xs 0) consistent.first_sort) in
      subst (IsSort d) (sym e) (slice_get_within d.sorts 0 bool first)

  inside_below : (n t : ℕ) (core : Core) (sort : SortId) → t < n → slice_get table t ≡ Some (core, sort) → IsSort d sort
  inside_below zero t core sort bound at = absurd (omega arith)
  inside_below (suc n) t (Con c args) sort bound at =
      let h = sorted t (Con c args) sort at in
      let found = of_their_sorts d consistent c.0 h.ctor h.declared in
      subst (IsSort d) (sym h.result) (slice_get_within d.sorts h.ctor.sort.0 found.0 found.2)
  inside_below (suc n) t (Sel s x) sort bound at =
      let h = sorted t (Sel s x) sort at in
      subst (IsSort d) (sym h.result) (consistent.fields s.0 h.selector h.declared)
  inside_below (suc n) t (Test c x) sort bound at = is_bool sort (sorted t (Test c x) sort at).result
  inside_below (suc n) t (Apply f args) sort bound at =
      let h = sorted t (Apply f args) sort at in
      subst (IsSort d) (sym h.result) (consistent.over_sorts f.0 h.function h.declared).1
  inside_below (suc n) t (Eq a b) sort bound at = is_bool sort (sorted t (Eq a b) sort at).result
  inside_below (suc n) t (Not x) sort bound at = is_bool sort (sorted t (Not x) sort at).1
  inside_below (suc n) t (And args) sort bound at = is_bool sort (sorted t (And args) sort at).result
  inside_below (suc n) t (Or args) sort bound at = is_bool sort (sorted t (Or args) sort at).result
  inside_below (suc n) t (Iff a b) sort bound at = is_bool sort (sorted t (Iff a b) sort at).2
  inside_below (suc n) t (Ite c a b) sort bound at =
      let branch = (sorted t (Ite c a b) sort at).1 in
      let below : a.0 < t = (ordered t (Ite c a b) (sort, at)).1.0 in
      inside_below n a.0 branch.0 sort (omega (arith, below, bound)) branch.1

  pub sort_declared : (t : TermId) (sort : SortId) → IsOfSort table t sort → IsSort d sort
  sort_declared t sort has = inside_below (suc t.0) t.0 has.0 sort (omega arith) has.1

  pub sorts_declared : (ts : List TermId) → All (λ t. t.0 < length table) ts → All (IsSort d) (sorts_of table ts)
  sorts_declared [] within = All-nil (IsSort d)
  sorts_declared (t ∷ ts) within =
      let entry = slice_get-there table t.0 (All-head (λ u. u.0 < length table) t ts within) in
      let has : IsOfSort table t entry.0.1 = (entry.0.0, entry.1) in
      All-cons (IsSort d) (sort_of table t) (sorts_of table ts) (subst (IsSort d) (sort_of_is table t entry.0.1 has) (sort_declared t entry.0.1 has)) (sorts_declared ts (All-tail (λ u. u.0 < length table) t ts within))
