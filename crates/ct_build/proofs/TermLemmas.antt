-- The sorts of terms.
use Rattle.std.proofs.Common.{◌≡◌, ℕ, zero, suc, ◌<◌, ◌≤◌, length, slice_get, Some, sym, ap, subst, ◌∙◌, arith}
use Rattle.std.proofs.lemmas.Option.{same_Some, slice_get_within}
use Rattle.ct_sorts.specs.declared.ids.SortId.{SortId}
use Rattle.ct_sorts.specs.Declarations.{Declarations, IsSort, bool_sort}
use Rattle.ct_sorts.specs.Consistent.{IsConsistent}
use Rattle.ct_sorts.specs.Structure.{AreOfTheirSorts}
use Rattle.ct_terms.specs.declared.ids.TermId.{TermId}
use Rattle.ct_terms.specs.declared.term.Core.{Core}
use Rattle.ct_terms.specs.declared.term.Core.TheVariants.{Con, Sel, Test, Apply, Eq, Not, And, Or, Iff, Ite}
use Rattle.ct_terms.specs.Terms.{Terms, IsOfSort, AreSorted, AreOrdered}

-- a term has one sort
pub one_term_sort : (terms : Terms) (t : TermId) (r s : SortId) → IsOfSort terms t r → IsOfSort terms t s → r ≡ s
one_term_sort terms t r s (x, at_x) (y, at_y) = ap (λ e. e.1) (same_Some (x, r) (y, s) (sym at_x ∙ at_y))

-- the sort of each term of a well-sorted table is declared
module _ (d : Declarations) (consistent : IsConsistent d) (own : AreOfTheirSorts d) (some : 1 ≤ length d.sorts) (table : Terms) (sorted : AreSorted d table) (ordered : AreOrdered table) where
  is_bool : (sort : SortId) → sort ≡ bool_sort → IsSort d sort
  is_bool sort e = subst (IsSort d) (sym e) some

  inside_below : (n t : ℕ) (core : Core) (sort : SortId) → t < n → slice_get table t ≡ Some (core, sort) → IsSort d sort
  inside_below zero t core sort bound at = absurd (omega arith)
  inside_below (suc n) t (Con c args) sort bound at =
      let h = sorted t (Con c args) sort at in
      let found = own c.0 h.ctor h.declared in
      subst (IsSort d) (sym h.result) (slice_get_within d.sorts h.ctor.sort.0 found.0 found.2)
  inside_below (suc n) t (Sel s x) sort bound at =
      let h = sorted t (Sel s x) sort at in
      subst (IsSort d) (sym h.result) (consistent.fields s.0 h.selector h.declared)
  inside_below (suc n) t (Test c x) sort bound at = is_bool sort (sorted t (Test c x) sort at).result
  inside_below (suc n) t (Apply f args) sort bound at =
      let h = sorted t (Apply f args) sort at in
      subst (IsSort d) (sym h.result) (consistent.over_sorts f.0 h.function h.declared).1
  inside_below (suc n) t (Eq a b) sort bound at = is_bool sort (sorted t (Eq a b) sort at).result
  inside_below (suc n) t (Not x) sort bound at = is_bool sort (sorted t (Not x) sort at).1
  inside_below (suc n) t (And args) sort bound at = is_bool sort (sorted t (And args) sort at).result
  inside_below (suc n) t (Or args) sort bound at = is_bool sort (sorted t (Or args) sort at).result
  inside_below (suc n) t (Iff a b) sort bound at = is_bool sort (sorted t (Iff a b) sort at).2
  inside_below (suc n) t (Ite c a b) sort bound at =
      let branch = (sorted t (Ite c a b) sort at).1 in
      let below : a.0 < t = (ordered t (Ite c a b) (sort, at)).1.0 in
      inside_below n a.0 branch.0 sort (omega (arith, below, bound)) branch.1

  pub sort_declared : (t : TermId) (sort : SortId) → IsOfSort table t sort → IsSort d sort
  sort_declared t sort has = inside_below (suc t.0) t.0 has.0 sort (omega arith) has.1
