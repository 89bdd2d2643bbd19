-- A closed formula over a sound scope is ready to be compiled.
use Rattle.std.proofs.Common.{◌≡◌, ◌≤◌, Contains, ℕ, suc, List, [], ◌∷◌, length, map, Some, slice_get, refl, subst, sym, ap, ◌∙◌}
use Rattle.std.proofs.lemmas.Option.{none-some}
use Rattle.ct_sorts.specs.declared.ids.SortId.{SortId}
use Rattle.ct_sorts.specs.Declarations.{Declarations}
use Rattle.ct_sorts.specs.Consistent.{IsConsistent}
use Rattle.ct_terms.specs.declared.ids.TermId.{TermId}
use Rattle.ct_formulas.specs.declared.tree.Tree.{Tree}
use Rattle.ct_terms.specs.Terms.{Terms, AreSorted as AreSortedTerms, AreOrdered, AreSingle}
use Rattle.ct_terms.specs.CoreTree.{CoreTree, subtrees, term_at}
use Rattle.ct_formulas.specs.Formula.{Formula, MentionsBelow}
use Rattle.ct_formulas.specs.FormulaSorts.{IsSorted, AreSound}
use Rattle.ct_formulas.specs.TreeFormula.{formula_of}
use Rattle.ct_scope.specs.declared.bound.Bound.{Bound}
use Rattle.ct_formulas.specs.Occurrence.{uses_below}
use Rattle.ct_occurrence.specs.Calls.{CallsAre}
use Rattle.ct_occurrence.specs.Marks.{Rows, IsKnown, HaveRows, MayMark}
use Rattle.ct_occurrence.specs.Working.{AreRight}
use Rattle.ct_operators.specs.Theorems.{Theorems}
use Rattle.ct_operators.specs.Effect.{Stands, IsSoundTable}
use Rattle.ct_scope.specs.Compilable.{IsCompilable}

-- a list of formulas is as long as that of their trees
map_length : (ts : List Tree) → length (map formula_of ts) ≡ length ts
map_length [] = refl
map_length (t ∷ ts) = ap suc (map_length ts)

pub all_below : (ts : List Tree) (n : ℕ) → n ≡ length ts → n ≡ length (map formula_of ts)
all_below ts n e = e ∙ sym (map_length ts)

pub entry_ready : (theorems : Theorems) (d : Declarations) (bodies : List Formula) (table : Terms) (n : ℕ) (t : Formula) (sort : SortId) → IsConsistent d → AreSound d bodies → AreSortedTerms d table → AreOrdered table → AreSingle table → n ≡ length bodies → IsSorted d [] t sort → IsCompilable d bodies table n [] t [] [] sort
entry_ready theorems d bodies table n t sort consistent sound sorted ordered single is h = record {
  setting = record {
    consistent = consistent;
    sound = sound;
    kept = record { theorems = theorems; sorted = sorted; ordered = ordered; single = single };
    bound = tt;
    fitting = tt;
  };
  mentions = subst (λ (m : ℕ). MentionsBelow m t) (sym (is ∙ sound.one_each)) (theorems.mentions d [] t sort h);
  sorted = h;
  present = λ i b e at. absurd (none_there i b at);
}
  where
    none_there : (i : ℕ) (b : Bound) → slice_get [] i ≡ Some b → ⊥
    none_there i b at = none-some b at

-- the rows of all definitions
pub rows_all : (d : Declarations) (trees : List Tree) (rows : Rows) → AreRight d (map formula_of trees) rows → HaveRows d (uses_below d (map formula_of trees) (length trees)) (length trees) rows
rows_all d trees rows right = subst (λ (n : ℕ). HaveRows d (uses_below d (map formula_of trees) n) n rows) (map_length trees) right.have

-- what occurs in a closed formula can be worked out
pub entry_mark : (theorems : Theorems) (d : Declarations) (trees : List Tree) (rows : Rows) (t : Formula) (sort : SortId) → AreSound d (map formula_of trees) → IsSorted d [] t sort → HaveRows d (uses_below d (map formula_of trees) (length trees)) (length trees) rows → CallsAre (IsKnown rows) t → MayMark d (uses_below d (map formula_of trees) (length trees)) (length trees) rows t
entry_mark theorems d trees rows t sort sound h have known = record {
  have = have;
  known = known;
  mentions = subst (λ (m : ℕ). MentionsBelow m t) (sym (all_below trees (length trees) refl ∙ sound.one_each)) (theorems.mentions d [] t sort h);
  sorted = ([], sort, h);
}

-- where a tree stands its subterms do
pub subterms_below : (d : Declarations) (table : Terms) (kept : IsSoundTable d table) (core : CoreTree) (t : TermId) → Stands table t core → (s : CoreTree) → Contains (subtrees core) s → (u : TermId) × (u.0 ≤ t.0) × (term_at table u ≡ s)
subterms_below d table kept core t stands s inside =
    kept.theorems.subterms_stand table t s kept.ordered stands.0 (subst (λ (x : CoreTree). Contains (subtrees x) s) (sym stands.1) inside)
