use Rattle.std.proofs.Common.{◌≡◌, ◌∙◌, ℕ, ◌∷◌, [], ◌++◌, length, take, Some, slice_get, sym, ap, subst, arith}
use Rattle.ct_sorts.specs.declared.ids.SortId.{SortId}
use Rattle.ct_terms.specs.declared.term.Core.{Core}
use Rattle.ct_terms.specs.Terms.{Terms}
use Rattle.ct_trial.proofs.LastModelLemmas.{term_there}
use Rattle.ct_trial.proofs.SameCopyLemmas.{begun_next}
use Rattle.ct_trial.proofs.stored.copy_next.Goals as goal

pub returns-clause-begun : goal.returns-clause-begun
returns-clause-begun c =
    let old = c.args.terms.now.items in
    let table = c.args.table.now in
    let x : Core × SortId = (c.core.result.now, c.sort-sort.result) in
    let count : c.len.result ≡ length old = omega (arith, c.len.ensures, c.args.terms.now.ok.0) in
    let there : slice_get table (length old) ≡ Some x =
    subst (λ (n : ℕ). slice_get table n ≡ Some x) count
    (term_there table (record { 0 = c.len.result }) c.core.result.now c.sort-sort.result c.core.ensures.value c.sort-sort.ensures.value)
    in
    let pushed : c.push.new.self.items ≡ old ++ x ∷ [] = c.in_ok-push.ensures.items ∙ ap (λ (core : Core). old ++ (core, c.sort-sort.result) ∷ []) c.in_ok-core.ensures.ok in
    subst (λ (ts : Terms). ts ≡ take (length ts) table) (sym pushed) (begun_next old table x there c.requires.begun)
