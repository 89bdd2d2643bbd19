use Rattle.std.proofs.Common.{◌≡◌, ℕ, ◌<◌, Bool, true, false, List, length, get_or, slice_get, Some, sym, ap, subst, ◌∙◌, arith, true≢false}
use Rattle.std.specs.List.{Contains}
use Rattle.std.proofs.lemmas.Option.{same_Some, slice_get-get_or}
use Rattle.ct_terms.specs.declared.ids.Lit.{Lit}
use Rattle.ct_terms.specs.Literal.{opposite}
use Rattle.ct_log.specs.declared.rules.EqStep.TheVariants.{Hyp}
use Rattle.ct_theory.specs.Steps.{stamp_index}
use Rattle.ct_theory.proofs.ClauseLemmas.{Hyp-one, IsClauseOf-same, IsClauseOf-more, AreStamped-more}
use Rattle.ct_theory.proofs.clause.put.Goals as goal

-- what stands at the stamp of the literal
stamp_at : (stamps : List Bool) (index place : ℕ) (read value : Bool) → index ≡ place → place < length stamps → read ≡ get_or stamps index read → read ≡ value → slice_get stamps place ≡ Some value
stamp_at stamps index place read value same within is now =
    let inside : index < length stamps = omega (arith, within, same) in
    subst (λ k. slice_get stamps k ≡ Some value) same (slice_get-get_or stamps index read inside ∙ ap Some (sym is ∙ now))

pub returns-then-index-clause-clause : goal.returns-then-index-clause-clause
returns-then-index-clause-clause c = λ steps is.
    let l = c.args.l in
    let clause = c.args.clause.now.items in
    let at = stamp_at c.args.stamps.now.items c.index_of-index.result (stamp_index l) c.index.result.now true c.index_of-index.ensures.value c.requires.inside c.index.ensures c.if-index.true in
    IsClauseOf-same steps clause is (Hyp l) (λ m e. subst (λ (k : Lit). Contains clause (opposite k)) (Hyp-one l m e) ((c.requires.stamped l).0 at))

pub returns-clause-stamped : goal.returns-clause-stamped
returns-clause-stamped c =
    rw (c.index_of-index.ensures.value, c.in_ok-push.ensures.items, c.opposite.ensures.value)
    (AreStamped-more c.args.stamps.now.items c.args.clause.now.items c.args.l c.requires.inside c.requires.stamped)

pub returns-clause-clause : goal.returns-clause-clause
returns-clause-clause c = λ steps is.
    let l = c.args.l in
    let clause = c.args.clause.now.items in
    let at = stamp_at c.args.stamps.now.items c.index_of-index.result (stamp_index l) c.index.result.now false c.index_of-index.ensures.value c.requires.inside c.index.ensures c.if-index.false in
    let absent : Contains clause (opposite l) → ⊥ = λ h. true≢false (same_Some true false (sym ((c.requires.stamped l).1 h) ∙ at)) in
    rw (c.in_ok-push.ensures.items, c.opposite.ensures.value) (IsClauseOf-more steps clause is l absent)
