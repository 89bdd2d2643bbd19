use Rattle.std.proofs.Common.{◌<◌, ◌∙◌, List, [], ◌∷◌, ◌++◌, length, map, ap, sym, arith}
use Rattle.std.proofs.lemmas.List.{length-map, set-get_or}
use Rattle.ct_terms.specs.declared.ids.TermId.{TermId}
use Rattle.ct_equivalence.specs.Undoing.{row_of}
use Rattle.ct_equivalence.proofs.ListLemmas.{on_err}
use Rattle.ct_equivalence.proofs.RowLemmas.{row_of-read, map-written}
use Rattle.ct_equivalence.proofs.rows.Rows.push.Goals as goal
use Rattle.ct_equivalence.proofs.rows.Rows.push.Goals.{After-push}

within : (c : After-push) → c.args.t.0 < length c.self.inside.rows.items
within c = omega (arith, c.requires.inside, ap length c.self.view_is, length-map c.self.inside.rows.items (λ v. v.items))

pub returns-in_err-push-clause-unchanged : goal.returns-in_err-push-clause-unchanged
returns-in_err-push-clause-unchanged c =
    let rows = c.self.inside.rows.items in
    let view = map (λ v. v.items) rows in
    let at = (goal.at.returns-in_err-push-clause-unchanged c).After-push in
    let read = row_of-read rows c.args.t c.index_mut.result.now (within at) c.index_mut.ensures.value in
    rw (← c.self.view_is)
    (on_err c.from_residual.result
    (map-written rows c.args.t.0 c.push.new.self (row_of view c.args.t) (c.in_err-push.ensures.items ∙ sym read) ∙ set-get_or view c.args.t.0 []))

pub returns-clause-pushed : goal.returns-clause-pushed
returns-clause-pushed c =
    let rows = c.self.inside.rows.items in
    let row = c.index_mut.result.now in
    let at = (goal.at.returns-clause-pushed c).After-push in
    let read = row_of-read rows c.args.t row (within at) c.index_mut.ensures.value in
    rw (← c.self.view_is)
    (map-written rows c.args.t.0 c.push.new.self (row_of (map (λ v. v.items) rows) c.args.t ++ c.args.p ∷ []) (c.in_ok-push.ensures.items ∙ ap (λ (xs : List TermId). xs ++ c.args.p ∷ []) (sym read)))
