use Rattle.std.proofs.Common.{◌≡◌, List, [], ◌∷◌, length, All, refl, sym, ap, subst, ◌∙◌, arith, length-append}
use Rattle.std.proofs.lemmas.List.Elements.{All-nil, All-push}
use Rattle.ct_terms.specs.declared.ids.TermId.{TermId}
use Rattle.ct_equivalence.proofs.parents.empty_rows.Goals as goal

pub loop-init : goal.loop-init
loop-init c =
    let empty = c.new-rows.ensures.empty in
    record { long = ap length empty; empty = subst (λ (rows : List (List TermId)). All (λ row. row ≡ []) rows) (sym empty) (All-nil (λ (row : List TermId). row ≡ [])) }

pub loop-preserved : goal.loop-preserved
loop-preserved c =
    let rows = c.loop.rows in
    let more = c.in_ok-add_row.ensures.added in
    record {
      long = omega (arith, ap length more, length-append rows ([] ∷ []), c.loop.invariant.long);
      empty = subst (λ (list : List (List TermId)). All (λ row. row ≡ []) list) (sym more) (All-push (λ (row : List TermId). row ≡ []) rows [] c.loop.invariant.empty refl);
    }

pub returns : goal.returns
returns c =
    let all : c.loop.counter ≡ c.args.count = omega arith in
    record { long = c.loop.invariant.long ∙ all; empty = c.loop.invariant.empty }
