use Rattle.std.proofs.Common.{◌∙◌, sym, ap, arith, true≢false}
use Rattle.ct_sat.specs.Assigned.{Assigned}
use Rattle.ct_sat.proofs.SearchLemmas.{IsSearch-start}
use Rattle.ct_sat.proofs.WatchingLemmas.{watching-start}
use Rattle.ct_sat.proofs.CursorLemmas.{cursor-start}
use Rattle.ct_sat.proofs.search.Search.new.Goals as goal

pub invariant_of-result-2 : goal.invariant_of-result-2
invariant_of-result-2 c =
    let is = c.trail.view_is ∙ c.in_ok-trail.ensures.empty in
    let room = ap (λ (a : Assigned). a.room) is in
    let capacity = c.in_ok-with_capacity.ensures.capacity in
    let exact = c.in_ok-with_capacity.ensures.exact in (
      IsSearch-start c.args.table.now c.in_ok-variables_of.field-0.items c.new-2.result.items _ c.len-terms.result c.args.budget c.in_ok-variables_of.ensures.variables c.new-2.ensures.items is c.len-terms.ensures.count,
      watching-start c.len-terms.result 18446744073709551615 c.in_ok-no_watches.field-0.of_clauses.items c.in_ok-no_watches.field-0.lists.items c.new-3.result.items c.in_ok-with_capacity.field-0.items c.new-2.result.items _
          c.new-2.ensures.items is c.in_ok-no_watches.ensures.of_clauses c.in_ok-no_watches.ensures.lists c.new-3.ensures.items c.in_ok-with_capacity.ensures.items,
      omega arith,
      λ e. absurd (true≢false (sym e)),
      cursor-start c.in_ok-variables_of.field-0.items _ c.in_ok-with_capacity.field-0.items c.in_ok-with_capacity.ensures.items,
    )
