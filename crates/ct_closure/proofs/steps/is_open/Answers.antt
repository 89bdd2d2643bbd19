use Rattle.std.proofs.Common.{◌≡◌, slice_get, Some, subst}
use Rattle.ct_closure.specs.Closed.{IsStructured}
use Rattle.ct_closure.proofs.TreeLemmas.{sort_inside}
use Rattle.ct_closure.proofs.CaseLemmas.{one_sort_at, term_and_sort}
use Rattle.ct_closure.proofs.WayLemmas.{construction_parts}
use Rattle.ct_closure.proofs.steps.is_open.Goals as goal

pub is_structured-requires : goal.is_structured-requires
is_structured-requires c =
    record { inside = sort_inside c.args.sig.now c.declared.ensures.consistent c.declared.ensures.of_their_sorts c.declared.ensures.some c.args.table.now c.requires.sound.sorted c.requires.sound.ordered c.args.t.0 c.sort.ensures.value.0 c.sort.result c.sort.ensures.value.1 }

pub returns : goal.returns
returns c =
    let d = c.args.sig.now in
    let table = c.args.table.now in
    let t = c.args.t in
    let at : slice_get table t.0 ≡ Some (c.core.result.now, c.sort.result) = term_and_sort table t c.core.result.now c.sort.result c.core.ensures.value c.sort.ensures.value in
    record {
      unsettled = (
        λ yes. (
          c.sort.result,
          record {
            core = c.core.result.now;
            stands = at;
            structured = c.is_structured.ensures.structured.0 yes;
            unbuilt = λ h. let parts = construction_parts c.core.result.now h in c.in_default.not-Con parts.0 parts.1 parts.2;
          },
        ),
        λ (sort, unsettled).
            c.is_structured.ensures.structured.1
            (subst (IsStructured d) (one_sort_at table t sort c.sort.result (unsettled.core, unsettled.stands) c.sort.ensures.value) unsettled.structured),
      );
    }
