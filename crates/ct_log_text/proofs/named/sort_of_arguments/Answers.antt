use Rattle.std.proofs.Common.{◌≡◌, List, map, All, Some, sym, ap, subst, ◌∙◌}
use Rattle.std.specs.Option.{option_and_then}
use Rattle.ct_sorts.specs.declared.ids.SortId.{SortId}
use Rattle.ct_sorts.specs.Declarations.{IsSort}
use Rattle.ct_instances.specs.Among.{origin_of}
use Rattle.ct_instances.specs.Fields.{IsMatched, field_matches}
use Rattle.ct_instances.specs.Matching.{sorts_for}
use Rattle.ct_log_text.specs.Named.{sort_at, sort_of_arguments}
use Rattle.ct_log_text.proofs.NamedLemmas.{arguments_give}
use Rattle.ct_log_text.proofs.TermSorts.{sorts_declared}
use Rattle.ct_log_text.proofs.named.sort_of_arguments.Goals as goal

pub matched_with-requires : goal.matched_with-requires
matched_with-requires c =
    let d = c.args.sig.now in
    record {
      ctor = c.requires.ctor;
      sorts = subst (All (IsSort d)) (sym (c.as_slice.ensures.value ∙ c.in_ok-sorts.ensures.value)) (sorts_declared d c.sorts.ensures.consistent c.args.table.now c.requires.table c.len.ensures.ordered c.args.args.now c.requires.within);
    }

pub returns-clause-value : goal.returns-clause-value
returns-clause-value c =
    let d = c.args.sig.now in
    let g = c.args.g in
    let given = c.in-Some.given.items in
    let matches : option_and_then sorts_for (field_matches d g c.args.index c.as_slice.result.now) ≡ Some (map (origin_of d) given) =
    subst (IsMatched d (field_matches d g c.args.index c.as_slice.result.now)) c.in-Some.is c.in_ok-matched_with.ensures.value in
    c.sort_at.ensures.value
    ∙ ap (λ (ss : List SortId). sort_at d g (map (origin_of d) ss)) c.as_slice-in-Some.ensures.value
    ∙ arguments_give d g c.args.index c.as_slice.result.now (Some (map (origin_of d) given)) matches
    ∙ ap (sort_of_arguments d g c.args.index) (c.as_slice.ensures.value ∙ c.in_ok-sorts.ensures.value)
