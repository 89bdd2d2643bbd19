use Rattle.std.proofs.Common.{◌∙◌, length, subst}
use Rattle.ct_equivalence.specs.Partition.{AreAlone}
use Rattle.ct_equivalence.proofs.BeginningLemmas.{AreOwnRows, IsGrouping-alone, IsGroupingOf-alone}
use Rattle.ct_equivalence.proofs.grouped.Grouped.new.Goals as goal

pub invariant_of-result : goal.invariant_of-result
invariant_of-result c =
    let terms = c.args.table.now in
    let alone : AreAlone (length terms) c.in_ok-reps.reps.items = subst (λ n. AreAlone n c.in_ok-reps.reps.items) c.len-count.ensures.count c.in_ok-reps.ensures.alone in
    let rows : AreOwnRows (length terms) c.in_ok-members.members = record { long = c.in_ok-members.ensures.long ∙ c.len-count.ensures.count; alone = c.in_ok-members.ensures.alone } in
    IsGrouping-alone terms c.in_ok-reps.reps.items c.in_ok-cons.cons.items c.in_ok-members.members c.in_ok-uses.uses alone c.in_ok-cons.ensures.long rows c.in_ok-uses.ensures.parents

pub returns : goal.returns
returns c =
    let terms = c.args.table.now in
    let alone : AreAlone (length terms) c.in_ok-reps.reps.items = subst (λ n. AreAlone n c.in_ok-reps.reps.items) c.len-count.ensures.count c.in_ok-reps.ensures.alone in
    let rows : AreOwnRows (length terms) c.in_ok-members.members = record { long = c.in_ok-members.ensures.long ∙ c.len-count.ensures.count; alone = c.in_ok-members.ensures.alone } in
    record {
      of = IsGroupingOf-alone terms c.in_ok-reps.reps.items c.in_ok-cons.cons.items c.in_ok-members.members c.in_ok-uses.uses alone c.in_ok-cons.ensures.long rows c.in_ok-uses.ensures.parents c.in_ok-cons.ensures.cons;
      whole = IsGrouping-alone terms c.in_ok-reps.reps.items c.in_ok-cons.cons.items c.in_ok-members.members c.in_ok-uses.uses alone c.in_ok-cons.ensures.long rows c.in_ok-uses.ensures.parents;
      alone = alone;
    }
