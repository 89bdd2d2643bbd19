use Rattle.std.proofs.Common.{◌≡◌, ℕ, List, [], ◌∷◌, Err, refl, sym, ◌∙◌, ap, subst}
use Rattle.ct_generics.specs.Expression.{Expression}
use Rattle.ct_sorts.specs.Consistent.{IsConsistent}
use Rattle.ct_sorts.specs.Declarations.{Declarations}
use Rattle.ct_sorts.specs.Instances.{HasNoRoom, IsWithSorts}
use Rattle.ct_sorts.specs.Marks.{lengths}
use Rattle.ct_sorts.specs.Tabled.{of_tables}
use Rattle.ct_sorts.proofs.AppliedLemmas.{at_closed, at_exists, at_stands}
use Rattle.ct_sorts.proofs.InstanceLemmas.{more_same, more_tabled}
use Rattle.ct_sorts.proofs.MissingLemmas.{with_table}
use Rattle.ct_sorts.proofs.ResultLemmas.{if_ok, on_ok, on_err, only_memory}
use Rattle.ct_sorts.proofs.TableLemmas.{same_of_tables}
use Rattle.ct_sorts.proofs.applied.add_applied.Goals as goal

pub add_sort-requires-clause-tabled : goal.add_sort-requires-clause-tabled
add_sort-requires-clause-tabled c =
    more_tabled c.facts.ensures.all c.args.tables.now c.requires.tabled c.with_arguments.new.table c.with_arguments.ensures.others c.with_arguments.ensures.stay c.len.ensures.ordered

pub add_sort-requires-clause-consistent : goal.add_sort-requires-clause-consistent
add_sort-requires-clause-consistent c =
    let t = c.args.tables.now in
    let table = c.with_arguments.new.table in
    let same = same_of_tables t (with_table t table) (more_same c.facts.ensures.all t c.requires.tabled table c.with_arguments.ensures.others c.with_arguments.ensures.stay) in
    let kept = c.requires.consistent in
    (kept.0, kept.1, subst IsConsistent (sym (same kept.0 kept.1)) kept.2)

pub add_sort-requires-clause-sort : goal.add_sort-requires-clause-sort
add_sort-requires-clause-sort c =
    let t = c.args.tables.now in
    let table = c.with_arguments.new.table in
    let kept = c.requires.consistent in
    let generic = c.requires.generic in
    let e = at_exists t c.args.g c.args.args.now kept.0 kept.1 c.requires.sorts in
    (e.0, at_stands t c.args.g c.args.args.now table.expressions c.in-Ok.id kept.0 kept.1 e.0 c.in-Ok.ensures.ok e.1, at_closed t c.args.g c.args.args.now kept.0 kept.1 kept.2 generic.0 generic.1 generic.2 e.0 e.1)

pub add_sort-requires-clause-mark : goal.add_sort-requires-clause-mark
add_sort-requires-clause-mark c =
    let t = c.args.tables.now in
    let table = c.with_arguments.new.table in
    let same = same_of_tables t (with_table t table) (more_same c.facts.ensures.all t c.requires.tabled table c.with_arguments.ensures.others c.with_arguments.ensures.stay) in
    let mark = c.requires.mark in
    (mark.0, mark.1, mark.2 ∙ ap lengths (sym (same mark.0 mark.1)))

pub returns-in-Ok-clause-ok : goal.returns-in-Ok-clause-ok
returns-in-Ok-clause-ok c =
    let t = c.args.tables.now in
    let table = c.with_arguments.new.table in
    let same = same_of_tables t (with_table t table) (more_same c.facts.ensures.all t c.requires.tabled table c.with_arguments.ensures.others c.with_arguments.ensures.stay) in
    let new = c.add_sort.new.tables in
    if_ok c.add_sort.result (λ s added e fs ds at.
    let own = added e fs ds (at_stands t c.args.g c.args.args.now table.expressions c.in-Ok.id fs ds e c.in-Ok.ensures.ok at) in
    (subst (λ (d : Declarations). IsWithSorts d (e ∷ []) (of_tables new fs ds)) (same fs ds) own.0, own.1)) c.add_sort.ensures.ok

pub returns-in-Ok-clause-accepted : goal.returns-in-Ok-clause-accepted
returns-in-Ok-clause-accepted c =
    let t = c.args.tables.now in
    let table = c.with_arguments.new.table in
    let same = same_of_tables t (with_table t table) (more_same c.facts.ensures.all t c.requires.tabled table c.with_arguments.ensures.others c.with_arguments.ensures.stay) in
    on_ok c.add_sort.result (λ accepted e fs ds at without.
    accepted e fs ds (at_stands t c.args.g c.args.args.now table.expressions c.in-Ok.id fs ds e c.in-Ok.ensures.ok at) (subst (λ (d : Declarations). HasNoRoom d (e ∷ [])) (sym (same fs ds)) without)) c.add_sort.ensures.accepted

pub returns-in-Ok-clause-refused : goal.returns-in-Ok-clause-refused
returns-in-Ok-clause-refused c =
    let t = c.args.tables.now in
    let table = c.with_arguments.new.table in
    let same = same_of_tables t (with_table t table) (more_same c.facts.ensures.all t c.requires.tabled table c.with_arguments.ensures.others c.with_arguments.ensures.stay) in
    λ n e fs ds refused at.
    let own = c.add_sort.ensures.refused n e fs ds refused (at_stands t c.args.g c.args.args.now table.expressions c.in-Ok.id fs ds e c.in-Ok.ensures.ok at) in
    (own.0, subst (λ (d : Declarations). HasNoRoom d (e ∷ [])) (same fs ds) own.1)

pub returns-in-Ok-clause-unchanged : goal.returns-in-Ok-clause-unchanged
returns-in-Ok-clause-unchanged c =
    let t = c.args.tables.now in
    let table = c.with_arguments.new.table in
    let same = same_of_tables t (with_table t table) (more_same c.facts.ensures.all t c.requires.tabled table c.with_arguments.ensures.others c.with_arguments.ensures.stay) in
    on_err c.add_sort.result (λ unchanged fs ds. unchanged fs ds ∙ same fs ds) c.add_sort.ensures.unchanged

pub returns-in-Ok-clause-tabled : goal.returns-in-Ok-clause-tabled
returns-in-Ok-clause-tabled c =
    c.add_sort.ensures.tabled

pub returns-in-Ok-clause-consistent : goal.returns-in-Ok-clause-consistent
returns-in-Ok-clause-consistent c =
    let t = c.args.tables.now in
    let table = c.with_arguments.new.table in
    let same = same_of_tables t (with_table t table) (more_same c.facts.ensures.all t c.requires.tabled table c.with_arguments.ensures.others c.with_arguments.ensures.stay) in
    λ fs ds consistent. c.add_sort.ensures.consistent fs ds (subst IsConsistent (sym (same fs ds)) consistent)

pub returns-in-Err-clause-refused : goal.returns-in-Err-clause-refused
returns-in-Err-clause-refused c =
    λ n e fs ds refused at. absurd (only_memory (Err c.in-Err.error) n c.in-Err.ensures.err refused)

pub returns-in-Err-clause-unchanged : goal.returns-in-Err-clause-unchanged
returns-in-Err-clause-unchanged c =
    let t = c.args.tables.now in
    let table = c.with_arguments.new.table in
    let same = same_of_tables t (with_table t table) (more_same c.facts.ensures.all t c.requires.tabled table c.with_arguments.ensures.others c.with_arguments.ensures.stay) in
    same

pub returns-in-Err-clause-tabled : goal.returns-in-Err-clause-tabled
returns-in-Err-clause-tabled c =
    more_tabled c.facts.ensures.all c.args.tables.now c.requires.tabled c.with_arguments.new.table c.with_arguments.ensures.others c.with_arguments.ensures.stay c.len.ensures.ordered

pub returns-in-Err-clause-consistent : goal.returns-in-Err-clause-consistent
returns-in-Err-clause-consistent c =
    let t = c.args.tables.now in
    let table = c.with_arguments.new.table in
    let same = same_of_tables t (with_table t table) (more_same c.facts.ensures.all t c.requires.tabled table c.with_arguments.ensures.others c.with_arguments.ensures.stay) in
    λ fs ds consistent. subst IsConsistent (sym (same fs ds)) consistent
