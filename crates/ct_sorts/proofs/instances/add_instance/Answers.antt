use Rattle.std.proofs.Common.{◌≡◌, ◌↔◌, ℕ, List, [], ◌∷◌, Ok, Err, inl, inr, refl, sym, ◌∙◌, ap, subst}
use Rattle.ct_generics.specs.Denoted.{declared_of, sorts_of}
use Rattle.ct_generics.specs.Expression.{Expression}
use Rattle.ct_sorts.specs.declared.tables.Tables.{Tables}
use Rattle.ct_sorts.specs.Consistent.{IsConsistent}
use Rattle.ct_sorts.specs.Declarations.{Declarations, Function}
use Rattle.ct_sorts.specs.Instances.{HasNoRoom, IsWithSorts, IsOrigin}
use Rattle.ct_sorts.specs.Marks.{lengths}
use Rattle.ct_sorts.specs.Tabled.{of_tables}
use Rattle.ct_sorts.proofs.InstanceLemmas.{nodes_same, nodes_tabled, no_refusal, refused_by}
use Rattle.ct_sorts.proofs.ResultLemmas.{if_ok, on_ok, on_err}
use Rattle.ct_sorts.proofs.SortEntryLemmas.{with_nodes}
use Rattle.ct_sorts.proofs.TableLemmas.{same_of_tables}
use Rattle.ct_sorts.proofs.instances.add_instance.Goals as goal

pub resolve-requires : goal.resolve-requires
resolve-requires c = record { declared = (declared_of c.args.tables.now.generics, c.requires.tabled.declared) }

pub add_sort-requires-clause-tabled : goal.add_sort-requires-clause-tabled
add_sort-requires-clause-tabled c = nodes_tabled c.facts.ensures.all c.args.tables.now c.requires.tabled c.resolve.new.table c.resolve.ensures.stay c.len.ensures.ordered

pub add_sort-requires-clause-consistent : goal.add_sort-requires-clause-consistent
add_sort-requires-clause-consistent c =
    let t = c.args.tables.now in
    let kept = c.requires.consistent in
    let same = same_of_tables t (with_nodes t c.resolve.new.table) (nodes_same c.facts.ensures.all t c.requires.tabled c.resolve.new.table c.resolve.ensures.stay) in
    (kept.0, kept.1, subst IsConsistent (sym (same kept.0 kept.1)) kept.2)

pub add_sort-requires-clause-sort : goal.add_sort-requires-clause-sort
add_sort-requires-clause-sort c =
    let d = declared_of c.args.tables.now.generics in
    let e = c.in-Ok.ensures.ok d c.requires.tabled.declared in
    (e.0, e.2, c.facts.ensures.all.resolved d 0 c.args.expr.now e.0 c.requires.consistent.2.heads.formed c.requires.closed e.1)

pub add_sort-requires-clause-mark : goal.add_sort-requires-clause-mark
add_sort-requires-clause-mark c =
    let t = c.args.tables.now in
    let mark = c.requires.mark in
    let same = same_of_tables t (with_nodes t c.resolve.new.table) (nodes_same c.facts.ensures.all t c.requires.tabled c.resolve.new.table c.resolve.ensures.stay) in
    (mark.0, mark.1, mark.2 ∙ ap lengths (sym (same mark.0 mark.1)))

pub returns-in-Ok-clause-ok : goal.returns-in-Ok-clause-ok
returns-in-Ok-clause-ok c =
    let t = c.args.tables.now in
    let new = c.add_sort.new.tables in
    let e = c.in-Ok.ensures.ok (declared_of t.generics) c.requires.tabled.declared in
    let same = same_of_tables t (with_nodes t c.resolve.new.table) (nodes_same c.facts.ensures.all t c.requires.tabled c.resolve.new.table c.resolve.ensures.stay) in
    if_ok c.add_sort.result (λ s added fs ds.
    let own = added e.0 fs ds e.2 in
    (e.0, e.1, subst (λ (d : Declarations). IsWithSorts d (e.0 ∷ []) (of_tables new fs ds)) (same fs ds) own.0, own.1)) c.add_sort.ensures.ok

pub returns-in-Ok-clause-accepted : goal.returns-in-Ok-clause-accepted
returns-in-Ok-clause-accepted c =
    let t = c.args.tables.now in
    let e = c.in-Ok.ensures.ok (declared_of t.generics) c.requires.tabled.declared in
    let same = same_of_tables t (with_nodes t c.resolve.new.table) (nodes_same c.facts.ensures.all t c.requires.tabled c.resolve.new.table c.resolve.ensures.stay) in
    on_ok c.add_sort.result (λ accepted n fs ds.
    no_refusal (of_tables t fs ds) c.args.expr.now e.0 n e.1 (λ without. accepted e.0 fs ds e.2 (subst (λ (d : Declarations). HasNoRoom d (e.0 ∷ [])) (sym (same fs ds)) without))) c.add_sort.ensures.accepted

pub returns-in-Ok-clause-refused : goal.returns-in-Ok-clause-refused
returns-in-Ok-clause-refused c =
    let t = c.args.tables.now in
    let e = c.in-Ok.ensures.ok (declared_of t.generics) c.requires.tabled.declared in
    let same = same_of_tables t (with_nodes t c.resolve.new.table) (nodes_same c.facts.ensures.all t c.requires.tabled c.resolve.new.table c.resolve.ensures.stay) in
    λ n fs ds refused.
    let own = c.add_sort.ensures.refused n e.0 fs ds refused e.2 in
    inr (e.0, e.1, subst (λ (d : Declarations). HasNoRoom d (e.0 ∷ [])) (same fs ds) own.1, own.0)

pub returns-in-Ok-clause-unchanged : goal.returns-in-Ok-clause-unchanged
returns-in-Ok-clause-unchanged c =
    let t = c.args.tables.now in
    let same = same_of_tables t (with_nodes t c.resolve.new.table) (nodes_same c.facts.ensures.all t c.requires.tabled c.resolve.new.table c.resolve.ensures.stay) in
    on_err c.add_sort.result (λ unchanged fs ds. unchanged fs ds ∙ same fs ds) c.add_sort.ensures.unchanged

pub returns-in-Ok-clause-consistent : goal.returns-in-Ok-clause-consistent
returns-in-Ok-clause-consistent c =
    let t = c.args.tables.now in
    let same = same_of_tables t (with_nodes t c.resolve.new.table) (nodes_same c.facts.ensures.all t c.requires.tabled c.resolve.new.table c.resolve.ensures.stay) in
    λ fs ds consistent. c.add_sort.ensures.consistent fs ds (subst IsConsistent (sym (same fs ds)) consistent)

pub returns-in-Err-clause-refused : goal.returns-in-Err-clause-refused
returns-in-Err-clause-refused c =
    let d = declared_of c.args.tables.now.generics in
    λ n fs ds refused. inl (c.in-Err.ensures.refused n d (ap Err (refused_by c.in-Err.error c.sig_error.result n (c.sig_error.ensures.refused n) refused)) c.requires.tabled.declared)

pub returns-in-Err-clause-unchanged : goal.returns-in-Err-clause-unchanged
returns-in-Err-clause-unchanged c =
    let t = c.args.tables.now in
    same_of_tables t (with_nodes t c.resolve.new.table) (nodes_same c.facts.ensures.all t c.requires.tabled c.resolve.new.table c.resolve.ensures.stay)

pub returns-in-Err-clause-tabled : goal.returns-in-Err-clause-tabled
returns-in-Err-clause-tabled c = nodes_tabled c.facts.ensures.all c.args.tables.now c.requires.tabled c.resolve.new.table c.resolve.ensures.stay c.len.ensures.ordered

pub returns-in-Err-clause-consistent : goal.returns-in-Err-clause-consistent
returns-in-Err-clause-consistent c =
    let t = c.args.tables.now in
    let same = same_of_tables t (with_nodes t c.resolve.new.table) (nodes_same c.facts.ensures.all t c.requires.tabled c.resolve.new.table c.resolve.ensures.stay) in
    λ fs ds consistent. subst IsConsistent (sym (same fs ds)) consistent

pub returns-in-Ok-clause-tabled : goal.returns-in-Ok-clause-tabled
returns-in-Ok-clause-tabled c = c.add_sort.ensures.tabled
