use Rattle.std.proofs.Common.{◌≡◌, ℕ, ◌<◌, ◌≤◌, List, map, Err, inl, refl, sym, ap, subst, arith}
use Rattle.ct_generics.specs.declared.generics.Generics.{Generics}
use Rattle.ct_generics.specs.Declarations.{Head, Synonym}
use Rattle.ct_generics.specs.Denoted.{declared_of}
use Rattle.ct_sorts.specs.declared.tables.Tables.{Tables}
use Rattle.ct_sorts.specs.Availability.{IsListed}
use Rattle.ct_sorts.specs.Consistent.{IsConsistent}
use Rattle.ct_sorts.specs.Declarations.{most_sorts}
use Rattle.ct_sorts.specs.Limits.{sort_count}
use Rattle.ct_sorts.specs.Tabled.{of_tables, IsTabled}
use Rattle.ct_sorts.proofs.DeclareLemmas.{refused_number}
use Rattle.ct_sorts.proofs.LookupLemmas.{IsListed-right}
use Rattle.ct_sorts.proofs.StepLemmas.{refused_below}
use Rattle.ct_sorts.proofs.SynonymLemmas.{IsWithOne, synonym_accepted, synonym_consistent, synonym_full, synonym_grown, synonym_is, synonym_standing, synonym_tabled}
use Rattle.ct_sorts.proofs.TableLemmas.{restored}
use Rattle.ct_sorts.proofs.synonyms.declare_synonym.Goals as goal

pub sort_count-count-requires-clause-declared : goal.sort_count-count-requires-clause-declared
sort_count-count-requires-clause-declared c = c.requires.tabled.declared

pub sort_count-count-requires-clause-within : goal.sort_count-count-requires-clause-within
sort_count-count-requires-clause-within c = (c.requires.consistent.0, c.requires.consistent.1, c.requires.consistent.2.within)

pub add_synonym-requires-clause-declared : goal.add_synonym-requires-clause-declared
add_synonym-requires-clause-declared c = (declared_of c.args.tables.now.generics, c.requires.tabled.declared)

pub add_synonym-requires-clause-fresh : goal.add_synonym-requires-clause-fresh
add_synonym-requires-clause-fresh c =
    let d = declared_of c.args.tables.now.generics in
    λ listed. c.requires.free (inl (IsListed-right (map (λ (h : Head). h.name) d.heads) (map (λ (s : Synonym). s.name) d.synonyms) c.args.name.now (subst (λ (names : List (List ℕ)). IsListed names c.args.name.now) c.requires.tabled.declared.synonym_names_are listed)))

pub returns-in-Err-clause-refused : goal.returns-in-Err-clause-refused
returns-in-Err-clause-refused c = λ n fs ds err. inl (c.in-Err.ensures.refused n (declared_of c.args.tables.now.generics) (ap Err (refused_below c.in-Err.error c.sig_error.result n (c.sig_error.ensures.refused n).0 err)) c.requires.tabled.declared)

pub returns-in-Err-clause-unchanged : goal.returns-in-Err-clause-unchanged
returns-in-Err-clause-unchanged c = λ fs ds. ap (λ (g : Generics). of_tables (record c.args.tables.now { generics = g }) fs ds) c.in-Err.ensures.unchanged

pub returns-in-Err-clause-tabled : goal.returns-in-Err-clause-tabled
returns-in-Err-clause-tabled c = subst (λ (g : Generics). IsTabled (record c.args.tables.now { generics = g })) (sym c.in-Err.ensures.unchanged) c.requires.tabled

pub returns-in-Err-clause-consistent : goal.returns-in-Err-clause-consistent
returns-in-Err-clause-consistent c = λ fs ds consistent. subst (λ (g : Generics). IsConsistent (of_tables (record c.args.tables.now { generics = g }) fs ds)) (sym c.in-Err.ensures.unchanged) consistent

pub returns-then-count-lt-MOST_SORTS-clause-ok : goal.returns-then-count-lt-MOST_SORTS-clause-ok
returns-then-count-lt-MOST_SORTS-clause-ok c =
    let t = c.args.tables.now in
    let found = c.in-Ok.ensures.ok (declared_of t.generics) c.requires.tabled.declared in
    let s : Synonym = record { name = c.args.name.now; params = c.args.params; body = found.0 } in
    let new : Tables = record t { generics = c.add_synonym.new.g; table = c.forget_counts.new.self } in
    let one : IsWithOne t new s = record { declared = found.3; others = refl; sorts = c.forget_counts.ensures.sorts; expressions = c.forget_counts.ensures.expressions } in
    λ fs ds. (found.0, found.1, synonym_is c.facts.ensures.all t new s c.requires.tabled one fs ds)

pub returns-then-count-lt-MOST_SORTS-clause-accepted : goal.returns-then-count-lt-MOST_SORTS-clause-accepted
returns-then-count-lt-MOST_SORTS-clause-accepted c =
    let t = c.args.tables.now in
    let found = c.in-Ok.ensures.ok (declared_of t.generics) c.requires.tabled.declared in
    let s : Synonym = record { name = c.args.name.now; params = c.args.params; body = found.0 } in
    λ n fs ds refused. let room : sort_count (of_tables t fs ds) < most_sorts = omega (arith, c.sort_count-count.ensures.count fs ds, c.if-count-lt-MOST_SORTS.true) in synonym_accepted (of_tables t fs ds) c.args.body.now found.0 found.1 found.2 room n refused

pub returns-then-count-lt-MOST_SORTS-clause-tabled : goal.returns-then-count-lt-MOST_SORTS-clause-tabled
returns-then-count-lt-MOST_SORTS-clause-tabled c =
    let t = c.args.tables.now in
    let found = c.in-Ok.ensures.ok (declared_of t.generics) c.requires.tabled.declared in
    let s : Synonym = record { name = c.args.name.now; params = c.args.params; body = found.0 } in
    let new : Tables = record t { generics = c.add_synonym.new.g; table = c.forget_counts.new.self } in
    let one : IsWithOne t new s = record { declared = found.3; others = refl; sorts = c.forget_counts.ensures.sorts; expressions = c.forget_counts.ensures.expressions } in
    synonym_tabled c.facts.ensures.all t new s c.requires.tabled one (c.forget_counts.ensures.counted c.add_synonym.new.g)

pub returns-then-count-lt-MOST_SORTS-clause-consistent : goal.returns-then-count-lt-MOST_SORTS-clause-consistent
returns-then-count-lt-MOST_SORTS-clause-consistent c =
    let t = c.args.tables.now in
    let found = c.in-Ok.ensures.ok (declared_of t.generics) c.requires.tabled.declared in
    let s : Synonym = record { name = c.args.name.now; params = c.args.params; body = found.0 } in
    let new : Tables = record t { generics = c.add_synonym.new.g; table = c.forget_counts.new.self } in
    let one : IsWithOne t new s = record { declared = found.3; others = refl; sorts = c.forget_counts.ensures.sorts; expressions = c.forget_counts.ensures.expressions } in
    λ fs ds consistent. let room : sort_count (of_tables t fs ds) < most_sorts = omega (arith, c.sort_count-count.ensures.count fs ds, c.if-count-lt-MOST_SORTS.true) in
    subst IsConsistent (sym (synonym_is c.facts.ensures.all t new s c.requires.tabled one fs ds)) (synonym_consistent c.facts.ensures.all (of_tables t fs ds) s consistent c.requires.free room (c.facts.ensures.all.resolved (declared_of t.generics) c.args.params c.args.body.now found.0 consistent.heads.formed c.requires.parameters found.1))

pub cut_tables-requires : goal.cut_tables-requires
cut_tables-requires c =
    let t = c.args.tables.now in
    let found = c.in-Ok.ensures.ok (declared_of t.generics) c.requires.tabled.declared in
    let s : Synonym = record { name = c.args.name.now; params = c.args.params; body = found.0 } in
    let mid : Tables = record t { generics = c.add_synonym.new.g } in
    let one : IsWithOne t mid s = record { declared = found.3; others = refl; sorts = refl; expressions = refl } in
    record { standing = synonym_standing c.facts.ensures.all t mid s c.requires.tabled one }

pub returns-else-count-lt-MOST_SORTS-clause-refused : goal.returns-else-count-lt-MOST_SORTS-clause-refused
returns-else-count-lt-MOST_SORTS-clause-refused c =
    let t = c.args.tables.now in
    let found = c.in-Ok.ensures.ok (declared_of t.generics) c.requires.tabled.declared in
    let s : Synonym = record { name = c.args.name.now; params = c.args.params; body = found.0 } in
    λ n fs ds err. let full : most_sorts ≤ sort_count (of_tables t fs ds) = omega (arith, c.sort_count-count.ensures.count fs ds, c.if-count-lt-MOST_SORTS.false) in synonym_full (of_tables t fs ds) c.args.body.now found.0 found.1 found.2 full n (refused_number n err)

pub returns-else-count-lt-MOST_SORTS-clause-unchanged : goal.returns-else-count-lt-MOST_SORTS-clause-unchanged
returns-else-count-lt-MOST_SORTS-clause-unchanged c =
    let t = c.args.tables.now in
    let found = c.in-Ok.ensures.ok (declared_of t.generics) c.requires.tabled.declared in
    let s : Synonym = record { name = c.args.name.now; params = c.args.params; body = found.0 } in
    let mid : Tables = record t { generics = c.add_synonym.new.g } in
    let one : IsWithOne t mid s = record { declared = found.3; others = refl; sorts = refl; expressions = refl } in
    (restored t mid c.cut_tables.new.tables c.args.mark.now c.requires.mark.0 c.requires.mark.1 c.requires.tabled (synonym_grown c.facts.ensures.all t mid s c.requires.tabled one) c.requires.mark.2 c.cut_tables.ensures.first c.cut_tables.ensures.standing c.cut_tables.ensures.counted).0

pub returns-else-count-lt-MOST_SORTS-clause-tabled : goal.returns-else-count-lt-MOST_SORTS-clause-tabled
returns-else-count-lt-MOST_SORTS-clause-tabled c =
    let t = c.args.tables.now in
    let found = c.in-Ok.ensures.ok (declared_of t.generics) c.requires.tabled.declared in
    let s : Synonym = record { name = c.args.name.now; params = c.args.params; body = found.0 } in
    let mid : Tables = record t { generics = c.add_synonym.new.g } in
    let one : IsWithOne t mid s = record { declared = found.3; others = refl; sorts = refl; expressions = refl } in
    (restored t mid c.cut_tables.new.tables c.args.mark.now c.requires.mark.0 c.requires.mark.1 c.requires.tabled (synonym_grown c.facts.ensures.all t mid s c.requires.tabled one) c.requires.mark.2 c.cut_tables.ensures.first c.cut_tables.ensures.standing c.cut_tables.ensures.counted).1

pub returns-else-count-lt-MOST_SORTS-clause-consistent : goal.returns-else-count-lt-MOST_SORTS-clause-consistent
returns-else-count-lt-MOST_SORTS-clause-consistent c =
    let t = c.args.tables.now in
    let found = c.in-Ok.ensures.ok (declared_of t.generics) c.requires.tabled.declared in
    let s : Synonym = record { name = c.args.name.now; params = c.args.params; body = found.0 } in
    let mid : Tables = record t { generics = c.add_synonym.new.g } in
    let one : IsWithOne t mid s = record { declared = found.3; others = refl; sorts = refl; expressions = refl } in
    λ fs ds consistent. subst IsConsistent (sym ((restored t mid c.cut_tables.new.tables c.args.mark.now c.requires.mark.0 c.requires.mark.1 c.requires.tabled (synonym_grown c.facts.ensures.all t mid s c.requires.tabled one) c.requires.mark.2 c.cut_tables.ensures.first c.cut_tables.ensures.standing c.cut_tables.ensures.counted).0 fs ds)) consistent
