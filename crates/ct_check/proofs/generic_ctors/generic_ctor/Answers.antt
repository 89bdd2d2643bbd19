use Rattle.std.proofs.Common.{map, ap, ◌∙◌}
use Rattle.std.proofs.lemmas.Result.{err_from_is_err_and}
use Rattle.ct_generics.specs.Expression.{named, with_args}
use Rattle.ct_sorts.specs.declared.ids.Symbol.TheVariants.{GenCtor}
use Rattle.ct_instances.specs.Among.{origin_of}
use Rattle.ct_names.specs.Answer.{as_it_is}
use Rattle.ct_names.specs.Needs.{as_they_are}
use Rattle.ct_names.specs.Outcome.{and_then}
use Rattle.ct_names.specs.Sorts.{sort_there}
use Rattle.ct_names.proofs.AnswerLemmas.{stops_error}
use Rattle.ct_names.proofs.LastingLemmas.{symbol_declared}
use Rattle.ct_names.proofs.NeedLemmas.{reaches_grows}
use Rattle.ct_check.specs.Expected.{arguments_of}
use Rattle.ct_check.specs.Heads.{assignment_in, finished}
use Rattle.ct_check.specs.Trees.{sorted_of}
use Rattle.ct_check.specs.declared.heads.Head.TheVariants.{GenericCtor}
use Rattle.ct_check.proofs.GenericLemmas.{made, sorts_found, sorts_inside, is_at, takes_all, finished_is, finished_reaches, made_is}
use Rattle.ct_check.proofs.generic_ctors.generic_ctor.Goals as goal

pub returns-in_err-args-clause-reaches : goal.returns-in_err-args-clause-reaches
returns-in_err-args-clause-reaches c = as_they_are c.args.sig.now

pub returns-in_default-clause-reaches : goal.returns-in_default-clause-reaches
returns-in_default-clause-reaches c = as_they_are c.args.sig.now

pub sort_at-requires-clause-generic : goal.sort_at-requires-clause-generic
sort_at-requires-clause-generic c =
    let old = c.args.sig.now in
    let r = arguments_of old c.args.terms in
    let items = c.as_slice.result.now in
    let are = sorts_found old (assignment_in r.1) c.in_ok-args.field-0 c.in-Some.args items c.in-Some.is c.as_slice.ensures.value (c.in_ok-args.ensures.value old) in
    takes_all old c.sorts.ensures.consistent c.args.g c.args.index items (assignment_in r.1) c.requires.ctor c.requires.places are

pub sort_at-requires-clause-sorts : goal.sort_at-requires-clause-sorts
sort_at-requires-clause-sorts c =
    sorts_inside c.args.sig.now c.in_ok-args.field-0 c.in-Some.args c.as_slice.result.now c.in-Some.is c.as_slice.ensures.value (c.in_ok-args.ensures.inside c.args.sig.now c.requires.met)

pub returns-in_err-sort-clause-value : goal.returns-in_err-sort-clause-value
returns-in_err-sort-clause-value c =
    let old = c.args.sig.now in
    let r = arguments_of old c.args.terms in
    let items = c.as_slice.result.now in
    let es = map (origin_of old) items in
    let are = sorts_found old (assignment_in r.1) c.in_ok-args.field-0 c.in-Some.args items c.in-Some.is c.as_slice.ensures.value (c.in_ok-args.ensures.value old) in
    let inside = sorts_inside old c.in_ok-args.field-0 c.in-Some.args items c.in-Some.is c.as_slice.ensures.value (c.in_ok-args.ensures.inside old c.requires.met) in
    let at = is_at old c.sorts.ensures.consistent c.args.g items inside in
    let d = c.sort_at.new.sig in
    let e = with_args (named c.args.g.0) es in
    let p = err_from_is_err_and c.from_residual-in_err-sort.result c.from_residual-in_err-sort.ensures.1 in
    rw (p.1, p.2) (stops_error c.args.needs d as_it_is sorted_of (finished d (GenericCtor c.args.g c.args.index) r) (sort_there d e) (made r c.args.g c.args.index d) c.in_err-sort.field-0.0 (finished_is c.args.g c.args.index r es are d) (c.in_err-sort.ensures.value e at))

pub returns-in_err-sort-clause-reaches : goal.returns-in_err-sort-clause-reaches
returns-in_err-sort-clause-reaches c =
    let old = c.args.sig.now in
    let r = arguments_of old c.args.terms in
    let items = c.as_slice.result.now in
    let es = map (origin_of old) items in
    let are = sorts_found old (assignment_in r.1) c.in_ok-args.field-0 c.in-Some.args items c.in-Some.is c.as_slice.ensures.value (c.in_ok-args.ensures.value old) in
    let inside = sorts_inside old c.in_ok-args.field-0 c.in-Some.args items c.in-Some.is c.as_slice.ensures.value (c.in_ok-args.ensures.inside old c.requires.met) in
    let at = is_at old c.sorts.ensures.consistent c.args.g items inside in
    finished_reaches c.args.g c.args.index r es are old c.sort_at.new.sig (c.in_err-sort.ensures.reaches (with_args (named c.args.g.0) es) at)

pub constructed-requires-clause-ctor : goal.constructed-requires-clause-ctor
constructed-requires-clause-ctor c =
    let old = c.args.sig.now in
    let r = arguments_of old c.args.terms in
    let items = c.as_slice.result.now in
    let es = map (origin_of old) items in
    let are = sorts_found old (assignment_in r.1) c.in_ok-args.field-0 c.in-Some.args items c.in-Some.is c.as_slice.ensures.value (c.in_ok-args.ensures.value old) in
    let inside = sorts_inside old c.in_ok-args.field-0 c.in-Some.args items c.in-Some.is c.as_slice.ensures.value (c.in_ok-args.ensures.inside old c.requires.met) in
    let at = is_at old c.sorts.ensures.consistent c.args.g items inside in
    let later = c.sort_at.new.sig in
    let e = with_args (named c.args.g.0) es in
    symbol_declared later old (reaches_grows (λ n. sort_there n e) old later (c.in_ok-sort.ensures.reaches e at)) c.sorts.ensures.consistent (GenCtor c.args.g c.args.index) c.requires.ctor

pub returns-clause-value : goal.returns-clause-value
returns-clause-value c =
    let old = c.args.sig.now in
    let r = arguments_of old c.args.terms in
    let items = c.as_slice.result.now in
    let es = map (origin_of old) items in
    let are = sorts_found old (assignment_in r.1) c.in_ok-args.field-0 c.in-Some.args items c.in-Some.is c.as_slice.ensures.value (c.in_ok-args.ensures.value old) in
    let inside = sorts_inside old c.in_ok-args.field-0 c.in-Some.args items c.in-Some.is c.as_slice.ensures.value (c.in_ok-args.ensures.inside old c.requires.met) in
    let at = is_at old c.sorts.ensures.consistent c.args.g items inside in
    let d = c.sort_at.new.sig in
    let e = with_args (named c.args.g.0) es in
    finished_is c.args.g c.args.index r es are d
    ∙ ap (λ o. and_then o (made r c.args.g c.args.index d)) (c.in_ok-sort.ensures.value e at)
    ∙ made_is d c.args.g c.args.index r c.in_ok-sort.sort _ c.constructed.ensures.formula

pub returns-clause-reaches : goal.returns-clause-reaches
returns-clause-reaches c =
    let old = c.args.sig.now in
    let r = arguments_of old c.args.terms in
    let items = c.as_slice.result.now in
    let es = map (origin_of old) items in
    let are = sorts_found old (assignment_in r.1) c.in_ok-args.field-0 c.in-Some.args items c.in-Some.is c.as_slice.ensures.value (c.in_ok-args.ensures.value old) in
    let inside = sorts_inside old c.in_ok-args.field-0 c.in-Some.args items c.in-Some.is c.as_slice.ensures.value (c.in_ok-args.ensures.inside old c.requires.met) in
    let at = is_at old c.sorts.ensures.consistent c.args.g items inside in
    finished_reaches c.args.g c.args.index r es are old c.sort_at.new.sig (c.in_ok-sort.ensures.reaches (with_args (named c.args.g.0) es) at)
