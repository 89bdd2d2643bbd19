use Rattle.std.proofs.Common.{get_or, arith}
use Rattle.std.proofs.lemmas.Option.{slice_get_within}
use Rattle.ct_terms.specs.declared.ids.TermId.{TermId}
use Rattle.ct_trial.proofs.trial.Trial.satisfies.Goals as goal

pub extend-requires-clause-asserts : goal.extend-requires-clause-asserts
extend-requires-clause-asserts c = λ k e within.
    let t : TermId = get_or c.args.asserts.now k e in
    let boolean = c.requires.asserts k e within in
    slice_get_within c.args.table.now t.0 (boolean.0, _) boolean.1

pub are_true-requires : goal.are_true-requires
are_true-requires c = record {
  within = λ k e within.
      let t : TermId = get_or c.args.asserts.now k e in
      let boolean = c.requires.asserts k e within in
      let inside = slice_get_within c.args.table.now t.0 (boolean.0, _) boolean.1 in
      omega (arith, inside, c.in_ok-extend.ensures.all, c.len.ensures.count);
}
