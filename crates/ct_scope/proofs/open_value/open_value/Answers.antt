use Rattle.std.proofs.Common.{[], refl}
use Rattle.std.proofs.lemmas.Option.{slice_get_within}
use Rattle.ct_scope.proofs.AwaitLemmas.{begun}
use Rattle.ct_scope.proofs.open_value.open_value.Goals as goal

pub part-requires-clause-inside : goal.part-requires-clause-inside
part-requires-clause-inside c =
    let p = c.listed_values.ensures.parts c.args.sig.now c.args.value.sort c.requires.listable in
    slice_get_within c.args.sig.now.sorts c.args.value.sort.0 p.0 p.1

pub returns-clause-opened : goal.returns-clause-opened
returns-clause-opened c = λ table.
    (refl, rw (c.new-args.ensures.empty, c.new-numbers.ensures.value) (begun c.args.sig.now table (record { value = c.args.value; ctor = c.in_ok-part.part.ctor; numbers = c.in_ok-part.part.numbers.items; args = [] }) refl c.requires.listable c.in_ok-part.ensures.inside c.in_ok-part.ensures.fields c.in_ok-part.ensures.part))
