use Rattle.std.proofs.Common.{◌≡◌, ◌<◌, length, get_or, slice_get, Some, ap, ◌∙◌, arith}
use Rattle.std.proofs.lemmas.Option.{slice_get-get_or}
use Rattle.ct_sorts.specs.declared.ids.CtorId.{CtorId}
use Rattle.ct_card.proofs.departure.another.Goals as goal

pub returns-then-ctors-c : goal.returns-then-ctors-c
returns-then-ctors-c c =
    let ctors = c.args.ctors.now in
    let none : CtorId = record { 0 = 0 } in
    let many : 1 < length ctors = c.requires.many in
    let some : 0 < length ctors = omega arith in
    let first : slice_get ctors 0 ≡ Some c.args.c = slice_get-get_or ctors 0 none some ∙ ap (λ n. Some (record { 0 = n })) c.if-ctors-c.true in
    let second : slice_get ctors 1 ≡ Some (get_or ctors 1 none) = slice_get-get_or ctors 1 none many in
    record { other = (1, second, λ e. let same : 0 ≡ 1 = c.requires.distinct 0 1 c.args.c first (second ∙ ap Some e) in omega (arith, same)) }
