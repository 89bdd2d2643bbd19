use Rattle.std.proofs.Common.{All, Ok, Err}
use Rattle.ct_sorts.specs.Declarations.{Declarations}
use Rattle.ct_sorts.specs.Marks.{CanCut}
use Rattle.ct_names.specs.Needs.{ComesTo}
use Rattle.ct_command.specs.Seen.{all_seen}
use Rattle.ct_stack.specs.Assuming.{assumptions, list_seen, IsTruth}
use Rattle.ct_stack.proofs.AssumingLemmas.{back_value}
use Rattle.ct_stack.proofs.BackLemmas.{in_any_error, back_refused, back_unchanged}
use Rattle.ct_stack.proofs.assuming.assumptions.Goals as goal

pub or_back-requires : goal.or_back-requires
or_back-requires c =
    let mid = c.all_assumptions-read.new.scope.sig in
    record { can_cut = in_any_error c.all_assumptions-read.result (CanCut mid c.mark-before.result) (c.mark-before.ensures.lasting mid c.all_assumptions-read.ensures.grown) }

pub returns-clause-ok : goal.returns-clause-ok
returns-clause-ok c =
    let ts = all_seen c.args.terms.now in
    back_value c.or_back.result c.all_assumptions-read.result c.or_back.ensures.same (λ n assumed. ComesTo (λ d. assumptions d ts) c.args.scope.now.sig n (Ok (list_seen assumed))) c.or_back.new.sig c.all_assumptions-read.new.scope.sig c.all_assumptions-read.ensures.ok c.or_back.ensures.ok

pub returns-clause-refused : goal.returns-clause-refused
returns-clause-refused c =
    let ts = all_seen c.args.terms.now in
    let mid = c.all_assumptions-read.new.scope.sig in
    back_refused c.or_back.result c.all_assumptions-read.result c.or_back.ensures.same (λ n. (later : Declarations) × ComesTo (λ d. assumptions d ts) c.args.scope.now.sig later (Err n)) (λ n e. (mid, c.all_assumptions-read.ensures.refused n e))

pub returns-clause-sorted : goal.returns-clause-sorted
returns-clause-sorted c =
    back_value c.or_back.result c.all_assumptions-read.result c.or_back.ensures.same (λ n assumed. All (IsTruth n) assumed.items) c.or_back.new.sig c.all_assumptions-read.new.scope.sig c.all_assumptions-read.ensures.sorted c.or_back.ensures.ok

pub returns-clause-unchanged : goal.returns-clause-unchanged
returns-clause-unchanged c = back_unchanged c.or_back.result c.all_assumptions-read.result c.or_back.ensures.same c.stack_theorems.ensures.hold c.or_back.new.sig c.all_assumptions-read.new.scope.sig c.args.scope.now.sig c.mark-before.result c.mark-before.ensures.lengths c.all_assumptions-read.ensures.grown c.or_back.ensures.back
