use Rattle.std.proofs.Common.{sym, ◌∙◌, true≢false}
use Rattle.ct_rules.specs.declared.equation.Equation.{Equation}
use Rattle.ct_unique.specs.Reached.{IsPairFor}
use Rattle.ct_unique.proofs.FoundLemmas.{IsMore-added}
use Rattle.ct_unique.proofs.FollowLemmas.{AreMatched-stands}
use Rattle.ct_unique.proofs.following.meet.Goals as goal

pub returns-clause-more : goal.returns-clause-more
returns-clause-more c =
    let state = c.args.classes.now in
    let found = c.constructors.ensures.found in
    let pair : Equation = record { left = c.constructors.result.0; right = c.constructors.result.1 } in
    IsMore-added state c.args.partition.now (IsPairFor state c.args.x c.args.y) c.args.found.now.places c.args.found.now.pairs.items c.add.new.found.places c.add.new.found.pairs.items pair c.in_ok-add.ensures.added (record { left = found.left; right = found.right; same = found.same }) (record {
      apart = λ equal. true≢false (sym (c.are_equal.ensures.value.1 equal) ∙ c.if-are_equal.false);
      left = found.left;
      right = found.right;
      left_equal = c.constructors.ensures.left;
      right_equal = c.constructors.ensures.right;
    })

pub returns-clause-matched : goal.returns-clause-matched
returns-clause-matched c =
    AreMatched-stands c.args.classes.now c.add.new.found.pairs.items c.args.x c.args.y c.constructors.result.0 c.constructors.result.1 c.constructors.ensures.left c.constructors.ensures.right c.in_ok-add.ensures.added.stands
