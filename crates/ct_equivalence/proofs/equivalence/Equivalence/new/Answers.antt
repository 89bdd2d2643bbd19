use Rattle.std.proofs.Common.{List, length, refl, ap, subst, ◌∙◌}
use Rattle.ct_terms.specs.declared.ids.TermId.{TermId}
use Rattle.ct_equivalence.specs.Digests.{AreDigests}
use Rattle.ct_equivalence.proofs.equivalence.Equivalence.new.Goals as goal

pub wide_digests-requires : goal.wide_digests-requires
wide_digests-requires c = record { long = ap length c.reps.ensures.value ∙ c.in_ok-grouped.ensures.of.long }

pub invariant_of-result : goal.invariant_of-result
invariant_of-result c = rw c.new-log.ensures.items c.in_ok-grouped.ensures.whole

pub returns : goal.returns
returns c =
    rw c.new-log.ensures.items
    (record {
      of = record {
        now = c.in_ok-grouped.ensures.of;
        past = tt;
        lone = c.requires.lone;
        digests = subst (λ (reps : List TermId). AreDigests c.args.table.now reps c.in_ok-digests.digests.items) c.reps.ensures.value c.in_ok-digests.ensures.digests;
        places = c.in_ok-places.ensures.places;
      };
      alone = c.in_ok-grouped.ensures.alone;
      past = refl;
    })
