use Rattle.std.proofs.Common.{get_or, inr, arith}
use Rattle.std.proofs.lemmas.Option.{slice_get-get_or}
use Rattle.ct_build.proofs.class_nodes.class_node.Goals as goal

pub copied-requires : goal.copied-requires
copied-requires c =
    record { within = c.requires.within c.args.r.0 (get_or c.args.values.now c.args.r.0 (record { 0 = 0 })) (slice_get-get_or c.args.values.now c.args.r.0 (record { 0 = 0 }) (omega (arith, c.requires.values, c.requires.inside))) }

pub returns-in_ok-node-in-None : goal.returns-in_ok-node-in-None
returns-in_ok-node-in-None c =
    record {
      node = inr (record {
        copied = get_or c.args.values.now c.args.r.0 (record { 0 = 0 });
        value = slice_get-get_or c.args.values.now c.args.r.0 (record { 0 = 0 }) (omega (arith, c.requires.values, c.requires.inside));
        at = c.in_ok-node-in-None.ensures.value;
        unbuilt = c.in-None.ensures.none;
      });
    }
