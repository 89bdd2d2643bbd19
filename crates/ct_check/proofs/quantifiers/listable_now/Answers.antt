use Rattle.std.proofs.Common.{◌≡◌}
use Rattle.ct_check.proofs.KnownLemmas.{known_now}
use Rattle.ct_check.proofs.quantifiers.listable_now.Goals as goal

pub returns-in-Ok-clause-known : goal.returns-in-Ok-clause-known
returns-in-Ok-clause-known c = known_now c.args.sig.now c.in-Ok.finite c.sorts.ensures.consistent c.in-Ok.ensures.counts
