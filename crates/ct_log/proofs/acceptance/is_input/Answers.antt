use Rattle.std.proofs.lemmas.List.Elements.{All-contains}
use Rattle.ct_terms.specs.Terms.{IsBoolean}
use Rattle.ct_log.proofs.acceptance.is_input.Goals as goal

pub lit-requires : goal.lit-requires
lit-requires c = record { boolean = All-contains (IsBoolean c.args.table.now) c.args.asserts.now c.args.t c.requires.booleans (c.is_found.ensures.found.0 c.if-not-is_found.false) }
