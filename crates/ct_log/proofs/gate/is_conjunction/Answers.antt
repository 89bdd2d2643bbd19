use Rattle.std.proofs.Common.{◌≡◌, sym, ap, ◌∙◌, ◌∷◌}
use Rattle.ct_terms.specs.declared.term.Core.TheVariants as core
use Rattle.ct_terms.specs.Terms.{Has}
use Rattle.ct_log.specs.Gates.{positive}
use Rattle.ct_log.proofs.GateLemmas.{And-booleans, Has-same, opposites-map}
use Rattle.ct_log.proofs.gate.is_conjunction.Goals as goal

pub has_arguments-requires : goal.has_arguments-requires
has_arguments-requires c = record {
  booleans = rw c.as_slice.ensures.value (And-booleans c.args.table.now c.args.t.0 c.in-And.args c.requires.sorted (rw c.in-And.is at c.core.ensures.value));
}

pub returns-in-And : goal.returns-in-And
returns-in-And c =
    let told = rw c.as_slice.ensures.value at c.has_arguments.ensures.clause in
    let has : Has c.args.table.now (core.And c.in-And.args) c.args.t.0 = rw c.in-And.is at c.core.ensures.value in
    let as_map = opposites-map c.args.table.now c.in-And.args in
    record {
      clause = (
        λ yes. (c.in-And.args, has, c.if-place-ne0.false, told.0 yes ∙ ap (λ ls. positive c.args.t ∷ ls) (sym as_map)),
        λ h.
            let same : core.And h.0 ≡ core.And c.in-And.args = Has-same c.args.table.now (core.And h.0) (core.And c.in-And.args) c.args.t.0 h.1 has in
            let args : h.0 ≡ c.in-And.args = cc in
            told.1 (rw args at h.3 ∙ ap (λ ls. positive c.args.t ∷ ls) as_map),
      );
    }
