use Rattle.std.proofs.Common.{◌≡◌}
use Rattle.ct_terms.specs.declared.term.Core.TheVariants as core
use Rattle.ct_terms.specs.Terms.{Has}
use Rattle.ct_log.proofs.GateLemmas.{Or-booleans, Has-same}
use Rattle.ct_log.proofs.gate.is_disjunction.Goals as goal

pub has_arguments-requires : goal.has_arguments-requires
has_arguments-requires c = record {
  booleans = rw c.as_slice.ensures.value (Or-booleans c.args.table.now c.args.t.0 c.in-Or.args c.requires.sorted (rw c.in-Or.is at c.core.ensures.value));
}

pub returns-in-Or : goal.returns-in-Or
returns-in-Or c =
    let told = rw c.as_slice.ensures.value at c.has_arguments.ensures.clause in
    let has : Has c.args.table.now (core.Or c.in-Or.args) c.args.t.0 = rw c.in-Or.is at c.core.ensures.value in
    record {
      clause = (
        λ yes. (c.in-Or.args, has, c.if-place-ne0.false, told.0 yes),
        λ h.
            let same : core.Or h.0 ≡ core.Or c.in-Or.args = Has-same c.args.table.now (core.Or h.0) (core.Or c.in-Or.args) c.args.t.0 h.1 has in
            let args : h.0 ≡ c.in-Or.args = cc in
            told.1 (rw args at h.3),
      );
    }
