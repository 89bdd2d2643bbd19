use Rattle.std.proofs.Common.{subst}
use Rattle.ct_sorts.specs.Lookup.{IsSymbol}
use Rattle.ct_names.specs.Elaboration.{parts_of, applied_symbol, applied_plain}
use Rattle.ct_check.specs.Heads.{headed_by}
use Rattle.ct_check.proofs.HeadLemmas.{leads_along}
use Rattle.ct_check.proofs.HeadCases.{plain_is}
use Rattle.ct_check.proofs.heads.symbol_head.Goals as goal

pub returns-in-GenCtor-clause-value : goal.returns-in-GenCtor-clause-value
returns-in-GenCtor-clause-value c = λ needs scope es n. rw c.in-GenCtor.is (c.generic_ctor_head.ensures.value needs scope es n)

pub returns-in-GenSel-clause-value : goal.returns-in-GenSel-clause-value
returns-in-GenSel-clause-value c = λ needs scope es n. rw c.in-GenSel.is (c.part_head.ensures.value needs c.args.sig.now scope es n)

pub returns-in-GenSel-clause-inside : goal.returns-in-GenSel-clause-inside
returns-in-GenSel-clause-inside c = c.part_head.ensures.inside c.args.sig.now (subst (IsSymbol c.args.sig.now) c.in-GenSel.is c.requires.inside)

pub returns-in-Ctor : goal.returns-in-Ctor
returns-in-Ctor c =
    let s = c.args.symbol in
    record {
      value = λ needs scope es n.
          leads_along needs c.args.sig.now (λ m. applied_symbol m scope s (parts_of m es)) (λ m. applied_plain m scope s (parts_of m es)) (λ m h. headed_by m scope h (parts_of m es)) c.plain_head.result
          (λ m grows. plain_is m scope s (parts_of m es) c.in-Ctor.is)
          (c.plain_head.ensures.value needs scope es n);
      inside = c.plain_head.ensures.inside;
      counted = c.plain_head.ensures.counted;
    }
