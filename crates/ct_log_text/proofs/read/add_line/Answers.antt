use Rattle.ct_log_text.proofs.ReadLemmas.{gives_line}
use Rattle.ct_log_text.proofs.read.add_line.Goals as goal

pub returns-clause-ok : goal.returns-clause-ok
returns-clause-ok c =
    let all = rw (c.are_terms.ensures.value, c.as_slice-2.ensures.value, c.in_ok-args.ensures.ok, c.as_slice.ensures.value, c.len.ensures.count) at c.if-not-are_terms.false in
    let added = rw (c.core_of.ensures.value, c.in_ok-args.ensures.ok, c.as_slice.ensures.value) at c.add_core.ensures.ok in
    gives_line c.args.sig.now c.args.table.now c.args.line.now c.in_ok-symbol.symbol c.add_core.result _ all c.in_ok-symbol.ensures.value added
