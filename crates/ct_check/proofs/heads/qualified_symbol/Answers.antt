use Rattle.std.proofs.Common.{ap, arith}
use Rattle.ct_sexpr.specs.View.{expression_of, expressions_of}
use Rattle.ct_names.specs.Elaboration.{part_of, parts_of, qualified_symbol}
use Rattle.ct_names.specs.Parts.{with_part, no_parts}
use Rattle.ct_names.proofs.NeedLemmas.{reaches_same}
use Rattle.ct_names.proofs.PartLemmas.{two_items}
use Rattle.ct_check.proofs.HeadLemmas.{qualified_symbol-fewer, qualified_symbol-more}
use Rattle.ct_check.proofs.heads.qualified_symbol.Goals as goal

pub returns-in-empty-clause-value : goal.returns-in-empty-clause-value
returns-in-empty-clause-value c = qualified_symbol-fewer c.args.sig.now c.args.variables.now c.args.items.now (omega arith)

pub returns-in-empty-2-clause-value : goal.returns-in-empty-2-clause-value
returns-in-empty-2-clause-value c = qualified_symbol-more c.args.sig.now c.args.variables.now c.args.items.now (omega arith)

pub returns-in-len2-clause-reaches : goal.returns-in-len2-clause-reaches
returns-in-len2-clause-reaches c =
    let scope = c.args.variables.now in
    reaches_same (λ m. qualified_symbol m scope (with_part (part_of m (expression_of c.f-item.result)) (with_part (part_of m (expression_of c.sort-item.result)) no_parts))) (λ m. qualified_symbol m scope (parts_of m (expressions_of c.args.items.now))) c.args.sig.now c.qualified_name.new.sig
    (λ m grows. ap (λ xs. qualified_symbol m scope (parts_of m (expressions_of xs))) (two_items c.args.items.now c.f-item.result c.sort-item.result c.in-len2.len_at_least c.in-len2.len_below c.f-item.is c.sort-item.is))
    c.qualified_name.ensures.reaches
