use Rattle.std.proofs.Common.{sym, ◌∙◌}
use Rattle.ct_occurrence.proofs.EarlierLemmas.{count_same, count_more}
use Rattle.ct_occurrence.proofs.earlier.Earlier.distinct_with.Goals as goal

pub returns-then-has : goal.returns-then-has
returns-then-has c = record { count = count_same c.self.inside.ctors.items c.self.inside.distinct c.self.invariant c.args.self.now c.self.view_is c.args.c c.len.result c.len.ensures.len (sym c.if-has.true ∙ c.has.ensures.value) }

pub returns : goal.returns
returns c = record { count = count_more c.self.inside.ctors.items c.self.inside.distinct c.self.invariant c.args.self.now c.self.view_is c.args.c c.len-2.result c.len-2.ensures.len (sym c.if-has.false ∙ c.has.ensures.value) }
