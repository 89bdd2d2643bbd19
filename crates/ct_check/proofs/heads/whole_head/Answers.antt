use Rattle.ct_sexpr.specs.View.{expressions_of}
use Rattle.ct_names.specs.Elaboration.{parts_of, qualified_symbol, lone_symbol}
use Rattle.ct_names.proofs.NeedLemmas.{reaches_first}
use Rattle.ct_check.proofs.HeadCases.{whole_later}
use Rattle.ct_check.proofs.heads.whole_head.Goals as goal

pub returns-in_err-symbol-clause-reaches : goal.returns-in_err-symbol-clause-reaches
returns-in_err-symbol-clause-reaches c = reaches_first (λ m. qualified_symbol m c.args.variables.now (parts_of m (expressions_of c.args.args.now))) (λ m s. lone_symbol m s) c.args.sig.now c.qualified_symbol.new.sig c.in_err-symbol.ensures.reaches

pub returns-clause-value : goal.returns-clause-value
returns-clause-value c = λ later grows. whole_later later c.qualified_symbol.new.sig grows c.sorts.ensures.consistent c.args.variables.now (expressions_of c.args.args.now) c.in_ok-symbol.symbol c.in_ok-symbol.ensures.value

pub returns-clause-reaches : goal.returns-clause-reaches
returns-clause-reaches c = reaches_first (λ m. qualified_symbol m c.args.variables.now (parts_of m (expressions_of c.args.args.now))) (λ m s. lone_symbol m s) c.args.sig.now c.qualified_symbol.new.sig c.in_ok-symbol.ensures.reaches
