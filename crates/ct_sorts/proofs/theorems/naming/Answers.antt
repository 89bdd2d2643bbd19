use Rattle.ct_sorts.proofs.NamingLemmas.{one_sort, symbol_there, sort_there, symbol_named, sort_has_name, symbol_stays, sort_stays}
use Rattle.ct_sorts.proofs.SymbolLemmas.{one_symbol}
use Rattle.ct_sorts.proofs.theorems.naming.Goals as goal

pub returns-clause-one_sort : goal.returns-clause-one_sort
returns-clause-one_sort c = one_sort

pub returns-clause-symbol_inside : goal.returns-clause-symbol_inside
returns-clause-symbol_inside c = symbol_there

pub returns-clause-sort_inside : goal.returns-clause-sort_inside
returns-clause-sort_inside c = sort_there

pub returns-clause-symbol_named : goal.returns-clause-symbol_named
returns-clause-symbol_named c = symbol_named

pub returns-clause-sort_named : goal.returns-clause-sort_named
returns-clause-sort_named c = sort_has_name

pub returns-clause-symbol_stays : goal.returns-clause-symbol_stays
returns-clause-symbol_stays c = symbol_stays

pub returns-clause-sort_stays : goal.returns-clause-sort_stays
returns-clause-sort_stays c = sort_stays

pub returns-clause-one_symbol : goal.returns-clause-one_symbol
returns-clause-one_symbol c = one_symbol
