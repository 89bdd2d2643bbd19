use Rattle.ct_names.specs.Symbols.{symbol_of}
use Rattle.ct_names.proofs.ResolveLemmas.{resolves}
use Rattle.ct_names.proofs.symbols.symbol_named.Goals as goal

pub returns-clause-value : goal.returns-clause-value
returns-clause-value c =
    let d = c.args.sig.now in
    let name = c.args.name.now in
    c.naming.ensures.one_symbol d name (symbol_of d name) c.lookup.result c.sorts.ensures.consistent (resolves d c.sorts.ensures.consistent name) c.lookup.ensures.value
