use Rattle.std.proofs.Common.{◌≡◌, ℕ, ◌+◌, ◌<◌, ◌≤◌, ◌++◌, List, [], ◌∷◌, length, refl, sym, ◌∙◌, ap, ap₂, subst, arith}
use Rattle.ct_sorts.specs.Block.{block_spellings, params_of}
use Rattle.ct_sorts.specs.Symbols.{block_symbols}
use Rattle.ct_sorts.proofs.PieceLemmas.{Begins-self}
use Rattle.ct_sorts.proofs.ResultLemmas.{on_ok}
use Rattle.ct_sorts.proofs.StepLemmas.{grown_names, standing_names}
use Rattle.ct_sorts.proofs.block.declare_symbols.Goals as goal

pub returns-in_err-push_spellings-clause-grown : goal.returns-in_err-push_spellings-clause-grown
returns-in_err-push_spellings-clause-grown c =
    let t = c.args.tables.now in
    grown_names t c.push_spellings.new.spellings t.determined t.symbols c.push_spellings.ensures.grown (Begins-self t.determined) (Begins-self t.symbols)

pub returns-in_err-push_spellings-clause-standing : goal.returns-in_err-push_spellings-clause-standing
returns-in_err-push_spellings-clause-standing c =
    let t = c.args.tables.now in
    standing_names t c.push_spellings.new.spellings t.determined t.symbols c.requires.standing

pub returns-in_err-push_determined-clause-grown : goal.returns-in_err-push_determined-clause-grown
returns-in_err-push_determined-clause-grown c =
    let t = c.args.tables.now in
    grown_names t c.push_spellings.new.spellings c.push_determined.new.determined t.symbols c.push_spellings.ensures.grown c.push_determined.ensures.grown (Begins-self t.symbols)

pub returns-in_err-push_determined-clause-standing : goal.returns-in_err-push_determined-clause-standing
returns-in_err-push_determined-clause-standing c =
    let t = c.args.tables.now in
    standing_names t c.push_spellings.new.spellings c.push_determined.new.determined t.symbols c.requires.standing

pub returns-clause-spellings : goal.returns-clause-spellings
returns-clause-spellings c = on_ok c.push_symbols.result (λ _. c.in_ok-push_spellings.ensures.ok) c.push_symbols.ensures.ok

pub returns-clause-determined : goal.returns-clause-determined
returns-clause-determined c = on_ok c.push_symbols.result (λ _. c.in_ok-push_determined.ensures.ok) c.push_symbols.ensures.ok

pub returns-clause-symbols : goal.returns-clause-symbols
returns-clause-symbols c =
    let t = c.args.tables.now in
    on_ok c.push_symbols.result (λ e. e ∙ ap₂ (λ (n k : ℕ). t.symbols ++ block_symbols c.args.first_head n k (params_of c.args.block.now) (block_spellings c.args.block.now)) c.len.ensures.len c.len-2.ensures.len) c.push_symbols.ensures.ok

pub returns-clause-grown : goal.returns-clause-grown
returns-clause-grown c =
    let t = c.args.tables.now in
    grown_names t c.push_spellings.new.spellings c.push_determined.new.determined c.push_symbols.new.symbols c.push_spellings.ensures.grown c.push_determined.ensures.grown c.push_symbols.ensures.grown

pub returns-clause-standing : goal.returns-clause-standing
returns-clause-standing c =
    let t = c.args.tables.now in
    standing_names t c.push_spellings.new.spellings c.push_determined.new.determined c.push_symbols.new.symbols c.requires.standing
