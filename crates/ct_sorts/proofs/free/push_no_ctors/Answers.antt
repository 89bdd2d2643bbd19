use Rattle.std.proofs.Common.{◌≡◌, Bool, List, [], ◌∷◌, ◌++◌, ◌∙◌, ap}
use Rattle.ct_sorts.specs.declared.spelling.Spelling.{Spelling}
use Rattle.ct_sorts.proofs.PieceLemmas.{Begins-self}
use Rattle.ct_sorts.proofs.ResultLemmas.{begins_pushed, on_ok}
use Rattle.ct_sorts.proofs.StepLemmas.{begins_same}
use Rattle.ct_sorts.proofs.free.push_no_ctors.Goals as goal

pub returns-in_err-push_item-clause-grown : goal.returns-in_err-push_item-clause-grown
returns-in_err-push_item-clause-grown c = (begins_same c.args.tables.now.spellings c.push_item.new.items c.in_err-push_item.ensures.unchanged, Begins-self c.args.tables.now.determined)

pub returns-clause-spellings : goal.returns-clause-spellings
returns-clause-spellings c = on_ok c.push_item-2.result (λ _. c.in_ok-push_item.ensures.ok ∙ ap (λ (x : List Spelling). c.args.tables.now.spellings ++ x ∷ []) (c.new-2.ensures.value ∙ c.new.ensures.items)) c.push_item-2.ensures.ok

pub returns-clause-determined : goal.returns-clause-determined
returns-clause-determined c = on_ok c.push_item-2.result (λ e. e ∙ ap (λ (x : List Bool). c.args.tables.now.determined ++ x ∷ []) (c.new-4.ensures.value ∙ c.new-3.ensures.items)) c.push_item-2.ensures.ok

pub returns-clause-grown : goal.returns-clause-grown
returns-clause-grown c = ((c.new-2.result ∷ [], c.in_ok-push_item.ensures.ok), begins_pushed c.push_item-2.result c.args.tables.now.determined c.push_item-2.new.items c.new-4.result c.push_item-2.ensures.ok c.push_item-2.ensures.unchanged)
