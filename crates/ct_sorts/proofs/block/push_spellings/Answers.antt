use Rattle.std.proofs.Common.{◌≡◌, List, [], ◌∷◌, ◌++◌, map, take, refl, sym, ◌∙◌, ap}
use Rattle.std.proofs.lemmas.List.{append_assoc, append-nil}
use Rattle.ct_generics.specs.declared.decl.SortDecl.{SortDecl}
use Rattle.ct_sorts.specs.declared.spelling.Spelling.{Spelling}
use Rattle.ct_sorts.specs.Block.{block_spellings, spelling}
use Rattle.ct_sorts.proofs.PushLemmas.{map-take_more}
use Rattle.ct_sorts.proofs.block.push_spellings.Goals as goal

pub loop-decl-init : goal.loop-decl-init
loop-decl-init c = sym (append-nil c.args.spellings.now)

pub returns-in_err-ctors-clause-grown : goal.returns-in_err-ctors-clause-grown
returns-in_err-ctors-clause-grown c = (block_spellings (take c.loop-decl.decl-index c.args.block.now), c.loop-decl.invariant)

pub returns-in_err-push_item-clause-grown : goal.returns-in_err-push_item-clause-grown
returns-in_err-push_item-clause-grown c = (block_spellings (take c.loop-decl.decl-index c.args.block.now), c.in_err-push_item.ensures.unchanged ∙ c.loop-decl.invariant)

pub loop-decl-preserved : goal.loop-decl-preserved
loop-decl-preserved c =
    let made : c.new.result ≡ map spelling c.decl-item.result.ctors = c.new.ensures.value ∙ c.in_ok-ctors.ensures.ok ∙ ap (map spelling) c.as_slice.ensures.value in
    c.in_ok-push_item.ensures.ok
    ∙ ap (λ (xs : List (List Spelling)). xs ++ c.new.result ∷ []) c.loop-decl.invariant
    ∙ append_assoc c.args.spellings.now (block_spellings (take c.loop-decl.decl-index c.args.block.now)) (c.new.result ∷ [])
    ∙ ap (λ (x : List Spelling). c.args.spellings.now ++ (block_spellings (take c.loop-decl.decl-index c.args.block.now) ++ x ∷ [])) made
    ∙ ap (λ (xs : List (List Spelling)). c.args.spellings.now ++ xs) (sym (map-take_more (λ (s : SortDecl). map spelling s.ctors) c.args.block.now c.loop-decl.decl-index c.decl-item.result c.loop-decl-test.true c.decl-item.is))

pub returns-clause-grown : goal.returns-clause-grown
returns-clause-grown c = (block_spellings (take c.loop-decl.decl-index c.args.block.now), c.loop-decl.invariant)
