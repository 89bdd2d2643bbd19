use Rattle.std.proofs.Common.{◌≡◌, ◌∙◌, ◌++◌, List, ℕ, [], map, Option, Some, sym, ap, subst, arith}
use Rattle.std.specs.Borrow.{Bor}
use Rattle.std.proofs.lemmas.List.{append-nil}
use Rattle.ct_lemmas.proofs.Prefixes.{nothing_left}
use Rattle.ct_names.specs.Bounds.{held_name}
use Rattle.ct_names.specs.Variables.{present_names, has_repeated}
use Rattle.ct_stack.proofs.BlockLemmas.{all_present}
use Rattle.ct_stack.proofs.block.has_repeated_name.Goals as goal

pub returns-in-Ok-clause-value : goal.returns-in-Ok-clause-value
returns-in-Ok-clause-value c =
    let none : c.loop-left.left.now ≡ [] = nothing_left c.loop-left.left.now (omega (arith, c.in_default.len_below)) in
    let held = map held_name c.loop-left.held.items in
    let whole = subst (λ (left : List (Bor (List ℕ))). map (λ (name : Bor (List ℕ)). Some name.now) c.args.names.now ≡ held ++ map (λ (name : Bor (List ℕ)). Some name.now) left) none c.loop-left.invariant ∙ append-nil held in
    c.in-Ok.ensures.value
    ∙ ap (λ (hs : List (Option (Bor (List ℕ)))). has_repeated (present_names (map held_name hs))) c.as_slice.ensures.value
    ∙ ap (λ (ns : List (Option (List ℕ))). has_repeated (present_names ns)) (sym whole)
    ∙ ap has_repeated (all_present c.args.names.now)
