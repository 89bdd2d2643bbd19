use Rattle.std.proofs.Common.{List, map, reverse, sym, ap, ◌∙◌}
use Rattle.ct_formulas.specs.declared.tree.Tree.{Tree}
use Rattle.ct_formulas.specs.TreeFormula.{formula_of}
use Rattle.ct_stack.specs.Stack.{in_force}
use Rattle.ct_stack.specs.Held.{level_in}
use Rattle.ct_stack.proofs.LevelLemmas.{all_in_force}
use Rattle.ct_stack.proofs.stack.AssertionStack.assertions.Goals as goal

pub returns : goal.returns
returns c =
    let s = c.self.inside in
    record { all = ap in_force (sym c.self.view_is) ∙ all_in_force (level_in s.scope s.asserts.items) (reverse s.levels.items) ∙ ap (λ (ts : List Tree). map formula_of ts) (sym c.as_slice.ensures.value) }
