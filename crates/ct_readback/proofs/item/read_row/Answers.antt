use Rattle.std.proofs.Common.{◌≡◌, List, refl, sym, subst, ◌∙◌, inl, inr}
use Rattle.ct_sorts.proofs.PieceLemmas.{Begins-trans}
use Rattle.ct_sexpr.specs.View.{expression_of}
use Rattle.ct_values.specs.declared.node.NodeId.{NodeId}
use Rattle.ct_readback.specs.declared.value.Said.{Said}
use Rattle.ct_readback.specs.declared.value.Said.TheVariants as said
use Rattle.ct_readback.specs.declared.item.Part.{Part}
use Rattle.ct_readback.specs.ValueAt.{IsValueAt}
use Rattle.ct_readback.specs.Said.{IsSaid}
use Rattle.ct_readback.proofs.PartLemmas.{Args, row_no_args, row_no_value, row_cyclic_args, row_cyclic_value, row_fine}
use Rattle.ct_readback.proofs.GrowthLemmas.{args_begins}
use Rattle.ct_readback.proofs.item.read_row.Goals as goal

pub returns-in-Misfit-clause-row : goal.returns-in-Misfit-clause-row
returns-in-Misfit-clause-row c =
    let d = c.args.sig.now in
    let test = expression_of c.args.test.now in
    let value = expression_of c.args.value.now in
    row_no_args d c.args.sorts.now c.args.s test value c.read_test.new.graph c.push_value.new.graph
    (subst (λ (x : Part (List NodeId)). Args d c.args.sorts.now c.args.s test value c.read_test.new.graph x) c.in-Misfit.is c.in_ok-args.ensures.args)

pub returns-in-Nothing-clause-row : goal.returns-in-Nothing-clause-row
returns-in-Nothing-clause-row c =
    let d = c.args.sig.now in
    let g = c.push_value.new.graph in
    let value = expression_of c.args.value.now in
    row_no_value d c.args.sorts.now c.args.s (expression_of c.args.test.now) value g g (subst (λ (x : Said). IsSaid d g (IsValueAt d c.args.s value) c.args.s x) c.in-Nothing.is c.in_ok-said.ensures.said)

pub returns-in-Nothing-said-clause-row : goal.returns-in-Nothing-said-clause-row
returns-in-Nothing-said-clause-row c =
    let d = c.args.sig.now in
    let g = c.push_value.new.graph in
    let value = expression_of c.args.value.now in
    row_no_value d c.args.sorts.now c.args.s (expression_of c.args.test.now) value g g (subst (λ (x : Said). IsSaid d g (IsValueAt d c.args.s value) c.args.s x) c.in-Nothing-said.is c.in_ok-said.ensures.said)

pub returns-in-Cycle-said-2-clause-row : goal.returns-in-Cycle-said-2-clause-row
returns-in-Cycle-said-2-clause-row c =
    let d = c.args.sig.now in
    let g = c.read_test.new.graph in
    let h = c.push_value.new.graph in
    let test = expression_of c.args.test.now in
    let value = expression_of c.args.value.now in
    row_cyclic_value d c.args.sorts.now c.args.s test value g h h c.in-Fine.args
    (subst (λ (x : Part (List NodeId)). Args d c.args.sorts.now c.args.s test value g x) c.in-Fine.is c.in_ok-args.ensures.args)
    (subst (λ (x : Said). IsSaid d h (IsValueAt d c.args.s value) c.args.s x) c.in-Cycle-said-2.is c.in_ok-said.ensures.said)

pub returns-in-Value-clause-row : goal.returns-in-Value-clause-row
returns-in-Value-clause-row c =
    let d = c.args.sig.now in
    let g = c.read_test.new.graph in
    let h = c.push_value.new.graph in
    let test = expression_of c.args.test.now in
    let value = expression_of c.args.value.now in
    let args = subst (λ (x : Part (List NodeId)). Args d c.args.sorts.now c.args.s test value g x) c.in-Fine.is c.in_ok-args.ensures.args in
    row_fine d c.args.sorts.now c.args.s test value h c.in-Fine.args c.in-Value.result (record { args = c.in-Fine.args; result = c.in-Value.result }) refl refl
    (args_begins d g h c.in_ok-args.ensures.well_formed c.in_ok-said.ensures.grown c.args.sorts.now test c.in-Fine.args args)
    (subst (λ (x : Said). IsSaid d h (IsValueAt d c.args.s value) c.args.s x) c.in-Value.is c.in_ok-said.ensures.said)

pub returns-in-Cycle-said : goal.returns-in-Cycle-said
returns-in-Cycle-said c =
    let d = c.args.sig.now in
    let g = c.read_test.new.graph in
    let h = c.push_value.new.graph in
    let test = expression_of c.args.test.now in
    let value = expression_of c.args.value.now in
    record {
      grown = Begins-trans c.args.graph.now g h c.in_ok-args.ensures.grown c.in_ok-said.ensures.grown;
      well_formed = c.in_ok-said.ensures.well_formed;
      row = row_cyclic_args d c.args.sorts.now c.args.s test value g h h c.in_ok-said.said
          (subst (λ (x : Part (List NodeId)). Args d c.args.sorts.now c.args.s test value g x) c.in-Cycle.is c.in_ok-args.ensures.args) c.in_ok-said.ensures.said
          (λ nothing. elim c.in-Cycle-said.is [
            | inl h ↦ let clash : said.Cycle ≡ said.Nothing = sym h ∙ nothing in cc
            | inr h ↦ let clash : said.Value h.0 ≡ said.Nothing = sym h.1 ∙ nothing in cc
          ]);
    }
