use Rattle.std.proofs.Common.{◌<◌, List, All, length, subst, sym, ◌∙◌}
use Rattle.ct_values.specs.declared.node.NodeId.{NodeId}
use Rattle.ct_values.specs.declared.node.Node.TheVariants.{Con}
use Rattle.ct_eval.proofs.StepSorts.{IsGrown-constructed}
use Rattle.ct_eval.proofs.StepConstruct.{constructs}
use Rattle.ct_eval.proofs.StepReady.{ready_Con}
use Rattle.ct_eval.proofs.term.construct.Goals as goal

pub construct-requires : goal.construct-requires
construct-requires c =
    let g = c.args.shared.now in
    let r = c.requires.ready in
    record {
      within = subst (λ (ns : List NodeId). All (λ n. n.0 < length g) ns) (sym (c.new.ensures.value ∙ c.in_ok-children.ensures.value)) (ready_Con r.0 r.1 g c.args.nodes.now c.args.c c.args.args.now r.2);
    }

pub returns-clause-grown : goal.returns-clause-grown
returns-clause-grown c =
    IsGrown-constructed c.args.shared.now c.construct.new.self (Con c.args.c c.new.result) c.in_ok-construct.field-0 c.in_ok-construct.ensures.grown c.in_ok-construct.ensures.number

pub returns-clause-value : goal.returns-clause-value
returns-clause-value c = λ d i fits terms value sort valued made.
    constructs c.theorems.ensures.theorems d i terms c.args.shared.now c.construct.new.self c.args.nodes.now value c.args.c c.args.args.now sort c.new.result c.in_ok-construct.field-0 (c.new.ensures.value ∙ c.in_ok-children.ensures.value) c.theorems.ensures.closed fits valued made
    c.requires.ready.2.below
    c.in_ok-construct.ensures.grown
    c.in_ok-construct.ensures.first
