use Rattle.std.proofs.Common.{List, length, sym, subst}
use Rattle.ct_sorts.specs.Declarations.{Declarations}
use Rattle.ct_values.specs.declared.node.NodeId.{NodeId}
use Rattle.ct_values.specs.WellFormed.{IsWellFormedGraph}
use Rattle.ct_terms.specs.Terms.{Terms, AreOrdered}
use Rattle.ct_eval.specs.declared.interp.Interp.{Interp}
use Rattle.ct_eval.specs.declared.interp.Table.{Table}
use Rattle.ct_eval.specs.Interpretation.{HasFunctions, HasSelectors}
use Rattle.ct_build.specs.declared.open_classes.OpenClass.{OpenClass}
use Rattle.ct_build.specs.OpenClasses.{AreOpenClasses, AreOfAllSorts}
use Rattle.ct_build.specs.Nodes.{HaveSortedNodes, AreValued}
use Rattle.ct_build.specs.Tables.{AreFunctionRows, AreSelectorRows}
use Rattle.ct_build.proofs.BuildLemmas.{buildable_from, one_value_in}
use Rattle.ct_build.proofs.interpretation.build.Goals as goal

pub valued-requires-clause-buildable : goal.valued-requires-clause-buildable
valued-requires-clause-buildable c = buildable_from c.args.classes.now c.args.sizes.now c.args.sig.now c.args.table.now c.requires.declarations c.requires.terms c.requires.sizes c.requires.quiet c.requires.extensional c.requires.closed c.requires.decided c.in_ok-unbuilt.ensures.own

pub valued-requires-clause-classes : goal.valued-requires-clause-classes
valued-requires-clause-classes c = subst (λ (l : List OpenClass). AreOpenClasses c.args.classes.now l) (sym c.deref-2.ensures.value) c.in_ok-unbuilt.ensures.classes

pub returns : goal.returns
returns c =
    let state = c.args.classes.now in
    let d = c.args.sig.now in
    let terms = c.args.table.now in
    let e = c.requires.declarations in
    let f = c.requires.terms in
    let g = c.in_ok-valued.valued.graph in
    let nodes = c.as_slice-nodes.result.now in
    let defaults = c.as_slice-defaults.result.now in
    let facts = c.in_ok-valued.ensures in
    let known = c.known.ensures.known in
    let own_nodes : HaveSortedNodes state.declarations state.terms g nodes = subst (λ (l : List NodeId). HaveSortedNodes state.declarations state.terms g l) (sym c.as_slice-nodes.ensures.value) facts.nodes in
    let own_defaults : AreOfAllSorts state.declarations g defaults = subst (λ (l : List NodeId). AreOfAllSorts state.declarations g l) (sym c.as_slice-defaults.ensures.value) facts.defaults in
    let have : HaveSortedNodes d terms g nodes = subst (λ (ts : Terms). HaveSortedNodes d ts g nodes) f (subst (λ (k : Declarations). HaveSortedNodes k state.terms g nodes) e own_nodes) in
    let all : AreOfAllSorts d g defaults = subst (λ (k : Declarations). AreOfAllSorts k g defaults) e own_defaults in
    let valued : AreValued state g nodes = subst (λ (l : List NodeId). AreValued state g l) (sym c.as_slice-nodes.ensures.value) facts.valued in
    let i : Interp = record { graph = g; funs = c.new.result; offs = c.new-2.result } in
    let funs : AreFunctionRows terms nodes (length terms) i.funs = subst (λ (l : List Table). AreFunctionRows terms nodes (length terms) l) (sym c.new.ensures.value) c.in_ok-funs.ensures.rows in
    let offs : AreSelectorRows state nodes (length state.terms) i.offs = subst (λ (l : List Table). AreSelectorRows state nodes (length state.terms) l) (sym c.new-2.ensures.value) c.in_ok-offs.ensures.rows in
    let buildable = buildable_from state c.args.sizes.now d terms e f c.requires.sizes c.requires.quiet c.requires.extensional c.requires.closed c.requires.decided c.in_ok-unbuilt.ensures.own in
    let ordered : AreOrdered terms = subst AreOrdered f known.ordered in
    record {
      proper = record {
        graph = subst (λ (k : Declarations). IsWellFormedGraph k g) e facts.well_formed;
        functions = subst (λ (l : List Table). HasFunctions d g l) (sym c.new.ensures.value) (c.in_ok-funs.ensures.functions g all have);
        selectors = subst (λ (l : List Table). HasSelectors d g l) (sym c.new-2.ensures.value) (subst (λ (k : Declarations). HasSelectors k g c.in_ok-offs.offs.items) e (c.in_ok-offs.ensures.selectors g own_defaults own_nodes));
      };
      values = one_value_in state known c.args.sizes.now buildable i (known.closed g facts.well_formed.fits) nodes valued offs d terms e f funs (λ t core sort at. c.evaluation.ensures.unfolds d i terms t core sort ordered at);
    }
