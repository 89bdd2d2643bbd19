use Rattle.std.proofs.Common.{sym, subst}
use Rattle.ct_sexpr.specs.View.{expression_of}
use Rattle.ct_readback.specs.Descent.{IsUpperPart}
use Rattle.ct_readback.proofs.SaidLemmas.{graph_found, graph_missing, graph_unsaid, graph_unplaced, graph_placed}
use Rattle.ct_readback.proofs.value.push_graph.Goals as goal

pub returns-in_default-clause-said : goal.returns-in_default-clause-said
returns-in_default-clause-said c =
    graph_unsaid c.args.sig.now c.args.graph.now c.args.s (expression_of c.args.expr.now) (graph_missing c.args.sig.now c.args.s (expression_of c.args.expr.now) c.in_ok-read.field-0 c.in_default.is c.in_ok-read.ensures.graph)

pub place-requires-clause-upper : goal.place-requires-clause-upper
place-requires-clause-upper c =
    let found = graph_found c.args.sig.now c.args.s (expression_of c.args.expr.now) c.in_ok-read.field-0 c.in-Some.read c.in-Some.is c.in_ok-read.ensures.graph in
    subst (λ sorts. IsUpperPart c.args.sig.now c.in-Some.read.graph sorts) (sym c.deref.ensures.value) found.1

pub returns-in-None-clause-said : goal.returns-in-None-clause-said
returns-in-None-clause-said c =
    let at = graph_found c.args.sig.now c.args.s (expression_of c.args.expr.now) c.in_ok-read.field-0 c.in-Some.read c.in-Some.is c.in_ok-read.ensures.graph in
    graph_unplaced c.args.sig.now c.place.new.graph c.args.s (expression_of c.args.expr.now) c.in-Some.read.graph c.in_ok-placed.placed c.in-None.is c.in_ok-placed.ensures.placed at.0

pub returns-in-Some-placed-clause-said : goal.returns-in-Some-placed-clause-said
returns-in-Some-placed-clause-said c =
    let at = graph_found c.args.sig.now c.args.s (expression_of c.args.expr.now) c.in_ok-read.field-0 c.in-Some.read c.in-Some.is c.in_ok-read.ensures.graph in
    graph_placed c.args.sig.now c.place.new.graph c.args.s (expression_of c.args.expr.now) c.in-Some.read.graph c.in_ok-placed.placed c.in-Some-placed.n c.in-Some-placed.is c.in_ok-placed.ensures.placed at.0
