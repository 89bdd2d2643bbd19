use Rattle.std.proofs.Common.{Some, sym, ap, ◌∙◌, arith}
use Rattle.std.proofs.lemmas.Option.{slice_get-get_or}
use Rattle.ct_readback.proofs.DefaultLemmas.{defaults_all}
use Rattle.ct_readback.proofs.defaults.default_of.Goals as goal

pub returns-in-Some-clause-default : goal.returns-in-Some-clause-default
returns-in-Some-clause-default c = c.requires.defaults.each c.args.s c.in-Some.n (sym c.made.ensures.value ∙ c.in-Some.is)

pub returns-clause-defaults : goal.returns-clause-defaults
returns-clause-defaults c = defaults_all c.args.sig.now c.args.sizes.now c.append_defaults.new.self c.in_ok-nodes.nodes.items c.in_ok-nodes.ensures.values

pub returns-clause-default : goal.returns-clause-default
returns-clause-default c =
    let nodes = c.in_ok-nodes.nodes.items in
    let values = c.in_ok-nodes.ensures.values in
    let at = slice_get-get_or nodes c.args.s.0 c.index-n.result.now (omega (arith, values.long, c.requires.inside)) ∙ ap Some (sym c.index-n.ensures) in
    (defaults_all c.args.sig.now c.args.sizes.now c.append_defaults.new.self nodes values).each c.args.s c.index-n.result.now at
