use Rattle.std.proofs.Common.{length, refl, sym, subst, ◌∙◌}
use Rattle.ct_generics.specs.Expression.{Expression}
use Rattle.ct_generics.specs.Declarations.{IsExpression}
use Rattle.ct_instances.specs.Among.{origin_of}
use Rattle.ct_instances.specs.Matching.{matched}
use Rattle.ct_instances.specs.Pairs.{assigned, HasMatched}
use Rattle.ct_instances.proofs.MatchLemmas.{stands_within, parameter_stands, no_parameter, goes_on-parameter, has_parted}
use Rattle.ct_instances.proofs.matching.fits_pair.Goals as goal

pub node-requires : goal.node-requires
node-requires c = record { within = stands_within c.args.template.now c.args.field.0 c.requires.field.0 c.requires.field.1 }

pub fits_parameter-requires : goal.fits_parameter-requires
fits_parameter-requires c =
    let e = parameter_stands c.args.template.now c.args.field.0 c.in-Some.i c.requires.field.0 c.node.result c.requires.field.1 c.node.ensures.value (sym c.parameter_of.ensures.value ∙ c.in-Some.is) in
    record { within = (subst (IsExpression c.args.sig.now.declared.heads (length c.args.sorts.now.items)) e c.requires.field.2).1 }

pub push_parts-requires : goal.push_parts-requires
push_parts-requires c = record { within = stands_within c.args.template.now c.args.field.0 c.requires.field.0 c.requires.field.1; sort = c.requires.sort }

pub returns-in-Some-clause-goes_on : goal.returns-in-Some-clause-goes_on
returns-in-Some-clause-goes_on c =
    let d = c.args.sig.now in
    let nodes = c.args.template.now in
    let old = assigned d c.args.sorts.now.items in
    let e = parameter_stands nodes c.args.field.0 c.in-Some.i c.requires.field.0 c.node.result c.requires.field.1 c.node.ensures.value (sym c.parameter_of.ensures.value ∙ c.in-Some.is) in
    let at = c.denotations.ensures.expression nodes c.args.field c.requires.field.0 c.requires.field.1 ∙ e in
    goes_on-parameter d nodes c.args.field c.args.sort c.args.stack.now.items old (assigned d c.fits_parameter.new.sorts.items) c.fits_parameter.result
    (subst (λ (x : Expression). HasMatched (matched x (origin_of d c.args.sort) old) (assigned d c.fits_parameter.new.sorts.items) c.fits_parameter.result) (sym at) (c.fits_parameter.ensures.fits d c.sorts.ensures.consistent c.requires.sorts c.requires.sort))

pub returns-in-None : goal.returns-in-None
returns-in-None c =
    let d = c.args.sig.now in
    let nodes = c.args.template.now in
    let params = length c.args.sorts.now.items in
    let none_is = no_parameter nodes c.args.field.0 c.requires.field.0 c.node.result c.requires.field.1 c.node.ensures.value (sym c.parameter_of.ensures.value ∙ c.in-None.is) in
    let parted = has_parted d nodes params c.args.field c.args.sort c.args.stack.now.items c.push_parts.new.stack.items (assigned d c.args.sorts.now.items) c.push_parts.result c.requires.pairs (c.push_parts.ensures.parted params c.requires.field.0 c.requires.field.1 c.requires.field.2 none_is) in
    record { goes_on = parted.goes_on; pairs = parted.pairs; less = parted.less; long = refl; sorts = c.requires.sorts }
