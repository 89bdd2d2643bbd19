use Rattle.std.proofs.lemmas.Option.{none-some}
use Rattle.ct_log.proofs.LookLemmas.{HasArgument-of, LeadsTo-told}
use Rattle.ct_log.proofs.closing.leads_to.Goals as goal

pub returns-in-None : goal.returns-in-None
returns-in-None c = record { leads = (λ e. cc, λ h. absurd (none-some h.ctor ((c.in-None.ensures.built h.ctor).0 (h.args, h.stands)))) }

pub returns-in-None-argument : goal.returns-in-None-argument
returns-in-None-argument c =
    let built = (c.constructor.ensures.built c.in-Some.c).1 c.in-Some.is in
    record {
      leads = (
        λ e. cc,
        λ h.
            let arg = HasArgument-of c.args.table.now c.args.hop.con c.in-Some.c h.ctor c.args.hop.place h.argument built (h.args, h.stands, h.at) in
            absurd (none-some h.argument ((c.in-None-argument.ensures.argument h.argument).0 arg)),
      );
    }

pub returns-in-Some-argument : goal.returns-in-Some-argument
returns-in-Some-argument c =
    let arg = (c.argument.ensures.argument c.in-Some-argument.x).1 c.in-Some-argument.is in
    record {
      leads = LeadsTo-told c.args.sig.now c.args.table.now c.args.given.now c.args.hop.step c.args.hop.place c.args.hop.con c.args.next c.in-Some.c c.in-Some-argument.x c.gave.result (c.is_of_datatype.ensures.datatype.0 c.if-not-is_of_datatype.false) arg c.gave.ensures.gave;
    }
