use Rattle.std.proofs.Common.{if◌then◌else◌, sym, ap}
use Rattle.ct_sexpr.specs.Atom.{symbol}
use Rattle.ct_sexpr.specs.View.{expressions_of}
use Rattle.ct_names.specs.Elaboration.{parts_of, headed, reserved, application}
use Rattle.ct_names.proofs.NeedLemmas.{reaches_same}
use Rattle.ct_names.proofs.PartLemmas.{count-parts}
use Rattle.ct_check.specs.Heads.{headed_by}
use Rattle.ct_check.proofs.HeadLemmas.{leads_along, headed-name}
use Rattle.ct_check.proofs.heads.word_head.Goals as goal

pub returns-clause-value : goal.returns-clause-value
returns-clause-value c =
    let d = c.args.sig.now in
    let scope = c.args.variables.now in
    let es = expressions_of c.args.args.now in
    leads_along c.args.needs d _ _ (λ m h. headed_by m scope h (parts_of m es)) c.name_head.result
    (λ m grows. headed-name m scope c.args.word.now (parts_of m es) (sym c.if-is_reserved.ensures.reserved))
    (c.name_head.ensures.value c.args.needs es (count-parts d c.args.args.now))

pub returns-then-is_reserved-clause-reaches : goal.returns-then-is_reserved-clause-reaches
returns-then-is_reserved-clause-reaches c =
    let scope = c.args.variables.now in
    let w = c.args.word.now in
    let es = expressions_of c.args.args.now in
    reaches_same (λ m. reserved m scope w (parts_of m es)) (λ m. headed m scope (symbol w) (parts_of m es)) c.args.sig.now c.reserved_head.new.sig
    (λ m grows. ap (λ b. if b then reserved m scope w (parts_of m es) else application m scope w (parts_of m es)) (sym c.if-is_reserved.ensures.reserved))
    c.reserved_head.ensures.reaches
