use Rattle.std.proofs.Common.{◌≡◌, sym, ap, ◌∙◌}
use Rattle.ct_sexpr.specs.View.{expression_of, expressions_of}
use Rattle.ct_sexpr.specs.Atom.{symbol}
use Rattle.ct_names.specs.Elaboration.{part_of, parts_of, list_meaning, qualified, headed, application}
use Rattle.ct_names.specs.Parts.{with_part}
use Rattle.ct_names.proofs.NeedLemmas.{reaches_same}
use Rattle.ct_names.proofs.PartLemmas.{part_of_list, count-parts}
use Rattle.ct_check.specs.Heads.{headed_by}
use Rattle.ct_check.proofs.HeadLemmas.{leads_along}
use Rattle.ct_check.proofs.heads.head_of.Goals as goal

pub returns-in-List-clause-value : goal.returns-in-List-clause-value
returns-in-List-clause-value c =
    let d = c.list_head.new.sig in
    let scope = c.args.variables.now in
    let es = expressions_of c.args.args.now in
    leads_along c.args.needs d _ _ (λ m h. headed_by m scope h (parts_of m es)) c.list_head.result
    (λ m grows. ap (λ p. list_meaning m (with_part p (parts_of m es)) scope) (part_of_list m c.args.head.now c.in-List.items c.as_slice.result.now c.in-List.is c.as_slice.ensures.value))
    (c.list_head.ensures.value es (count-parts d c.args.args.now))

pub returns-in-Symbol-clause-value : goal.returns-in-Symbol-clause-value
returns-in-Symbol-clause-value c =
    let scope = c.args.variables.now in
    let es = expressions_of c.args.args.now in
    leads_along c.args.needs c.word_head.new.sig _ _ (λ m h. headed_by m scope h (parts_of m es)) c.word_head.result
    (λ m grows. ap (λ e. list_meaning m (with_part (part_of m (expression_of e)) (parts_of m es)) scope) c.in-Symbol.is ∙ ap (λ w. headed m scope (symbol w) (parts_of m es)) (sym c.as_slice-in-Symbol.ensures.value))
    c.word_head.ensures.value

pub returns-in-Quoted-clause-value : goal.returns-in-Quoted-clause-value
returns-in-Quoted-clause-value c =
    let d = c.args.sig.now in
    let scope = c.args.variables.now in
    let es = expressions_of c.args.args.now in
    leads_along c.args.needs d _ _ (λ m h. headed_by m scope h (parts_of m es)) c.name_head.result
    (λ m grows. ap (λ e. list_meaning m (with_part (part_of m (expression_of e)) (parts_of m es)) scope) c.in-Quoted.is ∙ ap (λ w. application m scope w (parts_of m es)) (sym c.as_slice-in-Quoted.ensures.value))
    (c.name_head.ensures.value c.args.needs es (count-parts d c.args.args.now))

pub returns-in-List-clause-reaches : goal.returns-in-List-clause-reaches
returns-in-List-clause-reaches c =
    let scope = c.args.variables.now in
    let es = expressions_of c.args.args.now in
    reaches_same (λ m. qualified m scope (parts_of m (expressions_of c.as_slice.result.now)) (parts_of m es)) (λ m. list_meaning m (with_part (part_of m (expression_of c.args.head.now)) (parts_of m es)) scope) c.args.sig.now c.list_head.new.sig
    (λ m grows. ap (λ p. list_meaning m (with_part p (parts_of m es)) scope) (part_of_list m c.args.head.now c.in-List.items c.as_slice.result.now c.in-List.is c.as_slice.ensures.value))
    (c.list_head.ensures.reaches es)

pub returns-in-Symbol-clause-reaches : goal.returns-in-Symbol-clause-reaches
returns-in-Symbol-clause-reaches c =
    let scope = c.args.variables.now in
    let es = expressions_of c.args.args.now in
    reaches_same (λ m. headed m scope (symbol c.as_slice-in-Symbol.result.now) (parts_of m es)) (λ m. list_meaning m (with_part (part_of m (expression_of c.args.head.now)) (parts_of m es)) scope) c.args.sig.now c.word_head.new.sig
    (λ m grows. ap (λ e. list_meaning m (with_part (part_of m (expression_of e)) (parts_of m es)) scope) c.in-Symbol.is ∙ ap (λ w. headed m scope (symbol w) (parts_of m es)) (sym c.as_slice-in-Symbol.ensures.value))
    c.word_head.ensures.reaches
