use Rattle.std.proofs.Common.{◌≡◌, true, refl, sym, subst, ◌∙◌, arith}
use Rattle.std.proofs.lemmas.Option.{none-some, same_Some}
use Rattle.ct_terms.specs.declared.ids.TermId.{TermId}
use Rattle.ct_terms.specs.declared.term.Core.TheVariants.{Con}
use Rattle.ct_rules.specs.Rules.{truth_term}
use Rattle.ct_congr.specs.Joined.{AreJoined}
use Rattle.ct_congr.proofs.TermLemmas.{Has-inside}
use Rattle.ct_congr.proofs.AtTermLemmas.{HasCon-equal, rep_inside, expansion_of}
use Rattle.ct_congr.proofs.at_term.expand_at.Goals as goal

pub is_true-requires-clause-own : goal.is_true-requires-clause-own
is_true-requires-clause-own c = rep_inside c.args.table.now c.args.reps.now c.args.cons.now c.requires.grouped c.args.t

pub let_wait-requires-clause-right : goal.let_wait-requires-clause-right
let_wait-requires-clause-right c =
    let h = rw c.in-Some.is at c.in_ok-con.ensures.found in
    omega (arith, Has-inside c.args.table.now (Con c.args.c h.1) c.in-Some.con.0 h.3, c.requires.grouped.long)

pub returns-in_ok-let_wait-in-Some-clause-waits : goal.returns-in_ok-let_wait-in-Some-clause-waits
returns-in_ok-let_wait-in-Some-clause-waits c =
    let h = rw c.in-Some.is at c.in_ok-con.ensures.found in
    c.in_ok-let_wait-in-Some.ensures.waits c.args.sig.now c.args.table.now (
      refl,
      record {
        test = c.args.t;
        id = c.args.c;
        ctor = h.0;
        args = h.1;
        declared = h.2;
        holds = HasCon-equal c.args.table.now c.args.reps.now c.args.cons.now c.requires.grouped c.args.t (truth_term true) (rw c.if-not-is_true.false at c.is_true.ensures.value);
        test_stands = c.requires.stands;
        con_stands = h.3;
        fields = h.4;
      },
      refl,
    )
    tt

pub returns-in_ok-let_wait-in-Some-clause-covered : goal.returns-in_ok-let_wait-in-Some-clause-covered
returns-in_ok-let_wait-in-Some-clause-covered c = λ x y rule is.
    let parts = expansion_of c.args.sig.now c.args.table.now c.args.reps.now c.args.cons.now c.args.t c.args.u c.args.c c.requires.stands x y rule is in
    let unique = c.in_ok-con.ensures.unique parts.ctor parts.args y parts.declared parts.stands parts.fields in
    let same : c.in-Some.con ≡ y = same_Some c.in-Some.con y (sym c.in-Some.is ∙ unique) in
    let joined = AreJoined c.args.reps.now c.let_wait.new.waiting.items in
    subst (λ (q : TermId). joined q y) (sym parts.tested) (subst (joined c.args.u) same c.in_ok-let_wait-in-Some.ensures.joined)

pub returns-in-None-clause-covered : goal.returns-in-None-clause-covered
returns-in-None-clause-covered c = λ x y rule is.
    let parts = expansion_of c.args.sig.now c.args.table.now c.args.reps.now c.args.cons.now c.args.t c.args.u c.args.c c.requires.stands x y rule is in
    let unique = c.in_ok-con.ensures.unique parts.ctor parts.args y parts.declared parts.stands parts.fields in
    absurd (none-some y (sym c.in-None.is ∙ unique))
