use Rattle.std.proofs.Common.{◌≡◌, refl, sym, subst, ◌∙◌}
use Rattle.std.proofs.lemmas.Option.{none-some, same_Some}
use Rattle.ct_terms.specs.declared.ids.TermId.{TermId}
use Rattle.ct_congr.specs.Partition.{InOneClass}
use Rattle.ct_congr.proofs.RuleLemmas.{expansion_parts}
use Rattle.ct_congr.proofs.rules.expand.Goals as goal

pub returns-in_ok-need-in-Some-clause-needed : goal.returns-in_ok-need-in-Some-clause-needed
returns-in_ok-need-in-Some-clause-needed c = λ hyps old.
    let h = rw c.in-Some.is at c.in_ok-con.ensures.found in
    c.in_ok-need-in-Some.ensures.needed c.args.sig.now c.args.table.now hyps (
      refl,
      record {
        test = c.args.t;
        id = c.args.c;
        ctor = h.0;
        args = h.1;
        declared = h.2;
        holds = rw c.if-not-are_equal.false at c.are_equal.ensures.value;
        test_stands = c.requires.stands;
        con_stands = h.3;
        fields = h.4;
      },
      refl,
    )
    tt old

pub returns-in_ok-need-in-Some-clause-closed : goal.returns-in_ok-need-in-Some-clause-closed
returns-in_ok-need-in-Some-clause-closed c = λ none x y rule is.
    let parts = expansion_parts c.args.sig.now c.args.table.now c.args.reps.now c.args.t c.args.u c.args.c c.requires.stands x y rule is in
    let unique = c.in_ok-con.ensures.unique parts.ctor parts.args y parts.declared parts.stands parts.fields in
    let same : c.in-Some.con ≡ y = same_Some c.in-Some.con y (sym c.in-Some.is ∙ unique) in
    subst (λ (q : TermId). InOneClass c.args.reps.now q y) (sym parts.tested) (subst (InOneClass c.args.reps.now c.args.u) same (c.in_ok-need-in-Some.ensures.none none).1)

pub returns-in-None-clause-closed : goal.returns-in-None-clause-closed
returns-in-None-clause-closed c = λ none x y rule is.
    let parts = expansion_parts c.args.sig.now c.args.table.now c.args.reps.now c.args.t c.args.u c.args.c c.requires.stands x y rule is in
    let unique = c.in_ok-con.ensures.unique parts.ctor parts.args y parts.declared parts.stands parts.fields in
    absurd (none-some y (sym c.in-None.is ∙ unique))
