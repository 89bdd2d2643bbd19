use Rattle.std.proofs.Common.{◌≡◌, sym, subst, inl, inr, arith}
use Rattle.ct_terms.specs.declared.ids.TermId.{TermId}
use Rattle.ct_terms.specs.Terms.{Has}
use Rattle.ct_congr.specs.Lone.{IsListed}
use Rattle.ct_lemmas.proofs.Numbers.{same_or_other}
use Rattle.ct_congr.proofs.TermLemmas.{Has-inside}
use Rattle.ct_congr.proofs.lone.list_all.Goals as goal

pub loop-t-init : goal.loop-t-init
loop-t-init c = record {
  marks = c.requires.marks;
  below = c.requires.below;
  listed = λ t core below has. absurd (omega (arith, below));
}

pub loop-t-preserved : goal.loop-t-preserved
loop-t-preserved c =
    let terms = c.args.table.now in
    let t : TermId = record { 0 = c.loop-t.t } in
    record {
      marks = c.in_ok-list_one.ensures.marks;
      below = c.in_ok-list_one.ensures.below;
      listed = λ u core below stands. elim (same_or_other u.0 c.loop-t.t) [
        | inl e ↦
            let is : t ≡ u = λ i. record { 0 = sym e i } in
            subst (λ (q : TermId). IsListed c.args.blank.now c.list_one.new.keys c.list_one.new.lone.items q core) is (c.in_ok-list_one.ensures.listed core (subst (λ (q : TermId). Has terms core q.0) (sym is) stands))
        | inr other ↦ c.in_ok-list_one.ensures.stays u core (c.loop-t.invariant.listed u core (omega (arith, other, below)) stands)
      ];
    }

pub returns : goal.returns
returns c = record {
  listed = λ t core has. c.loop-t.invariant.listed t core (omega (arith, Has-inside c.args.table.now core t.0 has, c.len-t-end.ensures.count, c.loop-t-test.false)) has;
}
