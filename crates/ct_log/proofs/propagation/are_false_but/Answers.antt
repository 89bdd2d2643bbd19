use Rattle.std.proofs.Common.{◌≡◌, ◌⊎◌, false, All, subst}
use Rattle.std.proofs.lemmas.List.{take_all}
use Rattle.std.proofs.lemmas.List.Elements.{All-more}
use Rattle.ct_terms.specs.declared.ids.Lit.{Lit}
use Rattle.ct_terms.specs.Propagation.{IsFalseIn}
use Rattle.ct_log.proofs.LookLemmas.{not_told}
use Rattle.ct_log.proofs.propagation.are_false_but.Goals as goal

abbrev default : Lit
default = record { term = record { 0 = 0 }; positive = false }

pub returns-then-not-is_or_is_false : goal.returns-then-not-is_or_is_false
returns-then-not-is_or_is_false c = record {
  others = λ set marked. (
    λ e. cc,
    λ all. absurd (not_told c.is_or_is_false.result _ (c.is_or_is_false.ensures.either set marked) c.if-not-is_or_is_false.true (all c.loop-k.k-index default c.loop-k-test.true)),
  );
}

pub loop-k-preserved : goal.loop-k-preserved
loop-k-preserved c =
    λ set marked. All-more (λ k. (k ≡ c.args.l) ⊎ IsFalseIn set k) c.args.clause.now c.loop-k.k-index default c.loop-k-test.true (c.loop-k.invariant set marked) ((c.is_or_is_false.ensures.either set marked).0 c.if-not-is_or_is_false.false)

pub returns : goal.returns
returns c = record {
  others = λ set marked. (
    λ e. subst (All (λ k. (k ≡ c.args.l) ⊎ IsFalseIn set k)) (take_all c.loop-k.k-index c.args.clause.now c.loop-k-test.false) (c.loop-k.invariant set marked),
    λ all. cc,
  );
}
