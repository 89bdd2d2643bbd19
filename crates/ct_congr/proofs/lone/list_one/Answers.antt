use Rattle.std.proofs.Common.{◌≡◌, ◌<◌, ◌∷◌, [], length, refl, sym, subst, ◌∙◌, inl, inr, arith}
use Rattle.std.specs.List.{Contains}
use Rattle.std.proofs.lemmas.List.Elements.{Contains-push, Contains-push_cases}
use Rattle.std.proofs.lemmas.Option.{none-some}
use Rattle.ct_terms.specs.declared.ids.TermId.{TermId}
use Rattle.ct_terms.specs.declared.term.Core.{Core}
use Rattle.ct_congr.specs.Normal.{IsNormal}
use Rattle.ct_equivalence.specs.Signatures.{Signatures}
use Rattle.ct_congr.proofs.TermLemmas.{Has-same}
use Rattle.ct_congr.proofs.lone.list_one.Goals as goal

pub unmark-requires : goal.unmark-requires
unmark-requires c = record { inside = omega (arith, c.requires.below c.in_ok-key.key c.in-Some.first ((c.find.ensures.value c.in-Some.first).0 c.in-Some.is), c.requires.marks) }

pub push-requires : goal.push-requires
push-requires c = record { free = λ t under. none-some t (sym c.in-None.is ∙ (c.find.ensures.value t).1 under) }

pub returns-in-Some-clause-listed : goal.returns-in-Some-clause-listed
returns-in-Some-clause-listed c = λ core has.
    let blank = c.args.blank.now in
    let first = c.in-Some.first in
    let key = c.in_ok-key.key in
    let same : c.core.result.now ≡ core = Has-same c.args.table.now c.core.result.now core c.args.t.0 c.core.ensures.value has in
    record {
      key = key;
      first = first;
      normal = subst (λ (q : Core). IsNormal blank q key) same c.in_ok-key.ensures.normal;
      keyed = (c.find.ensures.value first).0 c.in-Some.is;
      sides = inr (c.unmark-in-Some.ensures.gone, c.unmark-in-Some.ensures.stays first.0 c.unmark.ensures.gone);
    }

pub returns-in_ok-push-in-None-clause-below : goal.returns-in_ok-push-in-None-clause-below
returns-in_ok-push-in-None-clause-below c = λ key t has.
    let split = subst (λ (list : Signatures). Contains list (key, t)) c.in_ok-push-in-None.ensures.pushed has in
    elim (Contains-push_cases c.args.keys.now (c.in_ok-key.key, c.args.t) (key, t) split) [
      | inl before ↦ c.requires.below key t before
      | inr last ↦ subst (λ (e : Core × TermId). e.1.0 < length c.args.table.now) last c.requires.inside
    ]

pub returns-in_ok-push-in-None-clause-listed : goal.returns-in_ok-push-in-None-clause-listed
returns-in_ok-push-in-None-clause-listed c = λ core has.
    let blank = c.args.blank.now in
    let key = c.in_ok-key.key in
    let t = c.args.t in
    let same : c.core.result.now ≡ core = Has-same c.args.table.now c.core.result.now core t.0 c.core.ensures.value has in
    record {
      key = key;
      first = t;
      normal = subst (λ (q : Core). IsNormal blank q key) same c.in_ok-key.ensures.normal;
      keyed = subst (λ (list : Signatures). Contains list (key, t)) (sym c.in_ok-push-in-None.ensures.pushed) (Contains-push c.args.keys.now (key, t));
      sides = inl refl;
    }
