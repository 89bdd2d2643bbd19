use Rattle.std.proofs.Common.{List, refl, subst, arith}
use Rattle.std.specs.List.{Contains}
use Rattle.ct_terms.specs.declared.ids.TermId.{TermId}
use Rattle.ct_congr.specs.declared.merge.Merge.{Merge}
use Rattle.ct_congr.specs.Partition.{InOneClass}
use Rattle.ct_congr.specs.Rules.{IsSingular}
use Rattle.ct_congr.specs.Joined.{AreJoined, AreWaiting, WaitsOn}
use Rattle.ct_congr.specs.Covered.{HasCon, IsCoveredAt, Keys, AreKeys, IsMet}
use Rattle.ct_congr.proofs.CoveredLemmas.{IsCoveredAt-wider}
use Rattle.ct_congr.proofs.MetLemmas.{IsMet-wider}
use Rattle.ct_congr.proofs.JoinedLemmas.{AreJoined-class, AreJoined-more}
use Rattle.ct_congr.proofs.SpreadLemmas.{carry}
use Rattle.ct_congr.proofs.AddingLemmas.{IsGrouped-now}
use Rattle.ct_congr.proofs.StartLemmas.{IsCovered-alone, IsSound-begun}
use Rattle.ct_congr.proofs.starting.start.Goals as goal

pub begin_terms-requires-clause-grouped : goal.begin_terms-requires-clause-grouped
begin_terms-requires-clause-grouped c = rw (c.reps.ensures.value, c.cons.ensures.value) (IsGrouped-now c.args.table.now c.in_ok-parts.parts c.reps.ensures.whole c.in_ok-parts.ensures.of)

pub begin_terms-requires-clause-keys : goal.begin_terms-requires-clause-keys
begin_terms-requires-clause-keys c = λ key t has.
    absurd (omega (arith, (subst (λ (list : Keys). Contains list (key, t)) c.in_ok-keys.ensures.empty has).1))

pub begin_singles-requires : goal.begin_singles-requires
begin_singles-requires c = record { long = rw c.reps-2.ensures.value c.in_ok-parts.ensures.of.now.long }

pub returns : goal.returns
returns c =
    let d = c.args.sig.now in
    let terms = c.args.table.now in
    let parts = c.in_ok-parts.parts in
    let g = parts.now in
    let read = c.reps.result.now in
    let known = c.cons.result.now in
    let first = c.begin_terms.new.waiting.items in
    let second = c.begin_singles.new.waiting.items in
    let keys = c.begin_terms.new.keys in
    let grouped = IsGrouped-now terms parts c.reps.ensures.whole c.in_ok-parts.ensures.of in
    let on = c.in_ok-begin_singles.ensures.waits d c.requires.single in
    let more = AreJoined-more read first second (λ m has. on.still m has) in
    let empty : AreWaiting d terms read c.new-waiting.result.items = λ m has. absurd (omega (arith, (subst (λ (list : List Merge). Contains list m) c.new-waiting.ensures.items has).1)) in
    let waits : AreWaiting d terms g.reps first = subst (λ (q : List TermId). AreWaiting d terms q first) c.reps.ensures.value (c.in_ok-begin_terms.ensures.waits.follows empty) in
    let on_second = subst (λ (q : List TermId). WaitsOn d terms q first second) c.reps-2.ensures.value on in
    record {
      groupings = c.in_ok-parts.ensures.of;
      past = c.in_ok-parts.ensures.past;
      merges = c.new-3.ensures.items;
      keys = subst (λ (q : List TermId). AreKeys q keys) c.reps.ensures.value c.in_ok-begin_terms.ensures.keys;
      waits = on_second.follows waits;
      sound = λ hyps given. IsSound-begun d terms g.reps g.cons grouped c.in_ok-parts.ensures.alone hyps given c.new-3.result.items c.new-3.ensures.items;
      fast = refl;
      covered = IsCovered-alone d terms g.reps g.cons grouped c.in_ok-parts.ensures.alone keys (AreJoined g.reps second) c.len.ensures.ordered (AreJoined-class g.reps second)
          (λ t below. carry (λ reps cons. IsCoveredAt d terms (InOneClass reps) (HasCon reps cons) (AreJoined reps second) t) g.reps read g.cons known c.reps.ensures.value c.cons.ensures.value
          (IsCoveredAt-wider d terms (InOneClass read) (HasCon read known) (AreJoined read first) (AreJoined read second) more t (c.in_ok-begin_terms.ensures.covered t below)))
          (λ t core has. subst (λ (q : List TermId). IsMet terms q keys (AreJoined q second) t core) c.reps.ensures.value (IsMet-wider terms read keys (AreJoined read first) (AreJoined read second) more t core (c.in_ok-begin_terms.ensures.met t core has)))
          (subst (λ (q : List TermId). IsSingular d terms (AreJoined q second)) c.reps-2.ensures.value (c.in_ok-begin_singles.ensures.joined d c.requires.single));
    }

pub begin_terms-requires-clause-lone : goal.begin_terms-requires-clause-lone
begin_terms-requires-clause-lone c = rw c.lone.ensures.value c.in_ok-parts.ensures.of.lone

pub begin_terms-requires-clause-digests : goal.begin_terms-requires-clause-digests
begin_terms-requires-clause-digests c = rw (c.reps.ensures.value, c.digests.ensures.value) c.in_ok-parts.ensures.of.digests
