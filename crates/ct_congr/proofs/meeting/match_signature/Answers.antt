use Rattle.std.proofs.Common.{◌≡◌, ◌∙◌, ◌<◌, false, List, [], ◌∷◌, ◌++◌, length, refl, ap, sym, subst, arith}
use Rattle.ct_terms.specs.declared.ids.TermId.{TermId}
use Rattle.ct_terms.specs.declared.term.Core.{Core}
use Rattle.ct_terms.specs.Terms.{Has, HasArgumentsBelow}
use Rattle.ct_equivalence.specs.Digests.{digest}
use Rattle.ct_congr.specs.Joined.{AreJoined}
use Rattle.ct_congr.specs.Covered.{Keys, AreKeys, IsRowOf, IsMatched, IsMet}
use Rattle.ct_congr.proofs.AlikeLemmas.{IsAlike-refl}
use Rattle.ct_congr.proofs.ClassLemmas.{InOneClass-refl}
use Rattle.ct_congr.proofs.JoinedLemmas.{AreJoined-class, AreJoined-more}
use Rattle.ct_congr.proofs.MeetingLemmas.{IsMatched-found, none_found}
use Rattle.ct_congr.proofs.MetLemmas.{IsMet-wider, IsMet-push, IsMatched-first, AreKeys-push}
use Rattle.ct_congr.proofs.TermLemmas.{Has-same}
use Rattle.ct_congr.proofs.meeting.match_signature.Goals as goal

pub returns-then-found-clause-stays : goal.returns-then-found-clause-stays
returns-then-found-clause-stays c = λ u core has met.
    let reps = c.args.reps.now in
    let first = c.args.waiting.now.items in
    let second = c.match_rows.new.waiting.items in
    IsMet-wider c.args.table.now reps c.args.keys.now (AreJoined reps first) (AreJoined reps second) (AreJoined-more reps first second c.in_ok-found.ensures.still) u core met

pub returns-then-found-clause-met : goal.returns-then-found-clause-met
returns-then-found-clause-met c = λ core has.
    let joined = AreJoined c.args.reps.now c.match_rows.new.waiting.items in
    let left = c.core.result.now in
    let same : left ≡ core = Has-same c.args.table.now left core c.args.t.0 c.core.ensures.value has in
    subst (IsMatched c.args.table.now c.args.reps.now c.args.keys.now joined c.args.t) same
    (IsMatched-found c.args.table.now c.args.reps.now c.args.keys.now c.digest_from-digest.result joined c.args.t left c.in_ok-found.found c.digest_from-digest.ensures.value (c.in_ok-found.ensures.searched left c.core.ensures.value) c.if-found.true)

pub returns-clause-keys : goal.returns-clause-keys
returns-clause-keys c =
    let reps = c.args.reps.now in
    let inside : c.args.t.0 < length reps = omega (arith, c.requires.inside, c.requires.long) in
    subst (AreKeys reps) (sym c.in_ok-push.ensures.pushed) (AreKeys-push reps c.args.keys.now c.digest_from-digest.result c.args.t (InOneClass-refl reps c.args.t inside) c.requires.keys)

pub returns-clause-stays : goal.returns-clause-stays
returns-clause-stays c = λ u core has met.
    let terms = c.args.table.now in
    let reps = c.args.reps.now in
    let keys = c.args.keys.now in
    let t = c.args.t in
    let first = c.args.waiting.now.items in
    let second = c.match_rows.new.waiting.items in
    let left = c.core.result.now in
    let value = c.digest_from-digest.ensures.value in
    let none = none_found terms reps keys c.digest_from-digest.result (AreJoined reps second) t left c.in_ok-found.found value (c.in_ok-found.ensures.searched left c.core.ensures.value) c.if-found.false in
    let pushed : c.push.new.self ≡ keys ++ (digest reps left, t) ∷ [] = c.in_ok-push.ensures.pushed ∙ ap (λ n. keys ++ (n, t) ∷ []) value in
    let wide = IsMet-wider terms reps keys (AreJoined reps first) (AreJoined reps second) (AreJoined-more reps first second c.in_ok-found.ensures.still) u core met in
    subst (λ (ks : Keys). IsMet terms reps ks (AreJoined reps second) u core) (sym pushed) (IsMet-push terms reps keys (AreJoined reps second) t left c.core.ensures.value none u core wide)

pub returns-clause-met : goal.returns-clause-met
returns-clause-met c = λ core has.
    let terms = c.args.table.now in
    let reps = c.args.reps.now in
    let keys = c.args.keys.now in
    let t = c.args.t in
    let second = c.match_rows.new.waiting.items in
    let left = c.core.result.now in
    let value = c.digest_from-digest.ensures.value in
    let none = none_found terms reps keys c.digest_from-digest.result (AreJoined reps second) t left c.in_ok-found.found value (c.in_ok-found.ensures.searched left c.core.ensures.value) c.if-found.false in
    let pushed : c.push.new.self ≡ keys ++ (digest reps left, t) ∷ [] = c.in_ok-push.ensures.pushed ∙ ap (λ n. keys ++ (n, t) ∷ []) value in
    let inside : t.0 < length reps = omega (arith, c.requires.inside, c.requires.long) in
    let alike = IsAlike-refl reps left (subst (λ n. HasArgumentsBelow n left) (sym c.requires.long) c.core.ensures.inside) in
    let own = AreJoined-class reps second t t (InOneClass-refl reps t inside) in
    let same : left ≡ core = Has-same terms left core t.0 c.core.ensures.value has in
    subst (IsMatched terms reps c.push.new.self (AreJoined reps second) t) same
    (subst (λ (ks : Keys). IsMatched terms reps ks (AreJoined reps second) t left) (sym pushed) (IsMatched-first terms reps keys (AreJoined reps second) t left c.core.ensures.value none alike own))
