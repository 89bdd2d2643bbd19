use Rattle.std.proofs.Common.{◌≡◌, ◌∙◌, ℕ, ◌+◌, ◌<◌, List, ◌∷◌, ◌++◌, length, drop, All, sym, ap, subst}
use Rattle.ct_terms.specs.declared.ids.TermId.{TermId}
use Rattle.ct_core.specs.Core.{AreAt}
use Rattle.ct_engine.specs.Verdict.{IsVerdict, IsRefutation}
use Rattle.ct_shrink.specs.declared.shrunk.Need.TheVariants.{Shown, Open}
use Rattle.ct_shrink.specs.Shrunk.{ArePart}
use Rattle.ct_shrink.proofs.PlaceLemmas.{at_within, at_without, next_place}
use Rattle.ct_shrink.proofs.DraftLemmas.{need_shown, need_open, draft_with, draft_without}
use Rattle.ct_shrink.proofs.shrinking.consider.Goals as goal
use Rattle.ct_shrink.proofs.shrinking.consider.Goals.{In_ok-asked}

-- the places before this one that are needed
abbrev front : In_ok-asked → List ℕ
front c = c.args.draft.now.places.items

-- those after it
abbrev back : In_ok-asked → List ℕ
back c = drop (c.args.index + 1) c.args.places.now

-- it is the next one
next : (c : In_ok-asked) → drop c.args.index c.args.places.now ≡ c.place_at-place.result ∷ back c
next c = next_place c.args.places.now c.args.index c.place_at-place.result c.place_at-place.ensures.stands

-- the others stand at some terms
chosen : (c : In_ok-asked) → (ts : List TermId) × AreAt c.args.asserts.now (front c ++ back c) ts
chosen c =
    let was = c.requires.draft.refuted in
    at_without c.args.asserts.now (front c) c.place_at-place.result (back c) was.chosen
    (subst (λ (ps : List ℕ). AreAt c.args.asserts.now (front c ++ ps) was.chosen) (next c) was.stand)

-- these were asked
asked : (c : In_ok-asked) → c.in_ok-asked.asked.items ≡ front c ++ back c
asked c = c.in_ok-asked.ensures.both ∙ (ap (λ (ps : List ℕ). ps ++ c.after-later.result.now) c.as_slice.ensures.value ∙ ap (λ (ps : List ℕ). front c ++ ps) c.after-later.ensures.value)

pub verdict_at-requires-clause-within : goal.verdict_at-requires-clause-within
verdict_at-requires-clause-within c =
    let at = (goal.at.verdict_at-requires-clause-within c).In_ok-asked in
    let all = chosen at in
    subst (All (λ p. p < length c.args.asserts.now)) (sym (c.as_slice-2.ensures.value ∙ asked at)) (at_within c.args.asserts.now (front at ++ back at) all.0 all.1)

pub returns-in-Sat-clause-draft : goal.returns-in-Sat-clause-draft
returns-in-Sat-clause-draft c =
    let at = (goal.at.returns-in-Sat-clause-draft c).In_ok-asked in
    let d = c.args.sig.now in
    let table = c.args.table.now in
    let asserts = c.args.asserts.now in
    let given = c.args.places.now in
    let place = c.place_at-place.result in
    let others = chosen at in
    let stand = subst (λ (ps : List ℕ). AreAt asserts ps others.0) (sym (c.as_slice-2.ensures.value ∙ asked at)) others.1 in
    let is = subst (IsVerdict d table others.0 c.args.budget) c.in-Sat.is (c.in_ok-verdict.ensures.verdict others.0 stand) in
    draft_with d table asserts c.args.budget given c.args.index place c.args.draft.now c.keep.new.draft c.requires.draft (next at) (Shown c.in-Sat.interp)
    (need_shown d table asserts c.args.budget given (front at) place (back at) others.0 c.in-Sat.interp others.1 is)
    c.in_ok-keep-in-Sat.ensures.places c.in_ok-keep-in-Sat.ensures.needs c.in_ok-keep-in-Sat.ensures.derivation

pub returns-in-Unsat-clause-draft : goal.returns-in-Unsat-clause-draft
returns-in-Unsat-clause-draft c =
    let at = (goal.at.returns-in-Unsat-clause-draft c).In_ok-asked in
    let d = c.args.sig.now in
    let table = c.args.table.now in
    let asserts = c.args.asserts.now in
    let given = c.args.places.now in
    let place = c.place_at-place.result in
    let others = chosen at in
    let stand = subst (λ (ps : List ℕ). AreAt asserts ps others.0) (sym (c.as_slice-2.ensures.value ∙ asked at)) others.1 in
    let is = subst (IsVerdict d table others.0 c.args.budget) c.in-Unsat.is (c.in_ok-verdict.ensures.verdict others.0 stand) in
    draft_without d table asserts c.args.budget given c.args.index place c.args.draft.now c.replace.new.draft c.requires.draft (next at) others.0 others.1
    (subst (IsRefutation d table others.0) (sym c.in_ok-replace-in-Unsat.ensures.derivation) is)
    c.in_ok-replace-in-Unsat.ensures.places c.in_ok-replace-in-Unsat.ensures.needs

pub returns-clause-draft : goal.returns-clause-draft
returns-clause-draft c =
    let at = (goal.at.returns-clause-draft c).In_ok-asked in
    let d = c.args.sig.now in
    let table = c.args.table.now in
    let asserts = c.args.asserts.now in
    let given = c.args.places.now in
    let place = c.place_at-place.result in
    let others = chosen at in
    let stand = subst (λ (ps : List ℕ). AreAt asserts ps others.0) (sym (c.as_slice-2.ensures.value ∙ asked at)) others.1 in
    let is = subst (IsVerdict d table others.0 c.args.budget) c.in-Unknown.is (c.in_ok-verdict.ensures.verdict others.0 stand) in
    let part = subst (λ (ps : List ℕ). ArePart given (front at ++ ps)) (next at) c.requires.draft.part in
    draft_with d table asserts c.args.budget given c.args.index place c.args.draft.now c.keep-in-Unknown.new.draft c.requires.draft (next at) (Open c.in-Unknown.spent)
    (need_open d table asserts c.args.budget given (front at) place (back at) others.0 c.in-Unknown.spent part others.1 is)
    c.in_ok-keep-in-Unknown.ensures.places c.in_ok-keep-in-Unknown.ensures.needs c.in_ok-keep-in-Unknown.ensures.derivation
