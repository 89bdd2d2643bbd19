use Rattle.std.proofs.Common.{◌≡◌, ℕ, ◌<◌, ◌||◌, List, length, slice_get, Some, refl, sym, subst, arith}
use Rattle.std.proofs.lemmas.Option.{slice_get_within}
use Rattle.ct_lemmas.proofs.Contained.{Contains-from_slice_get}
use Rattle.ct_lemmas.proofs.Lists.{slice_get-there}
use Rattle.ct_terms.specs.declared.ids.TermId.{TermId}
use Rattle.ct_terms.specs.declared.term.Core.{Core}
use Rattle.ct_terms.specs.Terms.{Terms, Has}
use Rattle.ct_congr.specs.Covered.{Keys, AreKeys}
use Rattle.ct_congr.specs.Joined.{AreJoined}
use Rattle.ct_congr.specs.Meeting.{IsTried, IsSearched}
use Rattle.ct_congr.proofs.JoinedLemmas.{AreJoined-more, WaitsOn-trans}
use Rattle.ct_congr.proofs.MeetingLemmas.{IsSearched-next, IsSearched-all}
use Rattle.ct_congr.proofs.meeting.match_rows.Goals as goal
use Rattle.ct_congr.proofs.meeting.match_rows.Goals.{In_ok-matched}

-- the term of a row is a term of the table
row_inside : (terms : Terms) (reps : List TermId) (keys : Keys) (key row : ℕ) (u : TermId) → length reps ≡ length terms → AreKeys reps keys → slice_get keys row ≡ Some (key, u) → u.0 < length terms
row_inside terms reps keys key row u long are at =
    let class = are key u (Contains-from_slice_get keys row (key, u) at) in
    omega (arith, slice_get_within reps u.0 class.0 class.1, long)

pub match_row-requires-clause-other : goal.match_row-requires-clause-other
match_row-requires-clause-other c =
    let h = c.in-Some.ensures.value in
    let is : c.term.result ≡ h.0 = c.term.ensures.value c.args.digest h.0 h.2 in
    subst (λ (x : TermId). x.0 < length c.args.table.now) (sym is) (row_inside c.args.table.now c.args.reps.now c.args.keys.now c.args.digest c.in-Some.row h.0 c.requires.long c.requires.keys h.2)

-- what the row adds
step : (c : In_ok-matched) (core : Core) → Has c.args.table.now core c.args.t.0 → IsSearched c.args.table.now c.args.reps.now c.args.keys.now c.args.digest (AreJoined c.args.reps.now c.match_row.new.waiting.items) c.args.t core c.in-Some.row (c.loop-row.found || c.in_ok-matched.matched)
step c core has =
    let terms = c.args.table.now in
    let reps = c.args.reps.now in
    let first = c.loop-row.waiting.items in
    let second = c.match_row.new.waiting.items in
    let h = c.in-Some.ensures.value in
    let u = h.0 in
    let is : c.term.result ≡ u = c.term.ensures.value c.args.digest u h.2 in
    let other = slice_get-there terms u.0 (row_inside terms reps c.args.keys.now c.args.digest c.in-Some.row u c.requires.long c.requires.keys h.2) in
    let there : Has terms other.0.0 u.0 = (other.0.1, other.1) in
    let tried = c.in_ok-matched.ensures.tried core other.0.0 has (subst (λ (x : TermId). Has terms other.0.0 x.0) (sym is) there) in
    IsSearched-next terms reps c.args.keys.now c.args.digest c.args.t core (AreJoined reps first) (AreJoined reps second) (AreJoined-more reps first second c.in_ok-matched.ensures.still) c.loop-row.end c.in-Some.row u h.1 h.2 h.3 other.0.0 there c.loop-row.found c.in_ok-matched.matched
    (subst (λ (x : TermId). IsTried reps (AreJoined reps second) c.args.t x core other.0.0 c.in_ok-matched.matched) is tried)
    (c.loop-row.invariant.searched core has)

pub loop-row-preserved-then-found : goal.loop-row-preserved-then-found
loop-row-preserved-then-found c =
    let at = (goal.at.loop-row-preserved-then-found c).In_ok-matched in
    let all : (c.loop-row.found || c.in_ok-matched.matched) ≡ c.loop-row.found = subst (λ b. (b || c.in_ok-matched.matched) ≡ b) (sym c.if-found.true) refl in
    record {
      still = λ m before. c.in_ok-matched.ensures.still m (c.loop-row.invariant.still m before);
      waits = λ d. WaitsOn-trans d c.args.table.now c.args.reps.now c.args.waiting.now.items c.loop-row.waiting.items c.match_row.new.waiting.items (c.loop-row.invariant.waits d) (c.in_ok-matched.ensures.waits d);
      searched = λ core has. subst (IsSearched c.args.table.now c.args.reps.now c.args.keys.now c.args.digest (AreJoined c.args.reps.now c.match_row.new.waiting.items) c.args.t core c.in-Some.row) all (step at core has);
    }

pub loop-row-preserved : goal.loop-row-preserved
loop-row-preserved c =
    let at = (goal.at.loop-row-preserved c).In_ok-matched in
    let all : (c.loop-row.found || c.in_ok-matched.matched) ≡ c.in_ok-matched.matched = subst (λ b. (b || c.in_ok-matched.matched) ≡ c.in_ok-matched.matched) (sym c.if-found.false) refl in
    record {
      still = λ m before. c.in_ok-matched.ensures.still m (c.loop-row.invariant.still m before);
      waits = λ d. WaitsOn-trans d c.args.table.now c.args.reps.now c.args.waiting.now.items c.loop-row.waiting.items c.match_row.new.waiting.items (c.loop-row.invariant.waits d) (c.in_ok-matched.ensures.waits d);
      searched = λ core has. subst (IsSearched c.args.table.now c.args.reps.now c.args.keys.now c.args.digest (AreJoined c.args.reps.now c.match_row.new.waiting.items) c.args.t core c.in-Some.row) all (step at core has);
    }

pub returns-clause-searched : goal.returns-clause-searched
returns-clause-searched c = λ core has.
    IsSearched-all c.args.table.now c.args.reps.now c.args.keys.now c.args.digest c.args.t core (AreJoined c.args.reps.now c.loop-row.waiting.items) c.loop-row.end c.loop-row.found c.in_default.ensures.value (c.loop-row.invariant.searched core has)
