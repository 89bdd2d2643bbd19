-- The state that is found at a check of a script has the stack and the options of the state in which the script's answers come to it.
use Rattle.std.proofs.Common.{◌≡◌, ◌∙◌, ℕ, ◌⊎◌, Bool, true, false, List, [], ◌∷◌, ◌++◌, ◌==◌, None, Some, refl, sym, ap, subst, inl, inr}
use Rattle.std.specs.Bool.{MatchBool}
use Rattle.std.proofs.lemmas.Bool.{and_parts, eqb-true}
use Rattle.std.proofs.lemmas.Option.{none-some, same_Some}
use Rattle.ct_sexpr.specs.Text.{Located, Ending}
use Rattle.ct_sexpr.specs.Expression.{Expression}
use Rattle.ct_command.specs.Reading.{command}
use Rattle.ct_step.specs.Evidence.{Evidence}
use Rattle.ct_script.specs.declared.replay.Replayed.{Replayed}
use Rattle.ct_script.specs.declared.replay.Standing.{Standing}
use Rattle.ct_script.specs.declared.replay.Standing.TheVariants.{Nothing}
use Rattle.ct_step.specs.State.{State, first_state}
use Rattle.ct_step.specs.Step.{counted}
use Rattle.ct_script.specs.Answers.{Answers, Leads, IsSilent}
use Rattle.ct_script.specs.Session.{Course, first_course}
use Rattle.ct_script.specs.Replay.{is_check, hangs, IsCounted, IsPassedOver, IsStepped, Replays, GoesThrough, HaveOneStack, AnswersThrough, is_undecided, EndsUndecided}
use Rattle.ct_replay.specs.Found.{Finds, FindsFrom, is_wanted}
use Rattle.ct_audit.specs.AtCheck.{IsAtCheck}

-- the theorems on scripts that are replayed
pub record ReplayTheorems : Type 0 where
  pub counts : (line : ℕ) (x : Expression) (old new : Course) (standing : Standing) (r : Replayed) → Replays old standing line (command x) new r → new.number ≡ counted old.number x
  pub tells : (line : ℕ) (x : Expression) (old new : Course) (standing : Standing) (r : Replayed) → Replays old standing line (command x) new r → r.check ≡ is_check (command x)
  pub leads_alike : (s last : State) (number count : ℕ) (cs : List Located) (kept : Evidence) (errors : List (ℕ × ℕ)) (lines : List (List ℕ)) (old new : Course) (standing : Standing) → Leads s number cs last count kept errors lines → GoesThrough old standing cs new → HaveOneStack s old.state → HaveOneStack last new.state
  pub leads_counted : (s last : State) (number count : ℕ) (cs : List Located) (kept : Evidence) (errors : List (ℕ × ℕ)) (lines : List (List ℕ)) (old new : Course) (standing : Standing) → Leads s number cs last count kept errors lines → GoesThrough old standing cs new → old.number ≡ number → new.number ≡ count
  pub goes_through : (s : State) (number : ℕ) (first others : List Located) (ending : Ending) (kept : Evidence) (errors : List (ℕ × ℕ)) (lines : List (List ℕ)) (old new : Course) (standing : Standing) → Answers s number (first ++ others) ending kept errors lines → GoesThrough old standing first new → HaveOneStack s old.state → ((last : State) × (count : ℕ) × AnswersThrough s number first others ending kept errors lines last count) ⊎ EndsUndecided s number first kept errors lines

-- these commands split at the wanted check: the replay goes through those before it, and then comes to this state
record IsSplit (old : Course) (standing : Standing) (cs : List Located) (wanted : ℕ) (found : State) : Type 0 where
  before : List Located
  check : Located
  after : List Located
  all : cs ≡ before ++ check ∷ after
  mid : Course
  there : Standing
  new : Course
  r : Replayed
  through : GoesThrough old standing before mid
  replays : Replays mid there check.line (command check.command) new r
  wants : is_wanted r new.number wanted ≡ true
  same : new.state ≡ found

-- after a command that is replayed
module _ (old : Course) (standing : Standing) (c : Located) (cs : List Located) (wanted : ℕ) (found : State) (new : Course) (r : Replayed) (replays : Replays old standing c.line (command c.command) new r) (later : FindsFrom new r.standing cs wanted (Some found) → IsSplit new r.standing cs wanted found) where
  split_later : (stop : Bool) → r.stop ≡ stop → MatchBool stop (Some found ≡ None) (FindsFrom new r.standing cs wanted (Some found)) → IsSplit old standing (c ∷ cs) wanted found
  split_later true stops none = absurd (none-some found (sym none))
  split_later false goes_on finds =
      let rest : IsSplit new r.standing cs wanted found = later finds in
      record {
        before = c ∷ rest.before;
        check = rest.check;
        after = rest.after;
        all = ap (λ (xs : List Located). c ∷ xs) rest.all;
        mid = rest.mid;
        there = rest.there;
        new = rest.new;
        r = rest.r;
        through = (new, r, replays, goes_on, rest.through);
        replays = rest.replays;
        wants = rest.wants;
        same = rest.same;
      }

  split_one : (wants : Bool) → is_wanted r new.number wanted ≡ wants → MatchBool wants (Some found ≡ Some new.state) (MatchBool r.stop (Some found ≡ None) (FindsFrom new r.standing cs wanted (Some found))) → IsSplit old standing (c ∷ cs) wanted found
  split_one true wants is = record {
    before = [];
    check = c;
    after = cs;
    all = refl;
    mid = old;
    there = standing;
    new = new;
    r = r;
    through = refl;
    replays = replays;
    wants = wants;
    same = sym (same_Some found new.state is);
  }
  split_one false other on = split_later r.stop refl on

-- the commands of a script in which the check is found
split : (old : Course) (standing : Standing) (cs : List Located) (wanted : ℕ) (found : State) → FindsFrom old standing cs wanted (Some found) → IsSplit old standing cs wanted found
split old standing [] wanted found none = absurd (none-some found (sym none))
split old standing (c ∷ cs) wanted found (new, r, replays, turned) =
    split_one old standing c cs wanted found new r replays (λ finds. split new r.standing cs wanted found finds) (is_wanted r new.number wanted) refl turned

-- a check that is replayed changes no state
check_stays : (old new : Course) (standing : Standing) (line : ℕ) (x : Expression) (r : Replayed) → is_check (command x) ≡ true → Replays old standing line (command x) new r → new.state ≡ old.state
check_stays old new standing line x r asks replays =
    let counted : IsCounted old new r = subst (λ (b : Bool). MatchBool b (IsCounted old new r) (MatchBool (hangs standing (command x)) (IsPassedOver old standing new r) (IsStepped old standing line (command x) new r))) asks replays in
    ap (λ (c : Course). c.state) counted.0

-- a script that ends at one of some commands ends there with others after them
ends_or_more : (stop : Bool) (P A B : Type 0) → (A → B) → MatchBool stop P A → MatchBool stop P B
ends_or_more true P A B more h = h
ends_or_more false P A B more h = more h

ends_in_more : (s : State) (number : ℕ) (first others : List Located) (kept : Evidence) (errors : List (ℕ × ℕ)) (lines : List (List ℕ)) → EndsUndecided s number first kept errors lines → EndsUndecided s number (first ++ others) kept errors lines
ends_in_more s number [] others kept errors lines ends = absurd ends
ends_in_more s number (c ∷ first) others kept errors lines (e, vs, es, ls, step, followed, ends) = (
  e,
  vs,
  es,
  ls,
  step,
  followed,
  ends_or_more e.stop ((is_undecided (command c.command) ≡ true) × IsSilent vs es ls) (EndsUndecided e.state (counted number c.command) first vs es ls)
      (EndsUndecided e.state (counted number c.command) (first ++ others) vs es ls) (λ h. ends_in_more e.state (counted number c.command) first others vs es ls h) ends,
)

-- where the commands split, the answers come to the check, or end before it
module _ (t : ReplayTheorems) (script : List Located) (wanted : ℕ) (found : State) (ending : Ending) (kept : Evidence) (errors : List (ℕ × ℕ)) (lines : List (List ℕ)) (p : IsSplit first_course Nothing script wanted found) where
  start : HaveOneStack first_state first_state
  start = record { stack = refl; options = refl }

  at_check : (last : State) (total : ℕ) → AnswersThrough first_state 0 p.before (p.check ∷ p.after) ending kept errors lines last total → IsAtCheck script wanted found ending kept errors lines
  at_check last total through =
      let one : HaveOneStack last p.mid.state = t.leads_alike first_state last 0 total p.before through.first_kept through.first_errors through.first_lines first_course p.mid Nothing through.leads p.through start in
      let count : p.mid.number ≡ total = t.leads_counted first_state last 0 total p.before through.first_kept through.first_errors through.first_lines first_course p.mid Nothing through.leads p.through refl in
      let wants : (p.r.check ≡ true) × ((p.new.number == wanted) ≡ true) = and_parts p.r.check (p.new.number == wanted) p.wants in
      let asks : is_check (command p.check.command) ≡ true = sym (t.tells p.check.line p.check.command p.mid p.new p.there p.r p.replays) ∙ wants.0 in
      record {
        before = p.before;
        check = p.check;
        after = p.after;
        all = p.all;
        asks = asks;
        last = last;
        count = total;
        through = through;
        number = ap (λ (n : ℕ). counted n p.check.command) (sym count) ∙ sym (t.counts p.check.line p.check.command p.mid p.new p.there p.r p.replays) ∙ eqb-true p.new.number wanted wants.1;
        same = subst (λ (s : State). HaveOneStack last s) (sym (check_stays p.mid p.new p.there p.check.line p.check.command p.r asks p.replays) ∙ p.same) one;
      }

  abbrev IsThereOrEnds : Type 0
  IsThereOrEnds = IsAtCheck script wanted found ending kept errors lines ⊎ EndsUndecided first_state 0 script kept errors lines

  at_or_before : ((last : State) × (total : ℕ) × AnswersThrough first_state 0 p.before (p.check ∷ p.after) ending kept errors lines last total) ⊎ EndsUndecided first_state 0 p.before kept errors lines → IsThereOrEnds
  at_or_before (inl gone) = inl (at_check gone.0 gone.1 gone.2)
  at_or_before (inr ends) =
      inr (subst (λ (cs : List Located). EndsUndecided first_state 0 cs kept errors lines) (sym p.all) (ends_in_more first_state 0 p.before (p.check ∷ p.after) kept errors lines ends))

  at_split : Answers first_state 0 script ending kept errors lines → IsThereOrEnds
  at_split answers =
      let parted : Answers first_state 0 (p.before ++ p.check ∷ p.after) ending kept errors lines = subst (λ (cs : List Located). Answers first_state 0 cs ending kept errors lines) p.all answers in
      at_or_before (t.goes_through first_state 0 p.before (p.check ∷ p.after) ending kept errors lines first_course p.mid Nothing parted p.through start)

-- what is found at a check has the stack and the options that the answers have there, or these end before it
pub answers_at : (t : ReplayTheorems) (script : List Located) (wanted : ℕ) (found : State) (ending : Ending) (kept : Evidence) (errors : List (ℕ × ℕ)) (lines : List (List ℕ)) → Finds first_course script wanted (Some found) → Answers first_state 0 script ending kept errors lines → IsAtCheck script wanted found ending kept errors lines ⊎ EndsUndecided first_state 0 script kept errors lines
answers_at t script wanted found ending kept errors lines finds answers = at_split t script wanted found ending kept errors lines (split first_course Nothing script wanted found finds) answers
