-- Commands that are answered after others.
use Rattle.std.proofs.Common.{◌≡◌, ℕ, Bool, true, false, List, [], ◌∷◌, ◌++◌, refl, ap, sym, ◌∙◌, subst, append_assoc}
use Rattle.std.specs.Bool.{MatchBool}
use Rattle.std.proofs.lemmas.List.{append-nil}
use Rattle.ct_sexpr.specs.Text.{Located, Ending, clean, EndingSoFar}
use Rattle.ct_step.specs.Evidence.{Evidence, no_evidence, followed_by}
use Rattle.ct_step.specs.State.{State}
use Rattle.ct_step.specs.Step.{CommandEffect, Step, counted, refusal_text}
use Rattle.ct_step.proofs.EvidenceLemmas.{nothing_earlier, nothing_later, followed_assoc}
use Rattle.ct_script.specs.Answers.{Answers, Leads, IsSilent, IsFollowed, lines_of, errors_of}
use Rattle.ct_run.specs.SoFar.{AnswersSoFar, TextState, ends, stands, AnswersTo, refusal}

pub silence : IsSilent no_evidence [] []
silence = record { nothing_kept = refl; no_error = refl; no_line = refl }

-- what follows an effect, and more after that
followed_on : (line : ℕ) (e : CommandEffect) (vs vs' more_vs : Evidence) (es es' more_es : List (ℕ × ℕ)) (ls ls' more_ls : List (List ℕ)) → IsFollowed line e vs vs' es es' ls ls' → IsFollowed line e (followed_by vs more_vs) (followed_by vs' more_vs) (es ++ more_es) (es' ++ more_es) (ls ++ more_ls) (ls' ++ more_ls)
followed_on line e vs vs' more_vs es es' more_es ls ls' more_ls f = record {
  kept_is = ap (λ (xs : Evidence). followed_by xs more_vs) f.kept_is ∙ followed_assoc e.evidence vs' more_vs;
  errors_are = ap (λ (xs : List (ℕ × ℕ)). xs ++ more_es) f.errors_are ∙ append_assoc (errors_of line e.error) es' more_es;
  lines_are = ap (λ (xs : List (List ℕ)). xs ++ more_ls) f.lines_are ∙ append_assoc (lines_of e.text) ls' more_ls;
}

-- an effect that nothing follows
followed_by_nothing : (line : ℕ) (e : CommandEffect) → IsFollowed line e e.evidence no_evidence (errors_of line e.error) [] (lines_of e.text) []
followed_by_nothing line e = record {
  kept_is = sym (nothing_later e.evidence);
  errors_are = sym (append-nil (errors_of line e.error));
  lines_are = sym (append-nil (lines_of e.text));
}

-- silence before more
silent_before : (P : Evidence → List (ℕ × ℕ) → List (List ℕ) → Type 0) (vs ws : Evidence) (es fs : List (ℕ × ℕ)) (ls ms : List (List ℕ)) → IsSilent vs es ls → P ws fs ms → P (followed_by vs ws) (es ++ fs) (ls ++ ms)
silent_before P vs ws es fs ls ms silent p =
    subst (λ (xs : Evidence). P (followed_by xs ws) (es ++ fs) (ls ++ ms)) (sym silent.nothing_kept)
    (subst (λ (xs : Evidence). P xs (es ++ fs) (ls ++ ms)) (sym (nothing_earlier ws))
    (subst (λ (xs : List (ℕ × ℕ)). P ws (xs ++ fs) (ls ++ ms)) (sym silent.no_error)
    (subst (λ (xs : List (List ℕ)). P ws fs (xs ++ ms)) (sym silent.no_line) p)))

-- commands that are answered after commands that do not end the script
pub Answers-after : (s mid : State) (n k : ℕ) (cs ds : List Located) (x : Ending) (vs ws : Evidence) (es fs : List (ℕ × ℕ)) (ls ms : List (List ℕ)) → Leads s n cs mid k vs es ls → Answers mid k ds x ws fs ms → Answers s n (cs ++ ds) x (followed_by vs ws) (es ++ fs) (ls ++ ms)
Answers-after s mid n k [] ds x vs ws es fs ls ms leads answers =
    silent_before (λ (vs : Evidence) (es : List (ℕ × ℕ)) (ls : List (List ℕ)). Answers s n ds x vs es ls) vs ws es fs ls ms leads.2
    (subst (λ (t : State). Answers t n ds x ws fs ms) leads.0 (subst (λ (m : ℕ). Answers mid m ds x ws fs ms) leads.1 answers))
Answers-after s mid n k (c ∷ cs) ds x vs ws es fs ls ms (e, vs', es', ls', step, followed, goes_on, leads) answers =
    let later = Answers-after e.state mid (counted n c.command) k cs ds x vs' ws es' fs ls' ms leads answers in (
      e,
      followed_by vs' ws,
      es' ++ fs,
      ls' ++ ms,
      step,
      followed_on c.line e vs vs' ws es es' fs ls ls' ms followed,
      subst (λ (b : Bool). MatchBool b (IsSilent (followed_by vs' ws) (es' ++ fs) (ls' ++ ms)) (Answers e.state (counted n c.command) (cs ++ ds) x (followed_by vs' ws) (es' ++ fs) (ls' ++ ms))) (sym goes_on) later,
    )

-- and that do not end it either
pub Leads-after : (s mid last : State) (n k m : ℕ) (cs ds : List Located) (vs ws : Evidence) (es fs : List (ℕ × ℕ)) (ls ms : List (List ℕ)) → Leads s n cs mid k vs es ls → Leads mid k ds last m ws fs ms → Leads s n (cs ++ ds) last m (followed_by vs ws) (es ++ fs) (ls ++ ms)
Leads-after s mid last n k m [] ds vs ws es fs ls ms leads more =
    silent_before (λ (vs : Evidence) (es : List (ℕ × ℕ)) (ls : List (List ℕ)). Leads s n ds last m vs es ls) vs ws es fs ls ms leads.2
    (subst (λ (t : State). Leads t n ds last m ws fs ms) leads.0 (subst (λ (i : ℕ). Leads mid i ds last m ws fs ms) leads.1 more))
Leads-after s mid last n k m (c ∷ cs) ds vs ws es fs ls ms (e, vs', es', ls', step, followed, goes_on, leads) more = (
  e,
  followed_by vs' ws,
  es' ++ fs,
  ls' ++ ms,
  step,
  followed_on c.line e vs vs' ws es es' fs ls ls' ms followed,
  goes_on,
  Leads-after e.state mid last (counted n c.command) k m cs ds vs' ws es' fs ls' ms leads more,
)

-- one command leads to the state after it
pub Leads-one : (s : State) (n : ℕ) (c : Located) (e : CommandEffect) → Step s n c.line c.command e → e.stop ≡ false → Leads s n (c ∷ []) e.state (counted n c.command) e.evidence (errors_of c.line e.error) (lines_of e.text)
Leads-one s n c e step goes_on = (e, no_evidence, [], [], step, followed_by_nothing c.line e, goes_on, (refl, refl, silence))

silent_after : (stop : Bool) (rest : Type 0) → rest → MatchBool stop (IsSilent no_evidence [] []) rest
silent_after true rest r = silence
silent_after false rest r = r

-- one command is answered, after which there is no other
pub Answers-one : (s : State) (n : ℕ) (c : Located) (e : CommandEffect) → Step s n c.line c.command e → Answers s n (c ∷ []) clean e.evidence (errors_of c.line e.error) (lines_of e.text)
Answers-one s n c e step = (e, no_evidence, [], [], step, followed_by_nothing c.line e, silent_after e.stop (IsSilent no_evidence [] []) silence)

-- a command is answered that ends the script, whatever follows
Answers-last : (s : State) (n : ℕ) (c : Located) (cs : List Located) (x : Ending) (e : CommandEffect) → Step s n c.line c.command e → e.stop ≡ true → Answers s n (c ∷ cs) x e.evidence (errors_of c.line e.error) (lines_of e.text)
Answers-last s n c cs x e step stops = (
  e,
  no_evidence,
  [],
  [],
  step,
  followed_by_nothing c.line e,
  subst (λ (b : Bool). MatchBool b (IsSilent no_evidence [] []) (Answers e.state (counted n c.command) cs x no_evidence [] [])) (sym stops) silence,
)

-- nothing is answered of no command
pub Answers-none : (s : State) (n : ℕ) → Answers s n [] clean no_evidence [] []
Answers-none s n = silence

-- an error of the text
pub AnswersTo-refusal : (s : State) (n : ℕ) (ended : Bool) (error : ℕ × ℕ) → AnswersTo s n [] (refusal ended error) no_evidence (error ∷ []) (lines_of (refusal_text error.0 error.1))
AnswersTo-refusal s n true error = (refl, refl, refl)
AnswersTo-refusal s n false error = (refl, refl, refl)

-- the same of a text that may go on
AnswersSoFar-after : (s mid : State) (n k : ℕ) (cs ds : List Located) (x : EndingSoFar) (vs ws : Evidence) (es fs : List (ℕ × ℕ)) (ls ms : List (List ℕ)) → Leads s n cs mid k vs es ls → AnswersSoFar mid k ds x ws fs ms → AnswersSoFar s n (cs ++ ds) x (followed_by vs ws) (es ++ fs) (ls ++ ms)
AnswersSoFar-after s mid n k [] ds x vs ws es fs ls ms leads answers =
    silent_before (λ (vs : Evidence) (es : List (ℕ × ℕ)) (ls : List (List ℕ)). AnswersSoFar s n ds x vs es ls) vs ws es fs ls ms leads.2
    (subst (λ (t : State). AnswersSoFar t n ds x ws fs ms) leads.0 (subst (λ (m : ℕ). AnswersSoFar mid m ds x ws fs ms) leads.1 answers))
AnswersSoFar-after s mid n k (c ∷ cs) ds x vs ws es fs ls ms (e, vs', es', ls', step, followed, goes_on, leads) answers =
    let later = AnswersSoFar-after e.state mid (counted n c.command) k cs ds x vs' ws es' fs ls' ms leads answers in (
      e,
      followed_by vs' ws,
      es' ++ fs,
      ls' ++ ms,
      step,
      followed_on c.line e vs vs' ws es es' fs ls ls' ms followed,
      subst (λ (b : Bool). MatchBool b (IsSilent (followed_by vs' ws) (es' ++ fs) (ls' ++ ms)) (AnswersSoFar e.state (counted n c.command) (cs ++ ds) x (followed_by vs' ws) (es' ++ fs) (ls' ++ ms))) (sym goes_on) later,
    )

AnswersSoFar-last : (s : State) (n : ℕ) (c : Located) (cs : List Located) (x : EndingSoFar) (e : CommandEffect) → Step s n c.line c.command e → e.stop ≡ true → AnswersSoFar s n (c ∷ cs) x e.evidence (errors_of c.line e.error) (lines_of e.text)
AnswersSoFar-last s n c cs x e step stops = (
  e,
  no_evidence,
  [],
  [],
  step,
  followed_by_nothing c.line e,
  subst (λ (b : Bool). MatchBool b (IsSilent no_evidence [] []) (AnswersSoFar e.state (counted n c.command) cs x no_evidence [] [])) (sym stops) silence,
)

-- the same of a text that ends or may go on
pub AnswersTo-after : (s mid : State) (n k : ℕ) (cs ds : List Located) (x : TextState) (vs ws : Evidence) (es fs : List (ℕ × ℕ)) (ls ms : List (List ℕ)) → Leads s n cs mid k vs es ls → AnswersTo mid k ds x ws fs ms → AnswersTo s n (cs ++ ds) x (followed_by vs ws) (es ++ fs) (ls ++ ms)
AnswersTo-after s mid n k cs ds (ends x) vs ws es fs ls ms leads answers = Answers-after s mid n k cs ds x vs ws es fs ls ms leads answers
AnswersTo-after s mid n k cs ds (stands x) vs ws es fs ls ms leads answers = AnswersSoFar-after s mid n k cs ds x vs ws es fs ls ms leads answers

pub AnswersTo-last : (s : State) (n : ℕ) (c : Located) (cs : List Located) (x : TextState) (e : CommandEffect) → Step s n c.line c.command e → e.stop ≡ true → AnswersTo s n (c ∷ cs) x e.evidence (errors_of c.line e.error) (lines_of e.text)
AnswersTo-last s n c cs (ends x) e step stops = Answers-last s n c cs x e step stops
AnswersTo-last s n c cs (stands x) e step stops = AnswersSoFar-last s n c cs x e step stops
