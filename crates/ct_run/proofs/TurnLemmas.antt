-- Commands one after another: what is read, answered and written.
use Rattle.std.proofs.Common.{◌≡◌, ℕ, ◌⊎◌, inl, inr, Bool, true, false, List, [], ◌∷◌, ◌++◌, refl, ap, sym, ◌∙◌, subst, append_assoc}
use Rattle.std.proofs.lemmas.List.{append-nil}
use Rattle.ct_io.specs.declared.sink.SinkError.{SinkError}
use Rattle.ct_io.specs.declared.sink.SinkError.TheVariants as sink
use Rattle.ct_sexpr.specs.Expression.{Expression}
use Rattle.ct_sexpr.specs.Reading.{BeginsCommand}
use Rattle.ct_sexpr.specs.Text.{Located, clean, Reads, waiting, refused, ReadsSoFar}
use Rattle.ct_sexpr.specs.Unread.{Unread}
use Rattle.ct_sexpr.specs.Answer.{GivesCommand, Ends, Needs, Refuses, IsFirstCommand, IsLast}
use Rattle.ct_step.specs.Evidence.{Evidence, no_evidence, followed_by}
use Rattle.ct_step.specs.Step.{CommandEffect}
use Rattle.ct_step.proofs.EvidenceLemmas.{nothing_later, followed_assoc}
use Rattle.ct_script.specs.Session.{Course}
use Rattle.ct_script.specs.Answers.{Leads, lines_of, errors_of}
use Rattle.ct_run.specs.declared.turn.Ending.{Ending as Ended}
use Rattle.ct_run.specs.declared.turn.Ending.TheVariants as ended
use Rattle.ct_run.specs.Output.{wrote}
use Rattle.ct_run.specs.Position.{AreFirst}
use Rattle.ct_run.specs.SoFar.{HasReadSoFar, AnswersTo, refusal}
use Rattle.ct_run.specs.Progress.{Progress, AnsweredWith, IsUnanswered, IsCutOff, Adds, IsBehind, WentOn, Stopped, EndsWith, BrokeOff}
use Rattle.ct_run.proofs.WritingLemmas.{appended-nothing, wrote-later}
use Rattle.ct_run.proofs.AnswerLemmas.{silence, Leads-after, Leads-one, AnswersTo-after, AnswersTo-last}

-- an error of the text alone is how it ends, or how it stands so far
refused_where : (u : Unread) (code line : ℕ) → IsLast u code line → (b : Bool) → u.ended ≡ b → HasReadSoFar u [] (refusal b (line, code))
refused_where u code line last true ended = (ended, last.ended)
refused_where u code line last false ended = (
  ended,
  subst (λ (b : List ℕ). ReadsSoFar u.line b [] (refused code line)) (append-nil u.bytes) (last.so_far (last.definite ended) []),
)

pub refused_text : (u : Unread) (code line : ℕ) → IsLast u code line → HasReadSoFar u [] (refusal u.ended (line, code))
refused_text u code line last = refused_where u code line last u.ended refl

-- commands behind commands
pub AreFirst-more : (cs ds : List Located) (a b c : List ℕ) → AreFirst cs a b → AreFirst ds b c → AreFirst (cs ++ ds) a c
AreFirst-more [] ds a b c p q = subst (λ (x : List ℕ). AreFirst ds x c) p q
AreFirst-more (first ∷ cs) ds a b c p q = (p.0, p.1, AreFirst-more cs ds p.0 b c p.2 q)

IsBehind-none : (u : Unread) → IsBehind u u []
IsBehind-none u = record { place = λ tail. refl; ended = λ tail cs x reads. reads; so_far = λ tail cs x reads. reads }

IsBehind-more : (a b c : Unread) (cs ds : List Located) → IsBehind a b cs → IsBehind b c ds → IsBehind a c (cs ++ ds)
IsBehind-more a b c cs ds p q = record {
  place = λ tail. AreFirst-more cs ds (a.bytes ++ tail) (b.bytes ++ tail) (c.bytes ++ tail) (p.place tail) (q.place tail);
  ended = λ tail es x reads. subst (λ (all : List Located). Reads a.line (a.bytes ++ tail) all x) (sym (append_assoc cs ds es)) (p.ended tail (ds ++ es) x (q.ended tail es x reads));
  so_far = λ tail es x reads. subst (λ (all : List Located). ReadsSoFar a.line (a.bytes ++ tail) all x) (sym (append_assoc cs ds es)) (p.so_far tail (ds ++ es) x (q.so_far tail es x reads));
}

-- a command stays what it is, whatever comes after it
abbrev pub CommandsStay : Type 0
CommandsStay = (bytes : List ℕ) (e : Expression) (rest tail : List ℕ) → BeginsCommand bytes e rest → BeginsCommand (bytes ++ tail) e (rest ++ tail)

IsBehind-one : CommandsStay → (u v : Unread) (first : Located) → IsFirstCommand u v first → GivesCommand u v first.command first.line → IsBehind u v (first ∷ [])
IsBehind-one stays u v first is gives = record {
  place = λ tail. (v.bytes ++ tail, stays u.bytes first.command v.bytes tail gives.begins, refl);
  ended = is.ended;
  so_far = is.so_far;
}

-- nothing was added yet
adds_nothing : (c : Course) → Adds c c no_evidence []
adds_nothing c = record { kept_is = sym (nothing_later c.evidence); errors_are = sym (append-nil c.errors) }

-- more was added
pub adds_more : (old mid new : Course) (vs ws : Evidence) (es fs : List (ℕ × ℕ)) → Adds old mid vs es → Adds mid new ws fs → Adds old new (followed_by vs ws) (es ++ fs)
adds_more old mid new vs ws es fs first second = record {
  kept_is = second.kept_is ∙ ap (λ (xs : Evidence). followed_by xs ws) first.kept_is ∙ followed_assoc old.evidence vs ws;
  errors_are = second.errors_are ∙ ap (λ (xs : List (ℕ × ℕ)). xs ++ fs) first.errors_are ∙ append_assoc old.errors es fs;
}

-- what an effect adds
pub adds_effect : (old new : Course) (line : ℕ) (e : Expression) (effect : CommandEffect) → AnsweredWith old new line e effect → Adds old new effect.evidence (errors_of line effect.error)
adds_effect old new line e effect answered = record {
  kept_is = ap (λ (c : Course). c.evidence) answered.course;
  errors_are = ap (λ (c : Course). c.errors) answered.course;
}

-- no command was answered yet
pub WentOn-start : (p : Progress) → WentOn p p
WentOn-start p = record {
  commands = [];
  kept = no_evidence;
  errors = [];
  lines = [];
  behind = IsBehind-none p.unread;
  same_fed = refl;
  same_end = refl;
  answered = (refl, refl, silence);
  adds = adds_nothing p.course;
  written = sym (appended-nothing p.written);
}

-- commands were answered after others
pub WentOn-after : (a b c : Progress) → WentOn a b → WentOn b c → WentOn a c
WentOn-after a b c p q = record {
  commands = p.commands ++ q.commands;
  kept = followed_by p.kept q.kept;
  errors = p.errors ++ q.errors;
  lines = p.lines ++ q.lines;
  behind = IsBehind-more a.unread b.unread c.unread p.commands q.commands p.behind q.behind;
  same_fed = q.same_fed ∙ p.same_fed;
  same_end = q.same_end ∙ p.same_end;
  answered = Leads-after a.course.state b.course.state c.course.state a.course.number b.course.number c.course.number p.commands q.commands p.kept q.kept p.errors q.errors p.lines q.lines p.answered q.answered;
  adds = adds_more a.course b.course c.course p.kept q.kept p.errors q.errors p.adds q.adds;
  written = wrote-later p.lines q.lines a.written b.written c.written p.written q.written;
}

Stopped-after : (a b c : Progress) → WentOn a b → Stopped b c → Stopped a c
Stopped-after a b c p q = record {
  commands = p.commands ++ q.commands;
  kept = followed_by p.kept q.kept;
  errors = p.errors ++ q.errors;
  lines = p.lines ++ q.lines;
  behind = IsBehind-more a.unread b.unread c.unread p.commands q.commands p.behind q.behind;
  same_end = q.same_end ∙ p.same_end;
  answered = λ cs x.
      subst (λ (all : List Located). AnswersTo a.course.state a.course.number all x (followed_by p.kept q.kept) (p.errors ++ q.errors) (p.lines ++ q.lines)) (sym (append_assoc p.commands q.commands cs))
      (AnswersTo-after a.course.state b.course.state a.course.number b.course.number p.commands (q.commands ++ cs) x p.kept q.kept p.errors q.errors p.lines q.lines p.answered (q.answered cs x));
  adds = adds_more a.course b.course c.course p.kept q.kept p.errors q.errors p.adds q.adds;
  written = wrote-later p.lines q.lines a.written b.written c.written p.written q.written;
}

pub EndsWith-after : (a b c : Progress) (ending : Ended) → WentOn a b → EndsWith b c ending → EndsWith a c ending
EndsWith-after a b c ended.Clean p (inl stopped) = inl (Stopped-after a b c p stopped)
EndsWith-after a b c ended.Clean p (inr last) = inr (WentOn-after a b c p last.0, last.1)
EndsWith-after a b c (ended.Lexical error) p last = (WentOn-after a b c p last.0, last.1)
EndsWith-after a b c ended.Cut p last = (WentOn-after a b c p last.0, last.1)

pub BrokeOff-after : (error : SinkError) (a b c : Progress) → WentOn a b → BrokeOff error b c → BrokeOff error a c
BrokeOff-after error a b c p q = record { mid = q.mid; went = WentOn-after a b q.mid p q.went; broke = q.broke }

module _ (old mid : Progress) (went : WentOn old mid) where
  -- nothing is left of the text
  pub ends_there : (unread : Unread) → Ends mid.unread unread → Reads mid.unread.line mid.unread.bytes [] clean → EndsWith old (record mid { unread = unread }) ended.Clean
  ends_there unread over reads =
      subst (λ (u : Unread). EndsWith old (record mid { unread = u }) ended.Clean) (sym over.same) (inr (went, (over.ended, reads)))

  -- the text goes on
  pub waits_there : (unread : Unread) → Needs mid.unread unread → ReadsSoFar mid.unread.line mid.unread.bytes [] waiting → EndsWith old (record mid { unread = unread }) ended.Cut
  waits_there unread needs reads =
      subst (λ (u : Unread). EndsWith old (record mid { unread = u }) ended.Cut) (sym needs.same) (went, (needs.ended, reads))

  -- an error of the text alone is left
  pub refused_there : (unread : Unread) (code line : ℕ) → Refuses mid.unread unread code line → IsLast mid.unread code line → EndsWith old (record mid { unread = unread }) (ended.Lexical (line, code))
  refused_there unread code line refuses last =
      subst (λ (u : Unread). EndsWith old (record mid { unread = u }) (ended.Lexical (line, code))) (sym refuses.same) (went, refused_text mid.unread code line last)

  -- memory ran out before the next command was read
  pub breaks_before : (new : Progress) → new.course ≡ mid.course → new.written ≡ mid.written → BrokeOff sink.NoMemory old new
  breaks_before new same unwritten = record { mid = mid; went = went; broke = inl (record { no_memory = refl; same = same; unwritten = unwritten }) }

  module _ (stays : CommandsStay) (new : Progress) (first : Located) (is : IsFirstCommand mid.unread new.unread first) (gives : GivesCommand mid.unread new.unread first.command first.line) where
    -- an error of the sink came while it was answered
    pub breaks : (e : SinkError) → (IsUnanswered e mid.course new.course mid.written new.written ⊎ IsCutOff e mid.course new.course first.line first.command mid.written new.written) → BrokeOff e old new
    breaks e (inl unanswered) = record { mid = mid; went = went; broke = inl unanswered }
    breaks e (inr cut) = record { mid = mid; went = went; broke = inr (record { next = first; behind = IsBehind-one stays mid.unread new.unread first is gives; cut = cut }) }

    module _ (effect : CommandEffect) (done : AnsweredWith mid.course new.course first.line first.command effect) (written : new.written ≡ wrote (lines_of effect.text) mid.written) where
      -- the next command was answered and written, and does not end the script
      pub goes_on : effect.stop ≡ false → WentOn old new
      goes_on stop = WentOn-after old mid new went (record {
        commands = first ∷ [];
        kept = effect.evidence;
        errors = errors_of first.line effect.error;
        lines = lines_of effect.text;
        behind = IsBehind-one stays mid.unread new.unread first is gives;
        same_fed = gives.fed;
        same_end = gives.ended;
        answered =
            subst (λ (c : Course). Leads mid.course.state mid.course.number (first ∷ []) c.state c.number effect.evidence (errors_of first.line effect.error) (lines_of effect.text)) (sym done.course)
            (Leads-one mid.course.state mid.course.number first effect done.step stop);
        adds = adds_effect mid.course new.course first.line first.command effect done;
        written = written;
      })

      -- it ends the script
      pub ends_with_it : effect.stop ≡ true → EndsWith old new ended.Clean
      ends_with_it stop = inl (Stopped-after old mid new went (record {
        commands = first ∷ [];
        kept = effect.evidence;
        errors = errors_of first.line effect.error;
        lines = lines_of effect.text;
        behind = IsBehind-one stays mid.unread new.unread first is gives;
        same_end = gives.ended;
        answered = λ cs x. AnswersTo-last mid.course.state mid.course.number first cs x effect done.step stop;
        adds = adds_effect mid.course new.course first.line first.command effect done;
        written = written;
      }))
