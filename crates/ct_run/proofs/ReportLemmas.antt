-- What a run reports is true of its script.
use Rattle.std.specs.List.{concat}
use Rattle.std.proofs.Common.{◌≡◌, ℕ, ◌+◌, ◌-◌, ◌≤◌, ◌<◌, ◌⊎◌, inl, inr, Bool, true, false, List, [], ◌∷◌, ◌++◌, length, take, Option, Some, IfSome, refl, ap, sym, ◌∙◌, subst, arith, append_assoc, length-append, true≢false}
use Rattle.std.proofs.Math.Seq.{take-append-add, take-append_seam}
use Rattle.std.proofs.lemmas.Bool.{cases_lt}
use Rattle.std.proofs.lemmas.List.{append-nil}
use Rattle.ct_io.specs.Bytes.{remaining, GrewByPart}
use Rattle.ct_io.specs.declared.status.Status.{Status}
use Rattle.ct_io.specs.declared.status.Status.TheVariants as status
use Rattle.ct_io.specs.declared.sink.SinkError.{SinkError}
use Rattle.ct_io.specs.declared.sink.SinkError.TheVariants as sink
use Rattle.ct_sexpr.specs.Text.{Located, Ending, clean, lexical, Reads, EndingSoFar, waiting, refused, ReadsSoFar}
use Rattle.ct_sexpr.specs.Unread.{Unread}
use Rattle.ct_step.specs.Evidence.{Evidence, no_evidence, followed_by}
use Rattle.ct_step.specs.State.{starting}
use Rattle.ct_step.proofs.EvidenceLemmas.{nothing_earlier, nothing_later}
use Rattle.ct_step.specs.Step.{refusal_text}
use Rattle.ct_script.specs.Session.{Course, starting_course}
use Rattle.ct_script.specs.Answers.{Answers, Leads, lines_of, errors_of}
use Rattle.ct_command.specs.declared.option.ErrorBehavior.{ErrorBehavior}
use Rattle.ct_input.specs.declared.feeding.InputError.{InputError}
use Rattle.ct_input.specs.declared.feeding.InputError.TheVariants as input
use Rattle.ct_input.specs.Slot.{most_bytes, piece_bytes, head, CameOut, IsReadWhole}
use Rattle.ct_run.specs.declared.turn.Ending.{Ending as Ended}
use Rattle.ct_run.specs.declared.turn.Ending.TheVariants as ended
use Rattle.ct_run.specs.declared.stream.StreamError.{StreamError}
use Rattle.ct_run.specs.declared.stream.StreamError.TheVariants.{Input, Output}
use Rattle.ct_run.specs.Output.{wrote, IsLeft}
use Rattle.ct_run.specs.Position.{AreFirst}
use Rattle.ct_run.specs.SoFar.{AnswersSoFar, ends, stands, HasReadSoFar, refusal}
use Rattle.ct_run.specs.Progress.{Progress, progress, IsUnanswered, IsBehind, WentOn, Stopped, EndsWith, CutOff, BrokeOff}
use Rattle.ct_run.specs.Streaming.{beginning, WasFed, IsFull, HasStreamed, WaitsAfter, FailsOutside, BrokeInStream, status_of_input, status_of_stream}
use Rattle.ct_run.specs.Refusal.{status_of_error, status_of_script, refusal_line, IsRefused, IsConcluded}
use Rattle.ct_run.specs.Run.{IsAnswered, IsAnsweredSoFar, IsAnsweredSoon, IsCutInRefusal, IsAnsweredUpTo, Finishes, IsCut, Solves, WereTaken, Took}
use Rattle.ct_run.proofs.WritingLemmas.{appended-nothing, all_written, wrote-later, IsLeft-later}
use Rattle.ct_run.proofs.AnswerLemmas.{silence, Answers-after, Answers-none, Answers-one, AnswersTo-after}
use Rattle.ct_run.proofs.TurnLemmas.{AreFirst-more, adds_more, adds_effect}
use Rattle.ct_run.proofs.StreamLemmas.{CommandsArePrefixes, AreFirst-shorter}

-- a sink's error ends a run with OutputFault where it is a fault, and never with InputFault
pub output_fault : (e : SinkError) → status_of_error e ≡ status.OutputFault → e ≡ sink.Fault
output_fault sink.Fault h = refl
output_fault sink.NoMemory h = cc

pub no_input_fault : (e : SinkError) → status_of_error e ≡ status.InputFault → ⊥
no_input_fault sink.Fault h = cc
no_input_fault sink.NoMemory h = cc

-- where the run does not end with OutputFault the sink's error was no fault
pub no_output_fault : (e : SinkError) → (status_of_error e ≡ status.OutputFault → ⊥) → e ≡ sink.Fault → ⊥
no_output_fault sink.Fault h is = h refl
no_output_fault sink.NoMemory h is = cc

-- the status of a script that came to its end is neither of the two
pub script_status : (errors : List (ℕ × ℕ)) (s : Status) → status_of_script errors ≡ s → (s ≡ status.Done) ⊎ (s ≡ status.Refused)
script_status [] s e = inl (sym e)
script_status (x ∷ errors) s e = inr (sym e)

-- a list with something at its end is not empty
not_empty : {X : Type 0} (xs : List X) (x : X) → xs ++ x ∷ [] ≡ [] → ⊥
not_empty [] x h = cc
not_empty (y ∷ xs) x h = cc

-- ---- what is known of texts

pub record Texts : Type 0 where
  pub some_text : (line : ℕ) (bytes : List ℕ) → (cs : List Located) × (x : Ending) × Reads line bytes cs x
  pub some_so_far : (line : ℕ) (bytes : List ℕ) → (cs : List Located) × (x : EndingSoFar) × ReadsSoFar line bytes cs x
  pub refused_so_far : (line : ℕ) (bytes tail : List ℕ) (cs : List Located) (code at : ℕ) → ReadsSoFar line bytes cs (refused code at) → Reads line (bytes ++ tail) cs (lexical code at)
  pub refused_goes_on : (line : ℕ) (bytes tail : List ℕ) (cs : List Located) (code at : ℕ) → ReadsSoFar line bytes cs (refused code at) → ReadsSoFar line (bytes ++ tail) cs (refused code at)

-- ---- a reader that was fed the first bytes of a script

pub record IsHeld (bytes : List ℕ) (u : Unread) : Type 0 where
  pub line : u.line ≡ 1
  pub short : length u.bytes ≤ most_bytes
  pub rest : List ℕ
  pub all : bytes ≡ u.bytes ++ rest
  pub whole : u.ended ≡ true → bytes ≡ u.bytes

-- or as many as are read of more
pub record IsHeldFull (bytes : List ℕ) (u : Unread) : Type 0 where
  pub long : most_bytes < length bytes
  pub first : u.bytes ≡ head bytes

pub held_whole : (bytes : List ℕ) (u : Unread) → IsReadWhole bytes u → IsHeld bytes u
held_whole bytes u w = record {
  line = w.line;
  short = omega (arith, w.short, ap (λ (xs : List ℕ). length xs) w.all);
  rest = [];
  all = sym (append-nil u.bytes ∙ w.all);
  whole = λ e. sym w.all;
}

-- ---- a run over a script, where this follows an error at its start

module _ (behavior : ErrorBehavior) where
  -- a run that answered a script to its end, by its errors
  finishes : (bytes : List ℕ) (taken : ℕ) (kept : Evidence) (errors : List (ℕ × ℕ)) (old new : Option (List ℕ)) → Finishes behavior bytes kept errors old new → Solves behavior bytes taken (status_of_script errors) kept errors old new
  finishes bytes taken kept [] old new f = (f, refl)
  finishes bytes taken kept (e ∷ errors) old new f = (f, λ h. cc)

  -- a line that is the last of a text's lines is all of them
  only_line : (text : List ℕ) (before : List (List ℕ)) (last : List ℕ) → lines_of text ≡ before ++ last ∷ [] → (before ≡ []) × (lines_of text ≡ last ∷ [])
  only_line [] [] last e = cc
  only_line [] (x ∷ before) last e = cc
  only_line (b ∷ bs) [] last e = (refl, e)
  only_line (b ∷ bs) (x ∷ before) last e =
      let clash : [] ≡ before ++ last ∷ [] = cc in
      absurd (omega (arith, ap (λ (xs : List (List ℕ)). length xs) clash, length-append before (last ∷ [])))

  line_of_fault : (text : List ℕ) (lines : List (List ℕ)) (old mid new : Option (List ℕ)) → mid ≡ wrote lines old → IsLeft sink.Fault (lines_of text) mid new → (line : List ℕ) × (lines_of text ≡ line ∷ []) × GrewByPart line (wrote lines old) new
  line_of_fault text lines old mid new written left =
      let one = only_line text left.before left.last left.all in (
        left.last,
        one.1,
        subst (λ (o : Option (List ℕ)). GrewByPart left.last o new) written
            (subst (λ (o : Option (List ℕ)). GrewByPart left.last o new) (appended-nothing mid) (subst (λ (ls : List (List ℕ)). GrewByPart left.last (wrote ls mid) new) one.0 left.part)),
      )

  module _ (texts : Texts) (bytes : List ℕ) (u : Unread) (of : IsHeld bytes u) (old : Option (List ℕ)) where
    abbrev start : Progress
    start = progress (starting_course behavior) u old

    -- the first bytes of more
    head_is : most_bytes < length bytes → (tail : List ℕ) × (head bytes ≡ u.bytes ++ tail)
    head_is long =
        let room : length u.bytes + (most_bytes - length u.bytes) ≡ most_bytes = omega (arith, of.short) in (
          take (most_bytes - length u.bytes) of.rest,
          ap (take most_bytes) of.all ∙ sym (ap (λ (n : ℕ). take n (u.bytes ++ of.rest)) room) ∙ take-append-add u.bytes of.rest (most_bytes - length u.bytes),
        )

    -- these are the answers, whatever follows the bytes that were fed
    record Answerable (kept : Evidence) (errors : List (ℕ × ℕ)) (lines : List (List ℕ)) : Type 0 where
      by_end : (tail : List ℕ) → (cs : List Located) × (x : Ending) × Reads u.line (u.bytes ++ tail) cs x × Answers (starting behavior) 0 cs x kept errors lines
      by_part : (tail : List ℕ) → (cs : List Located) × (x : EndingSoFar) × ReadsSoFar u.line (u.bytes ++ tail) cs x × AnswersSoFar (starting behavior) 0 cs x kept errors lines

    whole_reads : (cs : List Located) (x : Ending) → Reads u.line (u.bytes ++ of.rest) cs x → Reads 1 bytes cs x
    whole_reads cs x reads = subst (λ (xs : List ℕ). Reads 1 xs cs x) (sym of.all) (subst (λ (line : ℕ). Reads line (u.bytes ++ of.rest) cs x) of.line reads)

    head_reads : (tail : List ℕ) → head bytes ≡ u.bytes ++ tail → (cs : List Located) (x : EndingSoFar) → ReadsSoFar u.line (u.bytes ++ tail) cs x → ReadsSoFar 1 (head bytes) cs x
    head_reads tail is cs x reads = subst (λ (xs : List ℕ). ReadsSoFar 1 xs cs x) (sym is) (subst (λ (line : ℕ). ReadsSoFar line (u.bytes ++ tail) cs x) of.line reads)

    answered_by : (vs : Evidence) (es : List (ℕ × ℕ)) (ls : List (List ℕ)) → Answerable vs es ls → IsAnswered behavior bytes vs es ls
    answered_by vs es ls a =
        elim (cases_lt most_bytes (length bytes)) [
          | inl long ↦
              let h = head_is long in
              let r = a.by_part h.0 in
              inr (record { long = long; commands = r.0; so_far = r.1; read = head_reads h.0 h.1 r.0 r.1 r.2; answered = r.3 })
          | inr short ↦
              let r = a.by_end of.rest in
              inl (record { short = short; commands = r.0; ending = r.1; read = whole_reads r.0 r.1 r.2; answered = r.3 })
        ]

    -- where the input has ended this is its one reading
    answered_at_end : u.ended ≡ true → (cs : List Located) (x : Ending) (vs : Evidence) (es : List (ℕ × ℕ)) (ls : List (List ℕ)) → Reads u.line u.bytes cs x → Answers (starting behavior) 0 cs x vs es ls → IsAnswered behavior bytes vs es ls
    answered_at_end over cs x vs es ls reads answers = inl (record {
      short = omega (arith, of.short, ap (λ (xs : List ℕ). length xs) (of.whole over));
      commands = cs;
      ending = x;
      read = subst (λ (xs : List ℕ). Reads 1 xs cs x) (sym (of.whole over)) (subst (λ (line : ℕ). Reads line u.bytes cs x) of.line reads);
      answered = answers;
    })

    -- the first commands are answered
    begun_by : (v : Unread) (cs : List Located) (vs : Evidence) (es : List (ℕ × ℕ)) (ls : List (List ℕ)) → IsBehind u v cs → Answers (starting behavior) 0 cs clean vs es ls → IsAnsweredSoFar behavior bytes vs es ls
    begun_by v cs vs es ls behind answers =
        elim (cases_lt most_bytes (length bytes)) [
          | inl long ↦
              let h = head_is long in
              let r = texts.some_so_far v.line (v.bytes ++ h.0) in
              inr (record { long = long; commands = cs; rest = r.0; so_far = r.1; read = head_reads h.0 h.1 (cs ++ r.0) r.1 (behind.so_far h.0 r.0 r.1 r.2); answered = answers })
          | inr short ↦
              let r = texts.some_text v.line (v.bytes ++ of.rest) in
              inl (record { short = short; commands = cs; rest = r.0; ending = r.1; read = whole_reads (cs ++ r.0) r.1 (behind.ended of.rest r.0 r.1 r.2); answered = answers })
        ]

    all_answers : (now : Progress) (went : WentOn start now) (x : Ending) (es : List (ℕ × ℕ)) (ls : List (List ℕ)) → Answers now.course.state now.course.number [] x no_evidence es ls → Answers (starting behavior) 0 (went.commands ++ []) x (followed_by went.kept no_evidence) (went.errors ++ es) (went.lines ++ ls)
    all_answers now went x es ls answers = Answers-after (starting behavior) now.course.state 0 now.course.number went.commands [] x went.kept no_evidence went.errors es went.lines ls went.answered answers

    no_more : (now : Progress) (went : WentOn start now) → Answers (starting behavior) 0 went.commands clean went.kept went.errors went.lines
    no_more now went =
        subst (λ (cs : List Located). Answers (starting behavior) 0 cs clean went.kept went.errors went.lines) (append-nil went.commands)
        (subst (λ (vs : Evidence). Answers (starting behavior) 0 (went.commands ++ []) clean vs went.errors went.lines) (nothing_later went.kept)
        (subst (λ (es : List (ℕ × ℕ)). Answers (starting behavior) 0 (went.commands ++ []) clean (followed_by went.kept no_evidence) es went.lines) (append-nil went.errors)
        (subst (λ (ls : List (List ℕ)). Answers (starting behavior) 0 (went.commands ++ []) clean (followed_by went.kept no_evidence) (went.errors ++ []) ls) (append-nil went.lines)
        (all_answers now went clean [] [] (Answers-none now.course.state now.course.number)))))

    module _ (now : Progress) where
      -- a command ended the script
      stopped_answers : (stopped : Stopped start now) → Answerable stopped.kept stopped.errors stopped.lines
      stopped_answers stopped = record {
        by_end = λ tail.
            let r = texts.some_text now.unread.line (now.unread.bytes ++ tail) in
            (stopped.commands ++ r.0, r.1, stopped.behind.ended tail r.0 r.1 r.2, stopped.answered r.0 (ends r.1));
        by_part = λ tail.
            let r = texts.some_so_far now.unread.line (now.unread.bytes ++ tail) in
            (stopped.commands ++ r.0, r.1, stopped.behind.so_far tail r.0 r.1 r.2, stopped.answered r.0 (stands r.1));
      }

      -- nothing is left where the input has ended
      read_at_end : (went : WentOn start now) (x : Ending) → HasReadSoFar now.unread [] (ends x) → (u.ended ≡ true) × Reads u.line u.bytes (went.commands ++ []) x
      read_at_end went x last = (
        sym went.same_end ∙ last.0,
        subst (λ (xs : List ℕ). Reads u.line xs (went.commands ++ []) x) (append-nil u.bytes)
            (went.behind.ended [] [] x (subst (λ (xs : List ℕ). Reads now.unread.line xs [] x) (sym (append-nil now.unread.bytes)) last.1)),
      )

      -- what the report keeps and its errors are those that were added
      answered_as : (vs : Evidence) (es : List (ℕ × ℕ)) (ls : List (List ℕ)) → now.course.evidence ≡ followed_by no_evidence vs → now.course.errors ≡ es → IsAnswered behavior bytes vs es ls → IsAnswered behavior bytes now.course.evidence now.course.errors ls
      answered_as vs es ls p q a = subst (λ (x : Evidence). IsAnswered behavior bytes x now.course.errors ls) (sym (p ∙ nothing_earlier vs)) (subst (λ (x : List (ℕ × ℕ)). IsAnswered behavior bytes vs x ls) (sym q) a)

      begun_as : (vs : Evidence) (es : List (ℕ × ℕ)) (ls : List (List ℕ)) → now.course.evidence ≡ followed_by no_evidence vs → now.course.errors ≡ es → IsAnsweredSoFar behavior bytes vs es ls → IsAnsweredSoFar behavior bytes now.course.evidence now.course.errors ls
      begun_as vs es ls p q a = subst (λ (x : Evidence). IsAnsweredSoFar behavior bytes x now.course.errors ls) (sym (p ∙ nothing_earlier vs)) (subst (λ (x : List (ℕ × ℕ)). IsAnsweredSoFar behavior bytes vs x ls) (sym q) a)

      -- the script came to its end
      clean_end : EndsWith start now ended.Clean → Finishes behavior bytes now.course.evidence now.course.errors old now.written
      clean_end (inl stopped) = record {
        lines = stopped.lines;
        answers = answered_as stopped.kept stopped.errors stopped.lines stopped.adds.kept_is stopped.adds.errors_are (answered_by stopped.kept stopped.errors stopped.lines (stopped_answers stopped));
        written = stopped.written;
      }
      clean_end (inr (went, last)) =
          let r = read_at_end went clean last in
          record {
            lines = went.lines;
            answers = answered_as went.kept went.errors went.lines went.adds.kept_is went.adds.errors_are
                (answered_at_end r.0 went.commands clean went.kept went.errors went.lines (subst (λ (cs : List Located). Reads u.line u.bytes cs clean) (append-nil went.commands) r.1) (no_more now went));
            written = went.written;
          }

      -- the script goes on beyond what was read of it
      cut_end : IsHeldFull bytes u → EndsWith start now ended.Cut → IsCut behavior bytes now.course.evidence now.course.errors old now.written
      cut_end full (went, waits) =
          let reads : ReadsSoFar u.line (u.bytes ++ []) (went.commands ++ []) waiting =
          went.behind.so_far [] [] waiting (subst (λ (xs : List ℕ). ReadsSoFar now.unread.line xs [] waiting) (sym (append-nil now.unread.bytes)) waits.1) in
          record {
            long = full.long;
            commands = went.commands;
            last = now.course.state;
            count = now.course.number;
            lines = went.lines;
            read = subst (λ (cs : List Located). ReadsSoFar 1 (head bytes) cs waiting) (append-nil went.commands) (head_reads [] (sym (append-nil u.bytes ∙ full.first)) (went.commands ++ []) waiting reads);
            answered =
                subst (λ (vs : Evidence). Leads (starting behavior) 0 went.commands now.course.state now.course.number vs now.course.errors went.lines) (sym (went.adds.kept_is ∙ nothing_earlier went.kept))
                (subst (λ (es : List (ℕ × ℕ)). Leads (starting behavior) 0 went.commands now.course.state now.course.number went.kept es went.lines) (sym went.adds.errors_are) went.answered);
            written = went.written;
          }

      -- the script ends with an error of its text
      module _ (taken : ℕ) (error : ℕ × ℕ) (went : WentOn start now) (stopped : HasReadSoFar now.unread [] (refusal now.unread.ended error)) where
        abbrev all_errors : List (ℕ × ℕ)
        all_errors = went.errors ++ error ∷ []

        abbrev all_lines : List (List ℕ)
        all_lines = went.lines ++ refusal_line error

        -- as the text ends, where it has ended, and else whatever follows
        refused_answers : (b : Bool) → HasReadSoFar now.unread [] (refusal b error) → IsAnswered behavior bytes (followed_by went.kept no_evidence) all_errors all_lines × Reads 1 bytes (went.commands ++ []) (lexical error.1 error.0)
        refused_answers true last =
            let r = read_at_end went (lexical error.1 error.0) last in (
              answered_at_end r.0 (went.commands ++ []) (lexical error.1 error.0) (followed_by went.kept no_evidence) all_errors all_lines r.1 (all_answers now went (lexical error.1 error.0) (error ∷ []) (refusal_line error) (refl, refl, refl)),
              subst (λ (xs : List ℕ). Reads 1 xs (went.commands ++ []) (lexical error.1 error.0)) (sym (of.whole r.0)) (subst (λ (line : ℕ). Reads line u.bytes (went.commands ++ []) (lexical error.1 error.0)) of.line r.1),
            )
        refused_answers false last =
            let by_end : (tail : List ℕ) → Reads u.line (u.bytes ++ tail) (went.commands ++ []) (lexical error.1 error.0) = λ tail.
            went.behind.ended tail [] (lexical error.1 error.0) (texts.refused_so_far now.unread.line now.unread.bytes tail [] error.1 error.0 last.1) in (
              answered_by (followed_by went.kept no_evidence) all_errors all_lines (record {
                by_end = λ tail. (went.commands ++ [], lexical error.1 error.0, by_end tail, all_answers now went (lexical error.1 error.0) (error ∷ []) (refusal_line error) (refl, refl, refl));
                by_part = λ tail. (
                  went.commands ++ [],
                  refused error.1 error.0,
                  went.behind.so_far tail [] (refused error.1 error.0) (texts.refused_goes_on now.unread.line now.unread.bytes tail [] error.1 error.0 last.1),
                  AnswersTo-after (starting behavior) now.course.state 0 now.course.number went.commands [] (stands (refused error.1 error.0)) went.kept no_evidence went.errors (error ∷ []) went.lines (refusal_line error) went.answered (refl, refl, refl),
                );
              }),
              whole_reads (went.commands ++ []) (lexical error.1 error.0) (by_end of.rest),
            )

        reported : (errors : List (ℕ × ℕ)) → errors ≡ now.course.errors ++ error ∷ [] → IsAnswered behavior bytes now.course.evidence errors all_lines
        reported errors is =
            subst (λ (es : List (ℕ × ℕ)). IsAnswered behavior bytes now.course.evidence es all_lines) (ap (λ (es : List (ℕ × ℕ)). es ++ error ∷ []) (sym went.adds.errors_are) ∙ sym is)
            (subst (λ (vs : Evidence). IsAnswered behavior bytes vs all_errors all_lines) (nothing_later went.kept ∙ sym (went.adds.kept_is ∙ nothing_earlier went.kept)) (refused_answers now.unread.ended stopped).0)

        unreported : IsAnsweredSoFar behavior bytes now.course.evidence now.course.errors went.lines
        unreported = begun_as went.kept went.errors went.lines went.adds.kept_is went.adds.errors_are (begun_by now.unread went.commands went.kept went.errors went.lines went.behind (no_more now went))

        left_with_it : (e : SinkError) (new : Option (List ℕ)) → IsLeft e (refusal_line error) now.written new → IsLeft e all_lines old new
        left_with_it e new left = IsLeft-later e went.lines (refusal_line error) old now.written new went.written left

        cut_in_refusal : (new : Option (List ℕ)) → IsLeft sink.Fault (refusal_line error) now.written new → IsCutInRefusal behavior bytes old new
        cut_in_refusal new left =
            let line = line_of_fault (refusal_text error.0 error.1) went.lines old now.written new went.written left in
            record {
              commands = went.commands;
              error = error;
              read = subst (λ (cs : List Located). Reads 1 bytes cs (lexical error.1 error.0)) (append-nil went.commands) (refused_answers now.unread.ended stopped).1;
              last = now.course.state;
              count = now.course.number;
              kept = went.kept;
              errors = went.errors;
              lines = went.lines;
              answered = went.answered;
              line = line.0;
              line_is = line.1;
              part = line.2;
            }

        pub Solves-refused : (s : Status) (errors : List (ℕ × ℕ)) (new : Option (List ℕ)) → IsRefused error s now.course.errors errors now.written new → Solves behavior bytes taken s now.course.evidence errors old new
        Solves-refused status.Refused errors new said = (
          record {
            lines = all_lines;
            answers = reported errors said.0;
            written = wrote-later went.lines (refusal_line error) old now.written new went.written said.1;
          },
          (λ none. not_empty now.course.errors error (sym said.0 ∙ none)),
        )
        Solves-refused status.OutputFault errors new said = (
          record { lines = all_lines; answers = inl (reported errors said.0); written = left_with_it sink.Fault new said.1 },
          inr (cut_in_refusal new said.1),
        )
        Solves-refused status.NoMemory errors new (inl said) = inl (record { lines = all_lines; answers = inl (reported errors said.0); written = left_with_it sink.NoMemory new said.1 })
        Solves-refused status.NoMemory errors new (inr said) =
            subst (λ (es : List (ℕ × ℕ)). Solves behavior bytes taken status.NoMemory now.course.evidence es old new) (sym said.0)
            (inl (record { lines = went.lines; answers = inr unreported; written = all_written (concat went.lines) old new (said.1 ∙ went.written) }))
        Solves-refused status.Done errors new said = absurd said
        Solves-refused status.Usage errors new said = absurd said
        Solves-refused status.InputFault errors new said = absurd said
        Solves-refused status.Rejected errors new said = absurd said
        Solves-refused status.TooLong errors new said = absurd said

      -- an error of the sink ended the script
      abbrev Broken : SinkError → Type 0
      Broken e = (lines : List (List ℕ)) × IsAnsweredSoFar behavior bytes now.course.evidence now.course.errors lines × IsLeft e lines old now.written

      module _ (e : SinkError) (broke : BrokeOff e start now) where
        module _ (cut : CutOff e broke.mid now) where
          abbrev next : List Located
          next = cut.next ∷ []

          cut_behind : IsBehind u now.unread (broke.went.commands ++ next)
          cut_behind = record {
            place = λ tail. AreFirst-more broke.went.commands next (u.bytes ++ tail) (broke.mid.unread.bytes ++ tail) (now.unread.bytes ++ tail) (broke.went.behind.place tail) (cut.behind.place tail);
            ended = λ tail cs x reads. subst (λ (all : List Located). Reads u.line (u.bytes ++ tail) all x) (sym (append_assoc broke.went.commands next cs)) (broke.went.behind.ended tail (cut.next ∷ cs) x (cut.behind.ended tail cs x reads));
            so_far = λ tail cs x reads. subst (λ (all : List Located). ReadsSoFar u.line (u.bytes ++ tail) all x) (sym (append_assoc broke.went.commands next cs)) (broke.went.behind.so_far tail (cut.next ∷ cs) x (cut.behind.so_far tail cs x reads));
          }

          broken_in_it : Broken e
          broken_in_it =
              let effect = cut.cut.effect in
              let es = errors_of cut.next.line effect.error in
              let lines = broke.went.lines ++ lines_of effect.text in
              let adds = adds_more (starting_course behavior) broke.mid.course now.course broke.went.kept effect.evidence broke.went.errors es broke.went.adds (adds_effect broke.mid.course now.course cut.next.line cut.next.command effect cut.cut.answered) in (
                lines,
                begun_as (followed_by broke.went.kept effect.evidence) (broke.went.errors ++ es) lines adds.kept_is adds.errors_are
                    (begun_by now.unread (broke.went.commands ++ next) (followed_by broke.went.kept effect.evidence) (broke.went.errors ++ es) lines cut_behind
                    (Answers-after (starting behavior) broke.mid.course.state 0 broke.mid.course.number broke.went.commands next clean broke.went.kept effect.evidence broke.went.errors es broke.went.lines (lines_of effect.text) broke.went.answered
                    (Answers-one broke.mid.course.state broke.mid.course.number cut.next effect cut.cut.answered.step))),
                IsLeft-later e broke.went.lines (lines_of effect.text) old broke.mid.written now.written broke.went.written cut.cut.left,
              )

          answered_soon : (taken : ℕ) → e ≡ sink.Fault → taken + length now.unread.bytes < length u.bytes + piece_bytes → IsAnsweredSoon behavior bytes taken old now.written
          answered_soon taken is soon =
              let effect = cut.cut.effect in
              let r = texts.some_text now.unread.line (now.unread.bytes ++ of.rest) in
              let line = line_of_fault effect.text broke.went.lines old broke.mid.written now.written broke.went.written (subst (λ (x : SinkError). IsLeft x (lines_of effect.text) broke.mid.written now.written) is cut.cut.left) in
              record {
                commands = broke.went.commands;
                unwritten = cut.next;
                later = r.0;
                ending = r.1;
                read = subst (λ (all : List Located). Reads 1 bytes all r.1) (append_assoc broke.went.commands next r.0) (whole_reads ((broke.went.commands ++ next) ++ r.0) r.1 (cut_behind.ended of.rest r.0 r.1 r.2));
                behind = now.unread.bytes ++ of.rest;
                place = subst (λ (xs : List ℕ). AreFirst (broke.went.commands ++ next) xs (now.unread.bytes ++ of.rest)) (sym of.all) (cut_behind.place of.rest);
                soon = omega (arith, soon, length-append now.unread.bytes of.rest, length-append u.bytes of.rest, ap (λ (xs : List ℕ). length xs) of.all);
                last = broke.mid.course.state;
                count = broke.mid.course.number;
                kept = broke.went.kept;
                errors = broke.went.errors;
                lines = broke.went.lines;
                answered = broke.went.answered;
                effect = effect;
                step = cut.cut.answered.step;
                line = line.0;
                line_is = line.1;
                part = line.2;
              }

        broken : Broken e
        broken = by broke.broke
          where
            by : IsUnanswered e broke.mid.course now.course broke.mid.written now.written ⊎ CutOff e broke.mid now → Broken e
            by (inl unanswered) = (
              broke.went.lines,
              begun_as broke.went.kept broke.went.errors broke.went.lines
                  (ap (λ (c : Course). c.evidence) unanswered.same ∙ broke.went.adds.kept_is) (ap (λ (c : Course). c.errors) unanswered.same ∙ broke.went.adds.errors_are)
                  (begun_by broke.mid.unread broke.went.commands broke.went.kept broke.went.errors broke.went.lines broke.went.behind (no_more broke.mid broke.went)),
              subst (λ (x : SinkError). IsLeft x broke.went.lines old now.written) (sym unanswered.no_memory) (all_written (concat broke.went.lines) old now.written (unanswered.unwritten ∙ broke.went.written)),
            )
            by (inr cut) = broken_in_it cut

        soon_of_fault : (taken : ℕ) → e ≡ sink.Fault → taken + length now.unread.bytes < length u.bytes + piece_bytes → IsAnsweredSoon behavior bytes taken old now.written
        soon_of_fault taken is soon = by broke.broke
          where
            by : IsUnanswered e broke.mid.course now.course broke.mid.written now.written ⊎ CutOff e broke.mid now → IsAnsweredSoon behavior bytes taken old now.written
            by (inl unanswered) = absurd (let clash : sink.Fault ≡ sink.NoMemory = sym is ∙ unanswered.no_memory in cc)
            by (inr cut) = answered_soon cut taken is soon

      -- ---- reports

      pub report_concluded : (taken : ℕ) (ending : Ended) (s : Status) (vs : Evidence) (stored es : List (ℕ × ℕ)) (new : Option (List ℕ)) → (ending ≡ ended.Cut → IsHeldFull bytes u) → vs ≡ now.course.evidence → stored ≡ now.course.errors → IsConcluded ending s stored es now.written new → EndsWith start now ending → Solves behavior bytes taken s vs es old new
      report_concluded taken ending s vs stored es new full same_verdicts same_errors concluded e = rw same_verdicts (by ending full (subst (λ (xs : List (ℕ × ℕ)). IsConcluded ending s xs es now.written new) same_errors concluded) e)
        where
          by : (ending : Ended) → (ending ≡ ended.Cut → IsHeldFull bytes u) → IsConcluded ending s now.course.errors es now.written new → EndsWith start now ending → Solves behavior bytes taken s now.course.evidence es old new
          by ended.Clean full c e = rw (c.0, c.1, c.2) (finishes bytes taken now.course.evidence now.course.errors old now.written (clean_end e))
          by (ended.Lexical error) full c e = Solves-refused taken error e.0 e.1 s es new c
          by ended.Cut full c e = rw (c.0, c.1, c.2) (cut_end (full refl) e)

      pub report_broke : (taken : ℕ) (e : SinkError) (s : Status) (vs : Evidence) (es : List (ℕ × ℕ)) → (e ≡ sink.Fault → taken + length now.unread.bytes < length u.bytes + piece_bytes) → s ≡ status_of_error e → vs ≡ now.course.evidence → es ≡ now.course.errors → BrokeOff e start now → Solves behavior bytes taken s vs es old now.written
      report_broke taken e s vs es soon is same_verdicts same_errors broke = rw (is, same_verdicts, same_errors) (by e soon broke)
        where
          by : (e : SinkError) → (e ≡ sink.Fault → taken + length now.unread.bytes < length u.bytes + piece_bytes) → BrokeOff e start now → Solves behavior bytes taken (status_of_error e) now.course.evidence now.course.errors old now.written
          by sink.Fault soon broke =
              let b = broken sink.Fault broke in
              (record { lines = b.0; answers = inr b.1; written = b.2 }, inl (soon_of_fault sink.Fault broke taken refl (soon refl)))
          by sink.NoMemory soon broke =
              let b = broken sink.NoMemory broke in
              inl (record { lines = b.0; answers = inr b.1; written = b.2 })

      -- the slot failed after bytes that were all fed
      pub report_unread : (s : Status) (vs : Evidence) (es : List (ℕ × ℕ)) → s ≡ status.InputFault → vs ≡ now.course.evidence → es ≡ now.course.errors → WentOn start now → HasReadSoFar now.unread [] (stands waiting) → Solves behavior bytes (length u.bytes) s vs es old now.written
      report_unread s vs es is same_verdicts same_errors went waits =
          let reads : ReadsSoFar u.line (u.bytes ++ []) (went.commands ++ []) waiting =
          went.behind.so_far [] [] waiting (subst (λ (xs : List ℕ). ReadsSoFar now.unread.line xs [] waiting) (sym (append-nil now.unread.bytes)) waits.1) in
          let first : take (length u.bytes) bytes ≡ u.bytes = ap (take (length u.bytes)) of.all ∙ take-append_seam u.bytes of.rest in
          rw (is, same_verdicts, same_errors) (record {
            commands = went.commands;
            last = now.course.state;
            count = now.course.number;
            lines = went.lines;
            read =
                subst (λ (cs : List Located). ReadsSoFar 1 (take (length u.bytes) bytes) cs waiting) (append-nil went.commands)
                (subst (λ (xs : List ℕ). ReadsSoFar 1 xs (went.commands ++ []) waiting) (append-nil u.bytes ∙ sym first)
                (subst (λ (line : ℕ). ReadsSoFar line (u.bytes ++ []) (went.commands ++ []) waiting) of.line reads));
            answered =
                subst (λ (vs : Evidence). Leads (starting behavior) 0 went.commands now.course.state now.course.number vs now.course.errors went.lines) (sym (went.adds.kept_is ∙ nothing_earlier went.kept))
                (subst (λ (es : List (ℕ × ℕ)). Leads (starting behavior) 0 went.commands now.course.state now.course.number went.kept es went.lines) (sym went.adds.errors_are) went.answered);
            written = went.written;
          })

      -- memory ran out after them
      pub report_full : (taken : ℕ) (s : Status) (vs : Evidence) (es : List (ℕ × ℕ)) → s ≡ status.NoMemory → vs ≡ now.course.evidence → es ≡ now.course.errors → WentOn start now → Solves behavior bytes taken s vs es old now.written
      report_full taken s vs es is same_verdicts same_errors went =
          rw (is, same_verdicts, same_errors) (inl (record {
            lines = went.lines;
            answers = inr (begun_as went.kept went.errors went.lines went.adds.kept_is went.adds.errors_are (begun_by now.unread went.commands went.kept went.errors went.lines went.behind (no_more now went)));
            written = all_written (concat went.lines) old now.written went.written;
          }))

  -- ---- a script that the reader was fed whole

  module _ (texts : Texts) (prefixes : CommandsArePrefixes) (bytes : List ℕ) (u : Unread) (whole : IsReadWhole bytes u) (old : Option (List ℕ)) (session : Course) (new_session : session ≡ (starting_course behavior)) (now : Progress) where
    never_cut : (ending : Ended) → EndsWith (progress session u old) now ending → ending ≡ ended.Cut → IsHeldFull bytes u
    never_cut ending e is =
        let cut = subst (λ (x : Ended). EndsWith (progress session u old) now x) is e in
        absurd (true≢false (sym whole.ended ∙ sym cut.0.same_end ∙ cut.1.0))

    left_is_shorter : (e : SinkError) → BrokeOff e (progress session u old) now → e ≡ sink.Fault → 0 + length now.unread.bytes < length u.bytes + piece_bytes
    left_is_shorter e broke is = by broke.broke
      where
        by : IsUnanswered e broke.mid.course now.course broke.mid.written now.written ⊎ CutOff e broke.mid now → 0 + length now.unread.bytes < length u.bytes + piece_bytes
        by (inl unanswered) = absurd (let clash : sink.Fault ≡ sink.NoMemory = sym is ∙ unanswered.no_memory in cc)
        by (inr cut) =
            omega (
              arith,
              AreFirst-shorter prefixes broke.went.commands (u.bytes ++ []) (broke.mid.unread.bytes ++ []) (broke.went.behind.place []),
              AreFirst-shorter prefixes (cut.next ∷ []) (broke.mid.unread.bytes ++ []) (now.unread.bytes ++ []) (cut.behind.place []),
              length-append u.bytes [],
              length-append now.unread.bytes [],
            )

    pub script_concluded : (ending : Ended) (s : Status) (vs : Evidence) (stored es : List (ℕ × ℕ)) (new : Option (List ℕ)) → vs ≡ now.course.evidence → stored ≡ now.course.errors → IsConcluded ending s stored es now.written new → EndsWith (progress session u old) now ending → Solves behavior bytes 0 s vs es old new
    script_concluded ending s vs stored es new same_verdicts same_errors concluded e =
        report_concluded texts bytes u (held_whole bytes u whole) old now 0 ending s vs stored es new (never_cut ending e) same_verdicts same_errors concluded
        (subst (λ (c : Course). EndsWith (progress c u old) now ending) new_session e)

    pub script_broke : (e : SinkError) (s : Status) (vs : Evidence) (es : List (ℕ × ℕ)) → s ≡ status_of_error e → vs ≡ now.course.evidence → es ≡ now.course.errors → BrokeOff e (progress session u old) now → Solves behavior bytes 0 s vs es old now.written
    script_broke e s vs es is same_verdicts same_errors broke =
        report_broke texts bytes u (held_whole bytes u whole) old now 0 e s vs es (left_is_shorter e broke) is same_verdicts same_errors
        (subst (λ (c : Course). BrokeOff e (progress c u old) now) new_session broke)

  -- ---- a script that was read from a slot

  -- a script that begins with what was fed and with what came beyond it
  pub record Spells (bytes fed extra : List ℕ) (over : Bool) : Type 0 where
    pub left : List ℕ
    pub all : bytes ≡ (fed ++ extra) ++ left
    pub whole : over ≡ true → bytes ≡ fed

  pub spells_held : (before after : Option (List ℕ)) (bytes fed extra : List ℕ) (over : Bool) → before ≡ Some bytes → WasFed before after fed extra over → Spells bytes fed extra over
  spells_held before after bytes fed extra over is w =
      let first = subst (λ (o : Option (List ℕ)). IfSome o (λ all. (rest : List ℕ) × (all ≡ (fed ++ extra) ++ rest))) is w.came.first in
      record { left = first.0; all = first.1; whole = λ e. subst (λ (o : Option (List ℕ)). IfSome o (λ all. all ≡ fed)) is (w.whole e) }

  pub spells_some : (before after : Option (List ℕ)) (fed extra : List ℕ) (over : Bool) → WasFed before after fed extra over → Spells (fed ++ extra) fed extra over
  spells_some before after fed extra over w = record {
    left = [];
    all = sym (append-nil (fed ++ extra));
    whole = λ e. ap (λ (xs : List ℕ). fed ++ xs) (w.last e) ∙ append-nil fed;
  }

  pub were_taken : (before after : Option (List ℕ)) (bytes came : List ℕ) → before ≡ Some bytes → CameOut before came after → length came ≤ most_bytes + 1 → WereTaken bytes (length came) after
  were_taken before after bytes came is c few =
      let first = subst (λ (o : Option (List ℕ)). IfSome o (λ all. (rest : List ℕ) × (all ≡ came ++ rest))) is c.first in
      record {
        there = omega (arith, ap (λ (xs : List ℕ). length xs) first.1, length-append came first.0);
        few = few;
        rest = c.rest_is ∙ ap (remaining (length came)) is;
      }

  pub took : (s : Status) (bytes : List ℕ) (taken : ℕ) (before after : Option (List ℕ)) → WereTaken bytes taken after → Took s bytes taken before after
  took status.InputFault bytes taken before after w = inl w
  took status.NoMemory bytes taken before after w = tt
  took status.Done bytes taken before after w = w
  took status.Refused bytes taken before after w = w
  took status.TooLong bytes taken before after w = w
  took status.OutputFault bytes taken before after w = w
  took status.Usage bytes taken before after w = w
  took status.Rejected bytes taken before after w = w

  held_of : (bytes fed extra : List ℕ) (over : Bool) → length fed ≤ most_bytes → Spells bytes fed extra over → IsHeld bytes (record { bytes = fed; line = 1; fed = length fed; ended = over })
  held_of bytes fed extra over short spells = record {
    line = refl;
    short = short;
    rest = extra ++ spells.left;
    all = spells.all ∙ append_assoc fed extra spells.left;
    whole = spells.whole;
  }

  full_of : (bytes fed extra : List ℕ) (over : Bool) → Spells bytes fed extra over → IsFull fed extra → IsHeldFull bytes (record { bytes = fed; line = 1; fed = length fed; ended = over })
  full_of bytes fed extra over spells full = record {
    long = omega (arith, full.full, full.more, length-append fed extra, length-append (fed ++ extra) spells.left, ap (λ (xs : List ℕ). length xs) spells.all);
    first = sym (ap head (spells.all ∙ append_assoc fed extra spells.left) ∙ sym (ap (λ (n : ℕ). take n (fed ++ (extra ++ spells.left))) full.full) ∙ take-append_seam fed (extra ++ spells.left));
  }

  module _ (texts : Texts) (before after : Option (List ℕ)) (session : Course) (new_session : session ≡ (starting_course behavior)) (old : Option (List ℕ)) (now : Progress) where
    pub stream_concluded : (ending : Ended) (h : HasStreamed before after session old now ending) (bytes : List ℕ) → Spells bytes h.bytes h.extra now.unread.ended → (s : Status) (vs : Evidence) (stored es : List (ℕ × ℕ)) (new : Option (List ℕ)) → vs ≡ now.course.evidence → stored ≡ now.course.errors → IsConcluded ending s stored es now.written new → Solves behavior bytes (length (h.bytes ++ h.extra)) s vs es old new
    stream_concluded ending h bytes spells s vs stored es new same_verdicts same_errors concluded =
        report_concluded texts bytes _ (held_of bytes h.bytes h.extra now.unread.ended h.fed.short spells) old now (length (h.bytes ++ h.extra)) ending s vs stored es new
        (λ is. full_of bytes h.bytes h.extra now.unread.ended spells (h.cut is)) same_verdicts same_errors concluded
        (subst (λ (c : Course). EndsWith (beginning c h.bytes now.unread.ended old) now ending) new_session h.ends)

    outside_broke : (e : SinkError) (h : FailsOutside before after session old now e) (bytes : List ℕ) → Spells bytes h.bytes h.extra h.over → (s : Status) (vs : Evidence) (es : List (ℕ × ℕ)) → s ≡ status_of_error e → vs ≡ now.course.evidence → es ≡ now.course.errors → Solves behavior bytes (length (h.bytes ++ h.extra)) s vs es old now.written
    outside_broke e h bytes spells s vs es is same_verdicts same_errors =
        report_broke texts bytes _ (held_of bytes h.bytes h.extra h.over h.fed.short spells) old now (length (h.bytes ++ h.extra)) e s vs es
        (λ fault. omega (arith, h.soon fault, length-append h.bytes h.extra)) is same_verdicts same_errors
        (subst (λ (c : Course). BrokeOff e (beginning c h.bytes h.over old) now) new_session h.broke)

    waits_first : (fed : List ℕ) → WaitsAfter fed session old now → WentOn (beginning (starting_course behavior) fed false old) now
    waits_first fed w = subst (λ (c : Course). WentOn (beginning c fed false old) now) new_session w.went

    -- bytes that came, and nothing beyond them
    spells_came : (before mid : Option (List ℕ)) (bytes fed : List ℕ) → before ≡ Some bytes → CameOut before fed mid → Spells bytes fed [] false
    spells_came before mid bytes fed is c =
        let first = subst (λ (o : Option (List ℕ)). IfSome o (λ all. (rest : List ℕ) × (all ≡ fed ++ rest))) is c.first in
        record { left = first.0; all = first.1 ∙ ap (λ (xs : List ℕ). xs ++ first.0) (sym (append-nil fed)); whole = λ e. absurd (true≢false (sym e)) }

    spells_itself : (fed : List ℕ) → Spells fed fed [] false
    spells_itself fed = record { left = []; all = sym (append-nil (fed ++ []) ∙ append-nil fed); whole = λ e. refl }

    module _ (vs : Evidence) (es : List (ℕ × ℕ)) (same_verdicts : vs ≡ now.course.evidence) (same_errors : es ≡ now.course.errors) where
      inside_failed : (fed : List ℕ) → WaitsAfter fed session old now → (bytes : List ℕ) → Spells bytes fed [] false → (s : Status) → s ≡ status.InputFault → Solves behavior bytes (length fed) s vs es old now.written
      inside_failed fed w bytes spells s is = report_unread texts bytes _ (held_of bytes fed [] false w.short spells) old now s vs es is same_verdicts same_errors (waits_first fed w) w.waits

      inside_full : (fed : List ℕ) → WaitsAfter fed session old now → (bytes : List ℕ) → Spells bytes fed [] false → (s : Status) → s ≡ status.NoMemory → Solves behavior bytes (length fed) s vs es old now.written
      inside_full fed w bytes spells s is = report_full texts bytes _ (held_of bytes fed [] false w.short spells) old now (length fed) s vs es is same_verdicts same_errors (waits_first fed w)

      -- the script was not answered to an end, where the desk tells its bytes
      pub stream_broke : (e : StreamError) (s : Status) → s ≡ status_of_stream e → BrokeInStream before after session old now e → (bytes : List ℕ) → before ≡ Some bytes → (slot : Option (List ℕ)) → (taken : ℕ) × Took s bytes taken slot after × Solves behavior bytes taken s vs es old now.written
      stream_broke (Output e) s is h bytes held slot = (
        length (h.bytes ++ h.extra),
        took s bytes (length (h.bytes ++ h.extra)) slot after (were_taken before after bytes (h.bytes ++ h.extra) held h.fed.came (omega (arith, length-append h.bytes h.extra, h.fed.short, h.fed.one))),
        outside_broke e h bytes (spells_held before after bytes h.bytes h.extra h.over held h.fed) s vs es is same_verdicts same_errors,
      )
      stream_broke (Input input.Fault) s is h bytes held slot = (
        length h.0,
        took s bytes (length h.0) slot after (were_taken before after bytes h.0 held h.1 (omega (arith, h.2.short))),
        inside_failed h.0 h.2 bytes (spells_came before after bytes h.0 held h.1) s is,
      )
      stream_broke (Input input.NoMemory) s is h bytes held slot = (
        length h.0,
        subst (λ (x : Status). Took x bytes (length h.0) slot after) (sym is) tt,
        inside_full h.0 h.3 bytes (spells_came before h.1 bytes h.0 held h.2) s is,
      )

      -- and where it does not
      pub stream_broke_some : (e : StreamError) (s : Status) → s ≡ status_of_stream e → BrokeInStream before after session old now e → (bytes : List ℕ) × (taken : ℕ) × Solves behavior bytes taken s vs es old now.written
      stream_broke_some (Output e) s is h = (
        h.bytes ++ h.extra,
        length (h.bytes ++ h.extra),
        outside_broke e h (h.bytes ++ h.extra) (spells_some before after h.bytes h.extra h.over h.fed) s vs es is same_verdicts same_errors,
      )
      stream_broke_some (Input input.Fault) s is h = (h.0, length h.0, inside_failed h.0 h.2 h.0 (spells_itself h.0) s is)
      stream_broke_some (Input input.NoMemory) s is h = (h.0, length h.0, inside_full h.0 h.3 h.0 (spells_itself h.0) s is)

    module _ (ending : Ended) (h : HasStreamed before after session old now ending) (s : Status) (vs : Evidence) (stored es : List (ℕ × ℕ)) (new : Option (List ℕ)) (same_verdicts : vs ≡ now.course.evidence) (same_errors : stored ≡ now.course.errors) (concluded : IsConcluded ending s stored es now.written new) where
      pub stream_ended : (bytes : List ℕ) → before ≡ Some bytes → (slot : Option (List ℕ)) → (taken : ℕ) × Took s bytes taken slot after × Solves behavior bytes taken s vs es old new
      stream_ended bytes held slot = (
        length (h.bytes ++ h.extra),
        took s bytes (length (h.bytes ++ h.extra)) slot after (were_taken before after bytes (h.bytes ++ h.extra) held h.fed.came (omega (arith, length-append h.bytes h.extra, h.fed.short, h.fed.one))),
        stream_concluded ending h bytes (spells_held before after bytes h.bytes h.extra now.unread.ended held h.fed) s vs stored es new same_verdicts same_errors concluded,
      )

      pub stream_ended_some : (bytes : List ℕ) × (taken : ℕ) × Solves behavior bytes taken s vs es old new
      stream_ended_some = (
        h.bytes ++ h.extra,
        length (h.bytes ++ h.extra),
        stream_concluded ending h (h.bytes ++ h.extra) (spells_some before after h.bytes h.extra now.unread.ended h.fed) s vs stored es new same_verdicts same_errors concluded,
      )

  -- ---- a slot that was not opened

  answered_nothing : (bytes : List ℕ) (old new : Option (List ℕ)) → new ≡ old → IsAnsweredUpTo behavior bytes 0 no_evidence [] old new
  answered_nothing bytes old new same = record {
    commands = [];
    last = (starting behavior);
    count = 0;
    lines = [];
    read = record { tokens = []; depth = 0; rest = []; part = record { spelled = refl; nested = refl }; waits = tt };
    answered = (refl, refl, silence);
    written = same ∙ sym (appended-nothing old);
  }

  pub unopened : (error : InputError) (s : Status) (vs : Evidence) (es : List (ℕ × ℕ)) (bytes : List ℕ) (before after old new : Option (List ℕ)) → s ≡ status_of_input error → vs ≡ no_evidence → es ≡ [] → after ≡ before → new ≡ old → (taken : ℕ) × Took s bytes taken before after × Solves behavior bytes taken s vs es old new
  unopened input.Fault s vs es bytes before after old new is no_verdicts no_errors same unwritten = rw (is, no_verdicts, no_errors) (0, inr (refl, same), answered_nothing bytes old new unwritten)
  unopened input.NoMemory s vs es bytes before after old new is no_verdicts no_errors same unwritten = rw (is, no_verdicts, no_errors) (0, tt, inr (refl, refl, unwritten))

-- ---- the causes of statuses

pub input_fault : (e : StreamError) → status_of_stream e ≡ status.InputFault → e ≡ Input input.Fault
input_fault (Input input.Fault) is = refl
input_fault (Input input.NoMemory) is = cc
input_fault (Output sink.Fault) is = cc
input_fault (Output sink.NoMemory) is = cc

pub sink_fault : (e : StreamError) → status_of_stream e ≡ status.OutputFault → e ≡ Output sink.Fault
sink_fault (Input input.Fault) is = cc
sink_fault (Input input.NoMemory) is = cc
sink_fault (Output sink.Fault) is = refl
sink_fault (Output sink.NoMemory) is = cc

pub not_input_fault : (e : StreamError) → (status_of_stream e ≡ status.InputFault → ⊥) → e ≡ Input input.Fault → ⊥
not_input_fault e other is = other (ap status_of_stream is)

pub not_sink_fault : (e : StreamError) → (status_of_stream e ≡ status.OutputFault → ⊥) → e ≡ Output sink.Fault → ⊥
not_sink_fault e other is = other (ap status_of_stream is)

pub not_opened : (e : InputError) → (status_of_input e ≡ status.InputFault → ⊥) → e ≡ input.Fault → ⊥
not_opened e other is = other (ap status_of_input is)

pub opening_fault : (e : InputError) → status_of_input e ≡ status.InputFault → e ≡ input.Fault
opening_fault input.Fault is = refl
opening_fault input.NoMemory is = cc
