-- What is reported of a generated script.
use Rattle.std.proofs.Common.{◌≡◌, ◌≢◌, ◌∙◌, ◌≤◌, ◌+◌, ◌++◌, ℕ, true, false, refl, sym, ap, subst, arith, inl, inr, List, [], Option, None, length, true≢false}
use Rattle.ct_io.specs.Bytes.{GrewByPart, appended}
use Rattle.ct_io.specs.declared.sink.SinkError.{SinkError}
use Rattle.ct_io.specs.declared.sink.SinkError.TheVariants as sink
use Rattle.ct_io.specs.declared.status.Status.{Status}
use Rattle.ct_io.specs.declared.status.Status.TheVariants as status
use Rattle.ct_sexpr.specs.Unread.{Unread}
use Rattle.ct_input.specs.Slot.{IsReadWhole}
use Rattle.ct_gen.specs.Script.{script}
use Rattle.ct_step.specs.declared.response.CheckResponse.{CheckResponse}
use Rattle.ct_step.specs.Evidence.{Evidence, evidence}
use Rattle.ct_run.specs.Refusal.{status_of_error}
use Rattle.ct_command.specs.declared.option.ErrorBehavior.TheVariants.{ContinuedExecution}
use Rattle.ct_run.specs.Run.{IsAnswered, Solves}
use Rattle.ct_run.specs.Generated.{IsSolved, IsSolvedSoFar, HasResponsesAlone, ReportsCounts, counts_line, is_done}
use Rattle.ct_run.proofs.LengthLemmas.{script_short}

-- a reader that was fed the script and its end has the whole of it
pub read_whole : (n : ℕ) (text : List ℕ) (a b d : Unread) → n ≤ 2000 → text ≡ script n → d ≡ record b { ended = true }
    → b ≡ record a { bytes = a.bytes ++ text; fed = a.fed + length text } → a ≡ record { bytes = []; line = 1; fed = 0; ended = false } → IsReadWhole (script n) d
read_whole n text a b d few is over fed new =
    let line : d.line ≡ 1 = ap (λ (u : Unread). u.line) over ∙ ap (λ (u : Unread). u.line) fed ∙ ap (λ (u : Unread). u.line) new in
    let all : d.bytes ≡ script n = ap (λ (u : Unread). u.bytes) over ∙ ap (λ (u : Unread). u.bytes) fed ∙ ap (λ (u : Unread). u.bytes ++ text) new ∙ is in
    record { line = line; short = script_short n few; all = all; ended = ap (λ (u : Unread). u.ended) over }

pub nothing_solved : (n : ℕ) (vs : List CheckResponse) → vs ≡ [] → IsSolvedSoFar n vs
nothing_solved n vs none = record { last = None; shrunk = None; errors = []; lines = []; answers = inr none }

so_far : (n : ℕ) (vs : List CheckResponse) → IsSolved n vs → IsSolvedSoFar n vs
so_far n vs solved = record { last = solved.last; shrunk = solved.shrunk; errors = []; lines = solved.lines; answers = inl (inl solved.answers) }

-- a script that was answered to its end, without an error
pub solved : (n : ℕ) (s : Status) (kept : Evidence) (es : List (ℕ × ℕ)) (old new : Option (List ℕ)) → Solves ContinuedExecution (script n) 0 s kept es old new → is_done s ≡ true → IsSolved n kept.responses
solved n status.Done kept es old new h e = record { last = kept.last; shrunk = kept.shrunk; lines = h.0.lines; answers = subst (λ (x : List (ℕ × ℕ)). IsAnswered ContinuedExecution (script n) kept x h.0.lines) h.1 h.0.answers }
solved n status.Refused kept es old new h e = absurd (true≢false (sym e))
solved n status.TooLong kept es old new h e = absurd (true≢false (sym e))
solved n status.InputFault kept es old new h e = absurd (true≢false (sym e))
solved n status.OutputFault kept es old new h e = absurd (true≢false (sym e))
solved n status.NoMemory kept es old new h e = absurd (true≢false (sym e))
solved n status.Usage kept es old new h e = absurd h
solved n status.Rejected kept es old new h e = absurd h

-- a script that was answered as far as memory went
pub stopped : (n : ℕ) (s : Status) (kept : Evidence) (es : List (ℕ × ℕ)) (old new : Option (List ℕ)) → Solves ContinuedExecution (script n) 0 s kept es old new → s ≢ status.InputFault → n ≤ 2000 → IsSolvedSoFar n kept.responses
stopped n status.Done kept es old new h read few = record { last = kept.last; shrunk = kept.shrunk; errors = es; lines = h.0.lines; answers = inl (inl h.0.answers) }
stopped n status.Refused kept es old new h read few = record { last = kept.last; shrunk = kept.shrunk; errors = es; lines = h.0.lines; answers = inl (inl h.0.answers) }
stopped n status.TooLong kept es old new h read few = absurd (omega (arith, h.long, script_short n few))
stopped n status.InputFault kept es old new h read few = absurd (read refl)
stopped n status.OutputFault kept es old new h read few = record { last = kept.last; shrunk = kept.shrunk; errors = es; lines = h.0.lines; answers = inl h.0.answers }
stopped n status.NoMemory kept es old new (inl h) read few = record { last = kept.last; shrunk = kept.shrunk; errors = es; lines = h.lines; answers = inl h.answers }
stopped n status.NoMemory kept es old new (inr h) read few = nothing_solved n kept.responses (ap (λ (e : Evidence). e.responses) h.0)
stopped n status.Usage kept es old new h read few = absurd h
stopped n status.Rejected kept es old new h read few = absurd h

-- ---- the report

-- memory ran out before the line was made
pub stopped_report : (n : ℕ) (s : Status) (kept : Evidence) (seen : List CheckResponse) (es : List (ℕ × ℕ)) (old : Option (List ℕ)) → s ≡ status.NoMemory → kept.responses ≡ seen → HasResponsesAlone kept es → IsSolvedSoFar n seen
    → ReportsCounts n s kept es old old
stopped_report n s kept seen es old is same none h =
    rw is (none, inr (record { solved = subst (λ (x : List CheckResponse). IsSolvedSoFar n x) (sym same) h; unwritten = refl }))

pub unwritten_report : (n : ℕ) (s : Status) (kept : Evidence) (seen : List CheckResponse) (es : List (ℕ × ℕ)) (old : Option (List ℕ)) → s ≡ status.NoMemory → kept.responses ≡ seen → HasResponsesAlone kept es → IsSolved n seen
    → ReportsCounts n s kept es old old
unwritten_report n s kept seen es old is same none h = stopped_report n s kept seen es old is same none (so_far n seen h)

pub whole_report : (n : ℕ) (kept : Evidence) (seen : List CheckResponse) (es : List (ℕ × ℕ)) (line : List ℕ) (old new : Option (List ℕ)) → kept.responses ≡ seen → HasResponsesAlone kept es → IsSolved n seen
    → line ≡ counts_line n seen → new ≡ appended line old → ReportsCounts n status.Done kept es old new
whole_report n kept seen es line old new same none h is written = rw same (record { no_verdict = none.no_verdict; no_core = none.no_core; no_error = none.no_error }, h, written ∙ ap (λ (bytes : List ℕ). appended bytes old) is)

pub broken_report : (e : SinkError) (n : ℕ) (kept : Evidence) (seen : List CheckResponse) (es : List (ℕ × ℕ)) (line : List ℕ) (old new : Option (List ℕ)) → kept.responses ≡ seen → HasResponsesAlone kept es → IsSolved n seen
    → line ≡ counts_line n seen → GrewByPart line old new → ReportsCounts n (status_of_error e) kept es old new
broken_report sink.Fault n kept seen es line old new same none h is part =
    rw same (record { no_verdict = none.no_verdict; no_core = none.no_core; no_error = none.no_error }, record { solved = h; part = subst (λ (bytes : List ℕ). GrewByPart bytes old new) is part })
broken_report sink.NoMemory n kept seen es line old new same none h is part =
    rw same (record { no_verdict = none.no_verdict; no_core = none.no_core; no_error = none.no_error }, inl (record { solved = h; part = subst (λ (bytes : List ℕ). GrewByPart bytes old new) is part }))
