use Rattle.std.proofs.Common.{◌≡◌, ◌∙◌, sym, ap, subst, true, map, IfOk, List, [], ℕ}
use Rattle.std.proofs.lemmas.List.{map-id}
use Rattle.std.proofs.lemmas.Result.{IfOk-weaker}
use Rattle.clap.specs.Words.{App, HasKind, HasMatchesOf, app_of, fault_of, is_simple_and_free, kind_of, matches_of, takes}
use Rattle.clap.specs.declared.error.kind.ErrorKind.TheVariants.{OutOfMemory}
use Rattle.ct_arguments.specs.Command.{cosmt}
use Rattle.ct_arguments.specs.Arguments.{asked_for, task_of}
use Rattle.ct_arguments.specs.Seen.{task_seen}
use Rattle.ct_arguments.proofs.CommandLemmas.{IfOk-both, accepted, cosmt_is_free, cosmt_is_simple, refused}
use Rattle.ct_arguments.proofs.TaskLemmas.{within_of}
use Rattle.ct_arguments.proofs.task.task_of.Goals as goal

pub returns-in-Ok : goal.returns-in-Ok
returns-in-Ok c =
    let parse = c.in-Ok.ensures in
    let words = c.args.words.now in
    let same : map (λ (t : List ℕ). t) words ≡ words = map-id words in
    let app : app_of c.in_ok-command.field-0 ≡ cosmt = c.in_ok-command.ensures.app in
    let none = subst (λ (a : App). is_simple_and_free a ≡ true → fault_of a (map (λ (t : List ℕ). t) words) ≡ []) app parse.kinds cosmt_is_free in
    let found = subst (λ (a : App). HasMatchesOf a (map (λ (t : List ℕ). t) words) c.in-Ok.matches) app parse.matches cosmt_is_simple in
    let task : task_seen c.meaning.result ≡ task_of words = c.meaning.ensures.task ∙ ap asked_for (found.0 ∙ ap (matches_of cosmt) same) ∙ accepted words (ap (fault_of cosmt) (sym same) ∙ none) in
    record { task = task; within = within_of (task_seen c.meaning.result) words task }

pub returns-in-Err : goal.returns-in-Err
returns-in-Err c =
    let parse = c.in-Err.ensures in
    let words = c.args.words.now in
    let e = c.in-Err.error in
    let same : map (λ (t : List ℕ). t) words ≡ words = map-id words in
    let app : app_of c.in_ok-command.field-0 ≡ cosmt = c.in_ok-command.ensures.app in
    let kinds = subst (λ (a : App). is_simple_and_free a ≡ true → HasKind (fault_of a (map (λ (t : List ℕ). t) words)) e) app parse.kinds cosmt_is_free in
    let passes = subst (λ (a : App). takes a (map (λ (t : List ℕ). t) words) ≡ true → kind_of e ≡ OutOfMemory) app parse.passes in
    let here = subst (λ (ws : List (List ℕ)). HasKind (fault_of cosmt ws) e) same kinds in
    let taken = subst (λ (ws : List (List ℕ)). takes cosmt ws ≡ true → kind_of e ≡ OutOfMemory) same passes in
    let task : IfOk c.refusal.result (λ t. task_seen t ≡ task_of words) = IfOk-weaker c.refusal.result _ _ (λ t h. h.0 ∙ refused words c.kind.result h.1 (rw c.kind.ensures here) (rw c.kind.ensures taken))
    (IfOk-both c.refusal.result _ _ c.refusal.ensures.task c.refusal.ensures.refused) in
    record { task = task; within = IfOk-weaker c.refusal.result _ _ (λ t h. within_of (task_seen t) words h) task }
