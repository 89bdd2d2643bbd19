-- The command is simple, and its faults have one kind.
use Rattle.std.proofs.Common.{◌⊎◌, Result, Ok, Err, IfOk, ◌≡◌, ◌&&◌, ◌||◌, inl, inr, Bool, true, false, refl, ap, List, [], ◌∷◌, Option, Some, None, is_some, true≢false}
use Rattle.std.specs.Prelude.{◌≢◌}
use Rattle.std.specs.List.{list_all, list_any}
use Rattle.ct_lemmas.proofs.Booleans.{not_true}
use Rattle.clap.specs.Words.{IsAmong, Kinds, Shape, Text, built, fault_of, is_simple, is_simple_and_free, matches_of, takes}
use Rattle.clap.specs.Kinds.{or_else}
use Rattle.clap.specs.Walk.{Held, finished, nothing_held, settled, walk, walk_from}
use Rattle.clap.specs.Simple.{entered}
use Rattle.clap.specs.Takes.{default_passes, entered_passes, is_valid, level_passes, settle_passes, walk_passes}
use Rattle.clap.specs.Faults.{check_fault, defaults_fault, entered_fault, level_fault, settle_fault, walk_fault}
use Rattle.clap.specs.declared.error.kind.ErrorKind.{ErrorKind}
use Rattle.clap.specs.declared.error.kind.ErrorKind.TheVariants.{OutOfMemory}
use Rattle.ct_arguments.specs.Command.{cosmt}
use Rattle.ct_arguments.specs.Arguments.{is_help, asked_for, refusal, task_of}
use Rattle.ct_arguments.proofs.Judgement.{Agrees, no_default_fault, settle_agrees, then, walk_agrees}

pub cosmt_is_simple : is_simple cosmt ≡ true
unfolding cosmt
cosmt_is_simple = refl

pub cosmt_is_free : is_simple_and_free cosmt ≡ true
unfolding cosmt
cosmt_is_free = refl

-- the command with what building adds
abbrev made : Shape
unfolding cosmt
made = (built cosmt).top

level_agrees : (words : List Text) → Agrees (level_fault made [] nothing_held words false []) (level_passes made [] nothing_held words false)
unfolding cosmt
level_agrees words =
    let end : Held = (walk made.rules [] nothing_held words).held in
    let rows = (settled made.rules end).rows in
    let checked = finished made.rules end in
    let last : Agrees (or_else (defaults_fault rows made.rules) (check_fault made checked false)) (list_all default_passes made.rules && is_valid made checked false) =
    rw (no_default_fault rows made.rules refl) refl in
    then (walk_fault made [] (walk_from nothing_held) words)
    (or_else (settle_fault made.rules false end) (or_else (defaults_fault rows made.rules) (check_fault made checked false)))
    (walk_passes made [] (walk_from nothing_held) words)
    (settle_passes made.rules false end && (list_all default_passes made.rules && is_valid made checked false))
    (walk_agrees made refl (walk_from nothing_held) words)
    (then (settle_fault made.rules false end) (or_else (defaults_fault rows made.rules) (check_fault made checked false))
    (settle_passes made.rules false end) (list_all default_passes made.rules && is_valid made checked false)
    (settle_agrees made.rules false end) last)

-- the arguments have at most one kind of fault, and where they have none they are taken
pub judged : (words : List Text) → Agrees (fault_of cosmt words) (takes cosmt words)
unfolding cosmt
judged words = go (walk made.rules [] nothing_held words).stopped
  where
    go : (stop : Option (Text × List Text))
        → Agrees (level_fault made [] nothing_held words (is_some (entered (built cosmt) stop)) (entered_fault (built cosmt) stop))
        (entered_passes (built cosmt) stop && level_passes made [] nothing_held words (is_some (entered (built cosmt) stop)))
    go None = level_agrees words
    go (Some p) = level_agrees words

-- where there is no fault, the test passes
pub passes_of_none : (ks : Kinds) (b : Bool) → Agrees ks b → ks ≡ [] → b ≡ true
passes_of_none [] b a e = a
passes_of_none (k ∷ ks) b a e = absurd (true≢false (ap (list_any (λ _. true)) e))

-- a kind among the faults is the only one
pub only_kind : (p : ErrorKind → Bool) (k : ErrorKind) (ks : Kinds) (b : Bool) → Agrees ks b → IsAmong k ks → list_any p ks ≡ p k
only_kind p k [] b a among = absurd among
only_kind p k (l ∷ []) b a among = elim among [ inl e ↦ rw e (or_false (p l)) | inr e ↦ absurd e ]
  where
    or_false : (x : Bool) → (x || false) ≡ x
    or_false true = refl
    or_false false = refl
only_kind p k (l ∷ (m ∷ ks)) b a among = absurd a

-- accepted arguments mean what their matches mean
pub accepted : (words : List Text) → fault_of cosmt words ≡ [] → asked_for (matches_of cosmt words) ≡ task_of words
unfolding task_of
accepted words none = rw (passes_of_none (fault_of cosmt words) (takes cosmt words) (judged words) none) refl

-- what refused arguments ask for, by the kind of an error other than out of memory
pub refused : (words : List Text) (k : ErrorKind) → k ≢ OutOfMemory → (k ≡ OutOfMemory) ⊎ IsAmong k (fault_of cosmt words) → (takes cosmt words ≡ true → k ≡ OutOfMemory)
    → refusal (is_help k) ≡ task_of words
unfolding task_of
refused words k other among taken = elim among [
  | inl e ↦ absurd (other e)
  | inr h ↦ rw (not_true (takes cosmt words) (λ t. other (taken t)), only_kind is_help k (fault_of cosmt words) (takes cosmt words) (judged words) h) refl
]

pub IfOk-both : {X E : Type 0} (r : Result X E) (P Q : X → Type 0) → IfOk r P → IfOk r Q → IfOk r (λ x. P x × Q x)
IfOk-both (Ok x) P Q p q = (p, q)
IfOk-both (Err e) P Q p q = tt
