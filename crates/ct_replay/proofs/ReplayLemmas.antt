-- A script is replayed, command by command, up to one of its checks.
use Rattle.std.proofs.Common.{◌≡◌, ℕ, Bool, true, false, List, [], ◌∷◌, Option, None, Some, sym, subst}
use Rattle.std.specs.Bool.{MatchBool}
use Rattle.std.proofs.lemmas.List.{append-nil}
use Rattle.ct_sexpr.specs.Text.{Located, Ending, Reads}
use Rattle.ct_sexpr.specs.Unread.{Unread}
use Rattle.ct_sexpr.specs.Answer.{IsFirstCommand}
use Rattle.ct_command.specs.Reading.{command}
use Rattle.ct_script.specs.declared.replay.Replayed.{Replayed}
use Rattle.ct_script.specs.declared.replay.Standing.{Standing}
use Rattle.ct_script.specs.declared.replay.Standing.TheVariants.{Nothing}
use Rattle.ct_step.specs.State.{State}
use Rattle.ct_script.specs.Replay.{Replays}
use Rattle.ct_script.specs.Session.{Course}
use Rattle.ct_replay.specs.Found.{Finds, FindsFrom, is_wanted}

-- each text has a reading
abbrev pub SomeText : Type 0
SomeText = (line : ℕ) (bytes : List ℕ) → (cs : List Located) × (x : Ending) × Reads line bytes cs x

-- a text is read to its end: its first command, and then the others
pub first_read : (u v : Unread) (first : Located) → IsFirstCommand u v first → (cs : List Located) (x : Ending) → Reads v.line v.bytes cs x → Reads u.line u.bytes (first ∷ cs) x
first_read u v first is cs x reads =
    subst (λ (b : List ℕ). Reads u.line b (first ∷ cs) x) (append-nil u.bytes)
    (is.ended [] cs x (subst (λ (b : List ℕ). Reads v.line b cs x) (sym (append-nil v.bytes)) reads))

-- what is found in what is left of a script is found in the whole
abbrev pub Completes : Unread → Course → Unread → Course → Standing → ℕ → Type 0
Completes whole start left now standing wanted =
    (cs : List Located) (x : Ending) (found : Option State) → Reads left.line left.bytes cs x → FindsFrom now standing cs wanted found
    → (ds : List Located) × (y : Ending) × Reads whole.line whole.bytes ds y × Finds start ds wanted found

-- at the start
pub all_left : (u : Unread) (c : Course) (wanted : ℕ) → Completes u c u c Nothing wanted
all_left u c wanted cs x found reads finds = (cs, x, reads, finds)

-- after one command more
pub goes_on : (whole left after : Unread) (start now next : Course) (standing later : Standing) (wanted : ℕ) (first : Located) → Completes whole start left now standing wanted → IsFirstCommand left after first → ((cs : List Located) (found : Option State) → FindsFrom next later cs wanted found → FindsFrom now standing (first ∷ cs) wanted found) → Completes whole start after next later wanted
goes_on whole left after start now next standing later wanted first went is turned cs x found reads finds =
    went (first ∷ cs) x found (first_read left after first is cs x reads) (turned cs found finds)

-- the command is the last that counts
pub ends_with : (some : SomeText) (whole left after : Unread) (start now : Course) (standing : Standing) (wanted : ℕ) (first : Located) (found : Option State) → Completes whole start left now standing wanted → IsFirstCommand left after first → ((cs : List Located) → FindsFrom now standing (first ∷ cs) wanted found) → (ds : List Located) × (y : Ending) × Reads whole.line whole.bytes ds y × Finds start ds wanted found
ends_with some whole left after start now standing wanted first found went is last =
    let rest = some after.line after.bytes in
    went (first ∷ rest.0) rest.1 found (first_read left after first is rest.0 rest.1 rest.2) (last rest.0)

module _ (old : Course) (standing : Standing) (c : Located) (wanted : ℕ) (new : Course) (r : Replayed) (replays : Replays old standing c.line (command c.command) new r) (cs : List Located) (found : Option State) where
  -- the command is the wanted check
  pub is_found : is_wanted r new.number wanted ≡ true → found ≡ Some new.state → FindsFrom old standing (c ∷ cs) wanted found
  is_found wants e = (new, r, replays, subst (λ (b : Bool). MatchBool b (found ≡ Some new.state) (MatchBool r.stop (found ≡ None) (FindsFrom new r.standing cs wanted found))) (sym wants) e)

  -- it is another one, with which the script ends
  pub is_over : is_wanted r new.number wanted ≡ false → r.stop ≡ true → found ≡ None → FindsFrom old standing (c ∷ cs) wanted found
  is_over other stop e = (
    new,
    r,
    replays,
    subst (λ (b : Bool). MatchBool b (found ≡ Some new.state) (MatchBool r.stop (found ≡ None) (FindsFrom new r.standing cs wanted found))) (sym other)
        (subst (λ (b : Bool). MatchBool b (found ≡ None) (FindsFrom new r.standing cs wanted found)) (sym stop) e),
  )

  -- it is another one, after which the script goes on
  pub is_not_over : is_wanted r new.number wanted ≡ false → r.stop ≡ false → FindsFrom new r.standing cs wanted found → FindsFrom old standing (c ∷ cs) wanted found
  is_not_over other stop e = (
    new,
    r,
    replays,
    subst (λ (b : Bool). MatchBool b (found ≡ Some new.state) (MatchBool r.stop (found ≡ None) (FindsFrom new r.standing cs wanted found))) (sym other)
        (subst (λ (b : Bool). MatchBool b (found ≡ None) (FindsFrom new r.standing cs wanted found)) (sym stop) e),
  )
