-- What a reader keeps, as it reads and is fed.
use Rattle.std.proofs.Common.{◌≡◌, ℕ, ◌+◌, ◌-◌, ◌<◌, ◌≤◌, List, [], ◌++◌, length, drop, Result, Ok, Err, refl, sym, ap, ◌∙◌, subst, arith, length-drop}
use Rattle.std.proofs.lemmas.List.{append-nil, drop-drop}
use Rattle.ct_sexpr.specs.Scanning.{Reached, IsFresh, Completes, Refutes, Scans, Takes}
use Rattle.ct_sexpr.specs.Buffered.{IsBuffered, IsTight}
use Rattle.ct_sexpr.specs.Expression.{Expression}
use Rattle.ct_sexpr.specs.View.{expression_of}
use Rattle.ct_sexpr.specs.declared.sexpr.Sexpr.{Sexpr}
use Rattle.ct_sexpr.specs.declared.scanner.ScanStep.{ScanStep}
use Rattle.ct_sexpr.specs.declared.scanner.ScanStep.TheVariants.{Going, Command, Wrong}
use Rattle.ct_sexpr.specs.declared.error.ReadError.{ReadError}
use Rattle.ct_sexpr.specs.declared.error.ReadError.TheVariants.{NoMemory}
use Rattle.ct_sexpr.specs.declared.scanner.Scanner.{Scanner}

-- a scanner that has read nothing is at the beginning of each text
fresh_reached : (s : Scanner) (text : List ℕ) → IsFresh s → s.line_feeds ≡ 0 → Reached s text text
fresh_reached s text f none = record {
  position =
      rw (f.lists, f.mode, f.word)
      (record { remaining = text; part = record { spelled = refl; nested = refl }; goes_on = (refl, refl) });
  lines = rw (f.lists, none) (record { count = omega arith; few = omega arith; begun = λ h. absurd (omega arith) });
}

-- a reader that was fed nothing
pub buffered-new : (s : Scanner) → IsFresh s → s.line_feeds ≡ 0 → IsBuffered [] 0 0 s 0 0
buffered-new s f none = record {
  start_le = omega arith;
  scanned_le = omega arith;
  reached = λ more. fresh_reached s more f none;
  few = omega arith;
}

-- a scan of the bytes that were not yet read
buffered-scan : (buffer : List ℕ) (start scanned count : ℕ) (old new : Scanner) (lines fed : ℕ) (bytes : List ℕ) → IsBuffered buffer start scanned old lines fed →
    bytes ≡ drop scanned buffer → count ≤ length bytes → ((whole more : List ℕ) → Reached old whole (bytes ++ more) → Reached new whole (drop count bytes ++ more)) →
    IsBuffered buffer start (scanned + count) new lines fed
buffered-scan buffer start scanned count old new lines fed bytes b is le scans =
    let size : length bytes ≡ length buffer - scanned = ap length is ∙ length-drop scanned buffer in
    record {
      start_le = let h = b.start_le in omega arith;
      scanned_le = let h = b.scanned_le in omega arith;
      reached = λ more.
          subst (λ l. Reached new (drop start buffer ++ more) (l ++ more)) (ap (drop count) is ∙ drop-drop count scanned buffer)
          (scans (drop start buffer ++ more) more (subst (λ l. Reached old (drop start buffer ++ more) (l ++ more)) (sym is) (b.reached more)));
      few = b.few;
    }

-- the same bytes in another buffer
pub buffered-settled : (old new : List ℕ) (start scanned start_new scanned_new : ℕ) (s : Scanner) (lines fed : ℕ) → IsBuffered old start scanned s lines fed →
    drop start_new new ≡ drop start old → drop scanned_new new ≡ drop scanned old → start_new ≤ scanned_new → scanned_new ≤ length new → IsBuffered new start_new scanned_new s lines fed
buffered-settled old new start scanned start_new scanned_new s lines fed b kept unread order within = record {
  start_le = order;
  scanned_le = within;
  reached = λ more.
      subst (λ l. Reached s (l ++ more) (drop scanned_new new ++ more)) (sym kept) (subst (λ l. Reached s (drop start old ++ more) (l ++ more)) (sym unread) (b.reached more));
  few = let h = b.few in omega (arith, ap length kept);
}

-- where an error is definite, or memory runs out, some byte was not read
tight-short : (buffer : List ℕ) (start scanned count : ℕ) (bytes : List ℕ) → bytes ≡ drop scanned buffer → scanned ≤ length buffer → count < length bytes → IsTight buffer start (scanned + count)
tight-short buffer start scanned count bytes is le short h = absurd (omega (arith, ap length is, length-drop scanned buffer))

pub tight-failed : (buffer : List ℕ) (start scanned count : ℕ) (bytes : List ℕ) (outcome : Result ScanStep ReadError) → bytes ≡ drop scanned buffer → scanned ≤ length buffer →
    Takes (length bytes) count outcome → (e : ReadError) → outcome ≡ Err e → IsTight buffer start (scanned + count)
tight-failed buffer start scanned count bytes outcome is le takes e o = tight-short buffer start scanned count bytes is le (subst (Takes (length bytes) count) o takes)

pub tight-wrong : (buffer : List ℕ) (start scanned count : ℕ) (bytes : List ℕ) (outcome : Result ScanStep ReadError) → bytes ≡ drop scanned buffer → scanned ≤ length buffer →
    Takes (length bytes) count outcome → (code : ℕ) → outcome ≡ Ok (Wrong code) → IsTight buffer start (scanned + count)
tight-wrong buffer start scanned count bytes outcome is le takes code o = tight-short buffer start scanned count bytes is le (subst (Takes (length bytes) count) o takes)

-- where the scanner is in the bytes that were fed so far
pub reached_now : (buffer : List ℕ) (start scanned : ℕ) (s : Scanner) (lines fed : ℕ) → IsBuffered buffer start scanned s lines fed →
    Reached s (drop start buffer) (drop scanned buffer)
reached_now buffer start scanned s lines fed b =
    subst (λ l. Reached s (drop start buffer) l) (append-nil (drop scanned buffer)) (subst (λ l. Reached s l (drop scanned buffer ++ [])) (append-nil (drop start buffer)) (b.reached []))

-- the bytes of a command that was given are after the start
pub buffered-give : (buffer : List ℕ) (start scanned count : ℕ) (old new fresh : Scanner) (e : Expression) (lines fed : ℕ) (bytes : List ℕ) → IsBuffered buffer start scanned old lines fed →
    bytes ≡ drop scanned buffer → count ≤ length bytes → Completes new e (drop start buffer) (drop (scanned + count) buffer) → IsFresh fresh → fresh.line_feeds ≡ 0 →
    IsBuffered buffer (scanned + count) (scanned + count) fresh (lines + new.line_feeds) fed
buffered-give buffer start scanned count old new fresh e lines fed bytes b is le c f none =
    let size : length bytes ≡ length buffer - scanned = ap length is ∙ length-drop scanned buffer in
    record {
      start_le = omega arith;
      scanned_le = let h = b.scanned_le in omega arith;
      reached = λ more. fresh_reached fresh (drop (scanned + count) buffer ++ more) f none;
      few = let h = b.few in let k = c.lines.few in omega arith;
    }

-- a command that the bytes complete
completes_now : (buffer : List ℕ) (start scanned count : ℕ) (old new : Scanner) (e : Expression) (lines fed : ℕ) (bytes : List ℕ) → IsBuffered buffer start scanned old lines fed →
    bytes ≡ drop scanned buffer → ((whole more : List ℕ) → Reached old whole (bytes ++ more) → Completes new e whole (drop count bytes ++ more)) →
    Completes new e (drop start buffer) (drop (scanned + count) buffer)
completes_now buffer start scanned count old new e lines fed bytes b is scans =
    subst (λ l. Completes new e (drop start buffer) l) (append-nil (drop count bytes) ∙ ap (drop count) is ∙ drop-drop count scanned buffer)
    (scans (drop start buffer) [] (subst (Reached old (drop start buffer)) (sym (append-nil bytes ∙ is)) (reached_now buffer start scanned old lines fed b)))

-- bytes that begin no command
refutes_now : (buffer : List ℕ) (start scanned count code : ℕ) (old new : Scanner) (lines fed : ℕ) (bytes : List ℕ) → IsBuffered buffer start scanned old lines fed →
    bytes ≡ drop scanned buffer → ((whole more : List ℕ) → Reached old whole (bytes ++ more) → Refutes new code whole (drop count bytes ++ more)) →
    Refutes new code (drop start buffer) (drop count bytes ++ [])
refutes_now buffer start scanned count code old new lines fed bytes b is scans =
    scans (drop start buffer) [] (subst (Reached old (drop start buffer)) (sym (append-nil bytes ∙ is)) (reached_now buffer start scanned old lines fed b))

-- what a scan of all bytes that were not yet read leaves
module _ (buffer : List ℕ) (start scanned count : ℕ) (old new : Scanner) (lines fed : ℕ) (bytes : List ℕ) (outcome : Result ScanStep ReadError)
    (b : IsBuffered buffer start scanned old lines fed) (is : bytes ≡ drop scanned buffer) (within : count ≤ length bytes)
    (scans : Scans old new bytes (drop count bytes) outcome) where
  pub scanned_failed : (e : ReadError) → outcome ≡ Err e → (e ≡ NoMemory) × IsBuffered buffer start (scanned + count) new lines fed
  scanned_failed e o =
      let s = subst (Scans old new bytes (drop count bytes)) o scans in
      (s.0, buffered-scan buffer start scanned count old new lines fed bytes b is within s.1)

  pub scanned_all : outcome ≡ Ok Going → IsBuffered buffer start (scanned + count) new lines fed × Reached new (drop start buffer) []
  scanned_all o =
      let s = subst (Scans old new bytes (drop count bytes)) o scans in
      let all : (whole more : List ℕ) → Reached old whole (bytes ++ more) → Reached new whole (drop count bytes ++ more) =
      λ whole more r. subst (λ l. Reached new whole (l ++ more)) (sym s.0) (s.1 whole more r) in (
        buffered-scan buffer start scanned count old new lines fed bytes b is within all,
        s.1 (drop start buffer) [] (subst (Reached old (drop start buffer)) (sym (append-nil bytes ∙ is)) (reached_now buffer start scanned old lines fed b)),
      )

  pub scanned_wrong : (code : ℕ) → outcome ≡ Ok (Wrong code) → IsBuffered buffer start (scanned + count) new lines fed × Refutes new code (drop start buffer) (drop count bytes ++ [])
  scanned_wrong code o =
      let s = subst (Scans old new bytes (drop count bytes)) o scans in (
        buffered-scan buffer start scanned count old new lines fed bytes b is within (λ whole more r. (s whole more r).reached),
        refutes_now buffer start scanned count code old new lines fed bytes b is s,
      )

  pub scanned_command : (e : Sexpr) → outcome ≡ Ok (Command e) → Completes new (expression_of e) (drop start buffer) (drop (scanned + count) buffer)
  scanned_command e o =
      let s = subst (Scans old new bytes (drop count bytes)) o scans in
      completes_now buffer start scanned count old new (expression_of e) lines fed bytes b is s

-- a scanner whose lines are counted anew
pub fresh_again : (s t : Scanner) → IsFresh s → t ≡ record s { line_feeds = 0 } → IsFresh t
fresh_again s t f e = record { lists = ap (λ x. x.lists) e ∙ f.lists; mode = ap (λ x. x.mode) e ∙ f.mode; word = ap (λ x. x.word.items) e ∙ f.word }
