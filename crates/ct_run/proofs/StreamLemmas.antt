-- A slot that is answered piece by piece.
use Rattle.std.proofs.Common.{◌≡◌, ℕ, ◌+◌, ◌≤◌, ◌<◌, ◌⊎◌, inl, inr, Bool, true, false, List, [], ◌∷◌, ◌++◌, length, Option, refl, ap, sym, ◌∙◌, subst, arith, append_assoc, length-append, true≢false}
use Rattle.std.proofs.lemmas.List.{append-nil}
use Rattle.ct_io.specs.declared.sink.SinkError.{SinkError}
use Rattle.ct_io.specs.declared.sink.SinkError.TheVariants as sink
use Rattle.ct_sexpr.specs.Expression.{Expression}
use Rattle.ct_sexpr.specs.Reading.{BeginsCommand, IsUnfinished, HasNoCommand}
use Rattle.ct_sexpr.specs.Text.{Located, Reads, ReadsSoFar}
use Rattle.ct_sexpr.specs.Unread.{Unread}
use Rattle.ct_input.specs.declared.feeding.InputError.{InputError}
use Rattle.ct_input.specs.declared.feeding.InputError.TheVariants as input
use Rattle.ct_input.specs.Fresh.{fresh}
use Rattle.ct_input.specs.Slot.{most_bytes, piece_bytes, CameOut, given, FeedsPiece, FeedsEnd, FeedsHead}
use Rattle.ct_input.proofs.SlotLemmas.{CameOut-none, CameOut-more, CameOut-all}
use Rattle.ct_script.specs.Session.{Course}
use Rattle.ct_run.specs.declared.turn.Ending.{Ending as Ended}
use Rattle.ct_run.specs.declared.turn.Ending.TheVariants as ended
use Rattle.ct_run.specs.declared.stream.StreamError.{StreamError}
use Rattle.ct_run.specs.declared.stream.StreamError.TheVariants.{Input, Output}
use Rattle.ct_run.specs.Position.{AreFirst}
use Rattle.ct_run.specs.Progress.{Progress, progress, IsUnanswered, IsBehind, WentOn, EndsWith, CutOff, BrokeOff}
use Rattle.ct_run.specs.Streaming.{at_start, beginning, WasFed, IsFull, HasStreamed, WaitsAfter, FailsInside, FailsOutside, BrokeInStream, BreaksOff, FailsToFeed}
use Rattle.ct_run.proofs.TurnLemmas.{AreFirst-more, WentOn-start, WentOn-after, EndsWith-after, BrokeOff-after}

-- ---- what is known of commands

-- a command is a prefix that is not empty
abbrev pub CommandsArePrefixes : Type 0
CommandsArePrefixes = (bytes : List ℕ) (e : Expression) (rest : List ℕ) → BeginsCommand bytes e rest → (prefix : List ℕ) × (bytes ≡ prefix ++ rest) × (0 < length prefix)

-- a command that a piece completes ends in the piece
abbrev pub CommandsEndInPieces : Type 0
CommandsEndInPieces = (bytes piece : List ℕ) (e : Expression) (rest : List ℕ) → HasNoCommand bytes → BeginsCommand (bytes ++ piece) e rest → length rest < length piece

-- unfinished bytes begin no whole command
abbrev pub UnfinishedHasNone : Type 0
UnfinishedHasNone = (bytes : List ℕ) → IsUnfinished bytes → HasNoCommand bytes

rest_is_shorter : CommandsArePrefixes → (bytes : List ℕ) (e : Expression) (rest : List ℕ) → BeginsCommand bytes e rest → length rest < length bytes
rest_is_shorter prefixes bytes e rest begins =
    let p = prefixes bytes e rest begins in
    omega (arith, p.2, ap (λ (xs : List ℕ). length xs) p.1, length-append p.0 rest)

pub AreFirst-shorter : CommandsArePrefixes → (cs : List Located) (bytes behind : List ℕ) → AreFirst cs bytes behind → length behind ≤ length bytes
AreFirst-shorter prefixes [] bytes behind a = omega (arith, ap (λ (xs : List ℕ). length xs) a)
AreFirst-shorter prefixes (c ∷ cs) bytes behind a =
    omega (arith, rest_is_shorter prefixes bytes c.command a.0 a.1, AreFirst-shorter prefixes cs a.0 behind a.2)

-- commands that a piece completes end in the piece
first_ends : CommandsArePrefixes → CommandsEndInPieces → (cs : List Located) (next : Located) (bytes piece behind : List ℕ) → HasNoCommand bytes → AreFirst (cs ++ next ∷ []) (bytes ++ piece) behind → length behind < length piece
first_ends prefixes ends [] next bytes piece behind none a =
    omega (arith, ends bytes piece next.command a.0 none a.1, ap (λ (xs : List ℕ). length xs) a.2)
first_ends prefixes ends (c ∷ cs) next bytes piece behind none a =
    omega (arith, ends bytes piece c.command a.0 none a.1, AreFirst-shorter prefixes (cs ++ next ∷ []) a.0 behind a.2)

-- at a fault of the sink less is left of the text than the piece that came last
soon_after : CommandsArePrefixes → CommandsEndInPieces → (now new : Progress) (error : SinkError) (bytes piece : List ℕ) → now.unread.bytes ≡ bytes ++ piece → HasNoCommand bytes → BrokeOff error now new → error ≡ sink.Fault → length new.unread.bytes < length piece
soon_after prefixes ends now new error bytes piece held none broke is = by broke.broke
  where
    by : IsUnanswered error broke.mid.course new.course broke.mid.written new.written ⊎ CutOff error broke.mid new → length new.unread.bytes < length piece
    by (inl unanswered) = absurd (let clash : sink.Fault ≡ sink.NoMemory = sym is ∙ unanswered.no_memory in cc)
    by (inr cut) =
        let place : AreFirst (broke.went.commands ++ cut.next ∷ []) (now.unread.bytes ++ []) (new.unread.bytes ++ []) =
        AreFirst-more broke.went.commands (cut.next ∷ []) (now.unread.bytes ++ []) (broke.mid.unread.bytes ++ []) (new.unread.bytes ++ []) (broke.went.behind.place []) (cut.behind.place []) in
        first_ends prefixes ends broke.went.commands cut.next bytes piece new.unread.bytes none
        (subst (λ (xs : List ℕ). AreFirst (broke.went.commands ++ cut.next ∷ []) xs new.unread.bytes) (append-nil now.unread.bytes ∙ held)
        (subst (λ (xs : List ℕ). AreFirst (broke.went.commands ++ cut.next ∷ []) (now.unread.bytes ++ []) xs) (append-nil new.unread.bytes) place))

-- ---- bytes that come later

-- a text that goes on with a piece
IsBehind-given : (a b : Unread) (cs : List Located) (piece : List ℕ) → IsBehind a b cs → IsBehind (given a piece) (given b piece) cs
IsBehind-given a b cs piece p = record {
  place = λ tail.
      subst (λ (xs : List ℕ). AreFirst cs xs ((b.bytes ++ piece) ++ tail)) (sym (append_assoc a.bytes piece tail))
      (subst (λ (xs : List ℕ). AreFirst cs (a.bytes ++ (piece ++ tail)) xs) (sym (append_assoc b.bytes piece tail)) (p.place (piece ++ tail)));
  ended = λ tail ds x reads.
      subst (λ (xs : List ℕ). Reads a.line xs (cs ++ ds) x) (sym (append_assoc a.bytes piece tail))
      (p.ended (piece ++ tail) ds x (subst (λ (xs : List ℕ). Reads b.line xs ds x) (append_assoc b.bytes piece tail) reads));
  so_far = λ tail ds x reads.
      subst (λ (xs : List ℕ). ReadsSoFar a.line xs (cs ++ ds) x) (sym (append_assoc a.bytes piece tail))
      (p.so_far (piece ++ tail) ds x (subst (λ (xs : List ℕ). ReadsSoFar b.line xs ds x) (append_assoc b.bytes piece tail) reads));
}

module _ (course : Course) (bytes : List ℕ) (written : Option (List ℕ)) (now : Progress) (went : WentOn (beginning course bytes false written) now) where
  -- a piece comes: it could have been there from the start
  WentOn-given : (piece : List ℕ) → WentOn (beginning course (bytes ++ piece) false written) (record now { unread = given now.unread piece })
  WentOn-given piece =
      let behind = IsBehind-given (at_start bytes false) now.unread went.commands piece went.behind in
      record {
        commands = went.commands;
        kept = went.kept;
        errors = went.errors;
        lines = went.lines;
        behind = record { place = behind.place; ended = behind.ended; so_far = behind.so_far };
        same_fed = omega (arith, went.same_fed, length-append bytes piece);
        same_end = went.same_end;
        answered = went.answered;
        adds = went.adds;
        written = went.written;
      }

  -- the input has ended: it could have been said at the start
  WentOn-over : WentOn (beginning course bytes true written) (record now { unread = record now.unread { ended = true } })
  WentOn-over = record {
    commands = went.commands;
    kept = went.kept;
    errors = went.errors;
    lines = went.lines;
    behind = record { place = went.behind.place; ended = went.behind.ended; so_far = went.behind.so_far };
    same_fed = went.same_fed;
    same_end = refl;
    answered = went.answered;
    adds = went.adds;
    written = went.written;
  }

-- whether the input has ended stays
same_end : (b c : Progress) (ending : Ended) → EndsWith b c ending → c.unread.ended ≡ b.unread.ended
same_end b c ended.Clean (inl stopped) = stopped.same_end
same_end b c ended.Clean (inr last) = last.0.same_end
same_end b c (ended.Lexical error) last = last.0.same_end
same_end b c ended.Cut last = last.0.same_end

-- what was cut has not ended
cut_goes_on : (b c : Progress) (ending : Ended) → EndsWith b c ending → ending ≡ ended.Cut → c.unread.ended ≡ false
cut_goes_on b c ending last is = (subst (λ (e : Ended). EndsWith b c e) is last).1.0

-- ---- between two reads

-- All bytes that came out of the slot so far were fed, and answered as if they had been there from the start. A part of what is left came
-- last, and before that no whole command was left.
pub record IsStreaming (before : Option (List ℕ)) (course : Course) (written : Option (List ℕ)) (now : Progress) (total : ℕ) (left : Option (List ℕ)) : Type 0 where
  pub bytes : List ℕ
  pub came : CameOut before bytes left
  pub counted : length bytes ≡ total
  pub few : total ≤ most_bytes
  pub goes_on : now.unread.ended ≡ false
  pub went : WentOn (beginning course bytes false written) now
  pub earlier : List ℕ
  pub piece : List ℕ
  pub held : now.unread.bytes ≡ earlier ++ piece
  pub none : HasNoCommand earlier
  pub small : length piece ≤ piece_bytes

pub streaming_start : CommandsArePrefixes → (before : Option (List ℕ)) (course : Course) (written : Option (List ℕ)) (unread : Unread) → unread ≡ fresh → IsStreaming before course written (progress course unread written) 0 before
streaming_start prefixes before course written unread new = record {
  bytes = [];
  came = CameOut-none before;
  counted = refl;
  few = omega arith;
  goes_on = ap (λ (u : Unread). u.ended) new;
  went = subst (λ (u : Unread). WentOn (beginning course [] false written) (progress course u written)) (sym new) (WentOn-start (beginning course [] false written));
  earlier = [];
  piece = [];
  held = ap (λ (u : Unread). u.bytes) new;
  none = λ e rest begins. omega (arith, rest_is_shorter prefixes [] e rest begins);
  small = omega arith;
}

-- the last bytes were fed, and nothing is read after them
pub record IsLastFed (before : Option (List ℕ)) (course : Course) (written : Option (List ℕ)) (now : Progress) (after : Option (List ℕ)) : Type 0 where
  pub bytes : List ℕ
  pub extra : List ℕ
  pub over : Bool
  pub fed : WasFed before after bytes extra over
  pub over_is : now.unread.ended ≡ over
  pub full : over ≡ false → IsFull bytes extra
  pub went : WentOn (beginning course bytes over written) now
  pub earlier : List ℕ
  pub piece : List ℕ
  pub held : now.unread.bytes ≡ earlier ++ piece
  pub none : HasNoCommand earlier
  pub small : length extra + length piece ≤ piece_bytes

module _ (prefixes : CommandsArePrefixes) (in_pieces : CommandsEndInPieces) (before : Option (List ℕ)) (course : Course) (written : Option (List ℕ)) (now : Progress) where
  module _ (after : Option (List ℕ)) (last : IsLastFed before course written now after) (new : Progress) where
    -- the script is answered to its end after the last read
    pub last_ends : (ending : Ended) → EndsWith now new ending → HasStreamed before after course written new ending
    last_ends ending e =
        let over : new.unread.ended ≡ last.over = same_end now new ending e ∙ last.over_is in
        record {
          bytes = last.bytes;
          extra = last.extra;
          fed = subst (λ (b : Bool). WasFed before after last.bytes last.extra b) (sym over) last.fed;
          cut = λ is. last.full (sym over ∙ cut_goes_on now new ending e is);
          ends = subst (λ (b : Bool). EndsWith (beginning course last.bytes b written) new ending) (sym over)
              (EndsWith-after (beginning course last.bytes last.over written) now new ending last.went e);
        }

    last_breaks : (error : SinkError) → BrokeOff error now new → FailsOutside before after course written new error
    last_breaks error broke = record {
      bytes = last.bytes;
      extra = last.extra;
      over = last.over;
      fed = last.fed;
      broke = BrokeOff-after error (beginning course last.bytes last.over written) now new last.went broke;
      soon = λ is. omega (arith, soon_after prefixes in_pieces now new error last.earlier last.piece last.held last.none broke is, last.small);
    }

    pub last_broke : (e : StreamError) → BreaksOff now new e → BrokeInStream before after course written new e
    last_broke (Input error) broke = absurd broke
    last_broke (Output error) broke = last_breaks error broke

  module _ (total : ℕ) (left : Option (List ℕ)) (so_far : IsStreaming before course written now total left) where
    fed_so_far : WasFed before left so_far.bytes [] false
    fed_so_far = record {
      short = omega (arith, so_far.counted, so_far.few);
      one = omega arith;
      came = subst (λ (xs : List ℕ). CameOut before xs left) (sym (append-nil so_far.bytes)) so_far.came;
      whole = λ e. absurd (true≢false (sym e));
      last = λ e. refl;
    }

    -- the script is answered to its end before more is read
    pub early_ends : (new : Progress) (ending : Ended) → (ending ≡ ended.Cut → ⊥) → EndsWith now new ending → HasStreamed before left course written new ending
    early_ends new ending not_cut e =
        let over : new.unread.ended ≡ false = same_end now new ending e ∙ so_far.goes_on in
        record {
          bytes = so_far.bytes;
          extra = [];
          fed = subst (λ (b : Bool). WasFed before left so_far.bytes [] b) (sym over) fed_so_far;
          cut = λ is. absurd (not_cut is);
          ends = subst (λ (b : Bool). EndsWith (beginning course so_far.bytes b written) new ending) (sym over)
              (EndsWith-after (beginning course so_far.bytes false written) now new ending so_far.went e);
        }

    early_breaks : (new : Progress) (error : SinkError) → BrokeOff error now new → FailsOutside before left course written new error
    early_breaks new error broke = record {
      bytes = so_far.bytes;
      extra = [];
      over = false;
      fed = fed_so_far;
      broke = BrokeOff-after error (beginning course so_far.bytes false written) now new so_far.went broke;
      soon = λ is. omega (arith, soon_after prefixes in_pieces now new error so_far.earlier so_far.piece so_far.held so_far.none broke is, so_far.small);
    }

    pub early_broke : (new : Progress) (e : StreamError) → BreaksOff now new e → BrokeInStream before left course written new e
    early_broke new (Input error) broke = absurd broke
    early_broke new (Output error) broke = early_breaks new error broke

    -- what is whole was answered, and more is read
    module _ (unfinished : UnfinishedHasNone) (mid : Progress) (cut : EndsWith now mid ended.Cut) where
      went : WentOn (beginning course so_far.bytes false written) mid
      went = WentOn-after (beginning course so_far.bytes false written) now mid so_far.went cut.0

      none : HasNoCommand mid.unread.bytes
      none = unfinished mid.unread.bytes cut.1.1

      pub all_counted : mid.unread.fed ≡ total
      all_counted = went.same_fed ∙ so_far.counted

      pub goes_on : mid.unread.ended ≡ false
      goes_on = cut.1.0

      -- a piece came
      pub piece_came : (count : ℕ) (v : Unread) (after : Option (List ℕ)) → FeedsPiece count mid.unread v left after → IsStreaming before course written (record mid { unread = v }) (total + count) after
      piece_came count v after f = record {
        bytes = so_far.bytes ++ f.piece;
        came = CameOut-more before left after so_far.bytes f.piece so_far.came f.came;
        counted = omega (arith, length-append so_far.bytes f.piece, so_far.counted, f.counted);
        few = omega (arith, all_counted, f.short);
        goes_on = ap (λ (u : Unread). u.ended) f.fed ∙ goes_on;
        went = subst (λ (u : Unread). WentOn (beginning course (so_far.bytes ++ f.piece) false written) (record mid { unread = u })) (sym f.fed) (WentOn-given course so_far.bytes written mid went f.piece);
        earlier = mid.unread.bytes;
        piece = f.piece;
        held = ap (λ (u : Unread). u.bytes) f.fed;
        none = none;
        small = omega (arith, f.counted, f.few);
      }

      -- nothing came any more
      pub end_came : (v : Unread) (after : Option (List ℕ)) → FeedsEnd mid.unread v left after → IsLastFed before course written (record mid { unread = v }) after
      end_came v after f = record {
        bytes = so_far.bytes;
        extra = [];
        over = true;
        fed = record {
          short = omega (arith, so_far.counted, so_far.few);
          one = omega arith;
          came = subst (λ (xs : List ℕ). CameOut before xs after) (sym (append-nil so_far.bytes)) (subst (λ (o : Option (List ℕ)). CameOut before so_far.bytes o) (sym f.untaken) so_far.came);
          whole = λ e. CameOut-all before left so_far.bytes so_far.came f.spent;
          last = λ e. refl;
        };
        over_is = ap (λ (u : Unread). u.ended) f.told;
        full = λ e. absurd (true≢false e);
        went = subst (λ (u : Unread). WentOn (beginning course so_far.bytes true written) (record mid { unread = u })) (sym f.told) (WentOn-over course so_far.bytes written mid went);
        earlier = mid.unread.bytes;
        piece = [];
        held = ap (λ (u : Unread). u.bytes) f.told ∙ sym (append-nil mid.unread.bytes);
        none = none;
        small = omega arith;
      }

      -- more came than is read
      pub beyond_came : (v : Unread) (after : Option (List ℕ)) → FeedsHead mid.unread v left after → IsLastFed before course written (record mid { unread = v }) after
      beyond_came v after f =
          let long : length (so_far.bytes ++ f.piece) ≡ most_bytes = omega (arith, length-append so_far.bytes f.piece, so_far.counted, all_counted, f.full) in
          record {
            bytes = so_far.bytes ++ f.piece;
            extra = f.beyond ∷ [];
            over = false;
            fed = record {
              short = omega (arith, long);
              one = omega arith;
              came = subst (λ (xs : List ℕ). CameOut before xs after) (sym (append_assoc so_far.bytes f.piece (f.beyond ∷ []))) (CameOut-more before left after so_far.bytes (f.piece ++ f.beyond ∷ []) so_far.came f.came);
              whole = λ e. absurd (true≢false (sym e));
              last = λ e. absurd (true≢false (sym e));
            };
            over_is = ap (λ (u : Unread). u.ended) f.fed ∙ goes_on;
            full = λ e. record { full = long; more = refl };
            went = subst (λ (u : Unread). WentOn (beginning course (so_far.bytes ++ f.piece) false written) (record mid { unread = u })) (sym f.fed) (WentOn-given course so_far.bytes written mid went f.piece);
            earlier = mid.unread.bytes;
            piece = f.piece;
            held = ap (λ (u : Unread). u.bytes) f.fed;
            none = none;
            small = omega (arith, f.few);
          }

      -- the slot failed, or memory ran out
      fails_inside : (error : InputError) (v : Unread) (after : Option (List ℕ)) → v ≡ mid.unread → FailsToFeed left after (Input error) → FailsInside before after course written (record mid { unread = v }) error
      fails_inside error v after same fails = subst (λ (u : Unread). FailsInside before after course written (record mid { unread = u }) error) (sym same) (by error fails)
        where
          waits : WaitsAfter so_far.bytes course written mid
          waits = record { short = omega (arith, so_far.counted, so_far.few); went = went; waits = cut.1 }

          by : (error : InputError) → FailsToFeed left after (Input error) → FailsInside before after course written mid error
          by input.Fault untaken = (so_far.bytes, subst (λ (o : Option (List ℕ)). CameOut before so_far.bytes o) (sym untaken) so_far.came, waits)
          by input.NoMemory nothing = (so_far.bytes, left, so_far.came, waits)

      pub feeding_failed : (e : StreamError) (v : Unread) (after : Option (List ℕ)) → v ≡ mid.unread → FailsToFeed left after e → BrokeInStream before after course written (record mid { unread = v }) e
      feeding_failed (Input error) v after same fails = fails_inside error v after same fails
      feeding_failed (Output error) v after same fails = absurd fails
