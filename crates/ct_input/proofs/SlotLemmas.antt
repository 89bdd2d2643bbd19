-- Bytes that came out of a slot, piece by piece.
use Rattle.std.proofs.Common.{◌≡◌, ℕ, zero, suc, ◌+◌, ◌<◌, ◌≤◌, true, false, List, [], ◌∷◌, ◌++◌, length, take, drop, Option, None, Some, IfSome, refl, ap, sym, ◌∙◌, subst, arith, length-append, append_assoc, true≢false}
use Rattle.std.proofs.Math.Seq.{drop-append_seam}
use Rattle.std.proofs.lemmas.List.{append-nil, drop-drop, take-append-le, take-append-drop, length-take-le}
use Rattle.ct_io.specs.Bytes.{ReadsBytes, remaining}
use Rattle.ct_sexpr.specs.Unread.{Unread}
use Rattle.ct_input.specs.Fresh.{fresh}
use Rattle.ct_input.specs.Slot.{most_bytes, piece_bytes, CameOut, given, FeedsPiece, FeedsEnd, FeedsHead, IsReadWhole, IsTaken}

-- nothing came out yet
pub CameOut-none : (o : Option (List ℕ)) → CameOut o [] o
CameOut-none None = record { first = tt; rest_is = refl }
CameOut-none (Some all) = record { first = (all, refl); rest_is = refl }

-- one piece after another
pub CameOut-more : (a b c : Option (List ℕ)) (p q : List ℕ) → CameOut a p b → CameOut b q c → CameOut a (p ++ q) c
CameOut-more None b c p q first second = record {
  first = tt;
  rest_is = second.rest_is ∙ ap (remaining (length q)) first.rest_is;
}
CameOut-more (Some all) b c p q first second =
    let whole = first.first in
    let left : b ≡ Some (drop (length p) all) = first.rest_is in
    let next : (rest : List ℕ) × (drop (length p) all ≡ q ++ rest) = subst (λ (o : Option (List ℕ)). IfSome o (λ xs. (rest : List ℕ) × (xs ≡ q ++ rest))) left second.first in
    let same : drop (length p) all ≡ whole.0 = ap (drop (length p)) whole.1 ∙ drop-append_seam p whole.0 in
    record {
      first = (next.0, whole.1 ∙ ap (λ (xs : List ℕ). p ++ xs) (sym same ∙ next.1) ∙ sym (append_assoc p q next.0));
      rest_is = second.rest_is ∙ ap (remaining (length q)) left ∙ ap (λ (xs : List ℕ). Some xs) (drop-drop (length q) (length p) all ∙ ap (λ (n : ℕ). drop n all) (sym (length-append p q)));
    }

-- the first bytes of what was read are those that were left
taken_first : (left old new : List ℕ) (n : ℕ) → ReadsBytes left n old new → take n new ≡ take n left
taken_first left old new n reads =
    let long : n ≤ length (take n left) = omega (arith, reads.there, length-take-le n left reads.there) in
    ap (take n) reads.bytes
    ∙ take-append-le n (take n left) (drop n old) long
    ∙ sym (subst (λ (all : List ℕ). take n all ≡ take n (take n left)) (take-append-drop n left) (take-append-le n (take n left) (drop n left) long))

-- where nothing is left, all that was there came out
pub CameOut-all : (a b : Option (List ℕ)) (p : List ℕ) → CameOut a p b → IfSome b (λ rest. rest ≡ []) → IfSome a (λ all. all ≡ p)
CameOut-all None b p came spent = tt
CameOut-all (Some all) b p came spent =
    let left : (rest : List ℕ) × (all ≡ p ++ rest) = came.first in
    let rest : b ≡ Some (drop (length p) all) = came.rest_is in
    let nothing : drop (length p) all ≡ [] = subst (λ (o : Option (List ℕ)). IfSome o (λ (xs : List ℕ). xs ≡ [])) rest spent in
    left.1 ∙ ap (λ (xs : List ℕ). p ++ xs) (sym (drop-append_seam p left.0) ∙ ap (drop (length p)) (sym left.1) ∙ nothing) ∙ append-nil p

-- what a read moved came out of the slot
pub CameOut-read : (before after : Option (List ℕ)) (n : ℕ) (old new : List ℕ) → IfSome before (λ left. ReadsBytes left n old new) → after ≡ remaining n before → n ≤ length new → CameOut before (take n new) after
CameOut-read None after n old new reads next few = record { first = tt; rest_is = next }
CameOut-read (Some left) after n old new reads next few =
    let same = taken_first left old new n reads in
    record {
      first = (drop n left, sym (take-append-drop n left) ∙ ap (λ (xs : List ℕ). xs ++ drop n left) (sym same));
      rest_is = next ∙ ap (λ (m : ℕ). remaining m (Some left)) (sym (length-take-le n new few));
    }

-- the last of the first bytes
last_taken : (n k : ℕ) (xs : List ℕ) → n ≡ k + 1 → n ≤ length xs → (x : ℕ) × (take n xs ≡ take k xs ++ x ∷ [])
last_taken zero k xs is few = absurd (omega (arith, is))
last_taken (suc n) k [] is few = absurd (omega (arith, few))
last_taken (suc n) zero (x ∷ xs) is few = let none : n ≡ 0 = omega (arith, is) in (x, ap (λ (m : ℕ). x ∷ take m xs) none)
last_taken (suc n) (suc k) (x ∷ xs) is few = let later = last_taken n k xs (omega (arith, is)) (omega (arith, few)) in (later.0, ap (λ (ys : List ℕ). x ∷ ys) later.1)

module _ (before after : Option (List ℕ)) (n k : ℕ) (old new : List ℕ) (reads : IfSome before (λ left. ReadsBytes left n old new)) (next : after ≡ remaining n before) (few : n ≤ length new) (u v : Unread) (fed : v ≡ record u { bytes = u.bytes ++ take k new; fed = u.fed + length (take k new) }) where
  -- the whole of it fits
  pub feeds_piece : k ≡ n → 0 < n → n ≤ piece_bytes → u.fed + n ≤ most_bytes → FeedsPiece n u v before after
  feeds_piece whole some small short = record {
    piece = take n new;
    counted = length-take-le n new few;
    some = some;
    few = small;
    short = short;
    fed = subst (λ (m : ℕ). v ≡ given u (take m new)) whole fed;
    came = CameOut-read before after n old new reads next few;
  }

  -- all but the last byte fits
  pub feeds_head : n ≡ k + 1 → n ≤ piece_bytes → u.fed + k ≡ most_bytes → FeedsHead u v before after
  feeds_head one_more small full =
      let last = last_taken n k new one_more few in
      let counted : length (take k new) ≡ k = length-take-le k new (omega (arith, one_more, few)) in
      record {
        piece = take k new;
        beyond = last.0;
        few = omega (arith, counted, one_more, small);
        full = omega (arith, counted, full);
        fed = fed;
        came = subst (λ (bytes : List ℕ). CameOut before bytes after) last.1 (CameOut-read before after n old new reads next few);
      }

-- ---- a slot that is read to its end

-- so far the bytes came out, of which the reader was fed all, one piece after another
pub record IsFedSoFar (before : Option (List ℕ)) (total : ℕ) (u : Unread) (after : Option (List ℕ)) : Type 0 where
  pub line : u.line ≡ 1
  pub goes_on : u.ended ≡ false
  pub fed : u.fed ≡ total
  pub long : length u.bytes ≡ total
  pub few : total ≤ most_bytes
  pub came : CameOut before u.bytes after

-- nothing was fed yet
pub fed_nothing : (o : Option (List ℕ)) (u : Unread) → u ≡ fresh → IsFedSoFar o 0 u o
fed_nothing o u new = record {
  line = ap (λ (u : Unread). u.line) new;
  goes_on = ap (λ (u : Unread). u.ended) new;
  fed = ap (λ (u : Unread). u.fed) new;
  long = ap (λ (u : Unread). length u.bytes) new;
  few = omega arith;
  came = subst (λ (bytes : List ℕ). CameOut o bytes o) (sym (ap (λ (u : Unread). u.bytes) new)) (CameOut-none o);
}

module _ (before mid after : Option (List ℕ)) (total : ℕ) (u v : Unread) (so_far : IsFedSoFar before total u mid) where
  -- one piece more
  pub fed_more : (count : ℕ) → FeedsPiece count u v mid after → IsFedSoFar before (total + count) v after
  fed_more count f =
      let bytes : v.bytes ≡ u.bytes ++ f.piece = ap (λ (u : Unread). u.bytes) f.fed in
      record {
        line = ap (λ (u : Unread). u.line) f.fed ∙ so_far.line;
        goes_on = ap (λ (u : Unread). u.ended) f.fed ∙ so_far.goes_on;
        fed = omega (arith, ap (λ (u : Unread). u.fed) f.fed, so_far.fed, f.counted);
        long = omega (arith, ap (λ (xs : List ℕ). length xs) bytes, length-append u.bytes f.piece, so_far.long, f.counted);
        few = omega (arith, so_far.fed, f.short);
        came = subst (λ (xs : List ℕ). CameOut before xs after) (sym bytes) (CameOut-more before mid after u.bytes f.piece so_far.came f.came);
      }

  -- nothing more came
  pub whole_fed : (bytes : List ℕ) → before ≡ Some bytes → FeedsEnd u v mid after → IsReadWhole bytes v
  whole_fed bytes is f =
      let same : bytes ≡ u.bytes = subst (λ (o : Option (List ℕ)). IfSome o (λ (xs : List ℕ). xs ≡ u.bytes)) is (CameOut-all before mid u.bytes so_far.came f.spent) in
      record {
        line = ap (λ (u : Unread). u.line) f.told ∙ so_far.line;
        short = omega (arith, ap (λ (xs : List ℕ). length xs) same, so_far.long, so_far.few);
        all = ap (λ (u : Unread). u.bytes) f.told ∙ sym same;
        ended = ap (λ (u : Unread). u.ended) f.told;
      }

  pub whole_fed_some : FeedsEnd u v mid after → (bytes : List ℕ) × IsReadWhole bytes v
  whole_fed_some f = (
    u.bytes,
    record {
      line = ap (λ (u : Unread). u.line) f.told ∙ so_far.line;
      short = omega (arith, so_far.long, so_far.few);
      all = ap (λ (u : Unread). u.bytes) f.told;
      ended = ap (λ (u : Unread). u.ended) f.told;
    },
  )

  pub all_taken : FeedsEnd u v mid after → IsTaken before true after
  all_taken f = record {
    count = length u.bytes;
    few = omega (arith, so_far.long, so_far.few);
    rest = f.untaken ∙ so_far.came.rest_is;
    beyond = λ e. absurd (true≢false e);
    spent = λ e. subst (λ (o : Option (List ℕ)). IfSome o (λ (xs : List ℕ). xs ≡ [])) (sym f.untaken) f.spent;
  }

  -- more came than is read
  beyond_came : (f : FeedsHead u v mid after) → CameOut before (u.bytes ++ (f.piece ++ f.beyond ∷ [])) after
  beyond_came f = CameOut-more before mid after u.bytes (f.piece ++ f.beyond ∷ []) so_far.came f.came

  pub too_long : (bytes : List ℕ) → before ≡ Some bytes → FeedsHead u v mid after → most_bytes < length bytes
  too_long bytes is f =
      let came : CameOut (Some bytes) (u.bytes ++ (f.piece ++ f.beyond ∷ [])) after = subst (λ (o : Option (List ℕ)). CameOut o (u.bytes ++ (f.piece ++ f.beyond ∷ [])) after) is (beyond_came f) in
      let left : (rest : List ℕ) × (bytes ≡ (u.bytes ++ (f.piece ++ f.beyond ∷ [])) ++ rest) = came.first in
      omega (
        arith,
        ap (λ (xs : List ℕ). length xs) left.1,
        length-append (u.bytes ++ (f.piece ++ f.beyond ∷ [])) left.0,
        length-append u.bytes (f.piece ++ f.beyond ∷ []),
        length-append f.piece (f.beyond ∷ []),
        so_far.long,
        so_far.fed,
        f.full,
      )

  pub too_long_some : FeedsHead u v mid after → (bytes : List ℕ) × (most_bytes < length bytes)
  too_long_some f = (
    u.bytes ++ (f.piece ++ f.beyond ∷ []),
    omega (arith, length-append u.bytes (f.piece ++ f.beyond ∷ []), length-append f.piece (f.beyond ∷ []), so_far.long, so_far.fed, f.full),
  )

  pub head_taken : FeedsHead u v mid after → IsTaken before false after
  head_taken f =
      let count : length (u.bytes ++ (f.piece ++ f.beyond ∷ [])) ≡ most_bytes + 1 =
      omega (arith, length-append u.bytes (f.piece ++ f.beyond ∷ []), length-append f.piece (f.beyond ∷ []), so_far.long, so_far.fed, f.full) in
      record {
        count = length (u.bytes ++ (f.piece ++ f.beyond ∷ []));
        few = omega (arith, count);
        rest = (beyond_came f).rest_is;
        beyond = λ e. count;
        spent = λ e. absurd (true≢false (sym e));
      }
