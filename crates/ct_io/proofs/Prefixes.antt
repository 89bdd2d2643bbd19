-- A piece that is written prefix by prefix.
use Rattle.std.proofs.Common.{◌≡◌, ℕ, ◌<◌, List, ◌++◌, length, take, drop, Option, Some, None, refl, sym, ◌∙◌, ap, arith, append_assoc, length-append}
use Rattle.std.proofs.lemmas.List.{take_at, take-append-drop}
use Rattle.ct_io.specs.Bytes.{appended, GrewByPart}

-- the prefix of the piece was written, and the rest is still to come
pub record IsWrittenUpTo (piece prefix rest : List ℕ) (old now : Option (List ℕ)) : Type 0 where
  pub split : prefix ++ rest ≡ piece
  pub grown : now ≡ appended prefix old

-- two pieces one after the other are written as one
pub appended-appended : (xs ys : List ℕ) (old : Option (List ℕ)) → appended ys (appended xs old) ≡ appended (xs ++ ys) old
appended-appended xs ys None = refl
appended-appended xs ys (Some before) = ap (λ (bytes : List ℕ). Some bytes) (append_assoc before xs ys)

-- what was written is a prefix of the piece, and not the whole piece where something is left
pub written_part : {piece prefix rest : List ℕ} {old now : Option (List ℕ)} → IsWrittenUpTo piece prefix rest old now → 0 < length rest → GrewByPart piece old now
written_part {piece} {prefix} {rest} {old} {now} h some = record {
  count = length prefix;
  short = rw (← h.split) (rw length-append (omega (arith, some)));
  grown = h.grown ∙ ap (λ (bytes : List ℕ). appended bytes old) (sym (take_at prefix rest (length prefix) refl) ∙ ap (λ (bytes : List ℕ). take (length prefix) bytes) h.split);
}

-- one more prefix of the rest was written
pub written_more : {piece prefix rest : List ℕ} {old now : Option (List ℕ)} (n : ℕ) (next : Option (List ℕ)) → IsWrittenUpTo piece prefix rest old now → next ≡ appended (take n rest) now → IsWrittenUpTo piece (prefix ++ take n rest) (drop n rest) old next
written_more {piece} {prefix} {rest} {old} {now} n next h e = record {
  split = append_assoc prefix (take n rest) (drop n rest) ∙ ap (λ (bytes : List ℕ). prefix ++ bytes) (take-append-drop n rest) ∙ h.split;
  grown = e ∙ ap (λ (bytes : Option (List ℕ)). appended (take n rest) bytes) h.grown ∙ appended-appended prefix (take n rest) old;
}
