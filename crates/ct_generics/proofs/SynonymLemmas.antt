-- Whether the text of a synonym's body is too long.
use Rattle.std.proofs.Common.{◌≡◌, ℕ, ◌<◌, ◌≤◌, List, length, Err, Result, ⊎_elim, arith}
use Rattle.ct_lemmas.proofs.Lists.{slice_get-there}
use Rattle.ct_lemmas.proofs.Numbers.{below_or_not}
use Rattle.ct_generics.specs.declared.error.GenericError.{GenericError}
use Rattle.ct_generics.specs.declared.error.GenericError.TheVariants.{Refused, NoMemory}
use Rattle.ct_generics.specs.declared.nodes.ExprId.{ExprId}
use Rattle.ct_generics.specs.declared.nodes.Node.{Node}
use Rattle.ct_generics.specs.Expression.{Expression}
use Rattle.ct_generics.specs.Declarations.{Head}
use Rattle.ct_generics.specs.Nodes.{Stands}
use Rattle.ct_generics.specs.Text.{text_length, most_text}
use Rattle.ct_generics.specs.Lengths.{IsCount, AreCounts, IsLongAt}
use Rattle.ct_generics.proofs.NodeLemmas.{Stands-within}

-- a count that is too great is that of a length that is
long-count : (n size : ℕ) → IsCount n size → most_text < n → most_text < size
long-count n size count big = ⊎_elim (λ more. more) (λ small. let e = count.exact small in absurd (omega (arith, e, small, big))) (below_or_not most_text size)

pub long-text : (heads : List Head) (nodes : List Node) (counts : List ℕ) (id : ExprId) (e : Expression) → AreCounts heads nodes counts → Stands nodes id.0 e → IsLongAt counts id → most_text < text_length heads e
long-text heads nodes counts id e known stands long = long-count long.0 (text_length heads e) (known id.0 long.0 e long.1 stands) long.2

pub short-text : (heads : List Head) (nodes : List Node) (counts : List ℕ) (id : ExprId) (e : Expression) → length counts ≡ length nodes → AreCounts heads nodes counts → Stands nodes id.0 e → (IsLongAt counts id → ⊥) → text_length heads e ≤ most_text
short-text heads nodes counts id e long known stands short =
    let within = Stands-within nodes id.0 e stands in
    let there = slice_get-there counts id.0 (omega (arith, long, within)) in
    ⊎_elim (λ big. absurd (short (there.0, there.1, (known id.0 there.0 e there.1 stands).over big))) (λ small. small) (below_or_not most_text (text_length heads e))

-- a refusal has one number
pub same_refused : {X : Type 0} (m n : ℕ) (r : Result X GenericError) → r ≡ Err (Refused m) → r ≡ Err (Refused n) → n ≡ m
same_refused m n r first second = cc

pub no_memory-refused : {X : Type 0} (n : ℕ) (r : Result X GenericError) → r ≡ Err NoMemory → r ≡ Err (Refused n) → ⊥
no_memory-refused n r first second = absurd (cc)
