-- Lists of numbers: when two of them are equal, and what is hashed of them.
use Rattle.std.specs.Prelude.{◌≡◌, ℕ, Bool, List, nat_eq, IsTrue}
use Rattle.std.specs.Cmp.{IsEquivalence}
use Rattle.std.specs.Cmp.Lexicographic.{pointwise, lists_equiv}
use Rattle.std.specs.Hash as fed
use Rattle.std.specs.Hash.{HashWrites, same_Alike, items_Alike}
use Rattle.std.proofs.lemmas.Cmp.{nat_eq_equiv}
use Rattle.std.proofs.lemmas.Bool.Decides.{Decides-eqb}

-- the two lists have the same numbers in the same order
abbrev pub same_numbers : List ℕ → List ℕ → Bool
same_numbers = pointwise nat_eq

-- the test is an equivalence
pub same_numbers_equiv : IsEquivalence same_numbers
same_numbers_equiv = lists_equiv nat_eq_equiv

-- how many numbers there are, and each of them
abbrev pub hashed_numbers : List ℕ → HashWrites
hashed_numbers = fed.slice fed.usize

-- lists that are equal are hashed alike
pub hashed_numbers_alike : (s t : List ℕ) → IsTrue (same_numbers s t) → hashed_numbers s ≡ hashed_numbers t
hashed_numbers_alike = (items_Alike (same_Alike fed.usize Decides-eqb)).fed
