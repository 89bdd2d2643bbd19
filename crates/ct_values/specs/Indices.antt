-- Lists of indices: when two of them are the same, and what is hashed of them.
use Rattle.std.specs.Prelude.{◌≡◌, ℕ, Bool, List, nat_eq, IsTrue}
use Rattle.std.specs.Cmp.{IsEquivalence}
use Rattle.std.specs.Cmp.Lexicographic.{pointwise, lists_equiv}
use Rattle.std.specs.Hash as fed
use Rattle.std.specs.Hash.{HashWrites, same_Alike, items_Alike}
use Rattle.std.proofs.lemmas.Cmp.{nat_eq_equiv}
use Rattle.std.proofs.lemmas.Bool.Decides.{Decides-eqb}

-- the two lists have the same indices in the same order
abbrev pub same_indices : List ℕ → List ℕ → Bool
same_indices = pointwise nat_eq

-- the test is an equivalence
pub same_indices_equiv : IsEquivalence same_indices
same_indices_equiv = lists_equiv nat_eq_equiv

-- how many indices there are, and each of them
abbrev pub hashed_indices : List ℕ → HashWrites
hashed_indices = fed.slice fed.usize

-- lists that are the same are hashed alike
pub hashed_indices_alike : (s t : List ℕ) → IsTrue (same_indices s t) → hashed_indices s ≡ hashed_indices t
hashed_indices_alike = (items_Alike (same_Alike fed.usize Decides-eqb)).fed
