-- The arguments of a term: when two lists of them are the same, and what is hashed of them.
use Rattle.std.specs.Prelude.{◌≡◌, ℕ, ◌+◌, ◌*◌, ◌/◌, ◌%◌, ◌^◌, Bool, List, [], ◌∷◌, nat_eq, bit_xor, IsTrue}
use Rattle.std.proofs.Common.{ap}
use Rattle.std.specs.Cmp.{IsEquivalence, on_equiv}
use Rattle.std.specs.Cmp.Lexicographic.{pointwise, pointwise_decides, lists_equiv}
use Rattle.std.specs.Hash as fed
use Rattle.std.specs.Hash.{HashWrites}
use Rattle.std.proofs.lemmas.Cmp.{nat_eq_equiv}
use Rattle.std.proofs.lemmas.Bool.Decides.{Decides-eqb}
use Rattle.ct_terms.specs.declared.ids.TermId.{TermId}

-- the two terms have one number
abbrev pub same_id : TermId → TermId → Bool
same_id s t = nat_eq s.0 t.0

-- the two lists have the same terms in the same order
abbrev pub same_ids : List TermId → List TermId → Bool
same_ids = pointwise same_id

-- the test is an equivalence
pub same_ids_equiv : IsEquivalence same_ids
same_ids_equiv = lists_equiv (on_equiv (λ t. t.0) nat_eq_equiv)

-- the digest with one more number mixed in, over 64 bits: added, its upper half joined to its lower half, and multiplied
unfoldable pub mix : ℕ → ℕ → ℕ
mix sum number =
    let added = (sum + (number + 1)) % 2 ^ 64 in
    (bit_xor added (added / 2 ^ 32) * 11400714819323198485) % 2 ^ 64

-- the digest with these terms mixed in, in their order
abbrev pub digest_from : ℕ → List TermId → ℕ
digest_from sum [] = sum
digest_from sum (t ∷ ts) = digest_from (mix sum t.0) ts

-- what is hashed of arguments
abbrev pub hashed_ids : List TermId → HashWrites
hashed_ids ts = fed.u64 (digest_from 1 ts)

-- lists that the test holds of are one
pub same_ids_decides : (s t : List TermId) → IsTrue (same_ids s t) → s ≡ t
same_ids_decides s t = (pointwise_decides (λ a b. (λ e i. record { 0 = (Decides-eqb a.0 b.0).0 e i }, λ e. (Decides-eqb a.0 b.0).1 (ap (λ (u : TermId). u.0) e))) s t).0

-- lists that are the same are hashed alike
pub hashed_ids_alike : (s t : List TermId) → IsTrue (same_ids s t) → hashed_ids s ≡ hashed_ids t
hashed_ids_alike s t same = ap hashed_ids (same_ids_decides s t same)
