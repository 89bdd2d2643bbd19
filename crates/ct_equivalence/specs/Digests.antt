-- Digests of terms over representatives: terms with one head whose arguments have the same representatives have one digest. It is
-- the exclusive or of a share for each place (Zobrist 1970), so that another representative at a place exchanges one share.
use Rattle.std.specs.Prelude.{◌≡◌, ℕ, suc, ◌<◌, ◌+◌, ◌*◌, ◌/◌, ◌%◌, ◌^◌, List, [], ◌∷◌, length, get_or, Some, slice_get, nat_eq, bit_xor, if◌then◌else◌}
use Rattle.ct_terms.specs.declared.ids.TermId.{TermId}
use Rattle.ct_terms.specs.declared.term.Core.{Core}
use Rattle.ct_terms.specs.Children.{CoreHead, con_head, sel_head, test_head, apply_head, eq_head, not_head, and_head, or_head, iff_head, ite_head, core_head, core_children}
use Rattle.ct_terms.specs.Terms.{Terms, Has}
use Rattle.ct_equivalence.specs.declared.places.Place.{Place}

-- the share of a representative at a place
unfoldable pub share : ℕ → TermId → ℕ
share place rep =
    let first = ((place * 0xd6e8_feb8_6659_fd93) % 2 ^ 64 + (rep.0 + 1)) % 2 ^ 64 in
    let second = (first * 0x9e37_79b9_7f4a_7c15) % 2 ^ 64 in
    (bit_xor second (second / 2 ^ 32) * 0x9e37_79b9_7f4a_7c15) % 2 ^ 64

-- the representative of a term
abbrev pub rep_of : List TermId → TermId → TermId
rep_of reps t = get_or reps t.0 t

-- the shares of terms that stand at the places from one on
abbrev pub shares : List TermId → ℕ → List TermId → ℕ
shares reps place [] = 0
shares reps place (t ∷ ts) = bit_xor (share place (rep_of reps t)) (shares reps (suc place) ts)

-- a kind of terms with its symbol, as one number
abbrev pub kind_number : ℕ → ℕ → ℕ
kind_number kind symbol = symbol * 16 + kind

abbrev pub head_number : CoreHead → ℕ
head_number (con_head c) = kind_number 0 c.0
head_number (sel_head s) = kind_number 1 s.0
head_number (test_head c) = kind_number 2 c.0
head_number (apply_head f) = kind_number 3 f.0
head_number eq_head = 4
head_number not_head = 5
head_number and_head = 6
head_number or_head = 7
head_number iff_head = 8
head_number ite_head = 9

-- the digest of a term
abbrev pub digest : List TermId → Core → ℕ
digest reps core = bit_xor (head_number (core_head core)) (shares reps 0 (core_children core))

-- a term with so many arguments that its digest is kept
abbrev pub IsWide : Core → Type 0
IsWide core = 8 < length (core_children core)

-- the digests of wide terms stand at their numbers
abbrev pub AreDigests : Terms → List TermId → List ℕ → Type 0
AreDigests terms reps digests = (w : TermId) (core : Core) → Has terms core w.0 → IsWide core → slice_get digests w.0 ≡ Some (digest reps core)

-- at which of these places the term stands above
abbrev pub places_in : TermId → List Place → List ℕ
places_in w [] = []
places_in w (p ∷ ps) = if nat_eq p.term.0 w.0 then p.index ∷ places_in w ps else places_in w ps

-- at which places from one on the term is one of these
abbrev pub places_among : TermId → ℕ → List TermId → List ℕ
places_among m place [] = []
places_among m place (t ∷ ts) = if nat_eq t.0 m.0 then place ∷ places_among m (suc place) ts else places_among m (suc place) ts

-- the row of the term
abbrev pub places_of : List (List Place) → TermId → List Place
places_of rows m = get_or rows m.0 []

-- the row of each term has all places at which it stands in a wide term, in their order
abbrev pub ArePlaces : Terms → List (List Place) → Type 0
ArePlaces terms rows = (w : TermId) (core : Core) → Has terms core w.0 → IsWide core → (m : TermId) → places_in w (places_of rows m) ≡ places_among m 0 (core_children core)

-- what another representative changes at these places
abbrev pub changes : TermId → TermId → List ℕ → ℕ
changes old new [] = 0
changes old new (place ∷ places) = bit_xor (bit_xor (share place old) (share place new)) (changes old new places)

-- the digests with what another representative changes at the places of a row
abbrev pub AreExchanged : TermId → TermId → List Place → List ℕ → List ℕ → Type 0
AreExchanged old new row before after = (w : TermId) (was : ℕ) → slice_get before w.0 ≡ Some was → slice_get after w.0 ≡ Some (bit_xor was (changes old new (places_in w row)))
