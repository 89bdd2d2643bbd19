-- The watched literals of the clauses, and the list of the clauses that watch each literal (Moskewicz and others 2001).
-- The lists are chained through the clauses.
use Rattle.std.specs.Prelude.{◌≡◌, ℕ, ◌+◌, ◌<◌, ◌⊎◌, cond, List, [], ◌∷◌, length, Some, slice_get, set, Contains}
use Rattle.ct_terms.specs.declared.ids.Lit.{Lit}
use Rattle.ct_sat.specs.declared.watch.Watch.{Watch}
use Rattle.ct_sat.specs.declared.watch.WatchList.{WatchList}

-- the number of the literal's list: a number for each literal
abbrev pub code_of : Lit → ℕ
code_of l = cond l.positive (l.term.0 + l.term.0 + 1) (l.term.0 + l.term.0)

-- the list without clauses
abbrev pub empty_list : WatchList
empty_list = record { first = 0; count = 0 }

-- the first literal is watched beside the second, and the clause with this index comes after this one in the list of the first
abbrev pub IsWatch : Watch → Lit → Lit → ℕ → Type 0
IsWatch w l m n =
    ((w.one ≡ l) × (w.other ≡ m) × (w.after_one ≡ n)) ⊎ ((w.other ≡ l) × (w.one ≡ m) × (w.after_other ≡ n))

-- one literal is watched in place of another, and this clause comes after it in the list of the one
abbrev pub IsRelinked : Watch → Watch → Lit → Lit → ℕ → Type 0
IsRelinked w v from to next =
    ((w.one ≡ from) × (v ≡ record w { one = to; after_one = next }))
    ⊎ ((w.other ≡ from) × (v ≡ record w { other = to; after_other = next }))

-- from the first one on the clauses stand in the list of the literal
abbrev pub IsChain : List Watch → Lit → ℕ → List ℕ → Type 0
IsChain watches l first [] = Unit {0}
IsChain watches l first (c ∷ cs) =
    (first ≡ c) × (w : Watch) × (m : Lit) × (n : ℕ) × (slice_get watches c ≡ Some w) × IsWatch w l m n × IsChain watches l n cs

-- no number stands twice
abbrev pub AreDistinct : List ℕ → Type 0
AreDistinct [] = Unit {0}
AreDistinct (c ∷ cs) = (Contains cs c → ⊥) × AreDistinct cs

-- the list of the literal has exactly the clauses that are to be in it
pub record IsList (watches : List Watch) (listed : WatchList) (l : Lit) (belongs : ℕ → Type 0) : Type 0 where
  pub chain : List ℕ
  pub counted : length chain ≡ listed.count
  pub chained : IsChain watches l listed.first chain
  pub distinct : AreDistinct chain
  pub only : (c : ℕ) → Contains chain c → belongs c
  pub each : (c : ℕ) → belongs c → Contains chain c

-- each literal has such a list
abbrev pub AreLists : List Watch → List WatchList → ℕ → (Lit → ℕ → Type 0) → Type 0
AreLists watches lists room belongs =
    (l : Lit) → l.term.0 < room → (listed : WatchList) × (slice_get lists (code_of l) ≡ Some listed) × IsList watches listed l (belongs l)

-- one of the first so many clauses watches the literal beside another one
abbrev pub IsOn : List Watch → ℕ → Lit → ℕ → Type 0
IsOn watches linked l c =
    (c < linked) × (w : Watch) × (m : Lit) × (n : ℕ) × (slice_get watches c ≡ Some w) × IsWatch w l m n × (l ≡ m → ⊥)

-- the same, where these clauses are still to be put back into the list of one literal
abbrev pub IsOnBut : List Watch → ℕ → Lit → List ℕ → Lit → ℕ → Type 0
IsOnBut watches linked from rest l c = IsOn watches linked l c × (l ≡ from → Contains rest c → ⊥)

-- the clause is put at the front of the list of one literal, which it watches in place of another
pub record Relinks (watches : List Watch) (lists : List WatchList) (c : ℕ) (from to : Lit) (watches' : List Watch) (lists' : List WatchList) : Type 0 where
  pub w : Watch
  pub v : Watch
  pub listed : WatchList
  pub stands : slice_get watches c ≡ Some w
  pub list_is : slice_get lists (code_of to) ≡ Some listed
  pub relinked : IsRelinked w v from to listed.first
  pub watches_are : watches' ≡ set watches c v
  pub lists_are : lists' ≡ set lists (code_of to) (record { first = c; count = listed.count + 1 })
