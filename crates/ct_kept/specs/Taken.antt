-- How a store takes clauses over other numbers of their terms.
use Rattle.std.specs.Prelude.{◌≡◌, ℕ, ◌≤◌, ◌⊎◌, List, [], ◌++◌, length, map, take, All}
use Rattle.std.specs.List.{flat_map}
use Rattle.ct_restriction.specs.Renamed.{number_in}
use Rattle.ct_terms.specs.Terms.{Terms}
use Rattle.ct_restriction.specs.Renumbered.{HasNoRoom, Numbers, IsKnown}
use Rattle.ct_log.specs.declared.line.Line.{Line}
use Rattle.ct_kept.specs.declared.lemma.Lemma.{Lemma}
use Rattle.ct_kept.specs.Lemmas.{lemma_terms, renamed_lemma, theory_lemmas}
use Rattle.ct_kept.specs.Kept.{Stored, TakesAll, IsNextWithoutRoom}

-- the numbers of the terms of these lemmas are known
abbrev pub AreKnownLemmas : Numbers → List Lemma → Type 0
AreKnownLemmas n lemmas = All (λ lemma. All (IsKnown n) (lemma_terms lemma)) lemmas

-- the lemmas of the first lines are put at the end over the other numbers: of all lines, or up to one with a term that is not known
pub record PushesLemmas (n : Numbers) (lines : List Line) (old new : List Lemma) : Type 0 where
  pub done : ℕ
  pub within : done ≤ length lines
  pub known : AreKnownLemmas n (theory_lemmas (take done lines))
  pub pushed : new ≡ old ++ map (renamed_lemma (number_in n.numbers)) (theory_lemmas (take done lines))
  pub stops : (done ≡ length lines) ⊎ (AreKnownLemmas n (theory_lemmas lines) → ⊥)

-- the table has no room for the terms of these lemmas, of which there is one; nothing has changed
pub record IsWithoutRoom (old : Stored) (terms : Terms) (lemmas : List Lemma) (new : Stored) : Type 0 where
  pub some : lemmas ≡ [] → ⊥
  pub no_room : HasNoRoom old.table terms (flat_map lemma_terms lemmas)
  pub same : new ≡ old

-- the store has taken the lemmas of so many first lines: of all, or up to the first for which its table has no room
pub record TakesFirst (old : Stored) (terms : Terms) (lines : List Line) (new : Stored) : Type 0 where
  pub done : ℕ
  pub takes : TakesAll old terms (theory_lemmas (take done lines)) new
  pub stops : (length lines ≤ done) ⊎ IsNextWithoutRoom new.table terms (theory_lemmas lines) (length (theory_lemmas (take done lines)))
