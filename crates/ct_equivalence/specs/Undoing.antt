-- How unions are undone, by what was noted of each.
use Rattle.std.specs.Prelude.{ℕ, List, [], ◌∷◌, Option, Some, None, take, set, get_or, if◌then◌else◌}
use Rattle.ct_terms.specs.declared.ids.TermId.{TermId}
use Rattle.ct_equivalence.specs.declared.step.Step.{Step}
use Rattle.ct_equivalence.specs.Grouping.{Grouping, IsGrouping}
use Rattle.ct_equivalence.specs.Union.{IsJoin}

-- these terms have this representative, and the others have theirs
abbrev pub relabelled : List TermId → List TermId → TermId → List TermId
relabelled reps [] r = reps
relabelled reps (t ∷ ts) r = relabelled (set reps t.0 r) ts r

-- the row of a term
abbrev pub row_of : List (List TermId) → TermId → List TermId
row_of rows t = get_or rows t.0 []

-- the row of a term is as short as it was
abbrev pub cut_row : List (List TermId) → TermId → ℕ → List (List TermId)
cut_row rows t len = set rows t.0 (take len (row_of rows t))

-- the classes before the union
abbrev pub before_join : Grouping → Step → Grouping
before_join g step = record {
  reps = relabelled g.reps (row_of g.members step.loser) step.loser;
  cons = if step.gained then set g.cons step.winner.0 None else g.cons;
  members = cut_row g.members step.winner step.members;
  uses = cut_row g.uses step.winner step.uses;
}

-- the same where nothing was noted, since the two terms were of one class
abbrev pub before : Grouping → Option Step → Grouping
before g None = g
before g (Some step) = before_join g step

-- the classes before each union, from what was noted, the last union first
abbrev pub befores : Grouping → List (Option Step) → List Grouping
befores g [] = []
befores g (last ∷ earlier) = before g last ∷ befores (before g last) earlier

-- what was noted of the last union says how the classes came to be
abbrev pub IsNoted : Grouping → Option Step → Type 0
IsNoted g None = Unit {0}
IsNoted g (Some step) = IsJoin (before_join g step) g step.winner step.loser

-- that holds of each union, and of the classes before and after each
abbrev pub AreNoted : Grouping → List (Option Step) → Type 0
AreNoted g [] = IsGrouping g
AreNoted g (last ∷ earlier) = IsGrouping g × IsNoted g last × AreNoted (before g last) earlier
