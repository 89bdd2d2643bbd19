-- Synonyms of sorts (SMT-LIB 2.7, section 4.2.3, on define-sort).
use Rattle.std.specs.Prelude.{◌≡◌, ℕ, ◌≤◌, ◌⊎◌, List, Ok}
use Rattle.ct_generics.specs.declared.expr.SortExpr.{SortExpr}
use Rattle.ct_generics.specs.Expression.{Expression}
use Rattle.ct_generics.specs.Resolved.{resolved}
use Rattle.ct_generics.specs.Synonyms.{with_synonym, IsSynonymRefusal as IsRefusalOfBody}
use Rattle.ct_sorts.specs.Availability.{IsUnavailableSort}
use Rattle.ct_sorts.specs.Declarations.{Declarations, declared_names, most_sorts}
use Rattle.ct_sorts.specs.Limits.{sort_count}
use Rattle.ct_sorts.specs.Refusals.{IsFirstCause, IsNone, name_taken, too_many}

-- the declarations with a synonym more
abbrev pub IsWithSynonym : Declarations → List ℕ → ℕ → SortExpr → Declarations → Type 0
IsWithSynonym d name params body later = (e : Expression) × (resolved d.declared body ≡ Ok e)
    × (later ≡ record d { declared = with_synonym d.declared (record { name = name; params = params; body = e }) })

-- the number with which a synonym is refused whose name may be declared
abbrev pub IsLaterRefusal : Declarations → SortExpr → ℕ → Type 0
IsLaterRefusal d body n =
    IsRefusalOfBody d.declared body n
    ⊎ (((m : ℕ) → IsRefusalOfBody d.declared body m → ⊥) × IsFirstCause too_many (most_sorts ≤ sort_count d) IsNone n)

-- the number with which the synonym is refused: that of the first cause that applies
abbrev pub IsSynonymRefusal : Declarations → List ℕ → SortExpr → ℕ → Type 0
IsSynonymRefusal d name body = IsFirstCause name_taken (IsUnavailableSort (declared_names d) name) (IsLaterRefusal d body)
