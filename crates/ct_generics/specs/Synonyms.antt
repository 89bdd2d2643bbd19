-- Synonyms, and with which error one is refused (SMT-LIB 2.7, section 4.2.3, on define-sort), and what is declared first.
use Rattle.std.specs.Prelude.{◌≡◌, ℕ, ◌<◌, ◌⊎◌, [], ◌∷◌, ◌++◌, take, Ok, Err}
use Rattle.ct_generics.specs.declared.expr.SortExpr.{SortExpr}
use Rattle.ct_generics.specs.Expression.{Expression}
use Rattle.ct_generics.specs.Declarations.{Declared, Synonym}
use Rattle.ct_generics.specs.Resolved.{resolved}
use Rattle.ct_generics.specs.Text.{text_length, most_text}
use Rattle.ct_generics.specs.Refusals.{too_many}

-- what is declared with one synonym more
abbrev pub with_synonym : Declared → Synonym → Declared
with_synonym d s = record d { synonyms = d.synonyms ++ s ∷ [] }

-- the number with which the synonym of this body is refused: unknown names and wrong numbers of arguments come first, by
-- place, and then a text that is too long
abbrev pub IsSynonymRefusal : Declared → SortExpr → ℕ → Type 0
IsSynonymRefusal d body n =
    (resolved d body ≡ Err n)
    ⊎ ((e : Expression) × (resolved d body ≡ Ok e) × (most_text < text_length d.heads e) × (n ≡ too_many))

-- the first sorts and generics and the first synonyms
abbrev pub first_of : ℕ → ℕ → Declared → Declared
first_of heads synonyms d = record { heads = take heads d.heads; synonyms = take synonyms d.synonyms }
