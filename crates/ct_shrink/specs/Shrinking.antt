-- A core that is being shrunk.
use Rattle.std.specs.Prelude.{ℕ, List, ◌++◌, drop}
use Rattle.std.specs.List.{AllZip}
use Rattle.ct_sorts.specs.Declarations.{Declarations}
use Rattle.ct_terms.specs.declared.ids.TermId.{TermId}
use Rattle.ct_terms.specs.Terms.{Terms}
use Rattle.ct_shrink.specs.declared.shrinking.Draft.{Draft}
use Rattle.ct_shrink.specs.Shrunk.{ArePart, IsRefutedAt, IsNeed}

-- of the first places, so many, those are kept that are needed beside the later ones
pub record IsDraft (d : Declarations) (table : Terms) (asserts : List TermId) (budget : ℕ) (given : List ℕ) (count : ℕ) (draft : Draft) : Type 0 where
  pub part : ArePart given (draft.places.items ++ drop count given)
  pub refuted : IsRefutedAt d table asserts (draft.places.items ++ drop count given) draft.derivation.value
  pub needs : AllZip (IsNeed d table asserts budget given (draft.places.items ++ drop count given)) draft.places.items draft.needs.items
