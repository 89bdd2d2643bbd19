-- Which definitions a formula can reach.
use Rattle.std.specs.Prelude.{◌≡◌, Bool, true, List, Some, slice_get}
use Rattle.ct_sorts.specs.declared.ids.DefId.{DefId}
use Rattle.ct_formulas.specs.Formula.{Formula}
use Rattle.ct_occurrence.specs.Calls.{CallsAre}

-- the formula names the definition: this one passes each test that all definitions pass that the formula names
abbrev pub NamesDefinition : Formula → DefId → Type 0
NamesDefinition t k = (p : DefId → Bool) → CallsAre (λ j. p j ≡ true) t → p k ≡ true

-- the formula can reach the definition: the formula names it, or the body of a definition that it can reach does
pub data CanReach (bodies : List Formula) (t : Formula) : DefId → Type 0 where
  by_name : (k : DefId) → NamesDefinition t k → CanReach bodies t k
  through : (j k : DefId) (body : Formula) → CanReach bodies t j → slice_get bodies j.0 ≡ Some body → NamesDefinition body k → CanReach bodies t k

-- each definition that the formula can reach over these bodies has the same one among the others, or none in either
abbrev pub AgreeWhereReached : List Formula → List Formula → Formula → Type 0
AgreeWhereReached bodies others t = (k : DefId) → CanReach bodies t k → slice_get bodies k.0 ≡ slice_get others k.0
