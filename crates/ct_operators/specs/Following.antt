-- Operators over several terms while the terms are made: each term is taken together with one that leads it.
use Rattle.std.specs.Prelude.{◌≡◌, ◌<◌, Bool, true, false, List, [], ◌∷◌, ◌++◌, length, Option, Some, None, Result, IfOk, IsErrOf}
use Rattle.ct_sorts.specs.Declarations.{Declarations}
use Rattle.ct_terms.specs.declared.ids.TermId.{TermId}
use Rattle.ct_terms.specs.declared.error.TermError.{TermError}
use Rattle.ct_terms.specs.declared.error.TermError.TheVariants.{Full}
use Rattle.ct_terms.specs.Terms.{Terms}
use Rattle.ct_terms.specs.CoreTree.{CoreTree, negation, equivalence, no_term, term_at}
use Rattle.ct_formulas.specs.Compiled.{exclusive, exclusive_of, equality, inequality}
use Rattle.ct_operators.specs.declared.operator.Operator.{Operator}
use Rattle.ct_operators.specs.declared.operator.Operator.TheVariants.{Exclusion, Implication, Equality, Inequality}
use Rattle.ct_operators.specs.Effect.{Stands, IsSoundTable, Within, Effect}
use Rattle.ct_operators.specs.Forms.{head_tree, combined, AreOperands}
use Rattle.ct_operators.specs.Made.{MakesInOrder, Made, terms}

-- the last of one or more terms
abbrev pub last_from : CoreTree → List CoreTree → CoreTree
last_from u [] = u
last_from u (v ∷ vs) = last_from v vs

abbrev pub last_tree : List CoreTree → CoreTree
last_tree [] = no_term
last_tree (u ∷ us) = last_from u us

-- what leads the term after these: for `xor` what they come to, for `distinct` the first of them, else the last
abbrev pub leading : Operator → List CoreTree → CoreTree
leading Exclusion us = exclusive_of us
leading Inequality us = head_tree us
leading _ us = last_tree us

-- what the operator's core term has between this term, which comes after `us`, and the later ones
abbrev pub between : Declarations → Operator → List CoreTree → CoreTree → List CoreTree → List CoreTree
between d Equality (v ∷ us) u later = equality d (last_tree (v ∷ us)) u ∷ []
between d Inequality (v ∷ us) u later = equality d v u ∷ (inequality d v u ∷ [])
between d Exclusion (v ∷ us) u later = equivalence (exclusive_of (v ∷ us)) u ∷ (exclusive (exclusive_of (v ∷ us)) u ∷ [])
between d Implication us u (w ∷ later) = negation u ∷ []
between d o us u later = []

-- what is made for these after `us`, and between them
abbrev pub woven : Declarations → Operator → List CoreTree → List Made → List CoreTree
woven d o us [] = []
woven d o us (p ∷ ps) = p.making ++ (between d o us p.term (terms ps) ++ woven d o (us ++ p.term ∷ []) ps)

-- the number is that of the leading term, where there are terms
abbrev pub IsLeading : Terms → Operator → Option TermId → List CoreTree → Type 0
IsLeading table o None us = us ≡ []
IsLeading table o (Some t) us = (0 < length us) × Stands table t (leading o us)

-- the term is the one after `us` and before `later` of the operator's terms
pub record IsFollowing (d : Declarations) (table : Terms) (o : Operator) (lead : Option TermId) (term : TermId) (us later : List CoreTree) : Type 0 where
  pub kept : IsSoundTable d table
  pub inside : term.0 < length table
  pub leads : IsLeading table o lead us
  pub operands : AreOperands d o (us ++ term_at table term ∷ later)

abbrev pub MayFollow : Declarations → Terms → Operator → Option TermId → TermId → Type 0
MayFollow d table o lead term = (us : List CoreTree) × (later : List CoreTree) × IsFollowing d table o lead term us later

-- what is made where a term follows: what leads the next, and subterms of the operator's core term
pub record FollowGives (d : Declarations) (old new : Terms) (o : Operator) (lead : Option TermId) (term : TermId) (ends : Bool) (r : Result TermId TermError) : Type 0 where
  pub next : (us later : List CoreTree) → IsFollowing d old o lead term us later → IfOk r (λ t. Stands new t (leading o (us ++ term_at old term ∷ [])))
  pub effect : (us later allowed : List CoreTree) → IsFollowing d old o lead term us later → (ends ≡ false → 0 < length later) → Within allowed (combined d o (us ++ term_at old term ∷ later)) → Effect d allowed old new (IsErrOf r Full)
  pub order : (us later : List CoreTree) → IsFollowing d old o lead term us later → (ends ≡ false → 0 < length later) → (ends ≡ true → later ≡ []) → IfOk r (λ t. MakesInOrder old (between d o us (term_at old term) later) new)
