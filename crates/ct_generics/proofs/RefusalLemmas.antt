-- From what is found to the number with which a block is refused.
use Rattle.std.proofs.Common.{◌≡◌, ℕ, true, false, List, length, sym, subst, ◌∙◌, inl, inr}
use Rattle.std.proofs.lemmas.Bool.{true≢false}
use Rattle.std.proofs.lemmas.Option.{slice_get_within}
use Rattle.ct_generics.specs.declared.kind.Kind.{Kind}
use Rattle.ct_generics.specs.declared.kind.Kind.TheVariants.{Data}
use Rattle.ct_generics.specs.declared.findings.Findings.{Findings}
use Rattle.ct_generics.specs.Expression.{Expression}
use Rattle.ct_generics.specs.Declarations.{Head}
use Rattle.ct_generics.specs.Founded.{IsFounded}
use Rattle.ct_generics.specs.Mixed.{IsMixed}
use Rattle.ct_generics.specs.Refusals.{too_many, mixed, not_founded}
use Rattle.ct_lemmas.proofs.Pairs.{AllZip-one_length}
use Rattle.ct_generics.specs.declared.heads.StoredHead.{StoredHead}
use Rattle.ct_generics.specs.Stored.{IsStored, AreStored}
use Rattle.ct_generics.specs.Uniform.{AreUniform}
use Rattle.ct_generics.specs.Block.{SomeOwn, IsTooLarge, IsGraphRefusal, IsShapeRefusal}
use Rattle.ct_generics.specs.Findings.{SomeIn, AreFindings}

to_own : (first : ℕ) (heads : List Head) (P : Expression → Type 0) → SomeIn first (length heads) heads P → SomeOwn first heads P
to_own first heads P (h, head, ge, less, at, p) = (h, head, ge, at, p)

to_in : (first : ℕ) (heads : List Head) (P : Expression → Type 0) → SomeOwn first heads P → SomeIn first (length heads) heads P
to_in first heads P (h, head, ge, at, p) = (h, head, ge, slice_get_within heads h head at, at, p)

module _ (first : ℕ) (kind : Kind) (heads : List Head) (f : Findings) (found : AreFindings first (length heads) heads f) where
  not_large : f.large ≡ false → SomeOwn first heads (IsTooLarge heads) → ⊥
  not_large small some = true≢false (sym (found.size.1 (to_in first heads (IsTooLarge heads) some)) ∙ small)

  not_mixed : f.large ≡ false → f.mixed ≡ false → SomeOwn first heads (IsMixed heads) → ⊥
  not_mixed small plain some = true≢false (sym ((found.mixing small).1 (to_in first heads (IsMixed heads) some)) ∙ plain)

  pub refused-large : (n : ℕ) → n ≡ too_many → f.large ≡ true → IsGraphRefusal first kind heads n
  refused-large n is large = inl (is, to_own first heads (IsTooLarge heads) (found.size.0 large))

  pub refused-mixed : (n : ℕ) → n ≡ mixed → f.large ≡ false → f.mixed ≡ true → IsGraphRefusal first kind heads n
  refused-mixed n is small mixing = inr (not_large small, inl (is, to_own first heads (IsMixed heads) ((found.mixing small).0 mixing)))

  pub refused-founded : (n : ℕ) → n ≡ not_founded → f.large ≡ false → f.mixed ≡ false → kind ≡ Data → f.unfounded ≡ true → IsGraphRefusal first kind heads n
  refused-founded n is small plain of unfounded =
      inr (not_large small, inr (not_mixed small plain, inl (is, (of, to_own first heads (λ e. IsFounded heads e → ⊥) ((found.founding small).0 unfounded)))))

  pub not-refused : (n : ℕ) → f.large ≡ false → f.mixed ≡ false → (kind ≡ Data → f.unfounded ≡ true → ⊥) → IsGraphRefusal first kind heads n → ⊥
  not-refused n small plain founded (inl large) = not_large small large.1
  not-refused n small plain founded (inr (_, inl mixing)) = not_mixed small plain mixing.1
  not-refused n small plain founded (inr (_, inr (_, inl unfounded))) = founded unfounded.1.0 ((found.founding small).1 (to_in first heads (λ e. IsFounded heads e → ⊥) unfounded.1.1))
  not-refused n small plain founded (inr (_, inr (_, inr never))) = never.1

-- a uniform block is refused for what it reaches, or not at all
pub shape-refused : (first : ℕ) (kind : Kind) (heads : List Head) (n : ℕ) → AreUniform first heads → IsGraphRefusal first kind heads n → IsShapeRefusal first kind heads n
shape-refused first kind heads n uniform graph = inr (λ never. never uniform, graph)

pub shape-passed : (first : ℕ) (kind : Kind) (heads : List Head) (n : ℕ) → AreUniform first heads → (IsGraphRefusal first kind heads n → ⊥) → IsShapeRefusal first kind heads n → ⊥
shape-passed first kind heads n uniform graph (inl other) = other.1 uniform
shape-passed first kind heads n uniform graph (inr later) = graph later.1

-- what is found below the length of what is stored
pub found-below : (first : ℕ) (stored : List StoredHead) (heads : List Head) (f : Findings) → AreStored stored heads → AreFindings first (length stored) heads f → AreFindings first (length heads) heads f
found-below first stored heads f all found = subst (λ n. AreFindings first n heads f) (AllZip-one_length IsStored stored heads all) found
