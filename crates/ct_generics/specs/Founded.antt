-- Which sort expressions are well founded: each datatype that has finite values, and every other sort (SMT-LIB 2.7,
-- section 4.2.3, on declare-datatypes).
use Rattle.std.specs.Prelude.{◌≡◌, ℕ, List, Some, slice_get}
use Rattle.ct_generics.specs.declared.kind.Kind.TheVariants.{Data}
use Rattle.ct_generics.specs.Expression.{Expression}
use Rattle.ct_generics.specs.Declarations.{Head, IsOfKind}
use Rattle.ct_generics.specs.Reach.{fields_of}

-- every expression whose head is no datatype, parameters among them, and every one that has a constructor all of whose field
-- sorts are well founded
pub data IsFounded (heads : List Head) : Expression → Type 0 where
  other : (e : Expression) → (IsOfKind heads Data e → ⊥) → IsFounded heads e
  built : (e : Expression) (i : ℕ) (ctor : List Expression) → slice_get (fields_of heads e) i ≡ Some ctor → ((j : ℕ) (f : Expression) → slice_get ctor j ≡ Some f → IsFounded heads f) → IsFounded heads e
