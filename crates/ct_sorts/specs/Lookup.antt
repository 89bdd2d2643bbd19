-- What a name stands for.
use Rattle.std.specs.Prelude.{◌≡◌, ℕ, ◌<◌, List, Option, Some, None, length, map, slice_get, position}
use Rattle.std.specs.Str.{bytes_eq}
use Rattle.ct_generics.specs.Expression.{named}
use Rattle.ct_generics.specs.Declarations.{Head}
use Rattle.ct_sorts.specs.Availability.{IsListed}
use Rattle.ct_sorts.specs.Declarations.{Declarations, Constructor, Selector, IsConstructor, IsSelector, IsFunction, IsDefinition, ctor_names, sel_names, function_names, definition_names, symbol_names}
use Rattle.ct_sorts.specs.Instances.{IsOrigin}
use Rattle.ct_sorts.specs.declared.ids.SortId.{SortId}
use Rattle.ct_sorts.specs.declared.ids.CtorId.{CtorId}
use Rattle.ct_sorts.specs.declared.ids.SelId.{SelId}
use Rattle.ct_sorts.specs.declared.ids.GenId.{GenId}
use Rattle.ct_sorts.specs.declared.spelling.Spelling.{Spelling}
use Rattle.ct_sorts.specs.declared.ids.Symbol.{Symbol}
use Rattle.ct_sorts.specs.declared.ids.Symbol.TheVariants.{Ctor, Sel, Fun, Def, GenCtor, GenSel}

-- the sort was declared without parameters
abbrev pub IsPlainSort : Declarations → SortId → Type 0
IsPlainSort d s = (h : ℕ) × IsOrigin d s (named h)

-- so was the sort of the constructor
abbrev pub IsPlainCtor : Declarations → CtorId → Type 0
IsPlainCtor d c = (ctor : Constructor) × (slice_get d.ctors c.0 ≡ Some ctor) × IsPlainSort d ctor.sort

-- so was the sort of the selector's constructor
abbrev pub IsPlainSel : Declarations → SelId → Type 0
IsPlainSel d s = (sel : Selector) × (slice_get d.sels s.0 ≡ Some sel) × IsPlainCtor d sel.ctor

-- the generic with this number
abbrev pub IsGenericHead : Declarations → GenId → Head → Type 0
IsGenericHead d g head = (slice_get d.declared.heads g.0 ≡ Some head) × (0 < head.params)

-- the number is that of a generic
abbrev pub IsGeneric : Declarations → GenId → Type 0
IsGeneric d g = (head : Head) × IsGenericHead d g head

-- the names of a constructor of a sort without parameters or of a generic, and of its fields
abbrev pub IsSpelled : Declarations → ℕ → ℕ → Spelling → Type 0
IsSpelled d h i ctor = (ctors : List Spelling) × (slice_get d.spellings h ≡ Some ctors) × (slice_get ctors i ≡ Some ctor)

-- the constructor of a generic, or its field, is there
abbrev pub IsGenericCtor : Declarations → GenId → ℕ → Spelling → Type 0
IsGenericCtor d g i ctor = IsGeneric d g × IsSpelled d g.0 i ctor

-- where these are declared, the name stands for this symbol, or for none
abbrev pub ResolvesTo : Declarations → List ℕ → Option Symbol → Type 0
ResolvesTo d name None = IsListed (symbol_names d) name → ⊥
ResolvesTo d name (Some (Ctor c)) = (slice_get (ctor_names d) c.0 ≡ Some name) × IsPlainCtor d c
ResolvesTo d name (Some (Sel s)) = (slice_get (sel_names d) s.0 ≡ Some name) × IsPlainSel d s
ResolvesTo d name (Some (Fun f)) = slice_get (function_names d) f.0 ≡ Some name
ResolvesTo d name (Some (Def f)) = slice_get (definition_names d) f.0 ≡ Some name
ResolvesTo d name (Some (GenCtor g i)) = (ctor : Spelling) × IsGenericCtor d g i ctor × (ctor.name ≡ name)
ResolvesTo d name (Some (GenSel g i k)) = (ctor : Spelling) × IsGenericCtor d g i ctor × (slice_get ctor.fields k ≡ Some name)

-- the symbol is declared
abbrev pub IsSymbol : Declarations → Symbol → Type 0
IsSymbol d (Ctor c) = IsConstructor d c
IsSymbol d (Sel s) = IsSelector d s
IsSymbol d (Fun f) = IsFunction d f
IsSymbol d (Def f) = IsDefinition d f
IsSymbol d (GenCtor g i) = (ctor : Spelling) × IsGenericCtor d g i ctor
IsSymbol d (GenSel g i k) = (ctor : Spelling) × IsGenericCtor d g i ctor × (k < length ctor.fields)

-- the symbol is declared, and is no constructor or selector of an instance: these have no names of their own
abbrev pub HasOwnName : Declarations → Symbol → Type 0
HasOwnName d (Ctor c) = IsPlainCtor d c
HasOwnName d (Sel s) = IsPlainSel d s
HasOwnName d (Fun f) = IsFunction d f
HasOwnName d (Def f) = IsDefinition d f
HasOwnName d (GenCtor g i) = IsSymbol d (GenCtor g i)
HasOwnName d (GenSel g i k) = IsSymbol d (GenSel g i k)

-- the name is that of this sort, which was declared without parameters
abbrev pub NamesSort : Declarations → List ℕ → SortId → Type 0
NamesSort d name s = (h : ℕ) × (head : Head) × IsOrigin d s (named h) × (slice_get d.declared.heads h ≡ Some head) × (head.name ≡ name)

-- no two indices have one name
abbrev pub AreDistinct : List (List ℕ) → Type 0
AreDistinct listed = (i j : ℕ) (name : List ℕ) → slice_get listed i ≡ Some name → slice_get listed j ≡ Some name → i ≡ j

-- the first index of the name
abbrev pub index_of : List (List ℕ) → List ℕ → Option ℕ
index_of listed name = position (bytes_eq name) listed

-- the names under which things are declared
abbrev pub names_of : {X : Type 0} → List (List ℕ × X) → List (List ℕ)
names_of entries = map (λ e. e.0) entries
