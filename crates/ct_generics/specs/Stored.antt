-- What is stored of sorts, generics and synonyms.
use Rattle.std.specs.Prelude.{◌≡◌, ℕ, List, [], ◌∷◌, ◌++◌, length, map, take, Some, slice_get}
use Rattle.std.specs.List.{AllZip}
use Rattle.ct_generics.specs.declared.heads.StoredHead.{StoredHead}
use Rattle.ct_generics.specs.declared.heads.StoredSynonym.{StoredSynonym}
use Rattle.ct_generics.specs.declared.generics.Generics.{Generics}
use Rattle.ct_generics.specs.declared.place.Place.{Place}
use Rattle.ct_generics.specs.declared.place.Place.TheVariants.{Head as OfHead, Synonym as OfSynonym}
use Rattle.ct_generics.specs.Declarations.{Declared, Head, Synonym}
use Rattle.ct_generics.specs.Names.{IsListed}
use Rattle.ct_generics.specs.Nodes.{Stands, StandFor}
use Rattle.ct_generics.specs.Resolved.{Meaning, a_head, a_synonym}

-- the stored sort or generic is this one
pub record IsStored (stored : StoredHead) (head : Head) : Type 0 where
  pub name_is : head.name ≡ stored.name
  pub kind_is : head.kind ≡ stored.kind
  pub params_are : head.params ≡ stored.params
  pub fields : AllZip (StandFor stored.template) stored.ctors head.ctors

-- the stored sorts and generics are these, one for one
abbrev pub AreStored : List StoredHead → List Head → Type 0
AreStored = AllZip IsStored

-- the stored synonym is this one
pub record IsStoredSynonym (stored : StoredSynonym) (synonym : Synonym) : Type 0 where
  pub name_is : synonym.name ≡ stored.name
  pub params_are : synonym.params ≡ stored.params
  pub stands : Stands stored.template stored.body.0 synonym.body

-- these are declared
pub record AreDeclared (g : Generics) (d : Declared) : Type 0 where
  pub stored : AreStored g.heads d.heads
  pub names_are : g.head_names ≡ map (λ (head : Head). head.name) d.heads
  pub stored_synonyms : AllZip IsStoredSynonym g.synonyms d.synonyms
  pub synonym_names_are : g.synonym_names ≡ map (λ (s : Synonym). s.name) d.synonyms

-- what was found under a name is this
abbrev pub IsFound : Generics → Place → Meaning → Type 0
IsFound g (OfHead h params) m = m ≡ a_head h.0 params
IsFound g (OfSynonym i params) m = (stored : StoredSynonym) × (s : Synonym) × (slice_get g.synonyms i ≡ Some stored) × IsStoredSynonym stored s × (m ≡ a_synonym s) × (params ≡ s.params)

-- each of these names is new where it is declared after those before it
abbrev pub AreFree : List (List ℕ) → List (List ℕ) → Type 0
AreFree names [] = Unit {0}
AreFree names (name ∷ rest) = (IsListed names name → ⊥) × AreFree (names ++ name ∷ []) rest

-- what was declared first is declared still
pub record IsBegun (old new : Generics) : Type 0 where
  pub heads_begin : take (length old.heads) new.heads ≡ old.heads
  pub names_begin : take (length old.head_names) new.head_names ≡ old.head_names
  pub synonyms_stay : new.synonyms ≡ old.synonyms
  pub synonym_names_stay : new.synonym_names ≡ old.synonym_names
