-- Terms over representatives: two terms have one exactly where they are congruent.
use Rattle.std.proofs.Common.{◌≡◌, List, [], ◌∷◌, refl, sym, ap₂, ◌∙◌}
use Rattle.std.specs.List.{AllZip}
use Rattle.std.proofs.lemmas.Option.{same_Some}
use Rattle.ct_terms.specs.declared.ids.TermId.{TermId}
use Rattle.ct_terms.specs.declared.term.Core.{Core}
use Rattle.ct_terms.specs.declared.term.Core.TheVariants.{Con, Sel, Test, Apply, Eq, Not, And, Or, Iff, Ite}
use Rattle.ct_terms.specs.Children.{core_head, core_children}
use Rattle.ct_congr.specs.Partition.{InOneClass}
use Rattle.ct_congr.specs.Normal.{IsRepresented, IsNormal}

-- its head and its arguments determine a term
pub same_parts : (a b : Core) → core_head a ≡ core_head b → core_children a ≡ core_children b → a ≡ b
same_parts (Con c xs) (Con d ys) head args = cc
same_parts (Sel c s) (Sel d t) head args = cc
same_parts (Test c s) (Test d t) head args = cc
same_parts (Apply f xs) (Apply g ys) head args = cc
same_parts (Eq a b) (Eq x y) head args = cc
same_parts (Not s) (Not t) head args = cc
same_parts (And xs) (And ys) head args = cc
same_parts (Or xs) (Or ys) head args = cc
same_parts (Iff a b) (Iff x y) head args = cc
same_parts (Ite c a b) (Ite z x y) head args = cc
same_parts a b head args = cc

module _ (reps : List TermId) where
  -- terms with the same representatives are of one class, one for one
  one_class : (xs ys ks : List TermId) → AllZip (IsRepresented reps) xs ks → AllZip (IsRepresented reps) ys ks → AllZip (InOneClass reps) xs ys
  one_class [] [] [] p q = tt
  one_class [] (y ∷ ys) [] p q = absurd q
  one_class [] ys (k ∷ ks) p q = absurd p
  one_class (x ∷ xs) ys [] p q = absurd p
  one_class (x ∷ xs) [] (k ∷ ks) p q = absurd q
  one_class (x ∷ xs) (y ∷ ys) (k ∷ ks) p q = ((k, p.0, q.0), one_class xs ys ks p.1 q.1)

  -- and back
  same_representatives : (xs ys ks ms : List TermId) → AllZip (IsRepresented reps) xs ks → AllZip (IsRepresented reps) ys ms → AllZip (InOneClass reps) xs ys → ks ≡ ms
  same_representatives [] [] [] [] p q h = refl
  same_representatives [] [] [] (m ∷ ms) p q h = absurd q
  same_representatives [] [] (k ∷ ks) ms p q h = absurd p
  same_representatives [] (y ∷ ys) ks ms p q h = absurd h
  same_representatives (x ∷ xs) [] ks ms p q h = absurd h
  same_representatives (x ∷ xs) (y ∷ ys) [] ms p q h = absurd p
  same_representatives (x ∷ xs) (y ∷ ys) (k ∷ ks) [] p q h = absurd q
  same_representatives (x ∷ xs) (y ∷ ys) (k ∷ ks) (m ∷ ms) p q h =
      let first : k ≡ m = same_Some k m (sym p.0 ∙ h.0.1 ∙ sym h.0.2 ∙ q.0) in
      let rest = same_representatives xs ys ks ms p.1 q.1 h.1 in
      ap₂ (λ (z : TermId) (zs : List TermId). z ∷ zs) first rest

  pub congruent_from_normal : (a b key : Core) → IsNormal reps a key → IsNormal reps b key → (core_head a ≡ core_head b) × AllZip (InOneClass reps) (core_children a) (core_children b)
  congruent_from_normal a b key p q = (p.head ∙ sym q.head, one_class (core_children a) (core_children b) (core_children key) p.arguments q.arguments)

  pub normal_from_congruent : (a b key other : Core) → IsNormal reps a key → IsNormal reps b other → core_head a ≡ core_head b → AllZip (InOneClass reps) (core_children a) (core_children b) → key ≡ other
  normal_from_congruent a b key other p q head arguments =
      same_parts key other (sym p.head ∙ head ∙ q.head) (same_representatives (core_children a) (core_children b) (core_children key) (core_children other) p.arguments q.arguments arguments)
