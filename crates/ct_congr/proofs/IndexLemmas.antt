-- Maps from terms over representatives to terms of the table: their test tells terms apart, and what one more entry keeps.
use Rattle.std.proofs.Common.{◌≡◌, ℕ, ◌⊎◌, Bool, true, false, cond, ◌&&◌, nat_eq, List, Some, None, Decides, refl, sym, ap, ◌∙◌, inl, inr, true≢false}
use Rattle.std.proofs.lemmas.Bool.Decides.{Decides-and, Decides-eqb}
use Rattle.std.proofs.lemmas.Option.{none-some, same_Some}
use lib.Pointwise.{pointwise_decides}
use Rattle.indexmap.specs.IndexMap.{IndexMap, get}
use Rattle.ct_terms.specs.Args.{same_id, same_ids}
use Rattle.ct_terms.specs.declared.ids.TermId.{TermId}
use Rattle.ct_terms.specs.declared.term.Core.{Core}
use Rattle.ct_terms.specs.declared.term.Core.TheVariants.{Con, Sel, Test, Apply, Eq, Not, And, Or, Iff, Ite}
use Rattle.ct_congr.specs.Index.{same_core, IsUnder, IsEntered}

-- two numbers of terms are the same where the test says so
Decides-same_id : (s t : TermId) → Decides (same_id s t) (s ≡ t)
Decides-same_id s t =
    let d = Decides-eqb s.0 t.0 in
    let id : ℕ → TermId = λ n. record { 0 = n } in
    (λ h. ap id (d.0 h), λ e. d.1 (cc))

-- the same for lists of arguments
Decides-same_ids : (xs ys : List TermId) → Decides (same_ids xs ys) (xs ≡ ys)
Decides-same_ids = pointwise_decides Decides-same_id

-- two terms are the same exactly where the derived test says so
Decides-same_core : (a b : Core) → Decides (same_core a b) (a ≡ b)
Decides-same_core (Con c xs) (Con d ys) =
    let both = Decides-and (nat_eq c.0 d.0) (same_ids xs ys) (Decides-eqb c.0 d.0) (Decides-same_ids xs ys) in
    (λ h i. Con (record { 0 = (both.0 h).0 i }) ((both.0 h).1 i), λ e. both.1 (cc, cc))
Decides-same_core (Sel c s) (Sel d t) =
    let both = Decides-and (nat_eq c.0 d.0) (same_id s t) (Decides-eqb c.0 d.0) (Decides-same_id s t) in
    (λ h i. Sel (record { 0 = (both.0 h).0 i }) ((both.0 h).1 i), λ e. both.1 (cc, cc))
Decides-same_core (Test c s) (Test d t) =
    let both = Decides-and (nat_eq c.0 d.0) (same_id s t) (Decides-eqb c.0 d.0) (Decides-same_id s t) in
    (λ h i. Test (record { 0 = (both.0 h).0 i }) ((both.0 h).1 i), λ e. both.1 (cc, cc))
Decides-same_core (Apply f xs) (Apply g ys) =
    let both = Decides-and (nat_eq f.0 g.0) (same_ids xs ys) (Decides-eqb f.0 g.0) (Decides-same_ids xs ys) in
    (λ h i. Apply (record { 0 = (both.0 h).0 i }) ((both.0 h).1 i), λ e. both.1 (cc, cc))
Decides-same_core (Eq a b) (Eq x y) =
    let both = Decides-and (same_id a x) (same_id b y) (Decides-same_id a x) (Decides-same_id b y) in
    (λ h i. Eq ((both.0 h).0 i) ((both.0 h).1 i), λ e. both.1 (cc, cc))
Decides-same_core (Not s) (Not t) =
    let d = Decides-same_id s t in
    (λ h. ap Not (d.0 h), λ e. d.1 (cc))
Decides-same_core (And xs) (And ys) =
    let d = Decides-same_ids xs ys in
    (λ h. ap And (d.0 h), λ e. d.1 (cc))
Decides-same_core (Or xs) (Or ys) =
    let d = Decides-same_ids xs ys in
    (λ h. ap Or (d.0 h), λ e. d.1 (cc))
Decides-same_core (Iff a b) (Iff x y) =
    let both = Decides-and (same_id a x) (same_id b y) (Decides-same_id a x) (Decides-same_id b y) in
    (λ h i. Iff ((both.0 h).0 i) ((both.0 h).1 i), λ e. both.1 (cc, cc))
Decides-same_core (Ite c a b) (Ite z x y) =
    let both = Decides-and (same_id c z) (same_id a x && same_id b y) (Decides-same_id c z) (Decides-and (same_id a x) (same_id b y) (Decides-same_id a x) (Decides-same_id b y)) in
    (λ h i. Ite ((both.0 h).0 i) ((both.0 h).1.0 i) ((both.0 h).1.1 i), λ e. both.1 (cc, (cc, cc)))
Decides-same_core a b = (λ h. absurd (true≢false (sym h)), λ e. cc)

module _ {S : Type 0} (index more : IndexMap Core TermId S) (key : Core) (t : TermId) (writes : (k : Core) → get same_core more k ≡ cond (same_core key k) (Some t) (get same_core index k)) (absent : get same_core index key ≡ None) where
  stay : (k : Core) (u : TermId) → IsUnder index k u → IsUnder more k u
  stay k u had = writes k ∙ at (same_core key k) refl
    where
      at : (b : Bool) → same_core key k ≡ b → cond b (Some t) (get same_core index k) ≡ Some u
      at true e =
          let is : key ≡ k = (Decides-same_core key k).0 e in
          absurd (none-some u (sym absent ∙ ap (get same_core index) is ∙ had))
      at false e = had

  only : (k : Core) (u : TermId) → IsUnder more k u → IsUnder index k u ⊎ ((k ≡ key) × (u ≡ t))
  only k u has = at (same_core key k) refl (sym (writes k) ∙ has)
    where
      at : (b : Bool) → same_core key k ≡ b → cond b (Some t) (get same_core index k) ≡ Some u → IsUnder index k u ⊎ ((k ≡ key) × (u ≡ t))
      at true e now = inr (sym ((Decides-same_core key k).0 e), same_Some u t (sym now))
      at false e now = inl now

  -- a new entry
  pub IsEntered-new : IsEntered index more key t t
  IsEntered-new = record {
    under = writes key ∙ ap (λ b. cond b (Some t) (get same_core index key)) ((Decides-same_core key key).1 refl);
    first = inr refl;
    stay = stay;
    only = only;
  }

-- an entry that was there
pub IsEntered-old : {S : Type 0} (index : IndexMap Core TermId S) (key : Core) (t u : TermId) → IsUnder index key u → IsEntered index index key t u
IsEntered-old index key t u under = record {
  under = under;
  first = inl under;
  stay = λ k v had. had;
  only = λ k v has. inl has;
}
