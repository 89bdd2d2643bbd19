-- The rule of congruence: a map from terms over representatives to the first terms that have them.
use Rattle.std.proofs.Common.{◌≡◌, ℕ, ◌+◌, ◌<◌, List, length, sym, ap, subst, ◌∙◌, inl, inr, arith}
use Rattle.std.proofs.lemmas.Option.{same_Some}
use Rattle.ct_lemmas.proofs.Numbers.{same_or_other}
use Rattle.indexmap.specs.IndexMap.{IndexMap, get}
use Rattle.ct_terms.specs.declared.ids.TermId.{TermId}
use Rattle.ct_terms.specs.declared.term.Core.{Core}
use Rattle.ct_terms.specs.Terms.{Terms, Has}
use Rattle.ct_rules.specs.Rules.{IsCongruence}
use Rattle.ct_congr.specs.Partition.{InOneClass}
use Rattle.ct_congr.specs.Normal.{IsNormal}
use Rattle.ct_congr.specs.Index.{same_core, IsUnder, IsEntered}
use Rattle.ct_congr.specs.Rules.{IsCongruent}
use Rattle.ct_congr.proofs.ClassLemmas.{InOneClass-sym, InOneClass-trans}
use Rattle.ct_congr.proofs.TermLemmas.{Has-same, Has-inside}
use Rattle.ct_congr.proofs.NormalLemmas.{congruent_from_normal, normal_from_congruent}

-- the term is in the table, and over representatives it is the key
pub record IsKeyOf (terms : Terms) (reps : List TermId) (key : Core) (t : TermId) : Type 0 where
  pub core : Core
  pub has : Has terms core t.0
  pub normal : IsNormal reps core key

-- each entry is a term under its key
abbrev pub AreKeys : {S : Type 0} → Terms → List TermId → IndexMap Core TermId S → Type 0
AreKeys terms reps index = (k : Core) (u : TermId) → IsUnder index k u → IsKeyOf terms reps k u

-- the term is of one class with the one that is under its key
pub record IsListed {S : Type 0} (terms : Terms) (reps : List TermId) (index : IndexMap Core TermId S) (t : TermId) : Type 0 where
  pub key : Core
  pub first : TermId
  pub is : IsKeyOf terms reps key t
  pub under : IsUnder index key first
  pub equal : InOneClass reps t first

abbrev pub AreListed : {S : Type 0} → Terms → List TermId → IndexMap Core TermId S → ℕ → Type 0
AreListed terms reps index n = (t : TermId) → t.0 < n → IsListed terms reps index t

-- terms under one key are congruent
pub congruent : (terms : Terms) (reps : List TermId) (key : Core) (t u : TermId) → IsKeyOf terms reps key t → IsKeyOf terms reps key u → IsCongruence terms (InOneClass reps) t u
congruent terms reps key t u p q =
    let both = congruent_from_normal reps p.core q.core key p.normal q.normal in
    record { left = p.core; right = q.core; left_stands = p.has; right_stands = q.has; head = both.0; arguments = both.1 }

module _ {S : Type 0} (terms : Terms) (reps : List TermId) (index more : IndexMap Core TermId S) (key : Core) (t first : TermId) (is : IsKeyOf terms reps key t) (entered : IsEntered index more key t first) where
  pub AreKeys-more : AreKeys terms reps index → AreKeys terms reps more
  AreKeys-more old k u under = elim (entered.only k u under) [
    | inl had ↦ old k u had
    | inr new ↦ subst (λ (c : Core). IsKeyOf terms reps c u) (sym new.0) (subst (IsKeyOf terms reps key) (sym new.1) is)
  ]

  pub AreListed-more : AreListed terms reps index t.0 → InOneClass reps t first → AreListed terms reps more (t.0 + 1)
  AreListed-more old equal u below = elim (same_or_other u.0 t.0) [
    | inl e ↦
        let same : t ≡ u = λ i. record { 0 = sym e i } in
        subst (IsListed terms reps more) same (record { key = key; first = first; is = is; under = entered.under; equal = equal })
    | inr other ↦
        let had = old u (omega (arith, other, below)) in
        record { key = had.key; first = had.first; is = had.is; under = entered.stay had.key had.first had.under; equal = had.equal }
  ]

-- where all terms are listed, congruent ones are of one class
pub IsCongruent-listed : {S : Type 0} (terms : Terms) (reps : List TermId) (index : IndexMap Core TermId S) → AreListed terms reps index (length terms) → IsCongruent terms (InOneClass reps)
IsCongruent-listed terms reps index all x y rule =
    let p = all x (Has-inside terms rule.left x.0 rule.left_stands) in
    let q = all y (Has-inside terms rule.right y.0 rule.right_stands) in
    let left : p.is.core ≡ rule.left = Has-same terms p.is.core rule.left x.0 p.is.has rule.left_stands in
    let right : q.is.core ≡ rule.right = Has-same terms q.is.core rule.right y.0 q.is.has rule.right_stands in
    let normal_left : IsNormal reps rule.left p.key = subst (λ (c : Core). IsNormal reps c p.key) left p.is.normal in
    let normal_right : IsNormal reps rule.right q.key = subst (λ (c : Core). IsNormal reps c q.key) right q.is.normal in
    let one : p.key ≡ q.key = normal_from_congruent reps rule.left rule.right p.key q.key normal_left normal_right rule.head rule.arguments in
    let first : p.first ≡ q.first = same_Some p.first q.first (sym p.under ∙ ap (get same_core index) one ∙ q.under) in
    let back : InOneClass reps p.first y = subst (λ (t : TermId). InOneClass reps t y) (sym first) (InOneClass-sym reps y q.first q.equal) in
    InOneClass-trans reps x p.first y p.equal back
