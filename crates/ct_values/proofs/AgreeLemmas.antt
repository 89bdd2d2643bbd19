-- Agreement: an equivalence at each depth that falls with the depth, and what it says of heads and children.
use Rattle.std.proofs.Common.{◌≡◌, ℕ, zero, suc, Bool, true, false, ◌↔◌, IsTrue, List, [], ◌∷◌, Option, Some, None, Decides, nat_eq, refl, sym, ap, ◌∙◌, true≢false}
use Rattle.std.specs.List.{AllZip}
use Rattle.std.specs.Option.{option_eq}
use Rattle.std.specs.Cmp.{IsEquivalence, decided}
use Rattle.std.specs.Cmp.Lexicographic.{pointwise, options_equiv}
use Rattle.std.proofs.lemmas.Cmp.{and_equiv, on_equiv, lists_equiv}
use Rattle.std.proofs.lemmas.Option.{none-some, same_Some}
use Rattle.std.proofs.lemmas.Bool.Decides.{Decides-and, Decides-eqb}
use Rattle.ct_lemmas.proofs.Booleans.{both_parts, both_true}
use Rattle.ct_values.specs.declared.node.Head.{Head}
use Rattle.ct_values.specs.declared.node.Head.TheVariants.{Con, Elem}
use Rattle.ct_values.specs.Agreement.{Point, head, children, same_head, agree, AgreeAlways}

-- the test of heads tells whether they are equal
Decides-same_head : (a b : Head) → Decides (same_head a b) (a ≡ b)
Decides-same_head (Con c) (Con d) =
    let e = Decides-eqb c.0 d.0 in
    (λ h i. Con (record { 0 = e.0 h i }), λ p. e.1 (cc))
Decides-same_head (Con c) (Elem s n) = (λ h. absurd (true≢false (sym h)), λ e. cc)
Decides-same_head (Elem s n) (Con c) = (λ h. absurd (true≢false (sym h)), λ e. cc)
Decides-same_head (Elem s m) (Elem t n) =
    let all = Decides-and (nat_eq s.0 t.0) (nat_eq m n) (Decides-eqb s.0 t.0) (Decides-eqb m n) in
    (λ h i. Elem (record { 0 = (all.0 h).0 i }) ((all.0 h).1 i), λ e. all.1 (cc, cc))

-- the same where there may be none
pub Decides-heads : (a b : Option Head) → Decides (option_eq same_head a b) (a ≡ b)
Decides-heads None None = (λ h. refl, λ e. refl)
Decides-heads None (Some b) = (λ h. absurd (true≢false (sym h)), λ e. absurd (none-some b e))
Decides-heads (Some a) None = (λ h. absurd (true≢false (sym h)), λ e. absurd (none-some a (sym e)))
Decides-heads (Some a) (Some b) =
    let d = Decides-same_head a b in
    (λ h. ap Some (d.0 h), λ e. d.1 (same_Some a b e))

-- agreement to one depth is an equivalence
pub agree_equiv : (k : ℕ) → IsEquivalence (agree k)
unfolding agree
agree_equiv zero = record { refl = λ p. refl; symm = λ p q. refl; congr = λ p q r e. refl }
agree_equiv (suc k) =
    and_equiv (on_equiv head (options_equiv (decided same_head Decides-same_head))) (on_equiv children (lists_equiv (agree_equiv k)))

-- a test that passes where another does passes at each index where the other does
pub pointwise-weaken : (E F : Point → Point → Bool) → ((p q : Point) → E p q ≡ true → F p q ≡ true) → (ps qs : List Point) → pointwise E ps qs ≡ true → pointwise F ps qs ≡ true
pointwise-weaken E F weaker [] [] h = h
pointwise-weaken E F weaker [] (q ∷ qs) h = h
pointwise-weaken E F weaker (p ∷ ps) [] h = h
pointwise-weaken E F weaker (p ∷ ps) (q ∷ qs) h =
    let parts = both_parts (E p q) (pointwise E ps qs) h in
    both_true (F p q) (pointwise F ps qs) (weaker p q parts.0) (pointwise-weaken E F weaker ps qs parts.1)

-- agreement falls with the depth
pub agree-falls : (k : ℕ) (p q : Point) → agree (suc k) p q ≡ true → agree k p q ≡ true
unfolding agree
agree-falls zero p q h = refl
agree-falls (suc k) p q h =
    let parts = both_parts (option_eq same_head (head p) (head q)) (pointwise (agree (suc k)) (children p) (children q)) h in
    both_true
    (option_eq same_head (head p) (head q))
    (pointwise (agree k) (children p) (children q))
    parts.0
    (pointwise-weaken (agree (suc k)) (agree k) (agree-falls k) (children p) (children q) parts.1)

-- a test of two lists at each index holds where their elements are paired by it
pub Decides-paired : (E : Point → Point → Bool) (ps qs : List Point) → Decides (pointwise E ps qs) (AllZip (λ p q. IsTrue (E p q)) ps qs)
Decides-paired E [] [] = (λ h. tt, λ e. refl)
Decides-paired E [] (q ∷ qs) = (λ h. absurd (true≢false (sym h)), λ e. absurd e)
Decides-paired E (p ∷ ps) [] = (λ h. absurd (true≢false (sym h)), λ e. absurd e)
Decides-paired E (p ∷ ps) (q ∷ qs) =
    let rest = Decides-paired E ps qs in (
      λ h. let parts = both_parts (E p q) (pointwise E ps qs) h in (parts.0, rest.0 parts.1),
      λ e. both_true (E p q) (pointwise E ps qs) e.0 (rest.1 e.1),
    )

-- all points agree to depth 0
pub agree-zero : (p q : Point) → IsTrue (agree 0 p q)
unfolding agree
agree-zero p q = refl

-- agreement to a greater depth is that of heads and children
pub agree-suc : (k : ℕ) (p q : Point) → IsTrue (agree (suc k) p q) ↔ ((head p ≡ head q) × AllZip (λ x y. IsTrue (agree k x y)) (children p) (children q))
unfolding agree
agree-suc k p q = Decides-and (option_eq same_head (head p) (head q)) (pointwise (agree k) (children p) (children q)) (Decides-heads (head p) (head q)) (Decides-paired (agree k) (children p) (children q))

-- a relation that holds where another does pairs the lists that the other pairs
pub AllZip-weaken : (R S : Point → Point → Type 0) → ((p q : Point) → R p q → S p q) → (ps qs : List Point) → AllZip R ps qs → AllZip S ps qs
AllZip-weaken R S weaker [] [] h = h
AllZip-weaken R S weaker [] (q ∷ qs) h = h
AllZip-weaken R S weaker (p ∷ ps) [] h = h
AllZip-weaken R S weaker (p ∷ ps) (q ∷ qs) h = (weaker p q h.0, AllZip-weaken R S weaker ps qs h.1)

-- lists that are paired at every depth are paired by agreement at every depth
AllZip-always : (ps qs : List Point) → ((k : ℕ) → AllZip (λ x y. IsTrue (agree k x y)) ps qs) → AllZip AgreeAlways ps qs
AllZip-always [] [] h = tt
AllZip-always [] (q ∷ qs) h = h 0
AllZip-always (p ∷ ps) [] h = h 0
AllZip-always (p ∷ ps) (q ∷ qs) h = (λ k. (h k).0, AllZip-always ps qs (λ k. (h k).1))

-- agreement at every depth is that of heads and children
pub AgreeAlways-parts : (p q : Point) → AgreeAlways p q ↔ ((head p ≡ head q) × AllZip AgreeAlways (children p) (children q))
AgreeAlways-parts p q = (
  λ h. (((agree-suc 0 p q).0 (h 1)).0, AllZip-always (children p) (children q) (λ k. ((agree-suc k p q).0 (h (suc k))).1)),
  λ parts k. at k parts,
)
  where
    at : (k : ℕ) → (head p ≡ head q) × AllZip AgreeAlways (children p) (children q) → IsTrue (agree k p q)
    at zero parts = agree-zero p q
    at (suc k) parts = (agree-suc k p q).1 (parts.0, AllZip-weaken AgreeAlways (λ x y. IsTrue (agree k x y)) (λ x y h. h k) (children p) (children q) parts.1)

-- agreement to one depth, chained and turned
pub agree-trans : (k : ℕ) (p q r : Point) → IsTrue (agree k p q) → IsTrue (agree k q r) → IsTrue (agree k p r)
agree-trans k p q r h g = (agree_equiv k).congr p q r h ∙ g

pub agree-sym : (k : ℕ) (p q : Point) → IsTrue (agree k p q) → IsTrue (agree k q p)
agree-sym k p q h = (agree_equiv k).symm q p ∙ h

-- agreement at every depth is an equivalence
pub AgreeAlways-refl : (p : Point) → AgreeAlways p p
AgreeAlways-refl p k = (agree_equiv k).refl p

pub AgreeAlways-sym : (p q : Point) → AgreeAlways p q → AgreeAlways q p
AgreeAlways-sym p q h k = agree-sym k p q (h k)

pub AgreeAlways-trans : (p q r : Point) → AgreeAlways p q → AgreeAlways q r → AgreeAlways p r
AgreeAlways-trans p q r first second k = agree-trans k p q r (first k) (second k)

-- two points that agree with a third at every depth do so with each other
pub AgreeAlways-meet : (p q r : Point) → AgreeAlways p r → AgreeAlways q r → AgreeAlways p q
AgreeAlways-meet p q r first second = AgreeAlways-trans p r q first (AgreeAlways-sym q r second)

-- points that agree at every depth with others do so with each other just where the others do
pub AgreeAlways-across : (p q r s : Point) → AgreeAlways p r → AgreeAlways q s → AgreeAlways p q ↔ AgreeAlways r s
AgreeAlways-across p q r s first second = (
  λ h k. agree-trans k r p s (agree-sym k p r (first k)) (agree-trans k p q s (h k) (second k)),
  λ h k. agree-trans k p r q (first k) (agree-trans k r s q (h k) (agree-sym k q s (second k))),
)
