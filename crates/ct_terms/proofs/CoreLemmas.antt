-- The derived test of two terms tells whether they are the same term.
use Rattle.std.proofs.Common.{◌≡◌, ℕ, Bool, ◌&&◌, nat_eq, List, Decides, sym, ap, true≢false}
use Rattle.std.proofs.lemmas.Bool.Decides.{Decides-and, Decides-eqb}
use Rattle.ct_terms.specs.Args.{same_id, same_ids}
use Rattle.ct_terms.specs.declared.ids.TermId.{TermId}
use Rattle.ct_terms.specs.declared.term.Core.{Core}
use Rattle.ct_terms.specs.declared.term.Core.TheVariants.{Con, Sel, Test, Apply, Eq, Not, And, Or, Iff, Ite}
use Rattle.ct_terms.specs.contracts.term.CorePartialEq.TheImpl as derived
use lib.Pointwise.{pointwise_decides}

-- the test that is derived
abbrev pub same_core : Core → Core → Bool
same_core = derived.eq-value.it

-- two numbers of terms are the same where the test says so
Decides-same_id : (s t : TermId) → Decides (same_id s t) (s ≡ t)
Decides-same_id s t =
    let d = Decides-eqb s.0 t.0 in
    let id : ℕ → TermId = λ n. record { 0 = n } in
    (λ h. ap id (d.0 h), λ e. d.1 (cc))

-- the same for lists of arguments
Decides-same_ids : (xs ys : List TermId) → Decides (same_ids xs ys) (xs ≡ ys)
Decides-same_ids = pointwise_decides Decides-same_id

-- two terms are the same exactly where the derived test says so
pub Decides-same_core : (a b : Core) → Decides (same_core a b) (a ≡ b)
Decides-same_core (Con c xs) (Con d ys) =
    let both = Decides-and (nat_eq c.0 d.0) (same_ids xs ys) (Decides-eqb c.0 d.0) (Decides-same_ids xs ys) in
    (λ h i. Con (record { 0 = (both.0 h).0 i }) ((both.0 h).1 i), λ e. both.1 (cc, cc))
Decides-same_core (Sel c s) (Sel d t) =
    let both = Decides-and (nat_eq c.0 d.0) (same_id s t) (Decides-eqb c.0 d.0) (Decides-same_id s t) in
    (λ h i. Sel (record { 0 = (both.0 h).0 i }) ((both.0 h).1 i), λ e. both.1 (cc, cc))
Decides-same_core (Test c s) (Test d t) =
    let both = Decides-and (nat_eq c.0 d.0) (same_id s t) (Decides-eqb c.0 d.0) (Decides-same_id s t) in
    (λ h i. Test (record { 0 = (both.0 h).0 i }) ((both.0 h).1 i), λ e. both.1 (cc, cc))
Decides-same_core (Apply f xs) (Apply g ys) =
    let both = Decides-and (nat_eq f.0 g.0) (same_ids xs ys) (Decides-eqb f.0 g.0) (Decides-same_ids xs ys) in
    (λ h i. Apply (record { 0 = (both.0 h).0 i }) ((both.0 h).1 i), λ e. both.1 (cc, cc))
Decides-same_core (Eq a b) (Eq x y) =
    let both = Decides-and (same_id a x) (same_id b y) (Decides-same_id a x) (Decides-same_id b y) in
    (λ h i. Eq ((both.0 h).0 i) ((both.0 h).1 i), λ e. both.1 (cc, cc))
Decides-same_core (Not s) (Not t) =
    let d = Decides-same_id s t in
    (λ h. ap Not (d.0 h), λ e. d.1 (cc))
Decides-same_core (And xs) (And ys) =
    let d = Decides-same_ids xs ys in
    (λ h. ap And (d.0 h), λ e. d.1 (cc))
Decides-same_core (Or xs) (Or ys) =
    let d = Decides-same_ids xs ys in
    (λ h. ap Or (d.0 h), λ e. d.1 (cc))
Decides-same_core (Iff a b) (Iff x y) =
    let both = Decides-and (same_id a x) (same_id b y) (Decides-same_id a x) (Decides-same_id b y) in
    (λ h i. Iff ((both.0 h).0 i) ((both.0 h).1 i), λ e. both.1 (cc, cc))
Decides-same_core (Ite c a b) (Ite z x y) =
    let both = Decides-and (same_id c z) (same_id a x && same_id b y) (Decides-same_id c z) (Decides-and (same_id a x) (same_id b y) (Decides-same_id a x) (Decides-same_id b y)) in
    (λ h i. Ite ((both.0 h).0 i) ((both.0 h).1.0 i) ((both.0 h).1.1 i), λ e. both.1 (cc, (cc, cc)))
Decides-same_core a b = (λ h. absurd (true≢false (sym h)), λ e. cc)
