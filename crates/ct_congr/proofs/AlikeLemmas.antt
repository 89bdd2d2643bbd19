-- Terms that are alike, as they are compared.
use Rattle.std.proofs.Common.{◌≡◌, ℕ, ◌<◌, Bool, true≢false, Decides, List, [], ◌∷◌, length, refl, sym, ap, ◌∙◌}
use Rattle.std.specs.List.{AllZip, AllByRecursion}
use Rattle.std.proofs.lemmas.Bool.Decides.{Decides-eqb}
use Rattle.ct_terms.specs.declared.ids.TermId.{TermId}
use Rattle.ct_terms.specs.declared.term.Core.{Core}
use Rattle.ct_terms.specs.Children.{CoreHead, con_head, sel_head, test_head, apply_head, eq_head, not_head, and_head, or_head, iff_head, ite_head, core_head, core_children}
use Rattle.ct_congr.specs.declared.alike.Head.{Head}
use Rattle.ct_congr.specs.declared.alike.Head.TheVariants.{Con, Sel, Test, Apply, Eq, Not, And, Or, Iff, Ite}
use Rattle.ct_congr.specs.contracts.alike.HeadPartialEq.TheImpl as derived
use Rattle.ct_congr.specs.Heads.{head_of}
use Rattle.ct_congr.specs.Partition.{InOneClass}
use Rattle.ct_congr.specs.Covered.{IsAlike}
use Rattle.ct_congr.proofs.ClassLemmas.{InOneClass-refl}

-- a term is like itself
pub pairs_refl : (reps xs : List TermId) → AllByRecursion (λ x. x.0 < length reps) xs → AllZip (InOneClass reps) xs xs
pairs_refl reps [] within = tt
pairs_refl reps (x ∷ xs) within = (InOneClass-refl reps x within.0, pairs_refl reps xs within.1)

pub IsAlike-refl : (reps : List TermId) (core : Core) → AllByRecursion (λ x. x.0 < length reps) (core_children core) → IsAlike reps core core
IsAlike-refl reps core within = record { head = refl; arguments = pairs_refl reps (core_children core) within }

-- a head is told by its value
back : Head → CoreHead
back (Con c) = con_head c
back (Sel s) = sel_head s
back (Test c) = test_head c
back (Apply f) = apply_head f
back Eq = eq_head
back Not = not_head
back And = and_head
back Or = or_head
back Iff = iff_head
back Ite = ite_head

back-of : (h : CoreHead) → back (head_of h) ≡ h
unfolding back
back-of (con_head c) = refl
back-of (sel_head s) = refl
back-of (test_head c) = refl
back-of (apply_head f) = refl
back-of eq_head = refl
back-of not_head = refl
back-of and_head = refl
back-of or_head = refl
back-of iff_head = refl
back-of ite_head = refl

pub head_of-one : (h k : CoreHead) → head_of h ≡ head_of k → h ≡ k
head_of-one h k e = sym (back-of h) ∙ ap back e ∙ back-of k

-- the test of two heads that is derived
abbrev pub same_head : Head → Head → Bool
same_head = derived.eq-value.it

pub Decides-same_head : (a b : Head) → Decides (same_head a b) (a ≡ b)
Decides-same_head (Con c) (Con d) = let e = Decides-eqb c.0 d.0 in (λ h i. Con (record { 0 = e.0 h i }), λ p. e.1 (cc))
Decides-same_head (Sel c) (Sel d) = let e = Decides-eqb c.0 d.0 in (λ h i. Sel (record { 0 = e.0 h i }), λ p. e.1 (cc))
Decides-same_head (Test c) (Test d) = let e = Decides-eqb c.0 d.0 in (λ h i. Test (record { 0 = e.0 h i }), λ p. e.1 (cc))
Decides-same_head (Apply c) (Apply d) = let e = Decides-eqb c.0 d.0 in (λ h i. Apply (record { 0 = e.0 h i }), λ p. e.1 (cc))
Decides-same_head Eq Eq = (λ h. refl, λ p. refl)
Decides-same_head Not Not = (λ h. refl, λ p. refl)
Decides-same_head And And = (λ h. refl, λ p. refl)
Decides-same_head Or Or = (λ h. refl, λ p. refl)
Decides-same_head Iff Iff = (λ h. refl, λ p. refl)
Decides-same_head Ite Ite = (λ h. refl, λ p. refl)
Decides-same_head a b = (λ h. absurd (true≢false (sym h)), λ e. cc)
