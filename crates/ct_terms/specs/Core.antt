-- What is hashed of a term.
use Rattle.std.specs.Prelude.{◌≡◌, ℕ, ◌+◌, ◌*◌, ◌&&◌, Bool, true, false, IsTrue}
use Rattle.std.proofs.Common.{refl, sym, ap, true≢false}
use Rattle.std.proofs.lemmas.Bool.Decides.{Decides-eqb}
use Rattle.std.specs.Hash as fed
use Rattle.std.specs.Hash.{HashWrites}
use Rattle.ct_terms.specs.Args.{same_id, same_ids_decides, mix, digest_from}
use Rattle.ct_terms.specs.contracts.term.CorePartialEq.TheImpl as derived
use Rattle.ct_terms.specs.declared.ids.TermId.{TermId}
use Rattle.ct_terms.specs.declared.term.Core.{Core}
use Rattle.ct_terms.specs.declared.term.Core.TheVariants.{Con, Sel, Test, Apply, Eq, Not, And, Or, Iff, Ite}

-- the kind of a term with its symbol, as one number
abbrev pub head : ℕ → ℕ → ℕ
head kind symbol = symbol * 16 + kind

-- a term as one number: its kind and symbol with its arguments mixed in
abbrev pub core_digest : Core → ℕ
core_digest (Con c args) = digest_from (head 0 c.0) args
core_digest (Sel s t) = mix (head 1 s.0) t.0
core_digest (Test c t) = mix (head 2 c.0) t.0
core_digest (Apply f args) = digest_from (head 3 f.0) args
core_digest (Eq a b) = mix (mix 4 a.0) b.0
core_digest (Not t) = mix 5 t.0
core_digest (And args) = digest_from 6 args
core_digest (Or args) = digest_from 7 args
core_digest (Iff a b) = mix (mix 8 a.0) b.0
core_digest (Ite c a b) = mix (mix (mix 9 c.0) a.0) b.0

-- what is hashed of a term
abbrev pub hashed_core : Core → HashWrites
hashed_core core = fed.u64 (core_digest core)

-- the test that is derived
abbrev pub same_core : Core → Core → Bool
same_core = derived.eq-value.it

-- what a conjunction of two tests says
both : (x y : Bool) → IsTrue (x && y) → IsTrue x × IsTrue y
both true y h = (refl, h)
both false y h = absurd (true≢false (sym h))

-- terms with one number are one
one_id : (s t : TermId) → IsTrue (same_id s t) → s ≡ t
one_id s t h i = record { 0 = (Decides-eqb s.0 t.0).0 h i }

-- terms that the test holds of are one
same_core_decides : (a b : Core) → IsTrue (same_core a b) → a ≡ b
same_core_decides (Con c xs) (Con d ys) h = λ i. Con (record { 0 = (Decides-eqb c.0 d.0).0 (both _ _ h).0 i }) (same_ids_decides xs ys (both _ _ h).1 i)
same_core_decides (Sel c s) (Sel d t) h = λ i. Sel (record { 0 = (Decides-eqb c.0 d.0).0 (both _ _ h).0 i }) (one_id s t (both _ _ h).1 i)
same_core_decides (Test c s) (Test d t) h = λ i. Test (record { 0 = (Decides-eqb c.0 d.0).0 (both _ _ h).0 i }) (one_id s t (both _ _ h).1 i)
same_core_decides (Apply f xs) (Apply g ys) h = λ i. Apply (record { 0 = (Decides-eqb f.0 g.0).0 (both _ _ h).0 i }) (same_ids_decides xs ys (both _ _ h).1 i)
same_core_decides (Eq a b) (Eq x y) h = λ i. Eq (one_id a x (both _ _ h).0 i) (one_id b y (both _ _ h).1 i)
same_core_decides (Not s) (Not t) h = ap Not (one_id s t h)
same_core_decides (And xs) (And ys) h = ap And (same_ids_decides xs ys h)
same_core_decides (Or xs) (Or ys) h = ap Or (same_ids_decides xs ys h)
same_core_decides (Iff a b) (Iff x y) h = λ i. Iff (one_id a x (both _ _ h).0 i) (one_id b y (both _ _ h).1 i)
same_core_decides (Ite c a b) (Ite z x y) h = λ i. Ite (one_id c z (both _ _ h).0 i) (one_id a x (both _ _ (both _ _ h).1).0 i) (one_id b y (both _ _ (both _ _ h).1).1 i)
same_core_decides a b h = absurd (true≢false (sym h))

-- terms that the test holds of are hashed alike
pub hashed_core_alike : (a b : Core) → IsTrue (same_core a b) → hashed_core a ≡ hashed_core b
hashed_core_alike a b same = ap hashed_core (same_core_decides a b same)
