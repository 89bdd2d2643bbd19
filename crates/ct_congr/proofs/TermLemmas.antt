-- Terms of a table by their numbers.
use Rattle.std.proofs.Common.{◌≡◌, ℕ, zero, suc, ◌<◌, List, [], ◌∷◌, length, slice_get, Some, sym, ap, subst, ◌∙◌}
use Rattle.std.specs.List.{AllByRecursion}
use Rattle.std.proofs.lemmas.Option.{none-some, same_Some, slice_get_within}
use Rattle.ct_lemmas.proofs.Pairs.{AllZip-one_length}
use Rattle.ct_sorts.specs.declared.ids.CtorId.{CtorId}
use Rattle.ct_sorts.specs.Declarations.{Declarations, Constructor}
use Rattle.ct_terms.specs.declared.ids.TermId.{TermId}
use Rattle.ct_terms.specs.declared.term.Core.{Core}
use Rattle.ct_terms.specs.declared.term.Core.TheVariants.{Con}
use Rattle.ct_terms.specs.Terms.{Terms, Has, IsOfField, AreSorted}

-- one number has one term
pub Has-same : (terms : Terms) (a b : Core) (t : ℕ) → Has terms a t → Has terms b t → a ≡ b
Has-same terms a b t at_a at_b = ap (λ e. e.0) (same_Some (a, at_a.0) (b, at_b.0) (sym at_a.1 ∙ at_b.1))

-- a term of the table has a number below its length
pub Has-inside : (terms : Terms) (core : Core) (t : ℕ) → Has terms core t → t < length terms
Has-inside terms core t has = slice_get_within terms t (core, has.0) has.1

-- two constructor terms of one number are one
pub Has-constructor : (terms : Terms) (c k : CtorId) (xs ys : List TermId) (t : ℕ) → Has terms (Con c xs) t → Has terms (Con k ys) t → (c ≡ k) × (xs ≡ ys)
Has-constructor terms c k xs ys t p q = let e = Has-same terms (Con c xs) (Con k ys) t p q in (cc, cc)

-- a constructor term has as many arguments as the constructor has selectors
pub arity : (d : Declarations) (terms : Terms) (c : CtorId) (ctor : Constructor) (args : List TermId) (t : ℕ) → AreSorted d terms → slice_get d.ctors c.0 ≡ Some ctor → Has terms (Con c args) t → length args ≡ length ctor.sels
arity d terms c ctor args t sorted declared has =
    let built = sorted t (Con c args) has.0 has.1 in
    AllZip-one_length (IsOfField d terms) args built.ctor.sels built.fields
    ∙ ap (λ (k : Constructor). length k.sels) (same_Some built.ctor ctor (sym built.declared ∙ declared))

-- so two of one constructor have one number of arguments
pub one_arity : (d : Declarations) (terms : Terms) (c : CtorId) (xs ys : List TermId) (t u : ℕ) → AreSorted d terms → Has terms (Con c xs) t → Has terms (Con c ys) u → length xs ≡ length ys
one_arity d terms c xs ys t u sorted p q =
    let built = sorted u (Con c ys) q.0 q.1 in
    arity d terms c built.ctor xs t sorted built.declared p ∙ sym (arity d terms c built.ctor ys u sorted built.declared q)

-- an argument that stands at an index is below the bound that all are below
pub argument_below : (n : ℕ) (args : List TermId) (k : ℕ) (x : TermId) → AllByRecursion (λ t. t.0 < n) args → slice_get args k ≡ Some x → x.0 < n
argument_below n [] k x all at = absurd (none-some x at)
argument_below n (y ∷ ys) zero x all at = subst (λ (t : TermId). t.0 < n) (same_Some y x at) all.0
argument_below n (y ∷ ys) (suc k) x all at = argument_below n ys k x all.1 at
