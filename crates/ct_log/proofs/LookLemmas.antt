-- What looks at terms tell: one number has one term, so what a rule speaks of is what was found.
use Rattle.std.proofs.Common.{◌≡◌, ℕ, zero, suc, ◌+◌, ◌<◌, ◌↔◌, Bool, true, false, not, nat_eq, List, length, drop, get_or, Some, None, slice_get, IsTrue, refl, sym, ap, subst, ◌∙◌, arith, true≢false}
use Rattle.std.proofs.lemmas.Option.{none-some, same_Some}
use Rattle.std.proofs.lemmas.Bool.Decides.{Decides-eqb}
use Rattle.std.proofs.lemmas.List.{drop_all}
use Rattle.ct_lemmas.proofs.Prefixes.{drop-next}
use Rattle.ct_sorts.specs.declared.ids.CtorId.{CtorId}
use Rattle.ct_sorts.specs.Declarations.{Declarations}
use Rattle.ct_terms.specs.declared.ids.TermId.{TermId}
use Rattle.ct_terms.specs.declared.term.Core.TheVariants as core
use Rattle.ct_terms.specs.Terms.{Terms, Has}
use Rattle.ct_rules.specs.declared.equation.Equation.{Equation}
use Rattle.ct_rules.specs.Cycle.{LeadsTo, IsOfDatatype}
use Rattle.ct_log.specs.declared.rules.Hop.{Hop}
use Rattle.ct_log.specs.Equations.{Gave, equation}
use Rattle.ct_log.specs.Closing.{IsClash, LeadBackBy}
use Rattle.ct_log.specs.Look.{IsBuiltBy, HasArgument, AreApart}
use Rattle.ct_log.proofs.GateLemmas.{Has-same}

-- a relation that holds of nothing is that of no answer
pub none_gives : (P : Type 0) (e : Equation) → (P → ⊥) → P ↔ (None ≡ Some e)
none_gives P e never = (λ p. absurd (never p), λ h. absurd (none-some e h))

-- a relation that holds of these two terms alone is that of this answer
pub some_gives : (P : TermId → TermId → Type 0) (a b : TermId) → P a b → ((x y : TermId) → P x y → (a ≡ x) × (b ≡ y)) → (x y : TermId) → P x y ↔ (Some (equation a b) ≡ Some (equation x y))
some_gives P a b here each x y = (
  λ p. let s = each x y p in ap (λ (t : TermId). Some (equation t b)) s.0 ∙ ap (λ (t : TermId). Some (equation x t)) s.1,
  λ h.
      let same : equation a b ≡ equation x y = same_Some (equation a b) (equation x y) h in
      subst (λ (e : Equation). P e.left e.right) same here,
)

-- what is not true is false
pub not_told : (r : Bool) (P : Type 0) → (IsTrue r ↔ P) → r ≡ false → P → ⊥
not_told r P told failed p = true≢false (sym (told.1 p) ∙ failed)

-- a number that the test tells apart from 0 is above it
pub above_zero : (n : ℕ) → nat_eq n 0 ≡ false → 0 < n
above_zero zero e = absurd (true≢false e)
above_zero (suc n) e = omega arith

-- two terms that the test does not tell apart are one, and others are not
pub same_id : (t u : TermId) → not (nat_eq t.0 u.0) ≡ false → t ≡ u
same_id t u told = by (nat_eq t.0 u.0) refl told
  where
    of : ℕ → TermId
    of n = record { 0 = n }

    by : (b : Bool) → nat_eq t.0 u.0 ≡ b → not b ≡ false → t ≡ u
    by true e h = ap of ((Decides-eqb t.0 u.0).0 e)
    by false e h = absurd (true≢false h)

pub other_id : (t u : TermId) → not (nat_eq t.0 u.0) ≡ true → t ≡ u → ⊥
other_id t u told same = true≢false (sym told ∙ ap not ((Decides-eqb t.0 u.0).1 (ap (λ (s : TermId). s.0) same)))

-- a step gave one equation
pub Gave-one : (given : List Equation) (step : ℕ) (e : Equation) (x y : TermId) → slice_get given step ≡ Some e → Gave given step x y → e ≡ equation x y
Gave-one given step e x y at gave = same_Some e (equation x y) (sym at ∙ gave)

-- two constructor terms at one number are one
pub Con-same : (terms : Terms) (t : ℕ) (c d : CtorId) (xs ys : List TermId) → Has terms (core.Con c xs) t → Has terms (core.Con d ys) t → (c ≡ d) × (xs ≡ ys)
Con-same terms t c d xs ys h k =
    let same : core.Con c xs ≡ core.Con d ys = Has-same terms (core.Con c xs) (core.Con d ys) t h k in
    (cc, cc)

pub IsBuiltBy-same : (terms : Terms) (t : TermId) (c d : CtorId) → IsBuiltBy terms t c → IsBuiltBy terms t d → c ≡ d
IsBuiltBy-same terms t c d h k = (Con-same terms t.0 c d h.0 k.0 h.1 k.1).0

-- an argument at a place is one
pub HasArgument-same : (terms : Terms) (t : TermId) (c d : CtorId) (place : ℕ) (x y : TermId) → HasArgument terms t c place x → HasArgument terms t d place y → x ≡ y
HasArgument-same terms t c d place x y h k =
    let args = (Con-same terms t.0 c d h.0 k.0 h.1 k.1).1 in
    same_Some x y (sym h.2 ∙ ap (λ (zs : List TermId). slice_get zs place) args ∙ k.2)

-- the argument at a place, by the constructor that was found
pub HasArgument-of : (terms : Terms) (t : TermId) (c d : CtorId) (place : ℕ) (x : TermId) → IsBuiltBy terms t c → HasArgument terms t d place x → HasArgument terms t c place x
HasArgument-of terms t c d place x built h =
    let same : d ≡ c = (Con-same terms t.0 d c h.0 built.0 h.1 built.1).0 in
    subst (λ (k : CtorId). HasArgument terms t k place x) same h

-- two constructors that were found
pub AreApart-told : (terms : Terms) (t u : TermId) (c d : CtorId) (r : Bool) → r ≡ not (nat_eq c.0 d.0) → IsBuiltBy terms t c → IsBuiltBy terms u d → IsTrue r ↔ AreApart terms t u
AreApart-told terms t u c d r told at_t at_u = (
  λ yes. (c, d, at_t, at_u, λ same. twice (nat_eq c.0 d.0) (sym told ∙ yes) ((Decides-eqb c.0 d.0).1 (ap (λ (k : CtorId). k.0) same))),
  λ h. told ∙ other (nat_eq c.0 d.0) (λ e. h.4 (sym (IsBuiltBy-same terms t c h.0 at_t h.2) ∙ ap of ((Decides-eqb c.0 d.0).0 e) ∙ IsBuiltBy-same terms u d h.1 at_u h.3)),
)
  where
    of : ℕ → CtorId
    of n = record { 0 = n }

    twice : (b : Bool) → not b ≡ true → b ≡ true → ⊥
    twice true h k = true≢false (sym h)
    twice false h k = true≢false (sym k)

    other : (b : Bool) → (b ≡ true → ⊥) → not b ≡ true
    other true h = absurd (h refl)
    other false h = refl

-- a clash, by the equation that was found
pub IsClash-told : (terms : Terms) (given : List Equation) (step : ℕ) (e : Equation) (r : Bool) → slice_get given step ≡ Some e → (IsTrue r ↔ AreApart terms e.left e.right) → IsTrue r ↔ IsClash terms given step
IsClash-told terms given step e r at told = (
  λ yes.
      let h = told.0 yes in
      record { left = e.left; right = e.right; ctor = h.0; other = h.1; xs = h.2.0; ys = h.3.0; equal = at; left_stands = h.2.1; right_stands = h.3.1; differ = h.4 },
  λ h.
      let same = Gave-one given step e h.left h.right at h.equal in
      told.1 (subst (λ (f : Equation). AreApart terms f.left f.right) (sym same) (h.ctor, h.other, (h.xs, h.left_stands), (h.ys, h.right_stands), h.differ)),
)

-- a hop, by the constructor and the argument that were found
pub LeadsTo-told : (d : Declarations) (terms : Terms) (given : List Equation) (step place : ℕ) (con next : TermId) (c : CtorId) (x : TermId) (r : Bool) → IsOfDatatype d terms con → HasArgument terms con c place x → (IsTrue r ↔ Gave given step x next) → IsTrue r ↔ LeadsTo d terms (Gave given step) con place next
LeadsTo-told d terms given step place con next c x r of arg told = (
  λ yes. record { ctor = c; args = arg.0; argument = x; stands = arg.1; datatype = of; at = arg.2; equal = told.0 yes },
  λ h.
      let same : x ≡ h.argument = HasArgument-same terms con c h.ctor place x h.argument arg (h.args, h.stands, h.at) in
      told.1 (subst (λ (y : TermId). Gave given step y next) (sym same) h.equal),
)

-- the hops from an index on
module _ (d : Declarations) (terms : Terms) (given : List Equation) (hops : List Hop) (end : TermId) (h : Hop) where
  -- the hop at the index leads to the term of the next one
  abbrev pub LeadsOn : ℕ → TermId → Type 0
  LeadsOn i next = LeadsTo d terms (Gave given (get_or hops i h).step) (get_or hops i h).con (get_or hops i h).place next

  LeadBackBy-cons : (i : ℕ) → i < length hops → i + 1 < length hops → LeadBackBy d terms given (drop i hops) end ↔ (LeadsOn i (get_or hops (i + 1) h).con × LeadBackBy d terms given (drop (i + 1) hops) end)
  LeadBackBy-cons i in_i in_next = rw (drop-next hops i h in_i, drop-next hops (i + 1) h in_next) (λ p. p, λ p. p)

  pub LeadBackBy-next : (i : ℕ) → i + 1 < length hops → (LeadBackBy d terms given (drop i hops) end ↔ LeadBackBy d terms given hops end) → LeadsOn i (get_or hops (i + 1) h).con → LeadBackBy d terms given (drop (i + 1) hops) end ↔ LeadBackBy d terms given hops end
  LeadBackBy-next i within inv leads =
      let one = LeadBackBy-cons i (omega arith) within in
      (λ rest. inv.0 (one.1 (leads, rest)), λ all. (one.0 (inv.1 all)).1)

  pub LeadBackBy-stop : (i : ℕ) → i + 1 < length hops → (LeadBackBy d terms given (drop i hops) end ↔ LeadBackBy d terms given hops end) → (LeadsOn i (get_or hops (i + 1) h).con → ⊥) → LeadBackBy d terms given hops end → ⊥
  LeadBackBy-stop i within inv other all = other ((LeadBackBy-cons i (omega arith) within).0 (inv.1 all)).0

  pub LeadBackBy-end : (i last : ℕ) (r : Bool) → i ≡ last → last + 1 ≡ length hops → (LeadBackBy d terms given (drop i hops) end ↔ LeadBackBy d terms given hops end) → (IsTrue r ↔ LeadsOn last end) → IsTrue r ↔ LeadBackBy d terms given hops end
  LeadBackBy-end i last r same long inv told =
      let one : LeadBackBy d terms given (drop last hops) end ↔ LeadsOn last end = rw (drop-next hops last h (omega arith), drop_all (last + 1) hops (omega arith)) (λ p. p, λ p. p) in
      let whole = subst (λ (n : ℕ). LeadBackBy d terms given (drop n hops) end ↔ LeadBackBy d terms given hops end) same inv in
      (λ yes. whole.0 (one.1 (told.0 yes)), λ all. told.1 (one.0 (whole.1 all)))
