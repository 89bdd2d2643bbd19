-- Equality steps: what was found is the one equation that a step gives.
use Rattle.std.proofs.Common.{◌≡◌, ℕ, ◌↔◌, ◌⊎◌, inl, inr, Bool, true, false, not, nat_eq, List, Option, Some, None, slice_get, option_map, refl, sym, ap, subst, ◌∙◌, true≢false}
use Rattle.std.proofs.lemmas.Option.{none-some, same_Some}
use Rattle.std.proofs.lemmas.Bool.Decides.{Decides-eqb}
use Rattle.ct_lemmas.proofs.Options.{option_map-source}
use Rattle.ct_sorts.specs.declared.ids.CtorId.{CtorId}
use Rattle.ct_sorts.specs.declared.ids.SelId.{SelId}
use Rattle.ct_sorts.specs.Declarations.{Declarations, Selector}
use Rattle.ct_sorts.specs.declared.ids.SortId.{SortId}
use Rattle.ct_card.specs.Cardinality.{IsSingle}
use Rattle.ct_terms.specs.declared.ids.TermId.{TermId}
use Rattle.ct_terms.specs.declared.term.Core.TheVariants as core
use Rattle.ct_terms.specs.Terms.{Terms, Has, IsOfSort}
use Rattle.ct_rules.specs.declared.equation.Equation.{Equation}
use Rattle.ct_rules.specs.Rules.{truth_term, IsSingleton}
use Rattle.ct_log.specs.Equations.{Gave, equation, IsInjected, IsSelectedBy, IsTestedBy, IsExpandedBy}
use Rattle.ct_log.specs.Look.{IsBuiltBy, HasArgument, HaveArguments, SelectsFrom, IsConstructionOver}
use Rattle.ct_log.proofs.GateLemmas.{Has-same}
use Rattle.ct_log.proofs.LookLemmas.{some_gives, Gave-one, HasArgument-same, HasArgument-of, IsBuiltBy-same}

-- the two sides of equal equations
sides : (e : Equation) (x y : TermId) → e ≡ equation x y → (e.left ≡ x) × (e.right ≡ y)
sides e x y same = (ap (λ (f : Equation). f.left) same, ap (λ (f : Equation). f.right) same)

-- the arguments at a place of two terms
pub arguments-none : (terms : Terms) (t u : TermId) (place : ℕ) (x y : TermId) → ((c : CtorId) → IsBuiltBy terms t c ↔ (None ≡ Some c)) → HaveArguments terms t u place x y → ⊥
arguments-none terms t u place x y built h = none-some h.0 ((built h.0).0 (h.1.0, h.1.1))

pub arguments-no_left : (terms : Terms) (t u : TermId) (place : ℕ) (c : CtorId) (x y : TermId) → IsBuiltBy terms t c → ((z : TermId) → HasArgument terms t c place z ↔ (None ≡ Some z)) → HaveArguments terms t u place x y → ⊥
arguments-no_left terms t u place c x y built none h = none-some x ((none x).0 (HasArgument-of terms t c h.0 place x built h.1))

pub arguments-no_right : (terms : Terms) (t u : TermId) (place : ℕ) (c : CtorId) (x y : TermId) → IsBuiltBy terms t c → ((z : TermId) → HasArgument terms u c place z ↔ (None ≡ Some z)) → HaveArguments terms t u place x y → ⊥
arguments-no_right terms t u place c x y built none h =
    let same : h.0 ≡ c = IsBuiltBy-same terms t h.0 c (h.1.0, h.1.1) built in
    none-some y ((none y).0 (subst (λ (k : CtorId). HasArgument terms u k place y) same h.2))

pub arguments-found : (terms : Terms) (t u : TermId) (place : ℕ) (c : CtorId) (a b : TermId) → HasArgument terms t c place a → HasArgument terms u c place b → (x y : TermId) → HaveArguments terms t u place x y ↔ (Some (equation a b) ≡ Some (equation x y))
arguments-found terms t u place c a b left right =
    some_gives (HaveArguments terms t u place) a b (c, left, right)
    (λ x y h. (HasArgument-same terms t c h.0 place a x left h.1, HasArgument-same terms u c h.0 place b y right h.2))

-- two sorts that the test does not tell apart are one
pub same_sort : (s r : SortId) → not (nat_eq s.0 r.0) ≡ false → s ≡ r
same_sort s r told = by (nat_eq s.0 r.0) refl told
  where
    of : ℕ → SortId
    of n = record { 0 = n }

    by : (b : Bool) → nat_eq s.0 r.0 ≡ b → not b ≡ false → s ≡ r
    by true e h = ap of ((Decides-eqb s.0 r.0).0 e)
    by false e h = absurd (true≢false h)

-- the sort of two terms with one value is single
pub IsSingleton-sort : (d : Declarations) (terms : Terms) (t u : TermId) (s : SortId) → IsOfSort terms t s → IsSingleton d terms t u → IsSingle d s.0
IsSingleton-sort d terms t u s of h =
    let same : h.sort ≡ s = ap (λ e. e.1) (same_Some (h.left.0, h.sort) (of.0, s) (sym h.left.1 ∙ of.1)) in
    subst (λ (r : SortId). IsSingle d r.0) same h.single

-- injection, by the equation that was found
pub injected-told : (terms : Terms) (given : List Equation) (i place : ℕ) (e : Equation) (o : Option Equation) → slice_get given i ≡ Some e → ((x y : TermId) → HaveArguments terms e.left e.right place x y ↔ (o ≡ Some (equation x y))) → (x y : TermId) → IsInjected terms given i place x y ↔ (o ≡ Some (equation x y))
injected-told terms given i place e o at told x y = (
  λ h.
      let same = sides e h.left h.right (Gave-one given i e h.left h.right at h.equal) in
      let have : HaveArguments terms h.left h.right place x y = (h.ctor, (h.xs, h.left_stands, h.left_at), (h.ys, h.right_stands, h.right_at)) in
      (told x y).0 (subst (λ (t : TermId). HaveArguments terms t e.right place x y) (sym same.0) (subst (λ (t : TermId). HaveArguments terms h.left t place x y) (sym same.1) have)),
  λ found.
      let h = (told x y).1 found in
      record { left = e.left; right = e.right; ctor = h.0; xs = h.1.0; ys = h.2.0; equal = at; left_stands = h.1.1; right_stands = h.2.1; left_at = h.1.2; right_at = h.2.2 },
)

-- the field of a selector, by its constructor and place
pub field-told : (d : Declarations) (terms : Terms) (s : SelId) (con : TermId) (c : CtorId) (place : ℕ) (o : Option TermId) → option_map (λ (g : Selector). g.ctor) (slice_get d.sels s.0) ≡ Some c → option_map (λ (g : Selector). g.place) (slice_get d.sels s.0) ≡ Some place → ((x : TermId) → HasArgument terms con c place x ↔ (o ≡ Some x)) → (x : TermId) → SelectsFrom d terms s con x ↔ (o ≡ Some x)
field-told d terms s con c place o at_ctor at_place told x =
    let ctor = option_map-source (λ (g : Selector). g.ctor) (slice_get d.sels s.0) c at_ctor in
    let of_place = option_map-source (λ (g : Selector). g.place) (slice_get d.sels s.0) place at_place in
    let one : of_place.0 ≡ ctor.0 = same_Some of_place.0 ctor.0 (sym of_place.1 ∙ ctor.1) in
    let places : ctor.0.place ≡ place = ap (λ (g : Selector). g.place) (sym one) ∙ of_place.2 in (
      λ h.
          let same : h.0 ≡ ctor.0 = same_Some h.0 ctor.0 (sym h.1 ∙ ctor.1) in
          let at_c : h.0.ctor ≡ c = ap (λ (g : Selector). g.ctor) same ∙ ctor.2 in
          let at_p : h.0.place ≡ place = ap (λ (g : Selector). g.place) same ∙ places in
          (told x).0 (subst (λ (p : ℕ). HasArgument terms con c p x) at_p (subst (λ (k : CtorId). HasArgument terms con k h.0.place x) at_c h.2)),
      λ found.
          let h = (told x).1 found in
          (ctor.0, ctor.1, subst (λ (p : ℕ). HasArgument terms con ctor.0.ctor p x) (sym places) (subst (λ (k : CtorId). HasArgument terms con k place x) (sym ctor.2) h)),
    )

-- selection
abbrev pub Selected : Declarations → Terms → List Equation → TermId → ℕ → TermId → TermId → Type 0
Selected d terms given t i x y = (x ≡ t) × IsSelectedBy d terms given t i y

-- the parts of a selection, where the selector, its term and the equation were found
selected-parts : (d : Declarations) (terms : Terms) (given : List Equation) (t : TermId) (i : ℕ) (s : SelId) (u : TermId) (e : Equation) (y : TermId) → Has terms (core.Sel s u) t.0 → slice_get given i ≡ Some e → IsSelectedBy d terms given t i y → (e.left ≡ u) × SelectsFrom d terms s e.right y
selected-parts d terms given t i s u e y has at h =
    let same : core.Sel h.sel h.argument ≡ core.Sel s u = Has-same terms (core.Sel h.sel h.argument) (core.Sel s u) t.0 h.stands has in
    let sel : h.sel ≡ s = cc in
    let argument : h.argument ≡ u = cc in
    let both = sides e h.argument h.con (Gave-one given i e h.argument h.con at h.equal) in
    let from : SelectsFrom d terms h.sel h.con y = (h.selector, h.declared, (h.args, h.con_stands, h.at)) in
    (both.0 ∙ argument, subst (λ (r : SelId). SelectsFrom d terms r e.right y) sel (subst (λ (c : TermId). SelectsFrom d terms h.sel c y) (sym both.1) from))

pub selected-other : (d : Declarations) (terms : Terms) (given : List Equation) (t : TermId) (i : ℕ) (s : SelId) (u : TermId) (e : Equation) (x y : TermId) → Has terms (core.Sel s u) t.0 → slice_get given i ≡ Some e → (e.left ≡ u → ⊥) → Selected d terms given t i x y → ⊥
selected-other d terms given t i s u e x y has at other h = other (selected-parts d terms given t i s u e y has at h.1).0

pub selected-none : (d : Declarations) (terms : Terms) (given : List Equation) (t : TermId) (i : ℕ) (s : SelId) (u : TermId) (e : Equation) (x y : TermId) → Has terms (core.Sel s u) t.0 → slice_get given i ≡ Some e → ((z : TermId) → SelectsFrom d terms s e.right z ↔ (None ≡ Some z)) → Selected d terms given t i x y → ⊥
selected-none d terms given t i s u e x y has at none h = none-some y ((none y).0 (selected-parts d terms given t i s u e y has at h.1).1)

pub selected-found : (d : Declarations) (terms : Terms) (given : List Equation) (t : TermId) (i : ℕ) (s : SelId) (u : TermId) (e : Equation) (z : TermId) → Has terms (core.Sel s u) t.0 → slice_get given i ≡ Some e → e.left ≡ u → ((y : TermId) → SelectsFrom d terms s e.right y ↔ (Some z ≡ Some y)) → (x y : TermId) → Selected d terms given t i x y ↔ (Some (equation t z) ≡ Some (equation x y))
selected-found d terms given t i s u e z has at left told =
    let from = (told z).1 refl in
    some_gives (Selected d terms given t i) t z (
      refl,
      record {
        sel = s;
        selector = from.0;
        argument = u;
        con = e.right;
        args = from.2.0;
        stands = has;
        declared = from.1;
        equal = subst (λ (k : TermId). Gave given i k e.right) left at;
        con_stands = from.2.1;
        at = from.2.2;
      },
    )
    (λ x y h. (sym h.0, same_Some z y ((told y).0 (selected-parts d terms given t i s u e y has at h.1).1)))

-- tests
abbrev pub Tested : Terms → List Equation → TermId → ℕ → TermId → TermId → Type 0
Tested terms given t i x y = (x ≡ t) × IsTestedBy terms given t i y

tested-parts : (terms : Terms) (given : List Equation) (t : TermId) (i : ℕ) (c : CtorId) (u : TermId) (e : Equation) (y : TermId) → Has terms (core.Test c u) t.0 → slice_get given i ≡ Some e → (h : IsTestedBy terms given t i y) → (e.left ≡ u) × IsBuiltBy terms e.right h.ctor × (h.tested ≡ c)
tested-parts terms given t i c u e y has at h =
    let same : core.Test h.tested h.argument ≡ core.Test c u = Has-same terms (core.Test h.tested h.argument) (core.Test c u) t.0 h.stands has in
    let tested : h.tested ≡ c = cc in
    let argument : h.argument ≡ u = cc in
    let both = sides e h.argument h.con (Gave-one given i e h.argument h.con at h.equal) in
    (both.0 ∙ argument, subst (λ (k : TermId). IsBuiltBy terms k h.ctor) (sym both.1) (h.args, h.con_stands), tested)

pub tested-other : (terms : Terms) (given : List Equation) (t : TermId) (i : ℕ) (c : CtorId) (u : TermId) (e : Equation) (x y : TermId) → Has terms (core.Test c u) t.0 → slice_get given i ≡ Some e → (e.left ≡ u → ⊥) → Tested terms given t i x y → ⊥
tested-other terms given t i c u e x y has at other h = other (tested-parts terms given t i c u e y has at h.1).0

pub tested-none : (terms : Terms) (given : List Equation) (t : TermId) (i : ℕ) (c : CtorId) (u : TermId) (e : Equation) (x y : TermId) → Has terms (core.Test c u) t.0 → slice_get given i ≡ Some e → ((k : CtorId) → IsBuiltBy terms e.right k ↔ (None ≡ Some k)) → Tested terms given t i x y → ⊥
tested-none terms given t i c u e x y has at none h = none-some h.1.ctor ((none h.1.ctor).0 (tested-parts terms given t i c u e y has at h.1).1)

-- the answer of a test, as the code tells it
pub tested-answer : (c d : CtorId) (b : Bool) → b ≡ nat_eq c.0 d.0 → ((c ≡ d) × (b ≡ true)) ⊎ ((c ≡ d → ⊥) × (b ≡ false))
tested-answer c d true told = inl (ap of ((Decides-eqb c.0 d.0).0 (sym told)), refl)
  where
    of : ℕ → CtorId
    of n = record { 0 = n }
tested-answer c d false told = inr (λ same. true≢false (sym ((Decides-eqb c.0 d.0).1 (ap (λ (k : CtorId). k.0) same)) ∙ sym told), refl)

pub tested-found : (terms : Terms) (given : List Equation) (t : TermId) (i : ℕ) (c d : CtorId) (u : TermId) (e : Equation) (b : Bool) → Has terms (core.Test c u) t.0 → slice_get given i ≡ Some e → e.left ≡ u → IsBuiltBy terms e.right d → b ≡ nat_eq c.0 d.0 → (x y : TermId) → Tested terms given t i x y ↔ (Some (equation t (truth_term b)) ≡ Some (equation x y))
tested-found terms given t i c d u e b has at left built told =
    let answer = tested-answer c d b told in
    some_gives (Tested terms given t i) t (truth_term b) (
      refl,
      record {
        tested = c;
        argument = u;
        con = e.right;
        ctor = d;
        args = built.0;
        stands = has;
        equal = subst (λ (k : TermId). Gave given i k e.right) left at;
        con_stands = built.1;
        answer = elim answer [ inl h ↦ inl (h.0, ap truth_term h.1) | inr h ↦ inr (h.0, ap truth_term h.1) ];
      },
    )
    (λ x y h.
    let parts = tested-parts terms given t i c u e y has at h.1 in
    let ctor : h.1.ctor ≡ d = IsBuiltBy-same terms e.right h.1.ctor d parts.1 built in (
      sym h.0,
      elim answer [
        | inl one ↦ elim h.1.answer [
          | inl k ↦ ap truth_term one.1 ∙ sym k.1
          | inr k ↦ absurd (k.0 (parts.2 ∙ one.0 ∙ sym ctor))
        ]
        | inr one ↦ elim h.1.answer [
          | inl k ↦ absurd (one.0 (sym parts.2 ∙ k.0 ∙ ctor))
          | inr k ↦ ap truth_term one.1 ∙ sym k.1
        ]
      ],
    ))

-- expansion
abbrev pub Expanded : Declarations → Terms → List Equation → ℕ → TermId → TermId → TermId → Type 0
Expanded d terms given i con x y = (y ≡ con) × IsExpandedBy d terms given i con x

expanded-parts : (d : Declarations) (terms : Terms) (given : List Equation) (i : ℕ) (con : TermId) (e : Equation) (x : TermId) → slice_get given i ≡ Some e → (h : IsExpandedBy d terms given i con x) → Has terms (core.Test h.id x) e.left.0 × IsConstructionOver d terms con h.id x
expanded-parts d terms given i con e x at h =
    let both = sides e h.test (truth_term true) (Gave-one given i e h.test (truth_term true) at h.holds) in
    (subst (λ (k : TermId). Has terms (core.Test h.id x) k.0) (sym both.0) h.test_stands, (h.ctor, h.args, h.declared, h.con_stands, h.fields))

pub expanded-none : (d : Declarations) (terms : Terms) (given : List Equation) (i : ℕ) (con : TermId) (e : Equation) (x y : TermId) → slice_get given i ≡ Some e → ((c : CtorId) (u : TermId) → Has terms (core.Test c u) e.left.0 ↔ (◌≡◌ {A = Option (CtorId × TermId)} None (Some (c, u)))) → Expanded d terms given i con x y → ⊥
expanded-none d terms given i con e x y at none h = none-some {A = CtorId × TermId} (h.1.id, x) ((none h.1.id x).0 (expanded-parts d terms given i con e x at h.1).0)

-- the constructor and the term of a test are one
test-one : (terms : Terms) (t : TermId) (c d : CtorId) (u v : TermId) → Has terms (core.Test c u) t.0 → Has terms (core.Test d v) t.0 → (c ≡ d) × (u ≡ v)
test-one terms t c d u v h k =
    let same : core.Test c u ≡ core.Test d v = Has-same terms (core.Test c u) (core.Test d v) t.0 h k in
    (cc, cc)

pub expanded-other : (d : Declarations) (terms : Terms) (given : List Equation) (i : ℕ) (con : TermId) (e : Equation) (c : CtorId) (u : TermId) (x y : TermId) → slice_get given i ≡ Some e → Has terms (core.Test c u) e.left.0 → (IsConstructionOver d terms con c u → ⊥) → Expanded d terms given i con x y → ⊥
expanded-other d terms given i con e c u x y at has other h =
    let parts = expanded-parts d terms given i con e x at h.1 in
    let one = test-one terms e.left h.1.id c x u parts.0 has in
    other (subst (λ (k : CtorId). IsConstructionOver d terms con k u) one.0 (subst (λ (v : TermId). IsConstructionOver d terms con h.1.id v) one.1 parts.1))

pub expanded-found : (d : Declarations) (terms : Terms) (given : List Equation) (i : ℕ) (con : TermId) (e : Equation) (c : CtorId) (u : TermId) → slice_get given i ≡ Some e → e.right ≡ truth_term true → Has terms (core.Test c u) e.left.0 → IsConstructionOver d terms con c u → (x y : TermId) → Expanded d terms given i con x y ↔ (Some (equation u con) ≡ Some (equation x y))
expanded-found d terms given i con e c u at right has over =
    some_gives (Expanded d terms given i con) u con (
      refl,
      record {
        test = e.left;
        id = c;
        ctor = over.0;
        args = over.1;
        declared = over.2;
        holds = subst (λ (k : TermId). Gave given i e.left k) right at;
        test_stands = has;
        con_stands = over.3;
        fields = over.4;
      },
    )
    (λ x y h. ((test-one terms e.left c h.1.id u x has (expanded-parts d terms given i con e x at h.1).0).1, sym h.0))

-- equations of terms
eq-one : (terms : Terms) (t : TermId) (a b x y : TermId) → Has terms (core.Eq a b) t.0 → Has terms (core.Eq x y) t.0 → (a ≡ x) × (b ≡ y)
eq-one terms t a b x y h k =
    let same : core.Eq a b ≡ core.Eq x y = Has-same terms (core.Eq a b) (core.Eq x y) t.0 h k in
    (cc, cc)

abbrev pub Equated : Terms → List Equation → TermId → ℕ → TermId → TermId → Type 0
Equated terms given t i x y = (x ≡ t) × (y ≡ truth_term true) × ((a b : TermId) × Has terms (core.Eq a b) t.0 × Gave given i a b)

pub equated-none : (terms : Terms) (given : List Equation) (t : TermId) (i : ℕ) (x y : TermId) → ((a b : TermId) → Has terms (core.Eq a b) t.0 ↔ (None ≡ Some (equation a b))) → Equated terms given t i x y → ⊥
equated-none terms given t i x y none h = none-some (equation h.2.0 h.2.1) ((none h.2.0 h.2.1).0 h.2.2)

pub equated-other : (terms : Terms) (given : List Equation) (t : TermId) (i : ℕ) (e : Equation) (x y : TermId) → Has terms (core.Eq e.left e.right) t.0 → (Gave given i e.left e.right → ⊥) → Equated terms given t i x y → ⊥
equated-other terms given t i e x y has other h =
    let one = eq-one terms t e.left e.right h.2.0 h.2.1 has h.2.2 in
    other (subst (λ (k : TermId). Gave given i k e.right) (sym one.0) (subst (λ (k : TermId). Gave given i h.2.0 k) (sym one.1) h.2.3))

pub equated-found : (terms : Terms) (given : List Equation) (t : TermId) (i : ℕ) (e : Equation) → Has terms (core.Eq e.left e.right) t.0 → Gave given i e.left e.right → (x y : TermId) → Equated terms given t i x y ↔ (Some (equation t (truth_term true)) ≡ Some (equation x y))
equated-found terms given t i e has gave = some_gives (Equated terms given t i) t (truth_term true) (refl, refl, (e.left, e.right, has, gave)) (λ x y h. (sym h.0, sym h.1))

-- the sides of an equation that holds
pub equal_sides-told : (terms : Terms) (given : List Equation) (i : ℕ) (e : Equation) (o : Option Equation) → slice_get given i ≡ Some e → e.right ≡ truth_term true → ((a b : TermId) → Has terms (core.Eq a b) e.left.0 ↔ (o ≡ Some (equation a b))) → (x y : TermId) → ((t : TermId) × Gave given i t (truth_term true) × Has terms (core.Eq x y) t.0) ↔ (o ≡ Some (equation x y))
equal_sides-told terms given i e o at right told x y = (
  λ h.
      let both = sides e h.0 (truth_term true) (Gave-one given i e h.0 (truth_term true) at h.1) in
      (told x y).0 (subst (λ (t : TermId). Has terms (core.Eq x y) t.0) (sym both.0) h.2),
  λ found. (e.left, subst (λ (k : TermId). Gave given i e.left k) right at, (told x y).1 found),
)

-- negations
abbrev pub Negated : Terms → List Equation → TermId → ℕ → TermId → TermId → Type 0
Negated terms given t i x y = (x ≡ t) × ((a : TermId) × Has terms (core.Not a) t.0
    × ((Gave given i a (truth_term true) × (y ≡ truth_term false)) ⊎ (Gave given i a (truth_term false) × (y ≡ truth_term true))))

pub negated-none : (terms : Terms) (given : List Equation) (t : TermId) (i : ℕ) (x y : TermId) → ((a : TermId) → Has terms (core.Not a) t.0 ↔ (None ≡ Some a)) → Negated terms given t i x y → ⊥
negated-none terms given t i x y none h = none-some h.1.0 ((none h.1.0).0 h.1.1)

-- the argument is the one that was found
negated-answer : (terms : Terms) (given : List Equation) (t : TermId) (i : ℕ) (a : TermId) (x y : TermId) → Has terms (core.Not a) t.0 → Negated terms given t i x y → (Gave given i a (truth_term true) × (y ≡ truth_term false)) ⊎ (Gave given i a (truth_term false) × (y ≡ truth_term true))
negated-answer terms given t i a x y has h =
    let same : core.Not h.1.0 ≡ core.Not a = Has-same terms (core.Not h.1.0) (core.Not a) t.0 h.1.1 has in
    let argument : h.1.0 ≡ a = cc in
    subst (λ (b : TermId). (Gave given i b (truth_term true) × (y ≡ truth_term false)) ⊎ (Gave given i b (truth_term false) × (y ≡ truth_term true))) argument h.1.2

pub negated-other : (terms : Terms) (given : List Equation) (t : TermId) (i : ℕ) (a : TermId) (x y : TermId) → Has terms (core.Not a) t.0 → (Gave given i a (truth_term true) → ⊥) → (Gave given i a (truth_term false) → ⊥) → Negated terms given t i x y → ⊥
negated-other terms given t i a x y has no_true no_false h = elim (negated-answer terms given t i a x y has h) [ inl k ↦ no_true k.0 | inr k ↦ no_false k.0 ]

-- a step gives no equation with both truth values
not_both : (given : List Equation) (i : ℕ) (a : TermId) → Gave given i a (truth_term true) → Gave given i a (truth_term false) → ⊥
not_both given i a h k =
    let same = Gave-one given i (equation a (truth_term true)) a (truth_term false) h k in
    true≢false (ap (λ (e : Equation). nat_eq e.right.0 0) same)

pub negated-true : (terms : Terms) (given : List Equation) (t : TermId) (i : ℕ) (a : TermId) → Has terms (core.Not a) t.0 → Gave given i a (truth_term true) → (x y : TermId) → Negated terms given t i x y ↔ (Some (equation t (truth_term false)) ≡ Some (equation x y))
negated-true terms given t i a has gave = some_gives (Negated terms given t i) t (truth_term false) (refl, (a, has, inl (gave, refl)))
    (λ x y h. (sym h.0, elim (negated-answer terms given t i a x y has h) [ inl k ↦ sym k.1 | inr k ↦ absurd (not_both given i a gave k.0) ]))

pub negated-false : (terms : Terms) (given : List Equation) (t : TermId) (i : ℕ) (a : TermId) → Has terms (core.Not a) t.0 → Gave given i a (truth_term false) → (x y : TermId) → Negated terms given t i x y ↔ (Some (equation t (truth_term true)) ≡ Some (equation x y))
negated-false terms given t i a has gave = some_gives (Negated terms given t i) t (truth_term true) (refl, (a, has, inr (gave, refl)))
    (λ x y h. (sym h.0, elim (negated-answer terms given t i a x y has h) [ inl k ↦ absurd (not_both given i a k.0 gave) | inr k ↦ sym k.1 ]))
