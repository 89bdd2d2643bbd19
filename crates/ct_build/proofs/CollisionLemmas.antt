-- A collision of two classes leads down: where all classes without constructor terms are told from the others, no two
-- classes collide; and for two classes at most one value of a class makes them collide.
use Rattle.std.proofs.Common.{◌≡◌, ℕ, zero, suc, ◌<◌, ◌⊎◌, IsTrue, Bool, true, ◌&&◌, nat_lt, List, [], ◌∷◌, length, map, slice_get, Some, None, Option, refl, sym, ◌∙◌, ap, subst, inl, inr, arith}
use Rattle.std.specs.List.{AllZip, AllByRecursion}
use Rattle.std.proofs.lemmas.Bool.{cases_eq, cases_lt, and_from, and_parts, ltb-true, lt-ltb}
use Rattle.std.proofs.lemmas.Option.{none-some, same_Some, slice_get_within}
use Rattle.ct_sorts.specs.declared.ids.CtorId.{CtorId}
use Rattle.ct_sorts.specs.declared.ids.SortId.{SortId}
use Rattle.ct_values.specs.declared.node.Head.TheVariants as heads
use Rattle.ct_values.specs.Graph.{IsClosed}
use Rattle.ct_values.specs.Agreement.{Point, children, agree, same, AgreeAlways}
use Rattle.ct_terms.specs.declared.ids.TermId.{TermId}
use Rattle.ct_terms.specs.declared.term.Core.{Core}
use Rattle.ct_terms.specs.declared.term.Core.TheVariants.{Con, Sel, Test, Apply, Eq, Not, And, Or, Iff, Ite}
use Rattle.ct_terms.specs.Terms.{Terms, Has, AreOrdered}
use Rattle.ct_rules.specs.Uniqueness.{HaveRelatedTerms}
use Rattle.ct_unique.specs.Partition.{IsStronglyExtensional}
use Rattle.ct_congr.specs.State.{State, AreEqual, IsConstructorTerm}
use Rattle.ct_build.specs.ClassValues.{Laws, IsInside, IsBuiltBy, IsBuilt, IsUnbuilt, IsConstructed, AreClassValues, AreApart}

-- ---- constructor terms of classes

same_term : (x y : TermId) → x.0 ≡ y.0 → x ≡ y
same_term x y e = λ i. record { 0 = e i }

-- a number has a constructor term or none
constructor_cases : (terms : Terms) (t : TermId) → IsConstructorTerm terms t ⊎ (IsConstructorTerm terms t → ⊥)
constructor_cases terms t = by (slice_get terms t.0) refl
  where
    other : (core : Core) (s : SortId) → slice_get terms t.0 ≡ Some (core, s) → ((c : CtorId) (args : List TermId) → core ≡ Con c args → ⊥) → IsConstructorTerm terms t → ⊥
    other core s at none (c, args, has) = none c args (ap (λ (e : Core × SortId). e.0) (same_Some (core, s) (Con c args, has.0) (sym at ∙ has.1)))

    of_core : (core : Core) (s : SortId) → slice_get terms t.0 ≡ Some (core, s) → IsConstructorTerm terms t ⊎ (IsConstructorTerm terms t → ⊥)
    of_core (Con c args) s at = inl (c, args, (s, at))
    of_core (Sel x a) s at = inr (other (Sel x a) s at (λ c args e. cc))
    of_core (Test x a) s at = inr (other (Test x a) s at (λ c args e. cc))
    of_core (Apply f xs) s at = inr (other (Apply f xs) s at (λ c args e. cc))
    of_core (Eq a b) s at = inr (other (Eq a b) s at (λ c args e. cc))
    of_core (Not a) s at = inr (other (Not a) s at (λ c args e. cc))
    of_core (And xs) s at = inr (other (And xs) s at (λ c args e. cc))
    of_core (Or xs) s at = inr (other (Or xs) s at (λ c args e. cc))
    of_core (Iff a b) s at = inr (other (Iff a b) s at (λ c args e. cc))
    of_core (Ite x a b) s at = inr (other (Ite x a b) s at (λ c args e. cc))

    by : (o : Option (Core × SortId)) → slice_get terms t.0 ≡ o → IsConstructorTerm terms t ⊎ (IsConstructorTerm terms t → ⊥)
    by None at = inr (λ has. absurd (none-some _ (sym at ∙ has.2.1)))
    by (Some entry) at = of_core entry.0 entry.1 at

-- two terms are of one class or not
pub equal_cases : (state : State) (x y : TermId) → AreEqual state x y ⊎ (AreEqual state x y → ⊥)
equal_cases state x y = by (slice_get state.reps x.0) (slice_get state.reps y.0) refl refl
  where
    by : (p q : Option TermId) → slice_get state.reps x.0 ≡ p → slice_get state.reps y.0 ≡ q → AreEqual state x y ⊎ (AreEqual state x y → ⊥)
    by None q at at_y = inr (λ h. absurd (none-some _ (sym at ∙ h.1)))
    by (Some r) None at at_y = inr (λ h. absurd (none-some _ (sym at_y ∙ h.2)))
    by (Some r) (Some u) at at_y = elim (cases_eq r.0 u.0) [
      | inl e ↦ inl (r, at, at_y ∙ ap Some (sym (same_term r u e)))
      | inr other ↦ inr (λ h. other (ap (λ (t : TermId). t.0) (same_Some r h.0 (sym at ∙ h.1) ∙ same_Some h.0 u (sym h.2 ∙ at_y))))
    ]

-- a class has a constructor term or none
pub built_cases : (state : State) (t : TermId) → IsBuilt state t ⊎ IsUnbuilt state t
built_cases state t =
    elim (search (length state.terms)) [
      | inl (con, equal, is) ↦ inl (is.0, is.1, record { con = con; equal = equal; stands = is.2 })
      | inr none ↦ inr (λ con is equal. none con (slice_get_within state.terms con.0 _ is.2.1) is equal)
    ]
  where
    one : (n : ℕ) → (con : TermId) → con.0 ≡ n → ((other : TermId) → other.0 < n → IsConstructorTerm state.terms other → AreEqual state t other → ⊥)
        → (IsConstructorTerm state.terms con → AreEqual state t con → ⊥)
        → (other : TermId) → other.0 < suc n → IsConstructorTerm state.terms other → AreEqual state t other → ⊥
    one n con is_n before here other less is equal = elim (cases_lt other.0 n) [
      | inl lower ↦ before other lower is equal
      | inr above ↦
          let same : other ≡ con = same_term other con (omega (arith, less, above, is_n)) in
          here (subst (λ (x : TermId). IsConstructorTerm state.terms x) same is) (subst (λ (x : TermId). AreEqual state t x) same equal)
    ]

    search : (n : ℕ) → ((con : TermId) × AreEqual state t con × IsConstructorTerm state.terms con) ⊎ ((con : TermId) → con.0 < n → IsConstructorTerm state.terms con → AreEqual state t con → ⊥)
    search zero = inr (λ con less. absurd (omega (arith, less)))
    search (suc n) = elim (search n) [
      | inl found ↦ inl found
      | inr before ↦
          let con : TermId = record { 0 = n } in
          elim (constructor_cases state.terms con) [
            | inr other ↦ inr (one n con refl before (λ is equal. other is))
            | inl is ↦ elim (equal_cases state t con) [
              | inl equal ↦ inl (con, equal, is)
              | inr apart ↦ inr (one n con refl before (λ is_too equal. apart equal))
            ]
          ]
    ]

-- ---- lists side by side

zip_through : (P : Point → Point → Type 0) (Q R : Point → Point → Type 0) → ((p q r : Point) → P p q → Q q r → R p r) → (ps qs rs : List Point) → AllZip P ps qs → AllZip Q qs rs → AllZip R ps rs
zip_through P Q R step [] [] [] h k = tt
zip_through P Q R step [] [] (r ∷ rs) h k = absurd k
zip_through P Q R step [] (q ∷ qs) rs h k = absurd h
zip_through P Q R step (p ∷ ps) [] rs h k = absurd h
zip_through P Q R step (p ∷ ps) (q ∷ qs) [] h k = absurd k
zip_through P Q R step (p ∷ ps) (q ∷ qs) (r ∷ rs) h k = (step p q r h.0 k.0, zip_through P Q R step ps qs rs h.1 k.1)

zip_turned : (P R : Point → Point → Type 0) → ((p q : Point) → P p q → R q p) → (ps qs : List Point) → AllZip P ps qs → AllZip R qs ps
zip_turned P R step [] [] h = tt
zip_turned P R step [] (q ∷ qs) h = absurd h
zip_turned P R step (p ∷ ps) [] h = absurd h
zip_turned P R step (p ∷ ps) (q ∷ qs) h = (step p q h.0, zip_turned P R step ps qs h.1)

-- the values of arguments, by what holds of each argument
zip_arguments : (In : TermId → Type 0) (R : Point → Point → Type 0) (f g : TermId → Point) → ((a : TermId) → In a → R (f a) (g a)) → (args : List TermId) → AllByRecursion In args → AllZip R (map f args) (map g args)
zip_arguments In R f g step [] below = tt
zip_arguments In R f g step (a ∷ args) below = (step a below.0, zip_arguments In R f g step args below.1)

module _ (laws : Laws) (state : State) (ordered : AreOrdered state.terms) where
  -- agreement, turned and chained
  abbrev agrees_at : ℕ → Point → Point → Type 0
  agrees_at k = λ p q. IsTrue (agree k p q)

  turn : (k : ℕ) (p q : Point) → agrees_at k p q → agrees_at k q p
  turn k p q h = sym ((laws.equivalence k).symm p q) ∙ h

  chain : (k : ℕ) (p q r : Point) → agrees_at k p q → agrees_at k q r → agrees_at k p r
  chain k p q r h g = (laws.equivalence k).congr p q r h ∙ g

  -- a term of a class with a constructor term is this constructor over the values of its arguments
  pub over : (value : TermId → Point) → AreClassValues state value → (t : TermId) (c : CtorId) (args : List TermId) → IsBuiltBy state t c args → IsConstructed value c args (value t)
  over value values t c args built =
      let own = values.built built.con c args built.stands in
      let same = (laws.always (value t) (value built.con)).0 (values.equal t built.con built.equal) in
      record {
        head_is = same.0 ∙ own.head_is;
        children_are = zip_through AgreeAlways AgreeAlways AgreeAlways laws.chained (children (value t)) (children (value built.con)) (map value args) same.1 own.children_are;
      }

  -- whose arguments are terms of the table
  pub arguments_inside : (t : TermId) (c : CtorId) (args : List TermId) → IsBuiltBy state t c args → AllByRecursion (IsInside state) args
  arguments_inside t c args built = all args (ordered built.con.0 (Con c args) built.stands)
    where
      within : built.con.0 < length state.terms
      within = slice_get_within state.terms built.con.0 _ built.stands.1

      all : (list : List TermId) → AllByRecursion (λ a. a.0 < built.con.0) list → AllByRecursion (IsInside state) list
      all [] h = tt
      all (a ∷ list) h = (omega (arith, within, h.0), all list h.1)

  -- the arguments' values, where the value agrees with a point
  arguments_of : (value : TermId → Point) (c : CtorId) (args : List TermId) (p v : Point) → IsConstructed value c args p → AllZip AgreeAlways (children p) (children v) → AllZip AgreeAlways (map value args) (children v)
  arguments_of value c args p v is same =
      zip_through AgreeAlways AgreeAlways AgreeAlways laws.chained (map value args) (children p) (children v)
      (zip_turned AgreeAlways AgreeAlways laws.turned (children p) (map value args) is.children_are)
      same

  -- points of one constructor over values that agree, agree one level deeper
  step_over : (k : ℕ) (f g : TermId → Point) (c : CtorId) (args : List TermId) (p q : Point) → IsConstructed f c args p → IsConstructed g c args q → AllByRecursion (IsInside state) args → ((a : TermId) → IsInside state a → agrees_at k (f a) (g a)) → agrees_at (suc k) p q
  step_over k f g c args p q over_p over_q inside step =
      (laws.step k p q).1 (
        over_p.head_is ∙ sym over_q.head_is,
        zip_through AgreeAlways (agrees_at k) (agrees_at k) (λ x y z h i. chain k x y z (h k) i) (children p) (map f args) (children q) over_p.children_are
            (zip_through (agrees_at k) AgreeAlways (agrees_at k) (λ x y z h i. chain k x y z h (i k)) (map f args) (map g args) (children q)
            (zip_arguments (IsInside state) (agrees_at k) f g step args inside)
            (zip_turned AgreeAlways AgreeAlways laws.turned (children q) (map g args) over_q.children_are)),
      )

  -- ---- values that agree where classes have no constructor terms agree everywhere
  module _ (f g : TermId → Point) (values_f : AreClassValues state f) (values_g : AreClassValues state g) (same : (t : TermId) → IsInside state t → IsUnbuilt state t → AgreeAlways (f t) (g t)) where
    agree_at : (k : ℕ) (t : TermId) → IsInside state t → agrees_at k (f t) (g t)
    agree_at zero t inside = laws.start (f t) (g t)
    agree_at (suc k) t inside = elim (built_cases state t) [
      | inl (c, args, built) ↦ step_over k f g c args (f t) (g t) (over f values_f t c args built) (over g values_g t c args built) (arguments_inside t c args built) (agree_at k)
      | inr none ↦ same t inside none (suc k)
    ]

    pub one_assignment : (t : TermId) → IsInside state t → AgreeAlways (f t) (g t)
    one_assignment t inside = λ k. agree_at k t inside

  -- ---- at most one value of a class makes two others collide
  module _ (value first second : TermId → Point) (values : AreClassValues state value) (values_first : AreClassValues state first) (values_second : AreClassValues state second) (o : TermId) (in_o : IsInside state o)
      (same_first : (t : TermId) → IsInside state t → IsUnbuilt state t → (AreEqual state t o → ⊥) → AgreeAlways (value t) (first t))
      (same_second : (t : TermId) → IsInside state t → IsUnbuilt state t → (AreEqual state t o → ⊥) → AgreeAlways (value t) (second t))
      (differ : AgreeAlways (first o) (second o) → ⊥) where
    -- away from the class the two agree as deep as its arguments do
    away : (k : ℕ) → ((t : TermId) → IsInside state t → agrees_at k (first t) (second t)) → (t : TermId) → IsInside state t → (AreEqual state t o → ⊥) → agrees_at (suc k) (first t) (second t)
    away k step t inside other = elim (built_cases state t) [
      | inl (c, args, built) ↦ step_over k first second c args (first t) (second t) (over first values_first t c args built) (over second values_second t c args built) (arguments_inside t c args built) step
      | inr none ↦ laws.chained (first t) (value t) (second t) (laws.turned (value t) (first t) (same_first t inside none other)) (same_second t inside none other) (suc k)
    ]

    -- where another class has the value of the class in both, all agree
    meets : (q : TermId) → IsInside state q → (AreEqual state q o → ⊥) → AgreeAlways (first o) (first q) → AgreeAlways (second o) (second q) → (k : ℕ) (t : TermId) → IsInside state t → agrees_at k (first t) (second t)
    meets q in_q other h1 h2 zero t inside = laws.start (first t) (second t)
    meets q in_q other h1 h2 (suc k) t inside = elim (equal_cases state t o) [
      | inl equal ↦
          chain (suc k) (first t) (first q) (second t)
          (laws.chained (first t) (first o) (first q) (values_first.equal t o equal) h1 (suc k))
          (chain (suc k) (first q) (second q) (second t)
          (away k (meets q in_q other h1 h2 k) q in_q other)
          (laws.turned (second t) (second q) (laws.chained (second t) (second o) (second q) (values_second.equal t o equal) h2) (suc k)))
      | inr apart ↦ away k (meets q in_q other h1 h2 k) t inside apart
    ]

    no_meeting : (q : TermId) → IsInside state q → (AreEqual state q o → ⊥) → AgreeAlways (first o) (first q) → AgreeAlways (second o) (second q) → ⊥
    no_meeting q in_q other h1 h2 = differ (λ k. meets q in_q other h1 h2 k o in_o)

    fixed_all : (k : ℕ) → ((t : TermId) (v : Point) → IsInside state t → AgreeAlways (first t) v → AgreeAlways (second t) v → agrees_at k (value t) v) → (args : List TermId) (vs : List Point) → AllByRecursion (IsInside state) args → AllZip AgreeAlways (map first args) vs → AllZip AgreeAlways (map second args) vs → AllZip (agrees_at k) (map value args) vs
    fixed_all k step [] [] inside h1 h2 = tt
    fixed_all k step [] (v ∷ vs) inside h1 h2 = absurd h1
    fixed_all k step (a ∷ args) [] inside h1 h2 = absurd h1
    fixed_all k step (a ∷ args) (v ∷ vs) inside h1 h2 = (step a v inside.0 h1.0 h2.0, fixed_all k step args vs inside.1 h1.1 h2.1)

    -- what has the value of a fixed point in both has it without
    fixed : (k : ℕ) (t : TermId) (v : Point) → IsInside state t → AgreeAlways (first t) v → AgreeAlways (second t) v → agrees_at k (value t) v
    fixed zero t v inside h1 h2 = laws.start (value t) v
    fixed (suc k) t v inside h1 h2 = elim (equal_cases state t o) [
      | inl equal ↦ absurd (differ (laws.chained (first o) v (second o)
          (laws.chained (first o) (first t) v (laws.turned (first t) (first o) (values_first.equal t o equal)) h1)
          (laws.turned (second o) v (laws.chained (second o) (second t) v (laws.turned (second t) (second o) (values_second.equal t o equal)) h2))))
      | inr other ↦ elim (built_cases state t) [
        | inr none ↦ laws.chained (value t) (first t) v (same_first t inside none other) h1 (suc k)
        | inl (c, args, built) ↦
            let of_value = over value values t c args built in
            let of_first = over first values_first t c args built in
            let of_second = over second values_second t c args built in
            let parts_first = (laws.always (first t) v).0 h1 in
            let parts_second = (laws.always (second t) v).0 h2 in
            (laws.step k (value t) v).1 (
              of_value.head_is ∙ sym of_first.head_is ∙ parts_first.0,
              zip_through AgreeAlways (agrees_at k) (agrees_at k) (λ x y z h i. chain k x y z (h k) i) (children (value t)) (map value args) (children v) of_value.children_are
                  (fixed_all k (fixed k) args (children v) (arguments_inside t c args built) (arguments_of first c args (first t) v of_first parts_first.1) (arguments_of second c args (second t) v of_second parts_second.1)),
            )
      ]
    ]

    pairs_all : (k : ℕ) → ((x y : TermId) → IsInside state x → IsInside state y → AgreeAlways (first x) (first y) → AgreeAlways (second x) (second y) → agrees_at k (value x) (value y)) → (xs ys : List TermId) → AllByRecursion (IsInside state) xs → AllByRecursion (IsInside state) ys → AllZip AgreeAlways (map first xs) (map first ys) → AllZip AgreeAlways (map second xs) (map second ys) → AllZip (agrees_at k) (map value xs) (map value ys)
    pairs_all k step [] [] in_x in_y h1 h2 = tt
    pairs_all k step [] (y ∷ ys) in_x in_y h1 h2 = absurd h1
    pairs_all k step (x ∷ xs) [] in_x in_y h1 h2 = absurd h1
    pairs_all k step (x ∷ xs) (y ∷ ys) in_x in_y h1 h2 = (step x y in_x.0 in_y.0 h1.0 h2.0, pairs_all k step xs ys in_x.1 in_y.1 h1.1 h2.1)

    -- the arguments of two constructor terms whose values agree
    arguments_agree : (f : TermId → Point) → AreClassValues state f → (x y : TermId) (c e : CtorId) (xs ys : List TermId) → IsBuiltBy state x c xs → IsBuiltBy state y e ys → AgreeAlways (f x) (f y) → AllZip AgreeAlways (map f xs) (map f ys)
    arguments_agree f values_f x y c e xs ys built_x built_y h =
        zip_through AgreeAlways AgreeAlways AgreeAlways laws.chained (map f xs) (children (f y)) (map f ys)
        (arguments_of f c xs (f x) (f y) (over f values_f x c xs built_x) ((laws.always (f x) (f y)).0 h).1)
        (over f values_f y e ys built_y).children_are

    both : (k : ℕ) (x y : TermId) → IsInside state x → IsInside state y → AgreeAlways (first x) (first y) → AgreeAlways (second x) (second y) → agrees_at k (value x) (value y)
    both zero x y in_x in_y h1 h2 = laws.start (value x) (value y)
    both (suc k) x y in_x in_y h1 h2 = elim (equal_cases state x o) [
      | inl x_is ↦ elim (equal_cases state y o) [
        | inl y_is ↦ laws.chained (value x) (value o) (value y) (values.equal x o x_is) (laws.turned (value y) (value o) (values.equal y o y_is)) (suc k)
        | inr y_other ↦ absurd (no_meeting y in_y y_other
            (laws.chained (first o) (first x) (first y) (laws.turned (first x) (first o) (values_first.equal x o x_is)) h1)
            (laws.chained (second o) (second x) (second y) (laws.turned (second x) (second o) (values_second.equal x o x_is)) h2))
      ]
      | inr x_other ↦ elim (equal_cases state y o) [
        | inl y_is ↦ absurd (no_meeting x in_x x_other
            (laws.turned (first x) (first o) (laws.chained (first x) (first y) (first o) h1 (values_first.equal y o y_is)))
            (laws.turned (second x) (second o) (laws.chained (second x) (second y) (second o) h2 (values_second.equal y o y_is))))
        | inr y_other ↦ elim (built_cases state x) [
          | inr none ↦
              chain (suc k) (value x) (first x) (value y) (same_first x in_x none x_other (suc k))
              (turn (suc k) (value y) (first x) (fixed (suc k) y (first x) in_y (laws.turned (first x) (first y) h1)
              (laws.chained (second y) (second x) (first x) (laws.turned (second x) (second y) h2)
              (laws.chained (second x) (value x) (first x) (laws.turned (value x) (second x) (same_second x in_x none x_other)) (same_first x in_x none x_other)))))
          | inl (c, xs, built_x) ↦ elim (built_cases state y) [
            | inr none ↦
                chain (suc k) (value x) (first y) (value y)
                (fixed (suc k) x (first y) in_x h1
                (laws.chained (second x) (second y) (first y) h2
                (laws.chained (second y) (value y) (first y) (laws.turned (value y) (second y) (same_second y in_y none y_other)) (same_first y in_y none y_other))))
                (laws.turned (value y) (first y) (same_first y in_y none y_other) (suc k))
            | inl (e, ys, built_y) ↦
                let of_x = over value values x c xs built_x in
                let of_y = over value values y e ys built_y in
                (laws.step k (value x) (value y)).1 (
                  of_x.head_is ∙ sym (over first values_first x c xs built_x).head_is ∙ ((laws.always (first x) (first y)).0 h1).0 ∙ (over first values_first y e ys built_y).head_is ∙ sym of_y.head_is,
                  zip_through AgreeAlways (agrees_at k) (agrees_at k) (λ p q r h i. chain k p q r (h k) i) (children (value x)) (map value xs) (children (value y)) of_x.children_are
                      (zip_through (agrees_at k) AgreeAlways (agrees_at k) (λ p q r h i. chain k p q r h (i k)) (map value xs) (map value ys) (children (value y))
                      (pairs_all k (both k) xs ys (arguments_inside x c xs built_x) (arguments_inside y e ys built_y) (arguments_agree first values_first x y c e xs ys built_x built_y h1) (arguments_agree second values_second x y c e xs ys built_x built_y h2))
                      (zip_turned AgreeAlways AgreeAlways laws.turned (children (value y)) (map value ys) of_y.children_are)),
                )
          ]
        ]
      ]
    ]

    -- so two terms that have one value with either have one value without
    pub one_without : (x y : TermId) → IsInside state x → IsInside state y → AgreeAlways (first x) (first y) → AgreeAlways (second x) (second y) → AgreeAlways (value x) (value y)
    one_without x y in_x in_y h1 h2 = λ k. both k x y in_x in_y h1 h2

  -- ---- classes that are told from all others are apart
  module _ (value : TermId → Point) (values : AreClassValues state value) (closed : (t : TermId) → IsClosed (value t).graph) (extensional : IsStronglyExtensional state)
      (told : (t : TermId) → IsInside state t → IsUnbuilt state t → (u : TermId) → IsInside state u → AgreeAlways (value t) (value u) → AreEqual state t u) where
    related : TermId → TermId → Bool
    related x y = nat_lt x.0 (length state.terms) && (nat_lt y.0 (length state.terms) && same (value x) (value y))

    related_of : (x y : TermId) → IsInside state x → IsInside state y → AgreeAlways (value x) (value y) → related x y ≡ true
    unfolding related
    related_of x y in_x in_y h =
        and_from (nat_lt x.0 (length state.terms)) (nat_lt y.0 (length state.terms) && same (value x) (value y)) (lt-ltb x.0 (length state.terms) in_x)
        (and_from (nat_lt y.0 (length state.terms)) (same (value x) (value y)) (lt-ltb y.0 (length state.terms) in_y) ((laws.every_depth (value x) (value y) (closed x) (closed y)).1 h))

    of_related : (x y : TermId) → related x y ≡ true → IsInside state x × IsInside state y × AgreeAlways (value x) (value y)
    unfolding related
    of_related x y h =
        let first = and_parts (nat_lt x.0 (length state.terms)) (nat_lt y.0 (length state.terms) && same (value x) (value y)) h in
        let second = and_parts (nat_lt y.0 (length state.terms)) (same (value x) (value y)) first.1 in
        (ltb-true x.0 (length state.terms) first.0, ltb-true y.0 (length state.terms) second.0, (laws.every_depth (value x) (value y) (closed x) (closed y)).0 second.1)

    relate_all : (xs ys : List TermId) → AllByRecursion (IsInside state) xs → AllByRecursion (IsInside state) ys → AllZip AgreeAlways (map value xs) (map value ys) → AllZip (λ a b. related a b ≡ true) xs ys
    relate_all [] [] in_x in_y h = tt
    relate_all [] (y ∷ ys) in_x in_y h = absurd h
    relate_all (x ∷ xs) [] in_x in_y h = absurd h
    relate_all (x ∷ xs) (y ∷ ys) in_x in_y h = (related_of x y in_x.0 in_y.0 h.0, relate_all xs ys in_x.1 in_y.1 h.1)

    turned_equal : (x y : TermId) → AreEqual state x y → AreEqual state y x
    turned_equal x y h = (h.0, h.2, h.1)

    matched : (x y : TermId) → related x y ≡ true → AreEqual state x y ⊎ HaveRelatedTerms state.terms (AreEqual state) related x y
    matched x y h =
        let (in_x, in_y, same_value) = of_related x y h in
        elim (built_cases state x) [
          | inr none ↦ inl (told x in_x none y in_y same_value)
          | inl (c, xs, built_x) ↦ elim (built_cases state y) [
            | inr none ↦ inl (turned_equal y x (told y in_y none x in_x (laws.turned (value x) (value y) same_value)))
            | inl (e, ys, built_y) ↦
                let of_x = over value values x c xs built_x in
                let of_y = over value values y e ys built_y in
                let parts = (laws.always (value x) (value y)).0 same_value in
                let heads_are : heads.Con c ≡ heads.Con e = same_Some (heads.Con c) (heads.Con e) (sym of_x.head_is ∙ parts.0 ∙ of_y.head_is) in
                let one : c ≡ e = cc in
                inr (record {
                  left = built_x.con;
                  right = built_y.con;
                  ctor = c;
                  xs = xs;
                  ys = ys;
                  left_equal = built_x.equal;
                  right_equal = built_y.equal;
                  left_stands = built_x.stands;
                  right_stands = subst (λ (k : CtorId). Has state.terms (Con k ys) built_y.con.0) (sym one) built_y.stands;
                  arguments = relate_all xs ys (arguments_inside x c xs built_x) (arguments_inside y e ys built_y)
                      (zip_through AgreeAlways AgreeAlways AgreeAlways laws.chained (map value xs) (children (value y)) (map value ys) (arguments_of value c xs (value x) (value y) of_x parts.1) of_y.children_are);
                })
          ]
        ]

    inside_equal : (x u : TermId) → AreEqual state x u → u.0 < length state.reps
    inside_equal x u h = slice_get_within state.reps u.0 h.0 h.2

    pub apart_where_told : length state.reps ≡ length state.terms → AreApart state value
    apart_where_told long x y in_x in_y h = extensional x y (record {
      related = related;
      bisimulation = record {
        of_classes = λ a b u v equal_a equal_b is.
            let (in_a, in_b, one) = of_related a b is in
            let in_u : u.0 < length state.terms = subst (λ (n : ℕ). u.0 < n) long (inside_equal a u equal_a) in
            let in_v : v.0 < length state.terms = subst (λ (n : ℕ). v.0 < n) long (inside_equal b v equal_b) in
            related_of u v in_u in_v (laws.chained (value u) (value a) (value v) (laws.turned (value a) (value u) (values.equal a u equal_a)) (laws.chained (value a) (value b) (value v) one (values.equal b v equal_b)));
        matched = matched;
      };
      holds = related_of x y in_x in_y h;
    })
