-- What is worked out of definitions, one after the other.
use Rattle.std.proofs.Common.{map, ◌≡◌, ◌⊎◌, ℕ, zero, suc, ◌<◌, Bool, true, false, cond, List, [], ◌∷◌, length, drop, Contains, Option, Some, None, option_map, slice_get, nat_eq, nat_lt, refl, sym, ap, subst, ◌∙◌, inl, inr, arith}
use Rattle.std.specs.Map.{lookup}
use Rattle.std.proofs.lemmas.Bool.{lt-ltb, ltb-true}
use Rattle.std.proofs.lemmas.Bool.Decides.{Decides-eqb}
use Rattle.std.proofs.lemmas.Option.{none-some, same_Some, slice_get_within}
use Rattle.indexmap.specs.IndexMap.{IndexMap}
use Rattle.ct_sorts.specs.declared.ids.CtorId.{CtorId}
use Rattle.ct_sorts.specs.declared.ids.DefId.{DefId}
use Rattle.ct_sorts.specs.declared.ids.SortId.{SortId}
use Rattle.ct_sorts.specs.Declarations.{Declarations, Function}
use Rattle.ct_formulas.specs.declared.tree.Pattern.TheVariants.{Ctor, Any}
use Rattle.ct_formulas.specs.Formula.{Formula, Formulas, Cases, Var, Con, Sel, Test, Apply, Def, Not, And, Or, Xor, Implies, Equal, Distinct, Ite, Let, Match, Quantified, no_formulas, with_formula, no_cases, with_case, bind}
use Rattle.ct_formulas.specs.declared.tree.Tree.{Tree}
use Rattle.ct_formulas.specs.TreeFormula.{formula_of}
use Rattle.ct_formulas.specs.FormulaSorts.{AreSound}
use Rattle.ct_formulas.specs.Occurrence.{count_of, occurs, uses_below}
use Rattle.ct_occurrence.specs.declared.definitions.Worked.{Worked}
use Rattle.ct_occurrence.specs.declared.notes.Notes.{Notes}
use Rattle.ct_occurrence.specs.Calls.{CallsAre, AreBelow, AllPass, AddsNamed}
use Rattle.ct_occurrence.specs.Marks.{flags_below, Rows, worked_in, IsKnown, row_in, MayMark}
use Rattle.ct_occurrence.specs.Noted.{under_of, inner_of, IsOfFirst, IsNoted, AreNoted, AreNotedWhere, CasesNoted}
use Rattle.ct_occurrence.specs.Working.{AreRight, StayKnown}
use Rattle.ct_occurrence.proofs.DefinitionLemmas.{uses_is, listed_same, fewer_rows}
use Rattle.ct_occurrence.proofs.NameLemmas.{calls_more}

-- a list of formulas is as long as that of their trees
map_length : (ts : List Tree) → length (map formula_of ts) ≡ length ts
map_length [] = refl
map_length (t ∷ ts) = ap suc (map_length ts)

pub all_below : (ts : List Tree) (n : ℕ) → n ≡ length ts → n ≡ length (map formula_of ts)
all_below ts n e = e ∙ sym (map_length ts)

pub same_id : (j k : DefId) → j.0 ≡ k.0 → j ≡ k
same_id j k e i = record { 0 = e i }

of_first : (P Q : Notes → Type 0) → ((m : Notes) → P m → Q m) → (ms : List Notes) → IsOfFirst P ms → IsOfFirst Q ms
of_first P Q more [] h = h
of_first P Q more (m ∷ ms) h = more m h

-- notes stay true where more is worked out
module _ (d : Declarations) (uses : DefId → ℕ → Bool) (old new : Rows) (stay : StayKnown old new) where
  mutual
    pub noted_stays : (t : Formula) (m : Notes) → IsNoted d old uses t m → IsNoted d new uses t m
    noted_stays (Var i) m h = tt
    noted_stays (Con c ts) m h = all_noted_stay ts (under_of m) h
    noted_stays (Sel s t) m h = of_first (IsNoted d old uses t) (IsNoted d new uses t) (noted_stays t) (under_of m) h
    noted_stays (Test c t) m h = of_first (IsNoted d old uses t) (IsNoted d new uses t) (noted_stays t) (under_of m) h
    noted_stays (Apply f ts) m h = all_noted_stay ts (under_of m) h
    noted_stays (Def k ts) m h = (stay k h.0, where_noted_stay (flags_below (uses k) (count_of ts)) ts (under_of m) h.1)
    noted_stays (Not t) m h = of_first (IsNoted d old uses t) (IsNoted d new uses t) (noted_stays t) (under_of m) h
    noted_stays (And ts) m h = all_noted_stay ts (under_of m) h
    noted_stays (Or ts) m h = all_noted_stay ts (under_of m) h
    noted_stays (Xor ts) m h = all_noted_stay ts (under_of m) h
    noted_stays (Implies ts) m h = all_noted_stay ts (under_of m) h
    noted_stays (Equal ts) m h = all_noted_stay ts (under_of m) h
    noted_stays (Distinct ts) m h = all_noted_stay ts (under_of m) h
    noted_stays (Ite c t u) m h = (
      of_first (IsNoted d old uses c) (IsNoted d new uses c) (noted_stays c) (under_of m) h.0,
      of_first (IsNoted d old uses t) (IsNoted d new uses t) (noted_stays t) (drop 1 (under_of m)) h.1,
      of_first (IsNoted d old uses u) (IsNoted d new uses u) (noted_stays u) (drop 1 (drop 1 (under_of m))) h.2,
    )
    noted_stays (Let ts u) m h = (
      h.0,
      where_noted_stay (flags_below (occurs d uses u) (count_of ts)) ts (under_of m) h.1,
      of_first (IsNoted d old uses u) (IsNoted d new uses u) (noted_stays u) (inner_of m) h.2,
    )
    noted_stays (Match t cases) m h = (
      h.0,
      λ e. of_first (IsNoted d old uses t) (IsNoted d new uses t) (noted_stays t) (under_of m) (h.1 e),
      cases_noted_stay [] cases (inner_of m) h.2,
    )
    noted_stays (Quantified q sorts t) m h = (h.0, of_first (IsNoted d old uses t) (IsNoted d new uses t) (noted_stays t) (inner_of m) h.1)

    all_noted_stay : (ts : Formulas) (ms : List Notes) → AreNoted d old uses ts ms → AreNoted d new uses ts ms
    all_noted_stay no_formulas ms h = tt
    all_noted_stay (with_formula t ts) ms h = (
      of_first (IsNoted d old uses t) (IsNoted d new uses t) (noted_stays t) ms h.0,
      all_noted_stay ts (drop 1 ms) h.1,
    )

    where_noted_stay : (flags : List Bool) (ts : Formulas) (ms : List Notes) → AreNotedWhere d old uses flags ts ms → AreNotedWhere d new uses flags ts ms
    where_noted_stay flags no_formulas ms h = tt
    where_noted_stay [] (with_formula t ts) ms h = tt
    where_noted_stay (b ∷ bs) (with_formula t ts) ms h = (
      λ e. of_first (IsNoted d old uses t) (IsNoted d new uses t) (noted_stays t) ms (h.0 e),
      where_noted_stay bs ts (drop 1 ms) h.1,
    )

    cases_noted_stay : (earlier : List CtorId) (cases : Cases) (ms : List Notes) → CasesNoted d old uses earlier cases ms → CasesNoted d new uses earlier cases ms
    cases_noted_stay earlier no_cases ms h = tt
    cases_noted_stay earlier (with_case Any body cases) ms h = of_first (IsNoted d old uses body) (IsNoted d new uses body) (noted_stays body) ms h
    cases_noted_stay earlier (with_case (Ctor c) body cases) ms h = (
      of_first (IsNoted d old uses body) (IsNoted d new uses body) (noted_stays body) ms h.0,
      λ e. cases_noted_stay (c ∷ earlier) cases (drop 1 ms) (h.1 e),
    )

-- ---- nothing at first

module _ {S : Type 0} (definitions : IndexMap ℕ Worked S) (empty : definitions.entries ≡ []) where
  nothing : (k : DefId) → None ≡ worked_in definitions k
  nothing k = sym (ap (lookup (nat_eq k.0)) empty)

  pub right_start : (d : Declarations) (bodies : List Formula) → AreRight d bodies (worked_in definitions)
  right_start d bodies = record {
    have = λ k definition row below at found. absurd (none-some row (ap (option_map (λ (w : Worked). w.flags.items)) (nothing k) ∙ found));
    notes = λ k body w at found. absurd (none-some w (nothing k ∙ found));
  }

-- ---- one definition

module _ (d : Declarations) (bodies : List Formula) (k : DefId) (body : Formula) (at : slice_get bodies k.0 ≡ Some body) (sound : AreSound d bodies) where
  pub body_inside : k.0 < length bodies
  body_inside = slice_get_within bodies k.0 body at

  module _ (args : List SortId) (args_are : option_map (λ (f : Function). f.args) (slice_get d.definitions k.0) ≡ Some args) where
    -- what occurs in its body can be worked out
    pub work_may : (rows : Rows) → AreRight d bodies rows → CallsAre (IsKnown rows) body → MayMark d (uses_below d bodies k.0) k.0 rows body
    work_may rows right known = of (slice_get d.definitions k.0) refl args_are
      where
        of : (found : Option Function) → slice_get d.definitions k.0 ≡ found → option_map (λ (f : Function). f.args) found ≡ Some args → MayMark d (uses_below d bodies k.0) k.0 rows body
        of None e h = absurd (none-some args h)
        of (Some definition) e h = record {
          have = fewer_rows d bodies k.0 (length bodies) rows sound (let less = body_inside in omega (arith, less)) right.have;
          mentions = sound.earlier k.0 body at;
          known = known;
          sorted = (bind definition.args [], definition.result, sound.sorted k.0 definition body e at);
        }

    module _ (old new : Rows) (w : Worked) (only : (j : DefId) → new j ≡ cond (nat_eq k.0 j.0) (Some w) (old j)) where
      put_stay : StayKnown old new
      put_stay j h = subst (λ (o : Option Worked). (x : Worked) × (o ≡ Some x)) (sym (only j)) (of (nat_eq k.0 j.0))
        where
          of : (b : Bool) → (x : Worked) × (cond b (Some w) (old j) ≡ Some x)
          of true = (w, refl)
          of false = h

      here : new k ≡ Some w
      here = only k ∙ ap (λ (b : Bool). cond b (Some w) (old k)) ((Decides-eqb k.0 k.0).1 refl)

      there : (j : DefId) → nat_eq k.0 j.0 ≡ false → new j ≡ old j
      there j e = only j ∙ ap (λ (b : Bool). cond b (Some w) (old j)) e

      -- with it, what is worked out is right
      pub put_right : AreRight d bodies old → w.flags.items ≡ flags_below (occurs d (uses_below d bodies k.0) body) (length args) → IsOfFirst (IsNoted d old (uses_below d bodies k.0) body) w.notes.items → AreRight d bodies new
      put_right right flags noted = record {
        have = λ j definition row below found is. by_rows j definition row below found is (nat_eq k.0 j.0) refl;
        notes = λ j b x found is. by_notes j b x found is (nat_eq k.0 j.0) refl;
      }
        where
          own_row : (definition : Function) (row : List Bool) → slice_get d.definitions k.0 ≡ Some definition → row_in new k ≡ Some row → row ≡ flags_below (uses_below d bodies (length bodies) k) (length definition.args)
          own_row definition row found is =
              sym (same_Some w.flags.items row (sym (ap (option_map (λ (x : Worked). x.flags.items)) here) ∙ is))
              ∙ (flags
              ∙ (ap (λ (xs : List SortId). flags_below (occurs d (uses_below d bodies k.0) body) (length xs)) same_args
              ∙ listed_same (occurs d (uses_below d bodies k.0) body) (uses_below d bodies (length bodies) k) (length definition.args) (λ i. sym (uses_is bodies k body at d (length bodies) i body_inside))))
            where
              same_args : args ≡ definition.args
              same_args = same_Some args definition.args (sym args_are ∙ ap (option_map (λ (f : Function). f.args)) found)

          by_rows : (j : DefId) (definition : Function) (row : List Bool) → j.0 < length bodies → slice_get d.definitions j.0 ≡ Some definition → row_in new j ≡ Some row → (b : Bool) → nat_eq k.0 j.0 ≡ b → row ≡ flags_below (uses_below d bodies (length bodies) j) (length definition.args)
          by_rows j definition row below found is true e =
              let same = same_id k j ((Decides-eqb k.0 j.0).0 e) in
              subst (λ (x : DefId). slice_get d.definitions x.0 ≡ Some definition → row_in new x ≡ Some row → row ≡ flags_below (uses_below d bodies (length bodies) x) (length definition.args)) same (own_row definition row) found is
          by_rows j definition row below found is false e =
              right.have j definition row below found (sym (ap (option_map (λ (x : Worked). x.flags.items)) (there j e)) ∙ is)

          own_notes : (b : Formula) (x : Worked) → slice_get bodies k.0 ≡ Some b → new k ≡ Some x → IsOfFirst (IsNoted d new (uses_below d bodies k.0) b) x.notes.items
          own_notes b x found is =
              subst (λ (y : Worked). IsOfFirst (IsNoted d new (uses_below d bodies k.0) b) y.notes.items) (same_Some w x (sym here ∙ is))
              (subst (λ (f : Formula). IsOfFirst (IsNoted d new (uses_below d bodies k.0) f) w.notes.items) (same_Some body b (sym at ∙ found))
              (of_first (IsNoted d old (uses_below d bodies k.0) body) (IsNoted d new (uses_below d bodies k.0) body) (noted_stays d (uses_below d bodies k.0) old new put_stay body) w.notes.items noted))

          by_notes : (j : DefId) (b : Formula) (x : Worked) → slice_get bodies j.0 ≡ Some b → new j ≡ Some x → (t : Bool) → nat_eq k.0 j.0 ≡ t → IsOfFirst (IsNoted d new (uses_below d bodies j.0) b) x.notes.items
          by_notes j b x found is true e =
              let same = same_id k j ((Decides-eqb k.0 j.0).0 e) in
              subst (λ (y : DefId). slice_get bodies y.0 ≡ Some b → new y ≡ Some x → IsOfFirst (IsNoted d new (uses_below d bodies y.0) b) x.notes.items) same (own_notes b x) found is
          by_notes j b x found is false e =
              of_first (IsNoted d old (uses_below d bodies j.0) b) (IsNoted d new (uses_below d bodies j.0) b) (noted_stays d (uses_below d bodies j.0) old new put_stay b) x.notes.items (right.notes j b x found (sym (there j e) ∙ is))

-- ---- the loop over the definitions that a formula names

pub record WorksOut (d : Declarations) (bodies : List Formula) (below : ℕ) (first now : Rows) (names rest : List DefId) : Type 0 where
  pub right : AreRight d bodies now
  pub stay : StayKnown first now
  pub done : (k : DefId) → Contains names k → IsKnown now k ⊎ Contains rest k
  pub below_are : AreBelow below rest

-- the names that a formula adds to none are below the bound
pub names_below : (below : ℕ) (t : Formula) (none names : List DefId) → none ≡ [] → AddsNamed t none names → CallsAre (λ k. k.0 < below) t → AreBelow below names
names_below below t none names is adds calls k inside =
    let each = calls_more (λ j. j.0 < below) (λ j. nat_lt j.0 below ≡ true) (λ j less. lt-ltb j.0 below less) t calls in
    let none_before : AllPass (λ j. nat_lt j.0 below) none = subst (AllPass (λ j. nat_lt j.0 below)) (sym is) (λ j h. absurd (omega (arith, h.1))) in
    ltb-true k.0 below (adds.only (λ j. nat_lt j.0 below) each none_before k inside)

pub works_start : (d : Declarations) (bodies : List Formula) (below : ℕ) (rows : Rows) (names : List DefId) → AreRight d bodies rows → AreBelow below names → WorksOut d bodies below rows rows names names
works_start d bodies below rows names right below_are = record {
  right = right;
  stay = λ k h. h;
  done = λ k h. inr h;
  below_are = below_are;
}

contains_split : (k : DefId) (ks : List DefId) (j : DefId) → Contains (k ∷ ks) j → (k ≡ j) ⊎ Contains ks j
contains_split k ks j (zero, inside, e) = inl e
contains_split k ks j (suc n, inside, e) = inr (n, omega (arith, inside), e)

module _ (d : Declarations) (bodies : List Formula) (below : ℕ) (first now : Rows) (names : List DefId) (k : DefId) (rest : List DefId) (h : WorksOut d bodies below first now names (k ∷ rest)) where
  pub works_below : k.0 < below
  works_below = h.below_are k (0, omega arith, refl)

  pub works_next : (later : Rows) → AreRight d bodies later → StayKnown now later → IsKnown later k → WorksOut d bodies below first later names rest
  works_next later right stay known = record {
    right = right;
    stay = λ j x. stay j (h.stay j x);
    done = λ j x. elim (h.done j x) [
      | inl before ↦ inl (stay j before)
      | inr left ↦ elim (contains_split k rest j left) [
        | inl one ↦ inl (subst (IsKnown later) one known)
        | inr more ↦ inr more
      ]
    ];
    below_are = λ j x. h.below_are j (suc x.0, omega (arith, x.1), x.2);
  }

pub works_end : (d : Declarations) (bodies : List Formula) (below : ℕ) (first now : Rows) (names : List DefId) → WorksOut d bodies below first now names [] → (k : DefId) → Contains names k → IsKnown now k
works_end d bodies below first now names h k x = elim (h.done k x) [
  | inl known ↦ known
  | inr left ↦ absurd (omega (arith, left.1))
]
