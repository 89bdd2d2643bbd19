-- Classes that can be asked about literals: told more, gone back, marked, and begun anew.
use Rattle.std.proofs.Common.{◌≡◌, ℕ, zero, suc, ◌≤◌, List, [], ◌∷◌, ◌++◌, length, take, drop, Option, slice_get, Some, None, refl, sym, ap, subst, ◌∙◌, inl, inr, arith, append_assoc}
use Rattle.std.specs.List.{AllZip, Contains}
use Rattle.std.specs.Option.{IfSome}
use Rattle.std.proofs.lemmas.Bool.{cases_order}
use Rattle.std.proofs.lemmas.Option.{none-some, same_Some}
use Rattle.std.proofs.lemmas.List.Elements.{Contains-append_left, Contains-append_right}
use Rattle.std.proofs.lemmas.List.{append-nil, take-append-drop, take-take}
use Rattle.std.proofs.Math.Seq.{take-append_seam}
use Rattle.ct_lemmas.proofs.Contained.{Contains-take, slice_get-from_Contains}
use Rattle.ct_lemmas.proofs.Lists.{slice_get-append_cases}
use Rattle.ct_lemmas.proofs.Pairs.{AllZip-at_left}
use Rattle.ct_lemmas.proofs.Prefixes.{slice_get-take}
use Rattle.ct_sorts.specs.Declarations.{Declarations}
use Rattle.ct_sorts.specs.Grown.{Begins}
use Rattle.ct_terms.specs.declared.ids.TermId.{TermId}
use Rattle.ct_terms.specs.declared.ids.Lit.{Lit}
use Rattle.ct_terms.specs.Terms.{Terms}
use Rattle.ct_rules.specs.declared.equation.Equation.{Equation}
use Rattle.ct_congr.specs.declared.merge.ClassMark.{ClassMark}
use Rattle.ct_congr.specs.State.{State, Marked, IsFirstMark, marked_now, state_at}
use Rattle.ct_theory.specs.Entailment.{Entails}
use Rattle.ct_theory.specs.Consulting.{AreAllEntailed, IsReady, HaveInCommon, IsUnderWay}

-- ---- more literals entail more

module _ (d : Declarations) (terms : Terms) (literals more : List Lit) (all : (l : Lit) → Contains literals l → Contains more l) where
  Entails-more : (x y : TermId) → Entails d terms literals x y → Entails d terms more x y
  Entails-more x y h = record {
    equations = h.equations;
    entailed = record {
      inside = h.entailed.inside;
      each = λ index e at. elim (h.entailed.each index e at) [
        | inl s ↦ inl (s.0, all s.0 s.1, s.2)
        | inr f ↦ inr f
      ];
    };
    stands = h.stands;
  }

  AreAllEntailed-more : (equations : List Equation) → AreAllEntailed d terms literals equations → AreAllEntailed d terms more equations
  AreAllEntailed-more equations h e has = Entails-more e.left e.right (h e has)

-- ---- classes of which no mark changed

-- all is as it was, but the hypotheses and what was given, which they entail
pub IsReady-with : (old new : State) → new.declarations ≡ old.declarations → new.terms ≡ old.terms → new.marks ≡ old.marks → AreAllEntailed old.declarations old.terms new.hypotheses new.given → IsReady old → IsReady new
IsReady-with old new declarations terms_are marks entailed ready = record {
  now = carried new.hypotheses new.given entailed;
  marked = λ k at stands. carried at.hypotheses at.given (ready.marked k at (subst (λ (ms : List Marked). slice_get ms k ≡ Some at) marks stands));
}
  where
    carried : (literals : List Lit) (given : List Equation) → AreAllEntailed old.declarations old.terms literals given → AreAllEntailed new.declarations new.terms literals given
    carried literals given h =
        subst (λ (t : Terms). AreAllEntailed new.declarations t literals given) (sym terms_are)
        (subst (λ (q : Declarations). AreAllEntailed q old.terms literals given) (sym declarations) h)

-- one literal more was told
pub IsReady-told : (old new : State) (l : Lit) → new.declarations ≡ old.declarations → new.terms ≡ old.terms → new.marks ≡ old.marks → new.given ≡ old.given → new.hypotheses ≡ old.hypotheses ++ l ∷ [] → IsReady old → IsReady new
IsReady-told old new l declarations terms_are marks given hypotheses ready =
    IsReady-with old new declarations terms_are marks
    (subst (λ (ls : List Lit). AreAllEntailed old.declarations old.terms ls new.given) (sym hypotheses)
    (subst (AreAllEntailed old.declarations old.terms (old.hypotheses ++ l ∷ [])) (sym given)
    (AreAllEntailed-more old.declarations old.terms old.hypotheses (old.hypotheses ++ l ∷ []) (λ m has. Contains-append_left old.hypotheses (l ∷ []) m has) old.given ready.now)))
    ready

-- a search for an answer is under way, and ends so
pub IsUnderWay-ready : (state : State) → IsReady state → IsUnderWay state.declarations state.terms state.hypotheses state
IsUnderWay-ready state ready = record { declarations = refl; terms_are = refl; hypotheses = refl; given = ready.now }

pub IsReady-under : (old new : State) → IsUnderWay old.declarations old.terms old.hypotheses new → new.marks ≡ old.marks → IsReady old → IsReady new
IsReady-under old new under marks ready =
    IsReady-with old new under.declarations under.terms_are marks
    (subst (λ (ls : List Lit). AreAllEntailed old.declarations old.terms ls new.given) (sym under.hypotheses) under.given) ready

-- ---- new classes

pub IsReady-fresh : (state : State) → state.given ≡ [] → state.marks ≡ [] → IsReady state
IsReady-fresh state given marks = record {
  now = λ e has. absurd (none-some e (slice_get-from_Contains [] e (subst (λ (es : List Equation). Contains es e) given has)).1);
  marked = λ k at stands. absurd (none-some at (subst (λ (ms : List Marked). slice_get ms k ≡ Some at) marks stands));
}

-- ---- marks

-- back at a mark
pub IsReady-back : (state : State) (k n : ℕ) (at : Marked) → slice_get state.marks k ≡ Some at → IsReady state → IsReady (state_at state at (take n state.marks))
IsReady-back state k n at stands ready = record {
  now = ready.marked k at stands;
  marked = λ j other kept. ready.marked j other (slice_get-take n state.marks j other kept);
}

-- with a mark at the end
pub IsReady-marked : (state : State) → IsReady state → IsReady (state_at state (marked_now state) (state.marks ++ marked_now state ∷ []))
IsReady-marked state ready = record {
  now = ready.now;
  marked = λ k at stands. elim (slice_get-append_cases state.marks (marked_now state ∷ []) k at stands) [
    | inl before ↦ ready.marked k at before
    | inr last ↦ here last.0 at last.2
  ];
}
  where
    here : (j : ℕ) (at : Marked) → slice_get (marked_now state ∷ []) j ≡ Some at → AreAllEntailed state.declarations state.terms at.hypotheses at.given
    here zero at stands = subst (λ (m : Marked). AreAllEntailed state.declarations state.terms m.hypotheses m.given) (same_Some (marked_now state) at stands) ready.now
    here (suc j) at stands = absurd (none-some at stands)

-- some mark after so many merges is the first one
first_mark : (marks : List Marked) (merges i : ℕ) (at : Marked) → slice_get marks i ≡ Some at → length at.merges ≡ merges → (k : ℕ) × (first : Marked) × IsFirstMark marks merges k first
first_mark [] merges i at stands long = absurd (none-some at stands)
first_mark (m ∷ marks) merges zero at stands long = (0, at, record { stands = stands; long = long; first = λ j other there is. omega arith })
first_mark (m ∷ marks) merges (suc i) at stands long = elim (cases_order (length m.merges) merges) [
  | inl e ↦ (0, m, record { stands = refl; long = e; first = λ j other there is. omega arith })
  | inr other ↦ later (first_mark marks merges i at stands long) (λ e. elim other [
    | inl less ↦ omega (arith, less, e)
    | inr greater ↦ omega (arith, greater, e)
  ])
]
  where
    later : ((k : ℕ) × (first : Marked) × IsFirstMark marks merges k first) → (length m.merges ≡ merges → ⊥) → (k : ℕ) × (first : Marked) × IsFirstMark (m ∷ marks) merges k first
    later found differs = (suc found.0, found.1, record { stands = found.2.stands; long = found.2.long; first = before })
      where
        before : (j : ℕ) (other : Marked) → slice_get (m ∷ marks) j ≡ Some other → length other.merges ≡ merges → suc found.0 ≤ j
        before zero other there is = absurd (differs (subst (λ (n : Marked). length n.merges ≡ merges) (sym (same_Some m other there)) is))
        before (suc j) other there is = omega (arith, found.2.first j other there is)

-- a mark that is kept
first_kept : (marks : List ClassMark) (at : List Marked) (i : ℕ) (mark : ClassMark) → AllZip (λ (m : ClassMark) (s : Marked). m.merges ≡ length s.merges) marks at → slice_get marks i ≡ Some mark → (k : ℕ) × (first : Marked) × IsFirstMark at mark.merges k first
first_kept marks at i mark value stands =
    let found = AllZip-at_left (λ (m : ClassMark) (s : Marked). m.merges ≡ length s.merges) marks at i mark value stands in
    first_mark at mark.merges i found.0 found.1 (sym found.2)

-- ---- lists of literals

module _ {X : Type 0} where
  -- what stands in a part of a list stands in it
  pub Contains-part : (xs : List X) (n m : ℕ) (x : X) → Contains (take n (drop m xs)) x → Contains xs x
  Contains-part xs n m x has =
      subst (λ (ys : List X). Contains ys x) (take-append-drop m xs) (Contains-append_right (take m xs) (drop m xs) x (Contains-take n (drop m xs) x has))

  -- a list begins itself
  pub begins_itself : (xs : List X) → Begins xs xs
  begins_itself xs = ([], sym (append-nil xs))

  -- what begins the beginning of a list begins it
  pub begins_then : (xs ys zs : List X) → Begins xs ys → Begins ys zs → Begins xs zs
  begins_then xs ys zs first second =
      (first.0 ++ second.0, second.1 ∙ ap (λ (ls : List X). ls ++ second.0) first.1 ∙ append_assoc xs first.0 second.0)

  -- the first part of a list begins it
  pub begins_first : (xs ys : List X) (n : ℕ) → xs ≡ take n ys → Begins xs ys
  begins_first xs ys n is = (drop n ys, sym (take-append-drop n ys) ∙ ap (λ (zs : List X). zs ++ drop n ys) (sym is))

  -- what begins a list, and is no longer than what this has in common with another one, begins that one
  pub begins_common : (xs ys zs : List X) (n : ℕ) → Begins xs ys → length xs ≤ n → take n ys ≡ take n zs → Begins xs zs
  begins_common xs ys zs n begins few same =
      let m = length xs in
      let of_first : take m ys ≡ xs = ap (λ (ls : List X). take m ls) begins.1 ∙ take-append_seam xs begins.0 in
      let of_other : take m ys ≡ take m zs = sym (take-take m n ys few) ∙ ap (λ (ls : List X). take m ls) same ∙ take-take m n zs few in
      begins_first xs zs m (sym of_first ∙ of_other)

-- the mark that was found, if any
pub kept_if : (marks : List ClassMark) (at : List Marked) (i : ℕ) → AllZip (λ (m : ClassMark) (s : Marked). m.merges ≡ length s.merges) marks at → (found : Option ClassMark) → found ≡ slice_get marks i → IfSome found (λ (mark : ClassMark). (k : ℕ) × (first : Marked) × IsFirstMark at mark.merges k first)
kept_if marks at i value None is = tt
kept_if marks at i value (Some mark) is = first_kept marks at i mark value (sym is)

-- any two lists have nothing in common, if no more is asked
pub HaveInCommon-none : (xs ys : List Lit) → HaveInCommon 0 xs ys
HaveInCommon-none xs ys = record { left = omega arith; right = omega arith; same = refl }
