-- A core of core terms in a table is one of the assertions.
use Rattle.std.proofs.Common.{◌≡◌, ◌∙◌, ℕ, true, List, [], ◌∷◌, map, All, Some, slice_get, refl, sym, ap, subst}
use Rattle.std.proofs.lemmas.List.Elements.{All-nil, All-cons}
use Rattle.std.proofs.lemmas.Option.{slice_get_within, get_or_from_slice_get}
use Rattle.std.specs.List.{AllZip}
use Rattle.ct_lemmas.proofs.Lists.{slice_get-map_at, slice_get-map_source}
use Rattle.ct_lemmas.proofs.Pairs.{AllZip-weaker}
use Rattle.ct_sorts.specs.Declarations.{bool_sort}
use Rattle.ct_sorts.specs.Consistent.{IsConsistent}
use Rattle.ct_terms.specs.declared.ids.TermId.{TermId}
use Rattle.ct_terms.specs.Terms.{Terms}
use Rattle.ct_terms.specs.CoreTree.{CoreTree, term_at}
use Rattle.ct_formulas.specs.Formula.{Formula}
use Rattle.ct_formulas.specs.FormulaSorts.{IsSorted, AreSound}
use Rattle.ct_closure.specs.ClosedTable.{terms_at}
use Rattle.ct_eval.specs.Truth.{truth_value}
use Rattle.ct_log.specs.Recorded.{Derived}
use Rattle.ct_core.specs.Core.{AreAt}
use Rattle.ct_engine.specs.declared.verdict.Verdict.TheVariants.{Unsat, Unknown}
use Rattle.ct_shrink.specs.declared.shrunk.Need.{Need}
use Rattle.ct_shrink.specs.declared.shrunk.Need.TheVariants.{Shown, Open}
use Rattle.ct_shrink.specs.declared.shrunk.Shrunk.{Shrunk}
use Rattle.ct_shrink.specs.Shrunk.{IsRefutedAt, IsNeed, IsShrunk}
use Rattle.ct_stack.specs.Stack.{Context, core, cores}
use Rattle.ct_step.specs.Cores.{StandAt, RefutesAt, Needs, IsShrunkTo}
use Rattle.ct_step.proofs.VerdictLemmas.{Assertions, right, truth}

-- where two lists have the same images, so have what stands at some places
images : {X Y Z : Type 0} (f : X → Z) (g : Y → Z) (xs : List X) (ys : List Y) → map f xs ≡ map g ys → (places : List ℕ) (us : List X) → AllZip (λ place u. slice_get xs place ≡ Some u) places us
    → (vs : List Y) × AllZip (λ place v. slice_get ys place ≡ Some v) places vs × (map f us ≡ map g vs)
images f g xs ys same [] [] h = ([], tt, refl)
images f g xs ys same [] (u ∷ us) h = absurd h
images f g xs ys same (p ∷ ps) [] h = absurd h
images {X} {Y} {Z} f g xs ys same (p ∷ ps) (u ∷ us) h =
    let rest = images f g xs ys same ps us h.1 in
    let image : slice_get (map g ys) p ≡ Some (f u) = ap (λ (zs : List Z). slice_get zs p) (sym same) ∙ slice_get-map_at f xs p u h.0 in
    let source = slice_get-map_source g ys p (f u) image in
    (source.0 ∷ rest.0, (source.1, rest.1), ap (λ (z : Z). z ∷ map f us) (sym source.2) ∙ ap (λ (zs : List Z). g source.0 ∷ zs) rest.2)

-- what holds of all items holds of each, and of those at some places
at_place : {X : Type 0} (P : X → Type 0) (xs : List X) → All P xs → (n : ℕ) (x : X) → slice_get xs n ≡ Some x → P x
at_place P xs all n x e = subst P (get_or_from_slice_get xs n x x e) (all n x (slice_get_within xs n x e))

all_at : {X : Type 0} (P : X → Type 0) (xs : List X) → All P xs → (places : List ℕ) (us : List X) → AllZip (λ place u. slice_get xs place ≡ Some u) places us → All P us
all_at P xs all [] [] h = All-nil P
all_at P xs all [] (u ∷ us) h = absurd h
all_at P xs all (p ∷ ps) [] h = absurd h
all_at P xs all (p ∷ ps) (u ∷ us) h = All-cons P u us (at_place P xs all p u h.0) (all_at P xs all ps us h.1)

module _ (assertions : Assertions) (c : Context) (asserts : List Formula) (table : Terms) (numbers : List TermId) (consistent : IsConsistent c.declarations) (sound : AreSound c.declarations c.bodies)
    (sorted : All (λ t. IsSorted c.declarations [] t bool_sort) asserts) (stand : terms_at table numbers ≡ cores c asserts) where
  -- the formulas whose core terms stand at these places
  formulas_at : (places : List ℕ) (chosen : List TermId) → AreAt numbers places chosen → (ts : List Formula) × StandAt asserts places ts × (terms_at table chosen ≡ cores c ts)
  formulas_at places chosen are = images (term_at table) (core c) numbers asserts stand places chosen are

  pub refutes_at : (places : List ℕ) (derived : Derived) → IsRefutedAt c.declarations table numbers places derived → RefutesAt c asserts places derived
  refutes_at places derived is =
      let ts = formulas_at places is.chosen is.stand in
      record {
        chosen = ts.0;
        stand = ts.1;
        refutes = right assertions c ts.0 table is.chosen consistent sound (all_at (λ t. IsSorted c.declarations [] t bool_sort) asserts sorted places ts.0 ts.1) ts.2 0 (Unsat derived) is.refutation;
      }

  needs : (budget : ℕ) (given places : List ℕ) (place : ℕ) (need : Need) → IsNeed c.declarations table numbers budget given places place need → Needs c asserts budget given places place need
  needs budget given places place (Shown i) is = record {
    proper = is.proper;
    others = λ other t inside different at.
        let image : slice_get (terms_at table numbers) other ≡ Some (core c t) = ap (λ (zs : List CoreTree). slice_get zs other) stand ∙ slice_get-map_at (core c) asserts other t at in
        let source = slice_get-map_source (term_at table) numbers other (core c t) image in
        (truth assertions c (t ∷ []) table (source.0 ∷ []) consistent sound (All-cons (λ u. IsSorted c.declarations [] u bool_sort) t [] (at_place (λ u. IsSorted c.declarations [] u bool_sort) asserts sorted other t at) (All-nil (λ u. IsSorted c.declarations [] u bool_sort))) (ap (λ (z : CoreTree). z ∷ []) source.2) i is.proper).0
        (All-cons (λ u. truth_value c.declarations i table u ≡ true) source.0 [] (is.others other source.0 inside different source.1) (All-nil (λ u. truth_value c.declarations i table u ≡ true)));
  }
  needs budget given places place (Open spent) is =
      let ts = formulas_at is.asked is.chosen is.stand in
      record {
        tried = is.asked;
        part = is.part;
        others = is.others;
        without = is.without;
        chosen = ts.0;
        stand = ts.1;
        spending = right assertions c ts.0 table is.chosen consistent sound (all_at (λ t. IsSorted c.declarations [] t bool_sort) asserts sorted is.asked ts.0 ts.1) ts.2 budget (Unknown spent) is.spending;
      }

  pub shrunk_to : (budget : ℕ) (given : List ℕ) (shrunk : Shrunk) → IsShrunk c.declarations table numbers budget given shrunk → IsShrunkTo c asserts budget given shrunk
  shrunk_to budget given shrunk is = record {
    part = is.part;
    refutes = refutes_at shrunk.core.places.items shrunk.core.derivation is.refuted;
    needs = AllZip-weaker (IsNeed c.declarations table numbers budget given shrunk.core.places.items) (Needs c asserts budget given shrunk.core.places.items) (needs budget given shrunk.core.places.items) shrunk.core.places.items shrunk.needs.items is.needs;
  }
