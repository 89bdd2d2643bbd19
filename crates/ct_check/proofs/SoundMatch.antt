-- A `match` with terms that are well sorted is well sorted.
use Rattle.std.proofs.Common.{◌≡◌, ℕ, inl, inr, Bool, true, false, ◌==◌, List, [], ◌∷◌, Option, Some, None, option_map, unwrap_or, slice_get, Ok, refl, sym, ◌∙◌, ap, subst}
use Rattle.std.specs.List.{list_any, list_all}
use Rattle.std.proofs.lemmas.Bool.{false≢true}
use Rattle.std.proofs.lemmas.Bool.Decides.{Decides-eqb}
use Rattle.ct_lemmas.proofs.Lists.{list_all-at}
use Rattle.ct_sorts.specs.declared.ids.SortId.{SortId}
use Rattle.ct_sorts.specs.declared.ids.CtorId.{CtorId}
use Rattle.ct_sorts.specs.Declarations.{Declarations, Sort, Constructor, IsSort}
use Rattle.ct_formulas.specs.declared.tree.Pattern.{Pattern}
use Rattle.ct_formulas.specs.declared.tree.Pattern.TheVariants.{Ctor, Any}
use Rattle.ct_formulas.specs.Formula as formula
use Rattle.ct_formulas.specs.Formula.{Formula, Cases, no_cases, with_case, bind}
use Rattle.ct_formulas.specs.FormulaSorts.{BindsSorts, IsSorted, AreSortedCases, HasPattern, IsExhaustive, HasSomeCase, IsMatchable}
use Rattle.ct_names.specs.Refusals.{wrong_sort, not_exhaustive, out_of_scope}
use Rattle.ct_names.specs.Outcome.{Sorted, step}
use Rattle.ct_names.specs.Variables.{Variable, ScopeIn, variable_sorts}
use Rattle.ct_names.specs.Parts.{Part, Parts, atom_part, list_part, no_parts, with_part}
use Rattle.ct_names.specs.Forms.{are_cases}
use Rattle.ct_names.specs.Patterns.{pattern, matchable, are_exhaustive, fits_all, is_of_ctor, sort_ctors}
use Rattle.ct_names.specs.Elaboration.{Checked, no_more, with_case_before, goes_with, meaning_of_part, checked_cases, matched_cases, exhausted, match_of}
use Rattle.ct_names.proofs.StayLemmas.{ScopeIn-bind}
use Rattle.ct_check.proofs.Inversions.{and_then-inverse, halted-inverse, step-inverse, same_value, one_sort}
use Rattle.ct_check.proofs.SymbolSorts.{Theorems}
use Rattle.ct_check.proofs.SoundLemmas.{IsSoundPart, AreSoundParts, HasOwnSort, carried, meaning_sound, meaning_inside}
use Rattle.ct_check.proofs.SoundForms.{map-bind}
use Rattle.ct_check.proofs.SoundPatterns.{pattern_sound, matchable_sound}

-- the patterns of cases
abbrev patterns_of : Cases → List Pattern
patterns_of no_cases = []
patterns_of (with_case p body cases) = p ∷ patterns_of cases

-- a case that fits everything
any_fits : (cases : Cases) → list_any fits_all (patterns_of cases) ≡ true → HasPattern Any cases
any_fits no_cases e = absurd (false≢true e)
any_fits (with_case Any body cases) e = inl refl
any_fits (with_case (Ctor c) body cases) e = inr (any_fits cases e)

-- a case of the constructor
of_ctor : (c : CtorId) (cases : Cases) → list_any (is_of_ctor c) (patterns_of cases) ≡ true → HasPattern (Ctor c) cases
of_ctor c no_cases e = absurd (false≢true e)
of_ctor c (with_case Any body cases) e = inr (of_ctor c cases e)
of_ctor c (with_case (Ctor k) body cases) e = by (k.0 == c.0) refl (of_ctor c cases)
  where
    by : (b : Bool) → (k.0 == c.0) ≡ b → (list_any (is_of_ctor c) (patterns_of cases) ≡ true → HasPattern (Ctor c) cases) → HasPattern (Ctor c) (with_case (Ctor k) body cases)
    by true is further =
        let n : k.0 ≡ c.0 = (Decides-eqb k.0 c.0).0 is in
        let same : k ≡ c = ap (λ (i : ℕ). record { 0 = i }) n in
        inl (ap (λ (x : CtorId). Ctor x) (sym same))
    by false is further =
        let rest : list_any (is_of_ctor c) (patterns_of cases) ≡ true = rw is at e in
        inr (further rest)

ctors_at : Option Sort → List CtorId
ctors_at o = unwrap_or (option_map (λ (sort : Sort). sort.ctors) o) []

each_ctor : (d : Declarations) (theorems : Theorems d) (side : SortId) (cases : Cases) → list_all (λ c. list_any (is_of_ctor c) (patterns_of cases)) (sort_ctors d side) ≡ true → (c : CtorId) (ctor : Constructor) → slice_get d.ctors c.0 ≡ Some ctor → ctor.sort ≡ side → HasPattern (Ctor c) cases
unfolding ctors_at
each_ctor d theorems side cases all c ctor at own =
    let owner = theorems.of_their_sorts c.0 ctor at in
    let there : slice_get d.sorts side.0 ≡ Some owner.0 = subst (λ (s : SortId). slice_get d.sorts s.0 ≡ Some owner.0) own owner.2 in
    let ctors : sort_ctors d side ≡ owner.0.ctors = ap ctors_at there in
    of_ctor c cases (list_all-at (λ k. list_any (is_of_ctor k) (patterns_of cases)) (sort_ctors d side) owner.1 c all (ap (λ (cs : List CtorId). slice_get cs owner.1) ctors ∙ owner.3))

exhaustive_sound : (d : Declarations) (theorems : Theorems d) (side : SortId) (cases : Cases) → are_exhaustive d side (patterns_of cases) ≡ true → IsExhaustive d side cases
exhaustive_sound d theorems side cases e = by (list_any fits_all (patterns_of cases)) refl
  where
    by : (b : Bool) → list_any fits_all (patterns_of cases) ≡ b → IsExhaustive d side cases
    by true is = inl (any_fits cases is)
    by false is = inr (each_ctor d theorems side cases (rw is at e))

-- the cases after some of this sort, where there are any
record AreChecked (d : Declarations) (env : List SortId) (side : SortId) (given : Option SortId) (k : Checked) : Type 0 where
  sorted : (s : SortId) → k.sort ≡ Some s → AreSortedCases d env side k.cases s
  stays : (s : SortId) → given ≡ Some s → k.sort ≡ Some s
  patterns : patterns_of k.cases ≡ k.patterns
  some : (s : SortId) → k.sort ≡ Some s → given ≡ None → HasSomeCase k.cases

goes : (given : Option SortId) (s t : SortId) → goes_with given t ≡ true → given ≡ Some s → t ≡ s
goes None s t e is = absurd cc
goes (Some first) s t e is =
    let same : first ≡ s = cc in
    one_sort t first e ∙ same

module _ (d : Declarations) (theorems : Theorems d) (scope : List Variable) (inside : ScopeIn d scope) (side : SortId) (there : IsSort d side) where
  none_checked : (given : Option SortId) → AreChecked d (variable_sorts scope) side given (no_more given)
  none_checked given = record {
    sorted = λ s e. tt;
    stays = λ s e. e;
    patterns = refl;
    some = λ s e none. let w : None ≡ Some s = sym none ∙ e in absurd cc;
  }

  -- one case before others
  one_checked : (given : Option SortId) (p : Pattern) (vs : List Variable) (body : Sorted) (k : Checked) → BindsSorts d side p (variable_sorts vs) → goes_with given body.1 ≡ true → IsSorted d (bind (variable_sorts vs) (variable_sorts scope)) body.0 body.1 → AreChecked d (variable_sorts scope) side (Some body.1) k → AreChecked d (variable_sorts scope) side given (with_case_before p body.0 k)
  one_checked given p vs body k binds follows sorted rest = record {
    sorted = λ s e.
        let same : body.1 ≡ s = let w : Some body.1 ≡ Some s = sym (rest.stays body.1 refl) ∙ e in cc in
        ((variable_sorts vs, binds, subst (λ (r : SortId). IsSorted d (bind (variable_sorts vs) (variable_sorts scope)) body.0 r) same sorted), rest.sorted s e);
    stays = λ s e. rest.stays body.1 refl ∙ ap (λ (r : SortId). Some r) (goes given s body.1 follows e);
    patterns = ap (λ (ps : List Pattern). p ∷ ps) rest.patterns;
    some = λ s e none. tt;
  }

  cases_sound : (given : Option SortId) (cs : Parts) → AreSoundParts d cs → (k : Checked) → checked_cases d scope side given cs ≡ Ok k → AreChecked d (variable_sorts scope) side given k
  cases_sound given no_parts sound k e = subst (λ (x : Checked). AreChecked d (variable_sorts scope) side given x) (same_value (no_more given) k e) (none_checked given)
  cases_sound given (with_part (list_part (with_part p (with_part body no_parts)) m) cs) sound k e =
      let fits = and_then-inverse (step (pattern d side p)) _ k e in
      let binds = pattern_sound d theorems side there p fits.0 (step-inverse (pattern d side p) fits.0 fits.1) in
      let inner = bind fits.0.1 scope in
      let inner_inside : ScopeIn d inner = ScopeIn-bind d fits.0.1 scope binds.1 inside in
      let means = and_then-inverse (meaning_of_part d inner body) _ k fits.2 in
      let follows = halted-inverse (goes_with given means.0.1) wrong_sort _ k means.2 in
      let rest = and_then-inverse (checked_cases d scope side (Some means.0.1) cs) (λ checked. Ok (with_case_before fits.0.0 means.0.0 checked)) k follows.1 in
      let sorted : IsSorted d (variable_sorts inner) means.0.0 means.0.1 = meaning_sound d theorems inner inner_inside body sound.0.0.1.0 means.0 means.1 in
      subst (λ (x : Checked). AreChecked d (variable_sorts scope) side given x) (same_value (with_case_before fits.0.0 means.0.0 rest.0) k rest.2)
      (one_checked given fits.0.0 fits.0.1 means.0 rest.0 binds.0 follows.0
      (subst (λ (env : List SortId). IsSorted d env means.0.0 means.0.1) (map-bind (λ (v : Variable). v.sort) fits.0.1 scope) sorted)
      (cases_sound (Some means.0.1) cs sound.1 rest.0 rest.1))
  cases_sound given (with_part (atom_part a) cs) sound k e = absurd cc
  cases_sound given (with_part (list_part no_parts m) cs) sound k e = absurd cc
  cases_sound given (with_part (list_part (with_part p no_parts) m) cs) sound k e = absurd cc
  cases_sound given (with_part (list_part (with_part p (with_part body (with_part x ps))) m) cs) sound k e = absurd cc

  matched_sound : (subject : Formula) (k : Checked) → IsSorted d (variable_sorts scope) subject side → IsMatchable d side → AreChecked d (variable_sorts scope) side None k → are_exhaustive d side k.patterns ≡ true → (sort : Option SortId) → k.sort ≡ sort → (t : Sorted) → matched_cases subject k sort ≡ Ok t → HasOwnSort d (variable_sorts scope) t
  matched_sound subject k sorted matches are all None is t e = absurd cc
  matched_sound subject k sorted matches are all (Some sort) is t e =
      let every : are_exhaustive d side (patterns_of k.cases) ≡ true = subst (λ (ps : List Pattern). are_exhaustive d side ps ≡ true) (sym are.patterns) all in
      carried d (variable_sorts scope) (formula.Match subject k.cases, sort) t e
      (side, sorted, matches, are.some sort is refl, are.sorted sort is, exhaustive_sound d theorems side k.cases every)

pub cases_of_sound : (d : Declarations) (theorems : Theorems d) (scope : List Variable) → ScopeIn d scope → (p : Part) (cs : Parts) → IsSoundPart d p → AreSoundParts d cs → (t : Sorted) → match_of d scope p cs ≡ Ok t → HasOwnSort d (variable_sorts scope) t
cases_of_sound d theorems scope inside p cs sound_p sound_cs t e =
    let form = halted-inverse (are_cases cs) out_of_scope _ t e in
    let subject = and_then-inverse (meaning_of_part d scope p) _ t form.1 in
    let side = and_then-inverse (step (matchable d subject.0.1)) _ t subject.2 in
    let checked = and_then-inverse (checked_cases d scope side.0 None cs) (λ k. exhausted d subject.0 k) t side.2 in
    let all = halted-inverse (are_exhaustive d subject.0.1 checked.0.patterns) not_exhaustive (matched_cases subject.0.0 checked.0 checked.0.sort) t checked.2 in
    let matches = matchable_sound d subject.0.1 side.0 (step-inverse (matchable d subject.0.1) side.0 side.1) in
    let there : IsSort d subject.0.1 = meaning_inside d theorems scope inside p sound_p subject.0 subject.1 in
    let same : checked_cases d scope subject.0.1 None cs ≡ Ok checked.0 = ap (λ (s : SortId). checked_cases d scope s None cs) (sym matches.0) ∙ checked.1 in
    let are : AreChecked d (variable_sorts scope) subject.0.1 None checked.0 = cases_sound d theorems scope inside subject.0.1 there None cs sound_cs checked.0 same in
    matched_sound d theorems scope inside subject.0.1 there subject.0.0 checked.0 (meaning_sound d theorems scope inside p sound_p subject.0 subject.1) matches.1 are all.0 checked.0.sort refl t all.1
