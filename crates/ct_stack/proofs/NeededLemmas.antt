-- Steps that add the sorts that they need, one after the other: what they come to together, and that this is one outcome.
use Rattle.std.proofs.Common.{◌≡◌, ◌∙◌, ℕ, List, [], ◌∷◌, ◌++◌, Result, Ok, Err, ◌⊎◌, inl, inr, refl, sym, ap, subst}
use Rattle.std.proofs.lemmas.List.{append_cancel_left}
use Rattle.ct_generics.specs.Add.{Adds}
use Rattle.ct_generics.specs.Declarations.{Head}
use Rattle.ct_generics.specs.Expression.{Expression}
use Rattle.ct_sexpr.specs.Expression.{Expression as Sexpr}
use Rattle.ct_sorts.specs.declared.ids.SortId.{SortId}
use Rattle.ct_sorts.specs.Consistent.{IsConsistent}
use Rattle.ct_sorts.specs.Declarations.{Declarations, IsSort, symbol_names, head_symbols, function_names, definition_names}
use Rattle.ct_sorts.specs.Grown.{Extends}
use Rattle.ct_sorts.specs.Instances.{IsWithSorts, HasNoRoom}
use Rattle.ct_sorts.specs.Made.{with_sorts}
use Rattle.ct_sorts.specs.Refusals.{too_many}
use Rattle.ct_names.specs.Needs.{Grows, Reaches, as_they_are, with_needed, ComesTo, ends_with}
use Rattle.ct_names.specs.Outcome.{Outcome, Elaborated, Halt, refused, missing, and_then, unless_halted}
use Rattle.ct_names.specs.Sorts.{sort_of}
use Rattle.ct_names.proofs.NeedLemmas.{reaches_both, reaches_first, reaches_same, reaches_along, reaches_further, reaches_grows, grows_itself, grows_further, begins_within}
use Rattle.ct_names.proofs.StayPatterns.{sort_stays}
use Rattle.ct_stack.specs.Outcomes.{IsErrorOr, GivesNeeding, each_of}
use Rattle.ct_stack.specs.Refusal.{IsErrorNeeding}
use Rattle.ct_stack.specs.Theorems.{AddSame}
use Rattle.ct_stack.proofs.OutcomeLemmas.{Completes, nothing_yet, one_more, all_taken}

-- ---- outcomes

ended_ok : {X : Type 0} (o : Elaborated X) (x : X) → ends_with too_many o ≡ Ok x → o ≡ Ok x
ended_ok (Ok y) x e = let same : y ≡ x = cc in ap (λ z. Ok z) same
ended_ok (Err (refused n)) x e = absurd cc
ended_ok (Err (missing m)) x e = absurd cc

ended_err : {X Y : Type 0} (o : Elaborated X) (g : X → Elaborated Y) (n : ℕ) → ends_with too_many o ≡ Err n → ends_with too_many (and_then o g) ≡ Err n
ended_err (Ok y) g n e = absurd cc
ended_err {X} {Y} (Err (refused m)) g n e = let same : m ≡ n = cc in ap (λ (k : ℕ). Err k) same
ended_err {X} {Y} (Err (missing m)) g n e = let same : too_many ≡ n = cc in ap (λ (k : ℕ). Err k) same

-- where a step has an error, what is missing in it and what follows is missing in it
missing_first : {X Y : Type 0} (o : Elaborated X) (g : X → Elaborated Y) (n : ℕ) (m : Expression) → ends_with too_many o ≡ Err n → and_then o g ≡ Err (missing m) → o ≡ Err (missing m)
missing_first (Ok y) g n m e is = absurd cc
missing_first (Err (refused k)) g n m e is = absurd cc
missing_first (Err (missing k)) g n m e is = let same : k ≡ m = cc in ap (λ (z : Expression). Err (missing z)) same

no_missing : {X : Type 0} (o : Elaborated X) (x : X) (m : Expression) → o ≡ Ok x → o ≡ Err (missing m) → ⊥
no_missing o x m e is = absurd cc

not_refused_missing : {X : Type 0} (o : Elaborated X) (n : ℕ) (m : Expression) → o ≡ Err (refused n) → o ≡ Err (missing m) → ⊥
not_refused_missing o n m e is = absurd cc

-- ---- one step

-- a step that needs no sort
pub comes_value : {X : Type 0} (f : Declarations → Elaborated X) (d : Declarations) (x : X) → f d ≡ Ok x → ComesTo f d d (Ok x)
comes_value f d x e = record { reaches = as_they_are d; ends = ap (ends_with too_many) e; full = λ m is. absurd (no_missing (f d) x m e is) }

pub comes_error : {X : Type 0} (f : Declarations → Elaborated X) (d : Declarations) (n : ℕ) → f d ≡ Err (refused n) → ComesTo f d d (Err n)
comes_error f d n e = record { reaches = as_they_are d; ends = ap (ends_with too_many) e; full = λ m is. absurd (not_refused_missing (f d) n m e is) }

pub comes_grows : {X : Type 0} (f : Declarations → Elaborated X) (d later : Declarations) (o : Outcome X) → ComesTo f d later o → Grows later d
comes_grows f d later o h = reaches_grows f d later h.reaches

pub value_there : {X : Type 0} (f : Declarations → Elaborated X) (d later : Declarations) (x : X) → ComesTo f d later (Ok x) → f later ≡ Ok x
value_there f d later x h = ended_ok (f later) x h.ends

-- a step that is the same at all declarations
pub comes_same : {X : Type 0} (f g : Declarations → Elaborated X) (d later : Declarations) (o : Outcome X) → ((n : Declarations) → g n ≡ f n) → ComesTo f d later o → ComesTo g d later o
comes_same f g d later o same h =
    record {
      reaches = reaches_same f g d later (λ n _. same n) h.reaches;
      ends = ap (ends_with too_many) (same later) ∙ h.ends;
      full = λ m is. h.full m (sym (same later) ∙ is);
    }

-- ---- steps one after the other

-- a step that has an error
pub comes_stop : {X Y : Type 0} (f : Declarations → Elaborated X) (g : Declarations → X → Elaborated Y) (d later : Declarations) (n : ℕ) → ComesTo f d later (Err n) → ComesTo (λ k. and_then (f k) (g k)) d later (Err n)
comes_stop f g d later n h =
    record {
      reaches = reaches_first f g d later h.reaches;
      ends = ended_err (f later) (g later) n h.ends;
      full = λ m is. h.full m (missing_first (f later) (g later) n m h.ends is);
    }

-- a step that gives a value, which stays, and what follows it
pub comes_then : {X Y : Type 0} (f : Declarations → Elaborated X) (g : Declarations → X → Elaborated Y) (d middle later : Declarations) (x : X) (o : Outcome Y) → ComesTo f d middle (Ok x) → ((n : Declarations) → Grows n middle → f n ≡ Ok x) → ComesTo (λ k. g k x) middle later o → ComesTo (λ k. and_then (f k) (g k)) d later o
comes_then f g d middle later x o first stays second =
    let there : f later ≡ Ok x = stays later (reaches_grows (λ k. g k x) middle later second.reaches) in
    let whole : and_then (f later) (g later) ≡ g later x = ap (λ r. and_then r (g later)) there in
    record {
      reaches = reaches_both f g d middle later x first.reaches stays second.reaches;
      ends = ap (ends_with too_many) whole ∙ second.ends;
      full = λ m is. second.full m (sym whole ∙ is);
    }

-- what is the same from here on
pub comes_from : {Y : Type 0} (f g : Declarations → Elaborated Y) (d now later : Declarations) (o : Outcome Y) → Reaches f d now → ((n : Declarations) → Grows n now → f n ≡ g n) → ComesTo g now later o → ComesTo f d later o
comes_from f g d now later o first same h =
    let there : f later ≡ g later = same later (reaches_grows g now later h.reaches) in
    record {
      reaches = reaches_further f d now later first (reaches_same g f now later same h.reaches);
      ends = ap (ends_with too_many) there ∙ h.ends;
      full = λ m is. h.full m (sym there ∙ is);
    }

-- a step that gives a value, and what needs no sort after it
module _ {X Y : Type 0} (f : Declarations → Elaborated X) (g : Declarations → X → Elaborated Y) (d later : Declarations) (x : X) (h : ComesTo f d later (Ok x)) where
  after : and_then (f later) (g later) ≡ g later x
  after = ap (λ r. and_then r (g later)) (value_there f d later x h)

  pub comes_last : (y : Y) → g later x ≡ Ok y → ComesTo (λ k. and_then (f k) (g k)) d later (Ok y)
  comes_last y e =
      record {
        reaches = reaches_first f g d later h.reaches;
        ends = ap (ends_with too_many) (after ∙ e);
        full = λ m is. absurd (no_missing (g later x) y m e (sym after ∙ is));
      }

  pub comes_no_last : (n : ℕ) → g later x ≡ Err (refused n) → ComesTo (λ k. and_then (f k) (g k)) d later (Err n)
  comes_no_last n e =
      record {
        reaches = reaches_first f g d later h.reaches;
        ends = ap (ends_with too_many) (after ∙ e);
        full = λ m is. absurd (not_refused_missing (g later x) n m e (sym after ∙ is));
      }

-- ---- the same step for each of these

-- all that was needed is there, and these are the values so far
pub record IsUnderWay {X Y : Type 0} (step : Declarations → X → Elaborated Y) (whole : List X) (old now : Declarations) (out : List Y) (left : List X) : Type 0 where
  pub reaches : Reaches (λ d. each_of (step d) whole) old now
  pub completes : (n : Declarations) → Grows n now → Completes (step n) (each_of (step n) whole) out left

module _ {X Y : Type 0} (step : Declarations → X → Elaborated Y) (whole : List X) (old : Declarations) where
  pub under_way : IsUnderWay step whole old old [] whole
  under_way = record { reaches = as_they_are old; completes = λ n _. nothing_yet (step n) whole }

  module _ (now : Declarations) (out : List Y) where
    pub all_come : IsUnderWay step whole old now out [] → ComesTo (λ d. each_of (step d) whole) old now (Ok out)
    all_come h =
        let value = all_taken (step now) (each_of (step now) whole) out (h.completes now (grows_itself now)) in
        record { reaches = h.reaches; ends = ap (ends_with too_many) value; full = λ m is. absurd (no_missing (each_of (step now) whole) out m value is) }

    pub all_last : IsUnderWay step whole old now out [] → (n : Declarations) → Grows n now → each_of (step n) whole ≡ Ok out
    all_last h n grows = all_taken (step n) (each_of (step n) whole) out (h.completes n grows)

    module _ (x : X) (left : List X) (h : IsUnderWay step whole old now out (x ∷ left)) where
      -- what the whole comes to from here on
      abbrev rest : Declarations → Y → Elaborated (List Y)
      rest n y = and_then (and_then (each_of (step n) left) (λ ys. Ok (y ∷ ys))) (λ ys. Ok (out ++ ys))

      fused : {E : Type 0} (o : Result Y E) (f : Y → Result (List Y) E) (g : List Y → Result (List Y) E) → and_then (and_then o f) g ≡ and_then o (λ y. and_then (f y) g)
      fused (Ok y) f g = refl
      fused (Err e) f g = refl

      same : (n : Declarations) → Grows n now → each_of (step n) whole ≡ and_then (step n x) (rest n)
      same n grows = h.completes n grows ∙ fused (step n x) (λ y. and_then (each_of (step n) left) (λ ys. Ok (y ∷ ys))) (λ ys. Ok (out ++ ys))

      pub one_stops : (later : Declarations) (n : ℕ) → ComesTo (λ d. step d x) now later (Err n) → ComesTo (λ d. each_of (step d) whole) old later (Err n)
      one_stops later n stops =
          comes_from (λ d. each_of (step d) whole) (λ d. and_then (step d x) (rest d)) old now later (Err n) h.reaches same
          (comes_stop (λ d. step d x) rest now later n stops)

      pub one_comes : (later : Declarations) (y : Y) → ComesTo (λ d. step d x) now later (Ok y) → ((n : Declarations) → Grows n later → step n x ≡ Ok y) → IsUnderWay step whole old later (out ++ y ∷ []) left
      one_comes later y comes lasts =
          let grows = reaches_grows (λ d. step d x) now later comes.reaches in
          record {
            reaches = reaches_further (λ d. each_of (step d) whole) old now later h.reaches
                (reaches_same (λ d. and_then (step d x) (rest d)) (λ d. each_of (step d) whole) now later same (reaches_first (λ d. step d x) rest now later comes.reaches));
            completes = λ n more. one_more (step n) (each_of (step n) whole) out x y left (lasts n more) (h.completes n (grows_further n later now more grows));
          }

-- ---- sorts that are there

pub inside_further : (later d : Declarations) (s : SortId) → Extends later d → IsSort d s → IsSort later s
inside_further later d s grown is = begins_within d.sorts later.sorts grown.sorts s.0 is

-- the sort that an expression writes stays
pub sort_lasts : (d later : Declarations) (e : Sexpr) (s : SortId) → IsConsistent later → ComesTo (λ k. sort_of k e) d later (Ok s) → (n : Declarations) → Grows n later → sort_of n e ≡ Ok s
sort_lasts d later e s c h n grows = (sort_stays n later grows c e s (value_there (λ k. sort_of k e) d later s h)).0

-- ---- one outcome

-- where sorts were added once, they are added no other way
one_addition : AddSame → (d one other : Declarations) (e : Expression) → IsWithSorts d (e ∷ []) one → IsWithSorts d (e ∷ []) other → one ≡ other
one_addition add_same d one other e h k =
    let same : h.0 ≡ k.0 = append_cancel_left d.origins h.0 k.0 (add_same d.declared.heads (e ∷ []) d.origins (d.origins ++ h.0) (d.origins ++ k.0) h.1.0 k.1.0) in
    h.2 ∙ ap (λ (added : List Expression). with_sorts d added) same ∙ sym k.2

-- the first sort that a step needs, where it needs one
abbrev First : {X : Type 0} → (Declarations → Elaborated X) → Declarations → Declarations → Type 0
First f d later = (later ≡ d) ⊎ ((more : Declarations) × (e : Expression) × (f d ≡ Err (missing e)) × IsWithSorts d (e ∷ []) more × Reaches f more later)

first_of : {X : Type 0} (f : Declarations → Elaborated X) (d later : Declarations) → Reaches f d later → First f d later
first_of f _ _ (as_they_are d) = inl refl
first_of f _ _ (with_needed d more later e is added rest) = inr (more, e, is, added, rest)

one_need : {X : Type 0} (o : Elaborated X) (e k : Expression) → o ≡ Err (missing e) → o ≡ Err (missing k) → k ≡ e
one_need o e k is also = cc

-- no step needs a sort after these declarations
abbrev IsFull : {X : Type 0} → (Declarations → Elaborated X) → Declarations → Type 0
IsFull f d = (e : Expression) → f d ≡ Err (missing e) → HasNoRoom d (e ∷ [])

no_room : (d more : Declarations) (e : Expression) → HasNoRoom d (e ∷ []) → IsWithSorts d (e ∷ []) more → ⊥
no_room d more e none h = none h.0 h.1

one_end : {X : Type 0} → AddSame → (f : Declarations → Elaborated X) (d one other : Declarations) → Reaches f d one → IsFull f one → First f d other → IsFull f other → one ≡ other
one_end add_same f _ _ other (as_they_are d) full (inl same) _ = sym same
one_end add_same f _ _ other (as_they_are d) full (inr (more, e, is, added, rest)) _ = absurd (no_room d more e (full e is) added)
one_end add_same f _ _ other (with_needed d more one e is added rest) full (inl same) also =
    absurd (no_room d more e (subst (IsFull f) same also e is) added)
one_end add_same f _ _ other (with_needed d more one e is added rest) full (inr (between, k, needs, with_it, after)) also =
    let same : k ≡ e = one_need (f d) e k is needs in
    let between_is : between ≡ more = one_addition add_same d between more e (subst (λ (x : Expression). IsWithSorts d (x ∷ []) between) same with_it) added in
    one_end add_same f more one other rest full (first_of f more other (subst (λ (x : Declarations). Reaches f x other) between_is after)) also

module _ {X : Type 0} (add_same : AddSame) (f : Declarations → Elaborated X) (d : Declarations) where
  pub one_later : (one other : Declarations) (o p : Outcome X) → ComesTo f d one o → ComesTo f d other p → one ≡ other
  one_later one other o p h k = one_end add_same f d one other h.reaches h.full (first_of f d other k.reaches) k.full

  pub one_outcome : (one other : Declarations) (o p : Outcome X) → ComesTo f d one o → ComesTo f d other p → o ≡ p
  one_outcome one other o p h k = sym h.ends ∙ ap (λ (n : Declarations). ends_with too_many (f n)) (one_later one other o p h k) ∙ k.ends

  same_value : (x y : X) → (let o : Outcome X = Ok x in o) ≡ Ok y → y ≡ x
  same_value x y e = cc

  -- where two values come of it, they are one, over one list of declarations
  pub one_value : (one other : Declarations) (x y : X) → ComesTo f d one (Ok x) → ComesTo f d other (Ok y) → (other ≡ one) × (y ≡ x)
  one_value one other x y h k = (sym (one_later one other (Ok x) (Ok y) h k), same_value x y (one_outcome one other (Ok x) (Ok y) h k))

  -- a value that is not refused
  pub accepted_needing : (later_refusal : Declarations → X → ℕ → Type 0) (later : Declarations) (x : X) → ComesTo f d later (Ok x) → ((n : ℕ) → later_refusal later x n → ⊥) → (n : ℕ) → IsErrorNeeding f d later_refusal n → ⊥
  accepted_needing later_refusal later x h none n (other, outcome, comes, is) =
      none n
      (subst (λ (o : Outcome X). IsErrorOr o (later_refusal later) n) (one_outcome other later outcome (Ok x) comes h)
      (subst (λ (y : Declarations). IsErrorOr outcome (later_refusal y) n) (one_later other later outcome (Ok x) comes h) is))

module _ {X : Type 0} (f : Declarations → Elaborated X) (d : Declarations) where
  -- a step that is refused
  pub refused_needing : (later_refusal : Declarations → X → ℕ → Type 0) (later : Declarations) (n : ℕ) → ComesTo f d later (Err n) → IsErrorNeeding f d later_refusal n
  refused_needing later_refusal later n h = (later, Err n, h, refl)

  -- a value that is refused
  pub value_needing : (later_refusal : Declarations → X → ℕ → Type 0) (later : Declarations) (x : X) (n : ℕ) → ComesTo f d later (Ok x) → later_refusal later x n → IsErrorNeeding f d later_refusal n
  value_needing later_refusal later x n h is = (later, Ok x, h, is)

  -- what holds of the value that a step gives
  pub given_needing : (holds : Declarations → X → Type 0) (later : Declarations) (x : X) → ComesTo f d later (Ok x) → holds later x → GivesNeeding f d holds
  given_needing holds later x h is = (later, x, h, is)

-- ---- names

same_spellings : {X : Type 0} (f : Declarations → Elaborated X) (d later : Declarations) → Reaches f d later → later.spellings ≡ d.spellings
same_spellings f _ _ (as_they_are d) = refl
same_spellings f _ _ (with_needed d more later e is added rest) =
    same_spellings f more later rest ∙ subst (λ (x : Declarations). x.spellings ≡ d.spellings) (sym added.2) refl

-- a symbol has no other name where sorts were added
pub same_names : {X : Type 0} (f : Declarations → Elaborated X) (d later : Declarations) (o : Outcome X) → ComesTo f d later o → symbol_names later ≡ symbol_names d
same_names f d later o h =
    let grows = reaches_grows f d later h.reaches in
    ap (λ spellings. head_symbols spellings ++ (function_names later ++ definition_names later)) (same_spellings f d later h.reaches)
    ∙ ap (λ functions. head_symbols d.spellings ++ (functions ++ definition_names later)) (ap (λ fs. function_names (record d { functions = fs })) grows.functions)
    ∙ ap (λ definitions. head_symbols d.spellings ++ (function_names d ++ definitions)) (ap (λ fs. definition_names (record d { definitions = fs })) grows.definitions)
