-- Pairs of constructor terms with the steps of their arguments.
use Rattle.std.proofs.Common.{◌≡◌, ℕ, zero, suc, ◌+◌, ◌<◌, List, [], ◌∷◌, ◌++◌, length, take, get_or, Some, slice_get, refl, sym, subst}
use Rattle.std.proofs.lemmas.Option.{none-some, same_Some, slice_get-get_or}
use Rattle.ct_lemmas.proofs.Prefixes.{take-slice_get_next}
use Rattle.ct_terms.specs.declared.ids.TermId.{TermId}
use Rattle.ct_terms.specs.Terms.{Terms}
use Rattle.ct_rules.specs.declared.equation.Equation.{Equation}
use Rattle.ct_log.specs.declared.rules.Entry.{Entry}
use Rattle.ct_log.specs.declared.rules.Entry.TheVariants.{Step, Pair}
use Rattle.ct_log.specs.declared.rules.Pair as pairs
use Rattle.ct_log.specs.declared.rules.EqStep.TheVariants as step
use Rattle.ct_log.specs.Equations.{Gave, IsEntryFor, AreEntriesFor}
use Rattle.ct_congr.specs.State.{State}
use Rattle.ct_explain.specs.Writing.{Written, IsStep, HasWrittenMore}
use Rattle.ct_explain.specs.Pairs.{ToldEntry, ToldEntries, IsPairTold, ArePairsTold}
use Rattle.ct_explain.proofs.WritingLemmas.{Told-later}

ToldEntry-later : (state : State) (old new : Written) (equations : List Equation) (entry : Entry) (x y : TermId) → HasWrittenMore state old new → ToldEntry old equations entry x y → ToldEntry new equations entry x y
ToldEntry-later state old new equations (Step i) x y grown told = Told-later state old new i x y grown told
ToldEntry-later state old new equations (Pair k i j) x y grown told =
    (told.0, told.1, Told-later state old new i x told.0.left grown told.2, Told-later state old new j told.0.right y grown told.3)

ToldEntries-later : (state : State) (old new : Written) (equations : List Equation) (es : List Entry) (xs ys : List TermId) → HasWrittenMore state old new → ToldEntries old equations es xs ys → ToldEntries new equations es xs ys
ToldEntries-later state old new equations [] [] [] grown told = tt
ToldEntries-later state old new equations [] [] (b ∷ ys) grown told = absurd told
ToldEntries-later state old new equations [] (a ∷ xs) [] grown told = absurd told
ToldEntries-later state old new equations [] (a ∷ xs) (b ∷ ys) grown told = absurd told
ToldEntries-later state old new equations (e ∷ es) [] [] grown told = absurd told
ToldEntries-later state old new equations (e ∷ es) [] (b ∷ ys) grown told = absurd told
ToldEntries-later state old new equations (e ∷ es) (a ∷ xs) [] grown told = absurd told
ToldEntries-later state old new equations (e ∷ es) (a ∷ xs) (b ∷ ys) grown told =
    (ToldEntry-later state old new equations e a b grown told.0, ToldEntries-later state old new equations es xs ys grown told.1)

ToldEntries-push : (w : Written) (equations : List Equation) (es : List Entry) (xs ys : List TermId) (e : Entry) (x y : TermId) → ToldEntries w equations es xs ys → ToldEntry w equations e x y → ToldEntries w equations (es ++ e ∷ []) (xs ++ x ∷ []) (ys ++ y ∷ [])
ToldEntries-push w equations [] [] [] e x y told last = (last, tt)
ToldEntries-push w equations [] [] (b ∷ ys) e x y told last = absurd told
ToldEntries-push w equations [] (a ∷ xs) [] e x y told last = absurd told
ToldEntries-push w equations [] (a ∷ xs) (b ∷ ys) e x y told last = absurd told
ToldEntries-push w equations (f ∷ es) [] [] e x y told last = absurd told
ToldEntries-push w equations (f ∷ es) [] (b ∷ ys) e x y told last = absurd told
ToldEntries-push w equations (f ∷ es) (a ∷ xs) [] e x y told last = absurd told
ToldEntries-push w equations (f ∷ es) (a ∷ xs) (b ∷ ys) e x y told last = (told.0, ToldEntries-push w equations es xs ys e x y told.1 last)

-- the entry of the next two terms after those of the terms before
pub ToldEntries-next : (state : State) (old new : Written) (equations : List Equation) (es all : List Entry) (xs ys : List TermId) (i : ℕ) (entry : Entry) (d e : TermId)
    → HasWrittenMore state old new → i < length xs → length xs ≡ length ys → all ≡ es ++ entry ∷ []
    → ToldEntries old equations es (take i xs) (take i ys) → ToldEntry new equations entry (get_or xs i d) (get_or ys i e)
    → ToldEntries new equations all (take (i + 1) xs) (take (i + 1) ys)
ToldEntries-next state old new equations es all xs ys i entry d e grown within long all_are told last =
    let x_at = slice_get-get_or xs i d within in
    let y_at = slice_get-get_or ys i e (subst (λ (m : ℕ). i < m) long within) in
    let now = ToldEntries-later state old new equations es (take i xs) (take i ys) grown told in
    rw (all_are, take-slice_get_next xs i (get_or xs i d) x_at, take-slice_get_next ys i (get_or ys i e) y_at)
    (ToldEntries-push new equations es (take i xs) (take i ys) entry (get_or xs i d) (get_or ys i e) now last)

IsPairTold-later : (state : State) (terms : Terms) (old new : Written) (equations : List Equation) (e : Equation) (p : pairs.Pair) → HasWrittenMore state old new → IsPairTold terms old equations e p → IsPairTold terms new equations e p
IsPairTold-later state terms old new equations e p grown told = record {
  left = told.left;
  right = told.right;
  ctor = told.ctor;
  xs = told.xs;
  ys = told.ys;
  left_stands = told.left_stands;
  right_stands = told.right_stands;
  entries = ToldEntries-later state old new equations p.entries told.xs told.ys grown told.entries;
}

ArePairsTold-later : (state : State) (terms : Terms) (old new : Written) (equations es : List Equation) (ps : List pairs.Pair) → HasWrittenMore state old new → ArePairsTold terms old equations es ps → ArePairsTold terms new equations es ps
ArePairsTold-later state terms old new equations [] [] grown told = tt
ArePairsTold-later state terms old new equations [] (p ∷ ps) grown told = absurd told
ArePairsTold-later state terms old new equations (e ∷ es) [] grown told = absurd told
ArePairsTold-later state terms old new equations (e ∷ es) (p ∷ ps) grown told =
    (IsPairTold-later state terms old new equations e p grown told.0, ArePairsTold-later state terms old new equations es ps grown told.1)

ArePairsTold-push : (terms : Terms) (w : Written) (equations es : List Equation) (ps : List pairs.Pair) (e : Equation) (p : pairs.Pair) → ArePairsTold terms w equations es ps → IsPairTold terms w equations e p → ArePairsTold terms w equations (es ++ e ∷ []) (ps ++ p ∷ [])
ArePairsTold-push terms w equations [] [] e p told last = (last, tt)
ArePairsTold-push terms w equations [] (q ∷ ps) e p told last = absurd told
ArePairsTold-push terms w equations (f ∷ es) [] e p told last = absurd told
ArePairsTold-push terms w equations (f ∷ es) (q ∷ ps) e p told last = (told.0, ArePairsTold-push terms w equations es ps e p told.1 last)

-- the pair of the next equation after those before
pub ArePairsTold-next : (state : State) (terms : Terms) (old new : Written) (equations : List Equation) (ps all : List pairs.Pair) (i : ℕ) (p : pairs.Pair) (d : Equation)
    → HasWrittenMore state old new → i < length equations → all ≡ ps ++ p ∷ []
    → ArePairsTold terms old equations (take i equations) ps → IsPairTold terms new equations (get_or equations i d) p
    → ArePairsTold terms new equations (take (i + 1) equations) all
ArePairsTold-next state terms old new equations ps all i p d grown within all_are told last =
    let now = ArePairsTold-later state terms old new equations (take i equations) ps grown told in
    rw (all_are, take-slice_get_next equations i (get_or equations i d) (slice_get-get_or equations i d within))
    (ArePairsTold-push terms new equations (take i equations) ps (get_or equations i d) p now last)

-- each equation has its pair
pair_of : (terms : Terms) (w : Written) (equations es : List Equation) (ps : List pairs.Pair) (k : ℕ) (e : Equation) → ArePairsTold terms w equations es ps → slice_get es k ≡ Some e
    → (p : pairs.Pair) × (slice_get ps k ≡ Some p) × IsPairTold terms w equations e p
pair_of terms w equations [] ps k e told at = absurd (none-some e at)
pair_of terms w equations (f ∷ es) [] k e told at = absurd told
pair_of terms w equations (f ∷ es) (p ∷ ps) zero e told at = (p, refl, subst (λ (q : Equation). IsPairTold terms w equations q p) (same_Some f e at) told.0)
pair_of terms w equations (f ∷ es) (p ∷ ps) (suc k) e told at = pair_of terms w equations es ps k e told.1 at

-- and each pair its equation
equation_of : (terms : Terms) (w : Written) (equations es : List Equation) (ps : List pairs.Pair) (k : ℕ) (p : pairs.Pair) → ArePairsTold terms w equations es ps → slice_get ps k ≡ Some p
    → (e : Equation) × IsPairTold terms w equations e p
equation_of terms w equations es [] k p told at = absurd (none-some p at)
equation_of terms w equations [] (q ∷ ps) k p told at = absurd told
equation_of terms w equations (e ∷ es) (q ∷ ps) zero p told at = (e, subst (IsPairTold terms w equations e) (same_Some q p at) told.0)
equation_of terms w equations (e ∷ es) (q ∷ ps) (suc k) p told at = equation_of terms w equations es ps k p told.1 at

-- what the entry says of the equations it says of the pairs
entry_for : (terms : Terms) (w : Written) (equations : List Equation) (ps : List pairs.Pair) → ArePairsTold terms w equations equations ps
    → (before : List Equation) → length before ≡ w.first
    → (entry : Entry) (x y : TermId) → ToldEntry w equations entry x y → IsEntryFor (before ++ w.stated) ps entry x y
entry_for terms w equations ps all before long (Step i) x y told = told before long
entry_for terms w equations ps all before long (Pair k i j) x y told =
    let p = pair_of terms w equations equations ps k told.0 all told.1 in (
      p.0,
      p.1,
      subst (λ (q : TermId). Gave (before ++ w.stated) i x q) (sym p.2.left) (told.2 before long),
      subst (λ (q : TermId). Gave (before ++ w.stated) j q y) (sym p.2.right) (told.3 before long),
    )

entries_for : (terms : Terms) (w : Written) (equations : List Equation) (ps : List pairs.Pair) → ArePairsTold terms w equations equations ps
    → (before : List Equation) → length before ≡ w.first
    → (es : List Entry) (xs ys : List TermId) → ToldEntries w equations es xs ys → AreEntriesFor (before ++ w.stated) ps es xs ys
entries_for terms w equations ps all before long [] [] [] told = tt
entries_for terms w equations ps all before long [] [] (b ∷ ys) told = absurd told
entries_for terms w equations ps all before long [] (a ∷ xs) [] told = absurd told
entries_for terms w equations ps all before long [] (a ∷ xs) (b ∷ ys) told = absurd told
entries_for terms w equations ps all before long (e ∷ es) [] [] told = absurd told
entries_for terms w equations ps all before long (e ∷ es) [] (b ∷ ys) told = absurd told
entries_for terms w equations ps all before long (e ∷ es) (a ∷ xs) [] told = absurd told
entries_for terms w equations ps all before long (e ∷ es) (a ∷ xs) (b ∷ ys) told =
    (entry_for terms w equations ps all before long e a b told.0, entries_for terms w equations ps all before long es xs ys told.1)

-- so the pairs are unique, and the one at the place is of the two terms
pub uniqueness_step : (state : State) (w : Written) (equations : List Equation) (ps stored : List pairs.Pair) (place : ℕ) (x y : TermId)
    → ArePairsTold state.terms w equations equations ps → slice_get equations place ≡ Some (record { left = x; right = y }) → stored ≡ ps
    → IsStep state w (step.Unique place stored) x y
uniqueness_step state w equations ps stored place x y all at same =
    let asked = pair_of state.terms w equations equations ps place (record { left = x; right = y }) all at in
    let exact : IsStep state w (step.Unique place ps) x y = record {
      names = tt;
      gives = λ clause before long opposes. record {
        asked = asked.0;
        stands = asked.1;
        left = asked.2.left;
        right = asked.2.right;
        each = λ index p at.
            let told = (equation_of state.terms w equations equations ps index p all at).1 in
            record {
              ctor = told.ctor;
              xs = told.xs;
              ys = told.ys;
              left_stands = told.left_stands;
              right_stands = told.right_stands;
              entries = entries_for state.terms w equations ps all before long p.entries told.xs told.ys told.entries;
            };
      };
    } in
    subst (λ (l : List pairs.Pair). IsStep state w (step.Unique place l) x y) (sym same) exact
