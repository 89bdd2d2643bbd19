-- Tables that grow: what stands stays, and effects one after the other are one.
use Rattle.std.proofs.Common.{◌≡◌, ◌<◌, ◌≤◌, Err, IsErrOf, List, [], ◌∷◌, ◌++◌, length, Contains, sym, ap, subst, ◌∙◌, inl, inr, arith}
use Rattle.std.proofs.lemmas.List.{append-nil, append_assoc, length-append}
use Rattle.std.proofs.lemmas.Bool.{cases_lt}
use Rattle.ct_sorts.specs.Declarations.{Declarations}
use Rattle.ct_terms.specs.declared.ids.TermId.{TermId}
use Rattle.ct_terms.specs.declared.error.TermError.{TermError}
use Rattle.ct_terms.specs.Terms.{Terms, AreOrdered}
use Rattle.ct_terms.specs.CoreTree.{CoreTree, term_at}
use Rattle.ct_operators.specs.Effect.{Stands, AllStand, IsSoundTable, IsPrefix, Effect}

-- a prefix is not longer
pub prefix_length : (old new : Terms) → IsPrefix old new → length old ≤ length new
prefix_length old new h = omega (arith, ap (λ (ts : Terms). length ts) h.1, length-append old h.0)

pub prefix_trans : (a b c : Terms) → IsPrefix a b → IsPrefix b c → IsPrefix a c
prefix_trans a b c h k = (h.0 ++ k.0, k.1 ∙ ap (λ (ts : Terms). ts ++ k.0) h.1 ∙ append_assoc a h.0 k.0)

pub prefix_itself : (a : Terms) → IsPrefix a a
prefix_itself a = ([], sym (append-nil a))

-- a tree stays at its number
pub same_tree : (d : Declarations) (old new : Terms) (t : TermId) → IsPrefix old new → IsSoundTable d new → t.0 < length old → term_at new t ≡ term_at old t
same_tree d old new t grown kept within =
    ap (λ (ts : Terms). term_at ts t) grown.1 ∙ kept.theorems.longer old grown.0 t (subst AreOrdered grown.1 kept.ordered) within

pub stands_stays : (d : Declarations) (old new : Terms) (t : TermId) (tree : CoreTree) → IsPrefix old new → IsSoundTable d new → Stands old t tree → Stands new t tree
stands_stays d old new t tree grown kept h = (omega (arith, h.0, prefix_length old new grown), same_tree d old new t grown kept h.0 ∙ h.1)

pub all_stay : (d : Declarations) (old new : Terms) (ts : List TermId) (trees : List CoreTree) → IsPrefix old new → IsSoundTable d new → AllStand old ts trees → AllStand new ts trees
all_stay d old new [] [] grown kept h = h
all_stay d old new [] (u ∷ us) grown kept h = h
all_stay d old new (t ∷ ts) [] grown kept h = h
all_stay d old new (t ∷ ts) (u ∷ us) grown kept h = (stands_stays d old new t u grown kept h.0, all_stay d old new ts us grown kept h.1)

-- nothing done
pub effect_none : (d : Declarations) (allowed : List CoreTree) (table : Terms) (full : Type 0) → IsSoundTable d table → (full → ⊥) → Effect d allowed table table full
effect_none d allowed table full kept never = record {
  grown = prefix_itself table;
  kept = kept;
  adds = λ t from below. absurd (omega (arith, from, below));
  lacks = λ h. absurd (never h);
}

-- one after the other
pub effect_then : (d : Declarations) (allowed : List CoreTree) (old mid new : Terms) (first full : Type 0) → Effect d allowed old mid first → Effect d allowed mid new full → Effect d allowed old new full
effect_then d allowed old mid new first full h k = record {
  grown = prefix_trans old mid new h.grown k.grown;
  kept = k.kept;
  adds = λ t from below. elim (cases_lt t.0 (length mid)) [
    | inl under ↦ subst (Contains allowed) (sym (same_tree d mid new t k.grown k.kept under)) (h.adds t from under)
    | inr over ↦ k.adds t over below
  ];
  lacks = k.lacks;
}

-- another reason
pub effect_because : (d : Declarations) (allowed : List CoreTree) (old new : Terms) (first full : Type 0) → (full → first) → Effect d allowed old new first → Effect d allowed old new full
effect_because d allowed old new first full why h = record { grown = h.grown; kept = h.kept; adds = h.adds; lacks = λ e. h.lacks (why e) }

-- one error, of answers of two types
pub same_error : {X Y : Type 0} (e f : TermError) → IsErrOf {T = X} {E = TermError} (Err e) f → IsErrOf {T = Y} {E = TermError} (Err e) f
same_error {X} {Y} e f is = ap (λ (y : TermError). Err y) (inner is)
  where
    inner : IsErrOf {T = X} {E = TermError} (Err e) f → e ≡ f
    inner is = cc
