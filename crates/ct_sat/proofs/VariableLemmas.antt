-- The variables of a table.
use Rattle.std.proofs.Common.{◌≡◌, ℕ, ◌+◌, ◌<◌, ◌≤◌, inl, inr, List, [], ◌∷◌, ◌++◌, length, All, Contains, sym, ap, subst, arith}
use Rattle.std.proofs.lemmas.Option.{none-some, slice_get_within}
use Rattle.std.proofs.lemmas.List.{length_push}
use Rattle.std.proofs.lemmas.List.Elements.{All-push, All-nil, Contains-append_left, Contains-push}
use Rattle.ct_lemmas.proofs.Each.{All-at}
use Rattle.ct_lemmas.proofs.Lists.{slice_get-push_cases}
use Rattle.ct_lemmas.proofs.Numbers.{last_or_before}
use Rattle.ct_terms.specs.declared.ids.TermId.{TermId}
use Rattle.ct_terms.specs.Terms.{Terms}
use Rattle.ct_terms.specs.Literal.{IsStripped}
use Rattle.ct_sat.specs.State.{AreIncreasing, AreVariables}

-- the variables whose numbers are below a bound
pub record AreVariablesBelow (table : Terms) (n : ℕ) (variables : List TermId) : Type 0 where
  pub boolean : All (IsStripped table) variables
  pub below : All (λ t. t.0 < n) variables
  pub each : (t : TermId) → t.0 < n → IsStripped table t → Contains variables t
  pub increasing : AreIncreasing variables

pub AreVariablesBelow-none : (table : Terms) → AreVariablesBelow table 0 []
AreVariablesBelow-none table = record {
  boolean = All-nil (IsStripped table);
  below = All-nil (λ t. t.0 < 0);
  each = λ t below. absurd (omega arith);
  increasing = λ i j t u h at. absurd (none-some t at);
}

-- a term with this number is this term
same_term : (t : TermId) (n : ℕ) → t.0 ≡ n → t ≡ record { 0 = n }
same_term t n e = let of : ℕ → TermId = λ k. record { 0 = k } in ap of e

pub AreVariablesBelow-skip : (table : Terms) (n : ℕ) (variables : List TermId) → AreVariablesBelow table n variables → (IsStripped table (record { 0 = n }) → ⊥) → AreVariablesBelow table (n + 1) variables
AreVariablesBelow-skip table n variables old other = record {
  boolean = old.boolean;
  below = λ k d h. (let b = old.below k d h in omega arith);
  each = λ t below stripped. elim (last_or_before t.0 n below) [
    | inl b ↦ old.each t b stripped
    | inr e ↦ absurd (other (subst (IsStripped table) (same_term t n e) stripped))
  ];
  increasing = old.increasing;
}

pub AreVariablesBelow-push : (table : Terms) (n : ℕ) (variables : List TermId) → AreVariablesBelow table n variables → IsStripped table (record { 0 = n }) → AreVariablesBelow table (n + 1) (variables ++ record { 0 = n } ∷ [])
AreVariablesBelow-push table n variables old here = record {
  boolean = All-push (IsStripped table) variables new old.boolean here;
  below = All-push (λ t. t.0 < n + 1) variables new (λ k d h. (let b = old.below k d h in omega arith)) (omega arith);
  each = λ t below stripped. elim (last_or_before t.0 n below) [
    | inl b ↦ Contains-append_left variables (new ∷ []) t (old.each t b stripped)
    | inr e ↦ subst (Contains (variables ++ new ∷ [])) (sym (same_term t n e)) (Contains-push variables new)
  ];
  increasing = λ i j t u h at_i at_j. elim (slice_get-push_cases variables new t i at_i) [
    | inl old_t ↦ elim (slice_get-push_cases variables new u j at_j) [
      | inl old_u ↦ old.increasing i j t u h old_t old_u
      | inr last ↦ subst (λ (x : TermId). t.0 < x.0) last.1 (All-at (λ x. x.0 < n) variables i t old.below old_t)
    ]
    | inr last ↦ (let within = slice_get_within (variables ++ new ∷ []) j u at_j in let more = length_push variables new in let is = last.0 in absurd (omega arith))
  ];
}
  where
    new : TermId
    new = record { 0 = n }

-- all variables of the table
pub AreVariables-all : (table : Terms) (n : ℕ) (variables : List TermId) → length table ≤ n → AreVariablesBelow table n variables → AreVariables table variables
AreVariables-all table n variables long h = record {
  boolean = h.boolean;
  each = λ t stripped. h.each t (let within = slice_get_within table t.0 _ stripped.0.1 in omega arith) stripped;
  increasing = h.increasing;
}
