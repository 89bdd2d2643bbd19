-- When a synonym is refused, and that declarations with one more extend those before.
use Rattle.std.proofs.Common.{◌≡◌, ◌∙◌, ℕ, ◌<◌, ◌≤◌, ◌⊎◌, inl, inr, Bool, true, false, List, [], ◌∷◌, ◌++◌, length, Result, Ok, Err, OnOk, refl, sym, ap, subst}
use Rattle.std.proofs.lemmas.List.{append-nil}
use Rattle.ct_generics.specs.declared.expr.SortExpr.{SortExpr}
use Rattle.ct_generics.specs.Expression.{Expression as SortExpression}
use Rattle.ct_generics.specs.Resolved.{resolved}
use Rattle.ct_generics.specs.Synonyms.{with_synonym, IsSynonymRefusal as IsRefusalOfBody}
use Rattle.ct_generics.specs.Text.{text_length, most_text}
use Rattle.ct_sexpr.specs.Expression.{Expression}
use Rattle.ct_sorts.specs.Availability.{IsUnavailableSort}
use Rattle.ct_sorts.specs.Declarations.{Declarations, declared_names, most_sorts}
use Rattle.ct_sorts.specs.Grown.{Begins, Extends}
use Rattle.ct_sorts.specs.Limits.{sort_count}
use Rattle.ct_sorts.specs.Refusals.{IsFirstCause, IsNone, name_taken, too_many}
use Rattle.ct_sorts.specs.Synonyms.{IsWithSynonym, IsLaterRefusal, IsSynonymRefusal as IsAddedRefusal}
use Rattle.ct_names.specs.Refusals.{repeated_variable}
use Rattle.ct_names.specs.Variables.{has_repeated}
use Rattle.ct_stack.specs.Elaborations.{synonym_body, with_synonym_of}
use Rattle.ct_stack.specs.Outcomes.{IsErrorOr, Gives}
use Rattle.ct_stack.specs.Refusal.{IsSynonymRefusal}
use Rattle.ct_stack.proofs.StepLemmas.{later_cause, no_cause, refused_step, refused_value, accepted_value}

one_value : {X : Type 0} (o : Result X ℕ) (x y : X) → o ≡ Ok x → o ≡ Ok y → y ≡ x
one_value o x y is also = cc

not_error : {X : Type 0} (o : Result X ℕ) (x : X) (n : ℕ) → o ≡ Ok x → o ≡ Err n → ⊥
not_error o x n is also = cc

-- it is known that its name may be declared, and that no parameter stands twice
module _ (d : Declarations) (name own : List ℕ) (params : List (List ℕ)) (body : Expression) (own_is : own ≡ name) (free : IsUnavailableSort (declared_names d) name → ⊥) (unrepeated : has_repeated params ≡ true → ⊥) where
  abbrev Large : SortExpression → Type 0
  Large e = (most_text < text_length d.declared.heads e) ⊎ (most_sorts ≤ sort_count d)

  abbrev Later : SortExpression → ℕ → Type 0
  Later e = IsFirstCause too_many (Large e) IsNone

  with_body : (n : ℕ) → IsErrorOr (synonym_body d params body) Later n → IsSynonymRefusal d name params body n
  with_body n h = inr (free, inr (unrepeated, h))

  -- what it stands for is refused
  pub body_refused : (n : ℕ) → synonym_body d params body ≡ Err n → IsSynonymRefusal d name params body n
  body_refused n e = with_body n (refused_step (synonym_body d params body) Later n e)

  module _ (written : SortExpr) (e : SortExpression) (reads : synonym_body d params body ≡ Ok e) (stands : resolved d.declared written ≡ Ok e) where
    available : IsUnavailableSort (declared_names d) own → ⊥
    available taken = free (subst (λ (n : List ℕ). IsUnavailableSort (declared_names d) n) own_is taken)

    too_long : (n : ℕ) → IsRefusalOfBody d.declared written n → (n ≡ too_many) × (most_text < text_length d.declared.heads e)
    too_long n (inl error) = absurd (not_error (resolved d.declared written) e n stands error)
    too_long n (inr (f, is, long, number)) = (number, subst (λ (x : SortExpression). most_text < text_length d.declared.heads x) (one_value (resolved d.declared written) e f stands is) long)

    large : (n : ℕ) → IsLaterRefusal d written n → Later e n
    large n (inl refused) = let h = too_long n refused in inl (h.0, inl h.1)
    large n (inr (none, inl (number, full))) = inl (number, inr full)
    large n (inr (none, inr (less, never))) = absurd never

    -- it is refused where it is added
    pub added_refused : (n : ℕ) → IsAddedRefusal d own written n → IsSynonymRefusal d name params body n
    added_refused n h =
        with_body n (refused_value (synonym_body d params body) Later e n reads (large n (later_cause name_taken (IsUnavailableSort (declared_names d) own) (IsLaterRefusal d written) n available h)))

    module _ (none : (n : ℕ) → IsAddedRefusal d own written n → ⊥) where
      none_later : (n : ℕ) → IsLaterRefusal d written n → ⊥
      none_later n h = none n (inr (available, h))

      none_too_long : (n : ℕ) → IsRefusalOfBody d.declared written n → ⊥
      none_too_long n h = none_later n (inl h)

      none_large : (n : ℕ) → Later e n → ⊥
      none_large n (inl (number, inl long)) = none_later n (inl (inr (e, stands, long, number)))
      none_large n (inl (number, inr full)) = none_later n (inr (none_too_long, inl (number, full)))
      none_large n (inr (less, never)) = never

      pub added_accepted : (n : ℕ) → IsSynonymRefusal d name params body n → ⊥
      added_accepted =
          no_cause name_taken (IsUnavailableSort (declared_names d) name) (IsFirstCause repeated_variable (has_repeated params ≡ true) (IsErrorOr (synonym_body d params body) Later)) free
          (no_cause repeated_variable (has_repeated params ≡ true) (IsErrorOr (synonym_body d params body) Later) unrepeated
          (accepted_value (synonym_body d params body) Later e reads none_large))

    pub added_ok : (later : Declarations) → IsWithSynonym d own (length params) written later → Gives (synonym_body d params body) (λ x. later ≡ with_synonym_of d name params x)
    added_ok later (x, is, made) =
        subst (λ (o : Result SortExpression ℕ). Gives o (λ x. later ≡ with_synonym_of d name params x)) (sym reads)
        (made
        ∙ ap (λ (f : SortExpression). record d { declared = with_synonym d.declared (record { name = own; params = length params; body = f }) }) (one_value (resolved d.declared written) e x stands is)
        ∙ ap (λ (n : List ℕ). with_synonym_of d n params e) own_is)

itself : {X : Type 0} (xs : List X) → Begins xs xs
itself xs = ([], sym (append-nil xs))

-- more is declared with a synonym more
pub synonym_extends : (d : Declarations) (name : List ℕ) (params : List (List ℕ)) (e : SortExpression) → Extends (with_synonym_of d name params e) d
synonym_extends d name params e =
    record {
      sorts = itself d.sorts;
      ctors = itself d.ctors;
      sels = itself d.sels;
      functions = itself d.functions;
      definitions = itself d.definitions;
      heads = itself d.declared.heads;
      synonyms = (record { name = name; params = length params; body = e } ∷ [], refl);
      spellings = itself d.spellings;
      origins = itself d.origins;
    }

-- what is given of a synonym
pub given_extends : (d later : Declarations) (name : List ℕ) (params : List (List ℕ)) (o : Result SortExpression ℕ) → Gives o (λ e. later ≡ with_synonym_of d name params e) → Extends later d
given_extends d later name params (Ok e) is = subst (λ (n : Declarations). Extends n d) (sym is) (synonym_extends d name params e)
given_extends d later name params (Err n) none = absurd none

pub given_same : (d later : Declarations) (name : List ℕ) (params : List (List ℕ)) (o : Result SortExpression ℕ) → Gives o (λ e. later ≡ with_synonym_of d name params e) → later.definitions ≡ d.definitions
given_same d later name params (Ok e) is = ap (λ (n : Declarations). n.definitions) is
given_same d later name params (Err n) none = absurd none
