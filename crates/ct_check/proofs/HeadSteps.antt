-- What stands at the head with arguments that were expected: where they stop, and where they are met.
use Rattle.std.proofs.Common.{◌≡◌, ◌⊎◌, inl, inr, ℕ, List, length, None, Ok, Err, sym, ◌∙◌, ap, subst}
use Rattle.std.proofs.lemmas.List.{length-replicate}
use Rattle.ct_sexpr.specs.declared.sexpr.Sexpr.{Sexpr}
use Rattle.ct_sexpr.specs.View.{expressions_of}
use Rattle.ct_sorts.specs.Consistent.{IsConsistent}
use Rattle.ct_sorts.specs.Declarations.{Declarations}
use Rattle.ct_formulas.specs.Formula.{Formulas}
use Rattle.ct_instances.specs.Fields.{generic_fields, generic_params}
use Rattle.ct_instances.specs.Matching.{unmatched}
use Rattle.ct_names.specs.Needs.{Grows, Reaches}
use Rattle.ct_names.specs.Outcome.{Elaborated, Halt, Sorted}
use Rattle.ct_names.specs.Variables.{Variable, ScopeIn}
use Rattle.ct_names.specs.Parts.{count}
use Rattle.ct_names.specs.Elaboration.{parts_of}
use Rattle.ct_names.proofs.LastingLemmas.{generic_params_same}
use Rattle.ct_names.proofs.NeedLemmas.{reaches_grows, reaches_same}
use Rattle.ct_names.proofs.PartLemmas.{count-parts}
use Rattle.ct_check.specs.declared.expected.Expected.{Expected}
use Rattle.ct_sorts.specs.declared.ids.GenId.{GenId}
use Rattle.ct_names.specs.declared.operator.CoreOperator.{CoreOperator}
use Rattle.ct_check.specs.declared.callees.Callee.{Callee}
use Rattle.ct_check.specs.declared.parts.Part.{Part as PartOf}
use Rattle.ct_check.specs.declared.heads.Head.{Head}
use Rattle.ct_check.specs.declared.heads.Head.TheVariants.{Let, Match, Annotation, Quantified, Whole, Call, GenericCtor, Part, Equation, Choice}
use Rattle.ct_check.specs.Expected.{Expectation, expectation_of, expected_terms, IsExpectation}
use Rattle.ct_check.specs.Heads.{headed_by, HasCount, HasPlaces, expected_at, finished, IsHeadDeclared, TakesArguments}
use Rattle.ct_check.proofs.ArgumentLemmas.{with_args, args_met, args_reach, args_refused, expected_same, head_declared}
use Rattle.ct_check.proofs.ArgumentSteps.{so_far}
use Rattle.ct_check.proofs.ExpectationLemmas.{expectation_same}
use Rattle.ct_check.proofs.TermLemmas.{places}

-- what is called, a constructor or a part of a generic, an equation and a choice take arguments
pub takes_arguments : (head : Head) → ((f : Callee) × (head ≡ Call f)) ⊎ (((g : GenId) × (i : ℕ) × (head ≡ GenericCtor g i)) ⊎ (((p : PartOf) × (head ≡ Part p)) ⊎ (((o : CoreOperator) × (head ≡ Equation o)) ⊎ (head ≡ Choice)))) → TakesArguments head
takes_arguments head (inl s) = subst TakesArguments (sym s.1) tt
takes_arguments head (inr (inl s)) = subst TakesArguments (sym s.2) tt
takes_arguments head (inr (inr (inl s))) = subst TakesArguments (sym s.1) tt
takes_arguments head (inr (inr (inr (inl s)))) = subst TakesArguments (sym s.1) tt
takes_arguments head (inr (inr (inr (inr s)))) = subst TakesArguments (sym s) tt

module _ (first : Declarations) (c : IsConsistent first) (scope : List Variable) (head : Head) (is : IsHeadDeclared first head) (takes : TakesArguments head) (args : List Sexpr) (many : HasCount first head (length args)) (x : Expected) (is_x : IsExpectation first x) (same : expectation_of first x ≡ expected_at first head (length args)) where
  counted : HasCount first head (count (parts_of first (expressions_of args)))
  counted = subst (HasCount first head) (sym (count-parts first args)) many

  abbrev whole : Declarations → Elaborated Sorted
  whole n = headed_by n scope head (parts_of n (expressions_of args))

  arguments_are : (n : Declarations) → Grows n first → with_args first c scope head is takes (expressions_of args) counted n ≡ so_far scope x args n
  arguments_are n grows =
      ap (λ (y : Expectation). expected_terms n scope y (parts_of n (expressions_of args)))
      (sym (expectation_same n first grows c x is_x ∙ same ∙ ap (expected_at first head) (sym (count-parts first args)) ∙ sym (expected_same n first grows c head _ is)))

  reached : (d : Declarations) → Reaches (so_far scope x args) first d → Reaches (with_args first c scope head is takes (expressions_of args) counted) first d
  reached d reaches = reaches_same (so_far scope x args) (with_args first c scope head is takes (expressions_of args) counted) first d arguments_are reaches

  -- the arguments stop
  pub arguments_stop : (d : Declarations) → Reaches (so_far scope x args) first d → (h : Halt) → so_far scope x args d ≡ Err h → whole d ≡ Err h
  arguments_stop d reaches h e =
      args_refused first c scope head is takes (expressions_of args) counted d h (reached d reaches) (arguments_are d (reaches_grows (so_far scope x args) first d reaches) ∙ e)

  pub arguments_reach : (d : Declarations) → Reaches (so_far scope x args) first d → Reaches whole first d
  arguments_reach d reaches = args_reach first c scope head is takes (expressions_of args) counted d (reached d reaches)

  module _ (d : Declarations) (cd : IsConsistent d) (inside : ScopeIn d scope) (r : Formulas × Expectation) (reaches : Reaches (so_far scope x args) first d) (e : so_far scope x args d ≡ Ok r) where
    grown : Grows d first
    grown = reaches_grows (so_far scope x args) first d reaches

    pub declared_then : IsHeadDeclared d head
    declared_then = head_declared d first grown c head is

    -- a constructor of a generic has a place for each parameter
    pub has_places : HasPlaces d head r.1
    has_places = by head is (ap (λ (y : Expectation). expected_terms d scope y (parts_of d (expressions_of args))) (sym (expectation_same d first grown c x is_x ∙ same)) ∙ e)
      where
        by : (h : Head) → IsHeadDeclared first h → expected_terms d scope (expected_at first h (length args)) (parts_of d (expressions_of args)) ≡ Ok r → HasPlaces d h r.1
        by Let at f = tt
        by Match at f = tt
        by Annotation at f = tt
        by (Quantified q) at f = tt
        by (Whole s) at f = tt
        by (Call k) at f = tt
        by (GenericCtor g i) at f =
            places d scope (generic_fields first g i) (unmatched (generic_params first g)) (parts_of d (expressions_of args)) r f
            ∙ length-replicate (generic_params first g) None
            ∙ sym (generic_params_same d first grown c g)
        by (Part p) at f = tt
        by (Equation o) at f = tt
        by Choice at f = tt

    -- they are met
    pub arguments_met : (later : Declarations) → Reaches (λ m. finished m head r) d later → Reaches whole first later × (whole later ≡ finished later head r)
    arguments_met later rest = args_met first c scope head is takes (expressions_of args) counted d later cd inside r declared_then (reached d reaches) (arguments_are d grown ∙ e) rest
