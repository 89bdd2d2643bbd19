-- What is made for a formula depends on the terms of the variables that occur in its core term alone.
use Rattle.std.proofs.Common.{◌≡◌, ℕ, zero, suc, ◌+◌, ◌<◌, Bool, true, false, not, ◌&&◌, ◌||◌, ◌==◌, List, [], ◌∷◌, ◌++◌, length, map, Option, Some, None, option_map, unwrap_or, slice_get, if◌then◌else◌, refl, sym, ap, ap₂, subst, ◌∙◌, arith, true≢false}
use Rattle.ct_lemmas.proofs.Booleans.{both_true, or_left, or_right}
use Rattle.ct_lemmas.proofs.Numbers.{by_last}
use Rattle.ct_sorts.specs.declared.ids.CtorId.{CtorId}
use Rattle.ct_sorts.specs.declared.ids.DefId.{DefId}
use Rattle.ct_sorts.specs.declared.ids.SelId.{SelId}
use Rattle.ct_sorts.specs.Declarations.{Declarations, Constructor}
use Rattle.ct_formulas.specs.declared.tree.Pattern.TheVariants.{Ctor, Any}
use Rattle.ct_terms.specs.CoreTree.{CoreTree, sel, test, choice}
use Rattle.ct_formulas.specs.Formula.{Formula, Formulas, Cases, Var, Con, Sel, Test, Apply, Def, Not, And, Or, Xor, Implies, Equal, Distinct, Ite, Let, Match, Quantified, no_formulas, with_formula, no_cases, with_case, bind}
use Rattle.ct_listing.specs.Closed.{ClosedValue, term_of}
use Rattle.ct_listing.proofs.ListLemmas.{map_same}
use Rattle.ct_formulas.specs.Choices.{choices_of}
use Rattle.ct_formulas.proofs.QuantifierLemmas.{choice_terms_length}
use Rattle.ct_terms.specs.Fields.{fields_of}
use Rattle.ct_formulas.specs.Compiled.{surely_fits, are_none, compiled, compiled_all, compiled_cases}
use Rattle.ct_formulas.specs.Occurrence.{count_of, field_count, any_below, occurs, occurs_in_some, occurs_in_bound, matched_occurs, occurs_in_cases, body_uses, uses_below, AreSameAt, AreBoundSame}
use Rattle.ct_operators.specs.declared.operator.Operator.TheVariants.{Construct, Select, Inspect, Call, Negation, Conjunction, Disjunction, Exclusion, Implication, Equality, Inequality}
use Rattle.ct_operators.specs.Theorems.{Theorems}
use Rattle.ct_occurrence.specs.Plain.{is_plain, formulas_under}
use Rattle.ct_operators.specs.Forms.{operator_for}
use Rattle.ct_scope.specs.Compilable.{compiled_calls}
use Rattle.ct_occurrence.specs.Marks.{flags_below}
use Rattle.ct_scope.specs.Binding.{making_where}
use Rattle.ct_operators.specs.Made.{Made, terms, made_by}
use Rattle.ct_scope.specs.Making.{Defined, making, made_each, making_bound, making_cases, making_values, operator_of, body_makes, makes_below, defined}

-- what is bound, and what was there
bound_at : (p : ℕ → Bool) (n : ℕ) (t u : CoreTree) (xs ys : List CoreTree) → (p n ≡ true → t ≡ u) → ((i : ℕ) → p (i + suc n) ≡ true → slice_get xs i ≡ slice_get ys i) → (i : ℕ) → p (i + n) ≡ true → slice_get (t ∷ xs) i ≡ slice_get (u ∷ ys) i
bound_at p n t u xs ys first rest zero e = ap Some (first (subst (λ (m : ℕ). p m ≡ true) (omega arith) e))
bound_at p n t u xs ys first rest (suc i) e = rest i (subst (λ (m : ℕ). p m ≡ true) (omega arith) e)

pub bind_same : (p : ℕ → Bool) (ts us xs ys : List CoreTree) → AreBoundSame p ts us → ((i : ℕ) → p (i + length ts) ≡ true → slice_get xs i ≡ slice_get ys i) → AreSameAt p (bind ts xs) (bind us ys)
bind_same p [] [] xs ys h rest i e = rest i (subst (λ (m : ℕ). p m ≡ true) (omega arith) e)
bind_same p [] (u ∷ us) xs ys h rest i e = absurd h
bind_same p (t ∷ ts) [] xs ys h rest i e = absurd h
bind_same p (t ∷ ts) (u ∷ us) xs ys h rest i e = bind_same p ts us (t ∷ xs) (u ∷ ys) h.1 (bound_at p (length ts) t u xs ys h.0 rest) i e

-- for fewer variables less is asked
bound_weaker : (p q : ℕ → Bool) → ((i : ℕ) → p i ≡ true → q i ≡ true) → (ts us : List CoreTree) → AreBoundSame q ts us → AreBoundSame p ts us
bound_weaker p q less [] [] h = h
bound_weaker p q less [] (u ∷ us) h = h
bound_weaker p q less (t ∷ ts) [] h = h
bound_weaker p q less (t ∷ ts) (u ∷ us) h = (λ e. h.0 (less (length ts) e), bound_weaker p q less ts us h.1)

-- the fields of a term where one of them occurs
count_fields : (t : CoreTree) (sels : List SelId) → length (map (λ s. sel s t) sels) ≡ length sels
count_fields t [] = refl
count_fields t (s ∷ sels) = ap suc (count_fields t sels)

fields_same : (p : ℕ → Bool) (t u : CoreTree) (sels : List SelId) → (any_below p (length sels) ≡ true → t ≡ u) → AreBoundSame p (map (λ s. sel s t) sels) (map (λ s. sel s u) sels)
fields_same p t u [] same = tt
fields_same p t u (s ∷ sels) same = (
  λ e. ap (sel s) (same (or_left (p (length sels)) (any_below p (length sels)) (subst (λ (m : ℕ). p m ≡ true) (count_fields t sels) e))),
  fields_same p t u sels (λ e. same (or_right (p (length sels)) (any_below p (length sels)) e)),
)

-- the same terms
bound_itself : (p : ℕ → Bool) (ts : List CoreTree) → AreBoundSame p ts ts
bound_itself p [] = tt
bound_itself p (t ∷ ts) = (λ e. refl, bound_itself p ts)

-- one more at the inner end
inner_same : (p : ℕ → Bool) (xs ys : List CoreTree) (t u : CoreTree) → (p 0 ≡ true → t ≡ u) → ((i : ℕ) → p (suc i) ≡ true → slice_get xs i ≡ slice_get ys i) → AreSameAt p (t ∷ xs) (u ∷ ys)
inner_same p xs ys t u first rest zero e = ap Some (first e)
inner_same p xs ys t u first rest (suc i) e = rest i e

not_sure : (sure : Bool) → sure ≡ false → not sure ≡ true
not_sure sure e = ap not e

-- where a test holds it is the same
pub where_same : (b : Bool) (x y : List CoreTree) → (b ≡ true → x ≡ y) → (if b then x else []) ≡ (if b then y else [])
where_same true x y h = h refl
where_same false x y h = refl

-- each definition makes the same for arguments that are the same where they occur in its body
abbrev MakeSame : Defined → Type 0
MakeSame defs = (k : DefId) (ts us : List CoreTree) → AreBoundSame (defs.uses k) ts us → defs.makes k ts ≡ defs.makes k us

module _ (d : Declarations) (defs : Defined) (core_same : (t : Formula) (xs ys : List CoreTree) → AreSameAt (occurs d defs.uses t) xs ys → compiled d defs.gives xs t ≡ compiled d defs.gives ys t) (make_same : MakeSame defs) where
  abbrev uses : DefId → ℕ → Bool
  uses = defs.uses

  abbrev core : List CoreTree → Formula → CoreTree
  core xs t = compiled d defs.gives xs t

  count_compiled : (ts : Formulas) (xs : List CoreTree) → length (compiled_all d defs.gives xs ts) ≡ count_of ts
  count_compiled no_formulas xs = refl
  count_compiled (with_formula t ts) xs = ap suc (count_compiled ts xs)

  all_bound : (ts : Formulas) (inner : ℕ → Bool) (xs ys : List CoreTree) → AreSameAt (occurs_in_bound d uses inner ts) xs ys → AreBoundSame inner (compiled_all d defs.gives xs ts) (compiled_all d defs.gives ys ts)
  all_bound no_formulas inner xs ys h = tt
  all_bound (with_formula t ts) inner xs ys h = (
    λ used.
        core_same t xs ys
        (λ i e.
        h i
        (or_left (inner (count_of ts) && occurs d uses t i) (occurs_in_bound d uses inner ts i)
        (both_true (inner (count_of ts)) (occurs d uses t i) (subst (λ (m : ℕ). inner m ≡ true) (count_compiled ts xs) used) e))),
    all_bound ts inner xs ys (λ i e. h i (or_right (inner (count_of ts) && occurs d uses t i) (occurs_in_bound d uses inner ts i) e)),
  )

  -- the variables of a case that is stored are the same
  body_same : (c : CtorId) (body : Formula) (cases : Cases) (earlier : List CtorId) (xs ys : List CoreTree) (t u : CoreTree) → (matched_occurs d uses earlier (with_case (Ctor c) body cases) ≡ true → t ≡ u) → AreSameAt (occurs_in_cases d uses earlier (with_case (Ctor c) body cases)) xs ys → AreSameAt (occurs d uses body) (bind (fields_of d c t) xs) (bind (fields_of d c u) ys)
  body_same c body cases earlier xs ys t u matched h =
      let sure : Bool = surely_fits d earlier c || are_none cases in
      let inside : ℕ → Bool = occurs d uses body in
      let sels : List SelId = unwrap_or (option_map (λ (ctor : Constructor). ctor.sels) (slice_get d.ctors c.0)) [] in
      bind_same inside (fields_of d c t) (fields_of d c u) xs ys
      (fields_same inside t u sels (λ e. matched (or_right (not sure) (any_below inside (field_count d c)) e)))
      (λ i e. h i (or_left (inside (i + field_count d c)) (not sure && occurs_in_cases d uses (c ∷ earlier) cases i) (subst (λ (m : ℕ). inside (i + m) ≡ true) (count_fields t sels) e)))

  rest_same : (c : CtorId) (body : Formula) (cases : Cases) (earlier : List CtorId) (xs ys : List CoreTree) → (surely_fits d earlier c || are_none cases) ≡ false → AreSameAt (occurs_in_cases d uses earlier (with_case (Ctor c) body cases)) xs ys → AreSameAt (occurs_in_cases d uses (c ∷ earlier) cases) xs ys
  rest_same c body cases earlier xs ys e h i o =
      let sure : Bool = surely_fits d earlier c || are_none cases in
      h i (or_right (occurs d uses body (i + field_count d c)) (not sure && occurs_in_cases d uses (c ∷ earlier) cases i) (both_true (not sure) (occurs_in_cases d uses (c ∷ earlier) cases i) (not_sure sure e) o))

  tested_same : (c : CtorId) (body : Formula) (cases : Cases) (earlier : List CtorId) (t u : CoreTree) → (surely_fits d earlier c || are_none cases) ≡ false → (matched_occurs d uses earlier (with_case (Ctor c) body cases) ≡ true → t ≡ u) → t ≡ u
  tested_same c body cases earlier t u e matched =
      let sure : Bool = surely_fits d earlier c || are_none cases in
      matched (or_left (not sure) (any_below (occurs d uses body) (field_count d c)) (not_sure sure e))

  one_case : (sure : Bool) (c : CtorId) (t u a b r s : CoreTree) → a ≡ b → (sure ≡ false → t ≡ u) → (sure ≡ false → r ≡ s) → (if sure then a else choice (test c t) a r) ≡ (if sure then b else choice (test c u) b s)
  one_case true c t u a b r s same matched rest = same
  one_case false c t u a b r s same matched rest =
      ap (λ (x : CoreTree). choice (test c x) a r) (matched refl) ∙ ap (λ (x : CoreTree). choice (test c u) x r) same ∙ ap (choice (test c u) b) (rest refl)

  cores_same : (cases : Cases) (earlier : List CtorId) (xs ys : List CoreTree) (t u : CoreTree) → (matched_occurs d uses earlier cases ≡ true → t ≡ u) → AreSameAt (occurs_in_cases d uses earlier cases) xs ys → compiled_cases d defs.gives xs t earlier cases ≡ compiled_cases d defs.gives ys u earlier cases
  cores_same no_cases earlier xs ys t u matched h = refl
  cores_same (with_case Any body cases) earlier xs ys t u matched h = core_same body (t ∷ xs) (u ∷ ys) (inner_same (occurs d uses body) xs ys t u matched h)
  cores_same (with_case (Ctor c) body cases) earlier xs ys t u matched h =
      one_case (surely_fits d earlier c || are_none cases) c t u (core (bind (fields_of d c t) xs) body) (core (bind (fields_of d c u) ys) body) (compiled_cases d defs.gives xs t (c ∷ earlier) cases) (compiled_cases d defs.gives ys u (c ∷ earlier) cases)
      (core_same body (bind (fields_of d c t) xs) (bind (fields_of d c u) ys) (body_same c body cases earlier xs ys t u matched h))
      (λ e. tested_same c body cases earlier t u e matched)
      (λ e. cores_same cases (c ∷ earlier) xs ys t u (λ later. tested_same c body cases earlier t u e matched) (rest_same c body cases earlier xs ys e h))

  one_making : (sure : Bool) (c : CtorId) (t u a b r s : CoreTree) (xs ys vs ws : List CoreTree) → xs ≡ ys → a ≡ b → (sure ≡ false → t ≡ u) → (sure ≡ false → vs ≡ ws) → (sure ≡ false → r ≡ s) → (if sure then xs else test c t ∷ (xs ++ (vs ++ choice (test c t) a r ∷ []))) ≡ (if sure then ys else test c u ∷ (ys ++ (ws ++ choice (test c u) b s ∷ [])))
  one_making true c t u a b r s xs ys vs ws same core_is matched later rest = same
  one_making false c t u a b r s xs ys vs ws same core_is matched later rest =
      ap (λ (x : CoreTree). test c x ∷ (xs ++ (vs ++ choice (test c x) a r ∷ []))) (matched refl)
      ∙ ap (λ (zs : List CoreTree). test c u ∷ (zs ++ (vs ++ choice (test c u) a r ∷ []))) same
      ∙ ap (λ (zs : List CoreTree). test c u ∷ (ys ++ (zs ++ choice (test c u) a r ∷ []))) (later refl)
      ∙ ap₂ (λ (x y : CoreTree). test c u ∷ (ys ++ (ws ++ choice (test c u) x y ∷ []))) core_is (rest refl)

  abbrev one : List CoreTree → CoreTree → Made
  one m t = record { making = m; term = t }

  one_made : (m n : List CoreTree) (t u : CoreTree) → m ≡ n → t ≡ u → one m t ≡ one n u
  one_made m n t u e h = ap₂ one e h

  mutual
    pub making_same : (t : Formula) (xs ys : List CoreTree) → AreSameAt (occurs d uses t) xs ys → making d defs xs t ≡ making d defs ys t
    making_same (Var k) xs ys h = ap (λ (x : CoreTree). x ∷ []) (core_same (Var k) xs ys h)
    making_same (Con c ts) xs ys h = ap (λ (ps : List Made). (made_by d (Construct c) ps).making) (each_same ts xs ys h)
    making_same (Sel s t) xs ys h = ap (λ (p : Made). (made_by d (Select s) (p ∷ [])).making) (one_made (making d defs xs t) (making d defs ys t) (core xs t) (core ys t) (making_same t xs ys h) (core_same t xs ys h))
    making_same (Test c t) xs ys h = ap (λ (p : Made). (made_by d (Inspect c) (p ∷ [])).making) (one_made (making d defs xs t) (making d defs ys t) (core xs t) (core ys t) (making_same t xs ys h) (core_same t xs ys h))
    making_same (Apply f ts) xs ys h = ap (λ (ps : List Made). (made_by d (Call f) ps).making) (each_same ts xs ys h)
    making_same (Def k ts) xs ys h = ap₂ (λ (vs ws : List CoreTree). vs ++ ws) (bound_same ts (uses k) xs ys h) (make_same k (compiled_all d defs.gives xs ts) (compiled_all d defs.gives ys ts) (all_bound ts (uses k) xs ys h))
    making_same (Not t) xs ys h = ap (λ (p : Made). (made_by d Negation (p ∷ [])).making) (one_made (making d defs xs t) (making d defs ys t) (core xs t) (core ys t) (making_same t xs ys h) (core_same t xs ys h))
    making_same (And ts) xs ys h = ap (λ (ps : List Made). (made_by d Conjunction ps).making) (each_same ts xs ys h)
    making_same (Or ts) xs ys h = ap (λ (ps : List Made). (made_by d Disjunction ps).making) (each_same ts xs ys h)
    making_same (Xor ts) xs ys h = ap (λ (ps : List Made). (made_by d Exclusion ps).making) (each_same ts xs ys h)
    making_same (Implies ts) xs ys h = ap (λ (ps : List Made). (made_by d Implication ps).making) (each_same ts xs ys h)
    making_same (Equal ts) xs ys h = ap (λ (ps : List Made). (made_by d Equality ps).making) (each_same ts xs ys h)
    making_same (Distinct ts) xs ys h = ap (λ (ps : List Made). (made_by d Inequality ps).making) (each_same ts xs ys h)
    making_same (Ite c t u) xs ys h =
        ap (λ (vs : List CoreTree). vs ++ (making d defs xs t ++ (making d defs xs u ++ core xs (Ite c t u) ∷ []))) (making_same c xs ys (λ i e. h i (or_left (occurs d uses c i) (occurs d uses t i || occurs d uses u i) e)))
        ∙ ap (λ (vs : List CoreTree). making d defs ys c ++ (vs ++ (making d defs xs u ++ core xs (Ite c t u) ∷ []))) (making_same t xs ys (λ i e. h i (or_right (occurs d uses c i) (occurs d uses t i || occurs d uses u i) (or_left (occurs d uses t i) (occurs d uses u i) e))))
        ∙ ap (λ (vs : List CoreTree). making d defs ys c ++ (making d defs ys t ++ (vs ++ core xs (Ite c t u) ∷ []))) (making_same u xs ys (λ i e. h i (or_right (occurs d uses c i) (occurs d uses t i || occurs d uses u i) (or_right (occurs d uses t i) (occurs d uses u i) e))))
        ∙ ap (λ (x : CoreTree). making d defs ys c ++ (making d defs ys t ++ (making d defs ys u ++ x ∷ []))) (core_same (Ite c t u) xs ys h)
    making_same (Let ts u) xs ys h =
        ap₂ (λ (vs ws : List CoreTree). vs ++ ws)
        (bound_same ts (occurs d uses u) xs ys (λ i e. h i (or_left (occurs_in_bound d uses (occurs d uses u) ts i) (occurs d uses u (i + count_of ts)) e)))
        (making_same u (bind (compiled_all d defs.gives xs ts) xs) (bind (compiled_all d defs.gives ys ts) ys)
        (bind_same (occurs d uses u) (compiled_all d defs.gives xs ts) (compiled_all d defs.gives ys ts) xs ys
        (all_bound ts (occurs d uses u) xs ys (λ i e. h i (or_left (occurs_in_bound d uses (occurs d uses u) ts i) (occurs d uses u (i + count_of ts)) e)))
        (λ i e. h i (or_right (occurs_in_bound d uses (occurs d uses u) ts i) (occurs d uses u (i + count_of ts)) (subst (λ (m : ℕ). occurs d uses u (i + m) ≡ true) (count_compiled ts xs) e)))))
    making_same (Match t cases) xs ys h =
        let matched : matched_occurs d uses [] cases ≡ true → AreSameAt (occurs d uses t) xs ys = λ m i e. h i (or_left (matched_occurs d uses [] cases && occurs d uses t i) (occurs_in_cases d uses [] cases i) (both_true (matched_occurs d uses [] cases) (occurs d uses t i) m e)) in
        ap₂ (λ (vs ws : List CoreTree). vs ++ ws)
        (where_same (matched_occurs d uses [] cases) (making d defs xs t) (making d defs ys t) (λ m. making_same t xs ys (matched m)))
        (cases_same cases [] xs ys (core xs t) (core ys t) (λ m. core_same t xs ys (matched m))
        (λ i e. h i (or_right (matched_occurs d uses [] cases && occurs d uses t i) (occurs_in_cases d uses [] cases i) e)))
    making_same (Quantified q sorts t) xs ys h =
        let before : List ClosedValue → List CoreTree = λ vs. making_values (flags_below (occurs d uses t) (length sorts)) vs in
        ap (λ (ps : List Made). (made_by d (operator_of q) ps).making)
        (map_same (λ vs. one (before vs ++ making d defs (bind (map term_of vs) xs) t) (core (bind (map term_of vs) xs) t)) (λ vs. one (before vs ++ making d defs (bind (map term_of vs) ys) t) (core (bind (map term_of vs) ys) t)) (choices_of d sorts) (λ vs inside.
        let same : AreSameAt (occurs d uses t) (bind (map term_of vs) xs) (bind (map term_of vs) ys) =
        bind_same (occurs d uses t) (map term_of vs) (map term_of vs) xs ys (bound_itself (occurs d uses t) (map term_of vs)) (λ i e. h i (subst (λ (m : ℕ). occurs d uses t (i + m) ≡ true) (choice_terms_length d sorts vs inside) e)) in
        one_made (before vs ++ making d defs (bind (map term_of vs) xs) t) (before vs ++ making d defs (bind (map term_of vs) ys) t) (core (bind (map term_of vs) xs) t) (core (bind (map term_of vs) ys) t)
        (ap (λ (ts : List CoreTree). before vs ++ ts) (making_same t (bind (map term_of vs) xs) (bind (map term_of vs) ys) same))
        (core_same t (bind (map term_of vs) xs) (bind (map term_of vs) ys) same)))

    each_same : (ts : Formulas) (xs ys : List CoreTree) → AreSameAt (occurs_in_some d uses ts) xs ys → made_each d defs xs ts ≡ made_each d defs ys ts
    each_same no_formulas xs ys h = refl
    each_same (with_formula t ts) xs ys h =
        ap₂ (λ (p : Made) (ps : List Made). p ∷ ps)
        (one_made (making d defs xs t) (making d defs ys t) (core xs t) (core ys t)
        (making_same t xs ys (λ i e. h i (or_left (occurs d uses t i) (occurs_in_some d uses ts i) e)))
        (core_same t xs ys (λ i e. h i (or_left (occurs d uses t i) (occurs_in_some d uses ts i) e))))
        (each_same ts xs ys (λ i e. h i (or_right (occurs d uses t i) (occurs_in_some d uses ts i) e)))

    bound_same : (ts : Formulas) (inner : ℕ → Bool) (xs ys : List CoreTree) → AreSameAt (occurs_in_bound d uses inner ts) xs ys → making_bound d defs xs inner ts ≡ making_bound d defs ys inner ts
    bound_same no_formulas inner xs ys h = refl
    bound_same (with_formula t ts) inner xs ys h =
        ap₂ (λ (vs ws : List CoreTree). vs ++ ws)
        (where_same (inner (count_of ts)) (making d defs xs t) (making d defs ys t) (λ b. making_same t xs ys (λ i e. h i (or_left (inner (count_of ts) && occurs d uses t i) (occurs_in_bound d uses inner ts i) (both_true (inner (count_of ts)) (occurs d uses t i) b e)))))
        (bound_same ts inner xs ys (λ i e. h i (or_right (inner (count_of ts) && occurs d uses t i) (occurs_in_bound d uses inner ts i) e)))

    cases_same : (cases : Cases) (earlier : List CtorId) (xs ys : List CoreTree) (t u : CoreTree) → (matched_occurs d uses earlier cases ≡ true → t ≡ u) → AreSameAt (occurs_in_cases d uses earlier cases) xs ys → making_cases d defs xs t earlier cases ≡ making_cases d defs ys u earlier cases
    cases_same no_cases earlier xs ys t u matched h = refl
    cases_same (with_case Any body cases) earlier xs ys t u matched h = making_same body (t ∷ xs) (u ∷ ys) (inner_same (occurs d uses body) xs ys t u matched h)
    cases_same (with_case (Ctor c) body cases) earlier xs ys t u matched h =
        let inside = body_same c body cases earlier xs ys t u matched h in
        one_making (surely_fits d earlier c || are_none cases) c t u (core (bind (fields_of d c t) xs) body) (core (bind (fields_of d c u) ys) body) (compiled_cases d defs.gives xs t (c ∷ earlier) cases) (compiled_cases d defs.gives ys u (c ∷ earlier) cases)
        (making d defs (bind (fields_of d c t) xs) body) (making d defs (bind (fields_of d c u) ys) body) (making_cases d defs xs t (c ∷ earlier) cases) (making_cases d defs ys u (c ∷ earlier) cases)
        (making_same body (bind (fields_of d c t) xs) (bind (fields_of d c u) ys) inside)
        (core_same body (bind (fields_of d c t) xs) (bind (fields_of d c u) ys) inside)
        (λ e. tested_same c body cases earlier t u e matched)
        (λ e. cases_same cases (c ∷ earlier) xs ys t u (λ later. tested_same c body cases earlier t u e matched) (rest_same c body cases earlier xs ys e h))
        (λ e. cores_same cases (c ∷ earlier) xs ys t u (λ later. tested_same c body cases earlier t u e matched) (rest_same c body cases earlier xs ys e h))

-- so it is with definitions
makes_suc : (d : Declarations) (bodies : List Formula) (n : ℕ) (k : DefId) (ts : List CoreTree) → makes_below d bodies (suc n) k ts ≡ (if k.0 == n then body_makes d (defined d bodies n) (slice_get bodies n) ts else makes_below d bodies n k ts)
unfolding makes_below
makes_suc d bodies n k ts = refl

makes_zero : (d : Declarations) (bodies : List Formula) (k : DefId) (ts : List CoreTree) → makes_below d bodies zero k ts ≡ []
unfolding makes_below
makes_zero d bodies k ts = refl

uses_next : (d : Declarations) (bodies : List Formula) (n : ℕ) (k : DefId) (i : ℕ) → uses_below d bodies (suc n) k i ≡ (if k.0 == n then body_uses d (uses_below d bodies n) (slice_get bodies n) i else uses_below d bodies n k i)
unfolding uses_below
uses_next d bodies n k i = refl

-- a test that is known, in both
tested : (b : Bool) (x y v w : List CoreTree) → (b ≡ true → x ≡ v) → (b ≡ false → y ≡ w) → (if b then x else y) ≡ (if b then v else w)
tested true x y v w h k = h refl
tested false x y v w h k = k refl

module _ (theorems : Theorems) (d : Declarations) (bodies : List Formula) where
  body_makes_same : (n : ℕ) (o : Option Formula) (ts us : List CoreTree) → MakeSame (defined d bodies n) → AreBoundSame (body_uses d (uses_below d bodies n) o) ts us → body_makes d (defined d bodies n) o ts ≡ body_makes d (defined d bodies n) o us
  body_makes_same n None ts us same h = refl
  body_makes_same n (Some body) ts us same h =
      making_same d (defined d bodies n) (λ t xs ys e. theorems.occurring d (uses_below d bodies n) (compiled_calls d bodies n) t xs ys (theorems.used d bodies n) e) same body (bind ts []) (bind us [])
      (bind_same (occurs d (uses_below d bodies n) body) ts us [] [] h (λ i e. refl))

  pub makes_same_below : (n : ℕ) → MakeSame (defined d bodies n)
  makes_same_below zero k ts us h = makes_zero d bodies k ts ∙ sym (makes_zero d bodies k us)
  makes_same_below (suc n) k ts us h =
      makes_suc d bodies n k ts
      ∙ tested (k.0 == n) _ _ _ _
      (λ e. body_makes_same n (slice_get bodies n) ts us (makes_same_below n) (bound_weaker (body_uses d (uses_below d bodies n) (slice_get bodies n)) (uses_below d bodies (suc n) k) (λ i o. uses_next d bodies n k i ∙ ap (λ (b : Bool). if b then body_uses d (uses_below d bodies n) (slice_get bodies n) i else uses_below d bodies n k i) e ∙ o) ts us h))
      (λ e. makes_same_below n k ts us (bound_weaker (uses_below d bodies n k) (uses_below d bodies (suc n) k) (λ i o. uses_next d bodies n k i ∙ ap (λ (b : Bool). if b then body_uses d (uses_below d bodies n) (slice_get bodies n) i else uses_below d bodies n k i) e ∙ o) ts us h))
      ∙ sym (makes_suc d bodies n k us)

-- what is made for a definition is what is made for its body
pub makes_is : (bodies : List Formula) (k : DefId) (body : Formula) → slice_get bodies k.0 ≡ Some body → (d : Declarations) (n : ℕ) (ts : List CoreTree) → k.0 < n → makes_below d bodies n k ts ≡ making d (defined d bodies k.0) (bind ts []) body
makes_is bodies k body at d zero ts below = absurd (omega (arith, below))
makes_is bodies k body at d (suc n) ts below =
    makes_suc d bodies n k ts
    ∙ by_last k.0 n _ _ _ below
    (λ e. ap (λ (m : ℕ). body_makes d (defined d bodies m) (slice_get bodies m) ts) (sym e) ∙ ap (λ (o : Option Formula). body_makes d (defined d bodies k.0) o ts) at)
    (λ less. makes_is bodies k body at d n ts less)

-- the terms of several are their core terms
pub terms_each : (d : Declarations) (defs : Defined) (env : List CoreTree) (ts : Formulas) → terms (made_each d defs env ts) ≡ compiled_all d defs.gives env ts
terms_each d defs env no_formulas = refl
terms_each d defs env (with_formula t ts) = ap (λ (us : List CoreTree). compiled d defs.gives env t ∷ us) (terms_each d defs env ts)

-- what is made by flags
pub making_listed : (d : Declarations) (defs : Defined) (env : List CoreTree) (inner : ℕ → Bool) (ts : Formulas) → making_where d defs env (flags_below inner (count_of ts)) ts ≡ making_bound d defs env inner ts
making_listed d defs env inner no_formulas = refl
making_listed d defs env inner (with_formula t ts) = ap (λ (xs : List CoreTree). (if inner (count_of ts) then making d defs env t else []) ++ xs) (making_listed d defs env inner ts)

-- what is made for an operator
pub making_plain : (d : Declarations) (defs : Defined) (env : List CoreTree) (t : Formula) → is_plain t ≡ true → making d defs env t ≡ (made_by d (operator_for t) (made_each d defs env (formulas_under t))).making
making_plain d defs env (Con c ts) plain = refl
making_plain d defs env (Sel s t) plain = refl
making_plain d defs env (Test c t) plain = refl
making_plain d defs env (Apply f ts) plain = refl
making_plain d defs env (Not t) plain = refl
making_plain d defs env (And ts) plain = refl
making_plain d defs env (Or ts) plain = refl
making_plain d defs env (Xor ts) plain = refl
making_plain d defs env (Implies ts) plain = refl
making_plain d defs env (Equal ts) plain = refl
making_plain d defs env (Distinct ts) plain = refl
making_plain d defs env (Var k) plain = absurd (true≢false (sym plain))
making_plain d defs env (Def k ts) plain = absurd (true≢false (sym plain))
making_plain d defs env (Ite c t u) plain = absurd (true≢false (sym plain))
making_plain d defs env (Let ts u) plain = absurd (true≢false (sym plain))
making_plain d defs env (Match t cases) plain = absurd (true≢false (sym plain))
making_plain d defs env (Quantified q bound t) plain = absurd (true≢false (sym plain))
