-- The core term of a formula depends on the terms of the variables that occur in it alone.
use Rattle.std.proofs.Common.{◌≡◌, ℕ, zero, suc, ◌+◌, Bool, true, false, not, ◌&&◌, ◌||◌, ◌==◌, List, [], ◌∷◌, length, map, Option, Some, None, option_map, unwrap_or, slice_get, if◌then◌else◌, refl, ap, subst, ◌∙◌, arith}
use Rattle.std.proofs.lemmas.Bool.Decides.{Decides-eqb}
use Rattle.ct_lemmas.proofs.Booleans.{both_true, or_left, or_right}
use Rattle.ct_sorts.specs.declared.ids.CtorId.{CtorId}
use Rattle.ct_sorts.specs.declared.ids.DefId.{DefId}
use Rattle.ct_sorts.specs.declared.ids.SelId.{SelId}
use Rattle.ct_sorts.specs.Declarations.{Declarations, Constructor}
use Rattle.ct_formulas.specs.declared.tree.Pattern.TheVariants.{Ctor, Any}
use Rattle.ct_terms.specs.CoreTree.{CoreTree, con, sel, test, apply, negation, choice, trees_of, no_term}
use Rattle.ct_formulas.specs.Formula.{Formula, Formulas, Cases, Var, Con, Sel, Test, Apply, Def, Not, And, Or, Xor, Implies, Equal, Distinct, Ite, Let, Match, Quantified, no_formulas, with_formula, no_cases, with_case, bind}
use Rattle.ct_formulas.specs.Pairs.{neighbours, pairs}
use Rattle.ct_formulas.specs.Calls.{body_call, calls_below, calls}
use Rattle.ct_terms.specs.Fields.{fields_of}
use Rattle.ct_listing.specs.Closed.{term_of}
use Rattle.ct_listing.proofs.ListLemmas.{map_same}
use Rattle.ct_formulas.specs.Choices.{choices_of}
use Rattle.ct_formulas.proofs.QuantifierLemmas.{choice_terms_length}
use Rattle.ct_formulas.specs.Compiled.{all_of, any_of, exclusive_of, implication_of, equality, inequality, joined, surely_fits, are_none, compiled, compiled_all, compiled_cases, core_of}
use Rattle.ct_formulas.specs.Occurrence.{count_of, field_count, any_below, occurs, occurs_in_some, occurs_in_bound, matched_occurs, occurs_in_cases, body_uses, uses_below, occurs_in, AreSameAt, AreBoundSame, UseSame}

-- what is bound, and what was there
bound_at : (p : ℕ → Bool) (n : ℕ) (t u : CoreTree) (xs ys : List CoreTree) → (p n ≡ true → t ≡ u) → ((i : ℕ) → p (i + suc n) ≡ true → slice_get xs i ≡ slice_get ys i) → (i : ℕ) → p (i + n) ≡ true → slice_get (t ∷ xs) i ≡ slice_get (u ∷ ys) i
bound_at p n t u xs ys first rest zero e = ap Some (first (subst (λ (m : ℕ). p m ≡ true) (omega arith) e))
bound_at p n t u xs ys first rest (suc i) e = rest i (subst (λ (m : ℕ). p m ≡ true) (omega arith) e)

bind_same : (p : ℕ → Bool) (ts us xs ys : List CoreTree) → AreBoundSame p ts us → ((i : ℕ) → p (i + length ts) ≡ true → slice_get xs i ≡ slice_get ys i) → AreSameAt p (bind ts xs) (bind us ys)
bind_same p [] [] xs ys h rest i e = rest i (subst (λ (m : ℕ). p m ≡ true) (omega arith) e)
bind_same p [] (u ∷ us) xs ys h rest i e = absurd h
bind_same p (t ∷ ts) [] xs ys h rest i e = absurd h
bind_same p (t ∷ ts) (u ∷ us) xs ys h rest i e = bind_same p ts us (t ∷ xs) (u ∷ ys) h.1 (bound_at p (length ts) t u xs ys h.0 rest) i e

-- for fewer variables less is asked
bound_weaker : (p q : ℕ → Bool) → ((i : ℕ) → p i ≡ true → q i ≡ true) → (ts us : List CoreTree) → AreBoundSame q ts us → AreBoundSame p ts us
bound_weaker p q less [] [] h = h
bound_weaker p q less [] (u ∷ us) h = h
bound_weaker p q less (t ∷ ts) [] h = h
bound_weaker p q less (t ∷ ts) (u ∷ us) h = (λ e. h.0 (less (length ts) e), bound_weaker p q less ts us h.1)

-- the fields of a term where one of them occurs
pub count_fields : (t : CoreTree) (sels : List SelId) → length (map (λ s. sel s t) sels) ≡ length sels
count_fields t [] = refl
count_fields t (s ∷ sels) = ap suc (count_fields t sels)

fields_same : (p : ℕ → Bool) (t u : CoreTree) (sels : List SelId) → (any_below p (length sels) ≡ true → t ≡ u) → AreBoundSame p (map (λ s. sel s t) sels) (map (λ s. sel s u) sels)
fields_same p t u [] same = tt
fields_same p t u (s ∷ sels) same = (
  λ e. ap (sel s) (same (or_left (p (length sels)) (any_below p (length sels)) (subst (λ (m : ℕ). p m ≡ true) (count_fields t sels) e))),
  fields_same p t u sels (λ e. same (or_right (p (length sels)) (any_below p (length sels)) e)),
)

-- the same terms
bound_itself : (p : ℕ → Bool) (ts : List CoreTree) → AreBoundSame p ts ts
bound_itself p [] = tt
bound_itself p (t ∷ ts) = (λ e. refl, bound_itself p ts)

-- one more at the inner end
inner_same : (p : ℕ → Bool) (xs ys : List CoreTree) (t u : CoreTree) → (p 0 ≡ true → t ≡ u) → ((i : ℕ) → p (suc i) ≡ true → slice_get xs i ≡ slice_get ys i) → AreSameAt p (t ∷ xs) (u ∷ ys)
inner_same p xs ys t u first rest zero e = ap Some (first e)
inner_same p xs ys t u first rest (suc i) e = rest i e

module _ (d : Declarations) (uses : DefId → ℕ → Bool) (made : DefId → List CoreTree → CoreTree) (use_same : UseSame uses made) where
  count_compiled : (ts : Formulas) (xs : List CoreTree) → length (compiled_all d made xs ts) ≡ count_of ts
  count_compiled no_formulas xs = refl
  count_compiled (with_formula t ts) xs = ap suc (count_compiled ts xs)

  -- a case that is stored, in both
  one_case : (sure : Bool) (c : CtorId) (t u a b r s : CoreTree) → a ≡ b → (sure ≡ false → t ≡ u) → (sure ≡ false → r ≡ s) → (if sure then a else choice (test c t) a r) ≡ (if sure then b else choice (test c u) b s)
  one_case true c t u a b r s same matched rest = same
  one_case false c t u a b r s same matched rest =
      ap (λ (x : CoreTree). choice (test c x) a r) (matched refl) ∙ ap (λ (x : CoreTree). choice (test c u) x r) same ∙ ap (choice (test c u) b) (rest refl)

  not_sure : (sure : Bool) → sure ≡ false → not sure ≡ true
  not_sure sure e = ap not e

  mutual
    pub compiled_same : (t : Formula) (xs ys : List CoreTree) → AreSameAt (occurs d uses t) xs ys → compiled d made xs t ≡ compiled d made ys t
    compiled_same (Var k) xs ys h = ap (λ (o : Option CoreTree). unwrap_or o no_term) (h k ((Decides-eqb k k).1 refl))
    compiled_same (Con c ts) xs ys h = ap (λ (us : List CoreTree). con c (trees_of us)) (all_same ts xs ys h)
    compiled_same (Sel s t) xs ys h = ap (sel s) (compiled_same t xs ys h)
    compiled_same (Test c t) xs ys h = ap (test c) (compiled_same t xs ys h)
    compiled_same (Apply f ts) xs ys h = ap (λ (us : List CoreTree). apply f (trees_of us)) (all_same ts xs ys h)
    compiled_same (Def k ts) xs ys h = use_same k (compiled_all d made xs ts) (compiled_all d made ys ts) (all_bound ts (uses k) xs ys h)
    compiled_same (Not t) xs ys h = ap negation (compiled_same t xs ys h)
    compiled_same (And ts) xs ys h = ap all_of (all_same ts xs ys h)
    compiled_same (Or ts) xs ys h = ap any_of (all_same ts xs ys h)
    compiled_same (Xor ts) xs ys h = ap exclusive_of (all_same ts xs ys h)
    compiled_same (Implies ts) xs ys h = ap implication_of (all_same ts xs ys h)
    compiled_same (Equal ts) xs ys h = ap (λ (us : List CoreTree). all_of (neighbours (equality d) us)) (all_same ts xs ys h)
    compiled_same (Distinct ts) xs ys h = ap (λ (us : List CoreTree). all_of (pairs (inequality d) us)) (all_same ts xs ys h)
    compiled_same (Ite c t u) xs ys h =
        ap (λ (x : CoreTree). choice x (compiled d made xs t) (compiled d made xs u)) (compiled_same c xs ys (λ i e. h i (or_left (occurs d uses c i) (occurs d uses t i || occurs d uses u i) e)))
        ∙ ap (λ (x : CoreTree). choice (compiled d made ys c) x (compiled d made xs u)) (compiled_same t xs ys (λ i e. h i (or_right (occurs d uses c i) (occurs d uses t i || occurs d uses u i) (or_left (occurs d uses t i) (occurs d uses u i) e))))
        ∙ ap (choice (compiled d made ys c) (compiled d made ys t)) (compiled_same u xs ys (λ i e. h i (or_right (occurs d uses c i) (occurs d uses t i || occurs d uses u i) (or_right (occurs d uses t i) (occurs d uses u i) e))))
    compiled_same (Let ts u) xs ys h =
        compiled_same u (bind (compiled_all d made xs ts) xs) (bind (compiled_all d made ys ts) ys)
        (bind_same (occurs d uses u) (compiled_all d made xs ts) (compiled_all d made ys ts) xs ys
        (all_bound ts (occurs d uses u) xs ys (λ i e. h i (or_left (occurs_in_bound d uses (occurs d uses u) ts i) (occurs d uses u (i + count_of ts)) e)))
        (λ i e. h i (or_right (occurs_in_bound d uses (occurs d uses u) ts i) (occurs d uses u (i + count_of ts)) (subst (λ (m : ℕ). occurs d uses u (i + m) ≡ true) (count_compiled ts xs) e))))
    compiled_same (Match t cases) xs ys h =
        cases_same cases [] xs ys (compiled d made xs t) (compiled d made ys t)
        (λ m. compiled_same t xs ys (λ i e. h i (or_left (matched_occurs d uses [] cases && occurs d uses t i) (occurs_in_cases d uses [] cases i) (both_true (matched_occurs d uses [] cases) (occurs d uses t i) m e))))
        (λ i e. h i (or_right (matched_occurs d uses [] cases && occurs d uses t i) (occurs_in_cases d uses [] cases i) e))
    compiled_same (Quantified q sorts t) xs ys h =
        ap (joined q)
        (map_same (λ vs. compiled d made (bind (map term_of vs) xs) t) (λ vs. compiled d made (bind (map term_of vs) ys) t) (choices_of d sorts) (λ vs inside.
        compiled_same t (bind (map term_of vs) xs) (bind (map term_of vs) ys)
        (bind_same (occurs d uses t) (map term_of vs) (map term_of vs) xs ys (bound_itself (occurs d uses t) (map term_of vs))
        (λ i e. h i (subst (λ (m : ℕ). occurs d uses t (i + m) ≡ true) (choice_terms_length d sorts vs inside) e)))))

    all_same : (ts : Formulas) (xs ys : List CoreTree) → AreSameAt (occurs_in_some d uses ts) xs ys → compiled_all d made xs ts ≡ compiled_all d made ys ts
    all_same no_formulas xs ys h = refl
    all_same (with_formula t ts) xs ys h =
        ap (λ (x : CoreTree). x ∷ compiled_all d made xs ts) (compiled_same t xs ys (λ i e. h i (or_left (occurs d uses t i) (occurs_in_some d uses ts i) e)))
        ∙ ap (λ (us : List CoreTree). compiled d made ys t ∷ us) (all_same ts xs ys (λ i e. h i (or_right (occurs d uses t i) (occurs_in_some d uses ts i) e)))

    all_bound : (ts : Formulas) (inner : ℕ → Bool) (xs ys : List CoreTree) → AreSameAt (occurs_in_bound d uses inner ts) xs ys → AreBoundSame inner (compiled_all d made xs ts) (compiled_all d made ys ts)
    all_bound no_formulas inner xs ys h = tt
    all_bound (with_formula t ts) inner xs ys h = (
      λ used.
          compiled_same t xs ys
          (λ i e.
          h i
          (or_left (inner (count_of ts) && occurs d uses t i) (occurs_in_bound d uses inner ts i)
          (both_true (inner (count_of ts)) (occurs d uses t i) (subst (λ (m : ℕ). inner m ≡ true) (count_compiled ts xs) used) e))),
      all_bound ts inner xs ys (λ i e. h i (or_right (inner (count_of ts) && occurs d uses t i) (occurs_in_bound d uses inner ts i) e)),
    )

    cases_same : (cases : Cases) (earlier : List CtorId) (xs ys : List CoreTree) (t u : CoreTree) → (matched_occurs d uses earlier cases ≡ true → t ≡ u) → AreSameAt (occurs_in_cases d uses earlier cases) xs ys → compiled_cases d made xs t earlier cases ≡ compiled_cases d made ys u earlier cases
    cases_same no_cases earlier xs ys t u matched h = refl
    cases_same (with_case Any body cases) earlier xs ys t u matched h = compiled_same body (t ∷ xs) (u ∷ ys) (inner_same (occurs d uses body) xs ys t u matched h)
    cases_same (with_case (Ctor c) body cases) earlier xs ys t u matched h =
        let sure : Bool = surely_fits d earlier c || are_none cases in
        let inside : ℕ → Bool = occurs d uses body in
        let sels : List SelId = unwrap_or (option_map (λ (ctor : Constructor). ctor.sels) (slice_get d.ctors c.0)) [] in
        one_case sure c t u (compiled d made (bind (fields_of d c t) xs) body) (compiled d made (bind (fields_of d c u) ys) body) (compiled_cases d made xs t (c ∷ earlier) cases) (compiled_cases d made ys u (c ∷ earlier) cases)
        (compiled_same body (bind (fields_of d c t) xs) (bind (fields_of d c u) ys)
        (bind_same inside (fields_of d c t) (fields_of d c u) xs ys
        (fields_same inside t u sels (λ e. matched (or_right (not sure) (any_below inside (field_count d c)) e)))
        (λ i e. h i (or_left (inside (i + field_count d c)) (not sure && occurs_in_cases d uses (c ∷ earlier) cases i) (subst (λ (m : ℕ). inside (i + m) ≡ true) (count_fields t sels) e)))))
        (λ e. matched (or_left (not sure) (any_below inside (field_count d c)) (not_sure sure e)))
        (λ e.
        cases_same cases (c ∷ earlier) xs ys t u (λ later. matched (or_left (not sure) (any_below inside (field_count d c)) (not_sure sure e)))
        (λ i o. h i (or_right (inside (i + field_count d c)) (not sure && occurs_in_cases d uses (c ∷ earlier) cases i) (both_true (not sure) (occurs_in_cases d uses (c ∷ earlier) cases i) (not_sure sure e) o))))

-- so it is with definitions
module _ (d : Declarations) (bodies : List Formula) where
  uses_next : (n : ℕ) (k : DefId) (i : ℕ) → uses_below d bodies (suc n) k i ≡ (if k.0 == n then body_uses d (uses_below d bodies n) (slice_get bodies n) i else uses_below d bodies n k i)
  unfolding uses_below
  uses_next n k i = refl

  body_same : (n : ℕ) (o : Option Formula) (ts us : List CoreTree) → UseSame (uses_below d bodies n) (calls_below (compiled d) no_term bodies n) → AreBoundSame (body_uses d (uses_below d bodies n) o) ts us → body_call (compiled d) no_term (calls_below (compiled d) no_term bodies n) o ts ≡ body_call (compiled d) no_term (calls_below (compiled d) no_term bodies n) o us
  body_same n None ts us same h = refl
  body_same n (Some body) ts us same h =
      compiled_same d (uses_below d bodies n) (calls_below (compiled d) no_term bodies n) same body (bind ts []) (bind us [])
      (bind_same (occurs d (uses_below d bodies n) body) ts us [] [] h (λ i e. refl))

  -- a test that is known, in both
  tested : (b : Bool) (x y v w : CoreTree) → (b ≡ true → x ≡ v) → (b ≡ false → y ≡ w) → (if b then x else y) ≡ (if b then v else w)
  tested true x y v w h k = h refl
  tested false x y v w h k = k refl

  pub definitions_same : (n : ℕ) → UseSame (uses_below d bodies n) (calls_below (compiled d) no_term bodies n)
  unfolding calls_below
  definitions_same zero k ts us h = refl
  definitions_same (suc n) k ts us h =
      tested (k.0 == n) _ _ _ _
      (λ e. body_same n (slice_get bodies n) ts us (definitions_same n) (bound_weaker (body_uses d (uses_below d bodies n) (slice_get bodies n)) (uses_below d bodies (suc n) k) (λ i o. uses_next n k i ∙ ap (λ (b : Bool). if b then body_uses d (uses_below d bodies n) (slice_get bodies n) i else uses_below d bodies n k i) e ∙ o) ts us h))
      (λ e. definitions_same n k ts us (bound_weaker (uses_below d bodies n k) (uses_below d bodies (suc n) k) (λ i o. uses_next n k i ∙ ap (λ (b : Bool). if b then body_uses d (uses_below d bodies n) (slice_get bodies n) i else uses_below d bodies n k i) e ∙ o) ts us h))

  pub core_of_same : (t : Formula) (xs ys : List CoreTree) → AreSameAt (occurs_in d bodies t) xs ys → core_of d bodies xs t ≡ core_of d bodies ys t
  core_of_same t xs ys h = compiled_same d (uses_below d bodies (length bodies)) (calls (compiled d) no_term bodies) (definitions_same (length bodies)) t xs ys h
