-- One more term: it is well sorted where its tree is, and the table grows by its tree or had it.
use Rattle.std.proofs.Common.{◌≡◌, ℕ, ◌+◌, ◌<◌, ◌≤◌, List, [], ◌∷◌, ◌++◌, length, map, Contains, Some, Result, Ok, Err, refl, sym, ap, subst, ◌∙◌, inl, inr, arith}
use Rattle.std.specs.Prelude.{IfOk, OnErr, IsErrOf}
use Rattle.std.specs.List.{AllZip, AllByRecursion}
use Rattle.std.proofs.lemmas.List.{length-append}
use Rattle.std.proofs.lemmas.List.Elements.{All-from_recursion}
use Rattle.std.proofs.lemmas.Option.{slice_get_within}
use Rattle.ct_lemmas.proofs.Lists.{slice_get-last, slice_get-push_cases, slice_get-there}
use Rattle.ct_sorts.specs.declared.ids.SelId.{SelId}
use Rattle.ct_sorts.specs.declared.ids.SortId.{SortId}
use Rattle.ct_sorts.specs.Declarations.{Declarations, bool_sort}
use Rattle.ct_terms.specs.declared.ids.TermId.{TermId}
use Rattle.ct_terms.specs.declared.error.TermError.{TermError}
use Rattle.ct_terms.specs.declared.error.TermError.TheVariants.{Full}
use Rattle.ct_terms.specs.declared.term.Core.{Core}
use Rattle.ct_terms.specs.declared.term.Core.TheVariants.{Con, Sel, Test, Apply, Eq, Not, And, Or, Iff, Ite}
use Rattle.ct_terms.specs.Children.{HasArgumentsBelow}
use Rattle.ct_terms.specs.Terms.{Terms, IsOfSort, IsBoolean, IsOfField, HasSort, AreSorted, AreOrdered, AreSingle, IsAbsent, Makes, most_terms}
use Rattle.ct_terms.specs.CoreTree.{CoreTree, con, sel, test, apply, equation, negation, conjunction, disjunction, equivalence, choice, trees_of, tree_layer, term_at}
use Rattle.ct_terms.specs.CoreSorts.{AreFieldSorts, HasSome, HasTreeSort, HaveTreeSorts, AreBooleanTrees}
use Rattle.ct_operators.specs.Effect.{Stands, IsSoundTable, Effect}
use Rattle.ct_operators.proofs.EffectLemmas.{effect_none}

-- ---- sorts, back from the tree

-- a term has the sort of its tree
pub sort_back : (d : Declarations) (table : Terms) (t : TermId) (sort : SortId) → IsSoundTable d table → t.0 < length table → HasTreeSort d (term_at table t) sort → IsOfSort table t sort
sort_back d table t sort kept within h =
    let at = slice_get-there table t.0 within in
    let has : HasTreeSort d (term_at table t) at.0.1 = kept.theorems.sorted d table t at.0.1 kept.ordered kept.sorted (at.0.0, at.1) in
    (at.0.0, at.1 ∙ ap (λ (s : SortId). Some (at.0.0, s)) (kept.theorems.one_sort d (term_at table t) at.0.1 sort has h))

module _ (d : Declarations) (table : Terms) (kept : IsSoundTable d table) where
  args_back : (args : List TermId) (sorts : List SortId) → AllByRecursion (λ t. t.0 < length table) args → HaveTreeSorts d (trees_of (map (term_at table) args)) sorts → AllZip (IsOfSort table) args sorts
  args_back [] [] below h = tt
  args_back [] (s ∷ sorts) below h = absurd h
  args_back (t ∷ args) [] below h = absurd h
  args_back (t ∷ args) (s ∷ sorts) below h = (sort_back d table t s kept below.0 h.0, args_back args sorts below.1 h.1)

  fields_back : (args : List TermId) (sels : List SelId) (sorts : List SortId) → AllByRecursion (λ t. t.0 < length table) args → AreFieldSorts d sels sorts → HaveTreeSorts d (trees_of (map (term_at table) args)) sorts → AllZip (IsOfField d table) args sels
  fields_back [] [] [] below fields h = tt
  fields_back [] [] (s ∷ sorts) below fields h = absurd fields
  fields_back [] (l ∷ sels) [] below fields h = absurd fields
  fields_back [] (l ∷ sels) (s ∷ sorts) below fields h = absurd h
  fields_back (t ∷ args) sels [] below fields h = absurd h
  fields_back (t ∷ args) [] (s ∷ sorts) below fields h = absurd fields
  fields_back (t ∷ args) (l ∷ sels) (s ∷ sorts) below fields h = (
    record {
      selector = fields.0.0;
      declared = fields.0.1;
      sorted = sort_back d table t fields.0.0.sort kept below.0 (subst (HasTreeSort d (term_at table t)) (sym fields.0.2) h.0);
    },
    fields_back args sels sorts below.1 fields.1 h.1,
  )

  booleans_back : (args : List TermId) → AllByRecursion (λ t. t.0 < length table) args → AreBooleanTrees d (trees_of (map (term_at table) args)) → AllByRecursion (IsBoolean table) args
  booleans_back [] below h = tt
  booleans_back (t ∷ args) below h = (sort_back d table t bool_sort kept below.0 h.0, booleans_back args below.1 h.1)

  some_back : (args : List TermId) → HasSome (trees_of (map (term_at table) args)) → 0 < length args
  some_back [] h = absurd h
  some_back (t ∷ args) h = omega arith

  -- a term is well sorted where its tree is
  pub layer_back : (core : Core) (sort : SortId) → HasArgumentsBelow (length table) core → HasTreeSort d (tree_layer (term_at table) core) sort → HasSort d table core sort
  layer_back (Con c args) sort below h = record { ctor = h.0; declared = h.2; fields = fields_back args h.0.sels h.1 below h.3 h.4; result = sym h.5 }
  layer_back (Sel s t) sort below h = record { selector = h.0; ctor = h.1; declared = h.2; constructor = h.3; sorted = sort_back d table t h.1.sort kept below.0 h.4; result = sym h.5 }
  layer_back (Test c t) sort below h = record { ctor = h.0; declared = h.1; sorted = sort_back d table t h.0.sort kept below.0 h.2; result = sym h.3 }
  layer_back (Apply f args) sort below h = record { function = h.0; declared = h.1; sorted = args_back args h.0.args below h.2; result = sym h.3 }
  layer_back (Eq a b) sort below h = record { side = h.0; left = sort_back d table a h.0 kept below.0 h.1; right = sort_back d table b h.0 kept below.1.0 h.2; other = h.3; result = sym h.4 }
  layer_back (Not t) sort below h = (sort_back d table t bool_sort kept below.0 h.0, sym h.1)
  layer_back (And args) sort below h = record { some = some_back args h.0; booleans = All-from_recursion (IsBoolean table) args (booleans_back args below h.1); result = sym h.2 }
  layer_back (Or args) sort below h = record { some = some_back args h.0; booleans = All-from_recursion (IsBoolean table) args (booleans_back args below h.1); result = sym h.2 }
  layer_back (Iff a b) sort below h = (sort_back d table a bool_sort kept below.0 h.0, sort_back d table b bool_sort kept below.1.0 h.1, sym h.2)
  layer_back (Ite c a b) sort below h = (sort_back d table c bool_sort kept below.0 h.0, sort_back d table a sort kept below.1.0 h.1, sort_back d table b sort kept below.1.1.0 h.2)

-- ---- trees that are the same below a bound

module _ (f g : TermId → CoreTree) (n : ℕ) (agree : (t : TermId) → t.0 < n → f t ≡ g t) where
  same_lists : (args : List TermId) → AllByRecursion (λ t. t.0 < n) args → map f args ≡ map g args
  same_lists [] below = refl
  same_lists (t ∷ args) below =
      ap (λ (u : CoreTree). u ∷ map f args) (agree t below.0) ∙ ap (λ (us : List CoreTree). g t ∷ us) (same_lists args below.1)

  pub layer_agrees : (core : Core) → HasArgumentsBelow n core → tree_layer f core ≡ tree_layer g core
  layer_agrees (Con c args) below = ap (λ (us : List CoreTree). con c (trees_of us)) (same_lists args below)
  layer_agrees (Sel s t) below = ap (sel s) (agree t below.0)
  layer_agrees (Test c t) below = ap (test c) (agree t below.0)
  layer_agrees (Apply h args) below = ap (λ (us : List CoreTree). apply h (trees_of us)) (same_lists args below)
  layer_agrees (Eq a b) below = ap (λ (u : CoreTree). equation u (f b)) (agree a below.0) ∙ ap (equation (g a)) (agree b below.1.0)
  layer_agrees (Not t) below = ap negation (agree t below.0)
  layer_agrees (And args) below = ap (λ (us : List CoreTree). conjunction (trees_of us)) (same_lists args below)
  layer_agrees (Or args) below = ap (λ (us : List CoreTree). disjunction (trees_of us)) (same_lists args below)
  layer_agrees (Iff a b) below = ap (λ (u : CoreTree). equivalence u (f b)) (agree a below.0) ∙ ap (equivalence (g a)) (agree b below.1.0)
  layer_agrees (Ite c a b) below =
      ap (λ (u : CoreTree). choice u (f a) (f b)) (agree c below.0) ∙ ap (λ (u : CoreTree). choice (g c) u (f b)) (agree a below.1.0) ∙ ap (choice (g c) (g a)) (agree b below.1.1.0)

-- ---- the table with one term more

module _ (d : Declarations) (old : Terms) (core : Core) (sort : SortId) (kept : IsSoundTable d old) (below : HasArgumentsBelow (length old) core) (absent : IsAbsent old core) where
  abbrev pushed : Terms
  pushed = old ++ (core, sort) ∷ []

  pub push_ordered : AreOrdered pushed
  push_ordered t c has = elim (slice_get-push_cases old (core, sort) (c, has.0) t has.1) [
    | inl before ↦ kept.ordered t c (has.0, before)
    | inr last ↦
        let e : core ≡ c = ap (λ (p : Core × SortId). p.0) last.1 in
        subst (λ (n : ℕ). HasArgumentsBelow n c) (sym last.0) (subst (HasArgumentsBelow (length old)) e below)
  ]

  pub push_single : AreSingle pushed
  push_single i j c at_i at_j = elim (slice_get-push_cases old (core, sort) (c, at_i.0) i at_i.1) [
    | inl before ↦ elim (slice_get-push_cases old (core, sort) (c, at_j.0) j at_j.1) [
      | inl also ↦ kept.single i j c (at_i.0, before) (at_j.0, also)
      | inr last ↦ absurd (absent i (at_i.0, before ∙ ap (λ (x : Core). Some (x, at_i.0)) (sym (ap (λ (p : Core × SortId). p.0) last.1))))
    ]
    | inr first ↦ elim (slice_get-push_cases old (core, sort) (c, at_j.0) j at_j.1) [
      | inl also ↦ absurd (absent j (at_j.0, also ∙ ap (λ (x : Core). Some (x, at_j.0)) (sym (ap (λ (p : Core × SortId). p.0) first.1))))
      | inr last ↦ first.0 ∙ sym last.0
    ]
  ]

  -- the new term
  abbrev new_id : TermId
  new_id = record { 0 = length old }

  old_tree : (t : TermId) → t.0 < length old → term_at pushed t ≡ term_at old t
  old_tree t h = kept.theorems.longer old ((core, sort) ∷ []) t push_ordered h

  pub new_tree : term_at pushed new_id ≡ tree_layer (term_at old) core
  new_tree =
      kept.theorems.unfolds pushed new_id core sort push_ordered (slice_get-last old (core, sort))
      ∙ layer_agrees (term_at pushed) (term_at old) (length old) old_tree core below

  pub long : length pushed ≡ length old + 1
  long = length-append old ((core, sort) ∷ [])

  -- its tree was not there
  pub was_missing : (t : TermId) → t.0 < length old → term_at old t ≡ tree_layer (term_at old) core → ⊥
  was_missing t h e =
      let same : t ≡ new_id = kept.theorems.one pushed t new_id push_ordered push_single (omega (arith, h, long)) (omega (arith, long)) (old_tree t h ∙ e ∙ sym new_tree) in
      omega (arith, h, ap (λ (k : TermId). k.0) same)

  pub push_effect : (allowed : List CoreTree) (full : Type 0) → AreSorted d pushed → (full → ⊥) → Contains allowed (tree_layer (term_at old) core) → Effect d allowed old pushed full
  push_effect allowed full sorted never inside = record {
    grown = ((core, sort) ∷ [], refl);
    kept = record { theorems = kept.theorems; sorted = sorted; ordered = push_ordered; single = push_single };
    adds = λ t from under.
        let number : t.0 ≡ length old = omega (arith, from, under, long) in
        let id : ℕ → TermId = λ k. record { 0 = k } in
        let same : t ≡ new_id = ap id number in
        subst (λ (k : TermId). Contains allowed (term_at pushed k)) (sym same) (subst (Contains allowed) (sym new_tree) inside);
    lacks = λ h. absurd (never h);
  }

-- ---- what making gives

module _ (d : Declarations) (old new : Terms) (core : Core) (t : TermId) (kept : IsSoundTable d old) (below : HasArgumentsBelow (length old) core) (sorted : AreSorted d old → AreSorted d new) where
  pub made_stands : Makes d old new core t.0 → Stands new t (tree_layer (term_at old) core)
  made_stands (inl h) = (
    subst (λ (ts : Terms). t.0 < length ts) (sym h.0) (slice_get_within old t.0 (core, h.1.0) h.1.1),
    ap (λ (ts : Terms). term_at ts t) h.0 ∙ kept.theorems.unfolds old t core h.1.0 kept.ordered h.1.1,
  )
  made_stands (inr h) =
      let sort = h.2.0 in
      let id : ℕ → TermId = λ k. record { 0 = k } in
      let same : t ≡ record { 0 = length old } = ap id h.1 in
      subst (λ (ts : Terms). Stands ts t (tree_layer (term_at old) core)) (sym h.2.2)
      (omega (arith, h.1, long d old core sort kept below h.0), ap (term_at (old ++ (core, sort) ∷ [])) same ∙ new_tree d old core sort kept below h.0)

  pub made_effect : (allowed : List CoreTree) (full : Type 0) → (full → ⊥) → Contains allowed (tree_layer (term_at old) core) → Makes d old new core t.0 → Effect d allowed old new full
  made_effect allowed full never inside (inl h) = subst (λ (ts : Terms). Effect d allowed old ts full) (sym h.0) (effect_none d allowed old full kept never)
  made_effect allowed full never inside (inr h) =
      subst (λ (ts : Terms). Effect d allowed old ts full) (sym h.2.2)
      (push_effect d old core h.2.0 kept below h.0 allowed full (subst (AreSorted d) h.2.2 (sorted kept.sorted)) never inside)

-- where the table is full
pub refused_effect : (d : Declarations) (old new : Terms) (core : Core) (sort : SortId) (allowed : List CoreTree) (full : Type 0) → IsSoundTable d old → HasArgumentsBelow (length old) core → new ≡ old → (full → IsAbsent old core × (most_terms ≤ length old)) → Contains allowed (tree_layer (term_at old) core) → Effect d allowed old new full
refused_effect d old new core sort allowed full kept below same why inside =
    subst (λ (ts : Terms). Effect d allowed old ts full) (sym same)
    (record {
      grown = (effect_none d allowed old ⊥ kept (λ h. h)).grown;
      kept = kept;
      adds = (effect_none d allowed old ⊥ kept (λ h. h)).adds;
      lacks = λ h. (tree_layer (term_at old) core, inside, was_missing d old core sort kept below (why h).0, (why h).1);
    })

-- what every answer of making does to the table
pub make_effect : (d : Declarations) (old new : Terms) (core : Core) (sort : SortId) (r : Result TermId TermError) (allowed : List CoreTree) → IsSoundTable d old → HasArgumentsBelow (length old) core → (AreSorted d old → AreSorted d new) → IfOk r (λ t. Makes d old new core t.0) → OnErr r (new ≡ old) → (IsErrOf r Full → IsAbsent old core × (most_terms ≤ length old)) → Contains allowed (tree_layer (term_at old) core) → Effect d allowed old new (IsErrOf r Full)
make_effect d old new core sort (Ok t) allowed kept below sorted made refused full inside = made_effect d old new core t kept below sorted allowed (IsErrOf (Ok t) Full) (λ h. cc) inside made
make_effect d old new core sort (Err e) allowed kept below sorted made refused full inside = refused_effect d old new core sort allowed (IsErrOf (Err e) Full) kept below refused full inside
