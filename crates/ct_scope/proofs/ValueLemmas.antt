-- Terms of closed values, one after the other.
use Rattle.std.proofs.Common.{◌≡◌, ◌⊎◌, ℕ, suc, ◌+◌, ◌<◌, Bool, true, false, cond, List, [], ◌∷◌, ◌++◌, length, map, drop, Contains, Result, Ok, Err, Some, slice_get, option_map, unwrap_or, IfOk, IsErrOf, if◌then◌else◌, nat_eq, Decides, refl, sym, ap, subst, ◌∙◌, inl, inr, arith}
use Rattle.std.specs.List.{AllByRecursion}
use Rattle.std.proofs.lemmas.List.{append-nil, append_assoc}
use Rattle.std.proofs.lemmas.Bool.Decides.{Decides-and, Decides-eqb}
use Rattle.std.proofs.lemmas.Option.{same_Some, slice_get_within}
use Rattle.std.proofs.lemmas.List.Elements.{Contains-append_left, Contains-append_right}
use Rattle.std.proofs.lemmas.Result.{IfOk-weaker}
use Rattle.ct_lemmas.proofs.Contained.{Contains-first, Contains-rest, Contains-cons, Contains-none}
use Rattle.indexmap.specs.IndexMap.{IndexMap, get}
use Rattle.ct_sorts.specs.declared.ids.CtorId.{CtorId}
use Rattle.ct_sorts.specs.declared.ids.SortId.{SortId}
use Rattle.ct_sorts.specs.declared.ids.SelId.{SelId}
use Rattle.ct_sorts.specs.Declarations.{Declarations, Constructor, Selector, bool_sort}
use Rattle.ct_terms.specs.declared.ids.TermId.{TermId}
use Rattle.ct_terms.specs.declared.error.TermError.{TermError}
use Rattle.ct_terms.specs.declared.error.TermError.TheVariants.{Full, NoMemory}
use Rattle.ct_terms.specs.Terms.{Terms}
use Rattle.ct_terms.specs.CoreTree.{CoreTree, con, with_tree, trees_of, list_of_trees, subtrees, subtrees_of_all, term_at}
use Rattle.ct_listing.specs.Closed.{ClosedValue, ClosedValues, build, no_closed, with_closed, closed_of, term_of, terms_under}
use Rattle.ct_listing.specs.Listable.{field_sort, field_sorts}
use Rattle.ct_listing.specs.Listing.{listed}
use Rattle.ct_finite.specs.Entries.{AreEntries}
use Rattle.ct_operators.specs.Effect.{Stands, AllStand, IsSoundTable, IsPrefix, Within, Effect}
use Rattle.ct_operators.specs.Made.{HasTree, HasTrees, MakesInOrder}
use Rattle.ct_operators.proofs.EffectLemmas.{prefix_itself, prefix_trans, stands_stays, effect_none, effect_then, effect_because, same_error}
use Rattle.ct_operators.proofs.MakesLemmas.{makes_then, makes_none, makes_one, has_subterm}
use Rattle.ct_operators.proofs.OperandLemmas.{all_trees, all_below}
use Rattle.ct_operators.proofs.OperatorLemmas.{stands_as}
use Rattle.ct_scope.specs.declared.bound.Bound.{Bound}
use Rattle.ct_scope.specs.declared.bound.Bound.TheVariants.{Term, Absent}
use Rattle.ct_scope.specs.declared.values.ListedValue.{ListedValue}
use Rattle.ct_scope.specs.Making.{making_value, making_under, making_values}
use Rattle.ct_scope.specs.Awaiting.{with_rest, FieldsRest}
use Rattle.ct_scope.specs.Values.{same_value, AreValueTerms, AreWithin, MakesValue, MakesFields, BindsValue, BindsValues}
use Rattle.ct_scope.proofs.CompilableLemmas.{bound_stays}
use Rattle.ct_scope.proofs.BindingLemmas.{flags_split}

-- ---- what is known of values

Decides-same_value : (a b : ListedValue) → Decides (same_value a b) (a ≡ b)
Decides-same_value a b =
    let both = Decides-and (nat_eq a.sort.0 b.sort.0) (nat_eq a.number b.number) (Decides-eqb a.sort.0 b.sort.0) (Decides-eqb a.number b.number) in
    (λ h i. record { sort = record { 0 = (both.0 h).0 i }; number = (both.0 h).1 i }, λ e. both.1 (ap (λ k. k.sort.0) e, ap (λ k. k.number) e))

-- nothing but the value is new
pub remembered : {S : Type 0} (known more : IndexMap ListedValue TermId S) (value : ListedValue) (term : TermId) → ((k : ListedValue) → get same_value more k ≡ cond (same_value value k) (Some term) (get same_value known k)) → (k : ListedValue) (t : TermId) → get same_value more k ≡ Some t → (get same_value known k ≡ Some t) ⊎ ((k ≡ value) × (t ≡ term))
remembered known more value term writes k t has = at (same_value value k) refl (sym (writes k) ∙ has)
  where
    at : (b : Bool) → same_value value k ≡ b → cond b (Some term) (get same_value known k) ≡ Some t → (get same_value known k ≡ Some t) ⊎ ((k ≡ value) × (t ≡ term))
    at true e now = inr (sym ((Decides-same_value value k).0 e), same_Some t term (sym now))
    at false e now = inl now

module _ (d : Declarations) where
  -- in a longer table the terms still are those of their values
  pub values_stay : {S : Type 0} (old new : Terms) (terms : IndexMap ListedValue TermId S) → IsPrefix old new → IsSoundTable d new → AreValueTerms d old terms → AreValueTerms d new terms
  values_stay old new terms grown kept h value t at = let found = h value t at in (found.0, found.1, stands_stays d old new t (term_of found.0) grown kept found.2)

  -- with one more
  pub values_more : {S : Type 0} (table : Terms) (terms more : IndexMap ListedValue TermId S) (value : ListedValue) (term : TermId) (v : ClosedValue) → ((k : ListedValue) (t : TermId) → get same_value more k ≡ Some t → (get same_value terms k ≡ Some t) ⊎ ((k ≡ value) × (t ≡ term))) → slice_get (listed d value.sort) value.number ≡ Some v → Stands table term (term_of v) → AreValueTerms d table terms → AreValueTerms d table more
  values_more table terms more value term v only at stands h k t has =
      elim (only k t has) [
        | inl before ↦ h k t before
        | inr now ↦
            (v, ap (λ (x : ListedValue). slice_get (listed d x.sort) x.number) now.0 ∙ at, subst (λ (x : TermId). Stands table x (term_of v)) (sym now.1) stands)
      ]

-- ---- look-ups

-- what a look-up gives is what definitions read
pub field_read : (d : Declarations) (s : SelId) (f : SortId) → option_map (λ (u : Selector). u.sort) (slice_get d.sels s.0) ≡ Some f → field_sort d s ≡ f
field_read d s f e = ap (λ o. unwrap_or o bool_sort) e

pub fields_read : (d : Declarations) (c : CtorId) (sels : List SelId) → option_map (λ (u : Constructor). u.sels) (slice_get d.ctors c.0) ≡ Some sels → field_sorts d c ≡ map (field_sort d) sels
fields_read d c sels e = ap (λ o. map (field_sort d) (unwrap_or o [])) e

-- one value has the number
pub of_value : (d : Declarations) (s : SortId) (k : ℕ) (P : ClosedValue → Type 0) (w : ClosedValue) → slice_get (listed d s) k ≡ Some w → P w → (v : ClosedValue) → slice_get (listed d s) k ≡ Some v → P v
of_value d s k P w at h v here = subst P (same_Some w v (sym at ∙ here)) h

-- ---- what is made for a value is under its term

all_append : {X : Type 0} (P : X → Type 0) (xs ys : List X) → AllByRecursion P xs → AllByRecursion P ys → AllByRecursion P (xs ++ ys)
all_append P [] ys h k = k
all_append P (x ∷ xs) ys h k = (h.0, all_append P xs ys h.1 k)

all_weaker : {X : Type 0} (P Q : X → Type 0) → ((x : X) → P x → Q x) → (xs : List X) → AllByRecursion P xs → AllByRecursion Q xs
all_weaker P Q less [] h = tt
all_weaker P Q less (x ∷ xs) h = (less x h.0, all_weaker P Q less xs h.1)

mutual
  made_under : (v : ClosedValue) → AllByRecursion (λ t. Contains (subtrees (term_of v)) t) (making_value v)
  made_under (build c vs) =
      let whole = con c (terms_under vs) in
      let below = subtrees_of_all (terms_under vs) in
      all_append (λ t. Contains (whole ∷ below) t) (making_under vs) (whole ∷ [])
      (all_weaker (λ t. Contains below t) (λ t. Contains (whole ∷ below) t) (λ t h. Contains-rest whole below t h) (making_under vs) (made_under_all vs))
      (Contains-first whole below, tt)

  made_under_all : (vs : ClosedValues) → AllByRecursion (λ t. Contains (subtrees_of_all (terms_under vs)) t) (making_under vs)
  made_under_all no_closed = tt
  made_under_all (with_closed v vs) =
      let here = subtrees (term_of v) in
      let later = subtrees_of_all (terms_under vs) in
      all_append (λ t. Contains (here ++ later) t) (making_value v) (making_under vs)
      (all_weaker (λ t. Contains here t) (λ t. Contains (here ++ later) t) (λ t h. Contains-append_left here later t h) (making_value v) (made_under v))
      (all_weaker (λ t. Contains later t) (λ t. Contains (here ++ later) t) (λ t h. Contains-append_right here later t h) (making_under vs) (made_under_all vs))

-- ---- one value

module _ (d : Declarations) where
  -- its term is there
  pub value_known : (table : Terms) (u : TermId) (v : ClosedValue) → IsSoundTable d table → Stands table u (term_of v) → MakesValue d table table v (Ok u)
  value_known table u v kept stands = record {
    core = stands;
    grown = (prefix_itself table, kept);
    effect = λ allowed w. effect_none d allowed table (IsErrOf (Ok u) Full) kept (λ x. cc);
    order = makes_none (making_value v) table
        (all_weaker (λ t. Contains (subtrees (term_of v)) t) (HasTree table) (λ t inside. has_subterm kept.theorems table (term_of v) t kept.ordered (u, stands) inside) (making_value v) (made_under v));
  }

  -- there is no memory
  pub value_nothing : (table : Terms) (v : ClosedValue) (e : TermError) → e ≡ NoMemory → IsSoundTable d table → MakesValue d table table v (Err e)
  value_nothing table v e is kept = record {
    core = tt;
    grown = (prefix_itself table, kept);
    effect = λ allowed w. effect_none d allowed table (IsErrOf (Err e) Full) kept (λ x. cc);
    order = tt;
  }

  pub value_lost : (old new : Terms) (v : ClosedValue) (u : TermId) (e : TermError) → e ≡ NoMemory → MakesValue d old new v (Ok u) → MakesValue d old new v (Err e)
  value_lost old new v u e is h = record {
    core = tt;
    grown = h.grown;
    effect = λ allowed w. effect_because d allowed old new _ _ (λ x. cc) (h.effect allowed w);
    order = tt;
  }

  under_trees : (vs : List ClosedValue) → trees_of (map term_of vs) ≡ terms_under (closed_of vs)
  under_trees [] = refl
  under_trees (v ∷ vs) = ap (with_tree (term_of v)) (under_trees vs)

  within_fields : (allowed : List CoreTree) (vs : List ClosedValue) → ((t : CoreTree) → Contains (subtrees_of_all (terms_under (closed_of vs))) t → Contains allowed t) → AreWithin allowed vs
  within_fields allowed [] w v inside = absurd (Contains-none v inside)
  within_fields allowed (x ∷ vs) w v inside =
      let here = subtrees (term_of x) in
      let later = subtrees_of_all (terms_under (closed_of vs)) in
      elim (Contains-cons x vs v inside) [
        | inl e ↦ subst (λ (y : ClosedValue). Within allowed (term_of y)) e (λ t h. w t (Contains-append_left here later t h))
        | inr rest ↦ within_fields allowed vs (λ t h. w t (Contains-append_right here later t h)) v rest
      ]

  module _ (c : CtorId) (vs : List ClosedValue) where
    abbrev v : ClosedValue
    v = build c (closed_of vs)

    below : (allowed : List CoreTree) → Within allowed (term_of v) → AreWithin allowed vs
    below allowed w = within_fields allowed vs (λ t h. w t (Contains-rest (term_of v) (subtrees_of_all (terms_under (closed_of vs))) t h))

    -- what stands under it fails
    pub value_failed : (old new : Terms) (e : TermError) → MakesFields d old new vs (Err e) → MakesValue d old new v (Err e)
    value_failed old new e all = record {
      core = tt;
      grown = all.grown;
      effect = λ allowed w. effect_because d allowed old new _ _ (same_error e Full) (all.effect allowed (below allowed w));
      order = tt;
    }

    module _ (old mid : Terms) (args : List TermId) (all : MakesFields d old mid vs (Ok args)) where
      -- the term to be made
      pub value_tree : con c (trees_of (map (term_at mid) args)) ≡ term_of v
      value_tree = ap (con c) (ap trees_of (all_trees mid args (map term_of vs) all.core) ∙ under_trees vs)

      pub fields_below : AllByRecursion (λ t. t.0 < length mid) args
      fields_below = all_below mid args (map term_of vs) all.core

      children : (us : List TermId) (ws : List ClosedValue) → AllStand mid us (map term_of ws) → HasTrees mid (list_of_trees (terms_under (closed_of ws)))
      children [] [] h = tt
      children [] (w ∷ ws) h = absurd h
      children (u ∷ us) [] h = absurd h
      children (u ∷ us) (w ∷ ws) h = ((u, h.0), children us ws h.1)

      pub value_made : (new : Terms) (r : Result TermId TermError) → IfOk r (λ t. Stands new t (con c (trees_of (map (term_at mid) args)))) → ((allowed : List CoreTree) → Contains allowed (con c (trees_of (map (term_at mid) args))) → Effect d allowed mid new (IsErrOf r Full)) → MakesValue d old new v r
      value_made new r core effect =
          let own : (allowed : List CoreTree) → Contains allowed (term_of v) → Effect d allowed mid new (IsErrOf r Full) = λ allowed inside. effect allowed (subst (Contains allowed) (sym value_tree) inside) in
          let one = own (subtrees (term_of v)) (Contains-first (term_of v) (subtrees_of_all (terms_under (closed_of vs)))) in
          record {
            core = IfOk-weaker r _ (λ t. Stands new t (term_of v)) (λ t k. stands_as new t _ _ value_tree k) core;
            grown = (prefix_trans old mid new all.grown.0 one.grown, one.kept);
            effect = λ allowed w. effect_then d allowed old mid new _ _ (all.effect allowed (below allowed w)) (own allowed (w (term_of v) (Contains-first (term_of v) (subtrees_of_all (terms_under (closed_of vs))))));
            order = IfOk-weaker r _ (λ t. MakesInOrder old (making_value v) new)
                (λ t k. makes_then (making_under (closed_of vs)) (term_of v ∷ []) old mid new all.order
                (makes_one d mid new (term_of v) (IsErrOf r Full) one (children args vs all.core) (t, stands_as new t _ _ value_tree k))) core;
          }

-- ---- several values, one after the other

module _ (d : Declarations) where
  fields_none : (table : Terms) → IsSoundTable d table → MakesFields d table table [] (Ok [])
  fields_none table kept = record {
    core = tt;
    grown = (prefix_itself table, kept);
    effect = λ allowed w. effect_none d allowed table (IsErrOf (Ok []) Full) kept (λ x. cc);
    order = refl;
  }

  -- the first fails
  fields_failed : (old new : Terms) (v : ClosedValue) (vs : List ClosedValue) (e : TermError) → MakesValue d old new v (Err e) → MakesFields d old new (v ∷ vs) (Err e)
  fields_failed old new v vs e one = record {
    core = tt;
    grown = one.grown;
    effect = λ allowed w. effect_because d allowed old new _ _ (same_error e Full) (one.effect allowed (w v (Contains-first v vs)));
    order = tt;
  }

  -- the first is made, and then the rest
  fields_then : (old mid new : Terms) (v : ClosedValue) (vs : List ClosedValue) (u : TermId) (r : Result (List TermId) TermError) → MakesValue d old mid v (Ok u) → MakesFields d mid new vs r → MakesFields d old new (v ∷ vs) (with_rest (u ∷ []) r)
  fields_then old mid new v vs u (Ok us) one rest = record {
    core = (stands_stays d mid new u (term_of v) rest.grown.0 rest.grown.1 one.core, rest.core);
    grown = (prefix_trans old mid new one.grown.0 rest.grown.0, rest.grown.1);
    effect = λ allowed w. effect_because d allowed old new _ _ (λ x. cc) (effect_then d allowed old mid new _ _ (one.effect allowed (w v (Contains-first v vs))) (rest.effect allowed (λ x inside. w x (Contains-rest v vs x inside))));
    order = makes_then (making_value v) (making_under (closed_of vs)) old mid new one.order rest.order;
  }
  fields_then old mid new v vs u (Err e) one rest = record {
    core = tt;
    grown = (prefix_trans old mid new one.grown.0 rest.grown.0, rest.grown.1);
    effect = λ allowed w. effect_because d allowed old new _ _ (same_error e Full) (effect_then d allowed old mid new _ _ (one.effect allowed (w v (Contains-first v vs))) (rest.effect allowed (λ x inside. w x (Contains-rest v vs x inside))));
    order = tt;
  }

  pub fields_start : (sorts : List SortId) (numbers : List ℕ) (table : Terms) → FieldsRest d sorts numbers table table sorts numbers []
  fields_start sorts numbers table = record { step = λ vs entries. (vs, entries, λ new r all. subst (MakesFields d table new vs) (alone r) all) }
    where
      alone : (r : Result (List TermId) TermError) → r ≡ with_rest [] r
      alone (Ok us) = refl
      alone (Err e) = refl

  -- one entry more
  pub entry_first : (s : SortId) (rest : List SortId) (k : ℕ) (others : List ℕ) (vs : List ClosedValue) → AreEntries d (s ∷ rest) (k ∷ others) vs → (v : ClosedValue) × (more : List ClosedValue) × (vs ≡ v ∷ more) × (slice_get (listed d s) k ≡ Some v) × AreEntries d rest others more
  entry_first s rest k others [] h = absurd h
  entry_first s rest k others (v ∷ vs) h = (v, vs, refl, h.0, h.1)

  -- where there is a sort there is a number
  pub entries_some : (s : SortId) (rest : List SortId) (others : List ℕ) (vs : List ClosedValue) → AreEntries d (s ∷ rest) others vs → 0 < length others
  entries_some s rest [] vs h = absurd h
  entries_some s rest (k ∷ others) vs h = omega arith

  -- the first number is that of an entry
  pub entries_there : (s : SortId) (rest : List SortId) (k : ℕ) (others : List ℕ) (vs : List ClosedValue) → AreEntries d (s ∷ rest) (k ∷ others) vs → k < length (listed d s)
  entries_there s rest k others vs h = let first = entry_first s rest k others vs h in slice_get_within (listed d s) k first.0 first.3

  module _ (sorts : List SortId) (numbers : List ℕ) (old table : Terms) (s : SortId) (rest : List SortId) (k : ℕ) (others : List ℕ) (args : List TermId) (h : FieldsRest d sorts numbers old table (s ∷ rest) (k ∷ others) args) where
    pub fields_stopped : (new : Terms) (e : TermError) → ((v : ClosedValue) → slice_get (listed d s) k ≡ Some v → MakesValue d table new v (Err e)) → (vs : List ClosedValue) → AreEntries d sorts numbers vs → MakesFields d old new vs (Err e)
    fields_stopped new e one vs entries =
        let left = h.step vs entries in
        let first = entry_first s rest k others left.0 left.1 in
        left.2 new (Err e) (subst (λ (xs : List ClosedValue). MakesFields d table new xs (Err e)) (sym first.2) (fields_failed table new first.0 first.1 e (one first.0 first.3)))

    pub fields_entry : (vs : List ClosedValue) × AreEntries d sorts numbers vs → (v : ClosedValue) × (slice_get (listed d s) k ≡ Some v)
    fields_entry entries =
        let left = h.step entries.0 entries.1 in
        let first = entry_first s rest k others left.0 left.1 in
        (first.0, first.3)

    pub fields_more : (mid : Terms) (u : TermId) → ((v : ClosedValue) → slice_get (listed d s) k ≡ Some v → MakesValue d table mid v (Ok u)) → FieldsRest d sorts numbers old mid rest others (args ++ u ∷ [])
    fields_more mid u one = record {
      step = λ vs entries.
          let left = h.step vs entries in
          let first = entry_first s rest k others left.0 left.1 in (
            first.1,
            first.4,
            λ new r all.
                subst (MakesFields d old new vs) (grouped r)
                (left.2 new (with_rest (u ∷ []) r) (subst (λ (xs : List ClosedValue). MakesFields d table new xs (with_rest (u ∷ []) r)) (sym first.2) (fields_then table mid new first.0 first.1 u r (one first.0 first.3) all))),
          );
    }
      where
        grouped : (r : Result (List TermId) TermError) → with_rest args (with_rest (u ∷ []) r) ≡ with_rest (args ++ u ∷ []) r
        grouped (Ok us) = ap Ok (sym (append_assoc args (u ∷ []) us))
        grouped (Err e) = refl

  -- there is no memory
  nothing_made : (table : Terms) (vs : List ClosedValue) (e : TermError) → e ≡ NoMemory → IsSoundTable d table → MakesFields d table table vs (Err e)
  nothing_made table vs e is kept = record {
    core = tt;
    grown = (prefix_itself table, kept);
    effect = λ allowed w. effect_none d allowed table (IsErrOf (Err e) Full) kept (λ x. cc);
    order = tt;
  }

  pub fields_lost : (sorts : List SortId) (numbers : List ℕ) (old table : Terms) (rest : List SortId) (others : List ℕ) (args : List TermId) → FieldsRest d sorts numbers old table rest others args → IsSoundTable d table → (e : TermError) → e ≡ NoMemory → (vs : List ClosedValue) → AreEntries d sorts numbers vs → MakesFields d old table vs (Err e)
  fields_lost sorts numbers old table rest others args h kept e is vs entries = let left = h.step vs entries in left.2 table (Err e) (nothing_made table left.0 e is kept)

  pub fields_end : (sorts : List SortId) (numbers : List ℕ) (old table : Terms) (others : List ℕ) (args : List TermId) → IsSoundTable d table → FieldsRest d sorts numbers old table [] others args → (vs : List ClosedValue) → AreEntries d sorts numbers vs → MakesFields d old table vs (Ok args)
  fields_end sorts numbers old table others args kept h vs entries =
      let left = h.step vs entries in
      let none : left.0 ≡ [] = ends others left.0 left.1 in
      subst (λ (us : List TermId). MakesFields d old table vs (Ok us)) (append-nil args) (left.2 table (Ok []) (subst (λ (xs : List ClosedValue). MakesFields d table table xs (Ok [])) (sym none) (fields_none table kept)))
    where
      ends : (others : List ℕ) (xs : List ClosedValue) → AreEntries d [] others xs → xs ≡ []
      ends [] [] e = refl
      ends [] (x ∷ xs) e = absurd e
      ends (k ∷ others) [] e = absurd e
      ends (k ∷ others) (x ∷ xs) e = absurd e

-- ---- variables, one after the other

module _ (d : Declarations) where
  -- what is to be added before what the rest stands for
  abbrev pub with_first : List Bound → Result (List Bound) TermError → Result (List Bound) TermError
  with_first xs (Ok ys) = Ok (xs ++ ys)
  with_first xs (Err e) = Err e

  -- one that occurs, and one that does not
  pub bound_by : (old new : Terms) (v : ClosedValue) (r : Result TermId TermError) (u : TermId) → r ≡ Ok u → MakesValue d old new v r → BindsValue d old new true v (Ok (Term u))
  bound_by old new v r u is h =
      let one = subst (MakesValue d old new v) is h in
      record {
        core = one.core;
        flagged = tt;
        grown = one.grown;
        effect = λ allowed w. effect_because d allowed old new _ _ (λ x. cc) (one.effect allowed (w refl));
        order = one.order;
      }

  pub bound_failed : (old new : Terms) (v : ClosedValue) (e : TermError) → MakesValue d old new v (Err e) → BindsValue d old new true v (Err e)
  bound_failed old new v e one = record {
    core = tt;
    flagged = tt;
    grown = one.grown;
    effect = λ allowed w. effect_because d allowed old new _ _ (same_error e Full) (one.effect allowed (w refl));
    order = tt;
  }

  pub bound_absent : (table : Terms) (v : ClosedValue) → IsSoundTable d table → BindsValue d table table false v (Ok Absent)
  bound_absent table v kept = record {
    core = tt;
    flagged = tt;
    grown = (prefix_itself table, kept);
    effect = λ allowed w. effect_none d allowed table (IsErrOf (Ok Absent) Full) kept (λ x. cc);
    order = refl;
  }

  bounds_none : (table : Terms) → IsSoundTable d table → BindsValues d table table [] [] (Ok [])
  bounds_none table kept = record {
    core = tt;
    flagged = tt;
    grown = (prefix_itself table, kept);
    effect = λ allowed w. effect_none d allowed table (IsErrOf (Ok []) Full) kept (λ x. cc);
    order = refl;
  }

  bounds_failed : (old new : Terms) (b : Bool) (flags : List Bool) (v : ClosedValue) (vs : List ClosedValue) (e : TermError) → BindsValue d old new b v (Err e) → BindsValues d old new (b ∷ flags) (v ∷ vs) (Err e)
  bounds_failed old new b flags v vs e one = record {
    core = tt;
    flagged = tt;
    grown = one.grown;
    effect = λ allowed w. effect_because d allowed old new _ _ (same_error e Full) (one.effect allowed w.0);
    order = tt;
  }

  bounds_then : (old mid new : Terms) (b : Bool) (flags : List Bool) (v : ClosedValue) (vs : List ClosedValue) (x : Bound) (r : Result (List Bound) TermError) → BindsValue d old mid b v (Ok x) → BindsValues d mid new flags vs r → BindsValues d old new (b ∷ flags) (v ∷ vs) (with_first (x ∷ []) r)
  bounds_then old mid new b flags v vs x (Ok xs) one rest = record {
    core = (bound_stays d mid new x (term_of v) rest.grown.0 rest.grown.1 one.core, rest.core);
    flagged = (one.flagged, rest.flagged);
    grown = (prefix_trans old mid new one.grown.0 rest.grown.0, rest.grown.1);
    effect = λ allowed w. effect_because d allowed old new _ _ (λ y. cc) (effect_then d allowed old mid new _ _ (one.effect allowed w.0) (rest.effect allowed w.1));
    order = makes_then (if b then making_value v else []) (making_values flags vs) old mid new one.order rest.order;
  }
  bounds_then old mid new b flags v vs x (Err e) one rest = record {
    core = tt;
    flagged = tt;
    grown = (prefix_trans old mid new one.grown.0 rest.grown.0, rest.grown.1);
    effect = λ allowed w. effect_because d allowed old new _ _ (same_error e Full) (effect_then d allowed old mid new _ _ (one.effect allowed w.0) (rest.effect allowed w.1));
    order = tt;
  }

  pub record BoundsRest (sorts : List SortId) (numbers : List ℕ) (flags : List Bool) (old table : Terms) (rest : List SortId) (others : List ℕ) (left_flags : List Bool) (bounds : List Bound) : Type 0 where
    pub long : length left_flags ≡ length rest
    pub step : (vs : List ClosedValue) → AreEntries d sorts numbers vs → (left : List ClosedValue) × AreEntries d rest others left × ((new : Terms) (r : Result (List Bound) TermError) → BindsValues d table new left_flags left r → BindsValues d old new flags vs (with_first bounds r))

  pub bounds_start : (sorts : List SortId) (numbers : List ℕ) (flags : List Bool) (table : Terms) → length flags ≡ length sorts → BoundsRest sorts numbers flags table table sorts numbers flags []
  bounds_start sorts numbers flags table same = record { long = same; step = λ vs entries. (vs, entries, λ new r all. subst (BindsValues d table new flags vs) (alone r) all) }
    where
      alone : (r : Result (List Bound) TermError) → r ≡ with_first [] r
      alone (Ok us) = refl
      alone (Err e) = refl

  module _ (sorts : List SortId) (numbers : List ℕ) (flags : List Bool) (old table : Terms) (left : List SortId) (others : List ℕ) (left_flags : List Bool) (bounds : List Bound) (s : SortId) (rest : List SortId) (is : left ≡ s ∷ rest) (entries : (vs : List ClosedValue) × AreEntries d sorts numbers vs) (h : BoundsRest sorts numbers flags old table left others left_flags bounds) where
    pub bounds_some : (0 < length others) × (0 < length left_flags)
    bounds_some =
        let at = h.step entries.0 entries.1 in
        let long : length left ≡ suc (length rest) = ap length is in
        (entries_some d s rest others at.0 (subst (λ (l : List SortId). AreEntries d l others at.0) is at.1), omega (arith, h.long, long))

    pub bounds_split : (k : ℕ) (more : List ℕ) (b : Bool) (more_flags : List Bool) → slice_get others 0 ≡ Some k → more ≡ drop 1 others → slice_get left_flags 0 ≡ Some b → more_flags ≡ drop 1 left_flags → BoundsRest sorts numbers flags old table (s ∷ rest) (k ∷ more) (b ∷ more_flags) bounds × (k < length (listed d s))
    bounds_split k more b more_flags first after flag after_flags =
        let here =
        subst (λ (l : List SortId). BoundsRest sorts numbers flags old table l (k ∷ more) (b ∷ more_flags) bounds) is
        (subst (λ (ns : List ℕ). BoundsRest sorts numbers flags old table left ns (b ∷ more_flags) bounds) (flags_split others more k first after)
        (subst (λ (bs : List Bool). BoundsRest sorts numbers flags old table left others bs bounds) (flags_split left_flags more_flags b flag after_flags) h)) in
        let at = here.step entries.0 entries.1 in
        (here, entries_there d s rest k more at.0 at.1)

  module _ (sorts : List SortId) (numbers : List ℕ) (flags : List Bool) (old table : Terms) (s : SortId) (rest : List SortId) (k : ℕ) (others : List ℕ) (b : Bool) (left_flags : List Bool) (bounds : List Bound) (h : BoundsRest sorts numbers flags old table (s ∷ rest) (k ∷ others) (b ∷ left_flags) bounds) where
    pub bounds_stopped : (new : Terms) (e : TermError) → ((v : ClosedValue) → slice_get (listed d s) k ≡ Some v → BindsValue d table new b v (Err e)) → (vs : List ClosedValue) → AreEntries d sorts numbers vs → BindsValues d old new flags vs (Err e)
    bounds_stopped new e one vs entries =
        let left = h.step vs entries in
        let first = entry_first d s rest k others left.0 left.1 in
        left.2 new (Err e) (subst (λ (xs : List ClosedValue). BindsValues d table new (b ∷ left_flags) xs (Err e)) (sym first.2) (bounds_failed table new b left_flags first.0 first.1 e (one first.0 first.3)))

    pub bounds_entry : (vs : List ClosedValue) × AreEntries d sorts numbers vs → (v : ClosedValue) × (slice_get (listed d s) k ≡ Some v)
    bounds_entry entries =
        let left = h.step entries.0 entries.1 in
        let first = entry_first d s rest k others left.0 left.1 in
        (first.0, first.3)

    pub bounds_more : (mid : Terms) (x : Bound) → ((v : ClosedValue) → slice_get (listed d s) k ≡ Some v → BindsValue d table mid b v (Ok x)) → BoundsRest sorts numbers flags old mid rest others left_flags (bounds ++ x ∷ [])
    bounds_more mid x one = record {
      long = omega (arith, h.long);
      step = λ vs entries.
          let left = h.step vs entries in
          let first = entry_first d s rest k others left.0 left.1 in (
            first.1,
            first.4,
            λ new r all.
                subst (BindsValues d old new flags vs) (grouped r)
                (left.2 new (with_first (x ∷ []) r) (subst (λ (xs : List ClosedValue). BindsValues d table new (b ∷ left_flags) xs (with_first (x ∷ []) r)) (sym first.2) (bounds_then table mid new b left_flags first.0 first.1 x r (one first.0 first.3) all))),
          );
    }
      where
        grouped : (r : Result (List Bound) TermError) → with_first bounds (with_first (x ∷ []) r) ≡ with_first (bounds ++ x ∷ []) r
        grouped (Ok us) = ap Ok (sym (append_assoc bounds (x ∷ []) us))
        grouped (Err e) = refl

  -- there is no memory
  pub nothing_bound : (table : Terms) (flags : List Bool) (vs : List ClosedValue) (e : TermError) → e ≡ NoMemory → IsSoundTable d table → BindsValues d table table flags vs (Err e)
  nothing_bound table flags vs e is kept = record {
    core = tt;
    flagged = tt;
    grown = (prefix_itself table, kept);
    effect = λ allowed w. effect_none d allowed table (IsErrOf (Err e) Full) kept (λ x. cc);
    order = tt;
  }

  pub bounds_lost : (sorts : List SortId) (numbers : List ℕ) (flags : List Bool) (old table : Terms) (rest : List SortId) (others : List ℕ) (left_flags : List Bool) (bounds : List Bound) → BoundsRest sorts numbers flags old table rest others left_flags bounds → IsSoundTable d table → (e : TermError) → e ≡ NoMemory → (vs : List ClosedValue) → AreEntries d sorts numbers vs → BindsValues d old table flags vs (Err e)
  bounds_lost sorts numbers flags old table rest others left_flags bounds h kept e is vs entries = let left = h.step vs entries in left.2 table (Err e) (nothing_bound table left_flags left.0 e is kept)

  pub bounds_end : (sorts : List SortId) (numbers : List ℕ) (flags : List Bool) (old table : Terms) (others : List ℕ) (left_flags : List Bool) (bounds : List Bound) → IsSoundTable d table → BoundsRest sorts numbers flags old table [] others left_flags bounds → (vs : List ClosedValue) → AreEntries d sorts numbers vs → BindsValues d old table flags vs (Ok bounds)
  bounds_end sorts numbers flags old table others left_flags bounds kept h vs entries =
      let left = h.step vs entries in
      let none : left.0 ≡ [] = ends others left.0 left.1 in
      let no_flags : left_flags ≡ [] = empty left_flags h.long in
      subst (λ (us : List Bound). BindsValues d old table flags vs (Ok us)) (append-nil bounds)
      (left.2 table (Ok []) (subst (λ (bs : List Bool). BindsValues d table table bs left.0 (Ok [])) (sym no_flags) (subst (λ (xs : List ClosedValue). BindsValues d table table [] xs (Ok [])) (sym none) (bounds_none table kept))))
    where
      ends : (others : List ℕ) (xs : List ClosedValue) → AreEntries d [] others xs → xs ≡ []
      ends [] [] e = refl
      ends [] (x ∷ xs) e = absurd e
      ends (k ∷ others) [] e = absurd e
      ends (k ∷ others) (x ∷ xs) e = absurd e

      empty : (bs : List Bool) → length bs ≡ 0 → bs ≡ []
      empty [] e = refl
      empty (b ∷ bs) e = absurd (omega (arith, e))
