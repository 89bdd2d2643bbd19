-- The sorts without parameters of a block that is accepted, with the sorts of their fields and all that comes with these.
use Rattle.std.proofs.Common.{◌≡◌, ℕ, zero, suc, ◌+◌, ◌-◌, ◌<◌, ◌≤◌, ◌⊎◌, ◌==◌, Bool, true, false, if◌then◌else◌, List, [], ◌∷◌, ◌++◌, length, map, sum, slice_get, Option, Some, None, option_map, refl, sym, ◌∙◌, ap, ap₂, subst, subst₂, inl, inr, ⊎_elim, arith, length-append}
use Rattle.std.specs.List.{AllZip, flat_map, sum_by}
use Rattle.std.proofs.lemmas.List.Sums.{sum-map, sum_by-append}
use Rattle.std.proofs.lemmas.Bool.Decides.{Decides-eqb}
use Rattle.std.proofs.lemmas.List.{append_assoc, length-map}
use Rattle.std.proofs.lemmas.Option.{none-some, same_Some, slice_get_within}
use Rattle.ct_lemmas.proofs.Lists.{slice_get-append_after, slice_get-append_cases, slice_get-append_left, slice_get-flat_map, slice_get-map_at, slice_get-map_source, slice_get-there}
use Rattle.ct_generics.specs.declared.kind.Kind.{Kind as HeadKind}
use Rattle.ct_generics.specs.declared.decl.CtorDecl.{CtorDecl}
use Rattle.ct_generics.specs.declared.decl.Field.{Field}
use Rattle.ct_generics.specs.declared.decl.SortDecl.{SortDecl}
use Rattle.ct_generics.specs.declared.room.Room.{Room}
use Rattle.ct_generics.specs.Expression.{Expression, parameter, named, applied, args_of, substitute}
use Rattle.ct_generics.specs.Declarations.{Head, IsExpression, Takes}
use Rattle.ct_generics.specs.Reach.{AreDifferent, fields_of, fields_with, fields_by_kind}
use Rattle.ct_generics.specs.Add.{Adds, Fits, IsAmong, field_sorts, ctor_count, sel_count}
use Rattle.ct_generics.specs.Additions.{AreAmong, ComeAfterArguments, HaveFields, IsAddition}
use Rattle.ct_generics.specs.WellFormed.{AreExpressions, HaveExpressions}
use Rattle.ct_sorts.specs.declared.ids.Kind.{Kind}
use Rattle.ct_sorts.specs.declared.ids.Kind.TheVariants.{Data, Codata}
use Rattle.ct_sorts.specs.declared.spelling.Spelling.{Spelling}
use Rattle.ct_sorts.specs.Block.{block_ctors, block_spellings, own_fields, own_sorts, plain_from, spelling, with_own}
use Rattle.ct_sorts.specs.Consistent.{IsConsistent}
use Rattle.ct_sorts.specs.Declarations.{Declarations}
use Rattle.ct_sorts.specs.Heads.{NamesEach}
use Rattle.ct_sorts.specs.Kinds.{head_kind}
use Rattle.ct_sorts.specs.Limits.{generic_count, generic_ctors, generic_sels, room_in}
use Rattle.ct_sorts.specs.Room.{IsLeft, decl_fields}
use Rattle.ct_sorts.proofs.AddedLemmas.{later_of_added, new_fields}
use Rattle.ct_sorts.proofs.BaseLemmas.{IsBase}
use Rattle.ct_sorts.proofs.BlockLemmas.{IsAccepted, ctors_under, kind_is, sels_under, sorts_under, zipped}
use Rattle.ct_sorts.proofs.HeadLemmas.{head_there}
use Rattle.ct_sorts.proofs.MoreHeadsLemmas.{field_sorts_same}
use Rattle.ct_sorts.proofs.OwnLemmas.{IsHeadOf, fields_in_all, fields_named, generic_count-append, generic_ctors-append, generic_sels-append, own_long}
use Rattle.ct_sorts.proofs.ShapeLemmas.{AllZip-length, flat_map-source}
use Rattle.ct_sorts.proofs.SortsLemmas.{AreAdded}

-- ---- the sorts without parameters

same_named : (g h : ℕ) → named g ≡ named h → g ≡ h
same_named g h e = cc

-- one more at the front: a sort, or a generic
plain_cons : (P : List Expression → Type 0) (h params : ℕ) (rest : List ℕ) → (params ≡ 0 → P (named h ∷ plain_from (h + 1) rest)) → ((params ≡ 0 → ⊥) → P (plain_from (h + 1) rest)) → P (plain_from h (params ∷ rest))
plain_cons P h params rest sort generic = by (params == 0) (Decides-eqb params 0)
  where
    by : (b : Bool) → (b ≡ true → params ≡ 0) × (params ≡ 0 → b ≡ true) → P (if b then named h ∷ plain_from (h + 1) rest else plain_from (h + 1) rest)
    by true tells = sort (tells.0 refl)
    by false tells = generic (λ e. let same = tells.1 e in absurd (let kept = same in cc))

-- each is a sort or generic of the block without parameters
pub plain_at : (h : ℕ) (ps : List ℕ) (i : ℕ) (e : Expression) → slice_get (plain_from h ps) i ≡ Some e → (j : ℕ) × (e ≡ named (h + j)) × (slice_get ps j ≡ Some 0)
plain_at h [] i e at = absurd (none-some _ at)
plain_at h (p ∷ ps) i e at =
    plain_cons (λ xs. (i : ℕ) → slice_get xs i ≡ Some e → (j : ℕ) × (e ≡ named (h + j)) × (slice_get (p ∷ ps) j ≡ Some 0)) h p ps
    (λ none i at. first none i at (λ k at_k. plain_at (h + 1) ps k e at_k))
    (λ some i at. later (plain_at (h + 1) ps i e at))
    i at
  where
    later : (j : ℕ) × (e ≡ named (h + 1 + j)) × (slice_get ps j ≡ Some 0) → (j : ℕ) × (e ≡ named (h + j)) × (slice_get (p ∷ ps) j ≡ Some 0)
    later found = let s : h + 1 + found.0 ≡ h + suc found.0 = omega arith in (suc found.0, found.1 ∙ ap named s, found.2)

    first : p ≡ 0 → (i : ℕ) → slice_get (named h ∷ plain_from (h + 1) ps) i ≡ Some e → ((k : ℕ) → slice_get (plain_from (h + 1) ps) k ≡ Some e → (j : ℕ) × (e ≡ named (h + 1 + j)) × (slice_get ps j ≡ Some 0)) → (j : ℕ) × (e ≡ named (h + j)) × (slice_get (p ∷ ps) j ≡ Some 0)
    first none zero at rest = let s : h ≡ h + 0 = omega arith in (0, sym (same_Some _ _ at) ∙ ap named s, ap Some none)
    first none (suc i) at rest = later (rest i at)

-- each of these is among the sorts
pub plain_there : (h : ℕ) (ps : List ℕ) (j : ℕ) → slice_get ps j ≡ Some 0 → IsAmong (plain_from h ps) (named (h + j))
plain_there h [] j at = absurd (none-some _ at)
plain_there h (p ∷ ps) zero at =
    let s : h ≡ h + 0 = omega arith in
    subst (λ k. IsAmong (plain_from h (p ∷ ps)) (named k)) s (plain_cons (λ xs. IsAmong xs (named h)) h p ps (λ none. (0, refl)) (λ some. absurd (some (same_Some _ _ at))))
plain_there h (p ∷ ps) (suc j) at =
    let s : h + 1 + j ≡ h + suc j = omega arith in
    let rest = plain_there (h + 1) ps j at in
    subst (λ k. IsAmong (plain_from h (p ∷ ps)) (named k)) s (plain_cons (λ xs. IsAmong xs (named (h + 1 + j))) h p ps (λ none. (suc rest.0, rest.1)) (λ some. rest))

-- none comes twice
pub plain_different : (h : ℕ) (ps : List ℕ) → AreDifferent (plain_from h ps)
plain_different h [] = λ i j e at also. absurd (none-some _ at)
plain_different h (p ∷ ps) = plain_cons AreDifferent h p ps (λ none. first (plain_different (h + 1) ps)) (λ some. plain_different (h + 1) ps)
  where
    not_later : (k : ℕ) → slice_get (plain_from (h + 1) ps) k ≡ Some (named h) → ⊥
    not_later k at = let found = plain_at (h + 1) ps k (named h) at in omega (arith, same_named h (h + 1 + found.0) found.1)

    first : AreDifferent (plain_from (h + 1) ps) → AreDifferent (named h ∷ plain_from (h + 1) ps)
    first rest zero zero e at also = refl
    first rest zero (suc j) e at also = absurd (not_later j (also ∙ sym at))
    first rest (suc i) zero e at also = absurd (not_later i (at ∙ sym also))
    first rest (suc i) (suc j) e at also = ap suc (rest i j e at also)

-- ---- how many there are

pub sum-more : {X : Type 0} (f : X → ℕ) (x : X) (xs : List X) → sum (map f (x ∷ xs)) ≡ f x + sum (map f xs)
sum-more f x xs =
    let one : sum_by f (x ∷ []) ≡ f x = omega arith in
    sum-map f (x ∷ xs) ∙ sum_by-append f (x ∷ []) xs ∙ ap₂ (λ (a b : ℕ). a + b) one (sym (sum-map f xs))

sum-append : {X : Type 0} (f : X → ℕ) (xs ys : List X) → sum (map f (xs ++ ys)) ≡ sum (map f xs) + sum (map f ys)
sum-append f xs ys = sum-map f (xs ++ ys) ∙ sum_by-append f xs ys ∙ ap₂ (λ (a b : ℕ). a + b) (sym (sum-map f xs)) (sym (sum-map f ys))

-- those without parameters and the generics are all
pub plain_and_generic : (h : ℕ) (own : List Head) → length (plain_from h (map (λ (k : Head). k.params) own)) + generic_count own ≡ length own
plain_and_generic h [] = omega arith
plain_and_generic h (head ∷ own) = by (head.params == 0) (plain_and_generic (h + 1) own)
  where
    by : (b : Bool) → length (plain_from (h + 1) (map (λ (k : Head). k.params) own)) + generic_count own ≡ length own → length (if b then named h ∷ plain_from (h + 1) (map (λ (k : Head). k.params) own) else plain_from (h + 1) (map (λ (k : Head). k.params) own)) + (if b then generic_count own else 1 + generic_count own) ≡ suc (length own)
    by true e = omega (arith, e)
    by false e = omega (arith, e)

-- the sorts of the fields of one of them are as they were declared
pub fields_rows : (k : Kind) → (k ≡ Data) ⊎ (k ≡ Codata) → (all : List Head) (n : ℕ) (head : Head) → slice_get all n ≡ Some head → head.kind ≡ head_kind k → fields_of all (named n) ≡ map (map (substitute [])) head.ctors
fields_rows k (inl e) all n head at is = ap (λ (o : Option Head). fields_with o []) at ∙ ap (λ (x : HeadKind). fields_by_kind x (map (map (substitute [])) head.ctors)) (is ∙ ap head_kind e)
fields_rows k (inr e) all n head at is = ap (λ (o : Option Head). fields_with o []) at ∙ ap (λ (x : HeadKind). fields_by_kind x (map (map (substitute [])) head.ctors)) (is ∙ ap head_kind e)

rows_long : (f : Expression → Expression) (ctors : List CtorDecl) (rows : List (List Expression)) → AllZip NamesEach (map spelling ctors) rows → length (flat_map (λ (r : List Expression). r) (map (map f) rows)) ≡ length (decl_fields ctors)
rows_long f [] [] all = refl
rows_long f [] (row ∷ rows) all = absurd all
rows_long f (c ∷ ctors) [] all = absurd all
rows_long f (c ∷ ctors) (row ∷ rows) all =
    omega (
      arith,
      length-append (map f row) (flat_map (λ (r : List Expression). r) (map (map f) rows)),
      length-map row f,
      length-append c.fields (decl_fields ctors),
      all.0,
      length-map c.fields (λ (x : Field). x.name),
      rows_long f ctors rows all.1,
    )

module _ (k : Kind) (kinds : (k ≡ Data) ⊎ (k ≡ Codata)) (all : List Head) where
  one_ctors : (n : ℕ) (decl : SortDecl) (head : Head) → slice_get all n ≡ Some head → IsHeadOf (head_kind k) decl head → length (fields_of all (named n)) ≡ length decl.ctors
  one_ctors n decl head at is =
      ap length (fields_rows k kinds all n head at is.kind_is) ∙ length-map head.ctors (map (substitute [])) ∙ sym (AllZip-length (map spelling decl.ctors) head.ctors is.named_each) ∙ length-map decl.ctors spelling

  one_sels : (n : ℕ) (decl : SortDecl) (head : Head) → slice_get all n ≡ Some head → IsHeadOf (head_kind k) decl head → length (field_sorts all (named n)) ≡ length (decl_fields decl.ctors)
  one_sels n decl head at is =
      ap (λ (rows : List (List Expression)). length (flat_map (λ (r : List Expression). r) rows)) (fields_rows k kinds all n head at is.kind_is) ∙ rows_long (substitute []) decl.ctors head.ctors is.named_each

  -- the constructors and the fields of these sorts and of the generics are all
  pub own_ctors : (n : ℕ) (block : List SortDecl) (own : List Head) → AllZip (IsHeadOf (head_kind k)) block own → ((j : ℕ) (head : Head) → slice_get own j ≡ Some head → slice_get all (n + j) ≡ Some head) → ctor_count all (plain_from n (map (λ (h : Head). h.params) own)) + generic_ctors own (block_spellings block) ≡ length (block_ctors block)
  own_ctors n [] [] zipped at = omega arith
  own_ctors n [] (head ∷ own) zipped at = absurd zipped
  own_ctors n (s ∷ block) [] zipped at = absurd zipped
  own_ctors n (s ∷ block) (head ∷ own) zipped at =
      let here : n + 0 ≡ n = omega arith in
      let next : (j : ℕ) → n + suc j ≡ n + 1 + j = λ j. omega arith in
      by (head.params == 0)
      (one_ctors n s head (subst (λ i. slice_get all i ≡ Some head) here (at 0 head refl)) zipped.0)
      (own_ctors (n + 1) block own zipped.1 (λ j x at_j. subst (λ i. slice_get all i ≡ Some x) (next j) (at (suc j) x at_j)))
    where
      by : (b : Bool) → length (fields_of all (named n)) ≡ length s.ctors → ctor_count all (plain_from (n + 1) (map (λ (h : Head). h.params) own)) + generic_ctors own (block_spellings block) ≡ length (block_ctors block)
          → ctor_count all (if b then named n ∷ plain_from (n + 1) (map (λ (h : Head). h.params) own) else plain_from (n + 1) (map (λ (h : Head). h.params) own)) + ((if b then 0 else length (map spelling s.ctors)) + generic_ctors own (block_spellings block)) ≡ length (s.ctors ++ block_ctors block)
      by true one rest = omega (arith, one, rest, sum-more (λ e. length (fields_of all e)) (named n) (plain_from (n + 1) (map (λ (h : Head). h.params) own)), length-append s.ctors (block_ctors block))
      by false one rest = omega (arith, rest, length-map s.ctors spelling, length-append s.ctors (block_ctors block))

  pub own_sels : (n : ℕ) (block : List SortDecl) (own : List Head) → AllZip (IsHeadOf (head_kind k)) block own → ((j : ℕ) (head : Head) → slice_get own j ≡ Some head → slice_get all (n + j) ≡ Some head) → sel_count all (plain_from n (map (λ (h : Head). h.params) own)) + generic_sels own (block_spellings block) ≡ length (decl_fields (block_ctors block))
  own_sels n [] [] zipped at = omega arith
  own_sels n [] (head ∷ own) zipped at = absurd zipped
  own_sels n (s ∷ block) [] zipped at = absurd zipped
  own_sels n (s ∷ block) (head ∷ own) zipped at =
      let here : n + 0 ≡ n = omega arith in
      let next : (j : ℕ) → n + suc j ≡ n + 1 + j = λ j. omega arith in
      by (head.params == 0)
      (one_sels n s head (subst (λ i. slice_get all i ≡ Some head) here (at 0 head refl)) zipped.0)
      (own_sels (n + 1) block own zipped.1 (λ j x at_j. subst (λ i. slice_get all i ≡ Some x) (next j) (at (suc j) x at_j)))
    where
      by : (b : Bool) → length (field_sorts all (named n)) ≡ length (decl_fields s.ctors) → sel_count all (plain_from (n + 1) (map (λ (h : Head). h.params) own)) + generic_sels own (block_spellings block) ≡ length (decl_fields (block_ctors block))
          → sel_count all (if b then named n ∷ plain_from (n + 1) (map (λ (h : Head). h.params) own) else plain_from (n + 1) (map (λ (h : Head). h.params) own)) + ((if b then 0 else length (flat_map (λ (c : Spelling). c.fields) (map spelling s.ctors))) + generic_sels own (block_spellings block)) ≡ length (decl_fields (s.ctors ++ block_ctors block))
      by true one rest = omega (arith, one, rest, sum-more (λ e. length (field_sorts all e)) (named n) (plain_from (n + 1) (map (λ (h : Head). h.params) own)), fields_in_all s.ctors (block_ctors block))
      by false one rest = omega (arith, rest, fields_named s.ctors, fields_in_all s.ctors (block_ctors block))

-- without parameters nothing is put in their place
closed_stays : (heads : List Head) (m : ℕ) (e : Expression) → Takes heads 0 m e → Takes heads 0 m (substitute [] e)
closed_stays heads m (parameter i) takes = absurd (omega (arith, takes.1))
closed_stays heads m (named h) takes = takes
closed_stays heads m (applied e a) takes = (closed_stays heads (suc m) e takes.0, closed_stays heads 0 a takes.1)

module _ (d : Declarations) (kind : Kind) (block : List SortDecl) (own : List Head) (c : IsConsistent d) (a : IsAccepted d kind block own) where
  -- each sort of the block is one without parameters
  pub own_at : (i : ℕ) (e : Expression) → slice_get (own_sorts d own) i ≡ Some e → (j : ℕ) × (head : Head) × (e ≡ named (length d.declared.heads + j)) × (slice_get own j ≡ Some head) × (head.params ≡ 0)
  own_at i e at =
      let found = plain_at (length d.declared.heads) (map (λ (h : Head). h.params) own) i e at in
      let head = slice_get-map_source (λ (h : Head). h.params) own found.0 0 found.2 in
      (found.0, head.0, found.1, head.1, head.2)

  pub in_all : (j : ℕ) (head : Head) → slice_get own j ≡ Some head → slice_get (d.declared.heads ++ own) (length d.declared.heads + j) ≡ Some head
  in_all j head at = slice_get-append_after d.declared.heads own j ∙ at

  closed_own : AreExpressions (d.declared.heads ++ own) 0 (own_sorts d own)
  closed_own i e at =
      let o = own_at i e at in
      subst (IsExpression (d.declared.heads ++ own) 0) (sym o.2) (ap (option_map (λ (h : Head). h.params)) (in_all o.0 o.1 o.3) ∙ ap Some o.4)

  not_old : (i s : ℕ) (e : Expression) → slice_get d.origins s ≡ Some e → slice_get (own_sorts d own) i ≡ Some e → ⊥
  not_old i s e at also =
      let o = own_at i e also in
      let head = head_there (slice_get d.declared.heads (length d.declared.heads + o.0)) 0 (subst (IsExpression d.declared.heads 0) o.2 (c.origins.sorts s e at)) in
      omega (arith, slice_get_within d.declared.heads (length d.declared.heads + o.0) head.0 head.1)

  before_different : AreDifferent (d.origins ++ own_sorts d own)
  before_different i j e at also =
      ⊎_elim
      (λ old. ⊎_elim (λ other. c.origins.different i j e old other) (λ other. absurd (not_old other.0 i e old other.2)) (slice_get-append_cases d.origins (own_sorts d own) j e also))
      (λ new. ⊎_elim (λ other. absurd (not_old new.0 j e other new.2)) (λ other.
      let same = plain_different (length d.declared.heads) (map (λ (h : Head). h.params) own) new.0 other.0 e new.2 other.2 in
      omega (arith, new.1, other.1, same)) (slice_get-append_cases d.origins (own_sorts d own) j e also))
      (slice_get-append_cases d.origins (own_sorts d own) i e at)

  before_arguments : ComeAfterArguments (d.origins ++ own_sorts d own)
  before_arguments i k e x at at_k =
      ⊎_elim
      (λ old. let found = c.origins.arguments i k e x old at_k in (found.0, found.1, slice_get-append_left d.origins (own_sorts d own) found.0 x found.2))
      (λ new. let o = own_at new.0 e new.2 in absurd (none-some _ (subst (λ f. slice_get (args_of f) k ≡ Some x) o.2 at_k)))
      (slice_get-append_cases d.origins (own_sorts d own) i e at)

  module _ (more : (params : ℕ) (e : Expression) → IsExpression d.declared.heads params e → IsExpression (d.declared.heads ++ own) params e) (formed : HaveExpressions (d.declared.heads ++ own)) where
    before_closed : AreExpressions (d.declared.heads ++ own) 0 (d.origins ++ own_sorts d own)
    before_closed i e at =
        ⊎_elim (λ old. more 0 e (c.origins.sorts i e old)) (λ new. closed_own new.0 e new.2) (slice_get-append_cases d.origins (own_sorts d own) i e at)

    -- so are the sorts of their fields
    pub own_fields_closed : AreExpressions (d.declared.heads ++ own) 0 (own_fields d own)
    own_fields_closed n f at =
        let all = d.declared.heads ++ own in
        let of = flat_map-source (field_sorts all) (own_sorts d own) n f at in
        let o = own_at of.0 of.2 of.3 in
        let rows = fields_rows kind a.kinds all (length d.declared.heads + o.0) o.1 (in_all o.0 o.1 o.3) (kind_is d kind block own c a o.0 o.1 o.3) in
        let here : slice_get (flat_map (λ (r : List Expression). r) (map (map (substitute [])) o.1.ctors)) of.1 ≡ Some f = subst (λ (xs : List (List Expression)). slice_get (flat_map (λ (r : List Expression). r) xs) of.1 ≡ Some f) rows (subst (λ x. slice_get (field_sorts all x) of.1 ≡ Some f) o.2 of.4) in
        let row = flat_map-source (λ (r : List Expression). r) (map (map (substitute [])) o.1.ctors) of.1 f here in
        let ctor = slice_get-map_source (map (substitute [])) o.1.ctors row.0 row.2 row.3 in
        let field = slice_get-map_source (substitute []) ctor.0 row.1 f (subst (λ (xs : List Expression). slice_get xs row.1 ≡ Some f) (sym ctor.2) row.4) in
        let closed = subst (λ (n : ℕ). IsExpression all n field.0) o.4 (formed (length d.declared.heads + o.0) o.1 (in_all o.0 o.1 o.3) row.0 ctor.0 ctor.1 row.1 field.0 field.1) in
        subst (IsExpression all 0) field.2 (closed_stays all 0 field.0 closed)

    module _ (keeps : (es before after : List Expression) → Adds (d.declared.heads ++ own) es before after → IsAddition (d.declared.heads ++ own) es before after) (added_closed : (es before after : List Expression) → Adds (d.declared.heads ++ own) es before after → AreExpressions (d.declared.heads ++ own) 0 es → AreExpressions (d.declared.heads ++ own) 0 before → AreExpressions (d.declared.heads ++ own) 0 after) (added : List Expression) (adds : Adds (d.declared.heads ++ own) (own_fields d own) (d.origins ++ own_sorts d own) ((d.origins ++ own_sorts d own) ++ added)) where
      after_is : (d.origins ++ own_sorts d own) ++ added ≡ d.origins ++ (own_sorts d own ++ added)
      after_is = append_assoc d.origins (own_sorts d own) added

      keeps_now : IsAddition (d.declared.heads ++ own) (own_fields d own) (d.origins ++ own_sorts d own) ((d.origins ++ own_sorts d own) ++ added)
      keeps_now = keeps (own_fields d own) (d.origins ++ own_sorts d own) ((d.origins ++ own_sorts d own) ++ added) adds

      all_closed : AreExpressions (d.declared.heads ++ own) 0 ((d.origins ++ own_sorts d own) ++ added)
      all_closed = added_closed (own_fields d own) (d.origins ++ own_sorts d own) ((d.origins ++ own_sorts d own) ++ added) adds own_fields_closed before_closed

      -- the sorts of the fields of those that were there before
      fields_before : (e : Expression) → IsAmong (d.origins ++ own_sorts d own) e → AreAmong ((d.origins ++ own_sorts d own) ++ added) (field_sorts (d.declared.heads ++ own) e)
      fields_before e among k f at =
          ⊎_elim
          (λ old.
          let same = field_sorts_same d.declared.heads own e (c.origins.sorts among.0 e old) in
          let there = c.origins.fields e (among.0, old) k f (subst (λ (xs : List Expression). slice_get xs k ≡ Some f) same at) in
          (there.0, slice_get-append_left (d.origins ++ own_sorts d own) added there.0 f (slice_get-append_left d.origins (own_sorts d own) there.0 f there.1)))
          (λ new.
          let n = slice_get-flat_map (field_sorts (d.declared.heads ++ own)) (own_sorts d own) new.0 k e f new.2 at in
          keeps_now.all n.0 f n.1)
          (slice_get-append_cases d.origins (own_sorts d own) among.0 e among.1)

      have_fields : HaveFields (d.declared.heads ++ own) ((d.origins ++ own_sorts d own) ++ added)
      have_fields e among =
          ⊎_elim (λ before. fields_before e before) (λ fields. fields) (new_fields (d.declared.heads ++ own) keeps (own_fields d own) (d.origins ++ own_sorts d own) ((d.origins ++ own_sorts d own) ++ added) adds e among)

      pub own_plain : (h : ℕ) (head : Head) → slice_get (d.declared.heads ++ own) h ≡ Some head → head.params ≡ 0 → (s : ℕ) × (slice_get (d.origins ++ (own_sorts d own ++ added)) s ≡ Some (named h))
      own_plain h head at none =
          ⊎_elim
          (λ old. let s = c.plain h head old none in (s.0, slice_get-append_left d.origins (own_sorts d own ++ added) s.0 (named h) s.1))
          (λ new.
          let s = plain_there (length d.declared.heads) (map (λ (k : Head). k.params) own) new.0 (slice_get-map_at (λ (k : Head). k.params) own new.0 head new.2 ∙ ap Some none) in (
            length d.origins + s.0,
            slice_get-append_after d.origins (own_sorts d own ++ added) s.0 ∙ slice_get-append_left (own_sorts d own) added s.0 (named (length d.declared.heads + new.0)) s.1 ∙ ap (λ k. Some (named k)) (sym new.1),
          ))
          (slice_get-append_cases d.declared.heads own h head at)

      -- what a block adds
      pub added_block : IsBase (with_own d own (block_spellings block)) → (left : Room) → IsLeft (room_in d) left (length block) (length (block_ctors block)) (length (decl_fields (block_ctors block))) → Fits (d.declared.heads ++ own) left added → AreAdded (with_own d own (block_spellings block)) (own_sorts d own ++ added)
      added_block base left is_left fits =
          let all = d.declared.heads ++ own in
          let zip = zipped d kind block own c a in
          let different = subst AreDifferent after_is (keeps_now.different before_different) in
          let closed = subst (AreExpressions all 0) after_is all_closed in
          let sorts : (i : ℕ) (e : Expression) → slice_get (own_sorts d own ++ added) i ≡ Some e → IsExpression all 0 e = λ i e at. closed (length d.origins + i) e (slice_get-append_after d.origins (own_sorts d own ++ added) i ∙ at) in
          record {
            different = different;
            arguments = subst ComeAfterArguments after_is (keeps_now.arguments before_arguments);
            fields = subst (HaveFields all) after_is have_fields;
            sorts = sorts;
            later = later_of_added (with_own d own (block_spellings block)) base (own_sorts d own ++ added) different sorts;
            sorts_fit = omega (
              arith,
              length-append (own_sorts d own) added,
              fits.sorts,
              is_left.sorts_left,
              plain_and_generic (length d.declared.heads) own,
              generic_count-append d.declared.heads own,
              own_long (head_kind kind) block own zip,
              sorts_under d kind block own c a,
            );
            ctors_fit = omega (
              arith,
              sum-append (λ e. length (fields_of all e)) (own_sorts d own) added,
              fits.ctors,
              is_left.ctors_left,
              own_ctors kind a.kinds all (length d.declared.heads) block own zip in_all,
              generic_ctors-append d.declared.heads own d.spellings (block_spellings block) (sym c.heads.one_each),
              ctors_under d kind block own c a,
            );
            sels_fit = omega (
              arith,
              sum-append (λ e. length (field_sorts all e)) (own_sorts d own) added,
              fits.sels,
              is_left.sels_left,
              own_sels kind a.kinds all (length d.declared.heads) block own zip in_all,
              generic_sels-append d.declared.heads own d.spellings (block_spellings block) (sym c.heads.one_each),
              sels_under d kind block own c a,
            );
            plain = own_plain;
          }
