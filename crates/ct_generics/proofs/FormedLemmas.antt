-- Blocks keep declarations well formed.
use Rattle.std.proofs.Common.{◌≡◌, ℕ, zero, suc, List, [], ◌∷◌, ◌++◌, map, All, Some, option_map, slice_get, Ok, refl, sym, ap, subst, ◌∙◌, inl, inr}
use Rattle.std.proofs.lemmas.Option.{none-some, same_Some}
use Rattle.ct_lemmas.proofs.Each.{All-at}
use Rattle.ct_lemmas.proofs.Lists.{slice_get-append_left, slice_get-append_right, slice_get-append_cases, slice_get-map_source}
use Rattle.ct_generics.specs.declared.kind.Kind.{Kind}
use Rattle.ct_generics.specs.declared.decl.CtorDecl.{CtorDecl}
use Rattle.ct_generics.specs.declared.decl.Field.{Field}
use Rattle.ct_generics.specs.declared.decl.SortDecl.{SortDecl}
use Rattle.ct_generics.specs.Expression.{Expression}
use Rattle.ct_generics.specs.Declarations.{Declared, Head, Synonym, IsExpression}
use Rattle.ct_generics.specs.Outcome.{Outcome, each}
use Rattle.ct_generics.specs.Resolved.{resolved}
use Rattle.ct_generics.specs.Block.{fields_in, head_in, heads_in, named_only, with_heads, with_names}
use Rattle.ct_generics.specs.Synonyms.{with_synonym}
use Rattle.ct_generics.specs.WellFormed.{AreBlockParametersBelow, AreParametersBelow, HasExpressions, IsWellFormed}
use Rattle.ct_generics.proofs.OutcomeLemmas.{and_then-ok, each-parts, same_Ok}
use Rattle.ct_generics.proofs.WellFormedLemmas.{Takes-into, Takes-more, params_at, params-there}
use Rattle.ct_generics.proofs.MeaningLemmas.{resolved-takes}

-- ---- what came of each

-- what stands among the values came of what stands there
each-at : {X Y : Type 0} (f : X → Outcome Y) (xs : List X) (ys : List Y) → each f xs ≡ Ok ys → (k : ℕ) (y : Y) → slice_get ys k ≡ Some y → (x : X) × (slice_get xs k ≡ Some x) × (f x ≡ Ok y)
each-at f [] ys e k y at = absurd (none-some y (subst (λ (zs : List _). slice_get zs k ≡ Some y) (sym (same_Ok [] ys (Ok []) refl e)) at))
each-at f (x ∷ xs) ys e k y at =
    let parts = each-parts f x xs ys e in
    by k parts.0 parts.1 parts.2 (each-at f xs parts.1 parts.3) (subst (λ (zs : List _). slice_get zs k ≡ Some y) parts.4 at)
  where
    by : (i : ℕ) (v : _) (vs : List _) → f x ≡ Ok v → ((j : ℕ) (z : _) → slice_get vs j ≡ Some z → (w : _) × (slice_get xs j ≡ Some w) × (f w ≡ Ok z)) → slice_get (v ∷ vs) i ≡ Some y → (w : _) × (slice_get (x ∷ xs) i ≡ Some w) × (f w ≡ Ok y)
    by zero v vs first rest at_i = (x, refl, first ∙ ap Ok (same_Some v y at_i))
    by (suc i) v vs first rest at_i = rest i y at_i

-- and the other way round
each-source : {X Y : Type 0} (f : X → Outcome Y) (xs : List X) (ys : List Y) → each f xs ≡ Ok ys → (k : ℕ) (x : X) → slice_get xs k ≡ Some x → (y : Y) × (slice_get ys k ≡ Some y) × (f x ≡ Ok y)
each-source f [] ys e k x at = absurd (none-some x at)
each-source f (z ∷ xs) ys e k x at =
    let parts = each-parts f z xs ys e in
    by k parts.0 parts.1 parts.2 parts.4 (each-source f xs parts.1 parts.3) at
  where
    by : (i : ℕ) (v : _) (vs : List _) → f z ≡ Ok v → ys ≡ v ∷ vs → ((j : ℕ) (w : _) → slice_get xs j ≡ Some w → (u : _) × (slice_get vs j ≡ Some u) × (f w ≡ Ok u)) → slice_get (z ∷ xs) i ≡ Some x → (u : _) × (slice_get ys i ≡ Some u) × (f x ≡ Ok u)
    by zero v vs first is rest at_i = (v, ap (λ (zs : List _). slice_get zs 0) is, ap f (sym (same_Some z x at_i)) ∙ first)
    by (suc i) v vs first is rest at_i =
        let found = rest i x at_i in
        (found.0, ap (λ (zs : List _). slice_get zs (suc i)) is ∙ found.1, found.2)

-- ---- a block

head-parts : (names : Declared) (kind : Kind) (decl : SortDecl) (head : Head) → head_in names kind decl ≡ Ok head → (ctors : List (List Expression)) × (each (fields_in names) decl.ctors ≡ Ok ctors) × (record { name = decl.name; kind = kind; params = decl.params; ctors = ctors } ≡ head)
head-parts names kind decl head is =
    let parts = and_then-ok (each (fields_in names) decl.ctors) _ head is in
    (parts.0, parts.1, same_Ok _ head _ refl parts.2)

-- the names of the block have the numbers of parameters that the sorts and generics have
names-into : (d : Declared) (kind : Kind) (block : List SortDecl) (own : List Head) → heads_in d kind block ≡ Ok own → (h m : ℕ) → params_at (d.heads ++ map (named_only kind) block) h ≡ Some m → params_at (d.heads ++ own) h ≡ Some m
names-into d kind block own is h m at =
    let found = params-there (d.heads ++ map (named_only kind) block) h m at in
    elim (slice_get-append_cases d.heads (map (named_only kind) block) h found.0 found.1) [
      | inl before ↦ ap (option_map (λ (head : Head). head.params)) (slice_get-append_left d.heads own h found.0 before) ∙ ap Some found.2
      | inr after ↦
          let decl = slice_get-map_source (named_only kind) block after.0 found.0 after.2 in
          let head = each-source (head_in (with_names d kind block) kind) block own is after.0 decl.0 decl.1 in
          let parts = head-parts (with_names d kind block) kind decl.0 head.0 head.2 in
          ap (params_at (d.heads ++ own)) after.1
          ∙ ap (option_map (λ (x : Head). x.params)) (slice_get-append_right d.heads own after.0 head.0 head.1)
          ∙ ap (λ (x : Head). Some x.params) (sym parts.2)
          ∙ ap (λ (x : Head). Some x.params) decl.2
          ∙ ap Some found.2
    ]

HasExpressions-more : (heads more : List Head) (head : Head) → HasExpressions heads head → HasExpressions (heads ++ more) head
HasExpressions-more heads more head has i ctor at k e at_k = Takes-more heads more head.params 0 e (has i ctor at k e at_k)

names-formed : (d : Declared) (kind : Kind) (block : List SortDecl) → IsWellFormed d → IsWellFormed (with_names d kind block)
names-formed d kind block formed =
    record {
      heads = λ h head at. elim (slice_get-append_cases d.heads (map (named_only kind) block) h head at) [
        | inl before ↦ HasExpressions-more d.heads (map (named_only kind) block) head (formed.heads h head before)
        | inr after ↦
            let decl = slice_get-map_source (named_only kind) block after.0 head after.2 in
            subst (HasExpressions (d.heads ++ map (named_only kind) block)) decl.2 (λ i ctor at_i. absurd (none-some ctor at_i))
      ];
      synonyms = λ i s at. Takes-more d.heads (map (named_only kind) block) s.params 0 s.body (formed.synonyms i s at);
    }

-- the sorts and generics of a block
own-formed : (d : Declared) (kind : Kind) (block : List SortDecl) (own : List Head) → IsWellFormed d → AreBlockParametersBelow block → heads_in d kind block ≡ Ok own → (k : ℕ) (head : Head) → slice_get own k ≡ Some head → HasExpressions (d.heads ++ own) head
own-formed d kind block own formed below is k head at =
    let names = with_names d kind block in
    let decl = each-at (head_in names kind) block own is k head at in
    let parts = head-parts names kind decl.0 head decl.2 in
    let decl_below = All-at (λ (x : SortDecl). All (λ (c : CtorDecl). All (λ (f : Field). AreParametersBelow x.params f.sort) c.fields) x.ctors) block k decl.0 below decl.1 in
    subst (HasExpressions (d.heads ++ own)) parts.2 (λ i ctor at_i.
    let row = each-at (fields_in names) decl.0.ctors parts.0 parts.1 i ctor at_i in
    let row_below = All-at (λ (c : CtorDecl). All (λ (f : Field). AreParametersBelow decl.0.params f.sort) c.fields) decl.0.ctors i row.0 decl_below row.1 in
    λ j e at_j.
    let field = each-at (λ (f : Field). resolved names f.sort) row.0.fields ctor row.2 j e at_j in
    let field_below = All-at (λ (f : Field). AreParametersBelow decl.0.params f.sort) row.0.fields j field.0 row_below field.1 in
    Takes-into names.heads (d.heads ++ own) (names-into d kind block own is) decl.0.params 0 e (resolved-takes names (names-formed d kind block formed) decl.0.params field.0.sort field_below e field.2))

pub block-formed : (d : Declared) (kind : Kind) (block : List SortDecl) (own : List Head) → IsWellFormed d → AreBlockParametersBelow block → heads_in d kind block ≡ Ok own → IsWellFormed (with_heads d own)
block-formed d kind block own formed below is =
    record {
      heads = λ h head at. elim (slice_get-append_cases d.heads own h head at) [
        | inl before ↦ HasExpressions-more d.heads own head (formed.heads h head before)
        | inr after ↦ own-formed d kind block own formed below is after.0 head after.2
      ];
      synonyms = λ i s at. Takes-more d.heads own s.params 0 s.body (formed.synonyms i s at);
    }

-- a synonym
pub synonym-formed : (d : Declared) (s : Synonym) → IsWellFormed d → IsExpression d.heads s.params s.body → IsWellFormed (with_synonym d s)
synonym-formed d s formed is =
    record {
      heads = formed.heads;
      synonyms = λ i t at. elim (slice_get-append_cases d.synonyms (s ∷ []) i t at) [ inl before ↦ formed.synonyms i t before | inr after ↦ by after.0 t after.2 ];
    }
  where
    by : (k : ℕ) (t : Synonym) → slice_get (s ∷ []) k ≡ Some t → IsExpression d.heads t.params t.body
    by zero t at = subst (λ (x : Synonym). IsExpression d.heads x.params x.body) (same_Some s t at) is
    by (suc k) t at = absurd (none-some t at)
