-- What a block declares is determined, but for how its written sorts are kept; and these say of it all that refuses it.
use Rattle.std.proofs.Common.{◌≡◌, ◌∙◌, ◌≤◌, ◌-◌, ℕ, Bool, true, false, ◌==◌, ◌&&◌, ◌||◌, ◌⊎◌, inl, inr, Vec, Global, List, [], ◌∷◌, ◌++◌, length, map, take, drop, Option, Some, None, Result, Ok, Err, OnOk, All, refl, sym, ap, ap₂, subst, arith}
use Rattle.std.specs.Borrow.{Bor}
use Rattle.std.specs.List.{AllZip, flat_map, list_any}
use Rattle.std.proofs.lemmas.Bool.{true≢false}
use Rattle.std.proofs.lemmas.List.Elements.{All-append}
use Rattle.std.proofs.lemmas.List.{append_assoc, append-nil, append_cancel_left}
use Rattle.ct_lemmas.proofs.Pairs.{AllZip-one_length}
use Rattle.ct_lemmas.proofs.Prefixes.{rest-item}
use Rattle.ct_generics.specs.declared.expr.SortExpr.{SortExpr, Param, App}
use Rattle.ct_generics.specs.declared.expr.SortExpr.TheOpen.{SortExpr-F}
use Rattle.ct_generics.specs.declared.expr.SortExpr.TheFolds.{fold-roll-SortExpr}
use Rattle.ct_generics.specs.declared.expr.SortExpr.TheVariants.{rolls-App}
use Rattle.ct_generics.specs.declared.decl.Field.{Field}
use Rattle.ct_generics.specs.declared.decl.CtorDecl.{CtorDecl}
use Rattle.ct_generics.specs.declared.decl.SortDecl.{SortDecl}
use Rattle.ct_generics.specs.declared.kind.Kind.{Kind as HeadKind}
use Rattle.ct_generics.specs.Add.{Adds}
use Rattle.ct_generics.specs.Block.{named_only, with_names, fields_in, head_in, heads_in, IsShapeRefusal}
use Rattle.ct_generics.specs.Declarations.{Declared, Head}
use Rattle.ct_generics.specs.Expression.{Expression as SortExpression}
use Rattle.ct_generics.specs.Outcome.{Outcome, and_then, each}
use Rattle.ct_generics.specs.Resolved.{meaning, with_meaning, resolved_layer, resolved}
use Rattle.ct_sexpr.specs.Expression.{Expression, Expressions, leaf, list, none, more}
use Rattle.ct_sorts.specs.declared.ids.Kind.{Kind}
use Rattle.ct_sorts.specs.declared.ids.Declared.{Declared as Given}
use Rattle.ct_sorts.specs.declared.spelling.Spelling.{Spelling}
use Rattle.ct_sorts.specs.Availability.{HasUnavailable, HasUnavailableSort}
use Rattle.ct_sorts.specs.Block.{block_ctors, block_names, block_spellings, spelling, ctor_symbols, with_own, with_own_sorts, own_sorts, own_fields, has_no_constructor, IsWithBlock, IsBlockRefusal}
use Rattle.ct_sorts.specs.Declarations.{Declarations, declared_names, symbol_names}
use Rattle.ct_sorts.specs.Instances.{HasNoRoom}
use Rattle.ct_sorts.specs.Made.{with_sorts}
use Rattle.ct_sorts.specs.Kinds.{head_kind}
use Rattle.ct_sorts.specs.Limits.{IsOverLimits}
use Rattle.ct_sorts.specs.Written.{AreParametersBelow, AreBlockParametersBelow}
use Rattle.ct_sorts.specs.Refusals.{IsFirstCause, IsNone, name_taken, no_constructor, too_many}
use Rattle.ct_names.specs.Sorts.{parameter_at, name_in, Writes, a_parameter, a_name, an_instance, AllWrite, all_written, and_written, IsApp}
use Rattle.ct_names.specs.Refusals.{out_of_scope, repeated_variable}
use Rattle.ct_names.specs.Variables.{present_names}
use Rattle.ct_command.specs.declared.command.Family.{Family}
use Rattle.ct_command.specs.Command.{Named, SortHead, Constructor, Body}
use Rattle.ct_stack.specs.Numbers.{counts_differ}
use Rattle.ct_stack.specs.Elaborations.{kind_of, IsFieldOf, IsCtorOf, IsDeclOf, AreDecls, IsWithTypes, are_counted, have_repeated_parameter}
use Rattle.ct_stack.specs.Refusal.{HasFormlessField, IsRefusedBlock, IsTypesRefusal}
use Rattle.ct_stack.specs.Theorems.{AddSame}
use Rattle.ct_stack.proofs.StepLemmas.{no_cause}

-- ---- written sorts

resolved_app : (d : Declared) (name : List ℕ) (args : Vec SortExpr Global) → resolved d (App name args) ≡ with_meaning (meaning d name) (map (resolved d) args.items)
resolved_app d name args = ap (resolved d) (sym (rolls-App name args)) ∙ fold-roll-SortExpr (Outcome SortExpression) (resolved_layer d) (SortExpr-F.App name args)

app_resolved : (d : Declared) (name : List ℕ) (args : List SortExpr) (w : SortExpr) → IsApp name args w → resolved d w ≡ with_meaning (meaning d name) (map (resolved d) args)
app_resolved d name args w (items, is, same) = ap (resolved d) is ∙ resolved_app d name items ∙ ap (λ (ws : List SortExpr). with_meaning (meaning d name) (map (resolved d) ws)) same

-- how an expression writes a sort
abbrev AsParameter : List (List ℕ) → Expression → SortExpr → Type 0
AsParameter params e w = (name : List ℕ) × (i : ℕ) × (name_in e ≡ Some name) × (parameter_at params name ≡ Some i) × (w ≡ Param i)

abbrev AsName : List (List ℕ) → Expression → SortExpr → Type 0
AsName params e w = (name : List ℕ) × (name_in e ≡ Some name) × (parameter_at params name ≡ None) × IsApp name [] w

abbrev AsInstance : List (List ℕ) → Expression → SortExpr → Type 0
AsInstance params e w = (head : Expression) × (args : Expressions) × (name : List ℕ) × (arg : SortExpr) × (rest : List SortExpr) × (e ≡ list (more head args)) × (name_in head ≡ Some name) × AllWrite params args (arg ∷ rest) × IsApp name (arg ∷ rest) w

ways : (params : List (List ℕ)) (e : Expression) (w : SortExpr) → Writes params e w → AsParameter params e w ⊎ (AsName params e w ⊎ AsInstance params e w)
ways params _ _ (a_parameter e name i is at) = inl (name, i, is, at, refl)
ways params _ _ (a_name e name w is at app) = inr (inl (name, is, at, app))
ways params _ _ (an_instance head args name w arg rest is at all app) = inr (inr (head, args, name, arg, rest, refl, is, all, app))

one_name : (o : Option (List ℕ)) (name other : List ℕ) → o ≡ Some name → o ≡ Some other → other ≡ name
one_name o name other is also = cc

one_number : (o : Option ℕ) (i k : ℕ) → o ≡ Some i → o ≡ Some k → k ≡ i
one_number o i k is also = cc

not_both : (o : Option ℕ) (i : ℕ) → o ≡ Some i → o ≡ None → ⊥
not_both o i is also = cc

no_name : (e head : Expression) (args : Expressions) (name : List ℕ) → name_in e ≡ Some name → e ≡ list (more head args) → ⊥
no_name e head args name is same = let nameless : name_in e ≡ None = ap name_in same in (let other : Some name ≡ None = sym is ∙ nameless in absurd cc)

one_head : (head other : Expression) (args rest : Expressions) → list (more head args) ≡ list (more other rest) → other ≡ head
one_head head other args rest e = cc

one_rest : (head other : Expression) (args rest : Expressions) → list (more head args) ≡ list (more other rest) → rest ≡ args
one_rest head other args rest e = cc

-- what lists of expressions write
none_left : (params : List (List ℕ)) (vs : List SortExpr) → AllWrite params none vs → vs ≡ []
none_left params _ all_written = refl

more_left : (params : List (List ℕ)) (e : Expression) (es : Expressions) (vs : List SortExpr) → AllWrite params (more e es) vs → (v : SortExpr) × (others : List SortExpr) × (vs ≡ v ∷ others) × Writes params e v × AllWrite params es others
more_left params _ _ _ (and_written e es v others writes all) = (v, others, refl, writes, all)

module _ (d : Declared) (params : List (List ℕ)) where
  -- two names, where neither is a parameter
  named_same : (name other : List ℕ) (args others : List SortExpr) (w v : SortExpr) → other ≡ name → map (resolved d) args ≡ map (resolved d) others → IsApp name args w → IsApp other others v → resolved d w ≡ resolved d v
  named_same name other args others w v same alike app also =
      app_resolved d name args w app
      ∙ ap (λ xs. with_meaning (meaning d name) xs) alike
      ∙ ap (λ (n : List ℕ). with_meaning (meaning d n) (map (resolved d) others)) (sym same)
      ∙ sym (app_resolved d other others v also)

  mutual
    -- an expression writes one sort, but for how this is kept
    pub writes_same : (e : Expression) (w v : SortExpr) → Writes params e w → Writes params e v → resolved d w ≡ resolved d v
    writes_same _ _ v (a_parameter e name i is at) also =
        elim (ways params e v also) [
          | inl (other, k, named, place, same) ↦ let one : k ≡ i = one_number (parameter_at params name) i k at (ap (parameter_at params) (sym (one_name (name_in e) name other is named)) ∙ place) in ap (λ (n : ℕ). resolved d (Param n)) (sym one) ∙ ap (resolved d) (sym same)
          | inr (inl (other, named, place, app)) ↦ absurd (not_both (parameter_at params name) i at (ap (parameter_at params) (sym (one_name (name_in e) name other is named)) ∙ place))
          | inr (inr (head, args, other, arg, rest, same, named, all, app)) ↦ absurd (no_name e head args name is same)
        ]
    writes_same _ _ v (a_name e name w is at app) also =
        elim (ways params e v also) [
          | inl (other, k, named, place, same) ↦ absurd (not_both (parameter_at params name) k (ap (parameter_at params) (sym (one_name (name_in e) name other is named)) ∙ place) at)
          | inr (inl (other, named, place, second)) ↦ named_same name other [] [] w v (one_name (name_in e) name other is named) refl app second
          | inr (inr (head, args, other, arg, rest, same, named, all, second)) ↦ absurd (no_name e head args name is same)
        ]
    writes_same _ _ v (an_instance head args name w arg rest is at all app) also =
        elim (ways params (list (more head args)) v also) [
          | inl (other, k, named, place, same) ↦ absurd (no_name (list (more head args)) head args other named refl)
          | inr (inl (other, named, place, second)) ↦ absurd (no_name (list (more head args)) head args other named refl)
          | inr (inr (again, others, other, first, last, same, named, both, second)) ↦
              named_same name other (arg ∷ rest) (first ∷ last) w v
              (one_name (name_in head) name other is (ap name_in (sym (one_head head again args others same)) ∙ named))
              (all_same args (arg ∷ rest) (first ∷ last) all (subst (λ (es : Expressions). AllWrite params es (first ∷ last)) (one_rest head again args others same) both))
              app second
        ]

    all_same : (es : Expressions) (ws vs : List SortExpr) → AllWrite params es ws → AllWrite params es vs → map (resolved d) ws ≡ map (resolved d) vs
    all_same _ _ vs all_written also = ap (map (resolved d)) (sym (none_left params vs also))
    all_same _ _ vs (and_written e es w ws writes all) also =
        let (v, others, is, second, rest) = more_left params e es vs also in
        ap₂ (λ (x : Outcome SortExpression) (xs : List (Outcome SortExpression)). x ∷ xs) (writes_same e w v writes second) (all_same es ws others all rest) ∙ ap (map (resolved d)) (sym is)

-- ---- blocks that are alike

pub record AlikeField (a b : Field) : Type 0 where
  pub name : a.name ≡ b.name
  pub sort : (d : Declared) → resolved d a.sort ≡ resolved d b.sort

pub record AlikeCtor (a b : CtorDecl) : Type 0 where
  pub spelled : spelling a ≡ spelling b
  pub fields : (names : Declared) → fields_in names a ≡ fields_in names b

pub record AlikeDecl (a b : SortDecl) : Type 0 where
  pub name : a.name ≡ b.name
  pub params : a.params ≡ b.params
  pub ctors : AllZip AlikeCtor a.ctors b.ctors

-- what two relations to the same say together
module _ {W X : Type 0} (R : W → X → Type 0) (S : X → X → Type 0) (both : (w : W) (x y : X) → R w x → R w y → S x y) where
  zipped : (ws : List W) (xs ys : List X) → AllZip R ws xs → AllZip R ws ys → AllZip S xs ys
  zipped [] [] [] first second = tt
  zipped [] [] (y ∷ ys) first second = absurd second
  zipped [] (x ∷ xs) ys first second = absurd first
  zipped (w ∷ ws) [] ys first second = absurd first
  zipped (w ∷ ws) (x ∷ xs) [] first second = absurd second
  zipped (w ∷ ws) (x ∷ xs) (y ∷ ys) first second = (both w x y first.0 second.0, zipped ws xs ys first.1 second.1)

module _ {X : Type 0} (S : X → X → Type 0) where
  map_alike : {Y : Type 0} (f : X → Y) → ((x y : X) → S x y → f x ≡ f y) → (xs ys : List X) → AllZip S xs ys → map f xs ≡ map f ys
  map_alike f same [] [] all = refl
  map_alike f same [] (y ∷ ys) all = absurd all
  map_alike f same (x ∷ xs) [] all = absurd all
  map_alike {Y} f same (x ∷ xs) (y ∷ ys) all = ap₂ (λ (z : Y) (zs : List Y). z ∷ zs) (same x y all.0) (map_alike f same xs ys all.1)

  flat_alike : {Y : Type 0} (f : X → List Y) → ((x y : X) → S x y → f x ≡ f y) → (xs ys : List X) → AllZip S xs ys → flat_map f xs ≡ flat_map f ys
  flat_alike f same [] [] all = refl
  flat_alike f same [] (y ∷ ys) all = absurd all
  flat_alike f same (x ∷ xs) [] all = absurd all
  flat_alike {Y} f same (x ∷ xs) (y ∷ ys) all = ap₂ (λ (z zs : List Y). z ++ zs) (same x y all.0) (flat_alike f same xs ys all.1)

  each_alike : {Y : Type 0} (f : X → Outcome Y) → ((x y : X) → S x y → f x ≡ f y) → (xs ys : List X) → AllZip S xs ys → each f xs ≡ each f ys
  each_alike f same [] [] all = refl
  each_alike f same [] (y ∷ ys) all = absurd all
  each_alike f same (x ∷ xs) [] all = absurd all
  each_alike {Y} f same (x ∷ xs) (y ∷ ys) all = ap₂ (λ (o : Outcome Y) (p : Outcome (List Y)). and_then o (λ z. and_then p (λ zs. Ok (z ∷ zs)))) (same x y all.0) (each_alike f same xs ys all.1)

  any_alike : (f : X → Bool) → ((x y : X) → S x y → f x ≡ f y) → (xs ys : List X) → AllZip S xs ys → list_any f xs ≡ list_any f ys
  any_alike f same [] [] all = refl
  any_alike f same [] (y ∷ ys) all = absurd all
  any_alike f same (x ∷ xs) [] all = absurd all
  any_alike f same (x ∷ xs) (y ∷ ys) all = ap₂ (λ (b c : Bool). b || c) (same x y all.0) (any_alike f same xs ys all.1)

  joined : (xs ys us vs : List X) → AllZip S xs ys → AllZip S us vs → AllZip S (xs ++ us) (ys ++ vs)
  joined [] [] us vs all rest = rest
  joined [] (y ∷ ys) us vs all rest = absurd all
  joined (x ∷ xs) [] us vs all rest = absurd all
  joined (x ∷ xs) (y ∷ ys) us vs all rest = (all.0, joined xs ys us vs all.1 rest)

fields_alike : (params : List (List ℕ)) (w : Named) (a b : Field) → IsFieldOf params w a → IsFieldOf params w b → AlikeField a b
fields_alike params w a b first second =
    record {
      name = first.name ∙ sym second.name;
      sort = λ d. writes_same d params w.sort a.sort b.sort first.sort second.sort;
    }

ctors_alike : (params : List (List ℕ)) (w : Constructor) (a b : CtorDecl) → IsCtorOf params w a → IsCtorOf params w b → AlikeCtor a b
ctors_alike params w a b first second =
    let fields = zipped (IsFieldOf params) AlikeField (fields_alike params) w.fields a.fields b.fields first.fields second.fields in
    record {
      spelled = ap₂ (λ (n : List ℕ) (ns : List (List ℕ)). record { name = n; fields = ns }) (first.name ∙ sym second.name) (map_alike AlikeField (λ (f : Field). f.name) (λ x y h. h.name) a.fields b.fields fields);
      fields = λ names. each_alike AlikeField (λ (f : Field). resolved names f.sort) (λ x y h. h.sort names) a.fields b.fields fields;
    }

decls_alike : (heads : List SortHead) (bodies : List Body) (xs ys : List SortDecl) → AreDecls heads bodies xs → AreDecls heads bodies ys → AllZip AlikeDecl xs ys
decls_alike [] [] [] [] first second = tt
decls_alike [] [] [] (y ∷ ys) first second = absurd second
decls_alike [] [] (x ∷ xs) ys first second = absurd first
decls_alike [] (b ∷ bodies) xs ys first second = absurd first
decls_alike (h ∷ heads) [] xs ys first second = absurd first
decls_alike (h ∷ heads) (b ∷ bodies) [] ys first second = absurd first
decls_alike (h ∷ heads) (b ∷ bodies) (x ∷ xs) [] first second = absurd second
decls_alike (h ∷ heads) (b ∷ bodies) (x ∷ xs) (y ∷ ys) first second = (
  record {
    name = first.0.name ∙ sym second.0.name;
    params = first.0.params ∙ sym second.0.params;
    ctors = zipped (IsCtorOf b.params) AlikeCtor (ctors_alike b.params) b.ctors x.ctors y.ctors first.0.ctors second.0.ctors;
  },
  decls_alike heads bodies xs ys first.1 second.1,
)

-- ---- what refuses a block

-- what its sorts and generics are refused with, and whether there is no room for them
abbrev RefusedHeads : Declarations → Kind → Outcome (List Head) → ℕ → Type 0
RefusedHeads d kind heads n =
    (heads ≡ Err n)
    ⊎ ((own : List Head) × (heads ≡ Ok own) × IsShapeRefusal (length d.declared.heads) (head_kind kind) (d.declared.heads ++ own) n)

abbrev TooMany : Declarations → Outcome (List Head) → List (List Spelling) → Type 0
TooMany d heads spellings =
    (own : List Head) → heads ≡ Ok own
    → IsOverLimits (with_own_sorts d own spellings) ⊎ HasNoRoom (with_own_sorts d own spellings) (own_fields d own)

abbrev Refused : Declarations → Kind → List (List ℕ) → List (List ℕ) → Bool → Outcome (List Head) → List (List Spelling) → ℕ → Type 0
Refused d kind names symbols no_ctor heads spellings =
    IsFirstCause name_taken (HasUnavailableSort (declared_names d) names ⊎ HasUnavailable (symbol_names d) symbols)
    (IsFirstCause no_constructor (no_ctor ≡ true)
    (λ n. RefusedHeads d kind heads n ⊎ (((m : ℕ) → RefusedHeads d kind heads m → ⊥) × IsFirstCause too_many (TooMany d heads spellings) IsNone n)))

module _ (xs ys : List SortDecl) (alike : AllZip AlikeDecl xs ys) where
  names_same : block_names xs ≡ block_names ys
  names_same = map_alike AlikeDecl (λ (s : SortDecl). s.name) (λ x y h. h.name) xs ys alike

  block_ctors_alike : (us vs : List SortDecl) → AllZip AlikeDecl us vs → AllZip AlikeCtor (block_ctors us) (block_ctors vs)
  block_ctors_alike [] [] all = tt
  block_ctors_alike [] (v ∷ vs) all = absurd all
  block_ctors_alike (u ∷ us) [] all = absurd all
  block_ctors_alike (u ∷ us) (v ∷ vs) all = joined AlikeCtor u.ctors v.ctors (block_ctors us) (block_ctors vs) all.0.ctors (block_ctors_alike us vs all.1)

  symbols_same : ctor_symbols (block_ctors xs) ≡ ctor_symbols (block_ctors ys)
  symbols_same = flat_alike AlikeCtor (λ c. c.name ∷ map (λ (f : Field). f.name) c.fields) (λ x y h. ap (λ (s : Spelling). s.name ∷ s.fields) h.spelled) (block_ctors xs) (block_ctors ys) (block_ctors_alike xs ys alike)

  no_ctor_same : has_no_constructor xs ≡ has_no_constructor ys
  no_ctor_same = any_alike AlikeDecl (λ (s : SortDecl). length s.ctors == 0) (λ x y h. ap (λ (n : ℕ). n == 0) (AllZip-one_length AlikeCtor x.ctors y.ctors h.ctors)) xs ys alike

  spellings_same : block_spellings xs ≡ block_spellings ys
  spellings_same = map_alike AlikeDecl (λ (s : SortDecl). map spelling s.ctors) (λ x y h. map_alike AlikeCtor spelling (λ a b k. k.spelled) x.ctors y.ctors h.ctors) xs ys alike

  module _ (d : Declared) (kind : HeadKind) where
    only_names : with_names d kind xs ≡ with_names d kind ys
    only_names = ap (λ (hs : List Head). record d { heads = d.heads ++ hs }) (map_alike AlikeDecl (named_only kind) (λ x y h. ap₂ (λ (n : List ℕ) (k : ℕ). record { name = n; kind = kind; params = k; ctors = [] }) h.name h.params) xs ys alike)

    one_head_same : (names : Declared) (x y : SortDecl) → AlikeDecl x y → head_in names kind x ≡ head_in names kind y
    one_head_same names x y h =
        ap₂ (λ (n : List ℕ) (k : ℕ). and_then (each (fields_in names) x.ctors) (λ ctors. Ok (record { name = n; kind = kind; params = k; ctors = ctors }))) h.name h.params
        ∙ ap (λ (o : Outcome (List (List SortExpression))). and_then o (λ ctors. Ok (record { name = y.name; kind = kind; params = y.params; ctors = ctors }))) (each_alike AlikeCtor (fields_in names) (λ a b k. k.fields names) x.ctors y.ctors h.ctors)

    heads_same : heads_in d kind xs ≡ heads_in d kind ys
    heads_same =
        ap (λ (names : Declared). each (head_in names kind) xs) only_names
        ∙ each_alike AlikeDecl (head_in (with_names d kind ys) kind) (one_head_same (with_names d kind ys)) xs ys alike

  pub refused_same : (d : Declarations) (kind : Kind) (n : ℕ) → IsBlockRefusal d kind xs n → IsBlockRefusal d kind ys n
  refused_same d kind n h =
      let k = head_kind kind in
      let first : Refused d kind (block_names ys) (ctor_symbols (block_ctors xs)) (has_no_constructor xs) (heads_in d.declared k xs) (block_spellings xs) n =
      subst (λ (names : List (List ℕ)). Refused d kind names (ctor_symbols (block_ctors xs)) (has_no_constructor xs) (heads_in d.declared k xs) (block_spellings xs) n) names_same h
      in
      let second : Refused d kind (block_names ys) (ctor_symbols (block_ctors ys)) (has_no_constructor ys) (heads_in d.declared k xs) (block_spellings xs) n =
      subst (λ (b : Bool). Refused d kind (block_names ys) (ctor_symbols (block_ctors ys)) b (heads_in d.declared k xs) (block_spellings xs) n) no_ctor_same
      (subst (λ (symbols : List (List ℕ)). Refused d kind (block_names ys) symbols (has_no_constructor xs) (heads_in d.declared k xs) (block_spellings xs) n) symbols_same first)
      in
      subst (λ (spellings : List (List Spelling)). Refused d kind (block_names ys) (ctor_symbols (block_ctors ys)) (has_no_constructor ys) (heads_in d.declared k ys) spellings n) spellings_same
      (subst (λ (heads : Outcome (List Head)). Refused d kind (block_names ys) (ctor_symbols (block_ctors ys)) (has_no_constructor ys) heads (block_spellings xs) n) (heads_same d.declared k) second)

-- ---- a block and what it declares, one sort after the other

-- the first of a list, and the rest
pub split_first : {X : Type 0} (xs : List X) → 1 ≤ length xs → (x : X) × (xs ≡ x ∷ take (length xs - 1) (drop 1 xs))
split_first [] some = absurd (omega (arith, some))
split_first (x ∷ xs) some = (x, rest-item (x ∷ xs) x some refl)

-- the declarations so far, and those of what is left
pub record AreDeclared (heads : List SortHead) (bodies : List Body) (out : List SortDecl) (heads_left : List SortHead) (bodies_left : List Body) : Type 0 where
  pub completes : (rest : List SortDecl) → AreDecls heads_left bodies_left rest → AreDecls heads bodies (out ++ rest)
  pub leaves : (all : List SortDecl) → AreDecls heads bodies all → (rest : List SortDecl) × AreDecls heads_left bodies_left rest
  pub counted : are_counted heads_left bodies_left ≡ true

module _ (heads : List SortHead) (bodies : List Body) where
  pub decls_start : are_counted heads bodies ≡ true → AreDeclared heads bodies [] heads bodies
  decls_start counted = record { completes = λ rest all. all; leaves = λ all decls. (all, decls); counted = counted }

  module _ (out : List SortDecl) (head : SortHead) (heads_left : List SortHead) where
    -- there is a body for the next sort
    pub no_body : AreDeclared heads bodies out (head ∷ heads_left) [] → ⊥
    no_body h = let e : false ≡ true = h.counted in absurd cc

    module _ (body : Body) (bodies_left : List Body) (h : AreDeclared heads bodies out (head ∷ heads_left) (body ∷ bodies_left)) where
      tail : (rest : List SortDecl) × AreDecls (head ∷ heads_left) (body ∷ bodies_left) rest → (rest : List SortDecl) × AreDecls heads_left bodies_left rest
      tail ([], all) = absurd all
      tail (y ∷ rest, all) = (rest, all.1)

      both : (a b : Bool) → (a && b) ≡ true → b ≡ true
      both true b e = e
      both false b e = absurd cc

      pub decls_push : (decl : SortDecl) → IsDeclOf head body decl → AreDeclared heads bodies (out ++ decl ∷ []) heads_left bodies_left
      decls_push decl is =
          record {
            completes = λ rest all. subst (λ (ys : List SortDecl). AreDecls heads bodies ys) (sym (append_assoc out (decl ∷ []) rest)) (h.completes (decl ∷ rest) (is, all));
            leaves = λ all decls. tail (h.leaves all decls);
            counted = both (head.arity == length body.params) (are_counted heads_left bodies_left) h.counted;
          }

      none_first : ((decl : SortDecl) → IsDeclOf head body decl → ⊥) → (rest : List SortDecl) × AreDecls (head ∷ heads_left) (body ∷ bodies_left) rest → ⊥
      none_first never ([], all) = all
      none_first never (y ∷ rest, all) = never y all.0

      pub decls_stop : ((decl : SortDecl) → IsDeclOf head body decl → ⊥) → (all : List SortDecl) → AreDecls heads bodies all → ⊥
      decls_stop never all decls = none_first never (h.leaves all decls)

  pub decls_end : (out : List SortDecl) (bodies_left : List Body) → AreDeclared heads bodies out [] bodies_left → AreDecls heads bodies out
  decls_end out [] h = subst (λ (ys : List SortDecl). AreDecls heads bodies ys) (append-nil out) (h.completes [] tt)
  decls_end out (body ∷ bodies_left) h = let e : false ≡ true = h.counted in absurd cc

-- the parameters of one sort more are so many
pub below_more : (xs : List SortDecl) (s : SortDecl) → AreBlockParametersBelow xs → AreBlockParametersBelow (s ∷ []) → AreBlockParametersBelow (xs ++ s ∷ [])
below_more xs s first last = All-append (λ (t : SortDecl). All (λ (c : CtorDecl). All (λ (f : Field). AreParametersBelow t.params f.sort) c.fields) t.ctors) xs (s ∷ []) first last

-- names that are there
pub all_present : (names : List (Bor (List ℕ))) → present_names (map (λ (name : Bor (List ℕ)). Some name.now) names) ≡ map (λ (name : Bor (List ℕ)). name.now) names
all_present [] = refl
all_present (name ∷ names) = ap (λ (ns : List (List ℕ)). name.now ∷ ns) (all_present names)

-- ---- when a block is refused

module _ (d : Declarations) (family : Family) (heads : List SortHead) (bodies : List Body) (decls : List SortDecl) (are : AreDecls heads bodies decls) (counted : are_counted heads bodies ≡ true) (unrepeated : have_repeated_parameter bodies ≡ false) where
  abbrev One : ℕ → Type 0
  One = IsFirstCause out_of_scope (HasFormlessField heads bodies) (IsRefusedBlock d family heads bodies)

  abbrev Two : ℕ → Type 0
  Two = IsFirstCause repeated_variable (have_repeated_parameter bodies ≡ true) One

  is_counted : are_counted heads bodies ≡ false → ⊥
  is_counted e = true≢false (sym counted ∙ e)

  no_repeated : have_repeated_parameter bodies ≡ true → ⊥
  no_repeated e = true≢false (sym e ∙ unrepeated)

  formed : HasFormlessField heads bodies → ⊥
  formed formless = formless decls are

  no_refused : ((n : ℕ) → IsBlockRefusal d (kind_of family) decls n → ⊥) → (n : ℕ) → IsRefusedBlock d family heads bodies n → ⊥
  no_refused accepted n (block, other, refusal) = accepted n (refused_same block decls (decls_alike heads bodies block decls other are) d (kind_of family) n refusal)

  pub types_accepted : {T E : Type 0} (r : Result T E) → OnOk r ((n : ℕ) → IsBlockRefusal d (kind_of family) decls n → ⊥) → OnOk r ((n : ℕ) → IsTypesRefusal d family heads bodies n → ⊥)
  types_accepted (Ok x) accepted =
      no_cause counts_differ (are_counted heads bodies ≡ false) Two is_counted
      (no_cause repeated_variable (have_repeated_parameter bodies ≡ true) One no_repeated
      (no_cause out_of_scope (HasFormlessField heads bodies) (IsRefusedBlock d family heads bodies) formed (no_refused accepted)))
  types_accepted (Err e) accepted = tt

  pub types_refused : (n : ℕ) → IsBlockRefusal d (kind_of family) decls n → IsTypesRefusal d family heads bodies n
  types_refused n refusal = inr (is_counted, inr (no_repeated, inr (formed, (decls, are, refusal))))

-- ---- a block makes of declarations one list of declarations

module _ (add_same : AddSame) (d : Declarations) (kind : Kind) where
  -- what is declared with these sorts and generics
  abbrev with_it : List Head → List (List Spelling) → List SortExpression → Declarations
  with_it own spellings added = with_sorts (with_own d own spellings) (own_sorts d own ++ added)

  one_own : (o : Outcome (List Head)) (own other : List Head) → o ≡ Ok own → o ≡ Ok other → other ≡ own
  one_own o own other is also = cc

  one_block : (xs ys : List SortDecl) → AllZip AlikeDecl xs ys → (given other : List Given) (later last : Declarations) → IsWithBlock d kind xs given later → IsWithBlock d kind ys other last → last ≡ later
  one_block xs ys alike given other later last (own, heads, added, adds, is, _) (owned, heads_too, added_too, adds_too, is_too, _) =
      let k = head_kind kind in
      let same_own : owned ≡ own = one_own (heads_in d.declared k xs) own owned heads (heads_same xs ys alike d.declared k ∙ heads_too) in
      let adds_same = subst (λ (hs : List Head). Adds (d.declared.heads ++ hs) (own_fields d hs) (d.origins ++ own_sorts d hs) ((d.origins ++ own_sorts d hs) ++ added_too)) same_own adds_too in
      let same_added : added_too ≡ added = append_cancel_left (d.origins ++ own_sorts d own) added_too added (add_same (d.declared.heads ++ own) (own_fields d own) (d.origins ++ own_sorts d own) ((d.origins ++ own_sorts d own) ++ added_too) ((d.origins ++ own_sorts d own) ++ added) adds_same adds) in
      is_too
      ∙ ap (λ (hs : List Head). with_it hs (block_spellings ys) added_too) same_own
      ∙ ap (λ (spellings : List (List Spelling)). with_it own spellings added_too) (sym (spellings_same xs ys alike))
      ∙ ap (λ (es : List SortExpression). with_it own (block_spellings xs) es) same_added
      ∙ sym is

pub one_types : AddSame → (d : Declarations) (family : Family) (heads : List SortHead) (bodies : List Body) (later last : Declarations) → IsWithTypes d family heads bodies later → IsWithTypes d family heads bodies last → last ≡ later
one_types add_same d family heads bodies later last (xs, given, are, made) (ys, other, also, made_too) =
    one_block add_same d (kind_of family) xs ys (decls_alike heads bodies xs ys are also) given other later last made made_too
