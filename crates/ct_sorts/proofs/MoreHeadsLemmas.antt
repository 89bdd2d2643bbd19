-- What sorts are made of, and how they are written, stays where more sorts and generics are declared.
use Rattle.std.proofs.Common.{◌≡◌, ℕ, zero, suc, ◌<◌, List, [], ◌∷◌, ◌++◌, length, map, slice_get, Option, Some, option_map, unwrap_or, refl, sym, ◌∙◌, ap, ap₂, subst}
use Rattle.std.specs.Option.{option_and_then}
use Rattle.std.proofs.lemmas.Option.{slice_get_within}
use Rattle.ct_lemmas.proofs.Lists.{slice_get-append_left, slice_get-there}
use Rattle.ct_sexpr.specs.Atom.{quoted}
use Rattle.ct_sexpr.specs.Expression.{Expression as Sexpr, Expressions as Sexprs, leaf, list, none, more, with_last}
use Rattle.ct_sexpr.specs.Written.{written}
use Rattle.ct_generics.specs.Expression.{Expression, parameter, named, applied, head_of, args_of}
use Rattle.ct_generics.specs.Declarations.{Head, IsExpression, Takes, head_at}
use Rattle.ct_generics.specs.Reach.{fields_of, fields_with}
use Rattle.ct_generics.specs.Add.{field_sorts}
use Rattle.std.specs.List.{flat_map}
use Rattle.ct_sorts.specs.declared.spelling.Spelling.{Spelling}
use Rattle.ct_sorts.specs.Shapes.{SortShape, ctor_shapes, kind_of_head, shape_of, spelling_of}
use Rattle.ct_sorts.specs.SortText.{as_written, head_name, items_of, name_of_head, sort_name, sort_text}
use Rattle.ct_sorts.proofs.HeadLemmas.{head_of_closed, head_there}

module _ (heads rest : List Head) where
  name_same : (h m : ℕ) → option_map (λ (head : Head). head.params) (slice_get heads h) ≡ Some m → head_name (heads ++ rest) h ≡ head_name heads h
  name_same h m takes =
      let head = head_there (slice_get heads h) m takes in
      ap name_of_head (slice_get-append_left heads rest h head.0 head.1 ∙ sym head.1)

  mutual
    written_same : (e : Expression) (p m : ℕ) → Takes heads p m e → as_written (heads ++ rest) e ≡ as_written heads e
    written_same (parameter i) p m takes = refl
    written_same (named h) p m takes = ap (λ (n : List ℕ). leaf (quoted n)) (name_same h m takes)
    written_same (applied e a) p m takes = ap₂ (λ (xs : Sexprs) (x : Sexpr). list (with_last xs x)) (items_same e p (suc m) takes.0) (written_same a p 0 takes.1)

    items_same : (e : Expression) (p m : ℕ) → Takes heads p m e → items_of (heads ++ rest) e ≡ items_of heads e
    items_same (parameter i) p m takes = refl
    items_same (named h) p m takes = ap (λ (n : List ℕ). more (leaf (quoted n)) none) (name_same h m takes)
    items_same (applied e a) p m takes = ap₂ (λ (xs : Sexprs) (x : Sexpr). with_last xs x) (items_same e p (suc m) takes.0) (written_same a p 0 takes.1)

  -- the text and the name
  pub text_same : (e : Expression) (p m : ℕ) → Takes heads p m e → sort_text (heads ++ rest) e ≡ sort_text heads e
  text_same e p m takes = ap written (written_same e p m takes)

  pub sort_name_same : (e : Expression) → IsExpression heads 0 e → sort_name (heads ++ rest) e ≡ sort_name heads e
  sort_name_same (parameter i) closed = refl
  sort_name_same (named h) closed = name_same h 0 closed
  sort_name_same (applied e a) closed = text_same (applied e a) 0 0 closed

  -- the sort or generic, and the sorts of the fields
  pub head_same : (e : Expression) → IsExpression heads 0 e → head_at (heads ++ rest) e ≡ head_at heads e
  head_same e closed =
      let found = head_of_closed heads e 0 closed in
      ap (option_and_then (slice_get (heads ++ rest))) found.2 ∙ slice_get-append_left heads rest found.0 found.1 found.3 ∙ sym (ap (option_and_then (slice_get heads)) found.2 ∙ found.3)

  pub fields_same : (e : Expression) → IsExpression heads 0 e → fields_of (heads ++ rest) e ≡ fields_of heads e
  fields_same e closed = ap (λ (o : Option Head). fields_with o (args_of e)) (head_same e closed)

  pub field_sorts_same : (e : Expression) → IsExpression heads 0 e → field_sorts (heads ++ rest) e ≡ field_sorts heads e
  field_sorts_same e closed = ap (flat_map (λ (fields : List Expression). fields)) (fields_same e closed)

  -- the names of the constructors and fields
  pub spelling_same : (spellings extra : List (List Spelling)) → length spellings ≡ length heads → (e : Expression) → IsExpression heads 0 e → spelling_of (spellings ++ extra) e ≡ spelling_of spellings e
  spelling_same spellings extra one_each e closed =
      let found = head_of_closed heads e 0 closed in
      let names = slice_get-there spellings found.0 (subst (λ n. found.0 < n) (sym one_each) (slice_get_within heads found.0 found.1 found.3)) in
      ap (λ (o : Option (List Spelling)). unwrap_or o [])
      (ap (option_and_then (slice_get (spellings ++ extra))) found.2 ∙ slice_get-append_left spellings extra found.0 names.0 names.1 ∙ sym (ap (option_and_then (slice_get spellings)) found.2 ∙ names.1))

  pub shape_same : (spellings extra : List (List Spelling)) → length spellings ≡ length heads → (e : Expression) → IsExpression heads 0 e → shape_of (heads ++ rest) (spellings ++ extra) e ≡ shape_of heads spellings e
  shape_same spellings extra one_each e closed i =
      record {
        name = sort_name_same e closed i;
        kind = kind_of_head (head_same e closed i);
        ctors = ctor_shapes (spelling_same spellings extra one_each e closed i) (fields_same e closed i);
      }

  pub shapes_same : (spellings extra : List (List Spelling)) → length spellings ≡ length heads → (es : List Expression) → ((i : ℕ) (e : Expression) → slice_get es i ≡ Some e → IsExpression heads 0 e) → map (shape_of (heads ++ rest) (spellings ++ extra)) es ≡ map (shape_of heads spellings) es
  shapes_same spellings extra one_each [] closed = refl
  shapes_same spellings extra one_each (e ∷ es) closed = λ i. shape_same spellings extra one_each e (closed 0 e refl) i ∷ shapes_same spellings extra one_each es (λ j f at. closed (suc j) f at) i
