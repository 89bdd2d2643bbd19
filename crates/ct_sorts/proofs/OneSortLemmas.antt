-- Tables with the entries of one sort more.
use Rattle.std.proofs.Common.{◌≡◌, ℕ, ◌+◌, List, [], ◌∷◌, ◌++◌, length, map, slice_get, Option, Some, refl, sym, ◌∙◌, ap, ap₂, subst}
use Rattle.std.specs.List.{AllZip, range_with_len}
use Rattle.std.specs.Option.{option_and_then}
use Rattle.std.proofs.lemmas.List.{append-nil, map-append}
use Rattle.ct_generics.specs.Declarations.{Head, head_at}
use Rattle.ct_generics.specs.Denoted.{declared_of, sorts_of}
use Rattle.ct_generics.specs.Expression.{Expression, head_of}
use Rattle.ct_generics.specs.Reach.{fields_of}
use Rattle.ct_sorts.specs.declared.entries.CtorEntry.{CtorEntry}
use Rattle.ct_sorts.specs.declared.entries.SortEntry.{SortEntry}
use Rattle.ct_sorts.specs.declared.ids.CtorId.{CtorId}
use Rattle.ct_sorts.specs.declared.tables.Tables.{Tables}
use Rattle.ct_sorts.specs.Declarations.{Sort, ctor_ids}
use Rattle.ct_sorts.specs.Grown.{Begins}
use Rattle.ct_sorts.specs.Growing.{IsGrownBy, IsSameHeads, shapes_in}
use Rattle.ct_sorts.specs.Kinds.{kind_of}
use Rattle.ct_sorts.specs.Lookup.{names_of}
use Rattle.ct_sorts.specs.Made.{new_sorts, ctors_of_sort, new_sels}
use Rattle.ct_sorts.specs.Same.{sort_among}
use Rattle.ct_sorts.specs.Shapes.{CtorShape, SortShape, kind_of_head, shape_of}
use Rattle.ct_sorts.specs.SortText.{sort_name, sort_text}
use Rattle.ct_sorts.specs.Stored.{sort_of_entry, ctor_of, sel_of}
use Rattle.ct_sorts.specs.Tabled.{IsEntryOf, AreAtHome}
use Rattle.ct_sorts.proofs.HomeLemmas.{homes_after}

-- what was pushed of one sort
pub record IsPushedSort (old new : Tables) (e : Expression) (known : Head) (h : ℕ) (entry : SortEntry) : Type 0 where
  pub same : IsSameHeads old new
  pub origin : slice_get (sorts_of old.table) (length old.sorts) ≡ Some e
  pub head_is : head_of e ≡ Some h
  pub known_at : slice_get (declared_of old.generics).heads h ≡ Some known
  pub sorts : new.sorts ≡ old.sorts ++ (sort_text (declared_of old.generics).heads e, entry) ∷ []
  pub entry_is : sort_of_entry (sort_text (declared_of old.generics).heads e, entry) ≡ record { name = sort_name (declared_of old.generics).heads e; kind = kind_of known.kind; ctors = ctor_ids (length old.ctors) (length (shape_of (declared_of old.generics).heads old.spellings e).ctors) }
  pub is_entry : IsEntryOf (sorts_of old.table) entry e
  pub ctors : map (ctor_of old.spellings) new.ctors ≡ map (ctor_of old.spellings) old.ctors ++ ctors_of_sort (length old.sorts) (length old.sels) (shape_of (declared_of old.generics).heads old.spellings e).ctors
  pub sels : map (sel_of old.spellings) new.sels ≡ map (sel_of old.spellings) old.sels ++ new_sels (sort_among (sorts_of old.table)) (length old.ctors) (shape_of (declared_of old.generics).heads old.spellings e).ctors
  pub begun : Begins old.ctors new.ctors
  pub homes : map (λ (c : CtorEntry). c.home) new.ctors ≡ map (λ (c : CtorEntry). c.home) old.ctors ++ map (λ (i : ℕ). record { head = h; ctor = i }) (range_with_len 0 (length (shape_of (declared_of old.generics).heads old.spellings e).ctors))
  pub sel_homes : AreAtHome old.ctors old.sels → AreAtHome new.ctors new.sels

pub grown_by_one : (old new : Tables) (e : Expression) (known : Head) (h : ℕ) (entry : SortEntry) → IsPushedSort old new e known h entry → IsGrownBy old new (e ∷ [])
grown_by_one old new e known h entry p =
    let heads = (declared_of old.generics).heads in
    let shape = shape_of heads old.spellings e in
    let text = sort_text heads e in
    let kind : kind_of known.kind ≡ kind_of_head (head_at heads e) = ap kind_of_head (sym (ap (option_and_then (slice_get heads)) p.head_is ∙ p.known_at)) in
    let made : sort_of_entry (text, entry) ≡ record { name = shape.name; kind = shape.kind; ctors = ctor_ids (length old.ctors) (length shape.ctors) } = p.entry_is ∙ (λ i. record { name = shape.name; kind = kind i; ctors = ctor_ids (length old.ctors) (length shape.ctors) }) in
    record {
      same = p.same;
      sorts = ap (map sort_of_entry) p.sorts ∙ map-append sort_of_entry old.sorts ((text, entry) ∷ []) ∙ ap (λ (x : Sort). map sort_of_entry old.sorts ++ x ∷ []) made;
      ctors = p.ctors ∙ ap (λ xs. map (ctor_of old.spellings) old.ctors ++ xs) (sym (append-nil (ctors_of_sort (length old.sorts) (length old.sels) shape.ctors)));
      sels = p.sels ∙ ap (λ (cs : List CtorShape). map (sel_of old.spellings) old.sels ++ new_sels (sort_among (sorts_of old.table)) (length old.ctors) cs) (sym (append-nil shape.ctors));
      texts = ap names_of p.sorts ∙ map-append (λ (x : List ℕ × SortEntry). x.0) old.sorts ((text, entry) ∷ []);
      entries = (entry ∷ [], ap (map (λ (x : List ℕ × SortEntry). x.1)) p.sorts ∙ map-append (λ (x : List ℕ × SortEntry). x.1) old.sorts ((text, entry) ∷ []), (p.is_entry, tt));
      homes = homes_after old new e (text, entry) h (length shape.ctors) p.sorts (ap (λ (x : Sort). x.ctors) p.entry_is) p.same.origins_same p.origin p.head_is p.begun p.homes;
      sel_homes = p.sel_homes;
    }
