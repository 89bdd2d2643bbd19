-- The name of a term line that is written stands for the constructor of the term, also where that is of an instance.
use Rattle.std.proofs.Common.{◌≡◌, ◌⊎◌, ℕ, ◌-◌, Bool, true, false, if◌then◌else◌, List, option_map, Option, Some, None, slice_get, refl, sym, ◌∙◌, ap, inl, inr}
use Rattle.std.specs.Option.{option_and_then}
use Rattle.std.proofs.lemmas.Option.{slice_get_within}
use Rattle.ct_lemmas.proofs.Lists.{slice_get-map_at}
use Rattle.ct_sexpr.specs.Written.{written}
use Rattle.ct_sorts.specs.declared.ids.SortId.{SortId}
use Rattle.ct_sorts.specs.declared.ids.CtorId.{CtorId}
use Rattle.ct_sorts.specs.declared.ids.GenId.{GenId}
use Rattle.ct_sorts.specs.declared.ids.Symbol.{Symbol}
use Rattle.ct_sorts.specs.declared.ids.Symbol.TheVariants.{Ctor, GenCtor}
use Rattle.ct_sorts.specs.Consistent.{IsConsistent}
use Rattle.ct_sorts.specs.Declarations.{Declarations, Constructor}
use Rattle.ct_sorts.specs.Lookup.{IsSymbol, ResolvesTo, IsPlainCtor}
use Rattle.ct_instances.specs.declared.among.NamedCtor.TheVariants.{Generic}
use Rattle.ct_instances.specs.Among.{ctor_among}
use Rattle.ct_instances.specs.Fields.{is_determined, sort_of_ctor, is_ctor_determined}
use Rattle.ct_instances.proofs.CtorNameLemmas.{IsOfGeneric, plain_or_generic, sort_of_ctor_within}
use Rattle.ct_log_lines.specs.declared.term_lines.TermKind.{TermKind}
use Rattle.ct_log_lines.specs.declared.term_lines.TermLine.{TermLine}
use Rattle.ct_log_text.specs.Named.{symbol_at, sort_in, ctor_by, without_sort}
use Rattle.ct_log_text.specs.Written.{sort_item}
use Rattle.ct_log_text.proofs.ResolveBack.{OneText, item_found}

module _ (d : Declarations) (consistent : IsConsistent d) (one_text : OneText d) where
  -- the name of a constructor in a line of this kind, beside terms of these sorts, where the sorts of the terms give its sort
  pub ctor_stands : (kind : TermKind) (sorts : List SortId) (numbers : List ℕ) (c : CtorId) (ctor : Constructor) → slice_get d.ctors c.0 ≡ Some ctor
      → ((g : GenId) (i : ℕ) → IsSymbol d (GenCtor g i) → is_determined d g i ≡ true → ctor_among d (Generic g i) (sort_of_ctor d c) ≡ Some c → sort_in d kind g i sorts ≡ Some (sort_of_ctor d c))
      → let line : TermLine = record { kind = kind; name = ctor.name; sort = if is_ctor_determined d c then None else Some (written (sort_item d (sort_of_ctor d c))); numbers = numbers } in
      (found : Option Symbol) × ResolvesTo d ctor.name found × (Some (Ctor c) ≡ symbol_at d line sorts found)
  ctor_stands kind sorts numbers c ctor at gives = by (plain_or_generic d consistent c ctor at)
    where
      text : List ℕ
      text = written (sort_item d (sort_of_ctor d c))

      line : Bool → TermLine
      line b = record { kind = kind; name = ctor.name; sort = if b then None else Some text; numbers = numbers }

      by_test : (k : IsOfGeneric d c ctor.name) (b : Bool) → is_determined d k.g k.i ≡ b → ctor_by d kind k.g k.i sorts b (if b then None else Some text) ≡ Some c
      by_test k true e = ap (option_and_then (ctor_among d (Generic k.g k.i))) (gives k.g k.i (k.spelling, k.known) e k.among) ∙ k.among
      by_test k false e = ap (option_and_then (ctor_among d (Generic k.g k.i))) (item_found d consistent one_text (sort_of_ctor d c) (sort_of_ctor_within d consistent c (slice_get_within d.ctors c.0 ctor at))) ∙ k.among

      by : (IsPlainCtor d c × (is_ctor_determined d c ≡ true)) ⊎ IsOfGeneric d c ctor.name → (found : Option Symbol) × ResolvesTo d ctor.name found × (Some (Ctor c) ≡ symbol_at d (line (is_ctor_determined d c)) sorts found)
      by (inl plain) = (
        Some (Ctor c),
        (slice_get-map_at (λ (k : Constructor). k.name) d.ctors c.0 ctor at, plain.0),
        sym (ap (λ (b : Bool). without_sort (Ctor c) (if b then None else Some text)) plain.1),
      )
      by (inr k) =
          let test = by_test k (is_determined d k.g k.i) refl in (
            Some (GenCtor k.g k.i),
            (k.spelling, k.known, k.named_so),
            sym (ap (option_map Ctor) (ap (λ (b : Bool). ctor_by d kind k.g k.i sorts (is_determined d k.g k.i) (if b then None else Some text)) k.determined ∙ test)),
          )
