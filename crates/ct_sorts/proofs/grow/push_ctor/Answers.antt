use Rattle.std.proofs.Common.{◌≡◌, ℕ, ◌+◌, ◌++◌, List, [], ◌∷◌, length, map, Option, option_map, unwrap_or, Some, refl, sym, ◌∙◌, ap, ap₂, subst, inl, inr, ⊎_elim}
use Rattle.std.proofs.lemmas.List.{map-append}
use Rattle.ct_generics.specs.Denoted.{sorts_of}
use Rattle.ct_sorts.specs.declared.entries.CtorEntry.{CtorEntry}
use Rattle.ct_sorts.specs.declared.ids.CtorId.{CtorId}
use Rattle.ct_sorts.specs.declared.spelling.Spelling.{Spelling}
use Rattle.ct_sorts.specs.Declarations.{Constructor, sel_ids}
use Rattle.ct_sorts.specs.Made.{sels_of_ctor}
use Rattle.ct_sorts.specs.Same.{sort_among}
use Rattle.ct_sorts.specs.Shapes.{field_shapes}
use Rattle.ct_sorts.specs.Stored.{ctor_of, sel_of}
use Rattle.ct_sorts.specs.Tabled.{AreAtHome}
use Rattle.ct_sorts.proofs.HomeLemmas.{at_home_after}
use Rattle.ct_sorts.proofs.ResultLemmas.{on_ok, spelled_parts}
use Rattle.ct_sorts.proofs.ShapeLemmas.{length-field_shapes}
use Rattle.ct_sorts.proofs.grow.push_ctor.Goals as goal

pub returns-clause-ok : goal.returns-clause-ok
returns-clause-ok c =
    on_ok c.push_sels.result (λ pushed names es spelled numbered named.
    let t = c.args.tables.now in
    let parts = spelled_parts t.spellings c.args.home names spelled in
    let entry : CtorEntry = record { home = c.args.home; sort = c.args.sort; sels = c.in_ok-sels.sels } in
    let fields : length c.args.row.now ≡ length (field_shapes names.fields es) = numbered.0 ∙ sym (length-field_shapes names.fields es named) in
    let ids : c.in_ok-sels.sels ≡ sel_ids (length t.sels) (length (field_shapes names.fields es)) = c.in_ok-sels.ensures.ok ∙ ap₂ sel_ids c.len-2.ensures.len fields in
    let made : ctor_of t.spellings entry ≡ record { name = names.name; sort = record { 0 = c.args.sort.0 }; sels = sel_ids (length t.sels) (length (field_shapes names.fields es)) } =
    (λ i. record { name = unwrap_or (option_map (λ (s : Spelling). s.name) (spelled i)) []; sort = c.args.sort; sels = ids i }) in (
      ap (map (ctor_of t.spellings)) c.in_ok-push_item.ensures.ok ∙ map-append (ctor_of t.spellings) t.ctors (entry ∷ []) ∙ ap (λ (x : Constructor). map (ctor_of t.spellings) t.ctors ++ x ∷ []) made,
      pushed t.spellings (sorts_of t.table) es parts.0 names numbered parts.1 parts.2 named ∙ ap (λ (n : ℕ). map (sel_of t.spellings) t.sels ++ sels_of_ctor (sort_among (sorts_of t.table)) n 0 (field_shapes names.fields es)) c.len.ensures.len,
    )) c.push_sels.ensures.ok

pub returns-clause-sel_homes : goal.returns-clause-sel_homes
returns-clause-sel_homes c =
    on_ok c.push_sels.result (λ pushed have.
    let t = c.args.tables.now in
    let entry : CtorEntry = record { home = c.args.home; sort = c.args.sort; sels = c.in_ok-sels.sels } in
    let number : ◌≡◌ {A = CtorId} (record { 0 = c.len.result }) (record { 0 = length t.ctors }) = ap (λ (n : ℕ). record { 0 = n }) c.len.ensures.len in
    subst (λ (xs : List CtorEntry). AreAtHome xs c.push_sels.new.sels) (sym c.in_ok-push_item.ensures.ok)
    (at_home_after t.ctors t.sels c.push_sels.new.sels entry have (λ s sel at. ⊎_elim (λ old. inl old) (λ one. inr (one.0, one.1 ∙ number)) (c.push_sels.ensures.homes s sel at)))) c.push_sels.ensures.ok

pub returns-clause-long : goal.returns-clause-long
returns-clause-long c = c.push_sels.ensures.long
