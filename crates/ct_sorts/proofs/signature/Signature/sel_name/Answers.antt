use Rattle.std.proofs.Common.{◌≡◌, List, Some, slice_get, sym, ◌∙◌, ap, subst}
use Rattle.ct_sorts.specs.Declarations.{Selector, sel_names}
use Rattle.ct_sorts.specs.declared.spelling.Spelling.{Spelling}
use Rattle.ct_sorts.specs.Stored.{sel_of, field_name_at}
use Rattle.ct_sorts.proofs.StoredLemmas.{parts_of}
use Rattle.ct_sorts.proofs.signature.Signature.sel_name.Goals as goal

pub returns : goal.returns
returns c =
    record { value = subst (λ d. slice_get (sel_names d) c.args.s.0 ≡ Some c.field_name.result.now) c.self.view_is (parts_of (sel_of c.self.inside.tables.spellings) (λ (t : Selector). t.name) c.self.inside.tables.sels c.args.s.0 c.sel_entry-entry.result.now c.sel_entry-entry.ensures.value ∙ ap Some (sym (c.field_name.ensures.value ∙ ap (λ (all : List (List Spelling)). field_name_at all c.sel_entry-entry.result.now.home c.sel_entry-entry.result.now.place) c.as_slice.ensures.value))) }
