use Rattle.std.proofs.Common.{◌≡◌, List, Some, slice_get, sym, ◌∙◌, ap, subst}
use Rattle.ct_sorts.specs.Declarations.{Constructor, ctor_names}
use Rattle.ct_sorts.specs.declared.spelling.Spelling.{Spelling}
use Rattle.ct_sorts.specs.Stored.{ctor_of, ctor_name_at}
use Rattle.ct_sorts.proofs.StoredLemmas.{parts_of}
use Rattle.ct_sorts.proofs.signature.Signature.ctor_name.Goals as goal

pub returns : goal.returns
returns c =
    record { value = subst (λ d. slice_get (ctor_names d) c.args.c.0 ≡ Some c.ctor_name.result.now) c.self.view_is (parts_of (ctor_of c.self.inside.tables.spellings) (λ (t : Constructor). t.name) c.self.inside.tables.ctors c.args.c.0 c.ctor_entry.result.now c.ctor_entry.ensures.value ∙ ap Some (sym (c.ctor_name.ensures.value ∙ ap (λ (all : List (List Spelling)). ctor_name_at all c.ctor_entry.result.now.home) c.as_slice.ensures.value))) }
