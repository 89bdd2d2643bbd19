use Rattle.std.proofs.Common.{refl, sym, ◌∙◌}
use Rattle.ct_generics.specs.Declarations.{Head}
use Rattle.ct_generics.proofs.DeclareLemmas.{head_in-ok}
use Rattle.ct_generics.proofs.block.resolve_decl.Goals as goal

pub returns-clause-ok : goal.returns-clause-ok
returns-clause-ok c d is =
    let rows = c.in_ok-ctors.ensures.ok d is in
    let decl = c.args.decl.now in
    let head : Head = record { name = decl.name; kind = c.args.kind; params = decl.params; ctors = rows.0 } in (
      head,
      head_in-ok d c.args.kind decl rows.0 (rw c.as_slice.ensures.value at rows.1),
      record { name_is = sym (c.in_ok-name.ensures.ok ∙ c.as_slice-2.ensures.value); kind_is = refl; params_are = refl; fields = rw c.new.ensures.value rows.2 },
    )
