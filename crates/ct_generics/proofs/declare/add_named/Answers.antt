use Rattle.std.proofs.Common.{List, ℕ, [], ◌∷◌, ◌++◌, ap, refl, sym, ◌∙◌}
use Rattle.ct_generics.specs.declared.generics.Generics.{Generics}
use Rattle.ct_generics.specs.declared.heads.StoredHead.{StoredHead}
use Rattle.ct_generics.specs.Declarations.{Head}
use Rattle.ct_generics.proofs.DeclareLemmas.{AreDeclared-more}
use Rattle.ct_generics.proofs.declare.add_named.Goals as goal

pub returns-in-Ok-clause-ok : goal.returns-in-Ok-clause-ok
returns-in-Ok-clause-ok c d is =
    let old = c.args.g.now in
    let name = c.args.name.now in
    let new : Generics = record { heads = c.push.new.self; head_names = c.push-2.new.self; synonyms = old.synonyms; synonym_names = old.synonym_names } in
    let item : StoredHead = record { name = c.in_ok-stored.stored; kind = c.args.kind; params = c.args.params; template = c.new.result; ctors = c.new-3.result } in
    let head : Head = record { name = name; kind = c.args.kind; params = c.args.params; ctors = [] } in
    AreDeclared-more old new d (item ∷ []) (head ∷ []) is
    (record { name_is = sym (c.in_ok-stored.ensures.ok ∙ c.as_slice.ensures.value); kind_is = refl; params_are = refl; fields = rw (c.new-3.ensures.value, c.new-2.ensures.items) tt }, tt)
    c.in_ok-push.ensures.ok
    (c.in-Ok.ensures.ok ∙ ap (λ (x : List ℕ). old.head_names ++ x ∷ []) (c.in_ok-listed.ensures.ok ∙ c.as_slice-2.ensures.value))
    refl refl
