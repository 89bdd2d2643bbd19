use Rattle.std.proofs.Common.{ap, option_map, Some, sym, ◌∙◌, arith}
use Rattle.ct_lemmas.proofs.Pairs.{AllZip-one_length}
use Rattle.ct_generics.specs.declared.heads.StoredHead.{StoredHead}
use Rattle.ct_generics.specs.Stored.{IsStored}
use Rattle.ct_generics.proofs.generics.Generics.rows.Goals as goal

pub stored_head-requires : goal.stored_head-requires
stored_head-requires c =
    let d = c.requires.within.0 in
    let long = AllZip-one_length IsStored c.args.self.now.heads d.heads c.requires.within.1.stored in
    record { within = rw c.as_slice.ensures.value (omega (arith, long, c.requires.within.2)) }

pub returns : goal.returns
returns c = record { value = ap (option_map (λ (stored : StoredHead). stored.ctors)) (rw c.as_slice.ensures.value at c.stored_head.ensures.value) ∙ ap Some (sym c.as_slice-2.ensures.value) }
