use Rattle.std.proofs.Common.{length, ap, sym, ◌∙◌}
use Rattle.ct_values.proofs.PackedLemmas.{unpacked_long}
use Rattle.ct_values.proofs.packed.PackedNodes.len.Goals as goal

pub returns : goal.returns
returns c =
    let heads = c.self.inside.heads.items in
    let children = c.self.inside.children.items in
    let long = unpacked_long 0 heads c.self.inside.ends.items children (length children) c.self.invariant in
    record { count = c.len.ensures ∙ c.self.inside.heads.ok.0 ∙ sym long ∙ ap length c.self.view_is }
