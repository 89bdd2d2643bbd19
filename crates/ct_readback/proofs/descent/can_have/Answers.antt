use Rattle.std.proofs.Common.{List, Option, subst}
use Rattle.ct_sorts.specs.declared.ids.SortId.{SortId}
use Rattle.ct_sexpr.specs.View.{expressions_of}
use Rattle.ct_readback.specs.Nodes.{CanHave}
use Rattle.ct_readback.specs.Descent.{AreClosed}
use Rattle.ct_readback.proofs.FoundLemmas.{found_some}
use Rattle.ct_readback.proofs.KnownLemmas.{closed_can, closed_known}
use Rattle.ct_readback.proofs.descent.can_have.Goals as goal

pub returns-in-Some-clause-known : goal.returns-in-Some-clause-known
returns-in-Some-clause-known c =
    let d = c.args.sig.now in
    let rows = expressions_of c.args.rows.now in
    let i = c.args.i in
    let s = c.args.s in
    let pairs = c.in-Some.pairs.keys in
    let found = found_some c.in_ok-pairs_below.field-0 c.in-Some.pairs (CanHave d rows i s → ⊥) (λ p. AreClosed d rows c.deref.result.now i s p.keys) c.in-Some.is c.in_ok-pairs_below.ensures.pairs in
    let closed = subst (λ (l : List (Option SortId)). AreClosed d rows l i s pairs) c.deref.ensures.value found in
    closed_known d rows c.args.known.now.items c.note.new.known.items i s pairs c.requires.known closed c.note.ensures.keeps.long c.note.ensures.only

pub returns-in-Some-clause-can : goal.returns-in-Some-clause-can
returns-in-Some-clause-can c =
    let d = c.args.sig.now in
    let rows = expressions_of c.args.rows.now in
    let i = c.args.i in
    let s = c.args.s in
    let pairs = c.in-Some.pairs.keys in
    let found = found_some c.in_ok-pairs_below.field-0 c.in-Some.pairs (CanHave d rows i s → ⊥) (λ p. AreClosed d rows c.deref.result.now i s p.keys) c.in-Some.is c.in_ok-pairs_below.ensures.pairs in
    let closed = subst (λ (l : List (Option SortId)). AreClosed d rows l i s pairs) c.deref.ensures.value found in
    closed_can d rows c.args.known.now.items i s pairs c.requires.known closed
