use Rattle.std.proofs.Common.{◌≡◌, length, slice_get, Some, ap, sym, ◌∙◌, subst, arith}
use Rattle.std.proofs.lemmas.Option.{same_Some}
use Rattle.ct_terms.specs.declared.ids.TermId.{TermId}
use Rattle.ct_congr.specs.State.{State}
use Rattle.ct_congr.proofs.HeldLemmas.{IsConOf-found, IsConOf-none}
use Rattle.ct_congr.proofs.classes.Classes.con_of.Goals as goal

pub con_of-requires : goal.con_of-requires
con_of-requires c = record { inside = omega (arith, c.requires.inside, ap (λ (s : State). length s.terms) c.self.view_is, c.self.invariant.0.sound.long) }

pub returns : goal.returns
returns c =
    let s = c.self.inside in
    let h = c.con_of.ensures.stored in
    let is = c.self.invariant.0.sound.stored h.0 c.con_of.result h.2 h.3 in
    rw (← c.self.view_is) (record {
      found = IsConOf-found s.table s.progress.store.parts.now.reps c.args.t h.0 c.con_of.result h.1 is;
      none = IsConOf-none s.table s.progress.store.parts.now.reps c.args.t h.0 c.con_of.result h.1 is;
      value = λ r at. subst (λ (q : TermId). slice_get s.progress.store.parts.now.cons q.0 ≡ Some c.con_of.result) (same_Some h.0 r (sym h.1 ∙ at)) h.3;
    })
