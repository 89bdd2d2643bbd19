use Rattle.std.proofs.Common.{inl, inr}
use Rattle.ct_closure.proofs.FurtherLemmas.{contains_pushed}
use Rattle.ct_closure.proofs.WayLemmas.{clash}
use Rattle.ct_closure.proofs.further.push_fresh.Goals as goal

pub returns-then-is_marked-clause-pushed : goal.returns-then-is_marked-clause-pushed
returns-then-is_marked-clause-pushed c = λ u. (λ h. inl h, λ h. elim h [ inl was ↦ was | inr (same, fresh) ↦ absurd (fresh (c.is_marked.ensures.marked.0 c.if-is_marked.true)) ])

pub returns-clause-pushed : goal.returns-clause-pushed
returns-clause-pushed c = λ u.
    let pushed = contains_pushed c.args.list.now.items c.push.new.self.items c.args.t c.in_ok-push.ensures.items u in (
      λ h. elim (pushed.0 h) [ inl was ↦ inl was | inr same ↦ inr (same, λ marked. clash c.is_marked.result (c.is_marked.ensures.marked.1 marked) c.if-is_marked.false) ],
      λ h. pushed.1 (elim h [ inl was ↦ inl was | inr (same, fresh) ↦ inr same ]),
    )
