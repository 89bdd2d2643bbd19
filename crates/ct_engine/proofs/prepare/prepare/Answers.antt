use Rattle.std.proofs.Common.{◌≡◌, length, refl, sym, ap, subst, ◌∙◌}
use Rattle.ct_log.specs.Recorded.{Derived}
use Rattle.ct_engine.specs.Progress.{IsBegunOver, IsSearchOver}
use Rattle.ct_engine.proofs.PrepareLemmas.{IsTaskOf-begun, IsAtStart-begun, IsBegunOver-itself}
use Rattle.ct_engine.proofs.AccountLemmas.{IsAccounted-first}
use Rattle.ct_engine.proofs.prepare.prepare.Goals as goal

pub begin-requires : goal.begin-requires
begin-requires c =
    let is = c.requires.closed.closure in
    record {
      judges = record { sized = c.requires.sizes; sorted = is.sorted; booleans = c.requires.closed.booleans };
      closed = is.is_closed;
      split = is.split;
      rising = is.rising;
    }

pub returns-clause-declarations : goal.returns-clause-declarations
returns-clause-declarations c =
    ap (λ (x : Derived). x.declarations) (c.into_inner.ensures ∙ c.in_ok-derivation.ensures.ok) ∙ c.in_ok-begun.ensures.begun.declarations

pub returns-clause-task : goal.returns-clause-task
returns-clause-task c = λ table asserts same.
    let begun : IsBegunOver c.args.sig.now c.args.closed.table c.args.closed.roots.items c.into_inner.result =
    subst (λ (x : Derived). IsBegunOver c.args.sig.now c.args.closed.table c.args.closed.roots.items x) (sym (c.into_inner.ensures ∙ c.in_ok-derivation.ensures.ok)) c.in_ok-begun.ensures.begun in
    let over : IsSearchOver c.into_inner.result c.args.budget c.in_ok-search.search =
    subst (λ (x : Derived). IsSearchOver x c.args.budget c.in_ok-search.search) (c.deref.ensures ∙ sym c.into_inner.ensures) c.in_ok-search.ensures.search in
    IsTaskOf-begun c.args.sig.now table c.args.closed.table asserts c.args.closed.roots.items c.args.budget c.args.closed.closure _ same c.requires.closed.closure begun over c.variables-variables.ensures.value

pub returns-clause-under_way : goal.returns-clause-under_way
returns-clause-under_way c =
    let begun : IsBegunOver c.args.sig.now c.args.closed.table c.args.closed.roots.items c.into_inner.result =
    subst (λ (x : Derived). IsBegunOver c.args.sig.now c.args.closed.table c.args.closed.roots.items x) (sym (c.into_inner.ensures ∙ c.in_ok-derivation.ensures.ok)) c.in_ok-begun.ensures.begun in
    let over : IsSearchOver c.into_inner.result c.args.budget c.in_ok-search.search =
    subst (λ (x : Derived). IsSearchOver x c.args.budget c.in_ok-search.search) (c.deref.ensures ∙ sym c.into_inner.ensures) c.in_ok-search.ensures.search in
    let count : c.line_count-initial.result ≡ length c.into_inner.result.rec.lines =
    c.line_count-initial.ensures.value ∙ ap (λ (x : Derived). length x.rec.lines) (sym (c.into_inner.ensures ∙ c.in_ok-derivation.ensures.ok)) in
    rw (c.new-moves.ensures.items, count) (IsAccounted-first c.in_ok-search.search c.into_inner.result c.args.budget over
    (IsBegunOver-itself c.args.sig.now c.args.closed.table c.args.closed.roots.items c.into_inner.result begun))

pub returns-clause-start : goal.returns-clause-start
returns-clause-start c =
    let begun : IsBegunOver c.args.sig.now c.args.closed.table c.args.closed.roots.items c.into_inner.result =
    subst (λ (x : Derived). IsBegunOver c.args.sig.now c.args.closed.table c.args.closed.roots.items x) (sym (c.into_inner.ensures ∙ c.in_ok-derivation.ensures.ok)) c.in_ok-begun.ensures.begun in
    let over : IsSearchOver c.into_inner.result c.args.budget c.in_ok-search.search =
    subst (λ (x : Derived). IsSearchOver x c.args.budget c.in_ok-search.search) (c.deref.ensures ∙ sym c.into_inner.ensures) c.in_ok-search.ensures.search in
    let count : c.line_count-initial.result ≡ length c.into_inner.result.rec.lines =
    c.line_count-initial.ensures.value ∙ ap (λ (x : Derived). length x.rec.lines) (sym (c.into_inner.ensures ∙ c.in_ok-derivation.ensures.ok)) in
    IsAtStart-begun c.args.sig.now c.args.closed.table c.args.closed.roots.items c.args.budget c.args.closed.closure _ c.requires.closed.closure begun over c.new-moves.ensures.items count refl
