use Rattle.std.proofs.Common.{◌≡◌, ◌∙◌, List, length, sym, ap, subst}
use Rattle.ct_log.specs.declared.line.Line.{Line}
use Rattle.ct_log.specs.Acceptance.{AreAccepted}
use Rattle.ct_log.specs.Recorded.{Derived, Recorded}
use Rattle.ct_core.specs.Sweep.{NameEarlier, HaveInputs}
use Rattle.ct_core.proofs.NameLemmas.{names_earlier}
use Rattle.ct_core.proofs.unsat_core.marked_lines.Goals as goal

pub copy_lines-requires-clause-earlier : goal.copy_lines-requires-clause-earlier
copy_lines-requires-clause-earlier c =
    let old = c.args.derivation.now in
    let lines_are : c.lines.result.now ≡ old.rec.lines = c.lines.ensures.value ∙ ap (λ (r : Recorded). r.lines) c.rec-rec.ensures.value in
    subst NameEarlier (sym lines_are) (names_earlier old.declarations old.rec.terms old.asserts old.rec.lines c.rec-rec.ensures.derivation.accepted)

pub copy_lines-requires-clause-inputs : goal.copy_lines-requires-clause-inputs
copy_lines-requires-clause-inputs c =
    let old = c.args.derivation.now in
    let lines_are : c.lines.result.now ≡ old.rec.lines = c.lines.ensures.value ∙ ap (λ (r : Recorded). r.lines) c.rec-rec.ensures.value in
    let begun = c.deref_mut.ensures.value ∙ c.in_ok-core.ensures.begun in
    subst (λ (x : Derived). HaveInputs c.args.marks.now c.lines.result.now x.asserts) (sym begun)
    (subst (λ (ls : List Line). HaveInputs c.args.marks.now ls c.args.asserts.items) (sym lines_are) c.requires.inputs)

pub copy_lines-requires-clause-accepted : goal.copy_lines-requires-clause-accepted
copy_lines-requires-clause-accepted c =
    let old = c.args.derivation.now in
    let lines_are : c.lines.result.now ≡ old.rec.lines = c.lines.ensures.value ∙ ap (λ (r : Recorded). r.lines) c.rec-rec.ensures.value in
    let begun = c.deref_mut.ensures.value ∙ c.in_ok-core.ensures.begun in (
      old.asserts,
      subst (λ (x : Derived). AreAccepted x.declarations x.rec.terms old.asserts c.lines.result.now) (sym begun)
          (subst (λ (ls : List Line). AreAccepted c.args.sig.now old.rec.terms old.asserts ls) (sym lines_are)
          (subst (λ d. AreAccepted d old.rec.terms old.asserts old.rec.lines) c.requires.declarations c.rec-rec.ensures.derivation.accepted)),
    )

pub returns-clause-accepted : goal.returns-clause-accepted
returns-clause-accepted c =
    let new = c.copy_lines.new.derivation in
    let with : Derived → Derived = λ x. record { declarations = x.declarations; sizes = x.sizes; rec = record { terms = x.rec.terms; lines = new.rec.lines }; asserts = x.asserts } in
    let others = c.in_ok-copy_lines.ensures.others ∙ ap with (c.deref_mut.ensures.value ∙ c.in_ok-core.ensures.begun) in
    subst (λ (x : Derived). AreAccepted x.declarations x.rec.terms x.asserts new.rec.lines) others
    (subst (λ (x : Derived). AreAccepted x.declarations x.rec.terms x.asserts x.rec.lines) c.deref.ensures c.rec-rec-2.ensures.derivation.accepted)
