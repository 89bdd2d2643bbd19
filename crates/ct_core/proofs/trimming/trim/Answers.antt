use Rattle.std.proofs.Common.{◌≡◌, ◌∙◌, List, length, sym, ap, subst}
use Rattle.ct_log.specs.declared.line.Line.{Line}
use Rattle.ct_log.specs.Acceptance.{AreAccepted}
use Rattle.ct_log.specs.Recorded.{Derived, Recorded}
use Rattle.ct_core.specs.Sweep.{NameEarlier, HaveInputs, AreMarks, IsCopied}
use Rattle.ct_core.proofs.NameLemmas.{names_earlier, inputs_given}
use Rattle.ct_core.proofs.CopyLemmas.{trimmed_all, passes_all}
use Rattle.ct_core.proofs.trimming.trim.Goals as goal
use Rattle.ct_core.proofs.trimming.trim.Goals.{In_ok-put_back}

pub cited_marks-requires : goal.cited_marks-requires
cited_marks-requires c =
    let old = c.args.derivation.now in
    let lines_are : c.lines.result.now ≡ old.rec.lines = c.lines.ensures.value ∙ ap (λ (r : Recorded). r.lines) c.rec.ensures.value in
    record { earlier = subst NameEarlier (sym lines_are) (names_earlier old.declarations old.rec.terms old.asserts old.rec.lines c.rec.ensures.derivation.accepted) }

pub put_back-requires-clause-earlier : goal.put_back-requires-clause-earlier
put_back-requires-clause-earlier c =
    let old = c.args.derivation.now in
    subst NameEarlier (sym c.take_lines-lines.ensures.lines) (names_earlier old.declarations old.rec.terms old.asserts old.rec.lines c.rec.ensures.derivation.accepted)

pub put_back-requires-clause-inputs : goal.put_back-requires-clause-inputs
put_back-requires-clause-inputs c =
    let old = c.args.derivation.now in
    let marks = c.as_slice.result.now in
    subst (λ (x : Derived). HaveInputs marks c.take_lines-lines.result.items x.asserts) (sym c.take_lines-lines.ensures.none)
    (subst (λ (ls : List Line). HaveInputs marks ls old.asserts) (sym c.take_lines-lines.ensures.lines) (inputs_given old.declarations old.rec.terms old.asserts old.rec.lines marks c.rec.ensures.derivation.accepted))

pub put_back-requires-clause-accepted : goal.put_back-requires-clause-accepted
put_back-requires-clause-accepted c =
    let old = c.args.derivation.now in (
      old.asserts,
      subst (λ (x : Derived). AreAccepted x.declarations x.rec.terms old.asserts c.take_lines-lines.result.items) (sym c.take_lines-lines.ensures.none)
          (subst (AreAccepted old.declarations old.rec.terms old.asserts) (sym c.take_lines-lines.ensures.lines) c.rec.ensures.derivation.accepted),
    )

-- the marks are those of the lines that stood there
marked : (c : In_ok-put_back) → AreMarks c.args.kept c.args.derivation.now.rec.lines c.as_slice.result.now
marked c =
    let old = c.args.derivation.now in
    let lines_are : c.lines.result.now ≡ old.rec.lines = c.lines.ensures.value ∙ ap (λ (r : Recorded). r.lines) c.rec.ensures.value in
    subst (AreMarks c.args.kept old.rec.lines) (sym c.as_slice.ensures.value) (subst (λ (ls : List Line). AreMarks c.args.kept ls c.in_ok-marks.marks.items) lines_are c.in_ok-marks.ensures.marks)

-- these were put back
copied : (c : In_ok-put_back) → IsCopied (length c.args.derivation.now.rec.lines) c.as_slice.result.now c.in_ok-put_back.ensures.copied.0 c.args.derivation.now.rec.lines c.put_back.new.derivation.rec.lines
copied c =
    let made = c.in_ok-put_back.ensures.copied in
    subst (λ (ls : List Line). IsCopied (length ls) c.as_slice.result.now made.0 ls c.put_back.new.derivation.rec.lines) c.take_lines-lines.ensures.lines made.1

pub returns-clause-trimmed : goal.returns-clause-trimmed
returns-clause-trimmed c =
    let at = (goal.at.returns-clause-trimmed c).In_ok-put_back in
    trimmed_all c.args.kept c.as_slice.result.now c.in_ok-put_back.ensures.copied.0 c.args.derivation.now.rec.lines c.put_back.new.derivation.rec.lines (marked at) (copied at)

pub returns-clause-passes : goal.returns-clause-passes
returns-clause-passes c =
    let at = (goal.at.returns-clause-passes c).In_ok-put_back in
    let old = c.args.derivation.now in
    let new = c.put_back.new.derivation in
    let with : Derived → Derived = λ x. record { declarations = x.declarations; sizes = x.sizes; rec = record { terms = x.rec.terms; lines = new.rec.lines }; asserts = x.asserts } in
    let others : new ≡ with old = c.in_ok-put_back.ensures.others ∙ ap with c.take_lines-lines.ensures.none in
    passes_all c.args.kept c.as_slice.result.now c.in_ok-put_back.ensures.copied.0 old.rec.lines new.rec.lines (marked at) (copied at) old.declarations old.rec.terms old.asserts old.asserts
    (subst (λ (x : Derived). AreAccepted x.declarations x.rec.terms x.asserts x.rec.lines) others c.rec-rec.ensures.derivation.accepted)
