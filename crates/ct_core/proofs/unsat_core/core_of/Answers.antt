use Rattle.std.proofs.Common.{◌≡◌, ◌∙◌, ◌<◌, ℕ, Bool, List, length, All, sym, ap, subst, arith}
use Rattle.std.proofs.lemmas.Option.{slice_get_within}
use Rattle.std.proofs.lemmas.List.Elements.{All-weaker}
use Rattle.ct_sorts.specs.Declarations.{Declarations}
use Rattle.ct_terms.specs.declared.ids.TermId.{TermId}
use Rattle.ct_terms.specs.Terms.{Terms, AreSorted, IsBoolean}
use Rattle.ct_log.specs.declared.line.Line.{Line}
use Rattle.ct_log.specs.Recorded.{Derived, Recorded}
use Rattle.ct_log.specs.Acceptance.{Passes}
use Rattle.ct_core.specs.Core.{IsCore}
use Rattle.ct_core.specs.Sweep.{NameEarlier, HaveInputs, AreMarks, IsCopied}
use Rattle.ct_core.specs.Inputs.{AreGivenMarks, AreInputsBelow, IsChosen}
use Rattle.ct_core.proofs.NameLemmas.{names_earlier}
use Rattle.ct_core.proofs.InputLemmas.{inputs_below, have_inputs, terms_boolean}
use Rattle.ct_core.proofs.CopyLemmas.{passes_all}
use Rattle.ct_core.proofs.CoreLemmas.{core_is}
use Rattle.ct_core.proofs.unsat_core.core_of.Goals as goal
use Rattle.ct_core.proofs.unsat_core.core_of.Goals.{In_ok-chosen}

pub cited_marks-requires : goal.cited_marks-requires
cited_marks-requires c =
    let old = c.args.derivation.now in
    let lines_are : c.lines-lines.result.now ≡ old.rec.lines = c.lines-lines.ensures.value ∙ ap (λ (r : Recorded). r.lines) c.rec-rec.ensures.value in
    record { earlier = subst NameEarlier (sym lines_are) (names_earlier old.declarations old.rec.terms old.asserts old.rec.lines c.rec-rec.ensures.derivation.accepted) }

pub given_marks-requires-clause-within : goal.given_marks-requires-clause-within
given_marks-requires-clause-within c =
    let old = c.args.derivation.now in
    let lines_are : c.lines-lines.result.now ≡ old.rec.lines = c.lines-lines.ensures.value ∙ ap (λ (r : Recorded). r.lines) c.rec-rec.ensures.value in
    let count : c.len.result ≡ length old.rec.terms = c.len.ensures.count ∙ ap length (c.table.ensures.value ∙ ap (λ (r : Recorded). r.terms) c.rec-rec.ensures.value) in
    subst (λ (n : ℕ). AreInputsBelow n c.lines-lines.result.now) (sym count)
    (subst (AreInputsBelow (length old.rec.terms)) (sym lines_are) (inputs_below old.declarations old.rec.terms old.asserts old.rec.lines c.rec-rec.ensures.derivation.accepted c.rec-rec.ensures.derivation.judges.booleans))

pub first_places-requires : goal.first_places-requires
first_places-requires c =
    let old = c.args.derivation.now in
    let terms_are = c.table.ensures.value ∙ ap (λ (r : Recorded). r.terms) c.rec-rec.ensures.value in
    let count : length c.in_ok-given.given.items ≡ length old.rec.terms = c.in_ok-given.ensures.long ∙ c.len.ensures.count ∙ ap length terms_are in
    record {
      within =
          subst (λ (ts : List TermId). All (λ t. t.0 < length c.in_ok-given.given.items) ts) (sym c.asserts.ensures.value)
          (subst (λ (n : ℕ). All (λ t. t.0 < n) old.asserts) (sym count)
          (All-weaker (IsBoolean old.rec.terms) (λ (t : TermId). t.0 < length old.rec.terms) (λ t is. slice_get_within old.rec.terms t.0 _ is.1) old.asserts c.rec-rec.ensures.derivation.judges.booleans));
    }

-- the lines that were gone over are those of the derivation
lines_are : (c : In_ok-chosen) → c.lines-lines.result.now ≡ c.args.derivation.now.rec.lines
lines_are c = c.lines-lines.ensures.value ∙ ap (λ (r : Recorded). r.lines) c.rec-rec.ensures.value

-- the cited lines are marked
marked : (c : In_ok-chosen) → AreMarks 0 c.args.derivation.now.rec.lines c.in_ok-marks.marks.items
marked c = subst (λ (ls : List Line). AreMarks 0 ls c.in_ok-marks.marks.items) (lines_are c) c.in_ok-marks.ensures.marks

-- and the assertions that they are given
given : (c : In_ok-chosen) → AreGivenMarks c.in_ok-marks.marks.items c.args.derivation.now.rec.lines (length c.args.derivation.now.rec.lines) c.in_ok-given.given.items
given c =
    subst (λ (ls : List Line). AreGivenMarks c.in_ok-marks.marks.items ls (length ls) c.in_ok-given.given.items) (lines_are c)
    (subst (λ (ms : List Bool). AreGivenMarks ms c.lines-lines.result.now (length c.lines-lines.result.now) c.in_ok-given.given.items) c.as_slice.ensures.value c.in_ok-given.ensures.given)

-- whose first places were taken
chosen : (c : In_ok-chosen) → IsChosen c.args.derivation.now.asserts c.in_ok-given.given.items (length c.args.derivation.now.asserts) c.in_ok-chosen.chosen.places.items c.in_ok-chosen.chosen.terms.items c.in_ok-chosen.ensures.chosen.0
chosen c = subst (λ (ts : List TermId). IsChosen ts c.in_ok-given.given.items (length ts) c.in_ok-chosen.chosen.places.items c.in_ok-chosen.chosen.terms.items c.in_ok-chosen.ensures.chosen.0) c.asserts.ensures.value c.in_ok-chosen.ensures.chosen.1

pub marked_lines-requires-clause-judges : goal.marked_lines-requires-clause-judges
marked_lines-requires-clause-judges c =
    let at = (goal.at.marked_lines-requires-clause-judges c).In_ok-chosen in
    let old = c.args.derivation.now in
    record {
      sized = c.requires.sizes;
      sorted = subst (λ (d : Declarations). AreSorted d old.rec.terms) c.requires.declarations c.rec-rec.ensures.derivation.judges.sorted;
      booleans =
          terms_boolean old.rec.lines c.in_ok-marks.marks.items old.asserts c.in_ok-given.given.items c.in_ok-chosen.chosen.places.items c.in_ok-chosen.chosen.terms.items c.in_ok-chosen.ensures.chosen.0
          (marked at) (given at) (chosen at) old.rec.terms c.rec-rec.ensures.derivation.judges.booleans;
    }

pub marked_lines-requires-clause-inputs : goal.marked_lines-requires-clause-inputs
marked_lines-requires-clause-inputs c =
    let at = (goal.at.marked_lines-requires-clause-inputs c).In_ok-chosen in
    let old = c.args.derivation.now in
    subst (λ (ms : List Bool). HaveInputs ms old.rec.lines c.in_ok-chosen.chosen.terms.items) (sym c.as_slice-2.ensures.value)
    (have_inputs old.rec.lines c.in_ok-marks.marks.items old.asserts c.in_ok-given.given.items c.in_ok-chosen.chosen.places.items c.in_ok-chosen.chosen.terms.items c.in_ok-chosen.ensures.chosen.0
    (marked at) (given at) (chosen at) old.declarations old.rec.terms c.rec-rec.ensures.derivation.accepted)

pub returns-clause-core : goal.returns-clause-core
returns-clause-core c =
    let at = (goal.at.returns-clause-core c).In_ok-chosen in
    let old = c.args.derivation.now in
    let new = c.in_ok-core.core.value in
    let others = c.in_ok-core.ensures.others in
    let made = c.in_ok-core.ensures.copied in
    let copied = subst (λ (ms : List Bool). IsCopied (length old.rec.lines) ms made.0 old.rec.lines new.rec.lines) c.as_slice-2.ensures.value made.1 in
    subst (λ (x : Derived). IsCore old c.in_ok-chosen.chosen.places.items x) (sym c.into_inner.ensures)
    (core_is old new c.in_ok-marks.marks.items c.in_ok-given.given.items c.in_ok-chosen.ensures.chosen.0 c.in_ok-chosen.chosen.places.items made.0 c.in_ok-chosen.chosen.terms.items (marked at) (given at) (chosen at) copied
    (ap (λ (x : Derived). x.declarations) others ∙ sym c.requires.declarations) (ap (λ (x : Derived). x.rec.terms) others) (ap (λ (x : Derived). x.asserts) others))

pub returns-clause-passes : goal.returns-clause-passes
returns-clause-passes c =
    let at = (goal.at.returns-clause-passes c).In_ok-chosen in
    let old = c.args.derivation.now in
    let new = c.in_ok-core.core.value in
    let others = c.in_ok-core.ensures.others in
    let made = c.in_ok-core.ensures.copied in
    let copied = subst (λ (ms : List Bool). IsCopied (length old.rec.lines) ms made.0 old.rec.lines new.rec.lines) c.as_slice-2.ensures.value made.1 in
    let terms = c.in_ok-chosen.chosen.terms.items in
    λ passed.
    subst (λ (x : Derived). Passes c.args.sig.now x.rec.terms x.asserts x.rec.lines) (sym c.into_inner.ensures)
    (subst (λ (ts : List TermId). Passes c.args.sig.now new.rec.terms ts new.rec.lines) (sym (ap (λ (x : Derived). x.asserts) others))
    (subst (λ (ts : Terms). Passes c.args.sig.now ts terms new.rec.lines) (sym (ap (λ (x : Derived). x.rec.terms) others))
    (passes_all 0 c.in_ok-marks.marks.items made.0 old.rec.lines new.rec.lines (marked at) copied c.args.sig.now old.rec.terms old.asserts terms c.in_ok-core.ensures.accepted passed)))
