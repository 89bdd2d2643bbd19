use Rattle.std.proofs.Common.{◌≡◌, ◌∙◌, ℕ, suc, ◌+◌, ◌<◌, List, length, get_or, ◌∷◌, ◌++◌, [], Some, slice_get, sym, ap, subst, rules, arith}
use Rattle.std.proofs.lemmas.Option.{slice_get-get_or}
use Rattle.ct_log.specs.declared.line.Line.{Line}
use Rattle.ct_log.specs.Acceptance.{IsAccepted, clauses_of}
use Rattle.ct_log.specs.Recorded.{Derived}
use Rattle.ct_core.specs.Trimmed.{renumbered}
use Rattle.ct_core.specs.Sweep.{IsMarked, IsCopied, place_in}
use Rattle.ct_core.proofs.CopyLemmas.{accepted_next, copied_next}
use Rattle.ct_core.proofs.unsat_core.copy_lines.Goals as goal

-- a line that is read at an index stands there
stands : (lines : List Line) (index : ℕ) (line : Line) → index < length lines → line ≡ get_or lines index line → slice_get lines index ≡ Some line
stands lines index line within is = slice_get-get_or lines index line within ∙ ap Some (sym is)

pub copy_next-requires-clause-accepted : goal.copy_next-requires-clause-accepted
copy_next-requires-clause-accepted c = λ h.
    let at = c.loop-index in
    let next : at.index + 1 ≡ suc at.index = omega arith in
    let old = c.args.derivation.now in
    let line = c.index-lines-index.result in
    let places = c.in_ok-places.places.items in
    let one : IsAccepted old.declarations old.rec.terms old.asserts (clauses_of at.derivation.rec.lines) (renumbered (place_in places) line) =
    accepted_next c.args.marks.now places c.args.lines.now at.derivation.rec.lines at.index at.invariant.copied old.declarations old.rec.terms c.requires.accepted.0 old.asserts line c.requires.accepted.1 c.requires.closed c.requires.inputs
    (stands c.args.lines.now at.index line c.loop-index-test.true c.index-lines-index.is) (subst (IsMarked c.args.marks.now) next h) in
    subst (λ (ps : List ℕ). IsAccepted at.derivation.declarations at.derivation.rec.terms at.derivation.asserts (clauses_of at.derivation.rec.lines) (renumbered (place_in ps) line)) (sym c.as_slice.ensures.value)
    (subst (λ (x : Derived). IsAccepted x.declarations x.rec.terms x.asserts (clauses_of at.derivation.rec.lines) (renumbered (place_in places) line)) (sym at.invariant.others) one)

pub loop-index-preserved : goal.loop-index-preserved
loop-index-preserved c =
    let at = c.loop-index in
    let line = c.index-lines-index.result in
    let marks = c.args.marks.now in
    let next : at.index + 1 ≡ suc at.index = omega arith in
    let within = c.loop-index-test.true in
    let there = stands c.args.lines.now at.index line within c.index-lines-index.is in
    let done = c.in_ok-copy_next.ensures in
    record {
      copied =
          subst (λ (n : ℕ). IsCopied n marks c.in_ok-places.places.items c.args.lines.now c.copy_next.new.derivation.rec.lines) (sym next)
          (copied_next marks c.in_ok-places.places.items c.args.lines.now at.derivation.rec.lines at.index at.invariant.copied line c.copy_next.new.derivation.rec.lines c.in_ok-places.ensures.places
          (omega (arith, within, c.requires.long)) there
          (λ h. done.put (subst (IsMarked marks) (sym next) h) ∙ ap (λ (ps : List ℕ). at.derivation.rec.lines ++ renumbered (place_in ps) line ∷ []) c.as_slice.ensures.value)
          (λ none. done.skipped (λ h. none (subst (IsMarked marks) next h))));
      others = search rules;
    }
