use Rattle.std.proofs.Common.{rules, ◌≡◌, ◌∙◌, ℕ, suc, ◌+◌, List, ◌∷◌, ◌++◌, [], Some, slice_get, sym, ap, subst, arith}
use Rattle.std.specs.Vec.Iter.{into_iter_items}
use Rattle.std.proofs.lemmas.List.{append_assoc, length_push}
use Rattle.std.proofs.lemmas.Option.{slice_get_within}
use Rattle.ct_log.specs.declared.line.Line.{Line}
use Rattle.ct_log.specs.Acceptance.{IsAccepted, clauses_of}
use Rattle.ct_log.specs.Recorded.{Derived}
use Rattle.ct_core.specs.Trimmed.{renumbered}
use Rattle.ct_core.specs.Sweep.{IsMarked, IsCopied, place_in}
use Rattle.ct_core.proofs.CopyLemmas.{accepted_next, copied_next, stands_after}
use Rattle.ct_core.proofs.trimming.put_back.Goals as goal
use Rattle.ct_core.proofs.trimming.put_back.Goals.{In-Some}

-- the next line stands at its index
stands : (c : In-Some) → slice_get c.args.lines.items c.loop-line.number ≡ Some c.in-Some.line
stands c =
    let at = c.loop-line in
    let line = c.in-Some.line in
    let rest : into_iter_items at.line-iterator ≡ line ∷ into_iter_items c.next.new.self = c.in-Some.ensures.steps.0 in
    let whole : at.yielded ++ line ∷ into_iter_items c.next.new.self ≡ c.args.lines.items = ap (λ (ls : List Line). at.yielded ++ ls) (sym rest) ∙ at.invariant.yielded in
    stands_after c.args.lines.items at.yielded (into_iter_items c.next.new.self) line at.number whole at.invariant.number

pub put_next-requires-clause-accepted : goal.put_next-requires-clause-accepted
put_next-requires-clause-accepted c = λ h.
    let at = c.loop-line in
    let next : at.number + 1 ≡ suc at.number = omega arith in
    let old = c.args.derivation.now in
    let line = c.in-Some.line in
    let places = c.in_ok-places.places.items in
    let one : IsAccepted old.declarations old.rec.terms old.asserts (clauses_of at.derivation.rec.lines) (renumbered (place_in places) line) =
    accepted_next c.args.marks.now places c.args.lines.items at.derivation.rec.lines at.number at.invariant.copied old.declarations old.rec.terms c.requires.accepted.0 old.asserts line c.requires.accepted.1 c.requires.closed c.requires.inputs
    (stands (goal.at.put_next-requires-clause-accepted c).In-Some) (subst (IsMarked c.args.marks.now) next h) in
    subst (λ (ps : List ℕ). IsAccepted at.derivation.declarations at.derivation.rec.terms at.derivation.asserts (clauses_of at.derivation.rec.lines) (renumbered (place_in ps) line)) (sym c.as_slice.ensures.value)
    (subst (λ (x : Derived). IsAccepted x.declarations x.rec.terms x.asserts (clauses_of at.derivation.rec.lines) (renumbered (place_in places) line)) (sym at.invariant.others) one)

pub loop-line-preserved : goal.loop-line-preserved
loop-line-preserved c =
    let at = c.loop-line in
    let line = c.in-Some.line in
    let left = into_iter_items c.next.new.self in
    let rest : into_iter_items at.line-iterator ≡ line ∷ left = c.in-Some.ensures.steps.0 in
    let whole : at.yielded ++ line ∷ left ≡ c.args.lines.items = ap (λ (ls : List Line). at.yielded ++ ls) (sym rest) ∙ at.invariant.yielded in
    let more = length_push at.yielded line in
    let so_far = at.invariant.number in
    let there = stands (goal.at.loop-line-preserved c).In-Some in
    let within = slice_get_within c.args.lines.items at.number line there in
    let marks = c.args.marks.now in
    let next : at.number + 1 ≡ suc at.number = omega arith in
    record {
      yielded = append_assoc at.yielded (line ∷ []) left ∙ whole;
      counted = search rules;
      number = omega (arith, so_far, more);
      copied =
          subst (λ (n : ℕ). IsCopied n marks c.in_ok-places.places.items c.args.lines.items c.put_next.new.derivation.rec.lines) (sym next)
          (copied_next marks c.in_ok-places.places.items c.args.lines.items at.derivation.rec.lines at.number at.invariant.copied line c.put_next.new.derivation.rec.lines c.in_ok-places.ensures.places
          (omega (arith, within, c.requires.long)) there
          (λ h. c.in_ok-put_next.ensures.put (subst (IsMarked marks) (sym next) h) ∙ ap (λ (ps : List ℕ). at.derivation.rec.lines ++ renumbered (place_in ps) line ∷ []) c.as_slice.ensures.value)
          (λ none. c.in_ok-put_next.ensures.skipped (λ h. none (subst (IsMarked marks) next h))));
      others = search rules;
    }
