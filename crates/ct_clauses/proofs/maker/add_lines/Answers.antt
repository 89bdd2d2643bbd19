use Rattle.std.proofs.Common.{◌≡◌, List, ◌∷◌, ◌++◌, ◌∙◌, sym, ap, subst}
use Rattle.std.specs.Vec.Iter.{into_iter_items}
use Rattle.ct_log.specs.declared.line.Line.{Line}
use Rattle.ct_log.specs.Acceptance.{IsAccepted, clauses_of}
use Rattle.ct_log.specs.Recorded.{Derived}
use Rattle.ct_clauses.proofs.GrowthLemmas.{accepted_after, accepted_middle}
use Rattle.ct_clauses.proofs.maker.add_lines.Goals as goal

pub push-requires : goal.push-requires
push-requires c =
    let old = c.args.derivation.now in
    let at = c.loop-line in
    let line = c.in-Some.line in
    let rest : into_iter_items at.line-iterator ≡ line ∷ into_iter_items c.next.new.self = c.in-Some.ensures.steps.0 in
    let whole : at.yielded ++ line ∷ into_iter_items c.next.new.self ≡ c.args.lines.items = ap (λ (ls : List Line). at.yielded ++ ls) (sym rest) ∙ at.invariant.yielded in
    record {
      accepted =
          subst (λ (d : Derived). IsAccepted d.declarations d.rec.terms d.asserts (clauses_of d.rec.lines) line) (sym at.invariant.added)
          (accepted_after old.declarations old.rec.terms old.asserts (clauses_of (old.rec.lines ++ at.yielded)) line
          (accepted_middle old.declarations old.rec.terms old.asserts c.args.lines.items at.yielded (into_iter_items c.next.new.self) line c.requires.accepted whole));
    }
