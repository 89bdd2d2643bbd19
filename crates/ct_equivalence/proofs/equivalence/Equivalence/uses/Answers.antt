use Rattle.std.proofs.Common.{◌≡◌, length, reverse, slice_get, Some, ap, sym, ◌∙◌, subst, arith}
use Rattle.std.proofs.lemmas.Option.{same_Some, slice_get_within}
use Rattle.ct_terms.specs.declared.ids.TermId.{TermId}
use Rattle.ct_equivalence.specs.Grouping.{Groupings}
use Rattle.ct_equivalence.proofs.NoteLemmas.{IsGrouping-noted}
use Rattle.ct_equivalence.proofs.equivalence.Equivalence.uses.Goals as goal

pub rep-requires : goal.rep-requires
rep-requires c = record { inside = omega (arith, c.requires.inside, ap (λ (gs : Groupings). length gs.now.reps) c.self.view_is) }

pub uses-requires : goal.uses-requires
uses-requires c = record { inside = slice_get_within c.self.inside.grouped.reps c.rep.result.0 c.rep.result c.rep.ensures.own }

pub returns : goal.returns
returns c =
    let g = c.self.inside.grouped in
    let whole = IsGrouping-noted g (reverse c.self.inside.log.items) c.self.invariant in
    let at : (r : TermId) → slice_get g.reps c.args.t.0 ≡ Some r → slice_get g.uses r.0 ≡ Some c.uses.result.now =
    λ r is. subst (λ (s : TermId). slice_get g.uses s.0 ≡ Some c.uses.result.now) (same_Some c.rep.result r (sym c.rep.ensures.value ∙ is)) c.uses.ensures.value in
    rw (← c.self.view_is)
    (record {
      value = at;
      uses = λ terms r of is. of.uses r c.uses.result.now (whole.own c.args.t r is) (at r is);
    })
