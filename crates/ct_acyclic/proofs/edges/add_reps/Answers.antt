use Rattle.std.proofs.Common.{◌++◌, ◌∷◌, [], List, ℕ, take, get_or, ap, ◌∙◌, append_assoc}
use Rattle.std.proofs.lemmas.List.{take_more}
use Rattle.ct_lemmas.proofs.Pairs.{AllZip-push}
use Rattle.ct_terms.specs.declared.ids.TermId.{TermId}
use Rattle.ct_acyclic.specs.Edges.{IsRepNumber}
use Rattle.ct_acyclic.proofs.edges.add_reps.Goals as goal

abbrev zeroth : TermId
zeroth = record { 0 = 0 }

pub loop-t-preserved : goal.loop-t-preserved
loop-t-preserved c =
    let terms = c.args.terms.now in
    let t = get_or terms c.loop-t.t-index zeroth in
    let old = c.loop-t.invariant in
    record {
      row = old.row ++ c.rep.result.0 ∷ [];
      added = c.in_ok-push.ensures.items ∙ ap (λ (list : List ℕ). list ++ c.rep.result.0 ∷ []) old.added ∙ append_assoc c.args.kids.now.items old.row (c.rep.result.0 ∷ []);
      each = rw (take_more terms c.loop-t.t-index zeroth c.loop-t-test.true)
          (AllZip-push (IsRepNumber c.args.classes.now.reps) (take c.loop-t.t-index terms) old.row t c.rep.result.0 old.each (record { of_term = c.rep.ensures.value; own = c.rep.ensures.own }));
    }
