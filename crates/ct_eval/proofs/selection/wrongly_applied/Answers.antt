use Rattle.std.proofs.Common.{List, [], ◌∷◌, subst, sym}
use Rattle.ct_values.specs.declared.node.NodeId.{NodeId}
use Rattle.ct_eval.specs.Index.{AreRepresentatives}
use Rattle.ct_eval.proofs.selection.wrongly_applied.Goals as goal

pub given-requires : goal.given-requires
given-requires c =
    let f = c.requires.fits in
    let g = c.args.interp.now.graph in
    record {
      fits = (
        g,
        f.0,
        f.1,
        f.2,
        f.3,
        f.4 ∷ [],
        c.requires.offs,
        f.5,
        c.requires.longer,
        f.6,
        subst (λ (ns : List NodeId). AreRepresentatives g c.args.shared.now ns (f.4 ∷ [])) (sym c.in_ok-args.ensures.value) (f.7, tt),
      );
    }

pub returns : goal.returns
returns c = record {
  value = λ d args sort table v at fits first.
      let g = c.args.interp.now.graph in
      let reported = c.given.ensures.value g d args sort table (v ∷ []) c.requires.offs at c.requires.longer fits (subst (λ (ns : List NodeId). AreRepresentatives g c.args.shared.now ns (v ∷ [])) (sym c.in_ok-args.ensures.value) (first, tt)) c.closed.ensures.closed in
      record { first = reported.0; sorted = reported.1 };
}
