use Rattle.std.proofs.Common.{◌≡◌, ◌∙◌, length, refl, sym, subst}
use Rattle.std.proofs.lemmas.Bool.Decides.{Decides-eqb}
use Rattle.ct_terms.specs.declared.ids.TermId.{TermId}
use Rattle.ct_terms.specs.declared.term.Core.{Core}
use Rattle.ct_terms.specs.Terms.{Has, HasArgumentsBelow}
use Rattle.ct_congr.specs.Covered.{IsAlike}
use Rattle.ct_congr.proofs.AlikeLemmas.{IsAlike-refl}
use Rattle.ct_congr.proofs.TermLemmas.{Has-same}
use Rattle.ct_congr.proofs.alike.are_alike.Goals as goal

pub returns-then-eq : goal.returns-then-eq
returns-then-eq c =
    let terms = c.args.table.now in
    let reps = c.args.reps.now in
    let left = c.core-left.result.now in
    let same : c.args.t ≡ c.args.u = let n = (Decides-eqb c.args.t.0 c.args.u.0).0 (sym c.eq.ensures ∙ c.if-eq.true) in λ i. record { 0 = n i } in
    let own : IsAlike reps left left = IsAlike-refl reps left (subst (λ n. HasArgumentsBelow n left) (sym c.requires.long) c.core-left.ensures.inside) in
    record {
      value = λ core other p q.
          let here : left ≡ core = Has-same terms left core c.args.t.0 c.core-left.ensures.value p in
          let there : left ≡ other = Has-same terms left other c.args.t.0 c.core-left.ensures.value (subst (λ (x : TermId). Has terms other x.0) (sym same) q) in
          (λ is. subst (λ (x : Core). IsAlike reps core x) there (subst (λ (x : Core). IsAlike reps x left) here own), λ alike. refl);
    }
