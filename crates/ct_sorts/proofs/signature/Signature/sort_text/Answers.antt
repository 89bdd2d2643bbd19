use Rattle.std.proofs.Common.{◌≡◌, subst}
use Rattle.ct_generics.specs.Expression.{Expression}
use Rattle.ct_sorts.specs.Declarations.{Declarations}
use Rattle.ct_sorts.specs.Instances.{IsOrigin}
use Rattle.ct_sorts.specs.SortText.{sort_text}
use Rattle.ct_sorts.proofs.GetterLemmas.{text_at}
use Rattle.ct_sorts.proofs.signature.Signature.sort_text.Goals as goal

pub returns : goal.returns
returns c =
    let text = c.name.result.now in
    record { value = subst (λ (d : Declarations). (e : Expression) → IsOrigin d c.args.s e → text ≡ sort_text d.declared.heads e) c.self.view_is (λ e at. text_at c.self.inside.tables c.self.invariant.tabled c.args.s.0 text e c.name.ensures.name at) }
