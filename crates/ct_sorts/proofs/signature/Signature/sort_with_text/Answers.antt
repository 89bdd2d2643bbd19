use Rattle.std.proofs.Common.{◌≡◌, subst}
use Rattle.ct_generics.specs.Expression.{Expression}
use Rattle.ct_sorts.specs.declared.ids.SortId.{SortId}
use Rattle.ct_sorts.specs.Declarations.{Declarations}
use Rattle.ct_sorts.specs.Instances.{IsOrigin}
use Rattle.ct_sorts.specs.SortText.{sort_text}
use Rattle.ct_sorts.proofs.GetterLemmas.{sort_of_text, text_listed}
use Rattle.ct_sorts.proofs.signature.Signature.sort_with_text.Goals as goal

pub returns-in-Some : goal.returns-in-Some
returns-in-Some c =
    let index = c.in-Some.index in
    record { value = subst (λ (d : Declarations). (e : Expression) × IsOrigin d (record { 0 = index }) e × (sort_text d.declared.heads e ≡ c.args.text.now)) c.self.view_is (sort_of_text c.self.inside.tables c.self.invariant.tabled index c.args.text.now c.in-Some.ensures.listed) }

pub returns-in-None : goal.returns-in-None
returns-in-None c =
    record { value = subst (λ (d : Declarations). (s : SortId) (e : Expression) → IsOrigin d s e → sort_text d.declared.heads e ≡ c.args.text.now → ⊥) c.self.view_is (λ s e at is. c.in-None.ensures.listed (text_listed c.self.inside.tables c.self.invariant.tabled s.0 c.args.text.now e at is)) }
