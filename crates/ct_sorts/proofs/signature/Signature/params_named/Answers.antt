use Rattle.std.proofs.Common.{◌≡◌, option_map, subst}
use Rattle.ct_generics.specs.Denoted.{declared_of}
use Rattle.ct_generics.specs.Resolved.{meaning, params_of}
use Rattle.ct_sorts.specs.Declarations.{Declarations}
use Rattle.ct_sorts.proofs.signature.Signature.params_named.Goals as goal

pub returns : goal.returns
returns c =
    let t = c.self.inside.tables in
    record { value = subst (λ (d : Declarations). c.params_named.result ≡ option_map params_of (meaning d.declared c.args.name.now)) c.self.view_is (c.params_named.ensures.value (declared_of t.generics) c.self.invariant.tabled.declared) }
