use Rattle.std.proofs.Common.{◌≡◌, refl, sym, ap, ◌∙◌, arith}
use Rattle.std.proofs.lemmas.Option.{same_Some}
use Rattle.ct_generics.specs.Declarations.{Head}
use Rattle.ct_generics.specs.Denoted.{declared_of}
use Rattle.ct_sorts.proofs.getters.gen_of.Goals as goal

pub returns-then-head_params-eq0 : goal.returns-then-head_params-eq0
returns-then-head_params-eq0 c =
    record {
      value = λ known at.
          let found = c.head_params.ensures.params (declared_of c.args.tables.now.generics) c.requires.declared in
          let same : found.0 ≡ known = same_Some found.0 known (sym found.1 ∙ at) in
          omega (arith, c.if-head_params-eq0.true, found.2, ap (λ (x : Head). x.params) same);
    }

pub returns : goal.returns
returns c =
    record {
      value = λ known at.
          let found = c.head_params.ensures.params (declared_of c.args.tables.now.generics) c.requires.declared in
          let same : found.0 ≡ known = same_Some found.0 known (sym found.1 ∙ at) in
          (refl, omega (arith, c.if-head_params-eq0.false, found.2, ap (λ (x : Head). x.params) same));
    }
