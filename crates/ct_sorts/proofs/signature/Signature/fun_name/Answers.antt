use Rattle.std.proofs.Common.{◌≡◌, Some, slice_get, refl, subst}
use Rattle.ct_sorts.specs.Declarations.{Function, function_names}
use Rattle.ct_sorts.specs.Stored.{function_of}
use Rattle.ct_sorts.proofs.StoredLemmas.{name_at}
use Rattle.ct_sorts.proofs.signature.Signature.fun_name.Goals as goal

pub returns : goal.returns
returns c =
    record { value = subst (λ d. slice_get (function_names d) c.args.f.0 ≡ Some c.name.result.now) c.self.view_is (name_at function_of (λ (t : Function). t.name) c.self.inside.functions c.args.f.0 c.name.result.now (λ _. refl) c.name.ensures.name) }
