-- What is stored between checks for speed alone.
use Rattle.std.specs.Prelude.{IfSome}
use Rattle.ct_sorts.specs.Declarations.{Declarations}
use Rattle.ct_base.specs.Base.{IsBase}
use Rattle.ct_trial.specs.LastModel.{IsLastModel}
use Rattle.ct_step.specs.declared.cache.Cache.{Cache}

-- the closures and the last model are of these declarations, or of an earlier state of them
abbrev pub IsCacheOf : Declarations → Cache → Type 0
IsCacheOf d cache = IfSome cache.base (λ base. IsBase d base.value) × IfSome cache.model (λ model. IsLastModel d model.value)
