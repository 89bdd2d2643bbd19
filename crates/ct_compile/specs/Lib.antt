pub use Rattle.ct_operators.specs.Effect
pub use Rattle.ct_operators.specs.Made
pub use Rattle.ct_scope.specs.Making
pub mod Attempts
pub mod AtLevel
