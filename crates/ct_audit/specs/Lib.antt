pub mod Answer
pub mod AtCheck
pub mod Grown
pub mod Growing
pub mod Judged
pub mod Audit
