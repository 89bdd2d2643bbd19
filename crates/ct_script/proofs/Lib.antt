pub mod SessionLemmas
pub mod CourseLemmas
pub mod ReplayLemmas
pub mod OneStackLemmas
