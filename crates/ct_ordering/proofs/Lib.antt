pub mod ListLemmas
pub mod PointLemmas
pub mod RoomLemmas
pub mod SearchLemmas
pub mod StepLemmas
pub mod OrderLemmas
