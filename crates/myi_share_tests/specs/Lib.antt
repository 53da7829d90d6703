pub mod Parts
pub mod Jobs
