pub mod CallerLemmas
pub mod PageLaws
pub mod TurnLaws
pub mod FileLaws
pub mod BytesLaws
pub mod StepLaws
pub mod LevelLaws
