pub mod TreeLaws
pub mod FirstLaws
pub mod RoomLaws
pub mod NewTreesLaws
pub mod LayLaws
pub mod CleanLaws
pub mod CallLaws
