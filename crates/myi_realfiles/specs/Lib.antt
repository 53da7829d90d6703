-- what a reader of the contracts must believe

-- the counts of real files and of standard output
pub mod RealFiles
