-- Laws of openings, for the crates above. What they speak of stands beside this folder.
pub mod Names
