-- Laws, and the lemmas that crates above cite. What they speak of stands beside this folder.
pub mod Holding
pub mod LastEffect
pub mod Laws
pub mod Folding
pub mod CoreLaws
pub mod ScriptLaws
pub mod Covering
pub mod Orderly
pub mod ChargeLaw
