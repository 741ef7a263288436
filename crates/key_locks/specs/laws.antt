-- Laws of the locks. What they speak of stands beside this folder.
pub mod Laws
