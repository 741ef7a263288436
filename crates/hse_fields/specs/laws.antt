-- Laws of the fields and of the log's text, for the crates above. What they speak of stands beside this folder.
pub mod Fields
pub mod Order
pub mod Changes
pub mod AllChanges
pub mod Payloads
pub mod Follow
pub mod Within
pub mod Prefixes
pub mod Blocks
pub mod BlockHeaders
pub mod ValueTexts
pub mod PrefixTexts
