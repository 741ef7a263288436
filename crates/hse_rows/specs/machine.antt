-- The core of the machine.
pub mod Rising
pub mod Log
pub mod Sizes
pub mod TakenRuns
pub mod ManifestRoom
pub mod Turn
pub mod Replies
pub mod Calls
pub mod Core
pub mod ManifestEntry
pub mod CoreRefusal
pub mod CoreReply
pub mod CoreDone
pub mod CoreStep
pub mod Limits
pub mod Recorded
