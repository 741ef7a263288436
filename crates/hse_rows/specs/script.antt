-- The script machine.
pub mod Cursor
pub mod ScriptLines
pub mod Script
pub mod ScriptNames
pub mod ScriptRefusal
pub mod ScriptDone
pub mod ScriptStep
pub mod ScriptCalls
