-- Which line of the script machine the text of a line asks for.
use Rattle.std.specs.Prelude.{Bool, true, false, Option, Some, None, Result, Ok, Err}
use Rattle.hse_rows.specs.declared.change.Change.TheVariants as change
use Rattle.hse_rows.specs.script.Cursor.{Direction, forward, backward}
use Rattle.hse_rows.specs.machine.Turn.{TurnWish}
use Rattle.hse_rows.specs.machine.Turn as wish
use Rattle.hse_rows.specs.script.ScriptLines as script
use Rattle.shell_text.specs.declared.line.Actor.{Actor}
use Rattle.shell_text.specs.declared.line.Actor.TheVariants.{At, Name}
use Rattle.shell_text.specs.declared.line.TakeText.{TakeText}
use Rattle.shell_text.specs.declared.line.TakeText.TheVariants as taken
use Rattle.shell_text.specs.declared.line.Line.{Line}
use Rattle.shell_text.specs.declared.line.Line.TheVariants as line
use Rattle.shell_text.specs.declared.line.TextFault.{TextFault}
use Rattle.shell_text.specs.declared.line.TextFault.TheVariants.{BadLine, NoMemory}

abbrev pub who_of : Actor → script.Who
who_of At = script.nobody
who_of (Name name) = script.someone name

abbrev pub direction_of : Bool → Direction
direction_of false = forward
direction_of true = backward

abbrev pub wish_of : TakeText → TurnWish
wish_of taken.Sync = wish.sync
wish_of (taken.Create store mode prefix) = wish.create store mode prefix
wish_of (taken.Drop store) = wish.drop store

-- A line that makes or drops a store, or makes commits safe, is the phases of that turn in a row.
abbrev pub line_of : Line → script.Line
line_of line.Silent = script.silent
line_of (line.CreateStore store mode prefix) = script.turn (wish.create store mode prefix)
line_of (line.DropStore store) = script.turn (wish.drop store)
line_of line.Stores = script.list_stores
line_of (line.Begin transaction) = script.begin transaction
line_of (line.Put actor store key value) = script.write_by (who_of actor) store (change.Put key value)
line_of (line.Del actor store key) = script.write_by (who_of actor) store (change.Del key)
line_of (line.Pdel actor store prefix) = script.write_by (who_of actor) store (change.PDel prefix)
line_of (line.Get actor store key) = script.get (who_of actor) store key
line_of (line.Commit transaction) = script.commit transaction
line_of (line.Abort transaction) = script.abort transaction
line_of (line.Cursor cursor actor store reverse filter) =
    script.open_cursor cursor (who_of actor) store (direction_of reverse) filter
line_of (line.Seek cursor key) = script.seek cursor key
line_of (line.SeekRange cursor first last) = script.seek_range cursor first last
line_of (line.Read cursor) = script.read cursor
line_of (line.Update cursor) = script.update cursor
line_of (line.CloseCursor cursor) = script.close_cursor cursor
line_of (line.Take what) = script.take (wish_of what)
line_of line.Write = script.write_turn
line_of line.End = script.end_turn
line_of line.Sync = script.turn wish.sync
line_of line.Info = script.info
line_of line.Reopen = script.reopen

-- what was read, as a line: one outside the grammar is a bad one, and without memory none was read
abbrev pub asked_of : Result Line TextFault → Option script.Line
asked_of (Ok line) = Some (line_of line)
asked_of (Err BadLine) = Some script.bad
asked_of (Err NoMemory) = None
