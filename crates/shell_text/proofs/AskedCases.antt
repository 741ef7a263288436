-- Lines of each kind, and what they ask the script machine for, worked by hand.
use Rattle.std.proofs.Common.{◌≡◌, ℕ, true, false, List, [], codes, Some, None, Ok, Err, refl}
use Rattle.hse_rows.specs.declared.change.Change.TheVariants as change
use Rattle.hse_rows.specs.declared.store.Mode.TheVariants.{Plain, Tx}
use Rattle.hse_rows.specs.script.Cursor.{forward, backward}
use Rattle.hse_rows.specs.machine.Turn as wish
use Rattle.hse_rows.specs.script.ScriptLines as script
use Rattle.shell_text.specs.declared.line.Actor.TheVariants.{At, Name}
use Rattle.shell_text.specs.declared.line.TakeText.TheVariants as taken
use Rattle.shell_text.specs.declared.line.Line.TheVariants as line
use Rattle.shell_text.specs.declared.line.TextFault.TheVariants.{BadLine, NoMemory}
use Rattle.shell_text.specs.Asked.{line_of, asked_of}

-- an empty line
silent : asked_of (Ok line.Silent) ≡ Some script.silent
silent = refl

-- begun t
bad : asked_of (Err BadLine) ≡ Some script.bad
bad = refl

unread : asked_of (Err NoMemory) ≡ None
unread = refl

-- create-store s tx 2
create_store : line_of (line.CreateStore (codes "s") Tx 2) ≡ script.turn (wish.create (codes "s") Tx 2)
create_store = refl

-- drop-store s
drop_store : line_of (line.DropStore (codes "s")) ≡ script.turn (wish.drop (codes "s"))
drop_store = refl

-- stores
stores : line_of line.Stores ≡ script.list_stores
stores = refl

-- begin t
begin : line_of (line.Begin (codes "t")) ≡ script.begin (codes "t")
begin = refl

-- put t s a 1
put_in : line_of (line.Put (Name (codes "t")) (codes "s") (codes "a") (codes "1"))
    ≡ script.write_by (script.someone (codes "t")) (codes "s") (change.Put (codes "a") (codes "1"))
put_in = refl

-- put @ s a x:
put_outside : line_of (line.Put At (codes "s") (codes "a") []) ≡ script.write_by script.nobody (codes "s") (change.Put (codes "a") [])
put_outside = refl

-- del t s a
del : line_of (line.Del (Name (codes "t")) (codes "s") (codes "a"))
    ≡ script.write_by (script.someone (codes "t")) (codes "s") (change.Del (codes "a"))
del = refl

-- pdel @ s ab
pdel : line_of (line.Pdel At (codes "s") (codes "ab")) ≡ script.write_by script.nobody (codes "s") (change.PDel (codes "ab"))
pdel = refl

-- get t s a
get : line_of (line.Get (Name (codes "t")) (codes "s") (codes "a")) ≡ script.get (script.someone (codes "t")) (codes "s") (codes "a")
get = refl

-- commit t
commit : line_of (line.Commit (codes "t")) ≡ script.commit (codes "t")
commit = refl

-- abort t
abort : line_of (line.Abort (codes "t")) ≡ script.abort (codes "t")
abort = refl

-- cursor c @ s fwd x:
cursor_forward : line_of (line.Cursor (codes "c") At (codes "s") false []) ≡ script.open_cursor (codes "c") script.nobody (codes "s") forward []
cursor_forward = refl

-- cursor c t s rev a
cursor_backward : line_of (line.Cursor (codes "c") (Name (codes "t")) (codes "s") true (codes "a"))
    ≡ script.open_cursor (codes "c") (script.someone (codes "t")) (codes "s") backward (codes "a")
cursor_backward = refl

-- seek c k
seek : line_of (line.Seek (codes "c") (codes "k")) ≡ script.seek (codes "c") (codes "k")
seek = refl

-- seek-range c a b
seek_range : line_of (line.SeekRange (codes "c") (codes "a") (codes "b")) ≡ script.seek_range (codes "c") (codes "a") (codes "b")
seek_range = refl

-- read c
read : line_of (line.Read (codes "c")) ≡ script.read (codes "c")
read = refl

-- update c
update : line_of (line.Update (codes "c")) ≡ script.update (codes "c")
update = refl

-- close-cursor c
close_cursor : line_of (line.CloseCursor (codes "c")) ≡ script.close_cursor (codes "c")
close_cursor = refl

-- take sync
take_sync : line_of (line.Take taken.Sync) ≡ script.take wish.sync
take_sync = refl

-- take create s plain 0
take_create : line_of (line.Take (taken.Create (codes "s") Plain 0)) ≡ script.take (wish.create (codes "s") Plain 0)
take_create = refl

-- take drop s
take_drop : line_of (line.Take (taken.Drop (codes "s"))) ≡ script.take (wish.drop (codes "s"))
take_drop = refl

-- write
write : line_of line.Write ≡ script.write_turn
write = refl

-- end
end : line_of line.End ≡ script.end_turn
end = refl

-- sync
sync : line_of line.Sync ≡ script.turn wish.sync
sync = refl

-- info
info : line_of line.Info ≡ script.info
info = refl

-- reopen
reopen : line_of line.Reopen ≡ script.reopen
reopen = refl
