-- What a reply of the code says.
use Rattle.hse_shell.specs.declared.reply.Reply.{Reply}
use Rattle.hse_shell.specs.declared.reply.Reply.TheVariants as reply
use Rattle.hse_shell.specs.Replies.{Answer, ok, value, none, bad_line, no_memory, key_length, log_full}

-- the answer that a reply stands for
abbrev pub answer_of : Reply → Answer
answer_of (reply.Ok number) = ok number
answer_of (reply.Value bytes) = value bytes.now
answer_of reply.None = none
answer_of reply.BadLine = bad_line
answer_of reply.NoMemory = no_memory
answer_of (reply.KeyLength bytes) = key_length bytes
answer_of (reply.LogFull need room) = log_full need room
