-- The replies to lines, and their texts.
use Rattle.std.specs.Prelude.{ℕ, List, [], ◌∷◌, ◌++◌, codes, decimal}

pub data Answer : Type 0 where
  -- an empty line or a comment is answered by no line
  no_reply : Answer
  ok : ℕ → Answer
  value : List ℕ → Answer
  none : Answer
  bad_line : Answer
  no_memory : Answer
  key_length : ℕ → Answer
  log_full : ℕ → ℕ → Answer

abbrev pub text_of : Answer → List ℕ
text_of no_reply = []
text_of (ok number) = codes "ok " ++ decimal number
text_of (value bytes) = codes "value " ++ bytes
text_of none = codes "none"
text_of bad_line = codes "err line"
text_of no_memory = codes "err memory"
text_of (key_length bytes) = codes "err key-length " ++ decimal bytes
text_of (log_full need room) = codes "err log-full " ++ (decimal need ++ 32 ∷ decimal room)

-- each line that is written ends with one line feed
abbrev pub answer_line : Answer → List ℕ
answer_line no_reply = []
answer_line answer = text_of answer ++ 10 ∷ []

-- the line that a run begins with, once its store is open at this number
abbrev pub opened_text : ℕ → List ℕ
opened_text number = codes "opened " ++ (decimal number ++ 10 ∷ [])

-- the line that a run ends with, at this number
abbrev pub closed_text : ℕ → List ℕ
closed_text number = codes "closed " ++ (decimal number ++ 10 ∷ [])

-- the line of a run on a device that is refused at this place of its log
abbrev pub not_formed_text : ℕ → List ℕ
not_formed_text place = codes "fault not-formed log-1 " ++ (decimal place ++ 10 ∷ [])
