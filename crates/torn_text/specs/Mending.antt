-- The texts of logs, maybe torn ones, one behind another, mended: each torn log is closed behind
-- its last whole line.
use Rattle.std.specs.Prelude.{ℕ, ◌-◌, Bool, true, false, not, ◌&&◌, ◌==◌, List, [], ◌∷◌, ◌++◌}
use Rattle.std.specs.Prelude.{length, drop, is_some, if◌then◌else◌}
use Rattle.std.specs.Str.{bytes_eq}
use Rattle.log_lines.specs.Spelling.{end_line}
use Rattle.event_log.specs.Before.{Line, version_in}
use Rattle.event_log.specs.LogText.{text_of}

-- the lines that a line feed ends, behind the front of a line; what follows the last line feed is a
-- torn line
abbrev pub lines_behind : Line → List ℕ → List Line
lines_behind front [] = []
lines_behind front (b ∷ bytes) =
    if b == 10 then front ∷ lines_behind [] bytes else lines_behind (front ++ b ∷ []) bytes

abbrev pub whole_lines : List ℕ → List Line
whole_lines bytes = lines_behind [] bytes

-- the last ten bytes of a line, as many as `pota-log 1` has
abbrev pub ending : Line → Line
ending line = drop (length line - 10) line

-- A log begins in this line: the line ends in the first line of a log. What stands before that is
-- the torn line of the log before it.
abbrev pub begins_log : Line → Bool
begins_log line = is_some (version_in (ending line))

-- the line that closes a log, where one is open
abbrev pub closing : (is_open : Bool) → List Line
closing true = end_line ∷ []
closing false = []

-- a line of logs, the first of which may be open, as it is mended
abbrev pub line_mended : (is_open : Bool) → Line → List Line
line_mended is_open line =
    if begins_log line then closing is_open ++ ending line ∷ [] else line ∷ []

-- whether a log is open behind the line
abbrev pub is_open_behind : (is_open : Bool) → Line → Bool
is_open_behind is_open line =
    if begins_log line then true else is_open && not (bytes_eq line end_line)

-- the lines of logs one behind another
abbrev pub mended_from : (is_open : Bool) → List Line → List Line
mended_from is_open [] = closing is_open
mended_from is_open (line ∷ rest) =
    line_mended is_open line ++ mended_from (is_open_behind is_open line) rest

abbrev pub mended : List ℕ → List ℕ
mended bytes = text_of (mended_from false (whole_lines bytes))
