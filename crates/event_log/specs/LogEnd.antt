-- One log among bytes: it goes up to the line feed of its `end` line. The bytes before them, the
-- newest first, are their past.
use Rattle.std.specs.Prelude.{ℕ, Bool, List, [], ◌∷◌, if◌then◌else◌}
use Rattle.event_log.specs.Before.{is_ended}
use Rattle.event_log.specs.Moments.{lines}

-- whether the `end` line was completed
abbrev pub is_whole : List ℕ → Bool
is_whole past = is_ended (lines past)

-- the past behind those of the bytes that are of the log
unfoldable pub log_upto : List ℕ → List ℕ → List ℕ
log_upto past [] = past
log_upto past (b ∷ bytes) = if is_whole past then past else log_upto (b ∷ past) bytes

-- those of the bytes that stand behind the log
unfoldable pub behind_log : List ℕ → List ℕ → List ℕ
behind_log past [] = []
behind_log past (b ∷ bytes) = if is_whole past then b ∷ bytes else behind_log (b ∷ past) bytes
