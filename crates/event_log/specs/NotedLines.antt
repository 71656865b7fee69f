-- The lines that a header notes.
use Rattle.std.specs.Prelude.{◌≡◌, ◌⊎◌, ℕ, ◌-◌, ◌<◌, List, [], length, Some, slice_get, get_or}
use Rattle.log_lines.specs.Spelling.{vars_line}
use Rattle.event_log.specs.declared.log.Header.{Header}
use Rattle.event_log.specs.Numbers.{variables_at}
use Rattle.event_log.specs.LogText.{name_at, values_of, header_lines, HasVarLines}

-- the variables of a process stand on this line of the text
pub record NotesLine (h : Header) (process line : ℕ) : Type 0 where
  pub some : 0 < line
  pub spells : slice_get (header_lines h) (line - 1) ≡ Some (vars_line (record {
    process = name_at h.procs process;
    variables = values_of (variables_at h.vars process);
  }))

-- it has none, and no line
pub record NotesNone (h : Header) (process line : ℕ) : Type 0 where
  pub no_line : line ≡ 0
  pub empty : variables_at h.vars process ≡ []

abbrev pub LinesAreNoted : Type 0
LinesAreNoted = (h : Header) (process : ℕ) → process < length h.procs → HasVarLines h
    → NotesNone h process (get_or h.var_lines process 0)
    ⊎ NotesLine h process (get_or h.var_lines process 0)
