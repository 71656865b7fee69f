-- Which words behind `--keep` name what a log does not have.
use Rattle.std.specs.Prelude.{ℕ, suc, Bool, false, not, ◌&&◌, List, [], ◌∷◌, Option, None, Some}
use Rattle.std.specs.Prelude.{length, nat_lt, if◌then◌else◌}
use Rattle.run_model.specs.Run.{Name, number_of}
use Rattle.log_lines.specs.Reading.{choose}
use Rattle.event_log.specs.declared.log.Binding.{Binding}
use Rattle.event_log.specs.declared.log.Header.{Header}
use Rattle.event_log.specs.Numbers.{binding_names, variables_at}
use Rattle.kept_names.specs.declared.names.Pair.{Pair}
use Rattle.kept_names.specs.declared.names.Named.{Named}
use Rattle.kept_names.specs.declared.names.Named.TheVariants.{Variable, Channel, Process}
use Rattle.kept_names.specs.Words.{named, is_keep}

-- the variables of a process; one that isn't there has none
abbrev pub variables_of : Header → Name → List Binding
variables_of header name = variables_at header.vars (number_of name header.procs)

-- a name that isn't there has the number behind the last one
abbrev pub has_process : Header → Name → Bool
has_process header name = nat_lt (number_of name header.procs) (length header.procs)

abbrev pub has_variable : Header → Pair → Bool
has_variable header x =
    nat_lt (number_of x.second (binding_names (variables_of header x.first)))
    (length (variables_of header x.first))

-- a channel is there where both of its processes are
abbrev pub has : Header → Named → Bool
has header (Variable x) = has_variable header x
has header (Channel x) = has_process header x.first && has_process header x.second
has header (Process name) = has_process header name

-- the word names something that the log does not have
abbrev pub is_unknown : Header → List ℕ → Bool
is_unknown header word = choose (named word) (λ x. not (has header x)) false

-- from the word at this place on, where the word before is `--keep` or is not
unfoldable pub unknown_from : (waits : Bool) → Header → ℕ → List (List ℕ) → Option ℕ
unknown_from waits header place [] = None
unknown_from waits header place (word ∷ words) =
    if waits && is_unknown header word then Some place
    else unknown_from (not waits && is_keep word) header (suc place) words

-- the place of the first word behind a `--keep` that names something that the log does not have
abbrev pub unknown_word : Header → List (List ℕ) → Option ℕ
unknown_word header words = unknown_from false header 0 words
