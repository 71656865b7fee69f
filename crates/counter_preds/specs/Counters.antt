-- Counters: variables whose values never fall along their process, and the pulls that bounds on
-- the difference of two of them ask for.
use Rattle.std.specs.Prelude.{ℕ, ◌+◌, ◌-◌, ◌≤◌, ◌<◌, min, List, [], length, map}
use Rattle.std.specs.Prelude.{get_or, ℤ, pos, ◌+ℤ◌, ◌≤ℤ◌, int_le}
use Rattle.std.specs.List.{range_with_len}
use Rattle.run_model.specs.Run.{process_at, value_of}
use Rattle.event_log.specs.States.{StatesView, trace_of}
use Rattle.pull_system.specs.declared.pull.Pull.{Pull}
use Rattle.pull_system.specs.Pulls.{first_below}
use Rattle.channel_preds.specs.Channels.{events_at}
use Rattle.counter_preds.specs.declared.values.Variable.{Variable}

-- ---- the values of a variable

-- after the first a events of its process
abbrev pub value_in : StatesView → Variable → ℕ → ℤ
value_in states v a = value_of (process_at (trace_of states) v.process) a v.number

-- after each number of events of its process, none included
abbrev pub values_of : StatesView → Variable → List ℤ
values_of states v =
    map (value_in states v) (range_with_len 0 (length (events_at states v.process) + 1))

-- the process is there, and so is the variable
pub record IsVariable (states : StatesView) (v : Variable) : Type 0 where
  pub process : v.process < length states.events
  pub variable : v.number < length (get_or states.header.vars v.process [])

abbrev pub value_at : List ℤ → ℕ → ℤ
value_at values a = get_or values a (pos 0)

-- one value at least, and none below one before it
pub record AreRising (values : List ℤ) : Type 0 where
  pub some : 1 ≤ length values
  pub rises : (a b : ℕ) → a ≤ b → b < length values → value_at values a ≤ℤ value_at values b

-- the variable never falls
abbrev pub IsCounter : StatesView → Variable → Type 0
IsCounter states v = AreRising (values_of states v)

-- both are variables of the states, and neither ever falls
pub record AreCounters (states : StatesView) (v w : Variable) : Type 0 where
  pub left : IsVariable states v
  pub right : IsVariable states w
  pub left_rises : IsCounter states v
  pub right_rises : IsCounter states w

-- ---- the pulls

-- the first position whose value, with `extra`, has reached the bound, or the number of values
-- where there is none
abbrev pub first_reaching : List ℤ → ℤ → ℤ → ℕ
first_reaching follows extra bound =
    first_below (λ y. int_le bound (value_at follows y +ℤ extra)) (length follows)

-- a value of the leading variable; past its last one, that one again
abbrev pub lead_at : List ℤ → ℕ → ℤ
lead_at leads a = value_at leads (min a (length leads - 1))

-- for each position of the leading process the first one of the following process whose value, with
-- `extra`, has reached the leading value, with `more`; the entry past the last position is the last
-- position's again
abbrev pub first_positions : List ℤ → ℤ → List ℤ → ℤ → List ℕ
first_positions leads more follows extra =
    map (λ a. first_reaching follows extra (lead_at leads a +ℤ more))
    (range_with_len 0 (length leads + 1))

-- the left value less the right one is at most k: the right value, with k, has reached the left one
abbrev pub at_most_pull : StatesView → Variable → Variable → ℤ → Pull
at_most_pull states left right k = record {
  src = left.process;
  dst = right.process;
  table = first_positions (values_of states left) (pos 0) (values_of states right) k;
}

-- it is at least k: the left value has reached the right one, with k
abbrev pub at_least_pull : StatesView → Variable → Variable → ℤ → Pull
at_least_pull states left right k = record {
  src = right.process;
  dst = left.process;
  table = first_positions (values_of states right) k (values_of states left) (pos 0);
}

-- the vector has no more events of the process of either variable than there are
pub record AreThere (states : StatesView) (left right : Variable) (v : List ℕ) : Type 0 where
  pub at_left : get_or v left.process 0 ≤ length (events_at states left.process)
  pub at_right : get_or v right.process 0 ≤ length (events_at states right.process)

-- the value of a variable within a vector
abbrev pub value_within : StatesView → Variable → List ℕ → ℤ
value_within states x v = value_in states x (get_or v x.process 0)
