-- Rows of one system that are begun in their order, and raised one step at a time.
use Rattle.std.specs.Prelude.{◌≡◌, ℕ, zero, suc, ◌+◌, ◌-◌, ◌<◌, ◌≤◌, ◌⊎◌, List, length, sum}
use Rattle.std.specs.Prelude.{slice_index, Option, None, Some}
use Rattle.pull_system.specs.System.{SystemView, IsSystem, IsClosed, source_of, target_of}
use Rattle.pull_system.specs.System.{ask}
use Rattle.pull_system.specs.Rows.{start_of, starts, place_of, row_at}
use Rattle.raise_machine.specs.Bounds.{AreBounds, word_at, raised}

-- the system, the words of its rows, and how many rows were begun
pub record BegunView : Type 0 where
  pub system : SystemView
  pub words : List ℕ
  pub begun : ℕ

-- no row was begun, and each stands at its start
abbrev pub fresh_rows : SystemView → BegunView
fresh_rows system = record { system = system; words = starts system.lens; begun = 0 }

-- the row that was begun last, which is raised
abbrev pub present : BegunView → ℕ
present v = v.begun - 1

abbrev pub present_row : BegunView → List ℕ
present_row v = row_at v.system.lens v.words (present v)

-- it is closed, if there is one
abbrev pub LastIsClosed : BegunView → Type 0
LastIsClosed v = 0 < v.begun → IsClosed v.system (present_row v)

-- ---- a row is begun

-- two rows of events of one process: the starts of both have an event there
pub record AreOfOneProcess (lens : List ℕ) (row other : ℕ) : Type 0 where
  pub process : ℕ
  pub first : 0 < slice_index (start_of lens row) process
  pub second : 0 < slice_index (start_of lens other) process

-- a row may begin at its start, or behind an earlier row that has to lie within it: that of the
-- bottom, or one of its own process
abbrev pub MayFollow : List ℕ → ℕ → Option ℕ → Type 0
MayFollow lens row None = Unit {0}
MayFollow lens row (Some other) = (other < row) × ((other ≡ 0) ⊎ AreOfOneProcess lens row other)

-- the row may begin: it is the next one, and the one before is closed
pub record MayBegin (v : BegunView) (row : ℕ) (after : Option ℕ) : Type 0 where
  pub next : row ≡ v.begun
  pub there : row ≤ sum v.system.lens
  pub follows : MayFollow v.system.lens row after
  pub settled : LastIsClosed v

-- the words, those of the row at the first processes raised to those of the other row
abbrev pub lent : List ℕ → List ℕ → ℕ → ℕ → ℕ → List ℕ
lent lens words row other zero = words
lent lens words row other (suc n) =
    raised (lent lens words row other n) (place_of lens row n) (word_at lens words other n)

abbrev pub lent_from : List ℕ → List ℕ → ℕ → Option ℕ → List ℕ
lent_from lens words row None = words
lent_from lens words row (Some other) = lent lens words row other (length lens)

-- one row more is begun, at the maximum of its start and the row that it follows
abbrev pub with_row : BegunView → ℕ → Option ℕ → BegunView
with_row v row after = record {
  system = v.system;
  words = lent_from v.system.lens v.words row after;
  begun = v.begun + 1;
}

-- ---- the present row is raised

-- pull k may raise the present row: at a value that its source has reached there it asks for more
-- than its target has
pub record MayRaise (v : BegunView) (k x : ℕ) : Type 0 where
  pub begun : 0 < v.begun
  pub pull : k < length v.system.pulls
  pub reached : x ≤ word_at v.system.lens v.words (present v) (source_of v.system k)
  pub more : word_at v.system.lens v.words (present v) (target_of v.system k) < ask v.system k x

abbrev pub with_raise : BegunView → ℕ → ℕ → BegunView
with_raise v k x = record {
  system = v.system;
  words = raised v.words (place_of v.system.lens (present v) (target_of v.system k))
      (ask v.system k x);
  begun = v.begun;
}

-- ---- what stands at each moment

-- each word lies between its row's start and its row's least closed vector, and the rows before the
-- present one are closed
pub record AreCertified (v : BegunView) : Type 0 where
  pub system : IsSystem v.system
  pub few : v.begun ≤ sum v.system.lens + 1
  pub bounds : AreBounds v.system v.words
  pub closed : (row : ℕ) → row + 1 < v.begun
      → IsClosed v.system (row_at v.system.lens v.words row)

-- all rows were begun, and the last is closed
pub record IsWhole (v : BegunView) : Type 0 where
  pub all : v.begun ≡ sum v.system.lens + 1
  pub settled : LastIsClosed v
