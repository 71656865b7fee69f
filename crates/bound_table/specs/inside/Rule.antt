-- The rule of the shared table: what holds of its words and of what the seats know, between any two
-- steps.
use Rattle.std.specs.Prelude.{◌≡◌, ℕ, ◌+◌, ◌*◌, ◌<◌, ◌≤◌, List, [], true, false, length, sum}
use Rattle.std.specs.Prelude.{take, max, slice_index, slice_set, Option, Some, None}
use mathlib.Core.Option.{some}
use lib.ListN.{get_elem?}
use Rattle.atomic_table.specs.Table.{State, Me, Step}
use Rattle.pull_system.specs.Vector.{IsAtMost}
use Rattle.pull_system.specs.Rows.{RowsView, starts, place_of}
use Rattle.pull_system.specs.System.{SystemView, target_of, ask}
use Rattle.raise_machine.specs.declared.step.Step.TheVariants.{Pull, Lend}
use Rattle.raise_machine.specs.Bounds.{AreBounds}
use Rattle.raise_machine.specs.Machine.{is_allowed}
use Rattle.bound_table.specs.declared.seat.SeenBounds.{SeenBounds}
use Rattle.bound_table.specs.declared.seat.Begins.{Begins}
use Rattle.bound_table.specs.declared.seat.Begins.TheVariants.{Shared, Own}
use Rattle.bound_table.specs.Firm.{FirmView, AreOwnRows}
use Rattle.bound_table.specs.inside.Kept.{larger}

-- the words that are bounds: one per row and process
abbrev pub word_count : List ℕ → ℕ
word_count lens = (sum lens + 1) * length lens

-- what a seat knows is true of the table: its system is the table's, and each floor is between the
-- row's start and the word
pub record Fits (system : SystemView) (words : List ℕ) (v : SeenBounds) : Type 0 where
  pub one_system : v.system ≡ system
  pub size : length v.floor ≡ length words
  pub above : IsAtMost (starts system.lens) v.floor
  pub below : IsAtMost v.floor words

-- each word is between its row's start and the least closed vector, and each view that isn't spent
-- fits
pub record HasBounds (system : SystemView) (words : List ℕ) (views : List SeenBounds) : Type 0 where
  pub bounds : AreBounds system words
  pub fits : (j : ℕ) (v : SeenBounds) → get_elem? views j ≡ some v → v.live ≡ true
      → Fits system words v

-- the words that a table begins with
abbrev pub begun_words : Begins → List ℕ
begun_words (Shared floor) = floor.value.words
begun_words (Own rows) = rows.value.words

-- the words of a table: those that callers share, or its own rows
abbrev pub words_of : Begins → List ℕ → List ℕ → List ℕ
words_of (Shared floor) lens words = take (word_count lens) words
words_of (Own rows) lens words = rows.value.words

-- the rows that a table keeps are those that it began with, where it shares no words
abbrev pub KeepsOwn : SystemView → Begins → Option RowsView → Type 0
KeepsOwn system (Shared floor) None = Unit {0}
KeepsOwn system (Shared floor) (Some rows) = ⊥
KeepsOwn system (Own own) None = ⊥
KeepsOwn system (Own own) (Some rows) =
    (rows ≡ own.value) × AreOwnRows system rows.words × (length rows.words ≡ word_count system.lens)

-- how many words there are that callers share: one at least
abbrev pub HasWords : Begins → List ℕ → ℕ → Type 0
HasWords (Shared floor) lens count = count ≡ word_count lens
HasWords (Own rows) lens count = 0 < count

abbrev pub BoundsHold : Begins → SystemView → State (Unit {0}) SeenBounds → Type 0
BoundsHold begins system s = HasBounds system (words_of begins system.lens s.words) s.views

-- a view that is not spent, whose floors are between the starts and the least closed vectors, and
-- no lower than the words that the table began with
pub record IsSound (v : SeenBounds) : Type 0 where
  pub live : v.live ≡ true
  pub floor : AreBounds v.system v.floor
  pub begun : IsAtMost v.begun v.floor

abbrev pub with_floor : SeenBounds → List ℕ → SeenBounds
with_floor v floor = record v { floor = floor }

-- the view of the first seat
abbrev pub opened : SystemView → FirmView → List ℕ → SeenBounds
opened system firm floor =
    record { live = true; system = system; begun = floor; firm = firm; floor = floor }

-- what is left of a seat that was met
abbrev pub nobody : SeenBounds
nobody = record {
  live = false;
  system = record { lens = []; pulls = [] };
  begun = [];
  firm = record { firsts = []; bottom = false };
  floor = [];
}

-- the first view with the larger of both floors
abbrev pub together : SeenBounds → SeenBounds → SeenBounds
together v w = with_floor v (larger v.floor w.floor)

-- a word was read, and its floor is that
pub record Looked (st : Step (Unit {0})) (me : Me (Unit {0}) SeenBounds) (found : ℕ)
    (now : Me (Unit {0}) SeenBounds) : Type 0 where
  pub view : now.0 ≡ with_floor me.0 (slice_set me.0.floor st.word found)
  pub slots : now.1 ≡ me.1
  pub rises : slice_index me.0.floor st.word ≤ found
  pub sound : IsSound now.0

-- to raise the word to the number is a step of the raise machine: a pull or a lend that the floors
-- show to be allowed
pub data IsMachineStep (system : SystemView) (floor : List ℕ) (word number : ℕ) : Type 0 where
  pulled : (row k x : ℕ) → is_allowed system floor (Pull row k x) ≡ true
      → place_of system.lens row (target_of system k) ≡ word → ask system k x ≡ number
      → IsMachineStep system floor word number
  lent : (to_row from_row process y : ℕ)
      → is_allowed system floor (Lend to_row from_row process y) ≡ true
      → place_of system.lens to_row process ≡ word → y ≡ number
      → IsMachineStep system floor word number

-- a word became its maximum with the number, by a step of the raise machine, and its floor is that
pub record Lifted (st : Step (Unit {0})) (me : Me (Unit {0}) SeenBounds) (found : ℕ)
    (now : Me (Unit {0}) SeenBounds) : Type 0 where
  pub machine : IsMachineStep me.0.system me.0.floor st.word st.first
  pub view : now.0 ≡ with_floor me.0 (slice_set me.0.floor st.word (max found st.first))
  pub slots : now.1 ≡ me.1
  pub rises : slice_index me.0.floor st.word ≤ max found st.first
  pub sound : IsSound now.0
