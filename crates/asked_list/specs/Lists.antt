-- The disjuncts of several questions in one list.
use Rattle.std.specs.Prelude.{◌≡◌, ℕ, ◌+◌, ◌*◌, ◌-◌, ◌≤◌, List, [], ◌∷◌, ◌++◌, length, take, drop}
use Rattle.std.specs.Prelude.{replicate}
use Rattle.question_meaning.specs.declared.form.Form.{Form}
use Rattle.pota_base.specs.Limits.{most_disjuncts, most_parts}
use Rattle.question_forms.specs.declared.question.Question.{Question}
use Rattle.asked_parts.specs.Asked.{asked_pieces, asked_disjuncts, parts_added}
use Rattle.rctl_class.specs.NamedParts as named
use Rattle.rctl_class.specs.NamedParts.{NamedPiece}
use Rattle.rctl_parts.specs.Pieces.{Piece}
use Rattle.asked_list.specs.declared.list.AskedList.{AskedList}
use Rattle.asked_list.specs.declared.list.AskedRange.{AskedRange}
use Rattle.asked_list.specs.declared.list.Listed.{Listed}

-- how many parts a form asks, inner ones and those that it adds to each disjunct counted
abbrev pub asked_count : Form → List (List NamedPiece) → ℕ
asked_count form ds = named.disjuncts_count ds + parts_added form * length ds

-- the same where each disjunct has its own form
abbrev pub each_count : List Form → List (List NamedPiece) → ℕ
each_count forms [] = 0
each_count [] (d ∷ ds) = named.parts_count d + each_count [] ds
each_count (f ∷ fs) (d ∷ ds) = (named.parts_count d + parts_added f) + each_count fs ds

-- the disjuncts of a list
abbrev pub disjuncts_in : AskedList → List (List NamedPiece)
disjuncts_in list = named.disjuncts_of list.classed.disjuncts

-- the disjuncts of a list may be observed together: 64 at most, of 128 parts at most as they are
-- asked, and each such as a formula that was read can have
pub record IsAskedList (list : AskedList) : Type 0 where
  pub fit : named.AllFit (disjuncts_in list)
  pub few : length list.classed.disjuncts ≤ most_disjuncts
  pub counted : list.parts ≡ each_count list.forms (disjuncts_in list)
  pub parts : list.parts ≤ most_parts
  pub paired : length list.forms ≡ length list.classed.disjuncts

-- there is room for one question more
pub record HasRoom (list : AskedList) (q : Question) : Type 0 where
  pub few : length list.classed.disjuncts + length q.classed.disjuncts ≤ most_disjuncts
  pub parts : list.parts + asked_count q.form (named.disjuncts_of q.classed.disjuncts) ≤ most_parts

-- the question behind so many disjuncts
abbrev pub listed : ℕ → Question → Listed
listed at q = record {
  name = q.name;
  formula = q.formula;
  range = record { form = q.form; from = at; to = at + length q.classed.disjuncts };
}

-- the list with one question more: its disjuncts behind the others, each with its form
pub record Adds (before : AskedList) (q : Question) (after : AskedList) : Type 0 where
  pub listed : after.listed ≡ before.listed ++ listed (length before.classed.disjuncts) q ∷ []
  pub disjuncts : after.classed.disjuncts ≡ before.classed.disjuncts ++ q.classed.disjuncts
  pub forms : after.forms ≡ before.forms ++ replicate (length q.classed.disjuncts) q.form

-- ---- what is asked

-- what is asked of disjuncts, each by its own form; by none it is as it is
abbrev pub asked_each : List Form → List (List Piece) → List (List Piece)
asked_each forms [] = []
asked_each [] (d ∷ ds) = d ∷ asked_each [] ds
asked_each (f ∷ fs) (d ∷ ds) = asked_pieces f d ∷ asked_each fs ds

-- the items from a number on, up to the one before another number
abbrev pub range_of : {A : Type 0} → ℕ → ℕ → List A → List A
range_of from to xs = take (to - from) (drop from xs)

-- these are the disjuncts of a question in the list, and the form of each is its form
pub record HasRange {A : Type 0} (range : AskedRange) (forms : List Form) (ds own : List A)
    : Type 0 where
  pub up : range.from ≤ range.to
  pub within : range.to ≤ length ds
  pub paired : length forms ≡ length ds
  pub of_form : range_of range.from range.to forms ≡ replicate (length own) range.form
  pub items : range_of range.from range.to ds ≡ own

-- among all disjuncts that are asked, the range has what the form asks of these
pub record IsAskedIn (ds : List (List Piece)) (range : AskedRange) (own : List (List Piece))
    : Type 0 where
  pub within : range.to ≤ length ds
  pub asked : range_of range.from range.to ds ≡ asked_disjuncts range.form own
