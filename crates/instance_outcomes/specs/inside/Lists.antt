-- A list of one question.
use Rattle.std.specs.Prelude.{◌≡◌, ◌≤◌, ◌&&◌, not, List, [], length, replicate, None, Option, Some}
use Rattle.std.specs.Prelude.{if◌then◌else◌}
use Rattle.event_log.specs.declared.log.Header.{Header}
use Rattle.question_meaning.specs.declared.form.Form.{Form}
use Rattle.question_forms.specs.declared.question.Question.{Question}
use Rattle.over_questions.specs.Barred.{barred_disjuncts}
use Rattle.pota_base.specs.declared.fault.Refused.{Refused}
use Rattle.pota_base.specs.declared.fault.Refused.TheVariants as refused
use Rattle.rctl_class.specs.Classed.{disjunct_formulas}
use Rattle.rctl_class.specs.NamedParts.{NamedPiece, disjuncts_uses}
use Rattle.rctl_class.specs.Uses.{first_unknown}
use Rattle.rctl_names.specs.Numbers.{known_in}
use Rattle.rctl_names.specs.Resolving.{numbered_in, scope_of}
use Rattle.rctl_names.specs.Seen.{names_of}
use Rattle.rctl_parts.specs.MadeFor.{AreMadeFor}
use Rattle.rctl_parts.specs.Pieces as piece
use Rattle.rctl_parts.specs.Spelled.{part_formulas}
use Rattle.rctl_parts.specs.declared.part.Part.{Part}
use Rattle.asked_list.specs.Lists.{IsAskedList, asked_each, disjuncts_in}
use Rattle.asked_list.specs.declared.list.AskedList.{AskedList}
use Rattle.asked_instances.specs.declared.asking.Pair.{Pair}
use Rattle.instance_outcomes.specs.Answers.{CanAsk}
use Rattle.instance_outcomes.specs.Tallies.{fails}
use Rattle.instance_outcomes.specs.declared.asking.AskFault.{AskFault}
use Rattle.instance_outcomes.specs.declared.asking.InstanceFault.{InstanceFault}
use Rattle.instance_outcomes.specs.declared.tallied.Answered.{Answered}

-- the list has this question alone, which can be asked
pub record IsListOf (q : Question) (list : AskedList) : Type 0 where
  pub can : CanAsk q
  pub list_is : IsAskedList list
  pub disjuncts : list.classed.disjuncts ≡ q.classed.disjuncts
  pub forms : list.forms ≡ replicate (length q.classed.disjuncts) q.form

-- the disjuncts of the list are those of a question of this form that can be asked, of which the
-- header has each name
pub record IsAskable (header : Header) (form : Form) (list : AskedList) : Type 0 where
  pub list_is : IsAskedList list
  pub some : 1 ≤ length list.classed.disjuncts
  pub forms : list.forms ≡ replicate (length list.classed.disjuncts) form
  pub free : barred_disjuncts (disjuncts_in list) ≡ None
  pub known : first_unknown (known_in (names_of header [])) [] (disjuncts_uses (disjuncts_in list))
      ≡ None

-- the numbers of the header's names spell these disjuncts
abbrev pub IsSpelled : Header → List (List NamedPiece) → Type 0
IsSpelled header ds =
    part_formulas (names_of header []) (numbered_in header [] ds) ≡ disjunct_formulas ds

-- these are what the list asks, by the numbers of the header's names
pub record IsAskedOf (header : Header) (list : AskedList) (asked : List (List Part)) : Type 0 where
  pub made : AreMadeFor (scope_of header []) (piece.disjuncts_of asked)
  pub asked_is : piece.disjuncts_of asked
      ≡ asked_each list.forms (numbered_in header [] (disjuncts_in list))
  pub spelled : IsSpelled header (disjuncts_in list)

-- a question is refused so; nothing is said where memory runs out
abbrev pub RefusesAsking : Refused AskFault → (AskFault → Type 0) → Type 0
RefusesAsking (refused.Fault f) Is = Is f
RefusesAsking refused.NoMemory Is = Unit {0}

-- the reason, with the processes that are put in
abbrev pub stop_at : Pair → Refused AskFault → Refused InstanceFault
stop_at pair (refused.Fault why) = refused.Fault (record { pair = pair; why = why })
stop_at pair refused.NoMemory = refused.NoMemory

-- which is shown, behind one that is shown of those before
abbrev pub shown_of : Option Answered → Answered → Option Answered
shown_of None next = Some next
shown_of (Some before) next = if not (fails before) && fails next then Some next else Some before
