use Rattle.view_picture.proofs.Once.{shown_events_once}
use Rattle.view_picture.proofs.Shown.{chosen_are_shown, last_is_shown}
use Rattle.view_picture.proofs.laws.shown_events_once.Goals as goal

pub returns-clause-once : goal.returns-clause-once
returns-clause-once c = shown_events_once

pub returns-clause-chosen : goal.returns-clause-chosen
returns-clause-chosen c = chosen_are_shown

pub returns-clause-left_out : goal.returns-clause-left_out
returns-clause-left_out c = last_is_shown
