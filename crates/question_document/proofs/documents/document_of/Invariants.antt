use Rattle.std.specs.Prelude.{map, string_bytes, ◌&&◌}
use Rattle.std.proofs.Common.{◌≡◌, ◌≤◌, ◌+◌, ◌++◌, drop}
use Rattle.asked_list.specs.Lists.{disjuncts_in}
use Rattle.ask_text.specs.Documents.{all_rows, document}
use Rattle.question_document.specs.Views.{CanTellFrom, all_hold, views_from, views_of}
use Rattle.question_document.proofs.documents.document_of.Given as goal

abbrev pub invariant-loop-i : goal.invariant-loop-i
invariant-loop-i l = record {
  few : l.one ≤ l.i;
  can : CanTellFrom l.fn.run.states.now (disjuncts_in l.fn.came.list.now) (drop l.i (map string_bytes l.fn.texts)) (drop l.i l.fn.came.tallies.now) (drop l.one l.fn.came.list.now.listed) (drop l.one l.fn.came.outcomes.now);
  rows : l.out ++ all_rows l.fn.run.states.now l.fn.run.steps (l.i + 1)
      (views_from (disjuncts_in l.fn.came.list.now) l.fn.run.states.now.header (drop l.i (map string_bytes l.fn.texts)) (drop l.i l.fn.came.tallies.now) (drop l.one l.fn.came.list.now.listed) (drop l.one l.fn.came.outcomes.now))
      ≡ document l.fn.run.states.now l.fn.run.steps (views_of l.fn.run.states.now.header (map string_bytes l.fn.texts) l.fn.came);
  holds : (l.holds && all_hold (views_from (disjuncts_in l.fn.came.list.now) l.fn.run.states.now.header (drop l.i (map string_bytes l.fn.texts)) (drop l.i l.fn.came.tallies.now) (drop l.one l.fn.came.list.now.listed) (drop l.one l.fn.came.outcomes.now)))
      ≡ all_hold (views_of l.fn.run.states.now.header (map string_bytes l.fn.texts) l.fn.came);
}
