use Rattle.std.specs.Prelude.{map, string_bytes}
use Rattle.std.proofs.Common.{ap, sym, refl, subst, arith, length}
use Rattle.std.proofs.lemmas.List.{length-map}
use Rattle.asked_list.specs.Lists.{disjuncts_in}
use Rattle.rctl_class.specs.NamedParts.{disjuncts_of, pieces_of}
use Rattle.ask_text.specs.Documents.{document}
use Rattle.ask_text.specs.Text.{IsOnRun}
use Rattle.question_document.specs.Views.{all_hold, view_at, views_of}
use Rattle.question_document.proofs.Rows.{begins, entry_at, entry_in, none_at, one_more, outcome_at, outcome_in, over_at, over_more, put_at, show_at, tally_in, text_at}
use Rattle.question_document.proofs.documents.document_of.Goals as goal
use Rattle.question_document.proofs.documents.document_of.Goals.{in-Some+in_ok-put_tallied-in-Some, in-None+in_ok-put_entry-in-None}

pub loop-i-init : goal.loop-i-init
loop-i-init c = record {
  few = omega arith;
  can = c.requires;
  rows =
      begins c.args.run.now.states.now (disjuncts_in c.args.came.now.list.now) (map string_bytes c.args.texts.now) c.args.came.now.tallies.now c.args.came.now.list.now.listed c.args.came.now.outcomes.now c.args.run.now.steps (length c.args.texts.now) c.new-out.result c.put_head.new.out c.requires
      (sym (length-map c.args.texts.now string_bytes)) c.new-out.ensures c.in_ok-put_head.ensures;
  holds = refl;
}

pub get-tally-requires : goal.get-tally-requires
get-tally-requires c =
    tally_in string_bytes c.args.texts.now c.args.run.now.states.now (disjuncts_in c.args.came.now.list.now) c.args.came.now.tallies.now c.args.came.now.list.now.listed c.args.came.now.outcomes.now c.loop-i.i c.loop-i.one c.index-texts-i.result c.as_bytes-text.result.now c.loop-i-test.true
    c.index-texts-i.is c.as_bytes-text.ensures.value c.loop-i.invariant.can

pub put_tallied-requires : goal.put_tallied-requires
put_tallied-requires c =
    show_at string_bytes c.args.texts.now c.args.run.now.states.now (disjuncts_in c.args.came.now.list.now) c.args.came.now.tallies.now c.args.came.now.list.now.listed c.args.came.now.outcomes.now c.loop-i.i c.loop-i.one c.index-texts-i.result c.as_bytes-text.result.now c.loop-i-test.true
    c.index-texts-i.is c.as_bytes-text.ensures.value c.loop-i.invariant.can c.get-tally.result.now c.get-tally.ensures.indexed c.in-Some.tallied c.in-Some.is

pub get-entry-requires : goal.get-entry-requires
get-entry-requires c =
    entry_in string_bytes c.args.texts.now c.args.run.now.states.now (disjuncts_in c.args.came.now.list.now) c.args.came.now.tallies.now c.args.came.now.list.now.listed c.args.came.now.outcomes.now c.loop-i.i c.loop-i.one c.index-texts-i.result c.as_bytes-text.result.now c.loop-i-test.true
    c.index-texts-i.is c.as_bytes-text.ensures.value c.loop-i.invariant.can c.get-tally.result.now c.get-tally.ensures.indexed c.in-None.is

pub get-outcome-requires : goal.get-outcome-requires
get-outcome-requires c =
    outcome_in string_bytes c.args.texts.now c.args.run.now.states.now (disjuncts_in c.args.came.now.list.now) c.args.came.now.tallies.now c.args.came.now.list.now.listed c.args.came.now.outcomes.now c.loop-i.i c.loop-i.one c.index-texts-i.result c.as_bytes-text.result.now c.loop-i-test.true
    c.index-texts-i.is c.as_bytes-text.ensures.value c.loop-i.invariant.can c.get-tally.result.now c.get-tally.ensures.indexed c.in-None.is
    c.get-entry.result.now c.get-entry.ensures.indexed

pub put_entry-requires-clause-there : goal.put_entry-requires-clause-there
put_entry-requires-clause-there c =
    let can =
    put_at string_bytes c.args.texts.now c.args.run.now.states.now (disjuncts_in c.args.came.now.list.now) c.args.came.now.tallies.now c.args.came.now.list.now.listed c.args.came.now.outcomes.now c.loop-i.i c.loop-i.one c.index-texts-i.result c.as_bytes-text.result.now c.loop-i-test.true
    c.index-texts-i.is c.as_bytes-text.ensures.value c.loop-i.invariant.can c.get-tally.result.now c.get-tally.ensures.indexed c.in-None.is
    c.get-entry.result.now c.get-entry.ensures.indexed c.get-outcome.result.now c.get-outcome.ensures.indexed in
    let within = can.there.within in
    record { up = can.there.up; within = omega (arith, within, length-map c.args.came.now.list.now.classed.disjuncts pieces_of, ap length c.as_slice-disjuncts.ensures) }

pub put_entry-requires-clause-on_run : goal.put_entry-requires-clause-on_run
put_entry-requires-clause-on_run c =
    let can =
    put_at string_bytes c.args.texts.now c.args.run.now.states.now (disjuncts_in c.args.came.now.list.now) c.args.came.now.tallies.now c.args.came.now.list.now.listed c.args.came.now.outcomes.now c.loop-i.i c.loop-i.one c.index-texts-i.result c.as_bytes-text.result.now c.loop-i-test.true
    c.index-texts-i.is c.as_bytes-text.ensures.value c.loop-i.invariant.can c.get-tally.result.now c.get-tally.ensures.indexed c.in-None.is
    c.get-entry.result.now c.get-entry.ensures.indexed c.get-outcome.result.now c.get-outcome.ensures.indexed in
    subst (λ ds. IsOnRun c.args.run.now.states.now (view_at (disjuncts_of ds) c.as_bytes-text.result.now c.get-entry.result.now c.get-outcome.result.now)) (sym c.as_slice-disjuncts.ensures) can.on_run

pub loop-i-preserved : goal.loop-i-preserved
loop-i-preserved c = elim c.match-tally.branch [
  | in-Some+in_ok-put_tallied-in-Some w ↦ (
      let few = c.loop-i.invariant.few in
      let same = w.one-is in
      let so = over_more c.args.run.now.states.now (disjuncts_in c.args.came.now.list.now) (map string_bytes c.args.texts.now) c.args.came.now.tallies.now c.args.came.now.list.now.listed c.args.came.now.outcomes.now c.args.run.now.steps (document c.args.run.now.states.now c.args.run.now.steps (views_of c.args.run.now.states.now.header (map string_bytes c.args.texts.now) c.args.came.now)) (all_hold (views_of c.args.run.now.states.now.header (map string_bytes c.args.texts.now) c.args.came.now)) c.loop-i.i c.loop-i.one c.loop-i.out c.loop-i.holds (record { can = c.loop-i.invariant.can; rows = c.loop-i.invariant.rows; holds_so = c.loop-i.invariant.holds })
      c.as_bytes-text.result.now
      (text_at string_bytes c.args.texts.now c.args.run.now.states.now (disjuncts_in c.args.came.now.list.now) c.args.came.now.tallies.now c.args.came.now.list.now.listed c.args.came.now.outcomes.now c.loop-i.i c.loop-i.one c.index-texts-i.result c.as_bytes-text.result.now c.loop-i-test.true
      c.index-texts-i.is c.as_bytes-text.ensures.value c.loop-i.invariant.can)
      w.put_tallied.new.out w.both-holds.result w.in-Some.tallied
      (over_at string_bytes c.args.texts.now c.args.run.now.states.now (disjuncts_in c.args.came.now.list.now) c.args.came.now.tallies.now c.args.came.now.list.now.listed c.args.came.now.outcomes.now c.loop-i.i c.loop-i.one c.index-texts-i.result c.as_bytes-text.result.now c.loop-i-test.true
      c.index-texts-i.is c.as_bytes-text.ensures.value c.loop-i.invariant.can c.get-tally.result.now c.get-tally.ensures.indexed w.in-Some.tallied w.in-Some.is)
      w.in_ok-put_tallied-in-Some.ensures w.both-holds.ensures c.match-tally.one c.match-tally.out c.match-tally.holds w.one-is w.out-is w.holds-is in
      record { few = omega (arith, few, same); can = so.can; rows = so.rows; holds = so.holds_so })
  | in-None+in_ok-put_entry-in-None w ↦ (
      let few = c.loop-i.invariant.few in
      let more = w.one-is in
      let so = one_more c.args.run.now.states.now (disjuncts_in c.args.came.now.list.now) (map string_bytes c.args.texts.now) c.args.came.now.tallies.now c.args.came.now.list.now.listed c.args.came.now.outcomes.now c.args.run.now.steps (document c.args.run.now.states.now c.args.run.now.steps (views_of c.args.run.now.states.now.header (map string_bytes c.args.texts.now) c.args.came.now)) (all_hold (views_of c.args.run.now.states.now.header (map string_bytes c.args.texts.now) c.args.came.now)) c.loop-i.i c.loop-i.one c.loop-i.out c.loop-i.holds (record { can = c.loop-i.invariant.can; rows = c.loop-i.invariant.rows; holds_so = c.loop-i.invariant.holds })
      c.as_bytes-text.result.now
      (text_at string_bytes c.args.texts.now c.args.run.now.states.now (disjuncts_in c.args.came.now.list.now) c.args.came.now.tallies.now c.args.came.now.list.now.listed c.args.came.now.outcomes.now c.loop-i.i c.loop-i.one c.index-texts-i.result c.as_bytes-text.result.now c.loop-i-test.true
      c.index-texts-i.is c.as_bytes-text.ensures.value c.loop-i.invariant.can)
      w.put_entry.new.out w.both-holds-in-None.result
      (none_at string_bytes c.args.texts.now c.args.run.now.states.now (disjuncts_in c.args.came.now.list.now) c.args.came.now.tallies.now c.args.came.now.list.now.listed c.args.came.now.outcomes.now c.loop-i.i c.loop-i.one c.index-texts-i.result c.as_bytes-text.result.now c.loop-i-test.true
      c.index-texts-i.is c.as_bytes-text.ensures.value c.loop-i.invariant.can c.get-tally.result.now c.get-tally.ensures.indexed w.in-None.is)
      w.get-entry.result.now
      (entry_at string_bytes c.args.texts.now c.args.run.now.states.now (disjuncts_in c.args.came.now.list.now) c.args.came.now.tallies.now c.args.came.now.list.now.listed c.args.came.now.outcomes.now c.loop-i.i c.loop-i.one c.index-texts-i.result c.as_bytes-text.result.now c.loop-i-test.true
      c.index-texts-i.is c.as_bytes-text.ensures.value c.loop-i.invariant.can c.get-tally.result.now c.get-tally.ensures.indexed w.in-None.is w.get-entry.result.now w.get-entry.ensures.indexed)
      w.get-outcome.result.now
      (outcome_at string_bytes c.args.texts.now c.args.run.now.states.now (disjuncts_in c.args.came.now.list.now) c.args.came.now.tallies.now c.args.came.now.list.now.listed c.args.came.now.outcomes.now c.loop-i.i c.loop-i.one c.index-texts-i.result c.as_bytes-text.result.now c.loop-i-test.true
      c.index-texts-i.is c.as_bytes-text.ensures.value c.loop-i.invariant.can c.get-tally.result.now c.get-tally.ensures.indexed w.in-None.is w.get-entry.result.now w.get-entry.ensures.indexed w.get-outcome.result.now w.get-outcome.ensures.indexed)
      (rw c.as_slice-disjuncts.ensures at w.in_ok-put_entry-in-None.ensures) w.both-holds-in-None.ensures c.match-tally.one c.match-tally.out c.match-tally.holds w.one-is w.out-is w.holds-is in
      record { few = omega (arith, few, more); can = so.can; rows = so.rows; holds = so.holds_so })
]
