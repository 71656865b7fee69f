use Rattle.std.proofs.Common.{◌≡◌, ◌++◌, List, sym, ap, subst, ◌∙◌}
use Rattle.std.specs.Prelude.{OnOk}
use Rattle.question_document.proofs.Rows.{range_map}
use Rattle.rctl_class.specs.NamedParts.{NamedPiece, disjuncts_of, pieces_of}
use Rattle.ask_text.specs.Text.{IsOnRun, question_rows}
use Rattle.question_document.proofs.entries.put_entry.Goals as goal

pub put_question-requires : goal.put_question-requires
put_question-requires c =
    let e = c.args.entry in
    let same = ap disjuncts_of c.in_range.ensures ∙ sym (range_map pieces_of e.range.from e.range.to c.args.disjuncts.now) in
    subst (λ (ds : List (List NamedPiece)). IsOnRun c.args.run.now.states.now (record { text = c.args.text.now; formula = e.formula; form = e.range.form; disjuncts = ds; outcome = c.args.outcome.now })) (sym same) c.requires.on_run

pub returns : goal.returns
returns c =
    let e = c.args.entry in
    let same = ap disjuncts_of c.in_range.ensures ∙ sym (range_map pieces_of e.range.from e.range.to c.args.disjuncts.now) in
    subst (λ (ds : List (List NamedPiece)). OnOk c.put_question.result (c.put_question.new.out ≡ c.args.out.now ++ question_rows c.args.run.now.states.now c.args.run.now.steps c.args.number (record { text = c.args.text.now; formula = e.formula; form = e.range.form; disjuncts = ds; outcome = c.args.outcome.now })))
    same c.put_question.ensures
