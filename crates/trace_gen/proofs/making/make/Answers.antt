use Rattle.std.proofs.Common.{◌∙◌, sym}
use Rattle.std.proofs.lemmas.Bool.{and_from, and_left, and_right, eq-eqb, ne_eqb, le-leb, lt-leb}
use Rattle.std.proofs.lemmas.Result.{IfOk-weaker}
use Rattle.trace_gen.proofs.Turns.{made_low, made_send, made_else}
use Rattle.trace_gen.proofs.making.make.Goals as goal
use Rattle.trace_gen.proofs.making.make.Goals.{else-word-eq3-via-then-word-eq3+else-procs-ge2, else-word-eq3-via-else-word-eq3}

pub returns-then-word-le1 : goal.returns-then-word-le1
returns-then-word-le1 c = IfOk-weaker c.make_receipt.result _ _
    (λ e h. h ∙ sym (made_low c.args.number c.args.word c.args.processes.now c.if-word-le1.true)) c.make_receipt.ensures

pub returns-then-procs-ge2 : goal.returns-then-procs-ge2
returns-then-procs-ge2 c = IfOk-weaker c.make_send.result _ _
    (λ e h. h ∙ sym (made_send c.args.number c.args.word c.args.processes.now c.if-word-le1.false
    (and_from _ _ (eq-eqb _ 3 c.if-word-eq3.true) (le-leb 2 _ c.if-procs-ge2.true)))) c.make_send.ensures

pub returns : goal.returns
returns c = IfOk-weaker c.make_internal.result _ _
    (λ e h. h ∙ sym (made_else c.args.number c.args.word c.args.processes.now c.if-word-le1.false (elim c.else-word-eq3.branch [
      | else-word-eq3-via-then-word-eq3+else-procs-ge2 w ↦ and_right _ _ (lt-leb 2 _ w.if-procs-ge2.false)
      | else-word-eq3-via-else-word-eq3 w ↦ and_left _ _ (ne_eqb _ 3 w.if-word-eq3.false)
    ]))) c.make_internal.ensures
