use Rattle.std.proofs.Common.{[], sym}
use Rattle.event_log.specs.LogText.{onto}
use Rattle.log_input.specs.declared.form.Form.TheVariants.{OneLog}
use Rattle.log_input.specs.declared.places.Places.TheVariants.{Lines}
use Rattle.one_log.specs.inside.Torn.{IsTornJudged, IsTornAt}
use Rattle.log_input.proofs.Texts.{items_are, items_fit_first}
use Rattle.one_log.proofs.Beginnings.{text_ends, text_torn, torn_so}
use Rattle.one_log.proofs.torn.judge_log.Goals as goal

pub judge_items-requires-clause-fit : goal.judge_items-requires-clause-fit
judge_items-requires-clause-fit c = items_fit_first c.args.text.now c.in_ok-fed.fed (c.in_ok-fed.ensures.read [] c.new-reader.ensures).0

pub judge_items-requires-clause-whole : goal.judge_items-requires-clause-whole
judge_items-requires-clause-whole c =
    let read = c.in_ok-fed.ensures.read [] c.new-reader.ensures in
    text_ends c.args.text.now c.in_ok-fed.fed.items (sym (items_are c.args.text.now c.in_ok-fed.fed read.0)) c.text_refusal-fault.result c.finish.result c.text_refusal-fault.ensures (c.finish.ensures.fault (onto c.args.text.now []) read.1)

pub returns : goal.returns
returns c =
    let read = c.in_ok-fed.ensures.read [] c.new-reader.ensures in
    torn_so c.judge_items.result (IsTornJudged c.in_ok-fed.fed.items c.text_refusal-fault.result Lines) (IsTornAt OneLog c.args.text.now)
    (text_torn c.args.text.now c.in_ok-fed.fed.items (sym (items_are c.args.text.now c.in_ok-fed.fed read.0)) c.text_refusal-fault.result c.finish.result c.text_refusal-fault.ensures (c.finish.ensures.fault (onto c.args.text.now []) read.1))
    c.judge_items.ensures
