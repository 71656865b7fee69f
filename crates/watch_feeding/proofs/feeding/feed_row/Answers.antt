use Rattle.std.proofs.Common.{◌≡◌, sym, ◌∙◌, ap, subst, set, get_or}
use Rattle.std.specs.Prelude.{List, Bool, []}
use Rattle.std.proofs.lemmas.List.{set-set, get_or-set_same}
use Rattle.std.proofs.lemmas.Option.{get_or_from_slice_get}
use Rattle.watch_feeding.specs.Fed.{MayBeFed}
use Rattle.watch_feeding.proofs.feeding.feed_row.Goals as goal

pub feed_states-requires : goal.feed_states-requires
feed_states-requires g c =
    subst (λ (row : List Bool). MayBeFed c.args.states.now c.args.process c.args.from row)
    (get_or_from_slice_get c.args.rows.now c.args.w c.replace-row.result [] c.replace-row.ensures.item) c.requires.row

pub returns-clause-others : goal.returns-clause-others
returns-clause-others g c =
    let rows = c.args.rows.now in
    let w = c.args.w in
    let new = c.replace-empty.new.self in
    let row = c.feed_states.new.row in
    let is : new ≡ set rows w row = c.replace-empty.ensures.list ∙ ap (λ (l : List (List Bool)). set l w row) c.replace-row.ensures.list ∙ set-set rows w _ row in
    is ∙ ap (set rows w) (sym (ap (λ (l : List (List Bool)). get_or l w []) is ∙ get_or-set_same rows w row [] c.requires.there))
