use Rattle.std.proofs.Common.{◌++◌, ◌∷◌, [], ◌+◌, sym, ◌∙◌, arith}
use Rattle.view_parts.proofs.Each.{puts_more}
use Rattle.view_text.specs.Folding.{broken, folded}
use Rattle.view_text.proofs.Folds.{folded_feed, folded_break, folded_full, folded_more, one_more}
use Rattle.view_text.proofs.folding.put_byte.Goals as goal

pub returns-then-byte-eq10-clause-text : goal.returns-then-byte-eq10-clause-text
returns-then-byte-eq10-clause-text c =
    one_more c.args.out.now c.push.new.self (c.args.byte ∷ []) (folded 0 c.args.rest.now) (folded c.args.column (c.args.byte ∷ c.args.rest.now)) c.in_ok-push.ensures.ok
    (folded_feed c.args.column c.args.byte c.args.rest.now c.if-byte-eq10.true)

pub returns-then-breaks_at-clause-text : goal.returns-then-breaks_at-clause-text
returns-then-breaks_at-clause-text c =
    one_more c.args.out.now c.put_break.new.out broken (folded 8 c.args.rest.now) (folded c.args.column (c.args.byte ∷ c.args.rest.now)) c.in_ok-put_break.ensures
    (folded_break c.args.column c.args.byte c.args.rest.now c.if-byte-eq10.false (sym c.breaks_at.ensures ∙ c.if-breaks_at.true))

pub returns-then-column-ge-MOST_COLUMNS-clause-text : goal.returns-then-column-ge-MOST_COLUMNS-clause-text
returns-then-column-ge-MOST_COLUMNS-clause-text c =
    one_more c.args.out.now c.push-then-column-ge-MOST_COLUMNS.new.self (broken ++ c.args.byte ∷ []) (folded 9 c.args.rest.now) (folded c.args.column (c.args.byte ∷ c.args.rest.now))
    (puts_more c.args.out.now broken (c.args.byte ∷ []) c.put_break-then-column-ge-MOST_COLUMNS.new.out c.push-then-column-ge-MOST_COLUMNS.new.self c.in_ok-put_break-2.ensures c.in_ok-push-2.ensures.ok)
    (folded_full c.args.column c.args.byte c.args.rest.now c.if-byte-eq10.false (sym c.breaks_at.ensures ∙ c.if-breaks_at.false) (omega arith))

pub returns-clause-text : goal.returns-clause-text
returns-clause-text c =
    one_more c.args.out.now c.push-2.new.self (c.args.byte ∷ []) (folded (c.args.column + 1) c.args.rest.now) (folded c.args.column (c.args.byte ∷ c.args.rest.now)) c.in_ok-push-3.ensures.ok
    (folded_more c.args.column c.args.byte c.args.rest.now c.if-byte-eq10.false (sym c.breaks_at.ensures ∙ c.if-breaks_at.false) (omega arith))
