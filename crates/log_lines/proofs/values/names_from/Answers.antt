use Rattle.std.proofs.Common.{◌≡◌, ℕ, ◌+◌, ◌-◌, List, [], ◌∷◌, ◌++◌, ap, false, None, Some, arith, length, sym, ◌∙◌}
use Rattle.std.specs.Prelude.{◌==◌}
use Rattle.std.proofs.lemmas.Bool.Decides.{nat_tests}
use Rattle.std.proofs.lemmas.Result.{err_from_is_err_and}
use Rattle.std.proofs.lemmas.List.{map_push}
use Rattle.log_lines.specs.Reading.{spaced_name_at, items_from}
use Rattle.log_lines.specs.Drafts.{texts_of}
use Rattle.log_lines.proofs.Steps.{items-end, items-next, items-bad, items-full, fails_none}
use Rattle.log_lines.proofs.values.names_from.Goals as goal

pub returns-then-is_empty : goal.returns-then-is_empty
returns-then-is_empty c =
    let h : length c.loop.rest.now ≡ 0 = grind arith in
    c.loop.invariant ∙ items-end spaced_name_at (c.args.most - c.loop.counter) (texts_of c.loop.names.items) c.loop.rest.now h

pub returns-in_err-name : goal.returns-in_err-name
returns-in_err-name c =
    let some : (length c.loop.rest.now == 0) ≡ false = grind (arith, nat_tests) in
    let h : spaced_name_at c.loop.rest.now ≡ None = grind arith in
    let p = err_from_is_err_and c.from_residual.result c.from_residual.ensures.1 in
    rw (p.1, p.2) (fails_none _ _ (c.loop.invariant ∙ items-bad spaced_name_at c.args.most c.loop.counter (texts_of c.loop.names.items) c.loop.rest.now c.loop-test.true some h))

pub loop-preserved : goal.loop-preserved
loop-preserved c =
    let some : (length c.loop.rest.now == 0) ≡ false = grind (arith, nat_tests) in
    let h : spaced_name_at c.loop.rest.now ≡ Some (c.in_ok-name.name.now, c.in_ok-name.after.now) = grind arith in
    let pushed : texts_of c.push.new.self.items ≡ texts_of c.loop.names.items ++ c.in_ok-name.name.now ∷ [] = rw c.in_ok-push.ensures.items (map_push _ c.loop.names.items c.in_ok-name.name) in
    c.loop.invariant ∙ items-next spaced_name_at c.args.most c.loop.counter (texts_of c.loop.names.items) c.loop.rest.now c.in_ok-name.name.now c.in_ok-name.after.now c.loop-test.true some h ∙ ap (λ (front : List (List ℕ)). items_from spaced_name_at (c.args.most - (c.loop.counter + 1)) front c.in_ok-name.after.now) (sym pushed)

pub returns-then-not-is_empty : goal.returns-then-not-is_empty
returns-then-not-is_empty c =
    let some : (length c.loop.rest.now == 0) ≡ false = grind (arith, nat_tests) in
    c.loop.invariant ∙ items-full spaced_name_at c.args.most c.loop.counter (texts_of c.loop.names.items) c.loop.rest.now c.loop-test.false some

pub returns : goal.returns
returns c =
    let h : length c.loop.rest.now ≡ 0 = grind arith in
    c.loop.invariant ∙ items-end spaced_name_at (c.args.most - c.loop.counter) (texts_of c.loop.names.items) c.loop.rest.now h
