use Rattle.std.proofs.Common.{◌≡◌, ◌+◌, ◌-◌, List, [], ◌∷◌, ◌++◌, ap, false, None, Some, arith, length, sym, ◌∙◌}
use Rattle.std.specs.Prelude.{◌==◌}
use Rattle.std.proofs.lemmas.Bool.Decides.{nat_tests}
use Rattle.std.proofs.lemmas.Result.{err_from_is_err_and}
use Rattle.std.proofs.lemmas.List.{map_push}
use Rattle.log_lines.specs.Reading.{value_at, items_from}
use Rattle.log_lines.specs.Spelling.{NamedValue}
use Rattle.log_lines.specs.Drafts.{value_of, values_of}
use Rattle.log_lines.proofs.Steps.{items-end, items-next, items-bad, items-full, fails_none}
use Rattle.log_lines.proofs.values.values_from.Goals as goal

pub returns-then-is_empty : goal.returns-then-is_empty
returns-then-is_empty c =
    let h : length c.loop.rest.now ≡ 0 = grind arith in
    c.loop.invariant ∙ items-end value_at (c.args.most - c.loop.counter) (values_of c.loop.values.items) c.loop.rest.now h

pub returns-in_err-value : goal.returns-in_err-value
returns-in_err-value c =
    let some : (length c.loop.rest.now == 0) ≡ false = grind (arith, nat_tests) in
    let h : value_at c.loop.rest.now ≡ None = grind arith in
    let p = err_from_is_err_and c.from_residual.result c.from_residual.ensures.1 in
    rw (p.1, p.2) (fails_none _ _ (c.loop.invariant ∙ items-bad value_at c.args.most c.loop.counter (values_of c.loop.values.items) c.loop.rest.now c.loop-test.true some h))

pub loop-preserved : goal.loop-preserved
loop-preserved c =
    let some : (length c.loop.rest.now == 0) ≡ false = grind (arith, nat_tests) in
    let h : value_at c.loop.rest.now ≡ Some (value_of c.in_ok-value.value, c.in_ok-value.after.now) = grind arith in
    let pushed : values_of c.push.new.self.items ≡ values_of c.loop.values.items ++ (value_of c.in_ok-value.value) ∷ [] = rw c.in_ok-push.ensures.ok (map_push _ c.loop.values.items c.in_ok-value.value) in
    c.loop.invariant ∙ items-next value_at c.args.most c.loop.counter (values_of c.loop.values.items) c.loop.rest.now (value_of c.in_ok-value.value) c.in_ok-value.after.now c.loop-test.true some h ∙ ap (λ (front : List NamedValue). items_from value_at (c.args.most - (c.loop.counter + 1)) front c.in_ok-value.after.now) (sym pushed)

pub returns-then-not-is_empty : goal.returns-then-not-is_empty
returns-then-not-is_empty c =
    let some : (length c.loop.rest.now == 0) ≡ false = grind (arith, nat_tests) in
    c.loop.invariant ∙ items-full value_at c.args.most c.loop.counter (values_of c.loop.values.items) c.loop.rest.now c.loop-test.false some

pub returns : goal.returns
returns c =
    let h : length c.loop.rest.now ≡ 0 = grind arith in
    c.loop.invariant ∙ items-end value_at (c.args.most - c.loop.counter) (values_of c.loop.values.items) c.loop.rest.now h
