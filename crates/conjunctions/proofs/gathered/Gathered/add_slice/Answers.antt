use Rattle.std.proofs.Common.{◌≡◌, true, false, List, [], ◌++◌, Option, Some, None, refl, sym, ◌∙◌, ap, subst, rules}
use Rattle.std.specs.Prelude.{IfSome}
use Rattle.std.specs.Option.{option_or}
use Rattle.run_model.specs.Cut.{lengths}
use Rattle.pull_system.specs.declared.pull.Pull.{Pull}
use Rattle.pull_fans.specs.Fans.{pulls_of_fans}
use Rattle.pull_system.specs.Rows.{RowsView}
use Rattle.bound_table.specs.Firm.{AreOwnRows}
use Rattle.slice_graph.specs.PullLists.{pulls_of_slice}
use Rattle.conjunctions.specs.inside.Beginning.{GatheredView, MayBeginFrom}
use Rattle.conjunctions.specs.inside.Gathering.{first_pulls}
use Rattle.conjunctions.proofs.Beginning.{gathered_more, no_slice, slice_floor, slice_rows}
use Rattle.conjunctions.proofs.gathered.Gathered.add_slice.Goals as goal

-- where there are no rows to begin from, none are of a slice that asked before all others
own_none : (own floor : Option RowsView) → option_or own floor ≡ None → own ≡ None
own_none None floor is = refl
own_none (Some rows) floor is = is

-- the rows of a slice that asks alone
pub returns-then-alone-clause-floor : goal.returns-then-alone-clause-floor
returns-then-alone-clause-floor c = λ o fits before.
    let old : List Pull = c.args.self.now.pulls in
    let new : GatheredView = record { order = c.self.inside.order.value; pulls = first_pulls c.self.inside.order.value c.self.inside.has_order ++ pulls_of_fans c.self.inside.fans; floor = Some c.in_ok-narrow_rows.field-0; alone = c.asks_nothing-alone.result; slice = c.self.inside.slice } in
    let rows : RowsView = c.in_ok-narrow_rows.field-0 in
    let kept : new.floor ≡ Some rows = refl in
    let same : new.pulls ≡ c.add_fans.new.self.pulls = search rules in
    let pulls : new.pulls ≡ old ++ pulls_of_slice c.args.slice.now = same ∙ c.in_ok-add_fans.ensures.pulls ∙ ap (λ (added : List Pull). old ++ added) c.in_ok-fans.ensures.list in
    let none : old ≡ [] = c.asks_nothing-alone.ensures.pulls c.if-alone.true in
    let own : new.pulls ≡ pulls_of_slice c.args.slice.now = pulls ∙ ap (λ (list : List Pull). list ++ pulls_of_slice c.args.slice.now) none in
    record {
      floor = record {
        begins = subst (λ (f : Option RowsView). IfSome f (MayBeginFrom (lengths o) new.pulls)) (sym kept)
            (slice_floor o c.args.slice.now old new.pulls rows fits pulls c.in_ok-narrow_rows.ensures.lens (c.in_ok-narrow_rows.ensures.begins o fits));
        own = λ is. subst (λ (f : Option RowsView). IfSome f (λ r. AreOwnRows (record { lens = lengths o; pulls = new.pulls }) r.words)) (sym kept)
            (slice_rows o c.args.slice.now new.pulls rows fits c.shape-shape.ensures.rows own c.in_ok-narrow_rows.ensures.words (c.in_ok-narrow_rows.ensures.begins o fits));
      };
      slice = no_slice o new.pulls new.slice (search rules);
    }

-- the rows of the first slice, where others ask too
pub returns-in_ok-rows-clause-floor : goal.returns-in_ok-rows-clause-floor
returns-in_ok-rows-clause-floor c = λ o fits before.
    let old : List Pull = c.args.self.now.pulls in
    let new = c.match-self-2.self in
    let rows : RowsView = c.in_ok-rows.field-0 in
    let own : c.self.inside.own ≡ None = own_none c.self.inside.own c.self.inside.floor (search rules) in
    let floor : new.floor ≡ option_or c.self.inside.own (Some rows) = search rules in
    let kept : new.floor ≡ Some rows = floor ∙ ap (λ (r : Option RowsView). option_or r (Some rows)) own in
    let same : new.pulls ≡ c.add_fans.new.self.pulls = search rules in
    let alone : new.alone ≡ false = search rules in
    let pulls : new.pulls ≡ old ++ pulls_of_slice c.args.slice.now = same ∙ c.in_ok-add_fans.ensures.pulls ∙ ap (λ (added : List Pull). old ++ added) c.in_ok-fans.ensures.list in
    record {
      floor = record {
        begins = subst (λ (f : Option RowsView). IfSome f (MayBeginFrom (lengths o) new.pulls)) (sym kept)
            (slice_floor o c.args.slice.now old new.pulls rows fits pulls c.in_ok-rows.ensures.lens (c.in_ok-rows.ensures.begins o fits));
        own = λ is. absurd (let e : false ≡ true = sym alone ∙ is in cc);
      };
      slice = no_slice o new.pulls new.slice (search rules);
    }

-- the rows that there were
pub returns-else-not-has_rows-clause-floor : goal.returns-else-not-has_rows-clause-floor
returns-else-not-has_rows-clause-floor c = λ o fits before.
    let new : GatheredView = record { order = c.self.inside.order.value; pulls = first_pulls c.self.inside.order.value c.self.inside.has_order ++ pulls_of_fans c.self.inside.fans; floor = option_or c.self.inside.own c.self.inside.floor; alone = c.asks_nothing-alone.result; slice = c.self.inside.slice } in
    let same : new.pulls ≡ c.add_fans.new.self.pulls = search rules in
    let kept : new.floor ≡ c.args.self.now.floor = search rules in
    let others : new.alone ≡ true → ⊥ = λ is. let e : false ≡ true = sym c.if-alone.false ∙ is in cc in
    gathered_more o c.args.self.now new (pulls_of_fans c.in_ok-fans.field-0) (same ∙ c.in_ok-add_fans.ensures.pulls) kept others (search rules) before
