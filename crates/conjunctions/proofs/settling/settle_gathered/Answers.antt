use Rattle.std.proofs.Common.{◌≡◌, ℕ, ◌+◌, ◌≤◌, Bool, true, All, List, ◌∷◌, [], ◌++◌, length, drop, Option, refl, sym, ◌∙◌, ap, subst, arith}
use Rattle.std.specs.Prelude.{IfSome}
use Rattle.std.specs.Option.{option_or}
use Rattle.run_model.specs.Cut.{Clocks, lengths}
use Rattle.pull_system.specs.declared.pull.Pull.{Pull}
use Rattle.pull_system.specs.Vector.{IsAtMost}
use Rattle.pull_system.specs.System.{SystemView, IsPull, IsSystem}
use Rattle.pull_fans.specs.Fans.{pulls_of_fans}
use Rattle.pull_system.specs.Rows.{RowsView, AreLeastRows}
use Rattle.slice_workers.specs.Spent.{spent_of}
use Rattle.slice_workers.specs.Views.{SettledView}
use Rattle.raise_machine.specs.Bounds.{AreBounds}
use Rattle.bound_table.specs.Views.{TableView, SeatView}
use Rattle.slice_graph.specs.Views.{SliceView}
use Rattle.slice_graph.specs.Growing.{IsEarlierSystem}
use Rattle.slice_workers.specs.Calls.{TakesBehind}
use Rattle.conjunctions.specs.Counting.{first_of, steps_for}
use Rattle.conjunctions.specs.declared.gathered.Asked.{Asked}
use Rattle.conjunctions.specs.inside.Asked.{asked_pulls}
use Rattle.conjunctions.specs.inside.Gathering.{first_pulls}
use Rattle.conjunctions.specs.inside.Settling.{CanBegin, CanBeginTable}
use Rattle.conjunctions.specs.inside.Beginning.{GatheredView, FloorFits, AsksAlone, BeginsTable, BeginsWithOrder}
use Rattle.bound_table.specs.Firm.{AreOwnRows}
use Rattle.conjunctions.specs.Settling.{MayBeFirm}
use Rattle.conjunctions.proofs.settling.settle_gathered.Goals as goal

-- one system by the same lengths and pulls
system_by : (lens shape : List ℕ) (pulls others : List Pull) → lens ≡ shape → pulls ≡ others → ◌≡◌ {A = SystemView} (record { lens = lens; pulls = pulls }) (record { lens = shape; pulls = others })
system_by lens shape pulls others lens_is pulls_is = ap (λ (l : List ℕ). let s : SystemView = record { lens = l; pulls = pulls } in s) lens_is ∙ ap (λ (list : List Pull). let s : SystemView = record { lens = shape; pulls = list } in s) pulls_is

-- the pulls that are asked are those that were gathered
gathered_is : (o : Clocks) (gathered : GatheredView) (asked : Asked) → gathered.order ≡ o → gathered.pulls ≡ asked_pulls gathered.order asked → asked_pulls o asked ≡ gathered.pulls
gathered_is o gathered asked same is = ap (λ (k : Clocks). asked_pulls k asked) (sym same) ∙ sym is

pub system_of_asked-requires-clause-pulls : goal.system_of_asked-requires-clause-pulls
system_of_asked-requires-clause-pulls g c =
    let o = c.args.order.now in
    subst (λ (list : List Pull). All (IsPull (lengths o)) list) (sym (gathered_is o c.args.gathered c.into_asked-asked.result.0 c.requires.shared.same c.into_asked-asked.ensures.pulls)) c.requires.fit

pub system_of_asked-requires-clause-count : goal.system_of_asked-requires-clause-count
system_of_asked-requires-clause-count g c =
    omega (arith, c.requires.count, ap (λ (list : List Pull). length list) (gathered_is c.args.order.now c.args.gathered c.into_asked-asked.result.0 c.requires.shared.same c.into_asked-asked.ensures.pulls))

pub system_of_asked-requires-clause-round : goal.system_of_asked-requires-clause-round
system_of_asked-requires-clause-round g c = c.requires.shared.system

-- a conjunction may begin with the system that was made
can_begin : (o : Clocks) (gathered : GatheredView) (made : SystemView) (keeps : Bool) (before next floor : Option RowsView) → made ≡ record { lens = lengths o; pulls = gathered.pulls } → next ≡ before → floor ≡ gathered.floor
    → CanBegin (record { lens = lengths o; pulls = gathered.pulls }) keeps before → FloorFits (lengths o) gathered → (keeps ≡ true → BeginsWithOrder o gathered.pulls) → CanBeginTable o made keeps next floor
can_begin o gathered made keeps before next floor made_is next_is floor_is can fits first =
    let system : SystemView = record { lens = lengths o; pulls = gathered.pulls } in
    let all : CanBeginTable o system keeps before gathered.floor = record { lens = refl; order = first; kept = can; gathered = fits.begins } in
    subst (λ (s : SystemView). CanBeginTable o s keeps next floor) (sym made_is)
    (subst (λ (b : Option RowsView). CanBeginTable o system keeps b floor) (sym next_is) (subst (λ (f : Option RowsView). CanBeginTable o system keeps before f) (sym floor_is) all))

pub table_of-requires-clause-begins : goal.table_of-requires-clause-begins
table_of-requires-clause-begins g c =
    let lens = lengths c.args.order.now in
    let gathered : GatheredView = c.args.gathered in
    let made = c.in_ok-system.ensures.system ∙ system_by _ _ _ _ refl (gathered_is c.args.order.now c.args.gathered c.into_asked-asked.result.0 c.requires.shared.same c.into_asked-asked.ensures.pulls) in
    can_begin c.args.order.now gathered c.in_ok-system.system c.args.keeps (first_of c.args.round.now.before) c.next-before.result _ made
    (c.next-before.ensures.next ∙ ap first_of c.in_ok-system.ensures.rows.before_is) c.into_asked-asked.ensures.rows c.requires.before c.requires.floor.floor c.requires.first

pub table_of-requires-clause-own : goal.table_of-requires-clause-own
table_of-requires-clause-own g c = λ is.
    let gathered : GatheredView = c.args.gathered in
    let system : SystemView = record { lens = lengths c.args.order.now; pulls = gathered.pulls } in
    let made : c.in_ok-system.system ≡ system = c.in_ok-system.ensures.system ∙ system_by _ _ _ _ refl (gathered_is c.args.order.now c.args.gathered c.into_asked-asked.result.0 c.requires.shared.same c.into_asked-asked.ensures.pulls) in
    subst (λ (s : SystemView). IfSome (option_or c.into_asked-asked.result.1.own c.into_asked-asked.result.1.floor) (λ rows. AreOwnRows s rows.words)) (sym made)
    (subst (λ (floor : Option RowsView). IfSome floor (λ rows. AreOwnRows system rows.words)) (sym c.into_asked-asked.ensures.rows) (c.requires.floor.floor.own (sym c.into_asked-asked.ensures.alone ∙ is)))

pub settle_all-requires-clause-fits : goal.settle_all-requires-clause-fits
settle_all-requires-clause-fits g c = λ κs lives. c.in_ok-table.ensures.seat_is

pub give_back-requires-clause-first : goal.give_back-requires-clause-first
give_back-requires-clause-first g c = λ none.
    let o = c.args.order.now in
    let asked = c.into_asked-asked.result.0 in
    let pulls_is = gathered_is o c.args.gathered asked c.requires.shared.same c.into_asked-asked.ensures.pulls in
    let made : c.close.result ≡ record { lens = lengths o; pulls = asked_pulls o asked } = c.close.ensures ∙ c.in_ok-table.ensures.system_is ∙ c.in_ok-system.ensures.system in
    record { others = pulls_of_fans asked.fans; is = ap (λ (s : SystemView). s.pulls) made ∙ ap (λ (b : Bool). first_pulls o b ++ pulls_of_fans asked.fans) none }

pub give_back-requires-clause-lens : goal.give_back-requires-clause-lens
give_back-requires-clause-lens g c = ap (λ (s : SystemView). s.lens) (c.close.ensures ∙ c.in_ok-table.ensures.system_is ∙ c.in_ok-system.ensures.system)

pub give_back-requires-clause-round : goal.give_back-requires-clause-round
give_back-requires-clause-round g c =
    record { own = subst (λ (s : Option SystemView). IfSome s (IsEarlierSystem c.args.order.now)) (sym c.next-before.ensures.system) c.in_ok-system.ensures.order.own }

pub returns : goal.returns
returns g c =
    let lens = lengths c.args.order.now in
    let gathered : GatheredView = c.args.gathered in
    let before = first_of c.args.round.now.before in
    let system : SystemView = record { lens = lens; pulls = gathered.pulls } in
    let one : SettledView = c.in_ok-settled.settled in
    let rows : RowsView = one.rows in
    let made : c.in_ok-system.system ≡ system = c.in_ok-system.ensures.system ∙ system_by _ _ _ _ refl (gathered_is c.args.order.now c.args.gathered c.into_asked-asked.result.0 c.requires.shared.same c.into_asked-asked.ensures.pulls) in
    let system_is : c.in_ok-table.table.system ≡ system = c.in_ok-table.ensures.system_is ∙ made in
    let is_system : IsSystem system = subst IsSystem made c.in_ok-table.ensures.is in
    let least : AreLeastRows system rows.words = subst (λ (s : SystemView). AreLeastRows s rows.words) system_is c.in_ok-settled.ensures.settled.least in
    let asks : IfSome c.into_asked-asked.result.2 (AsksAlone c.args.order.now system.pulls) =
    subst (λ (own : Option SliceView). IfSome own (AsksAlone c.args.order.now gathered.pulls)) (sym c.into_asked-asked.ensures.slice) c.requires.floor.slice in
    let is_slice = c.in_ok-slice.ensures system is_system refl c.requires.order (subst (λ (r : RowsView). AreLeastRows system r.words) (sym c.rows.ensures) least) asks in
    let next_is : c.next-before.result ≡ before = c.next-before.ensures.next ∙ ap first_of c.in_ok-system.ensures.rows.before_is in
    record {
      before = c.in_ok-keep.ensures.before ∙ c.in_ok-give_back.ensures.rows.before_is ∙ c.next-before.ensures.before ∙ ap (drop 1) c.in_ok-system.ensures.rows.before_is;
      one = one;
      settled = c.in_ok-keep.ensures.settled ∙ ap (λ (list : List SettledView). list ++ one ∷ []) (c.in_ok-give_back.ensures.rows.settled_is ∙ c.next-before.ensures.settled ∙ c.in_ok-system.ensures.rows.settled_is);
      order = record { own = subst (λ (s : Option SystemView). IfSome s (IsEarlierSystem c.args.order.now)) (sym c.in_ok-keep.ensures.system) c.in_ok-give_back.ensures.order.own };
      lens = c.in_ok-settled.ensures.settled.lens ∙ ap (λ (s : SystemView). s.lens) system_is;
      system = is_system;
      least = least;
      by_steps = λ keeps. subst (λ (b : Option RowsView). MayBeFirm b one.firm) next_is
          (subst (MayBeFirm c.next-before.result) (sym c.in_ok-settled.ensures.firm) (c.in_ok-table.ensures.firm.atoms keeps));
      looks = λ one. took c.in_ok-system.system c.in_ok-table.table system c.args.keeps c.next-before.result before c.in_ok-table.seat c.settle_all.new.seat rows c.args.steps.now c.table_of.new.steps c.settle_all.new.steps
          made next_is c.in_ok-table.ensures c.in_ok-settled.ensures.settled.floor c.in_ok-settled.ensures.risen.rises
          (subst (λ (s : SystemView). AreBounds s c.settle_all.new.seat.floor) (ap (λ (t : TableView). t.system) (c.in_ok-settled.ensures.risen.table ∙ c.in_ok-table.ensures.seat_is)) c.bounds.ensures) (c.in_ok-settled.ensures.behind one);
      fits = is_slice.fits;
      cuts = is_slice.cuts;
    }
  where
    took : (made : SystemView) (table : TableView) (system : SystemView) (keeps : Bool) (next before : Option RowsView) (seat new : SeatView) (rows : RowsView) (s mid t : ℕ) → made ≡ system → next ≡ before
        → BeginsTable made keeps next table seat (spent_of s mid) → rows.words ≡ new.floor → IsAtMost seat.floor new.floor → AreBounds table.system new.floor → TakesBehind table.system table.firm seat new mid t
        → t ≤ s + steps_for (length system.pulls) keeps system.lens before rows
    took made table system keeps next before seat new rows s mid t made_is next_is begins new_is rises bounds takes =
        let least = begins.looks rows new t new_is rises (subst (λ (x : SystemView). AreBounds x new.floor) begins.system_is bounds) (subst (λ (x : SystemView). TakesBehind x table.firm seat new mid t) begins.system_is takes) in
        subst (λ (b : Option RowsView). t ≤ s + steps_for (length system.pulls) keeps system.lens b rows) next_is (subst (λ (x : SystemView). t ≤ s + steps_for (length x.pulls) keeps x.lens next rows) made_is least)
