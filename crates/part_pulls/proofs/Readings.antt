-- What was observed is a run, and its rows of watches have a reading.
use Rattle.std.proofs.Common.{◌≡◌, ℕ, suc, zero, ◌<◌, List, [], ◌∷◌, length, get_or, map, replicate, Option, Some, None, sym, ◌∙◌, ap, arith}
use Rattle.std.specs.List.{range_with_len}
use Rattle.std.proofs.lemmas.List.{length-replicate}
use Rattle.std.proofs.lemmas.List.FromFn.{get_or-map-range_with_len}
use Rattle.run_model.specs.Consistent.{IsOrder}
use Rattle.trace_growth.specs.Growing.{IsTrace}
use Rattle.part_pulls.specs.declared.observed.Observed.{Observed}
use Rattle.part_pulls.specs.Observing.{Reading, AreAnswers, clocks_seen}

pub is_order : (seen : Observed) → IsTrace seen.trace.states → IsOrder (clocks_seen seen)
is_order seen trace = (trace.run.run (λ name states. [])).order

-- ---- there is a reading: the name of a watch is as long as its number says, and it answers what stands in its row

pub reading_of : Observed → Reading
reading_of seen = record {
  watch_names = map (λ w. replicate w 0) (range_with_len 0 (length seen.watch_process));
  watches = λ name states. get_or seen.watch_rows (length name) [];
}

pub reading_answers : (seen : Observed) → AreAnswers seen (reading_of seen)
unfolding reading_of
reading_answers seen = record { each = λ p w on. row_at_name p w on }
  where
    numbered : (p w : ℕ) → get_or seen.watch_process w None ≡ Some p → w < length seen.watch_process
    numbered p w on = by_list seen.watch_process w on
      where
        by_list : (list : List (Option ℕ)) (w : ℕ) → get_or list w None ≡ Some p → w < length list
        by_list [] w h = absurd (cc)
        by_list (x ∷ list) zero h = omega arith
        by_list (x ∷ list) (suc w) h = omega (arith, by_list list w h)

    row_at_name : (p w : ℕ) → get_or seen.watch_process w None ≡ Some p
        → get_or seen.watch_rows w [] ≡ get_or seen.watch_rows (length {A = ℕ} (get_or (map (λ v. replicate v 0) (range_with_len 0 (length seen.watch_process))) w [])) []
    row_at_name p w on =
        let name = get_or-map-range_with_len (λ (v : ℕ). replicate v 0) 0 (length seen.watch_process) w w [] (numbered p w on) (omega arith) in
        ap (λ v. get_or seen.watch_rows v []) (sym (ap (length {A = ℕ}) name ∙ length-replicate {A = ℕ} w 0))
