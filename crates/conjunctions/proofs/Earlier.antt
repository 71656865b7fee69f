-- The system of an order that is earlier, or the same.
use Rattle.std.proofs.Common.{◌≡◌, ℕ, List, [], ◌∷◌, ◌++◌, length, get_or, sym, ◌∙◌, ap, arith, append-nil, length-append}
use Rattle.std.proofs.lemmas.List.{ext_get_or}
use Rattle.run_model.specs.Cut.{Clocks, lengths}
use Rattle.causal_order.specs.Growth.{HasGrown}
use Rattle.causal_order.proofs.Growing.{count-lengths}
use Rattle.pull_system.specs.System.{SystemView}
use Rattle.slice_graph.specs.Growing.{IsEarlierSystem, system_of_order}

-- nothing came behind a list that is as long as it was
as_it_was : {X : Type 0} (now old more : List X) → now ≡ old ++ more → length old ≡ length now → old ≡ now
as_it_was now old [] is same = sym (is ∙ append-nil old)
as_it_was now old (x ∷ more) is same = absurd (omega (arith, same, ap length is, length-append old (x ∷ more)))

-- clocks that have grown, and are as many of each process as they were, are those of before
pub same_clocks : (before now : Clocks) → HasGrown before now → lengths before ≡ lengths now → before ≡ now
same_clocks before now grown same = ext_get_or [] before now (sym grown.count) (λ p there.
    as_it_was (get_or now p []) (get_or before p []) (grown.each p).0 (grown.each p).1
    (sym (count-lengths before p) ∙ ap (λ (lens : List ℕ). get_or lens p 0) same ∙ count-lengths now p))

-- an earlier system with the lengths of the order is that of the order
pub same_system : (o : Clocks) (system : SystemView) → IsEarlierSystem o system → system.lens ≡ lengths o → system ≡ system_of_order o
same_system o system earlier same =
    earlier.is ∙ ap system_of_order (same_clocks earlier.before o earlier.grown (sym (ap (λ (s : SystemView). s.lens) earlier.is) ∙ same))
