use Rattle.std.proofs.Common.{◌≡◌, ◌∙◌, ℕ, List, [], ◌∷◌, ◌++◌, length, get_or, arith, ap, sym, subst, inl, inr, length-append}
use Rattle.std.proofs.Math.Seq.{get_or-append_seam}
use Rattle.std.proofs.lemmas.Bool.{cases_lt}
use Rattle.std.proofs.lemmas.List.{get_or_append_left}
use Rattle.run_model.specs.Cut.{count}
use Rattle.run_model.proofs.Counts.{length-lengths}
use Rattle.slice_graph.specs.inside.Growing.{AreRowsBehind}
use Rattle.slice_graph.proofs.growing.all_behind.Goals as goal

pub bounds-firsts-source : goal.bounds-firsts-source
bounds-firsts-source c = omega (arith, c.loop-source-test.true, c.procs-source-end.ensures.count, ap length c.shape.ensures.lens, length-lengths c.args.order.now, c.requires.count)

pub rows_behind-requires-clause-source : goal.rows_behind-requires-clause-source
rows_behind-requires-clause-source c = omega (arith, c.loop-source-test.true, c.procs-source-end.ensures.count, ap length c.shape.ensures.lens, length-lengths c.args.order.now)

pub loop-source-preserved : goal.loop-source-preserved
loop-source-preserved c =
    let inv = c.loop-source.invariant in
    let old : List (List ℕ) = c.loop-source.more in
    let rows : List ℕ = c.in_ok-rows_behind.field-0 in
    let source : ℕ = c.loop-source.source in
    let P : ℕ → Type 0 = λ k. AreRowsBehind c.args.order.now k (count c.args.firsts.now k) (get_or c.push.new.self k []) in
    record {
      size = omega (arith, inv.size, ap length c.in_ok-push.ensures.ok, length-append old (rows ∷ []));
      each = λ i below. elim (cases_lt i source) [
        | inl lt ↦ subst (AreRowsBehind c.args.order.now i (count c.args.firsts.now i))
            (sym (ap (λ (xs : List (List ℕ)). get_or xs i []) c.in_ok-push.ensures.ok ∙ get_or_append_left old (rows ∷ []) [] i (omega (arith, lt, inv.size)))) (inv.each i lt)
        | inr ge ↦ let same : i ≡ source = omega (arith, below, ge) in
            subst P (sym same) (subst (AreRowsBehind c.args.order.now source (count c.args.firsts.now source))
            (sym (ap (λ (xs : List (List ℕ)). get_or xs source []) c.in_ok-push.ensures.ok ∙ ap (λ (n : ℕ). get_or (old ++ rows ∷ []) n []) (sym inv.size) ∙ get_or-append_seam old rows [] [])) c.in_ok-rows_behind.ensures)
      ];
    }

pub returns : goal.returns
returns c =
    let inv = c.loop-source.invariant in
    let end : c.loop-source.source ≡ length c.args.order.now =
    omega (arith, c.loop-source-test.false, c.loop-source.auto.source-end, c.procs-source-end.ensures.count, ap length c.shape.ensures.lens, length-lengths c.args.order.now) in
    record { size = inv.size ∙ end; each = λ i below. inv.each i (omega (arith, below, end)) }
