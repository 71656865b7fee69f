use Rattle.std.proofs.Common.{◌≡◌, ◌∙◌, ◌+◌, ℕ, ap, sym, subst, length, arith, refl}
use Rattle.std.specs.Prelude.{List}
use Rattle.std.specs.Global.{Vec}
use Rattle.vector_clock.specs.inside.Nodes.{node_at, AreReaders, with_reader}
use Rattle.vector_clock.proofs.CountLaws.{left_out_at, written_at}
use Rattle.vector_clock.proofs.Readers.{written_reader, reader_more, readers_are_nodes}
use Rattle.vector_clock.proofs.nodes.readers_of.Goals as goal
use Rattle.vector_clock.proofs.nodes.readers_of.Goals.{then-is_empty+in_ok-add_reader+in_ok-add_reader-2, else-is_empty}

pub loop-i-preserved : goal.loop-i-preserved
loop-i-preserved c =
    let readers_are = λ (n : ℕ) (v w : Vec (List ℕ)) (is : v ≡ w). ap (λ (x : Vec (List ℕ)). x.items) is in
    elim c.if-is_empty.branch [
      | then-is_empty+in_ok-add_reader+in_ok-add_reader-2 w ↦
          let out = left_out_at c.args.batch.now c.loop-i.i c.index-batch-i.result c.loop-i-test.true (c.is_empty.ensures.0 w.if-is_empty.true) in
          let node = node_at c.args.nodes.now c.loop-i.i in
          let within = c.requires.targets c.loop-i.i in
          let items = readers_are 0 _ _ w.readers-is ∙ w.in_ok-add_reader-2.ensures ∙ ap (λ (rs : List (List ℕ)). with_reader rs c.loop-i.i node.sent) w.in_ok-add_reader.ensures in
          subst (AreReaders c.args.batch.now c.args.nodes.now (c.loop-i.i + 1)) (sym items)
          (reader_more c.args.batch.now c.args.nodes.now c.loop-i.i node c.loop-i.readers.items out refl within.0 within.1 c.loop-i.invariant)
      | else-is_empty w ↦
          let written = written_at c.args.batch.now c.loop-i.i c.index-batch-i.result c.is_empty.result c.loop-i-test.true c.is_empty.ensures.1 w.if-is_empty.false in
          subst (AreReaders c.args.batch.now c.args.nodes.now (c.loop-i.i + 1)) (sym (readers_are 0 _ _ w.readers-is))
          (written_reader c.args.batch.now c.args.nodes.now c.loop-i.i c.loop-i.readers.items written c.loop-i.invariant)
    ]

pub returns-clause-readers : goal.returns-clause-readers
returns-clause-readers c =
    let all : c.loop-i.i ≡ length c.args.batch.now = omega (arith, c.loop-i-test.false, c.loop-i.auto.i-end) in
    subst (λ (n : ℕ). AreReaders c.args.batch.now c.args.nodes.now n c.loop-i.readers.items) all c.loop-i.invariant

pub returns-clause-graph : goal.returns-clause-graph
returns-clause-graph c = readers_are_nodes c.args.batch.now c.args.nodes.now c.loop-i.i c.loop-i.readers.items (omega (arith, c.loop-i.auto.i-end)) c.loop-i.invariant
