use Rattle.std.proofs.Common.{ℕ, ◌++◌, slice_index, ap, ◌∙◌}
use Rattle.std.specs.Fmt.{decimal}
use Rattle.log_lines.specs.Spelling.{clock_rest}
use Rattle.event_log.proofs.Appends.{clock_rest-append, clock_put, puts_next_at}
use Rattle.event_log.proofs.writing.put_clock_rest.Goals as goal

pub loop-count-preserved : goal.loop-count-preserved
loop-count-preserved c =
    let put = clock_put c.loop-count.out c.push.new.self c.put_u64.new.out (slice_index c.args.clock.now c.loop-count.count-index) c.in_ok-push.ensures.ok (c.in_ok-put_u64.ensures.ok ∙ ap (λ (n : ℕ). c.push.new.self ++ decimal n) c.from.ensures) in
    puts_next_at clock_rest clock_rest-append c.args.out.now c.loop-count.out c.put_u64.new.out c.args.clock.now c.loop-count.count-index 0 c.loop-count-test.true c.loop-count.invariant put
