use Rattle.std.proofs.Common.{List, ℕ, codes, ap, ◌∙◌, ◌++◌}
use Rattle.std.specs.Fmt.{decimal}
use Rattle.one_log.proofs.LeftOut.{line_so}
use Rattle.one_log.proofs.left_out.put_line.Goals as goal

pub returns : goal.returns
returns c =
    line_so c.args.out.now (codes "pota_log: events of ") c.args.name.now (codes " left out: ") (decimal c.args.count) c.extend_from_slice.new.self c.extend_from_slice-2.new.self c.extend_from_slice-3.new.self c.put_u64.new.out c.push.new.self
    c.in_ok-extend_from_slice.ensures.ok (c.in_ok-extend_from_slice-2.ensures.ok ∙ ap (λ (xs : List ℕ). c.extend_from_slice.new.self ++ xs) c.as_bytes.ensures.value) c.in_ok-extend_from_slice-3.ensures.ok c.in_ok-put_u64.ensures.ok c.in_ok-push.ensures.ok
