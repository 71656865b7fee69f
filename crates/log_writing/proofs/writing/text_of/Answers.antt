use Rattle.std.proofs.Common.{◌≡◌, ◌++◌, ◌∷◌, []}
use Rattle.log_lines.specs.Spelling.{names_text}
use Rattle.event_log.specs.Before.{heading_of}
use Rattle.event_log.specs.LogText.{vars_lines, batch_lines, text_of}
use Rattle.event_log.proofs.Appends.{log_put}
use Rattle.log_writing.proofs.writing.text_of.Goals as goal

pub returns : goal.returns
returns c =
    let log = c.args.log.now in
    let first : c.extend_from_slice.new.self ≡ heading_of log.header.version = rw (c.new-out.ensures, c.heading_of.ensures) at c.in_ok-extend_from_slice.ensures.ok in
    let a : c.extend_from_slice-2.new.self ≡ heading_of log.header.version ++ 10 ∷ 112 ∷ 114 ∷ 111 ∷ 99 ∷ 115 ∷ [] = rw first at c.in_ok-extend_from_slice-2.ensures.ok in
    let names : c.put_names.new.out ≡ c.extend_from_slice-2.new.self ++ names_text log.header.procs = rw c.as_slice.ensures at c.in_ok-put_names.ensures in
    let vars : c.put_all_vars.new.out ≡ c.push.new.self ++ text_of (vars_lines log.header.procs log.header.vars) = rw (c.as_slice-2.ensures, c.as_slice-3.ensures) at c.in_ok-put_all_vars.ensures in
    let batches : c.put_batches.new.out ≡ c.put_all_vars.new.out ++ text_of (batch_lines log.header log.batches) = rw c.as_slice-4.ensures at c.in_ok-put_batches.ensures in
    log_put log c.extend_from_slice-2.new.self c.put_names.new.out c.push.new.self c.put_all_vars.new.out c.put_batches.new.out a names c.in_ok-push.ensures.ok vars batches
