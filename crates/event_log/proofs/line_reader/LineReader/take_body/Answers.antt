use Rattle.event_log.proofs.line_reader.LineReader.take_body.Goals as goal

pub returns-clause-takes : goal.returns-clause-takes
returns-clause-takes c =
    let passes = c.pass.ensures in (
      c.in_ok-item.item,
      (
        c.in_ok-item.ensures,
        c.in_ok-push.ensures.ok,
        record {
          lines_are = passes.lines_are;
          version_is = passes.version_is;
          procs_are = passes.procs_are;
          variables_are = passes.variables_are;
          events_are = passes.events_are;
          stage_is = passes.stage_is;
        },
      ),
    )
