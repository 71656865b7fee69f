use Rattle.std.proofs.Common.{◌++◌, codes}
use Rattle.rctl_class.specs.NamedParts.{piece_of}
use Rattle.part_text.specs.Texts.{part_text}
use Rattle.view_parts.proofs.Each.{puts_more, puts_last}
use Rattle.ask_text.proofs.nowhere.put_part_line.Goals as goal

pub returns : goal.returns
returns c =
    let part = part_text (piece_of c.args.part.now) in
    puts_last c.extend_from_slice-2.result c.args.out.now (codes "# " ++ part) (codes " holds at no state of this log\n") c.put_part.new.out c.extend_from_slice-2.new.self
    (puts_more c.args.out.now (codes "# ") part c.extend_from_slice.new.self c.put_part.new.out c.in_ok-extend_from_slice.ensures.ok c.in_ok-put_part.ensures)
    c.extend_from_slice-2.ensures.ok
