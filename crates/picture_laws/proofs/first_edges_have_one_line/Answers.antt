use Rattle.picture_laws.proofs.Dashes.{edge_lines_are_drawn, first_edges_have_their_lines}
use Rattle.picture_laws.proofs.Listed.{each_first_edge_has_one_line}
use Rattle.picture_laws.proofs.first_edges_have_one_line.Goals as goal

pub returns-clause-drawn : goal.returns-clause-drawn
returns-clause-drawn c = edge_lines_are_drawn

pub returns-clause-as_listed : goal.returns-clause-as_listed
returns-clause-as_listed c = first_edges_have_their_lines

pub returns-clause-one : goal.returns-clause-one
returns-clause-one c = each_first_edge_has_one_line
