-- The line of a goal runs on the side of the lines of other cuts where the goal is.
use Rattle.std.proofs.Common.{◌<◌, arith}
use Rattle.run_model.specs.Cut.{count}
use Rattle.view_picture.specs.Columns.{column}
use Rattle.view_picture.specs.Laws.{GoalsAreBehindTheLeast, GoalsAreBeforeTheGreatest, GoalsBeyondAreBeyond}
use Rattle.view_picture.proofs.Apart.{columns_apart}
use Rattle.view_picture.proofs.Inside.{column_rises}
use Rattle.view_picture.proofs.Shown.{lower, no_less}

pub goals_are_behind_the_least : GoalsAreBehindTheLeast
goals_are_behind_the_least o shown f rows order columns low goal p le end =
    omega (arith, column_rises f.left f.wide (column rows p (count low p)) (column rows p (count goal p)) (no_less o shown rows order columns p (count low p) (count goal p) le end))

pub goals_are_before_the_greatest : GoalsAreBeforeTheGreatest
goals_are_before_the_greatest o shown f rows order columns goal high p le end =
    omega (arith, column_rises f.left f.wide (column rows p (count goal p)) (column rows p (count high p)) (no_less o shown rows order columns p (count goal p) (count high p) le end))

pub goals_beyond_are_beyond : GoalsBeyondAreBeyond
goals_beyond_are_beyond o shown f rows order columns goal high p a lt le shows end =
    let further : column rows p (count high p) < column rows p (count goal p) = omega (arith, lower o shown rows order columns p (count high p) a lt (omega (arith, le, end)) shows, no_less o shown rows order columns p a (count goal p) le end) in
    omega (arith, columns_apart f.left f.wide (column rows p (count high p)) (column rows p (count goal p)) further)
