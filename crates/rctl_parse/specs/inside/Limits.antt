-- What a token opens.
use Rattle.std.specs.Prelude.{◌≡◌, ◌+◌, ◌<◌}
use Rattle.pota_base.specs.Limits.{deepest, most_nodes}
use Rattle.rctl_parse.specs.declared.around.Around.{Around}

-- one level deeper
abbrev pub Opened : Around → Around → Type 0
Opened around inside =
    (around.level < deepest) × (inside ≡ record around { level = around.level + 1 })

-- one level deeper, behind one node more
abbrev pub Entered : Around → Around → Type 0
Entered around inside =
    (around.level < deepest) × (around.nodes < most_nodes)
    × (inside ≡ record around { level = around.level + 1; nodes = around.nodes + 1 })
