-- What a pull of a system asks of a vector that is within a closed one.
use Rattle.std.proofs.Common.{◌≡◌, ℕ, ◌+◌, ◌<◌, ◌≤◌, List, length, get_or, map, arith}
use Rattle.std.proofs.lemmas.List.Elements.{All-get_or}
use Rattle.std.proofs.lemmas.List.{get_or-map}
use Rattle.pull_system.specs.System.{SystemView, IsSystem, IsPull, IsClosedFrom, no_pull, pull_at, source_of, target_of, ask}

pub pull-of : (system : SystemView) → IsSystem system → (k : ℕ) → k < length system.pulls → IsPull system.lens (pull_at system k)
pull-of system is k there = All-get_or (IsPull system.lens) system.pulls k no_pull there is.pulls

-- a pull asks for more where its source is more
pub ask-rises : (system : SystemView) → IsSystem system → (k : ℕ) → k < length system.pulls → (x y : ℕ) → x ≤ y → y ≤ get_or system.lens (source_of system k) 0 + 1 → ask system k x ≤ ask system k y
ask-rises system is k there x y less within = let p = pull-of system is k there in p.table.rises x y less (omega arith)

-- what a pull asks of a vector within a closed one is within that one
pub ask-closed : (system : SystemView) → IsSystem system → (k : ℕ) → k < length system.pulls → (start c : List ℕ) → IsClosedFrom system start c
    → (x : ℕ) → x ≤ get_or c (source_of system k) 0 → ask system k x ≤ get_or c (target_of system k) 0
ask-closed system is k there start c closed x within =
    omega (arith, ask-rises system is k there x (get_or c (source_of system k) 0) within (closed.vector.within (source_of system k)), closed.closed.each k there)

-- every component one past its process's length: "no such cut yet" everywhere
abbrev pub tops : List ℕ → List ℕ
tops lens = map (λ n. n + 1) lens

pub get_or-tops : (lens : List ℕ) (i : ℕ) → i < length lens → get_or (tops lens) i 0 ≡ get_or lens i 0 + 1
get_or-tops lens i there = get_or-map (λ n. n + 1) lens i 0 0 there
