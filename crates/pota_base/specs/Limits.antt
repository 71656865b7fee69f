-- What a run, its log and a formula may be at most.
use Rattle.std.specs.Prelude.{ℕ}

abbrev pub most_processes : ℕ
most_processes = 32

abbrev pub most_events : ℕ
most_events = 50000

-- of one process
abbrev pub most_variables : ℕ
most_variables = 16

-- in bytes
abbrev pub longest_name : ℕ
longest_name = 64

-- in bytes, of several that are read as one together
abbrev pub longest_log : ℕ
longest_log = 67108864

-- with one byte more than a log may have an input is too long, so no more are kept
abbrev pub longest_kept : ℕ
longest_kept = 67108865

-- in bytes, its line feed left out
abbrev pub longest_line : ℕ
longest_line = 4096

-- how many logs may be read as one
abbrev pub most_sources : ℕ
most_sources = 32

-- in bytes
abbrev pub longest_formula : ℕ
longest_formula = 4096

-- in bytes, of a text that is taken for tokens
abbrev pub longest_lexed : ℕ
longest_lexed = 65536

-- in bytes, of a formula's canonical text
abbrev pub longest_canonical : ℕ
longest_canonical = 65535

-- of a formula
abbrev pub most_nodes : ℕ
most_nodes = 64

-- how many levels of a formula may be open at one place
abbrev pub deepest : ℕ
deepest = 16

-- how many alternatives are answered at once
abbrev pub most_disjuncts : ℕ
most_disjuncts = 64

-- how many parts these have, inner ones counted too
abbrev pub most_parts : ℕ
most_parts = 128

-- in bytes
abbrev pub longest_question : ℕ
longest_question = 8192

-- how many questions are asked at once
abbrev pub most_questions : ℕ
most_questions = 64

-- more than the instances that a question over processes has
abbrev pub most_instances : ℕ
most_instances = 4096

-- in bytes, its line feed left out
abbrev pub longest_certificate_line : ℕ
longest_certificate_line = 8192

abbrev pub most_workers : ℕ
most_workers = 16

-- how many watches a caller may hand in
abbrev pub most_watches : ℕ
most_watches = 8
