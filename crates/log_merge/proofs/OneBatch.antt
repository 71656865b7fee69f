-- The batches of the sources don't matter.
use Rattle.std.proofs.Common.{◌≡◌, ℕ, zero, suc, ◌+◌, ◌-◌, Option, List, map, [], ◌∷◌, ◌++◌, length, refl, sym, ap, ◌∙◌, arith}
use Rattle.std.specs.Prelude.{◌==◌}
use Rattle.std.specs.List.{list_any}
use Rattle.std.specs.Option.{option_map}
use Rattle.std.proofs.lemmas.List.{length-map, map_push}
use Rattle.std.proofs.lemmas.List.Sums.{sum_by-cons}
use Rattle.event_log.specs.declared.log.Binding.{Binding}
use Rattle.event_log.specs.declared.log.Event.{Event}
use Rattle.event_log.specs.declared.log.Header.{Header}
use Rattle.event_log.specs.declared.log.Log.{Log}
use Rattle.event_log.specs.Numbers.{variables_at}
use Rattle.log_merge.specs.declared.fault.Found.{Found}
use Rattle.fault_kinds.specs.declared.merge.MergeFault.{MergeFault}
use Rattle.log_merge.specs.declared.merged.Merged.{Merged}
use Rattle.log_merge.specs.declared.seen.Seen.{Seen}
use Rattle.log_merge.specs.declared.seen.Seen.TheVariants.{Nothing, One, Two}
use Rattle.log_merge.specs.Sources.{OwnLine, own_vars_lines, own_event_lines, own_lines}
use Rattle.log_merge.specs.Sources.{has_lines_of, seen_of, events_of, in_one_batch, events_in}
use Rattle.log_merge.specs.Faults.{◌<|>◌, differs, not_alone, one_too_many, event_too_many, source_fault, placed, fault_from, merge_fault}
use Rattle.log_merge.specs.Merging.{Placed, placed_events, placed_in, placed_from, by_process, numbered, origins, variables_in, all_variables, merged_header, merged_events, merged}
use Rattle.log_merge.specs.Laws.{BatchesDoNotMatter}
use Rattle.log_merge.proofs.Fits.{in_one}

abbrev batched : List Log → List Log
batched sources = map in_one_batch sources

-- ---- lines and counts

own_same : (s : Log) → own_lines (in_one_batch s) ≡ own_lines s
own_same s = ap (λ (es : List Event). own_vars_lines 0 s.header.var_lines ++ own_event_lines es) (in_one s)

has_same : (p : ℕ) (s : Log) → has_lines_of p (in_one_batch s) ≡ has_lines_of p s
has_same p s = ap (list_any (λ (l : OwnLine). l.process == p)) (own_same s)

any_same : (p : ℕ) (sources : List Log) → list_any (has_lines_of p) (batched sources) ≡ list_any (has_lines_of p) sources
any_same p [] = refl
any_same p (s ∷ sources) = rw (has_same p s, any_same p sources) refl

count_same : (sources : List Log) → events_in (batched sources) ≡ events_in sources
count_same [] = refl
count_same (s ∷ sources) =
    let size : Log → ℕ = λ (x : Log). length (events_of x) in
    omega (arith, sum_by-cons size (in_one_batch s) (batched sources), sum_by-cons size s sources, ap length (in_one s), count_same sources)

-- ---- faults

differs_same : (before : List Log) (s : Log) → differs (batched before) (in_one_batch s) ≡ differs before s
differs_same [] s = refl
differs_same (first ∷ before) s = refl

seen_same : (before : List Log) (seen : Seen) → not_alone (batched before) seen ≡ not_alone before seen
seen_same before Nothing = refl
seen_same before (One process line) = rw (any_same process before) refl
seen_same before (Two line) = refl

alone_same : (before : List Log) (s : Log) → not_alone (batched before) (seen_of (own_lines (in_one_batch s))) ≡ not_alone before (seen_of (own_lines s))
alone_same before s = seen_same before (seen_of (own_lines (in_one_batch s))) ∙ ap (λ (ls : List OwnLine). not_alone before (seen_of ls)) (own_same s)

many_same : (before : List Log) → one_too_many (batched before) ≡ one_too_many before
many_same before = rw (length-map before in_one_batch) refl

events_same : (before : List Log) (s : Log) → event_too_many (batched before) (in_one_batch s) ≡ event_too_many before s
events_same before s = rw (count_same before, in_one s) refl

all_same : (a b c d e f g h : Option Found) → a ≡ e → b ≡ f → c ≡ g → d ≡ h → (a <|> b <|> c <|> d) ≡ (e <|> f <|> g <|> h)
all_same a b c d e f g h ae bf cg dh = rw (ae, bf, cg, dh) refl

source_same : (before : List Log) (s : Log) → source_fault (batched before) (in_one_batch s) ≡ source_fault before s
source_same before s = all_same _ _ _ _ _ _ _ _ (differs_same before s) (alone_same before s) (many_same before) (events_same before s)

or_same : (a b c d : Option MergeFault) → a ≡ c → b ≡ d → (a <|> b) ≡ (c <|> d)
or_same a b c d ac bd = rw (ac, bd) refl

placed_fault : (before : List Log) (s : Log) → option_map (placed (length (batched before) + 1)) (source_fault (batched before) (in_one_batch s)) ≡ option_map (placed (length before + 1)) (source_fault before s)
placed_fault before s = ap (λ (n : ℕ). option_map (placed (n + 1)) (source_fault (batched before) (in_one_batch s))) (length-map before in_one_batch) ∙ ap (option_map (placed (length before + 1))) (source_same before s)

faults_same : (before sources : List Log) → fault_from (batched before) (batched sources) ≡ fault_from before sources
unfolding fault_from
faults_same before [] = refl
faults_same before (s ∷ sources) =
    or_same _ _ _ _ (placed_fault before s) (ap (λ (b : List Log). fault_from b (batched sources)) (sym (map_push in_one_batch before s)) ∙ faults_same (before ++ s ∷ []) sources)

-- ---- the merged log

placed_same : (n : ℕ) (sources : List Log) → placed_from n (batched sources) ≡ placed_from n sources
placed_same n [] = refl
placed_same n (s ∷ sources) =
    ap (λ (es : List Event). placed_events n es ++ placed_from (n + 1) (batched sources)) (in_one s) ∙ ap (λ (xs : List Placed). placed_in n s ++ xs) (placed_same (n + 1) sources)

variables_same : (p : ℕ) (sources : List Log) → variables_in p (batched sources) ≡ variables_in p sources
variables_same p [] = refl
variables_same p (s ∷ sources) = ap (λ (vs : List Binding). variables_at s.header.vars p ++ vs) (variables_same p sources)

all_variables_same : (p n : ℕ) (sources : List Log) → all_variables p n (batched sources) ≡ all_variables p n sources
all_variables_same p zero sources = refl
all_variables_same p (suc n) sources =
    ap (λ (vs : List Binding). vs ∷ all_variables (p + 1) n (batched sources)) (variables_same p sources) ∙ ap (λ (rest : List (List Binding)). variables_in p sources ∷ rest) (all_variables_same (p + 1) n sources)

header_same : (sources : List Log) → merged_header (batched sources) ≡ merged_header sources
header_same [] = refl
header_same (first ∷ sources) =
    ap (λ (vars : List (List Binding)). record (merged_header (first ∷ sources)) { vars = vars }) (all_variables_same 0 (length first.header.procs) (first ∷ sources))

abbrev merged_of : Header → List Placed → Merged
merged_of h events = record { log = record { header = h; batches = numbered 1 events ∷ [] }; origins = origins events }

events_merged : (sources : List Log) → merged_events (batched sources) ≡ merged_events sources
events_merged sources =
    ap (λ (h : Header). by_process 0 (length h.procs) (placed_from 1 (batched sources))) (header_same sources) ∙ ap (by_process 0 (length (merged_header sources).procs)) (placed_same 1 sources)

merged_same : (sources : List Log) → merged (batched sources) ≡ merged sources
merged_same sources = ap (λ (h : Header). merged_of h (merged_events (batched sources))) (header_same sources) ∙ ap (merged_of (merged_header sources)) (events_merged sources)

pub batches_do_not_matter : BatchesDoNotMatter
batches_do_not_matter sources = (faults_same [] sources, merged_same sources)
