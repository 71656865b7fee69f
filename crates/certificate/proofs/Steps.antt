-- The nodes of parts that are numbered one after the other.
use Rattle.std.proofs.Common.{◌≡◌, ℕ, ◌+◌, ◌≤◌, List, [], ◌∷◌, ◌++◌, length, refl, sym, ◌∙◌, ap, arith, append_assoc, append-nil}
use Rattle.std.proofs.lemmas.List.{length-append}
use Rattle.pota_base.specs.Limits.{most_parts}
use Rattle.rctl_parts.specs.Pieces.{Piece, pieces}
use Rattle.rctl_parts.specs.MadeFor.{disjuncts_count}
use Rattle.part_pulls.specs.declared.observed.Observed.{Observed}
use Rattle.certificate_nodes.specs.declared.plan.Asked.{Asked}
use Rattle.certificate_nodes.specs.declared.plan.Node.{Node}
use Rattle.certificate_nodes.specs.declared.plan.Plan.{Plan}
use Rattle.certificate.specs.Numbering.{nodes_of, asked_by, asked_by_all, nodes_in, nodes_in_all, disjunct_count, disjunct_nodes, disjuncts_asked, plan_of}
use Rattle.certificate.proofs.Standing.{count_all}
use Rattle.certificate.proofs.Fitting.{few_in}

-- ---- parts

-- what stands once these parts were numbered
pub record Numbered (seen : Observed) (old now : List Node) (asked : List Asked) (ps : List Piece) : Type 0 where
  pub nodes : now ≡ old ++ nodes_in_all seen (length old) (pieces ps)
  pub told : asked ≡ asked_by_all seen (length old) (pieces ps)

count_more : (ps : List Piece) (p : Piece) (later : List Piece) → disjunct_count ps + nodes_of p ≤ disjunct_count (ps ++ p ∷ later)
count_more [] p later = omega arith
count_more (q ∷ ps) p later = omega (arith, count_more ps p later)

nodes_more : (seen : Observed) (before : ℕ) (ps : List Piece) (p : Piece) → nodes_in_all seen before (pieces (ps ++ p ∷ [])) ≡ nodes_in_all seen before (pieces ps) ++ nodes_in seen (before + disjunct_count ps) p
nodes_more seen before [] p = append-nil (nodes_in seen before p) ∙ ap (λ (n : ℕ). nodes_in seen n p) (omega arith)
nodes_more seen before (q ∷ ps) p =
    ap (λ (ns : List Node). nodes_in seen before q ++ ns) (nodes_more seen (before + nodes_of q) ps p ∙ ap (λ (n : ℕ). nodes_in_all seen (before + nodes_of q) (pieces ps) ++ nodes_in seen n p) (omega arith))
    ∙ sym (append_assoc (nodes_in seen before q) (nodes_in_all seen (before + nodes_of q) (pieces ps)) (nodes_in seen (before + disjunct_count (q ∷ ps)) p))

asked_more : (seen : Observed) (before : ℕ) (ps : List Piece) (p : Piece) → asked_by_all seen before (pieces (ps ++ p ∷ [])) ≡ asked_by_all seen before (pieces ps) ++ asked_by seen (before + disjunct_count ps) p ∷ []
asked_more seen before [] p = ap (λ (n : ℕ). asked_by seen n p ∷ []) (omega arith)
asked_more seen before (q ∷ ps) p =
    ap (λ (list : List Asked). asked_by seen before q ∷ list) (asked_more seen (before + nodes_of q) ps p ∙ ap (λ (n : ℕ). asked_by_all seen (before + nodes_of q) (pieces ps) ++ asked_by seen n p ∷ []) (omega arith))

pub numbered_count : (seen : Observed) (old now : List Node) (asked : List Asked) (ps : List Piece) → Numbered seen old now asked ps → length now ≡ length old + disjunct_count ps
numbered_count seen old now asked ps h = ap (λ (list : List Node). length list) h.nodes ∙ length-append old (nodes_in_all seen (length old) (pieces ps)) ∙ ap (λ (n : ℕ). length old + n) (count_all seen (length old) (pieces ps))

-- the next part has room
pub room_more : (seen : Observed) (old now : List Node) (asked : List Asked) (all ps : List Piece) (p : Piece) (later : List Piece) → Numbered seen old now asked ps → all ≡ ps ++ p ∷ later
    → length old + disjunct_count all ≤ most_parts → length now + nodes_of p ≤ most_parts
room_more seen old now asked all ps p later h is few = omega (arith, numbered_count seen old now asked ps h, ap disjunct_count is, count_more ps p later, few)

pub numbered_more : (seen : Observed) (old now next : List Node) (asked told : List Asked) (one : Asked) (ps : List Piece) (p : Piece) → Numbered seen old now asked ps
    → next ≡ now ++ nodes_in seen (length now) p → one ≡ asked_by seen (length now) p → told ≡ asked ++ one ∷ [] → Numbered seen old next told (ps ++ p ∷ [])
numbered_more seen old now next asked told one ps p h nodes is told_is =
    let size = numbered_count seen old now asked ps h in
    let before = length old in record {
      nodes = nodes ∙ ap (λ (n : ℕ). now ++ nodes_in seen n p) size ∙ ap (λ (list : List Node). list ++ nodes_in seen (before + disjunct_count ps) p) h.nodes
          ∙ append_assoc old (nodes_in_all seen before (pieces ps)) (nodes_in seen (before + disjunct_count ps) p) ∙ ap (λ (list : List Node). old ++ list) (sym (nodes_more seen before ps p));
      told = told_is ∙ ap (λ (a : Asked). asked ++ a ∷ []) (is ∙ ap (λ (n : ℕ). asked_by seen n p) size) ∙ ap (λ (list : List Asked). list ++ asked_by seen (before + disjunct_count ps) p ∷ []) h.told
          ∙ sym (asked_more seen before ps p);
    }

-- ---- disjuncts

-- how many nodes some disjuncts have
abbrev pub count_of : List (List Piece) → ℕ
count_of [] = 0
count_of (d ∷ ds) = disjunct_count d + count_of ds

-- what stands once these disjuncts were numbered
pub record Planned (seen : Observed) (now : List Node) (asked : List (List Asked)) (ds : List (List Piece)) : Type 0 where
  pub nodes : now ≡ disjunct_nodes seen 0 ds
  pub told : asked ≡ disjuncts_asked seen 0 ds

length-disjunct_nodes : (seen : Observed) (before : ℕ) (ds : List (List Piece)) → length (disjunct_nodes seen before ds) ≡ count_of ds
length-disjunct_nodes seen before [] = refl
length-disjunct_nodes seen before (d ∷ ds) =
    omega (arith, length-append (nodes_in_all seen before (pieces d)) (disjunct_nodes seen (before + disjunct_count d) ds), count_all seen before (pieces d), length-disjunct_nodes seen (before + disjunct_count d) ds)

count_within : (ds : List (List Piece)) (d : List Piece) (later : List (List Piece)) → count_of ds + disjunct_count d ≤ disjuncts_count (ds ++ d ∷ later)
count_within [] d later = omega (arith, few_in d)
count_within (e ∷ ds) d later = omega (arith, few_in e, count_within ds d later)

-- the next disjunct has room
pub disjunct_room : (seen : Observed) (now : List Node) (asked : List (List Asked)) (all ds : List (List Piece)) (d : List Piece) (later : List (List Piece)) → Planned seen now asked ds → all ≡ ds ++ d ∷ later
    → disjuncts_count all ≤ most_parts → length now + disjunct_count d ≤ most_parts
disjunct_room seen now asked all ds d later h is few =
    omega (arith, ap (λ (list : List Node). length list) h.nodes, length-disjunct_nodes seen 0 ds, ap disjuncts_count is, count_within ds d later, few)

all_nodes_more : (seen : Observed) (before : ℕ) (ds : List (List Piece)) (d : List Piece) → disjunct_nodes seen before (ds ++ d ∷ []) ≡ disjunct_nodes seen before ds ++ nodes_in_all seen (before + count_of ds) (pieces d)
all_nodes_more seen before [] d = append-nil (nodes_in_all seen before (pieces d)) ∙ ap (λ (n : ℕ). nodes_in_all seen n (pieces d)) (omega arith)
all_nodes_more seen before (e ∷ ds) d =
    let first = nodes_in_all seen before (pieces e) in
    let next = before + disjunct_count e in
    ap (λ (ns : List Node). first ++ ns) (all_nodes_more seen next ds d ∙ ap (λ (n : ℕ). disjunct_nodes seen next ds ++ nodes_in_all seen n (pieces d)) (omega arith))
    ∙ sym (append_assoc first (disjunct_nodes seen next ds) (nodes_in_all seen (before + count_of (e ∷ ds)) (pieces d)))

all_asked_more : (seen : Observed) (before : ℕ) (ds : List (List Piece)) (d : List Piece) → disjuncts_asked seen before (ds ++ d ∷ []) ≡ disjuncts_asked seen before ds ++ asked_by_all seen (before + count_of ds) (pieces d) ∷ []
all_asked_more seen before [] d = ap (λ (n : ℕ). asked_by_all seen n (pieces d) ∷ []) (omega arith)
all_asked_more seen before (e ∷ ds) d =
    let next = before + disjunct_count e in
    ap (λ (list : List (List Asked)). asked_by_all seen before (pieces e) ∷ list)
    (all_asked_more seen next ds d ∙ ap (λ (n : ℕ). disjuncts_asked seen next ds ++ asked_by_all seen n (pieces d) ∷ []) (omega arith))

pub planned_more : (seen : Observed) (now next : List Node) (asked told : List (List Asked)) (one : List Asked) (ds : List (List Piece)) (d : List Piece) → Planned seen now asked ds
    → next ≡ now ++ nodes_in_all seen (length now) (pieces d) → one ≡ asked_by_all seen (length now) (pieces d) → told ≡ asked ++ one ∷ [] → Planned seen next told (ds ++ d ∷ [])
planned_more seen now next asked told one ds d h nodes is told_is =
    let size : length now ≡ 0 + count_of ds = omega (arith, ap (λ (list : List Node). length list) h.nodes, length-disjunct_nodes seen 0 ds) in record {
      nodes = nodes ∙ ap (λ (n : ℕ). now ++ nodes_in_all seen n (pieces d)) size ∙ ap (λ (list : List Node). list ++ nodes_in_all seen (0 + count_of ds) (pieces d)) h.nodes ∙ sym (all_nodes_more seen 0 ds d);
      told = told_is ∙ ap (λ (a : List Asked). asked ++ a ∷ []) (is ∙ ap (λ (n : ℕ). asked_by_all seen n (pieces d)) size)
          ∙ ap (λ (list : List (List Asked)). list ++ asked_by_all seen (0 + count_of ds) (pieces d) ∷ []) h.told ∙ sym (all_asked_more seen 0 ds d);
    }

-- once all were, it is the plan
pub planned_all : (seen : Observed) (now : List Node) (asked : List (List Asked)) (ds : List (List Piece)) → Planned seen now asked ds → ◌≡◌ {A = Plan} (record { nodes = now; disjuncts = asked }) (plan_of seen ds)
planned_all seen now asked ds h = λ j. record { nodes = h.nodes j; disjuncts = h.told j }
