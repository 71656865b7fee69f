-- One part among those that are numbered, by what it is.
use Rattle.std.proofs.Common.{◌≡◌, ℕ, ◌+◌, ◌≤◌, true, List, [], ◌∷◌, ◌++◌, length, refl, sym, ◌∙◌, ap, subst, arith, append-nil, append_assoc}
use Rattle.std.proofs.lemmas.List.{length-append}
use Rattle.rctl_grammar.specs.declared.tree.Operator.{Operator}
use Rattle.pull_system.specs.declared.pull.Pull.{Pull}
use Rattle.rctl_parts.specs.Pieces.{Atom, Piece, atom, temporal, pieces}
use Rattle.rctl_parts.specs.MadeFor.{Scope, EachFits, PieceFits, PiecesFit}
use Rattle.part_pulls.specs.declared.observed.Observed.{Observed}
use Rattle.part_pulls.specs.Systems.{is_atom, IsAtomOf}
use Rattle.std.specs.Prelude.{Bool}
use Rattle.pota_base.specs.Limits.{most_parts}
use Rattle.certificate_nodes.specs.declared.plan.Asked.{Asked}
use Rattle.certificate_nodes.specs.declared.plan.Asked.TheVariants as asked
use Rattle.certificate_nodes.specs.declared.plan.Node.{Node}
use Rattle.certificate.specs.Numbering.{nodes_of, operand_nodes, asked_by, asked_by_all, nodes_in, nodes_in_all, disjunct_count}
use Rattle.certificate.proofs.Standing.{count_all}

-- ---- an atom

pub atom_nodes : (seen : Observed) (nodes : List Node) (p : Piece) → is_atom p ≡ true → nodes ≡ nodes ++ nodes_in seen (length nodes) p
atom_nodes seen nodes (atom a) h = sym (append-nil nodes)
atom_nodes seen nodes (temporal o ps) h = absurd (cc)

pub atom_asks : (seen : Observed) (before : ℕ) (p : Piece) (pulls : List Pull) (truth : Bool) → is_atom p ≡ true → ((a : Atom) → p ≡ atom a → IsAtomOf seen a pulls truth)
    → asked.Own pulls ≡ asked_by seen before p
atom_asks seen before (atom a) pulls truth h is = ap (λ (list : List Pull). asked.Own list) (is a refl).own
atom_asks seen before (temporal o ps) pulls truth h is = absurd (cc)

-- ---- an operator over an operand

pub operand_fits : (scope : Scope) (ps : List Piece) → PiecesFit scope (pieces ps) → EachFits scope ps
operand_fits scope [] h = h
operand_fits scope (p ∷ ps) h = (h.0, operand_fits scope ps h.1)

pub temporal_fits : (scope : Scope) (p : Piece) (o : Operator) (ps : List Piece) → p ≡ temporal o (pieces ps) → PieceFits scope p → EachFits scope ps
temporal_fits scope p o ps is fits = operand_fits scope ps (subst (PieceFits scope) is fits).1

pub temporal_room : (p : Piece) (o : Operator) (ps : List Piece) (n : ℕ) → p ≡ temporal o (pieces ps) → n + nodes_of p ≤ most_parts → n + disjunct_count ps ≤ 127
temporal_room p o ps n is few = omega (arith, ap nodes_of is, few)

pub temporal_count : (seen : Observed) (old inner : List Node) (ps : List Piece) → inner ≡ old ++ nodes_in_all seen (length old) (pieces ps) → length inner ≡ length old + operand_nodes (pieces ps)
temporal_count seen old inner ps is = ap (λ (list : List Node). length list) is ∙ length-append old (nodes_in_all seen (length old) (pieces ps)) ∙ ap (λ (n : ℕ). length old + n) (count_all seen (length old) (pieces ps))

-- its node stands behind those within its operand
pub temporal_nodes : (seen : Observed) (old inner new : List Node) (told : List Asked) (p : Piece) (o : Operator) (ps : List Piece) → p ≡ temporal o (pieces ps)
    → inner ≡ old ++ nodes_in_all seen (length old) (pieces ps) → told ≡ asked_by_all seen (length old) (pieces ps) → new ≡ inner ++ record { operator = o; parts = told } ∷ []
    → new ≡ old ++ nodes_in seen (length old) p
temporal_nodes seen old inner new told p o ps is nodes asks pushed =
    let own : List Asked → List Node = λ parts. record { operator = o; parts = parts } ∷ [] in
    pushed ∙ ap (λ (list : List Node). list ++ own told) nodes ∙ ap (λ (parts : List Asked). (old ++ nodes_in_all seen (length old) (pieces ps)) ++ own parts) asks
    ∙ append_assoc old (nodes_in_all seen (length old) (pieces ps)) (own (asked_by_all seen (length old) (pieces ps))) ∙ ap (λ (q : Piece). old ++ nodes_in seen (length old) q) (sym is)

pub temporal_asks : (seen : Observed) (old inner : List Node) (number : ℕ) (p : Piece) (o : Operator) (ps : List Piece) → p ≡ temporal o (pieces ps)
    → inner ≡ old ++ nodes_in_all seen (length old) (pieces ps) → number ≡ length inner → asked.Inner number ≡ asked_by seen (length old) p
temporal_asks seen old inner number p o ps is nodes number_is =
    ap (λ (n : ℕ). asked.Inner n) (number_is ∙ temporal_count seen old inner ps nodes) ∙ ap (λ (q : Piece). asked_by seen (length old) q) (sym is)
