-- What was written of the nodes of a formula.
use Rattle.std.proofs.Common.{◌≡◌, ℕ, List, Bool, Option, refl, sym, ap, subst, ◌∙◌}
use Rattle.std.specs.Prelude.{Result, Ok, Err, IfOk, OnErr}
use Rattle.pota_base.specs.declared.fault.Failed.{Failed}
use Rattle.pota_base.specs.declared.fault.NoMemory.{NoMemory}
use Rattle.pota_base.specs.Outside.{IsPrefix}
use Rattle.pota_base.specs.Changes.{change_of}
use Rattle.rctl_parts.specs.Pieces.{Piece}
use Rattle.part_pulls.specs.declared.observed.Observed.{Observed}
use Rattle.certificate_next_line.specs.PassedOn.{NodesView, AreNodes}
use Rattle.certify.specs.Certifying.{nodes_of, HasFront, IsCertifying}
use Rattle.certify.specs.inside.Written.{text_of, WroteFront, IsWritten}

front-of : (held held' : Option (List ℕ)) (seen : Observed) (ds : List (List Piece)) (formula : List ℕ) → WroteFront held held' formula (nodes_of seen ds) → HasFront held held' seen ds formula
front-of held held' seen ds formula h = record {
  part = h.part;
  front = λ text told is. subst (IsPrefix h.part) (sym is.text_is) (h.front is.lines told is.nodes is.whole);
  written = h.written;
}

ended-of : (r : Result Bool Failed) (held held' : Option (List ℕ)) (before now : ℕ) (seen : Observed) (ds : List (List Piece)) (formula : List ℕ) → AreNodes (nodes_of seen ds)
    → IsWritten r (change_of held held' before now) formula (nodes_of seen ds) → IsCertifying r (change_of held held' before now) seen ds formula
ended-of (Ok told) held held' before now seen ds formula nodes h = record {
  text = text_of formula h.lines;
  certificate = record { nodes = nodes; lines = h.lines; whole = h.whole; text_is = refl };
  written = h.written;
  calm = h.calm;
}
ended-of (Err failed) held held' before now seen ds formula nodes h = record { later = h.later; rose = h.rose; part = front-of held held' seen ds formula h.part }

pub certified_of : (r : Result (Result Bool Failed) NoMemory) (held held' : Option (List ℕ)) (before now : ℕ) (seen : Observed) (ds : List (List Piece)) (formula : List ℕ) (v : NodesView)
    → v ≡ nodes_of seen ds → AreNodes v → IfOk r (λ ended. IsWritten ended (change_of held held' before now) formula v) → IfOk r (λ ended. IsCertifying ended (change_of held held' before now) seen ds formula)
certified_of (Ok ended) held held' before now seen ds formula v same nodes h =
    ended-of ended held held' before now seen ds formula (subst AreNodes same nodes) (subst (λ (u : NodesView). IsWritten ended (change_of held held' before now) formula u) same h)
certified_of (Err e) held held' before now seen ds formula v same nodes h = tt

pub memory_of : (r : Result (Result Bool Failed) NoMemory) (held held' : Option (List ℕ)) (seen : Observed) (ds : List (List Piece)) (formula : List ℕ) (v : NodesView)
    → v ≡ nodes_of seen ds → OnErr r (WroteFront held held' formula v) → OnErr r (HasFront held held' seen ds formula)
memory_of (Ok ended) held held' seen ds formula v same h = tt
memory_of (Err e) held held' seen ds formula v same h = front-of held held' seen ds formula (subst (λ (u : NodesView). WroteFront held held' formula u) same h)

pub nothing_of : (held : Option (List ℕ)) (seen : Observed) (ds : List (List Piece)) (formula : List ℕ) → WroteFront held held formula (nodes_of seen ds) → HasFront held held seen ds formula
nothing_of held seen ds formula h = front-of held held seen ds formula h
