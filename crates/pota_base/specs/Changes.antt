-- What calls change of a source and of a sink.
use Rattle.std.specs.Prelude.{ℕ, List, Option}
use Rattle.pota_base.specs.declared.outside.Source.{Ghosts as SourceGhosts}
use Rattle.pota_base.specs.declared.outside.Sink.{Ghosts as SinkGhosts}

-- what a source has left or a sink holds, and its count of faults, before and after
pub record Change : Type 0 where
  pub before : Option (List ℕ)
  pub after : Option (List ℕ)
  pub faults_before : ℕ
  pub faults_after : ℕ

abbrev pub change_of : (before after : Option (List ℕ)) → (faults_before faults_after : ℕ) → Change
change_of before after faults_before faults_after = record {
  before = before;
  after = after;
  faults_before = faults_before;
  faults_after = faults_after;
}

abbrev pub of_source : {S : Type 0} → SourceGhosts S → S → S → Change
of_source g old new = record {
  before = g.left old;
  after = g.left new;
  faults_before = g.faults old;
  faults_after = g.faults new;
}

abbrev pub of_sink : {O : Type 0} → SinkGhosts O → O → O → Change
of_sink g old new = record {
  before = g.held old;
  after = g.held new;
  faults_before = g.faults old;
  faults_after = g.faults new;
}

-- a count of faults, before and after
pub record Counts : Type 0 where
  pub before : ℕ
  pub after : ℕ

abbrev pub counts_of : (before after : ℕ) → Counts
counts_of before after = record { before = before; after = after }

abbrev pub faults_of : Change → Counts
faults_of c = counts_of c.faults_before c.faults_after

-- what a source has left, and its count of faults, before and after
pub record Left : Type 0 where
  pub rest : Option (List ℕ)
  pub before : ℕ
  pub after : ℕ

abbrev pub left_of : (rest : Option (List ℕ)) → (before after : ℕ) → Left
left_of rest before after = record { rest = rest; before = before; after = after }

abbrev pub left_by : Change → Left
left_by source = left_of source.after source.faults_before source.faults_after

-- what a source has left, and the counts of faults of source and sink
pub record Behind : Type 0 where
  pub rest : Option (List ℕ)
  pub source : Counts
  pub sink : Counts

abbrev pub behind_of : (rest : Option (List ℕ)) → (lf lf' of of' : ℕ) → Behind
behind_of rest lf lf' of of' = record {
  rest = rest;
  source = counts_of lf lf';
  sink = counts_of of of';
}

abbrev pub behind_both : (source sink : Change) → Behind
behind_both source sink = record {
  rest = source.after;
  source = faults_of source;
  sink = faults_of sink;
}
