-- Lemmas of the crates below that those above cite by this one.
pub use Rattle.batch_answers.proofs.Undone.{stated_asked, ran_nothing, ran_short}
