use Rattle.vector_clock.proofs.JoinedCounts.{joined_alone}
use Rattle.vector_clock.proofs.joined.Joined.joins_sender.Goals as goal

pub returns-in-Receive : goal.returns-in-Receive
returns-in-Receive c = λ joins. joined_alone c.args.self.now c.args.place c.args.event.now c.in-Receive.sender c.requires.before c.requires.place c.requires.own (c.joins_named.ensures joins)
