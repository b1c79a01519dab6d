use Rattle.headers.proofs.Listing.{keys_left, Giving}
use Rattle.headers.proofs.Session.list_rest.Given as goal

abbrev pub invariant-loop-reply : goal.invariant-loop-reply
invariant-loop-reply g l = Giving l.self.words l.slot l.reply

abbrev pub decreases-loop-reply : goal.decreases-loop-reply
decreases-loop-reply g l = keys_left l.reply
