use Rattle.headers.proofs.Listing.{entry_sound, keys_fall}
use Rattle.headers.proofs.Session.list_rest.Goals as goal

pub listed-reply-requires : goal.listed-reply-requires
listed-reply-requires g c = entry_sound c.loop-reply.invariant.line c.in-Entry.is

pub loop-reply-smaller : goal.loop-reply-smaller
loop-reply-smaller g c = keys_fall c.loop-reply.invariant.line.replies.small c.in-Entry.is c.listed-reply.ensures
