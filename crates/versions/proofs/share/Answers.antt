use Rattle.versions.proofs.Handing.{share_raisable}
use Rattle.versions.proofs.share.Goals as goal

pub count_up-requires : goal.count_up-requires
count_up-requires c = search share_raisable
