use Rattle.red_black_tree_map.proofs.Tests.{tested_ok, tested_err}
use Rattle.red_black_tree_map.proofs.tested.Goals as goal

pub returns : goal.returns
returns c =
    rw c.ok_or.ensures.value (record { ok = tested_ok c.args.ws.now c.test.result c.test.ensures; err = tested_err c.args.ws.now c.test.result c.test.ensures })
