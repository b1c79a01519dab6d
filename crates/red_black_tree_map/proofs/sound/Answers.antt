use Rattle.red_black_tree_map.proofs.Tests.{sound_told}
use Rattle.red_black_tree_map.proofs.sound.Goals as goal

pub returns : goal.returns
returns c = search (sound_told c.test.result c.test.ensures)
