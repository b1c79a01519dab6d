use borrow.Author.Rules.{rules}
use Rattle.fusing.proofs.Joining.{fuse_left_none, fuse_right_none, less_two, less_one, room_two, room_one, twin_inner, twin_right, twin_left, ends_fused, fused_same, fused_right, fused_left}
use Rattle.fusing.proofs.+remove_fuse.Goals.{in_default-2-via-in-Black+in_default, in_default-2-via-in-Red+in_default}
use Rattle.fusing.proofs.+remove_fuse.Goals as goal

pub returns-in_default : goal.returns-in_default
returns-in_default t c = fuse_left_none c.args.h c.in_default.ensures c.copy.ensures

pub returns-in_default-look : goal.returns-in_default-look
returns-in_default-look t c = fuse_right_none c.args.h c.in_default-look.ensures c.copy-in_default-look.ensures

pub remove_fuse-m-requires : goal.remove_fuse-m-requires
remove_fuse-m-requires t c =
    let a = c.in-Some.ensures in
    let b = c.in-Some-look.ensures in
    (less_one a b c.requires.twin c.decreases, (room_one a b c.requires.twin c.requires.room, search (twin_left a b c.requires.twin, twin_right a b c.requires.twin)))

pub remove_fuse-m-requires-in-Red-Black : goal.remove_fuse-m-requires-in-Red-Black
remove_fuse-m-requires-in-Red-Black t c =
    let a = c.in-Some.ensures in
    let b = c.in-Some-look.ensures in
    (less_one a b c.requires.twin c.decreases, (room_one a b c.requires.twin c.requires.room, search (twin_left a b c.requires.twin, twin_right a b c.requires.twin)))

pub remove_fuse-m-requires-in_default-2 : goal.remove_fuse-m-requires-in_default-2
remove_fuse-m-requires-in_default-2 t c =
    let a = c.in-Some.ensures in
    let b = c.in-Some-look.ensures in
    (less_two a b c.requires.twin c.decreases, (room_two a b c.requires.twin c.requires.room, twin_inner a b c.requires.twin))

pub fuse_join-requires-clause-ends : goal.fuse_join-requires-clause-ends
fuse_join-requires-clause-ends t c =
    ends_fused c.in-Some.ensures c.in-Some-look.ensures c.requires.twin
    (elim c.in_default-2.branch [ in_default-2-via-in-Black+in_default w ↦ search rules | in_default-2-via-in-Red+in_default w ↦ search rules ])
    c.remove_fuse-m-in_default-2.ensures

pub returns-in-Black-Red : goal.returns-in-Black-Red
returns-in-Black-Red t c = fused_right c.in-Some.ensures c.in-Some-look.ensures c.requires.twin c.in-Black-Red.is-0 c.in-Black-Red.is-1 c.remove_fuse-m.ensures c.push.ensures

pub returns-in-Red-Black : goal.returns-in-Red-Black
returns-in-Red-Black t c = fused_left c.in-Some.ensures c.in-Some-look.ensures c.requires.twin c.in-Red-Black.is-0 c.in-Red-Black.is-1 c.remove_fuse-m-in-Red-Black.ensures c.push-in-Red-Black.ensures

pub returns-in_default-2 : goal.returns-in_default-2
returns-in_default-2 t c =
    fused_same c.in-Some.ensures c.in-Some-look.ensures c.requires.twin
    (elim c.in_default-2.branch [ in_default-2-via-in-Black+in_default w ↦ search rules | in_default-2-via-in-Red+in_default w ↦ search rules ])
    c.remove_fuse-m-in_default-2.ensures c.fuse_join.ensures
