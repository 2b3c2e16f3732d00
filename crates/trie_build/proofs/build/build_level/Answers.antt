-- The builder at the root.
use native.Mathlib.Omega.{arith}
use Prim.Native.Nat.{◌*◌, ◌-◌}
use mathlib.Core.Path.{◌≡◌, ap, ◌∙◌}
use mathlib.Core.List.{map}
use lib.ListN.{length, take, drop, length-drop}
use lib.Seq.{length-take-le}
use Rattle.entries.specs.Slots.{slot_size, slot_key}
use Rattle.trie_theory.specs.Dimensions.{root}
use Rattle.trie_sets.specs.Sets.{slots_of}
use Rattle.trie_sets.proofs.Slotted.{slots_even}
use Rattle.trie_build.specs.Steps.{Ready, trie_bytes}
use Rattle.trie_build.proofs.Frames.{level_built}
use Rattle.trie_build.proofs.Level.{level_none, root_ready, root_writes}
use Rattle.trie_build.proofs.build.build_level.Goals.{After-split_at_mut-room}
use Rattle.trie_build.proofs.build.build_level.Goals as goal

pub returns-then-n-eq0 : goal.returns-then-n-eq0
returns-then-n-eq0 c = let a = c.args in level_none a.s.now a.out a.slots a.scratch a.n a.tau c.if-n-eq0.true

-- the slots that are lent, and the room before them
ready : (c : After-split_at_mut-room) → Ready (c.args.slots - c.args.out) (slots_of (take (c.args.n * slot_size) c.split_at_mut-room.result.1.now)) c.args.tau root 0 0
ready c =
    let a = c.args in
    let r = c.requires in
    root_ready a.s.now a.slots a.scratch a.n a.tau r.0 r.2 r.3 c.split_at_mut-front.ensures.front c.split_at_mut-room.ensures.back (a.slots - a.out)
    (omega (arith, c.if-n-eq0.false)) (omega (arith, r.1)) r.4

set_long : (c : After-split_at_mut-room) → length (take (c.args.n * slot_size) c.split_at_mut-room.result.1.now) ≡ c.args.n * slot_size
set_long c =
    length-take-le (c.args.n * slot_size) c.split_at_mut-room.result.1.now
    (omega (arith, c.requires.2, c.split_at_mut-room.ensures.back_len, c.split_at_mut-front.ensures.front_len))

scratch_long : (c : After-split_at_mut-room) → length (take (c.args.n * slot_size) c.split_at_mut-front.result.1.now) ≡ c.args.n * slot_size
scratch_long c =
    length-take-le (c.args.n * slot_size) c.split_at_mut-front.result.1.now (omega (arith, c.requires.3, c.split_at_mut-front.ensures.back_len))

pub build-requires : goal.build-requires
build-requires c =
    let a = c.args in
    let r = c.requires in
    let d = (goal.at.build-requires c).After-split_at_mut-room in
    let m = c.split_at_mut-room in
    let room = m.result.0.now in
    let l : length (take (length room - a.out) (drop a.out room)) ≡ a.slots - a.out =
    length-take-le (length room - a.out) (drop a.out room) (rw length-drop (omega arith)) ∙ omega (arith, m.ensures.front_len) in
    (rw l (ready d), rw (slots_even _ a.n (set_long d)) (set_long d), omega (arith, set_long d, scratch_long d))

pub returns : goal.returns
returns c =
    let a = c.args in
    let r = c.requires in
    let d = (goal.at.returns c).After-split_at_mut-room in
    let f = c.split_at_mut-front in
    let m = c.split_at_mut-room in
    let set = take (a.n * slot_size) m.result.1.now in
    let e = root_writes a.s.now a.slots a.scratch a.n a.tau r.0 r.2 r.3 f.ensures.front m.ensures.back (omega (arith, c.if-n-eq0.false)) in
    let b =
    level_built a.s.now a.out a.slots a.scratch a.n (trie_bytes a.tau root 0 0 (map slot_key (slots_of set))) f.result.0.now f.result.1.now m.result.0.now m.result.1.now
    f.ensures.value f.ensures.front_len m.ensures.value m.ensures.front_len
    (omega (arith, (ready d).fits, r.1)) (omega (arith, r.2, m.ensures.back_len, f.ensures.front_len)) (omega (arith, r.3, f.ensures.back_len)) c.build.new.out c.build.new.slots c.build.new.scratch
    c.build.ensures.0 (c.build.auto.slots ∙ set_long d) (c.build.auto.scratch ∙ scratch_long d) in
    (rw e at b, c.build.ensures.1 ∙ ap length e)
