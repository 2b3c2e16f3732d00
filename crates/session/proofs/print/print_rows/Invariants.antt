-- One row after another, each where the last one ended.
use mathlib.Core.Path.{◌≡◌}
use mathlib.Core.List.{map}
use Prim.Native.Nat.{◌*◌, ◌≤◌}
use lib.ListN.{length, take}
use Rattle.buffer.specs.Lists.{flat}
use Rattle.logline.specs.Sizes.{row_line_limit}
use Rattle.logline.specs.Spelling.{row_line, Wrote}
use Rattle.session.proofs.print.print_rows.Given as goal

abbrev pub invariant-loop-row : goal.invariant-loop-row
invariant-loop-row l = (length l.out ≡ length l.initial.out) × (l.at ≤ l.row-index * row_line_limit) × Wrote l.initial.out 0 (flat (map row_line (take l.row-index l.row-items))) l.out l.at
