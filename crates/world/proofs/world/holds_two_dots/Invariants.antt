use Rattle.std.proofs.Common.{◌≡◌, ◌&&◌, ◌||◌, drop}
use Rattle.world.specs.Name.{has_two_dots, begins_with_dot}
use Rattle.world.proofs.world.holds_two_dots.Given as goal

-- what is left has two dots in a row, or continues a dot that came last
abbrev pub invariant-loop-byte : goal.invariant-loop-byte
invariant-loop-byte l =
    has_two_dots l.name ≡ ((l.after_dot && begins_with_dot (drop l.byte-index l.name)) || has_two_dots (drop l.byte-index l.name))
