use Rattle.std.specs.Prelude.{◌≡◌, ◌≤◌, length, drop}
use Rattle.pending.specs.Pending.{with_list}
use Rattle.commands.proofs.groups.put_in_front.Given as goal

-- the tokens from here on stand in front
abbrev pub invariant-tokens : goal.invariant-tokens
invariant-tokens l =
    (l.left ≤ length l.tokens) × (l.gullet ≡ record l.initial.gullet { pending = with_list (drop l.left l.tokens) l.initial.gullet.pending })

abbrev pub decreases-tokens : goal.decreases-tokens
decreases-tokens l = l.left
