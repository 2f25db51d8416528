-- Groups (The TeXbook, chapters 5 and 24; tex.web 274, 280 to 284, 326, 1063 to 1069).
use Rattle.std.specs.Prelude.{ℕ, Bool, ◌==◌, nat_le, if◌then◌else◌, List, [], length, Option, Some, None, Ok, Err}
use Rattle.tokens.specs.declared.cap.Cap.TheVariants.{Groups}
use Rattle.tokens.specs.declared.kind.Kind.TheVariants.{TooManyRightBraces, GroupMismatch}
use Rattle.tokens.specs.declared.stop.Stop.TheVariants.{Trouble, Capacity}
use Rattle.tokens.specs.declared.token.Token.{Token}
use Rattle.asking.specs.Did.{Did, ◌>>=◌}
use Rattle.pending.specs.Pending.{with_list, line_number}
use Rattle.save_groups.specs.Environments.{Copies, OpenGroup, entered, left, innermost, with_after}
use Rattle.gullet.specs.RawToken.{one_token}
use Rattle.gullet.specs.State.{State}
use Rattle.gullet.specs.Troubles.{pass}
use Rattle.commands.specs.declared.command.Brace.{Brace}
use Rattle.commands.specs.declared.command.Brace.TheVariants as brace

-- the number of \currentgrouptype
abbrev pub group_kind : Brace → ℕ
group_kind brace.Brace = 1
group_kind brace.Word = 14

abbrev pub with_copies : Copies → State → State
with_copies copies s = record s { copies = copies }

-- a group begins at this line; 255 may be open
unfoldable pub begin_group : Brace → State → Did State (Unit {0})
begin_group how s =
    if nat_le 255 (length s.copies.groups) then Err (Capacity Groups, s)
    else Ok (tt, with_copies (entered (group_kind how) (line_number s.pending) s.copies) s)

-- the tokens that wait for a group's end
abbrev pub waiting : Option OpenGroup → List Token
waiting None = []
waiting (Some group) = group.after

-- the innermost group ends: the values from outside it are in force again, and behind that its tokens stand in front
abbrev pub group_ended : State → State
group_ended s = record s { copies = left s.copies; pending = with_list (waiting (innermost s.copies)) s.pending }

-- no group is open
abbrev pub no_group : Brace → State → Did State (Unit {0})
no_group brace.Brace s = pass TooManyRightBraces s
no_group brace.Word s = Err (Trouble GroupMismatch, s)

-- a group ends as it began
abbrev pub ended_by : Brace → Option OpenGroup → State → Did State (Unit {0})
ended_by how None s = no_group how s
ended_by how (Some group) s = if group.kind == group_kind how then Ok (tt, group_ended s) else Err (Trouble GroupMismatch, s)

unfoldable pub end_group : Brace → State → Did State (Unit {0})
end_group how s = ended_by how (innermost s.copies) s

-- \aftergroup: a token waits for the end of the innermost group; outside all groups it is only taken
abbrev pub let_wait : (Token × Bool) × State → Did State (Unit {0})
let_wait (raw, s) = Ok (tt, with_copies (with_after raw.0 s.copies) s)

unfoldable pub after_group : State → Did State (Unit {0})
after_group s = one_token s >>= let_wait
