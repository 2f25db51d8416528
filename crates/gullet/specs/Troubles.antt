-- Troubles that are passed over (tex.web, part 6, on errors that a run without a terminal goes on behind): the trouble is
-- told on a line of its own, and counted. The hundredth since the last end of a paragraph ends the run.
use Rattle.std.specs.Prelude.{◌+◌, ◌-◌, ◌^◌, nat_le, min, if◌then◌else◌, Ok, Err}
use Rattle.tokens.specs.declared.kind.Kind.{Kind}
use Rattle.tokens.specs.declared.kind.Kind.TheVariants.{UndefinedCs}
use Rattle.tokens.specs.declared.stop.Stop.TheVariants.{Trouble}
use Rattle.tokens.specs.declared.token.Token.{Token}
use Rattle.tokens.specs.Kind.{kind_text}
use Rattle.tokens.specs.TokenText.{token_shown}
use Rattle.asking.specs.Did.{Did}
use Rattle.gullet.specs.State.{State}
use Rattle.gullet.specs.Parameters.{new_line, escape}
use Rattle.gullet.specs.Report.{trouble_told}

-- told and counted
abbrev pub passed_over : Kind → State → State
passed_over kind s = record s {
  out = trouble_told (kind_text kind) (new_line s.copies) s.out;
  passed = record { total = min (s.passed.total + 1) (2 ^ 64 - 1); recent = s.passed.recent + 1 };
}

unfoldable pub pass : Kind → State → Did State (Unit {0})
pass kind s = if nat_le 99 s.passed.recent then Err (Trouble kind, s) else Ok (tt, passed_over kind s)

-- the trouble of a token without meaning names it
unfoldable pub pass_undefined : Token → State → Did State (Unit {0})
pass_undefined t s = pass (UndefinedCs (token_shown s.names (escape s.copies) t)) s
