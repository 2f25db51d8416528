-- What the category of a byte makes the eye do (The TeXbook, chapter 8; tex.web 344).
use Rattle.std.specs.Prelude.{ℕ, Bool, true, false, ◌==◌, if◌then◌else◌}
use Rattle.catcode_eye.specs.declared.role.Role.{Role}
use Rattle.catcode_eye.specs.declared.role.Role.TheVariants.{Escape, EndOfLine, Ignored, Space, Active, Comment, Invalid, Plain}
use Rattle.catcode_eye.specs.declared.seen.State.{State}
use Rattle.catcode_eye.specs.declared.seen.State.TheVariants.{NewLine, MidLine, SkipBlanks}

-- categories 0, 5, 9, 10, 13, 14 and 15 have a role of their own, all others are seen as they are
abbrev pub role_of : ℕ → Role
role_of cat =
    if cat == 0 then Escape
    else if cat == 5 then EndOfLine
    else if cat == 9 then Ignored
    else if cat == 10 then Space
    else if cat == 13 then Active
    else if cat == 14 then Comment
    else if cat == 15 then Invalid
    else Plain

-- whether blanks give nothing
abbrev pub skips_blanks : State → Bool
skips_blanks NewLine = true
skips_blanks MidLine = false
skips_blanks SkipBlanks = true

-- whether a byte gives nothing, and the eye goes on behind it
abbrev pub is_passed : Role → State → Bool
is_passed Escape state = false
is_passed EndOfLine state = false
is_passed Ignored state = true
is_passed Space state = skips_blanks state
is_passed Active state = false
is_passed Comment state = false
is_passed Invalid state = false
is_passed Plain state = false
