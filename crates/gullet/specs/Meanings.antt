-- What a token means now, and what expansion makes of it (The TeXbook, chapter 20; tex.web, parts 25 and 26). A name of
-- the tables that expansion knows and doesn't carry out yet is undefined.
use Rattle.std.specs.Prelude.{◌≡◌, ℕ, Bool, true, false, ◌==◌, ◌&&◌, ◌||◌, not, is_some, Option, Some, None, if◌then◌else◌}
use Rattle.tokens.specs.Codes.{noexpand_code, string_code, meaning_code, if_code, ifcat_code, ifx_code, ifcase_code, input_code, endinput_code, expandafter_code, csname_code, number_code, romannumeral_code, jobname_code, ifnum_code, ifodd_code, ifvmode_code, ifhmode_code, ifmmode_code, ifinner_code, iftrue_code, iffalse_code, else_code, or_code, fi_code, pretolerance_code, errorcontextlines_code, count_code, muskip_code, catcode_code, delcode_code, inputlineno_code, the_code, relax_code, unexpanded_code, etex_revision_code}
use Rattle.tokens.specs.declared.token.Token.{Token}
use Rattle.tokens.specs.declared.token.Token.TheVariants as token
use Rattle.tokens.specs.declared.meaning.Meaning.{Meaning}
use Rattle.tokens.specs.declared.meaning.Meaning.TheVariants as meaning
use Rattle.save_groups.specs.declared.key.Key.{Key}
use Rattle.save_groups.specs.declared.key.Key.TheVariants as key
use Rattle.save_groups.specs.declared.value.Value.{Value}
use Rattle.save_groups.specs.declared.value.Value.TheVariants as value
use Rattle.save_groups.specs.Environments.{Copies}
use Rattle.scan_nums.specs.Starts.{is_from_to, is_asked, is_expression}
use Rattle.gullet.specs.declared.task.Task.{Task}
use Rattle.gullet.specs.declared.task.Task.TheVariants as task
use Rattle.gullet.specs.declared.task.Test.{Test}
use Rattle.gullet.specs.declared.task.Test.TheVariants as test
use Rattle.gullet.specs.declared.task.ModeTest.TheVariants as mode
use Rattle.gullet.specs.declared.task.Numerals.TheVariants as numerals
use Rattle.gullet.specs.declared.task.Part.TheVariants as part
use Rattle.gullet.specs.declared.task.Simple.{Simple}
use Rattle.gullet.specs.declared.task.Simple.TheVariants as simple
use Rattle.gullet.specs.declared.task.BranchWord.TheVariants.{Fi, Else, Or}

-- the conditions that are decided, by the codes of their names
abbrev pub test_of : ℕ → Option Test
test_of code =
    if code == if_code then Some (test.Alike part.Code)
    else if code == ifcat_code then Some (test.Alike part.Category)
    else if code == ifnum_code then Some test.Number
    else if code == ifodd_code then Some test.Odd
    else if code == ifvmode_code then Some (test.Mode mode.Vertical)
    else if code == ifhmode_code then Some (test.Mode mode.Horizontal)
    else if code == ifmmode_code then Some (test.Mode mode.Math)
    else if code == ifinner_code then Some (test.Mode mode.Inner)
    else if code == ifx_code then Some test.SameMeaning
    else if code == iftrue_code then Some (test.Always true)
    else if code == iffalse_code then Some (test.Always false)
    else if code == ifcase_code then Some test.Case
    else None

-- the names of which one thing is done
abbrev pub simple_of : ℕ → Option Simple
simple_of code =
    if code == endinput_code then Some simple.EndInput
    else if code == noexpand_code then Some simple.NoExpand
    else if code == string_code then Some simple.TokenText
    else if code == meaning_code then Some simple.MeaningText
    else if code == jobname_code then Some simple.JobName
    else None

-- the names whose expansion is carried out
abbrev pub is_carried_out : ℕ → Bool
is_carried_out code =
    (code == input_code) || ((code == the_code) || ((code == expandafter_code) || ((code == csname_code) || ((code == number_code)
    || ((code == romannumeral_code) || (is_from_to else_code fi_code code || (is_some (test_of code) || is_some (simple_of code))))))))

-- the names that are expanded: \input to \fi, and \unexpanded to \eTeXrevision
abbrev pub is_expandable_code : ℕ → Bool
is_expandable_code code = is_from_to input_code fi_code code || is_from_to unexpanded_code etex_revision_code code

-- the quantities that are looked at: the integer parameters, the registers of numbers and glue, the codes of characters, and
-- the number of the line
abbrev pub is_looked_at : ℕ → Bool
is_looked_at code =
    is_from_to pretolerance_code errorcontextlines_code code || (is_from_to count_code muskip_code code
    || (is_from_to catcode_code delcode_code code || (code == inputlineno_code)))

-- the names that are still to come
abbrev pub is_missing : ℕ → Bool
is_missing code =
    (is_expandable_code code && not (is_carried_out code)) || ((is_asked code || is_expression code) && not (is_looked_at code))

abbrev pub known_primitive : ℕ → Meaning
known_primitive code = if is_missing code then meaning.Undefined else meaning.Primitive code

abbrev pub known : Meaning → Meaning
known meaning.Undefined = meaning.Undefined
known (meaning.Primitive code) = known_primitive code
known (meaning.Macro m) = meaning.Macro m
known (meaning.Char cat byte) = meaning.Char cat byte
known (meaning.CharDef byte) = meaning.CharDef byte
known (meaning.MathCharDef number) = meaning.MathCharDef number
known (meaning.Register kind number) = meaning.Register kind number
known (meaning.Font font) = meaning.Font font

-- the meaning that a value is; no other value is one
abbrev pub as_meaning : Value → Meaning
as_meaning (value.Number n) = meaning.Undefined
as_meaning (value.Glue g) = meaning.Undefined
as_meaning (value.Tokens list) = meaning.Undefined
as_meaning (value.Meaning m) = m
as_meaning (value.Boxed b) = meaning.Undefined
as_meaning (value.Table ns) = meaning.Undefined

abbrev pub meaning_at : Copies → Key → Meaning
meaning_at c k = known (as_meaning (c.last k).value)

-- what a token means now
abbrev pub meaning_of : Copies → Token → Meaning
meaning_of c (token.Char cat byte) = meaning.Char cat byte
meaning_of c (token.Active byte) = meaning_at c (key.Active byte)
meaning_of c (token.Name id) = meaning_at c (key.Name id)
meaning_of c (token.Arg number) = meaning.Undefined
meaning_of c (token.Frozen number) = meaning.Primitive relax_code

-- ---- what is expanded, and to what phrase it leads

abbrev pub as_task : Option Test → Option Simple → Option Task
as_task (Some asks) thing = Some (task.If asks)
as_task None None = None
as_task None (Some thing) = Some (task.Simple thing)

abbrev pub expansion_of_code : Token → ℕ → Option Task
expansion_of_code t code =
    if code == input_code then Some (task.Input t)
    else if code == the_code then Some (task.The false)
    else if code == expandafter_code then Some task.ExpandAfter
    else if code == csname_code then Some task.NameText
    else if code == number_code then Some (task.NumberText numerals.Decimal)
    else if code == romannumeral_code then Some (task.NumberText numerals.Roman)
    else if code == else_code then Some (task.BranchEnd t Else)
    else if code == or_code then Some (task.BranchEnd t Or)
    else if code == fi_code then Some (task.BranchEnd t Fi)
    else as_task (test_of code) (simple_of code)

abbrev pub expansion : Token → Meaning → Option Task
expansion t meaning.Undefined = Some (task.Undefined t)
expansion t (meaning.Primitive code) = expansion_of_code t code
expansion t (meaning.Macro m) = Some (task.Call t m)
expansion t (meaning.Char cat byte) = None
expansion t (meaning.CharDef byte) = None
expansion t (meaning.MathCharDef number) = None
expansion t (meaning.Register kind number) = None
expansion t (meaning.Font font) = None

-- a token that isn't to be expanded is \relax to whoever takes it, where it would be expanded (tex.web 358)
abbrev pub marked : Token → Meaning → Meaning
marked t m = if is_some (expansion t m) then meaning.Primitive relax_code else m

abbrev pub taken_as : Bool → Token → Meaning → Meaning
taken_as true t m = marked t m
taken_as false t m = m

unfoldable pub taken_meaning : Copies → Token → Bool → Meaning
taken_meaning c t noexpand = taken_as noexpand t (meaning_of c t)

-- a macro that may not stand where no outer one may
abbrev pub is_outer : Meaning → Bool
is_outer meaning.Undefined = false
is_outer (meaning.Primitive code) = false
is_outer (meaning.Macro m) = m.outer
is_outer (meaning.Char cat byte) = false
is_outer (meaning.CharDef byte) = false
is_outer (meaning.MathCharDef number) = false
is_outer (meaning.Register kind number) = false
is_outer (meaning.Font font) = false

-- the entry that has the meaning of a name or an active character
abbrev pub key_of : Token → Option Key
key_of (token.Char cat byte) = None
key_of (token.Active byte) = Some (key.Active byte)
key_of (token.Name id) = Some (key.Name id)
key_of (token.Arg number) = None
key_of (token.Frozen number) = None

-- the meaning of a token that is taken is the one that an environment holds, or another one
abbrev pub KnownBy : Bool → Token → Meaning → Option Meaning → Type 0
KnownBy noexpand t m None = taken_as noexpand t (known m) ≡ m
KnownBy noexpand t m (Some other) = taken_as noexpand t (known m) ≡ other

-- the meaning is the one that an environment holds for this entry
abbrev pub HeldBy : Copies → Token → Bool → Option Key → Type 0
HeldBy c t noexpand None = ⊥
HeldBy c t noexpand (Some k) = taken_meaning c t noexpand ≡ as_meaning (c.last k).value

-- the meaning of a token that no environment holds, or none where the environment's holds
abbrev pub HasFixed : Copies → Token → Bool → Option Meaning → Type 0
HasFixed c t noexpand (Some m) = taken_meaning c t noexpand ≡ m
HasFixed c t noexpand None = HeldBy c t noexpand (key_of t)
