-- The automaton for glue: what it waits for, and what it stands for.
use Rattle.std.specs.Prelude.{◌≡◌, Bool, true, false, ◌&&◌, List, [], ◌∷◌, ◌++◌}
use Rattle.tokens.specs.declared.token.Token.TheVariants as token
use Rattle.tokens.specs.declared.meaning.Meaning.TheVariants as meaning
use Rattle.scan_nums.specs.declared.verdict.Verdict.{Verdict}
use Rattle.scan_nums.specs.declared.verdict.Verdict.TheVariants.{Need, Ask, Sub, Done, DoneBefore, Trouble, Pass}
use Rattle.scan_nums.specs.declared.glue_scan.GlueScan.{GlueScan}
use Rattle.scan_nums.specs.Awaited.{Awaited}
use Rattle.scan_nums.specs.Taken.{Taken, Seen}
use Rattle.scan_nums.specs.Glue.{glue}
use Rattle.scan_nums.specs.GlueStanding.{glue_awaits, GlueStands}

abbrev pub awaits : GlueScan → Awaited
awaits scan = glue_awaits scan.state

-- whether the unit is mu, as it was said when the automaton was made
abbrev pub is_mu : GlueScan → Bool
is_mu scan = scan.mu

-- the automaton is one to which just this was handed, the earliest first
abbrev pub Stands : GlueScan → List Taken → Type 0
Stands scan taken = GlueStands scan.mu scan.state taken

-- ---- where a token is taken without expansion

-- a letter, and a name
abbrev pub a_letter : Taken
a_letter = Seen (token.Char 11 97) (meaning.Char 11 97)

abbrev pub a_name : Taken
a_name = Seen (token.Name (record { 0 = 0 })) meaning.Undefined

abbrev pub is_need : Verdict → Bool
is_need Need = true
is_need (Ask q) = false
is_need (Sub p) = false
is_need (Done n) = false
is_need (DoneBefore n back) = false
is_need (Trouble k) = false
is_need (Pass k back) = false

-- a number is missing
abbrev pub is_passed : Verdict → Bool
is_passed Need = false
is_passed (Ask q) = false
is_passed (Sub p) = false
is_passed (Done n) = false
is_passed (DoneBefore n back) = false
is_passed (Trouble k) = false
is_passed (Pass k back) = true

-- whether the next token is that of a character constant, which isn't expanded (tex.web 442): the letter a would be taken
-- there, and a name would be no number
abbrev pub wants_character : Bool → List Taken → Bool
wants_character mu taken = is_need (glue mu (taken ++ a_letter ∷ [])) && is_passed (glue mu (taken ++ a_name ∷ []))
