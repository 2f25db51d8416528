-- What a turn of a phrase found, as the code tells it: a token that was taken goes without its meaning, which is looked up
-- where it is needed.
use Rattle.tokens.specs.declared.token.Token.{Token}
use Rattle.tokens.specs.declared.meaning.Meaning.{Meaning}
use Rattle.asking.specs.Did.{Did}
use Rattle.save_groups.specs.Environments.{Copies}
use Rattle.phrases.specs.Phrases.{Found}
use Rattle.phrases.specs.Phrases as found
use Rattle.gullet.specs.declared.context.Context.{Context}
use Rattle.gullet.specs.declared.task.Task.{Task}
use Rattle.gullet.specs.declared.task.Told.{Told}
use Rattle.gullet.specs.declared.task.Want.{Want}
use Rattle.gullet.specs.declared.task.Want.TheVariants.{Raw, Expanded, Character, Act, Inner, Gives, Wrong}
use Rattle.gullet.specs.declared.turn.Taking.{Taking}
use Rattle.gullet.specs.declared.turn.Taking.TheVariants as taking
use Rattle.gullet.specs.declared.turn.Turned.{Turned}
use Rattle.gullet.specs.declared.turn.Turned.TheVariants as turned
use Rattle.gullet.specs.Expansion.{raw_found, expanded_found, character_found}
use Rattle.gullet.specs.Expansion as expansion
use Rattle.gullet.specs.Meanings.{taken_meaning}
use Rattle.gullet.specs.State.{State}
use Rattle.gullet.specs.Wants.{Taken, Tok, Was}

-- the token has the meaning of the one for which it stands
abbrev pub found_of : Copies → Turned → Found Task Taken Told
found_of c (turned.Token token of noexpand) = found.More (Tok token (taken_meaning c of noexpand))
found_of c (turned.Told told) = found.More (Was told)
found_of c turned.Again = found.Again
found_of c (turned.Inner task) = found.Inner task
found_of c (turned.Aside task) = found.Aside task
found_of c (turned.Ends told) = found.Ends told

-- ---- what a turn may find, by what is wanted

-- a token is wanted
abbrev pub TakesToken : Want → Type 0
TakesToken Raw = Unit {0}
TakesToken Expanded = Unit {0}
TakesToken Character = Unit {0}
TakesToken (Act act) = ⊥
TakesToken (Inner inner) = ⊥
TakesToken (Gives told back) = ⊥
TakesToken (Wrong kind) = ⊥

-- a token is wanted, in front of which expansions are read
abbrev pub Expands : Want → Type 0
Expands Raw = ⊥
Expands Expanded = Unit {0}
Expands Character = ⊥
Expands (Act act) = ⊥
Expands (Inner inner) = ⊥
Expands (Gives told back) = ⊥
Expands (Wrong kind) = ⊥

-- something is done
abbrev pub Acts : Want → Type 0
Acts Raw = ⊥
Acts Expanded = ⊥
Acts Character = ⊥
Acts (Act act) = Unit {0}
Acts (Inner inner) = ⊥
Acts (Gives told back) = ⊥
Acts (Wrong kind) = ⊥

-- an inner phrase is wanted
abbrev pub ReadsInner : Want → Type 0
ReadsInner Raw = ⊥
ReadsInner Expanded = ⊥
ReadsInner Character = ⊥
ReadsInner (Act act) = ⊥
ReadsInner (Inner inner) = Unit {0}
ReadsInner (Gives told back) = ⊥
ReadsInner (Wrong kind) = ⊥

-- a turn of a phrase that wants this may find that
abbrev pub Fits : Turned → Want → Type 0
Fits (turned.Token token of noexpand) want = TakesToken want
Fits (turned.Told told) want = Acts want
Fits turned.Again want = TakesToken want
Fits (turned.Inner task) want = ReadsInner want
Fits (turned.Aside task) want = Expands want
Fits (turned.Ends told) want = Unit {0}

-- ---- the ways in which a token is taken

abbrev pub want_of : Taking → Want
want_of taking.Raw = Raw
want_of taking.Expanded = Expanded
want_of taking.Character = Character

-- what a token comes to, by the way in which it is taken
abbrev pub finding : Context → Taking → Token → Meaning → State → Did State expansion.Turned
finding context taking.Raw = raw_found context
finding context taking.Expanded = expanded_found context
finding context taking.Character = character_found context
