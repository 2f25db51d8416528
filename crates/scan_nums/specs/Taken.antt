-- What is handed to an automaton that reads a phrase.
use Rattle.tokens.specs.declared.token.Token.{Token}
use Rattle.tokens.specs.declared.meaning.Meaning.{Meaning}
use Rattle.scan_nums.specs.declared.number.Number.{Number}

-- a token with the meaning that it has when it is taken, the value that was asked for, or the word to go on
-- behind a trouble that is passed over
pub data Taken : Type 0 where
  Seen : Token → Meaning → Taken
  Told : Number → Taken
  Resumed : Taken
