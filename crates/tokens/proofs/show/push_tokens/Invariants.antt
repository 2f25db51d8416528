-- The text of the tokens so far.
use Rattle.std.proofs.Common.{◌≡◌, ◌++◌, take}
use Rattle.tokens.specs.TokenText.{tokens_text}
use Rattle.tokens.proofs.show.push_tokens.Given as goal

abbrev pub invariant-loop-token : goal.invariant-loop-token
invariant-loop-token l =
    l.text.items ≡ l.fn.text.items ++ tokens_text l.names l.cats l.escape (take l.token-index l.tokens)
