-- All tokens were shown.
use Rattle.std.proofs.Common.{◌≡◌, take, arith, rules}
use Rattle.std.proofs.lemmas.List.{take_all}
use Rattle.tokens.proofs.show.push_tokens.Goals as goal

pub returns : goal.returns
returns c =
    let whole : take c.loop-token.token-index c.args.tokens.now ≡ c.args.tokens.now =
    take_all c.loop-token.token-index c.args.tokens.now (omega arith) in
    search rules
