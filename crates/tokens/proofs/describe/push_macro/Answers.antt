-- The two texts with the arrow between them.
use Rattle.std.proofs.Common.{◌≡◌, ◌++◌, rules}
use Rattle.tokens.specs.TokenText.{tokens_text}
use Rattle.tokens.proofs.Parts.{three_parts}
use Rattle.tokens.proofs.describe.push_macro.Goals as goal

pub returns : goal.returns
returns c =
    let one : c.push_list.new.text.items
    ≡ c.args.text.now.items ++ tokens_text c.args.names.now c.args.cats.now c.args.escape c.args.m.now.params =
    search rules in
    let three : c.push_list-2.new.text.items
    ≡ c.extend_from_slice.new.self.items ++ tokens_text c.args.names.now c.args.cats.now c.args.escape c.args.m.now.body =
    search rules in
    three_parts _ _ _ _ _ _ _ one c.in_ok-extend_from_slice.ensures.items three
