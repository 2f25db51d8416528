-- One token more.
use Rattle.std.proofs.Common.{arith}
use Rattle.macro_args.proofs.BraceLaws.{exact_along}
use Rattle.macro_args.proofs.braces.Braces.of.Goals as goal

pub loop-token-preserved : goal.loop-token-preserved
loop-token-preserved c = exact_along _ _ c.args.tokens.now c.loop-token.token-index _ c.loop-token-test.true (omega arith) c.loop-token.invariant c.with-braces.ensures
