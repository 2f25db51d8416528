use Rattle.std.proofs.Common.{rules}
use Rattle.scaled.proofs.PrintLaws.{push_last_digit}
use Rattle.scaled.proofs.printing.+push_digits.Goals as goal

pub returns-in_ok-push : goal.returns-in_ok-push
returns-in_ok-push t c = record {
  text = push_last_digit c.args.places c.args.number c.args.text.now.items c.push_digits.new.text.items _ c.if-places-gt0.true (search rules) (search rules);
}
