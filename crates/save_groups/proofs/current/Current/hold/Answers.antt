-- What is needed is one register at most.
use Rattle.std.proofs.lemmas.Result.{on_ok_weaker}
use Rattle.save_groups.proofs.Held.{held-more}
use Rattle.save_groups.proofs.current.Current.hold.Goals as goal

pub returns-in-Some-clause-held : goal.returns-in-Some-clause-held
returns-in-Some-clause-held g c =
    on_ok_weaker c.hold_key.result
    (λ more. held-more c.args.self.now c.hold_key.new.self c.args.key c.in-Some.register c.args.value.now c.needed_register.result
    c.needed_register.ensures c.in-Some.is c.requires.kind more)
    c.hold_key.ensures.held
