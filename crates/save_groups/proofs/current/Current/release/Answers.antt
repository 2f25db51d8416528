-- What is needed is one register at most, which is held for it.
use Rattle.save_groups.proofs.Held.{needed-held, held-less, held-no-less}
use Rattle.save_groups.proofs.current.Current.release.Goals as goal

pub release_key-requires-clause-held : goal.release_key-requires-clause-held
release_key-requires-clause-held g c =
    needed-held c.args.self.now c.args.key c.in-Some.register c.args.value.now c.needed_register.result c.needed_register.ensures c.in-Some.is c.requires.kind c.requires.held

pub returns-in-Some-clause-held : goal.returns-in-Some-clause-held
returns-in-Some-clause-held g c =
    held-less c.args.self.now c.release_key.new.self c.args.key c.in-Some.register c.args.value.now c.needed_register.result
    c.needed_register.ensures c.in-Some.is c.requires.kind c.release_key.ensures.released

pub returns-in_default-clause-held : goal.returns-in_default-clause-held
returns-in_default-clause-held g c =
    held-no-less c.args.self.now c.args.key c.args.value.now c.needed_register.result c.needed_register.ensures c.in_default.is c.requires.kind
