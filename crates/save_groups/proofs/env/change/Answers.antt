-- What the new value needs was held for it, and then what the old one needed is.
use Rattle.save_groups.proofs.Held.{holds-prepared, holds-replaced}
use Rattle.save_groups.proofs.env.change.Goals as goal

pub replace-old-requires-clause-held : goal.replace-old-requires-clause-held
replace-old-requires-clause-held g c =
    holds-prepared c.args.current.now c.prepare.new.self c.args.key c.args.value c.requires.named c.in_ok-prepare.ensures.held

pub release-requires-clause-held : goal.release-requires-clause-held
release-requires-clause-held g c =
    holds-replaced c.prepare.new.self c.replace-old.new.self c.args.key c.args.value c.replace-old.result.value
    (holds-prepared c.args.current.now c.prepare.new.self c.args.key c.args.value c.requires.named c.in_ok-prepare.ensures.held)
    c.replace-old.ensures.held
