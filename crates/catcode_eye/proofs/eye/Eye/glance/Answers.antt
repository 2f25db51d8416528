use Rattle.std.proofs.Common.{ap}
use Rattle.catcode_eye.specs.Outlook.{Outlook}
use Rattle.catcode_eye.proofs.Shortening.{glance-shorter}
use Rattle.catcode_eye.proofs.eye.Eye.glance.Goals as goal

pub returns-clause-progress : goal.returns-clause-progress
returns-clause-progress c =
    glance-shorter c.args.cats.now c.self.inside.state c.self.inside.at c.self.inside.end c.self.inside.bytes.items c.deref.result.now
    c.look-sighting.result.glance _ c.look-sighting.result.place c.look-sighting.result.state c.args.self.now.rest _
    c.deref.ensures.value (ap (λ (o : Outlook). o.rest) c.self.view_is) c.placed-self-inside.ensures.rest c.look-sighting.ensures.shows
