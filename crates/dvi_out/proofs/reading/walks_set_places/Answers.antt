-- The law on the walk through a page.
use Rattle.dvi_out.proofs.reading.walks_set_places.Goals as goal
use Rattle.dvi_out.proofs.WalkPages.{walks_set_places}

pub returns : goal.returns
returns c = walks_set_places
