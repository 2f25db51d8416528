use Rattle.save_groups.proofs.Given.{given-law}
use Rattle.save_groups.proofs.laws.given_law.Goals as goal

pub returns : goal.returns
returns c = given-law
