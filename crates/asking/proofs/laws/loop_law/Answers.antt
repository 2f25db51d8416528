use Rattle.asking.specs.Leads.{leads_start, leads_more, leads_enough, leads_end}
use Rattle.asking.proofs.laws.loop_law.Goals as goal

pub returns : goal.returns
returns g c = record {
  law = record {
    start = λ o work once old x s. leads_start;
    more = λ o work once old now new x₀ x y first s t l h less. leads_more new y t l h less;
    enough = λ o work once old now new x₀ x y first s t l h. leads_enough new y t l h;
    ended = λ o work once old now new x₀ x first s t stop l h. leads_end new t stop l h;
  };
}
