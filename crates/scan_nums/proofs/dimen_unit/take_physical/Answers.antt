-- The first letter of a unit behind `true`.
use Rattle.std.proofs.Common.{◌≡◌, Bool, false, cond, ◌∷◌, sym, rules}
use Rattle.scan_nums.specs.declared.keyword.UnitName.{UnitName}
use Rattle.scan_nums.specs.Taken.{Seen}
use Rattle.scan_nums.specs.Starts.{is_space}
use Rattle.scan_nums.specs.Constants.{behind, taken_space}
use Rattle.scan_nums.specs.Keywords.{Words, behind_letter, keyword, letter_of}
use Rattle.scan_nums.specs.UnitWords.{followed_words, physical_words}
use Rattle.scan_nums.specs.Dimension.{no_unit, physical_found}
use Rattle.scan_nums.proofs.DimenLaws.{physical_says, leads_by}
use Rattle.scan_nums.proofs.dimen_unit.take_physical.Goals as goal

pub returns-else-is_space-clause-leads : goal.returns-else-is_space-clause-leads
returns-else-is_space-clause-leads c =
    λ mu orders.
    let e : is_space c.args.meaning.now ≡ false = search rules in
    leads_by {A = Bool} mu orders (λ space next more. keyword physical_words 0 (physical_found c.args.negative c.args.factor.whole c.args.factor.fraction next) (no_unit c.args.negative c.args.factor.whole c.args.factor.fraction next) (cond space (behind taken_space more) (Seen c.args.token c.args.meaning.now ∷ more)))
    false (is_space c.args.meaning.now) (Seen c.args.token c.args.meaning.now) _ (sym e)
    (leads_by {A = Words UnitName} mu orders (λ words next more. physical_says c.args.negative c.args.factor.whole c.args.factor.fraction 1 words next more)
    (followed_words c.first_physical_letter.result) (behind_letter (letter_of c.args.token) physical_words) (Seen c.args.token c.args.meaning.now) _ c.first_physical_letter.ensures.words
    (c.follow_physical.ensures.leads mu orders (Seen c.args.token c.args.meaning.now)))
