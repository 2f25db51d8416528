-- All else than a space and a letter l stands behind the dimension.
use Rattle.std.proofs.Common.{◌≡◌, Bool, false, ◌&&◌, cond, ◌∷◌, ◌∙◌, rules}
use Rattle.std.proofs.lemmas.Bool.{cond-false}
use Rattle.scan_nums.specs.Taken.{Seen}
use Rattle.scan_nums.specs.Starts.{is_space}
use Rattle.scan_nums.specs.Keywords.{letter_of}
use Rattle.scan_nums.specs.Dimension.{is_l, can_rise, fil, ends_before}
use Rattle.scan_nums.proofs.DimenLaws.{leads_along}
use Rattle.scan_nums.proofs.dimen_unit.take_fil.Goals as goal

pub returns-else-rises-clause-leads : goal.returns-else-rises-clause-leads
returns-else-rises-clause-leads c =
    λ mu orders.
    let no_space : is_space c.args.meaning.now ≡ false = search rules in
    let no_letter : (is_l (letter_of c.args.token) && can_rise c.args.order) ≡ false = search rules in
    leads_along mu orders (λ next more. fil c.args.extent c.args.order next (Seen c.args.token c.args.meaning.now ∷ more)) (λ next more. ends_before c.args.extent c.args.order next (Seen c.args.token c.args.meaning.now) more) (Seen c.args.token c.args.meaning.now) _
    (λ next more. cond-false _ _ _ no_space ∙ cond-false _ _ _ no_letter) (c.ends_before.ensures.leads mu orders (Seen c.args.token c.args.meaning.now))
