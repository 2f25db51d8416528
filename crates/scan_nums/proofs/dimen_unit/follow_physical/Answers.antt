-- By what the letters have led to.
use Rattle.std.proofs.Common.{sym, subst}
use Rattle.scan_nums.specs.declared.verdict.Verdict.TheVariants.{Need}
use Rattle.scan_nums.specs.declared.dimen_state.DimenState.TheVariants.{PhysicalWord}
use Rattle.scan_nums.specs.declared.dimen_state.DimenStep.TheVariants.{Going}
use Rattle.scan_nums.specs.declared.keyword.Followed.{Followed}
use Rattle.scan_nums.specs.declared.keyword.Followed.TheVariants as followed
use Rattle.scan_nums.specs.UnitWords.{followed_words, ReadsUpTo}
use Rattle.scan_nums.proofs.DimenLaws.{physical_says, more_physical_leads, leads_by}
use Rattle.scan_nums.proofs.dimen_unit.follow_physical.Goals as goal

pub returns-in-More-clause-leads : goal.returns-in-More-clause-leads
returns-in-More-clause-leads c =
    λ mu orders x.
    let P : Followed → Type 0 = λ fl. ReadsUpTo c.args.read fl in
    leads_by {A = Followed} mu orders (λ fl next more. physical_says c.args.negative c.args.factor.whole c.args.factor.fraction c.args.read (followed_words fl) next more) (followed.More c.in-More.letters) c.args.followed x (Going (PhysicalWord c.args.negative c.args.factor c.in-More.letters) Need) (sym c.in-More.is)
    (more_physical_leads mu orders c.args.negative c.args.factor c.in-More.letters c.args.read x (subst P c.in-More.is c.requires))

pub returns-in-Whole-clause-leads : goal.returns-in-Whole-clause-leads
returns-in-Whole-clause-leads c =
    λ mu orders x. leads_by {A = Followed} mu orders (λ fl next more. physical_says c.args.negative c.args.factor.whole c.args.factor.fraction c.args.read (followed_words fl) next more) (followed.Whole c.in-Whole.name) c.args.followed x _ (sym c.in-Whole.is) (c.physical_found.ensures.leads mu orders x)

pub returns-in-Broken-clause-leads : goal.returns-in-Broken-clause-leads
returns-in-Broken-clause-leads c =
    λ mu orders x. leads_by {A = Followed} mu orders (λ fl next more. physical_says c.args.negative c.args.factor.whole c.args.factor.fraction c.args.read (followed_words fl) next more) followed.Broken c.args.followed x _ (sym c.in-Broken.is) (c.no_unit.ensures.leads mu orders x)
