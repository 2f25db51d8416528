-- What begins with no mark is read as a decimal constant.
use Rattle.std.proofs.Common.{◌∷◌, sym, ◌∙◌}
use Rattle.scan_nums.specs.Taken.{Seen}
use Rattle.scan_nums.specs.Dimension.{decimal, signed_dimension}
use Rattle.scan_nums.proofs.DimenLaws.{dimen_other, leads_along}
use Rattle.scan_nums.proofs.dimen_scan.begin.Goals as goal

pub returns-in-Other-clause-leads : goal.returns-in-Other-clause-leads
returns-in-Other-clause-leads c =
    leads_along c.args.kind.mu c.args.kind.orders (λ next more. signed_dimension c.args.kind.mu c.args.kind.orders c.args.negative next (Seen c.args.token c.args.meaning.now ∷ more))
    (λ next more. decimal c.args.kind.mu c.args.kind.orders c.args.negative next (Seen c.args.token c.args.meaning.now) more) (Seen c.args.token c.args.meaning.now) _
    (λ next more. dimen_other c.args.kind.mu c.args.kind.orders c.args.negative c.args.token c.args.meaning.now next more (sym c.requires ∙ c.in-Other.is)) c.begin_decimal.ensures.leads
