-- A quantity, or the first letter of a keyword.
use Rattle.std.proofs.Common.{◌≡◌, ℤ, Option, pos, sym, rules}
use Rattle.scan_nums.specs.declared.number.Number.TheVariants as number
use Rattle.scan_nums.specs.declared.start.Start.{Start}
use Rattle.scan_nums.specs.declared.start.Start.TheVariants.{Space, Plus, Minus, Accent, Octal, Hexadecimal, Given, Other}
use Rattle.scan_nums.specs.Taken.{Seen}
use Rattle.scan_nums.specs.Units.{width_in}
use Rattle.scan_nums.specs.Dimension.{multiple_ends, unit_from}
use Rattle.scan_nums.proofs.DimenLaws.{leads_by}
use Rattle.scan_nums.proofs.dimen_unit.begin_unit.Goals as goal

pub returns-in-Given-clause-leads : goal.returns-in-Given-clause-leads
returns-in-Given-clause-leads c =
    let e : c.width_in.result ≡ width_in c.args.kind.mu (number.Int (pos c.in-Given.n)) = search rules in
    leads_by {A = Start} c.args.kind.mu c.args.kind.orders (λ start next more. unit_from start c.args.kind.mu c.args.kind.orders c.args.negative c.args.factor.whole c.args.factor.fraction next (Seen c.args.token c.args.meaning.now) more) (Given c.in-Given.n) c.args.start (Seen c.args.token c.args.meaning.now) _ (sym c.in-Given.is)
    (leads_by {A = Option ℤ} c.args.kind.mu c.args.kind.orders (λ width next more. multiple_ends c.args.negative c.args.factor.whole c.args.factor.fraction next width more)
    c.width_in.result (width_in c.args.kind.mu (number.Int (pos c.in-Given.n))) (Seen c.args.token c.args.meaning.now) _ e (c.multiple_ends.ensures.leads c.args.kind.mu c.args.kind.orders (Seen c.args.token c.args.meaning.now)))

pub returns-in-Space-clause-leads : goal.returns-in-Space-clause-leads
returns-in-Space-clause-leads c =
    leads_by {A = Start} c.args.kind.mu c.args.kind.orders (λ start next more. unit_from start c.args.kind.mu c.args.kind.orders c.args.negative c.args.factor.whole c.args.factor.fraction next (Seen c.args.token c.args.meaning.now) more) Space c.args.start (Seen c.args.token c.args.meaning.now) _ (sym c.in-Space.is) c.begin_word.ensures.leads

pub returns-in-Plus-clause-leads : goal.returns-in-Plus-clause-leads
returns-in-Plus-clause-leads c =
    leads_by {A = Start} c.args.kind.mu c.args.kind.orders (λ start next more. unit_from start c.args.kind.mu c.args.kind.orders c.args.negative c.args.factor.whole c.args.factor.fraction next (Seen c.args.token c.args.meaning.now) more) Plus c.args.start (Seen c.args.token c.args.meaning.now) _ (sym c.in-Plus.is) c.begin_word-in-Plus.ensures.leads

pub returns-in-Minus-clause-leads : goal.returns-in-Minus-clause-leads
returns-in-Minus-clause-leads c =
    leads_by {A = Start} c.args.kind.mu c.args.kind.orders (λ start next more. unit_from start c.args.kind.mu c.args.kind.orders c.args.negative c.args.factor.whole c.args.factor.fraction next (Seen c.args.token c.args.meaning.now) more) Minus c.args.start (Seen c.args.token c.args.meaning.now) _ (sym c.in-Minus.is) c.begin_word-in-Minus.ensures.leads

pub returns-in-Accent-clause-leads : goal.returns-in-Accent-clause-leads
returns-in-Accent-clause-leads c =
    leads_by {A = Start} c.args.kind.mu c.args.kind.orders (λ start next more. unit_from start c.args.kind.mu c.args.kind.orders c.args.negative c.args.factor.whole c.args.factor.fraction next (Seen c.args.token c.args.meaning.now) more) Accent c.args.start (Seen c.args.token c.args.meaning.now) _ (sym c.in-Accent.is) c.begin_word-in-Accent.ensures.leads

pub returns-in-Octal-clause-leads : goal.returns-in-Octal-clause-leads
returns-in-Octal-clause-leads c =
    leads_by {A = Start} c.args.kind.mu c.args.kind.orders (λ start next more. unit_from start c.args.kind.mu c.args.kind.orders c.args.negative c.args.factor.whole c.args.factor.fraction next (Seen c.args.token c.args.meaning.now) more) Octal c.args.start (Seen c.args.token c.args.meaning.now) _ (sym c.in-Octal.is) c.begin_word-in-Octal.ensures.leads

pub returns-in-Hexadecimal-clause-leads : goal.returns-in-Hexadecimal-clause-leads
returns-in-Hexadecimal-clause-leads c =
    leads_by {A = Start} c.args.kind.mu c.args.kind.orders (λ start next more. unit_from start c.args.kind.mu c.args.kind.orders c.args.negative c.args.factor.whole c.args.factor.fraction next (Seen c.args.token c.args.meaning.now) more) Hexadecimal c.args.start (Seen c.args.token c.args.meaning.now) _ (sym c.in-Hexadecimal.is) c.begin_word-in-Hexadecimal.ensures.leads

pub returns-in-Other-clause-leads : goal.returns-in-Other-clause-leads
returns-in-Other-clause-leads c =
    leads_by {A = Start} c.args.kind.mu c.args.kind.orders (λ start next more. unit_from start c.args.kind.mu c.args.kind.orders c.args.negative c.args.factor.whole c.args.factor.fraction next (Seen c.args.token c.args.meaning.now) more) Other c.args.start (Seen c.args.token c.args.meaning.now) _ (sym c.in-Other.is) c.begin_word-in-Other.ensures.leads
