-- The first letter of a unit.
use Rattle.scan_nums.specs.declared.keyword.UnitName.{UnitName}
use Rattle.scan_nums.specs.Taken.{Seen}
use Rattle.scan_nums.specs.Keywords.{Words, behind_letter, letter_of}
use Rattle.scan_nums.specs.UnitWords.{followed_words, unit_words}
use Rattle.scan_nums.proofs.DimenLaws.{word_says, leads_by}
use Rattle.scan_nums.proofs.dimen_unit.begin_word.Goals as goal

pub returns-clause-leads : goal.returns-clause-leads
returns-clause-leads c =
    leads_by {A = Words UnitName} c.args.kind.mu c.args.kind.orders (λ words next more. word_says c.args.negative c.args.factor.whole c.args.factor.fraction 1 words next more)
    (followed_words c.first_letter.result) (behind_letter (letter_of c.args.token) (unit_words c.args.kind.mu c.args.kind.orders)) (Seen c.args.token c.args.meaning.now) _ c.first_letter.ensures.words
    (c.follow.ensures.leads c.args.kind.mu c.args.kind.orders (Seen c.args.token c.args.meaning.now))
