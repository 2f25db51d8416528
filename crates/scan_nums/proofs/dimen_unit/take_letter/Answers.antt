-- The letter follows those that were read.
use Rattle.std.proofs.Common.{ℕ, ◌+◌, ◌≡◌, ap}
use Rattle.scan_nums.specs.declared.keyword.UnitName.{UnitName}
use Rattle.scan_nums.specs.Taken.{Seen}
use Rattle.scan_nums.specs.Keywords.{Words, behind_letter, letter_of}
use Rattle.scan_nums.specs.UnitWords.{followed_words, letters_read, words_behind}
use Rattle.scan_nums.proofs.DimenLaws.{word_says, leads_by}
use Rattle.scan_nums.proofs.dimen_unit.take_letter.Goals as goal

pub returns-clause-leads : goal.returns-clause-leads
returns-clause-leads c =
    λ mu orders.
    let F : ℕ → ℕ = λ n. n + 1 in
    leads_by {A = Words UnitName} mu orders (λ words next more. word_says c.args.negative c.args.factor.whole c.args.factor.fraction (letters_read c.args.letters + 1) words next more)
    (followed_words c.next_letter.result) (behind_letter (letter_of c.args.token) (words_behind c.args.letters)) (Seen c.args.token c.args.meaning.now) _ c.next_letter.ensures.words
    (leads_by {A = ℕ} mu orders (λ read next more. word_says c.args.negative c.args.factor.whole c.args.factor.fraction read (followed_words c.next_letter.result) next more)
    (c.count.result + 1) (letters_read c.args.letters + 1) (Seen c.args.token c.args.meaning.now) _ (ap F c.count.ensures) (c.follow.ensures.leads mu orders (Seen c.args.token c.args.meaning.now)))
