use Rattle.std.proofs.Common.{sym, rules}
use Rattle.dvi_out.specs.FileOf.{file_in}
use Rattle.dvi_out.specs.SpellingFile.{page_of}
use Rattle.dvi_out.proofs.StoryLaws.{page_by}
use Rattle.dvi_out.proofs.pages.Pages.page.Goals as goal

pub returns-clause-ok : goal.returns-clause-ok
returns-clause-ok c =
    page_by (file_in c.args.self.now) (file_in c.add_page.new.self)
    (page_of c.args.shipped.now c.args.counts.now c.args.offset.0 c.args.offset.1 c.args.fonts.now) c.in_ok-page.page
    c.at_least_zero-down.result c.at_least_zero-right.result (sym c.in_ok-check.ensures.answer) c.in_ok-page.ensures
    (search rules) (search rules) (search rules) (search rules)
