use Rattle.dvi_out.specs.FileOf.{file_in}
use Rattle.dvi_out.specs.SpellingFile.{page_of}
use Rattle.dvi_out.proofs.StoryLaws.{on_ok, page_story}
use Rattle.dvi_out.proofs.dvi.Dvi.page.Goals as goal

pub returns-clause-story : goal.returns-clause-story
returns-clause-story c =
    on_ok c.page.result
    (page_story c.args.self.now (file_in c.self.inside.pages) (file_in c.page.new.self)
    (page_of c.args.shipped.now c.args.counts c.args.offset.0 c.args.offset.1 c.args.fonts.now) c.self.view_is)
    c.page.ensures.ok
