use Rattle.dvi_out.specs.FileOf.{file_in}
use Rattle.dvi_out.proofs.StoryLaws.{on_ok, end_story}
use Rattle.dvi_out.proofs.dvi.Dvi.finish.Goals as goal

pub returns-clause-story : goal.returns-clause-story
returns-clause-story c =
    on_ok c.finish.result
    (end_story c.args.self.now (file_in c.self.inside.pages) (file_in c.finish.new.self) c.self.view_is)
    c.finish.ensures.ok
