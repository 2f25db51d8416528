-- The last group is the innermost one.
use Rattle.std.proofs.lemmas.Result.{on_ok_weaker}
use Rattle.save_groups.specs.Kept.{store_of, marks_of}
use Rattle.save_groups.proofs.Marks.{copies-wait}
use Rattle.save_groups.proofs.env.Env.after_group.Goals as goal

pub returns-clause-ok : goal.returns-clause-ok
returns-clause-ok c =
    on_ok_weaker c.wait.result
    (λ e. copies-wait c.args.token (store_of c.self.inside) c.args.self.now (marks_of c.wait.new.groups.items) c.self.view_is c.requires e)
    c.wait.ensures.ok
