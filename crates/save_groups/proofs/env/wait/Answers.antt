-- The innermost group is the last one.
use Rattle.std.proofs.Common.{◌≡◌, refl, arith, suc, length, ◌-◌}
use Rattle.save_groups.specs.declared.group.Group.{Group}
use Rattle.save_groups.proofs.Marks.{marks-same, marks-waiting, mark-same, mark-more, on_err}
use Rattle.save_groups.proofs.env.wait.Goals as goal

pub returns-in_err-push-clause-err : goal.returns-in_err-push-clause-err
returns-in_err-push-clause-err c =
    let last : length c.args.groups.now.items ≡ suc (c.len-last.result - 1) = omega (arith, c.requires, c.len-last.ensures, c.args.groups.now.ok.0) in
    let new : Group = record { kind = c.index_mut.result.now.kind; line = c.index_mut.result.now.line; after = c.push.new.self; first = c.index_mut.result.now.first } in
    on_err c.from_residual.result
    (marks-same c.args.groups.now.items c.index_mut.result.now new (c.len-last.result - 1) last c.index_mut.ensures.value
    (mark-same c.index_mut.result.now new refl refl refl c.in_err-push.ensures.items))

pub returns-clause-ok : goal.returns-clause-ok
returns-clause-ok c =
    let last : length c.args.groups.now.items ≡ suc (c.len-last.result - 1) = omega (arith, c.requires, c.len-last.ensures, c.args.groups.now.ok.0) in
    let new : Group = record { kind = c.index_mut.result.now.kind; line = c.index_mut.result.now.line; after = c.push.new.self; first = c.index_mut.result.now.first } in
    marks-waiting c.args.token c.args.groups.now.items c.index_mut.result.now new (c.len-last.result - 1) last c.index_mut.ensures.value
    (mark-more c.args.token c.index_mut.result.now new refl refl refl c.in_ok-push.ensures.items)
