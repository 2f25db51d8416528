-- An argument stands for its tokens in front of what is left of the text.
use Rattle.std.proofs.Common.{◌≡◌, sym}
use Rattle.std.specs.Prelude.{reverse}
use Rattle.pending.specs.declared.level.Level.TheVariants.{List as ListLevel, Body}
use Rattle.pending.specs.Levels.{next_index, passed}
use Rattle.pending.proofs.Stacks.{argument_tokens, enter-same, enter-used, enter-less}
use Rattle.pending.proofs.settle.enter.Goals as goal

pub returns-in-Used-clause-same : goal.returns-in-Used-clause-same
returns-in-Used-clause-same c =
    let is_new : c.list_level-tokens.result ≡ ListLevel (argument_tokens c.args.top.now c.args.number) 0 =
    cc (c.list_level-tokens.ensures, c.in_ok-argument.ensures, c.deref.ensures.value, c.in-Body.is, c.in-Body.arguments-is) in
    let behind : c.pass.new.level ≡ Body c.in-Body.body c.in-Body.arguments (next_index c.in-Body.at c.in-Body.body) = c.pass.ensures in
    let is_passed : c.pass.new.level ≡ passed c.args.top.now = cc (behind, c.in-Body.is) in
    enter-used c.args.number c.args.top.now c.pass.new.level c.list_level-tokens.result (reverse c.args.below.now.items) c.requires
    is_passed is_new (sym c.in-Used.ensures)

pub returns-clause-same : goal.returns-clause-same
returns-clause-same c =
    let is_new : c.put_under.new.top ≡ ListLevel (argument_tokens c.args.top.now c.args.number) 0 =
    cc (c.in_ok-put_under.ensures.ok, c.list_level-tokens.ensures, c.in_ok-argument.ensures, c.deref.ensures.value, c.in-Body.is, c.in-Body.arguments-is) in
    let behind : c.pass.new.level ≡ Body c.in-Body.body c.in-Body.arguments (next_index c.in-Body.at c.in-Body.body) = c.pass.ensures in
    let is_passed : c.pass.new.level ≡ passed c.args.top.now = cc (behind, c.in-Body.is) in
    enter-same c.args.number c.args.top.now c.pass.new.level c.put_under.new.top (reverse c.args.below.now.items)
    (reverse c.put_under.new.below.items) c.requires is_passed is_new c.in_ok-put_under.ensures.below

pub returns-clause-less : goal.returns-clause-less
returns-clause-less c =
    let is_new : c.put_under.new.top ≡ ListLevel (argument_tokens c.args.top.now c.args.number) 0 =
    cc (c.in_ok-put_under.ensures.ok, c.list_level-tokens.ensures, c.in_ok-argument.ensures, c.deref.ensures.value, c.in-Body.is, c.in-Body.arguments-is) in
    let behind : c.pass.new.level ≡ Body c.in-Body.body c.in-Body.arguments (next_index c.in-Body.at c.in-Body.body) = c.pass.ensures in
    let is_passed : c.pass.new.level ≡ passed c.args.top.now = cc (behind, c.in-Body.is) in
    enter-less c.args.number c.args.top.now c.pass.new.level c.put_under.new.top (reverse c.args.below.now.items)
    (reverse c.put_under.new.below.items) c.requires is_passed is_new c.in_ok-put_under.ensures.below
