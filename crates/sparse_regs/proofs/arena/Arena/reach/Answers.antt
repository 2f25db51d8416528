-- The way goes down by a digit at each turn, and ends at the leaf.
use Rattle.std.proofs.Common.{◌≡◌, ℕ, ◌+◌, ◌-◌, ap, sym, ◌∙◌, refl, subst, arith, length}
use Rattle.std.specs.Prelude.{Some, None, slice_index_or}
use Rattle.sparse_regs.specs.declared.prefix.Prefix.{Prefix}
use Rattle.sparse_regs.specs.Prefixes.{longer, whole}
use Rattle.sparse_regs.specs.Linked.{IsPrefix, of, shorter}
use Rattle.sparse_regs.specs.Places.{HasRoom, IsTightBut, prefix_from}
use Rattle.sparse_regs.proofs.PrefixLemmas.{shorter-longer}
use Rattle.sparse_regs.proofs.Paths.{first, first-longer, digit-small, first-digits, first-small, IsPrefix-first, first-whole, not-above}
use Rattle.sparse_regs.proofs.Shaping.{grew-refl, grew-trans}
use Rattle.sparse_regs.proofs.arena.Arena.reach.Goals as goal

pub loop-digit-init : goal.loop-digit-init
loop-digit-init g c = record {
  arena = c.requires.arena;
  path = c.as_slice-digits.ensures.value ∙ c.path-path.ensures;
  prefix = refl;
  above = refl;
  room = c.requires.room;
  grew = grew-refl g.T.Slot.start c.args.self.now c.requires.arena;
  tight = λ tight. tight;
}

pub longer-prefix-requires-clause-digit : goal.longer-prefix-requires-clause-digit
longer-prefix-requires-clause-digit g c = digit-small c.loop-digit.digit-index c.args.number (slice_index_or c.as_slice-digits.result.now c.loop-digit.digit-index 0) (omega arith) (ap (λ xs. slice_index_or xs c.loop-digit.digit-index 0) c.loop-digit.invariant.path)

pub longer-prefix-requires-clause-digits : goal.longer-prefix-requires-clause-digits
longer-prefix-requires-clause-digits g c =
    omega (arith, ap length c.loop-digit.invariant.path, ap (λ (p : Prefix). p.digits) c.loop-digit.invariant.prefix, first-digits c.loop-digit.digit-index c.args.number (omega (arith, ap length c.loop-digit.invariant.path)))

pub longer-prefix-requires-clause-number : goal.longer-prefix-requires-clause-number
longer-prefix-requires-clause-number g c =
    omega (arith, ap (λ (p : Prefix). p.number) c.loop-digit.invariant.prefix, first-small c.loop-digit.digit-index c.args.number (omega (arith, ap length c.loop-digit.invariant.path)) (omega arith))

pub step-requires-clause-arena : goal.step-requires-clause-arena
step-requires-clause-arena g c = c.loop-digit.invariant.arena

pub step-requires-clause-prefix : goal.step-requires-clause-prefix
step-requires-clause-prefix g c =
    subst IsPrefix (sym (c.longer-prefix.ensures ∙ ap (λ p. longer p (slice_index_or c.as_slice-digits.result.now c.loop-digit.digit-index 0)) c.loop-digit.invariant.prefix ∙ first-longer c.loop-digit.digit-index c.args.number (slice_index_or c.as_slice-digits.result.now c.loop-digit.digit-index 0) (omega (arith, ap length c.loop-digit.invariant.path)) (omega arith) (ap (λ xs. slice_index_or xs c.loop-digit.digit-index 0) c.loop-digit.invariant.path))) (IsPrefix-first c.loop-digit.digit-index c.args.number (omega (arith, ap length c.loop-digit.invariant.path)) (omega arith))

pub step-requires-clause-above : goal.step-requires-clause-above
step-requires-clause-above g c =
    c.loop-digit.invariant.above
    ∙ ap Some (sym (ap shorter (c.longer-prefix.ensures ∙ ap (λ p. longer p (slice_index_or c.as_slice-digits.result.now c.loop-digit.digit-index 0)) c.loop-digit.invariant.prefix) ∙ shorter-longer (first c.loop-digit.digit-index c.args.number) (slice_index_or c.as_slice-digits.result.now c.loop-digit.digit-index 0) (digit-small c.loop-digit.digit-index c.args.number (slice_index_or c.as_slice-digits.result.now c.loop-digit.digit-index 0) (omega arith) (ap (λ xs. slice_index_or xs c.loop-digit.digit-index 0) c.loop-digit.invariant.path))))

pub step-requires-clause-room : goal.step-requires-clause-room
step-requires-clause-room g c = record {
  places = omega (arith, ap length c.loop-digit.invariant.path, c.loop-digit.invariant.room.places);
  free = omega (arith, ap length c.loop-digit.invariant.path, c.loop-digit.invariant.room.free);
}

pub loop-digit-preserved : goal.loop-digit-preserved
loop-digit-preserved g c =
    let room : 4 - c.loop-digit.digit-index ≡ 4 - (c.loop-digit.digit-index + 1) + 1 = omega (arith, ap length c.loop-digit.invariant.path) in
    let Q : ℕ → Type 0 = λ m. HasRoom m c.loop-digit.self in
    record {
      arena = c.step.ensures.arena;
      path = c.loop-digit.invariant.path;
      prefix = (c.longer-prefix.ensures ∙ ap (λ p. longer p (slice_index_or c.as_slice-digits.result.now c.loop-digit.digit-index 0)) c.loop-digit.invariant.prefix ∙ first-longer c.loop-digit.digit-index c.args.number (slice_index_or c.as_slice-digits.result.now c.loop-digit.digit-index 0) (omega (arith, ap length c.loop-digit.invariant.path)) (omega arith) (ap (λ xs. slice_index_or xs c.loop-digit.digit-index 0) c.loop-digit.invariant.path));
      above = c.step.ensures.here ∙ ap Some (c.longer-prefix.ensures ∙ ap (λ p. longer p (slice_index_or c.as_slice-digits.result.now c.loop-digit.digit-index 0)) c.loop-digit.invariant.prefix ∙ first-longer c.loop-digit.digit-index c.args.number (slice_index_or c.as_slice-digits.result.now c.loop-digit.digit-index 0) (omega (arith, ap length c.loop-digit.invariant.path)) (omega arith) (ap (λ xs. slice_index_or xs c.loop-digit.digit-index 0) c.loop-digit.invariant.path));
      room = c.step.ensures.room (4 - (c.loop-digit.digit-index + 1)) (subst Q room c.loop-digit.invariant.room);
      grew = grew-trans g.T.Slot.start c.args.self.now c.loop-digit.self c.step.new.self c.loop-digit.invariant.grew c.step.ensures.grew;
      tight = λ tight. c.step.ensures.tight (c.loop-digit.invariant.tight tight);
    }

pub unreachable-requires : goal.unreachable-requires
unreachable-requires g c =
    not-above (prefix_from c.loop-digit.self.places.items) c.args.number c.loop-digit.digit-index c.loop-digit.node (omega (arith, ap length c.loop-digit.invariant.path)) c.in-None.is c.loop-digit.invariant.above

pub returns-clause-arena : goal.returns-clause-arena
returns-clause-arena g c = c.loop-digit.invariant.arena

pub returns-clause-here : goal.returns-clause-here
returns-clause-here g c =
    ap (of (prefix_from c.loop-digit.self.places.items)) (sym c.in-Some.is) ∙ c.loop-digit.invariant.above
    ∙ ap Some (first-whole c.loop-digit.digit-index c.args.number (omega (arith, ap length c.loop-digit.invariant.path)))

pub returns-clause-grew : goal.returns-clause-grew
returns-clause-grew g c = c.loop-digit.invariant.grew

pub returns-clause-tight : goal.returns-clause-tight
returns-clause-tight g c =
    λ tight. rw c.in-Some.is at (c.loop-digit.invariant.tight tight)
