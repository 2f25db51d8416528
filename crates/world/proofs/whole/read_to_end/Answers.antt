use Rattle.std.proofs.Common.{rules, ◌≡◌, ◌≢◌, ◌⊎◌, ℕ, ◌+◌, ◌^◌, List, [], ◌∷◌, ◌++◌, Vec, Global, Ok, Err, Result, take, refl, sym, ap, ◌∙◌, subst, arith}
use Rattle.std.specs.Io.KnownBytes.{Consumes}
use Rattle.std.proofs.KnownBytes.{Consumes-nil, Consumes-trans, Consumes-kept}
use Rattle.world.specs.Asked.{bytes_read}
use Rattle.world.specs.InTurn.{gave_nothing}
use Rattle.world.specs.Trace.{read_from}
use Rattle.world.specs.declared.world.WorldError.{WorldError}
use Rattle.world.specs.declared.world.WorldError.TheVariants.{OutOfMemory}
use Rattle.world.proofs.Turns.{HasRead, EndsReading, some_portion, one_more_read, again_read, read_to_the_end, refused_read, read_in_vain, unkept_read}
use Rattle.world.proofs.whole.read_to_end.Goals as goal
use Rattle.world.proofs.whole.read_to_end.Goals.{in-Ok+in_ok-extend_from_slice-in-Ok, in-Err+in-Interrupted}

pub loop-init : goal.loop-init
loop-init g c =
    let empty = sym c.new-bytes.ensures.items in
    (refl, subst (Consumes _ _) empty (Consumes-nil _), subst (λ bytes. HasRead g.D.Disk.did c.args.disk.now c.args.file.now 0 bytes c.args.disk.now c.args.file.now) empty ([], refl, refl, gave_nothing))

pub returns-in-Ok-eq0-clause-calls : goal.returns-in-Ok-eq0-clause-calls
returns-in-Ok-eq0-clause-calls g c =
    let nothing : take c.in-Ok-eq0.field-0 c.read_part.new.buffer ≡ [] = ap (λ n. take n c.read_part.new.buffer) c.in-Ok-eq0.field-0-test in
    read_to_the_end g.D.Disk.did c.args.disk.now c.args.file.now c.loop.counter _ _ _ _ _ c.loop.invariant.2 c.loop-test.true (subst (λ portion. g.D.Disk.did c.loop.disk (read_from c.loop.file (Ok portion) c.read_part.new.file) c.read_part.new.self) nothing c.in-Ok-eq0.ensures.answered)

pub returns-in_err-extend_from_slice-in-Ok-clause-calls :
    goal.returns-in_err-extend_from_slice-in-Ok-clause-calls
returns-in_err-extend_from_slice-in-Ok-clause-calls g c =
    let more =
    one_more_read g.D.Disk.did c.args.disk.now c.args.file.now c.loop.counter _ _ _ _ _ _ _ c.loop.invariant.2 (some_portion _ _ c.in-Ok.ensures.bound.0 c.in-Ok.count-test.1) c.in-Ok.ensures.answered refl in
    let ended = unkept_read g.D.Disk.did c.args.disk.now c.args.file.now _ _ _ _ more (omega (arith, c.loop-test.true)) in
    let e : c.from_residual.result ≡ Err OutOfMemory = search rules in
    subst (λ (r : Result (Vec ℕ Global) WorldError). EndsReading g.D.Disk.did c.args.disk.now c.args.file.now (bytes_read r) c.read_part.new.self) (sym e) ended

pub returns-in_err-extend_from_slice-in-Ok-clause-refused :
    goal.returns-in_err-extend_from_slice-in-Ok-clause-refused
returns-in_err-extend_from_slice-in-Ok-clause-refused g c =
    let h : (x : List ℕ) × Consumes (g.D.Disk.remaining c.args.file.now) (g.D.Disk.remaining c.read_part.new.file) x =
    (_, Consumes-trans _ _ _ _ _ c.loop.invariant.1 c.in-Ok.ensures.bytes.0) in
    search rules

pub returns-in_default : goal.returns-in_default
returns-in_default g c =
    record {
      calls = refused_read g.D.Disk.did c.args.disk.now c.args.file.now c.loop.counter _ _ _ _ _ c.in-Err.error c.refusal.result c.loop.invariant.2 c.loop-test.true c.in-Err.ensures.answered (λ e. c.in_default.not-Interrupted (c.kind.ensures ∙ e)) c.refusal.ensures;
      bytes = tt;
      end = tt;
      refused = (_, Consumes-kept _ _ _ _ c.loop.invariant.1 c.in-Err.ensures.bytes);
    }

pub loop-preserved : goal.loop-preserved
loop-preserved g c = elim c.match-read_part.branch [
  | in-Ok+in_ok-extend_from_slice-in-Ok w ↦
      let grown : c.match-read_part.bytes.items ≡ c.loop.bytes.items ++ take w.in-Ok.count c.read_part.new.buffer =
      ap (λ v. v.items) w.bytes-is ∙ w.in_ok-extend_from_slice-in-Ok.ensures.items in (
        search rules,
        subst (Consumes _ _) (sym grown) (Consumes-trans _ _ _ _ _ c.loop.invariant.1 w.in-Ok.ensures.bytes.0),
        one_more_read g.D.Disk.did c.args.disk.now c.args.file.now c.loop.counter _ _ _ _ _ _ _ c.loop.invariant.2 (some_portion _ _ w.in-Ok.ensures.bound.0 w.in-Ok.count-test.1) w.in-Ok.ensures.answered grown,
      )
  | in-Err+in-Interrupted w ↦
      let same : c.match-read_part.bytes.items ≡ c.loop.bytes.items = ap (λ v. v.items) w.bytes-is in (
        search rules,
        subst (Consumes _ _) (sym same) (Consumes-kept _ _ _ _ c.loop.invariant.1 w.in-Err.ensures.bytes),
        subst (λ bytes. HasRead g.D.Disk.did c.args.disk.now c.args.file.now (c.loop.counter + 1) bytes c.read_part.new.self c.read_part.new.file) (sym same) (again_read g.D.Disk.did c.args.disk.now c.args.file.now c.loop.counter _ _ _ _ _ w.in-Err.error c.loop.invariant.2 w.in-Err.ensures.answered (sym w.kind.ensures ∙ w.in-Interrupted.is)),
      )
]

pub returns-clause-calls : goal.returns-clause-calls
returns-clause-calls g c =
    let spent : c.loop.counter ≡ 2 ^ 40 = search rules in
    read_in_vain g.D.Disk.did c.args.disk.now c.args.file.now c.loop.bytes.items c.loop.disk c.loop.file (subst (λ n. HasRead g.D.Disk.did c.args.disk.now c.args.file.now n c.loop.bytes.items c.loop.disk c.loop.file) spent c.loop.invariant.2)
