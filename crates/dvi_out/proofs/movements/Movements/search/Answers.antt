use Rattle.std.proofs.Common.{◌≡◌, ℕ, ℤ, Option, Some, None, List, sym, ap, ◌∙◌, rules}
use Rattle.std.specs.Int.{w32, cast_signed, cast_unsigned}
use Rattle.std.specs.Int.RustNames.{FitsSigned}
use Rattle.std.proofs.lemmas.Int.{to_z-of_z}
use Rattle.dvi_out.specs.declared.movements.Word.{Word}
use Rattle.dvi_out.specs.declared.movements.Movement.{Movement}
use Rattle.dvi_out.specs.declared.movements.Look.TheVariants.{Pass}
use Rattle.dvi_out.specs.FamilyOf.{family_of}
use Rattle.dvi_out.specs.SpellingMovements.{look_at, search as searched, open_movements}
use Rattle.dvi_out.proofs.MarkLaws.{found_passed, found_hit, found_leave, found_none, stays_seen}
use Rattle.dvi_out.proofs.movements.Movements.search.Goals as goal

-- a width as it is passed on
abbrev passed : ℤ → ℤ
passed width = cast_signed w32 (cast_unsigned w32 width)

-- what is found for a width as it is passed on is found for the width
found_for : (width : ℤ) (moves : List Movement) (found : Option (ℕ × Word)) → FitsSigned w32 width →
    searched (passed width) moves None ≡ found → found ≡ searched width moves None
found_for width moves found fits is =
    sym is ∙ ap (λ (w : ℤ). searched w moves None) (to_z-of_z w32 width fits)

pub loop-behind-init : goal.loop-behind-init
loop-behind-init c =
    found_passed (passed c.args.width) (family_of c.args.self.now) c.loop-passed.passed None (Some c.in-Pass-Some.word)
    (search rules)
    (ap (look_at (passed c.args.width) None) (sym c.open_at.ensures) ∙ sym c.in-Pass-Some.ensures
    ∙ ap (λ (s : Option Word). Pass s) c.in-Pass-Some.field-0-is)
    c.loop-passed.invariant

pub loop-passed-preserved : goal.loop-passed-preserved
loop-passed-preserved c =
    found_passed (passed c.args.width) (family_of c.args.self.now) c.loop-passed.passed None None (search rules)
    (ap (look_at (passed c.args.width) None) (sym c.open_at.ensures) ∙ sym c.in-Pass-None.ensures
    ∙ ap (λ (s : Option Word). Pass s) c.in-Pass-None.field-0-is)
    c.loop-passed.invariant

pub loop-behind-preserved : goal.loop-behind-preserved
loop-behind-preserved c =
    let look : look_at (passed c.args.width) (Some c.in-Pass-Some.word) c.open_at-in-loop-behind.result ≡ Pass c.in-Pass.field-0 =
    sym c.in-Pass.ensures in
    found_passed (passed c.args.width) (family_of c.args.self.now) c.loop-behind.behind (Some c.in-Pass-Some.word)
    (Some c.in-Pass-Some.word) (search rules)
    (ap (look_at (passed c.args.width) (Some c.in-Pass-Some.word)) (sym c.open_at-in-loop-behind.ensures) ∙ look
    ∙ ap (λ (s : Option Word). Pass s)
    (stays_seen (passed c.args.width) c.in-Pass-Some.word c.open_at-in-loop-behind.result c.in-Pass.field-0 look))
    c.loop-behind.invariant

pub returns-in-Hit-look-clause-found : goal.returns-in-Hit-look-clause-found
returns-in-Hit-look-clause-found c =
    found_for c.args.width (open_movements (family_of c.args.self.now)) _ c.ranges.width
    (found_hit (passed c.args.width) (family_of c.args.self.now) c.loop-behind.behind (Some c.in-Pass-Some.word)
    c.in-Hit-look.word (search rules)
    (ap (look_at (passed c.args.width) (Some c.in-Pass-Some.word)) (sym c.open_at-in-loop-behind.ensures) ∙ sym c.in-Hit-look.ensures)
    c.loop-behind.invariant)

pub returns-in-Leave-look-clause-found : goal.returns-in-Leave-look-clause-found
returns-in-Leave-look-clause-found c =
    found_for c.args.width (open_movements (family_of c.args.self.now)) _ c.ranges.width
    (found_leave (passed c.args.width) (family_of c.args.self.now) c.loop-behind.behind (Some c.in-Pass-Some.word)
    (search rules)
    (ap (look_at (passed c.args.width) (Some c.in-Pass-Some.word)) (sym c.open_at-in-loop-behind.ensures) ∙ sym c.in-Leave-look.ensures)
    c.loop-behind.invariant)

pub returns-in-Pass-Some-clause-found : goal.returns-in-Pass-Some-clause-found
returns-in-Pass-Some-clause-found c =
    found_for c.args.width (open_movements (family_of c.args.self.now)) _ c.ranges.width
    (found_none (passed c.args.width) (family_of c.args.self.now) c.loop-behind.behind (Some c.in-Pass-Some.word)
    (search rules) c.loop-behind.invariant)

pub returns-in-Hit-clause-found : goal.returns-in-Hit-clause-found
returns-in-Hit-clause-found c =
    found_for c.args.width (open_movements (family_of c.args.self.now)) _ c.ranges.width
    (found_hit (passed c.args.width) (family_of c.args.self.now) c.loop-passed.passed None c.in-Hit.word (search rules)
    (ap (look_at (passed c.args.width) None) (sym c.open_at.ensures) ∙ sym c.in-Hit.ensures)
    c.loop-passed.invariant)

pub returns-clause-found : goal.returns-clause-found
returns-clause-found c =
    found_for c.args.width (open_movements (family_of c.args.self.now)) _ c.ranges.width
    (found_none (passed c.args.width) (family_of c.args.self.now) c.loop-passed.passed None (search rules)
    c.loop-passed.invariant)
