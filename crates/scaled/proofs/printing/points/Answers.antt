use Rattle.std.proofs.Common.{◌≡◌, ℕ, List, ◌^◌, ◌<◌, ◌%◌, unsigned_abs, sym, subst, ap, ◌∙◌, rules}
use Rattle.scaled.specs.ArithmeticDecimals.{points_text, IsPrintedFraction, digits_after_point, dimension_of_text}
use Rattle.scaled.proofs.PrintedDigits.{IsPrintedFraction-unique}
use Rattle.scaled.proofs.PrintLaws.{dimension_of_text-points_text, IsPrintedFraction-points_text}
use Rattle.scaled.proofs.printing.points.Goals as goal

pub returns-clause-digits : goal.returns-clause-digits
returns-clause-digits c =
    let small : unsigned_abs c.args.s < 2 ^ 32 = search rules in
    let text : c.push_fraction.new.text.items ≡ points_text c.args.s = search rules in
    subst (λ (t : List ℕ). IsPrintedFraction (unsigned_abs c.args.s % 65536) (digits_after_point t)) (sym text) (IsPrintedFraction-points_text c.args.s small)

pub returns-clause-only : goal.returns-clause-only
returns-clause-only c =
    let small : unsigned_abs c.args.s < 2 ^ 32 = search rules in
    let text : c.push_fraction.new.text.items ≡ points_text c.args.s = search rules in
    let printed = subst (λ (t : List ℕ). IsPrintedFraction (unsigned_abs c.args.s % 65536) (digits_after_point t)) (sym text) (IsPrintedFraction-points_text c.args.s small) in
    λ ds other. IsPrintedFraction-unique (unsigned_abs c.args.s % 65536) ds _ other printed

pub returns-clause-read_back : goal.returns-clause-read_back
returns-clause-read_back c =
    let small : unsigned_abs c.args.s < 2 ^ 32 = search rules in
    let text : c.push_fraction.new.text.items ≡ points_text c.args.s = search rules in
    ap dimension_of_text text ∙ dimension_of_text-points_text c.args.s small
