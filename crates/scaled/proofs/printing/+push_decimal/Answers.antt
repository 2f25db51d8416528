use Rattle.std.proofs.Common.{◌≡◌, ◌+◌, ◌/◌, ◌%◌, ◌∷◌, [], ◌++◌, arith, rules}
use Rattle.std.specs.Prelude.{decimal}
use Rattle.scaled.proofs.PrintLaws.{push_last_of_many, push_only_digit}
use Rattle.scaled.proofs.printing.+push_decimal.Goals as goal
use Rattle.scaled.proofs.printing.+push_decimal.Goals.{then-number-ge10+in_ok-push_decimal, else-number-ge10}

pub returns : goal.returns
returns t c =
    let n = c.args.number in
    let old = c.args.text.now.items in
    let pushed : c.push.new.self.items ≡ c.if-number-ge10.text.items ++ (48 + n % 10) ∷ [] = search rules in
    record {
      text = elim c.if-number-ge10.branch [
        | then-number-ge10+in_ok-push_decimal w ↦
            (let before : c.if-number-ge10.text.items ≡ old ++ decimal (n / 10) = cc (w.in_ok-push_decimal.ensures.text) in
            push_last_of_many n old c.if-number-ge10.text.items c.push.new.self.items w.if-number-ge10.true (omega arith) before pushed)
        | else-number-ge10 w ↦
            (let begun : c.push.new.self.items ≡ old ++ (48 + n % 10) ∷ [] = cc in
            push_only_digit n old c.push.new.self.items w.if-number-ge10.false begun)
      ];
    }
