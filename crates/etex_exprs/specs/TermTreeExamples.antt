-- Expressions worked out by the definitions. The values are those that TeX gives.
use Rattle.std.specs.Prelude.{◌≡◌, ℕ, ℤ, pos, negsuc, List, [], ◌∷◌, ◌++◌, Option, Some, None}
use Rattle.tokens.specs.declared.token.Token.TheVariants as token
use Rattle.tokens.specs.declared.meaning.Meaning.TheVariants as meaning
use Rattle.tokens.specs.Codes.{relax_code}
use Rattle.tokens.specs.declared.kind.Kind.TheVariants.{ArithOverflow, MissingParenthesis}
use Rattle.scan_nums.specs.declared.number.Number.{Number}
use Rattle.scan_nums.specs.declared.number.Number.TheVariants as number
use Rattle.scan_nums.specs.declared.verdict.Phrase.TheVariants as phrase
use Rattle.scan_nums.specs.declared.verdict.Verdict.{Verdict}
use Rattle.scan_nums.specs.declared.verdict.Verdict.TheVariants.{Need, Sub, Done, DoneBefore, Trouble}
use Rattle.scan_nums.specs.Taken.{Taken, Seen, Told}
use Rattle.etex_exprs.specs.declared.sort.Sort.TheVariants.{Whole, Length}
use Rattle.etex_exprs.specs.TermTreeReading.{wanted}

-- a character of category 12; an operand, which begins with the digit 1; \relax; a space
abbrev pub sign : ℕ → List Taken
sign byte = Seen (token.Char 12 byte) (meaning.Char 12 byte) ∷ []

abbrev pub value : Number → List Taken
value n = Seen (token.Char 12 49) (meaning.Char 12 49) ∷ Told n ∷ []

abbrev pub relax : List Taken
relax = Seen (token.Frozen 0) (meaning.Primitive relax_code) ∷ []

abbrev pub space : List Taken
space = Seen (token.Char 10 32) (meaning.Char 10 32) ∷ []

abbrev pub int : ℕ → List Taken
int n = value (number.Int (pos n))

abbrev pub dimen : ℕ → List Taken
dimen n = value (number.Dimen (pos n))

-- `(` is 40, `)` 41, `*` 42, `+` 43, `-` 45, `/` 47
pub record WorkedExpressions : Type 0 where
  -- \numexpr 7/2\relax
  pub halves : wanted Whole (int 7 ++ sign 47 ++ int 2 ++ relax) ≡ Some (Done (number.Int (pos 4)))
  -- \numexpr 2+3 *4x
  pub product_first : wanted Whole (int 2 ++ sign 43 ++ int 3 ++ space ++ sign 42 ++ int 4 ++ sign 120) ≡ Some (DoneBefore (number.Int (pos 14)) 1)
  -- \numexpr (2+3)*4\relax
  pub parentheses : wanted Whole (sign 40 ++ int 2 ++ sign 43 ++ int 3 ++ sign 41 ++ sign 42 ++ int 4 ++ relax) ≡ Some (Done (number.Int (pos 20)))
  -- \numexpr 100/3/3\relax
  pub from_the_left : wanted Whole (int 100 ++ sign 47 ++ int 3 ++ sign 47 ++ int 3 ++ relax) ≡ Some (Done (number.Int (pos 11)))
  -- \numexpr 7*7/2*2\relax: one fraction, then a product
  pub one_fraction : wanted Whole (int 7 ++ sign 42 ++ int 7 ++ sign 47 ++ int 2 ++ sign 42 ++ int 2 ++ relax) ≡ Some (Done (number.Int (pos 50)))
  -- \dimexpr 1pt*65536/6\relax
  pub large : wanted Length (dimen 65536 ++ sign 42 ++ int 65536 ++ sign 47 ++ int 6 ++ relax) ≡ Some (Done (number.Dimen (pos 715827883)))
  -- \dimexpr 1pt*65536/3\relax
  pub too_large : wanted Length (dimen 65536 ++ sign 42 ++ int 65536 ++ sign 47 ++ int 3 ++ relax) ≡ Some (Trouble ArithOverflow)
  -- \numexpr 2147483647+1 with nothing behind it, and with a second +
  pub not_yet : wanted Whole (int 2147483647 ++ sign 43 ++ int 1) ≡ Some Need
  pub at_once : wanted Whole (int 2147483647 ++ sign 43 ++ int 1 ++ sign 43) ≡ Some (Trouble ArithOverflow)
  -- \dimexpr 2pt*( wants a whole number
  pub whole_operand : wanted Length (dimen 131072 ++ sign 42 ++ sign 40 ++ sign 49) ≡ Some (Sub phrase.Int)
  -- \numexpr (7\relax
  pub unclosed : wanted Whole (sign 40 ++ int 7 ++ relax) ≡ Some (Trouble MissingParenthesis)
