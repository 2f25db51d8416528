-- \catcode with a character constant in front of `=` and a category behind it (The TeXbook, page 39 and
-- chapter 24; tex.web 440 to 445 and 1232). Other forms of the two numbers are left out.
use Rattle.std.specs.Prelude.{ℕ, ◌+◌, ◌-◌, ◌*◌, Bool, false, ◌==◌, ◌&&◌, nat_le, if◌then◌else◌, Option, None, Some, Ok, slice_set}
use Rattle.tokens.specs.declared.token.Token.{Token}
use Rattle.tokens.specs.declared.token.Token.TheVariants.{Char, Active, Name, Arg, Frozen}
use Rattle.asking.specs.Did.{Did}
use Rattle.asking.specs.Meaning.{Meant, still, ◌>>=◌}
use Rattle.asking.specs.Seen.{Outside}
use Rattle.stomach.specs.declared.state.State.{State}
use Rattle.stomach.specs.Character.{named_character, or_wrong}
use Rattle.stomach.specs.Expanded.{operand_token}
use Rattle.stomach.specs.Operand.{put_back, wrong_operand}

-- whether a token is this character, of category 12
abbrev pub is_other : ℕ → Token → Bool
is_other byte (Char cat b) = cat == 12 && b == byte
is_other byte (Active b) = false
is_other byte (Name id) = false
is_other byte (Arg number) = false
is_other byte (Frozen number) = false

abbrev pub exact : ℕ → Token × State → Did State (Unit {0})
exact byte t = if is_other byte t.0 then Ok (tt, t.1) else wrong_operand t.1

-- this character, of category 12
unfoldable pub exactly : Outside → ℕ → State → Meant State (Unit {0})
exactly o byte s = operand_token o s >>= (λ t. still (exact byte t))

-- the value of a decimal digit
abbrev pub digit_value : Token → Option ℕ
digit_value (Char cat byte) = if cat == 12 && nat_le 48 byte && nat_le byte 57 then Some (byte - 48) else None
digit_value (Active byte) = None
digit_value (Name id) = None
digit_value (Arg number) = None
digit_value (Frozen number) = None

abbrev pub digit_of : Token × State → Did State ℕ
digit_of t = or_wrong t.1 (digit_value t.0)

unfoldable pub digit : Outside → State → Meant State ℕ
digit o s = operand_token o s >>= (λ t. still (digit_of t))

abbrev pub is_space : Token → Bool
is_space (Char cat byte) = cat == 10
is_space (Active byte) = false
is_space (Name id) = false
is_space (Arg number) = false
is_space (Frozen number) = false

-- one space behind a number is absorbed, and any other token is put back
abbrev pub number_over : ℕ → Token × State → Did State ℕ
number_over value t = if is_space t.0 then Ok (value, t.1) else Ok (value, put_back t.0 t.1)

unfoldable pub after_number : Outside → ℕ → State → Meant State ℕ
after_number o value s = operand_token o s >>= (λ t. still (number_over value t))

-- a second digit counts where the value of both is at most 15
abbrev pub second_digit : Outside → ℕ → Token × State → Option ℕ → Meant State ℕ
second_digit o first t None = still (number_over first t)
second_digit o first t (Some second) =
    if nat_le (10 * first + second) 15 then after_number o (10 * first + second) t.1 else still (number_over first t)

abbrev pub more_digits : Outside → ℕ → Token × State → Meant State ℕ
more_digits o first t = second_digit o first t (digit_value t.0)

-- a category, 0 to 15
unfoldable pub category_number : Outside → State → Meant State ℕ
category_number o s = do
  first ← digit o s
  next ← operand_token o first.1
  more_digits o first.0 next

-- the byte has this category from now on
unfoldable pub with_category : ℕ → ℕ → State → Did State (Unit {0})
with_category byte cat s = Ok (tt, record s { categories = slice_set s.categories byte cat })

unfoldable pub catcode : Outside → State → Meant State (Unit {0})
catcode o s = do
  accent ← exactly o 96 s
  byte ← still (named_character accent.1)
  equals ← exactly o 61 byte.1
  cat ← category_number o equals.1
  still (with_category byte.0 cat.0 cat.1)
