-- What `\the` wants, and what is told as a list, go by the same table.
use Rattle.std.specs.Prelude.{◌≡◌, refl, ℕ, pos, Bool, true, false, ◌==◌, if◌then◌else◌, List, None}
use Rattle.tokens.specs.Codes.{toks_code}
use Rattle.tokens.specs.declared.token.Token.{Token}
use Rattle.tokens.specs.declared.meaning.Meaning.{Meaning}
use Rattle.tokens.specs.declared.meaning.Meaning.TheVariants as meaning
use Rattle.tokens.specs.declared.meaning.RegKind.{RegKind}
use Rattle.tokens.specs.declared.meaning.RegKind.TheVariants.{Count, Dimen, Skip, Muskip, Box, Toks}
use Rattle.gullet.specs.declared.task.Act.TheVariants as act
use Rattle.gullet.specs.declared.task.Want.TheVariants.{Act}
use Rattle.gullet.specs.declared.values.Shown.{Shown}
use Rattle.gullet.specs.declared.values.Shown.TheVariants as shown
use Rattle.gullet.specs.Meanings.{is_looked_at}
use Rattle.gullet.specs.ValueText.{shown_code, shown_register, shown_of, wanted, ValueLaw}
use Rattle.gullet.specs.Wants.{Taken, quantity, is_token_parameter_code, only, shown_want, toks_want, parameter_list_want, the_primitive, the_register, the_value}

module _ (straight : Bool) (t : Token) (taken : List Taken) where
  by_code : (code : ℕ) (looked listed kept : Bool)
      → (if looked then shown_want (quantity code None) taken
      else if listed then toks_want straight taken
      else if kept then parameter_list_want straight code taken
      else only (Act (act.CantUse t)) taken)
      ≡ wanted straight t
      (if looked then shown.Quantity (quantity code None) else if listed then shown.NumberedList else if kept then shown.Parameter code else shown.Nothing) taken
  by_code code true listed kept = refl
  by_code code false true kept = refl
  by_code code false false true = refl
  by_code code false false false = refl

  by_register : (kind : RegKind) (place : ℕ) → the_register straight t kind place taken ≡ wanted straight t (shown_register kind place) taken
  by_register Count place = refl
  by_register Dimen place = refl
  by_register Skip place = refl
  by_register Muskip place = refl
  by_register Box place = refl
  by_register Toks place = refl

  by_meaning : (m : Meaning) → the_value straight t m taken ≡ wanted straight t (shown_of m) taken
  by_meaning meaning.Undefined = refl
  by_meaning (meaning.Primitive code) = by_code code (is_looked_at code) (code == toks_code) (is_token_parameter_code code)
  by_meaning (meaning.Macro m) = refl
  by_meaning (meaning.Char cat byte) = refl
  by_meaning (meaning.CharDef byte) = refl
  by_meaning (meaning.MathCharDef n) = refl
  by_meaning (meaning.Register kind place) = by_register kind place
  by_meaning (meaning.Font font) = refl

pub value_law : ValueLaw
value_law = record { same = λ straight t m taken. by_meaning straight t taken m }
