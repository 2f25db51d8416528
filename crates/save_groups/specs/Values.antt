-- Values of entries: when two are the same (the e-TeX manual, on assignments that change nothing), and which an
-- entry can hold.
use Rattle.std.specs.Prelude.{◌≡◌, ◌↔◌, IsTrue, refl, ℤ, pos, negsuc, nat_lt, Bool, true, false, ◌&&◌, List, [], ◌∷◌, Option, None, Some}
use Rattle.std.proofs.Common.{zero, suc, subst}
use Rattle.std.proofs.lemmas.Bool.{and_from, and_parts}
use Rattle.std.proofs.lemmas.Bool.Decides.{Decides-int_eq}
use Rattle.std.specs.Ordering.{int_eq}
use Rattle.tokens.specs.TokenList.{same_tokens}
use Rattle.tokens.specs.Meaning.{same_meaning}
use Rattle.tokens.specs.declared.meaning.Meaning.{Meaning}
use Rattle.tokens.specs.declared.meaning.Meaning.TheVariants as meaning
use Rattle.scaled.specs.Glue.{same_glue}
use Rattle.nodes.specs.declared.boxes.BoxNode.{BoxNode}
use Rattle.nodes.specs.declared.node.Node.{Node}
use Rattle.save_groups.specs.declared.key.Key.{Key}
use Rattle.save_groups.specs.declared.key.Key.TheVariants.{Register, Parameter, Code, Name, Active, CurrentFont, Family, Shape, Penalties}
use Rattle.save_groups.specs.declared.value.Value.{Value}
use Rattle.save_groups.specs.declared.value.Value.TheVariants as value
use Rattle.save_groups.specs.Keys.{holds_number, holds_glue, holds_tokens, holds_meaning, holds_box, holds_table, is_key}

-- whether two tables have the same numbers in the same order
abbrev pub same_numbers : List ℤ → List ℤ → Bool
same_numbers [] [] = true
same_numbers (n ∷ ns) (m ∷ ms) = int_eq n m && same_numbers ns ms
same_numbers [] (m ∷ ms) = false
same_numbers (n ∷ ns) [] = false

-- the test says whether two tables are equal
same_numbers-equal : (ns ms : List ℤ) → same_numbers ns ms ≡ true → ns ≡ ms
same_numbers-equal [] [] h = refl
same_numbers-equal (n ∷ ns) (m ∷ ms) h =
    let p = and_parts (int_eq n m) (same_numbers ns ms) h in
    let head : n ≡ m = (Decides-int_eq n m).0 p.0 in
    let tail : ns ≡ ms = same_numbers-equal ns ms p.1 in
    cc
same_numbers-equal [] (m ∷ ms) h = cc
same_numbers-equal (n ∷ ns) [] h = cc

same_numbers-refl : (ns : List ℤ) → same_numbers ns ns ≡ true
same_numbers-refl [] = refl
same_numbers-refl (n ∷ ns) = and_from _ _ ((Decides-int_eq n n).1 refl) (same_numbers-refl ns)

pub same_numbers-decides : (ns ms : List ℤ) → IsTrue (same_numbers ns ms) ↔ (ns ≡ ms)
same_numbers-decides ns ms = (
  same_numbers-equal ns ms,
  λ e. let P : List ℤ → Type 0 = λ zs. same_numbers ns zs ≡ true in subst P e (same_numbers-refl ns),
)

-- whether two boxes are both void
abbrev pub are_void : Option (BoxNode (List Node)) → Option (BoxNode (List Node)) → Bool
are_void None None = true
are_void None (Some b) = false
are_void (Some b) None = false
are_void (Some b) (Some d) = false

-- whether two values are the same: numbers and glues in all parts, lists and macros in all tokens and flags, tables
-- in all numbers, other meanings where they are equal. Of boxes void is the same as void, and no other one is the
-- same as any, not even as an equal one
abbrev pub same_value : Value → Value → Bool
same_value (value.Number n) (value.Number m) = int_eq n m
same_value (value.Number _) (value.Glue _) = false
same_value (value.Number _) (value.Tokens _) = false
same_value (value.Number _) (value.Meaning _) = false
same_value (value.Number _) (value.Boxed _) = false
same_value (value.Number _) (value.Table _) = false
same_value (value.Glue _) (value.Number _) = false
same_value (value.Glue g) (value.Glue h) = same_glue g h
same_value (value.Glue _) (value.Tokens _) = false
same_value (value.Glue _) (value.Meaning _) = false
same_value (value.Glue _) (value.Boxed _) = false
same_value (value.Glue _) (value.Table _) = false
same_value (value.Tokens _) (value.Number _) = false
same_value (value.Tokens _) (value.Glue _) = false
same_value (value.Tokens xs) (value.Tokens ys) = same_tokens xs ys
same_value (value.Tokens _) (value.Meaning _) = false
same_value (value.Tokens _) (value.Boxed _) = false
same_value (value.Tokens _) (value.Table _) = false
same_value (value.Meaning _) (value.Number _) = false
same_value (value.Meaning _) (value.Glue _) = false
same_value (value.Meaning _) (value.Tokens _) = false
same_value (value.Meaning a) (value.Meaning b) = same_meaning a b
same_value (value.Meaning _) (value.Boxed _) = false
same_value (value.Meaning _) (value.Table _) = false
same_value (value.Boxed _) (value.Number _) = false
same_value (value.Boxed _) (value.Glue _) = false
same_value (value.Boxed _) (value.Tokens _) = false
same_value (value.Boxed _) (value.Meaning _) = false
same_value (value.Boxed x) (value.Boxed y) = are_void x y
same_value (value.Boxed _) (value.Table _) = false
same_value (value.Table _) (value.Number _) = false
same_value (value.Table _) (value.Glue _) = false
same_value (value.Table _) (value.Tokens _) = false
same_value (value.Table _) (value.Meaning _) = false
same_value (value.Table _) (value.Boxed _) = false
same_value (value.Table ns) (value.Table ms) = same_numbers ns ms

-- whether a number is one of the sixteen categories
abbrev pub is_category : ℤ → Bool
is_category (pos n) = nat_lt n 16
is_category (negsuc n) = false

-- whether an entry's numbers have this one among them: a category is 0 to 15
abbrev pub is_number_of : Key → ℤ → Bool
is_number_of (Register kind number) n = true
is_number_of (Parameter place) n = true
is_number_of (Code zero byte) n = is_category n
is_number_of (Code (suc table) byte) n = true
is_number_of (Name id) n = true
is_number_of (Active byte) n = true
is_number_of CurrentFont n = true
is_number_of (Family size number) n = true
is_number_of Shape n = true
is_number_of (Penalties array) n = true

-- whether an entry can hold a value
abbrev pub fits : Key → Value → Bool
fits key (value.Number n) = holds_number key && is_number_of key n
fits key (value.Glue g) = holds_glue key
fits key (value.Tokens xs) = holds_tokens key
fits key (value.Meaning m) = holds_meaning key
fits key (value.Boxed b) = holds_box key
fits key (value.Table ns) = holds_table key

-- whether a register that a meaning names is one of the mode's
abbrev pub names_in_mode : Bool → Meaning → Bool
names_in_mode extended meaning.Undefined = true
names_in_mode extended (meaning.Primitive code) = true
names_in_mode extended (meaning.Macro m) = true
names_in_mode extended (meaning.Char cat byte) = true
names_in_mode extended (meaning.CharDef byte) = true
names_in_mode extended (meaning.MathCharDef code) = true
names_in_mode extended (meaning.Register kind number) = is_key extended (Register kind number)
names_in_mode extended (meaning.Font font) = true

-- whether a mode can have a value: all of them, but for a meaning that names a register which it doesn't have
abbrev pub is_in_mode : Bool → Value → Bool
is_in_mode extended (value.Number n) = true
is_in_mode extended (value.Glue g) = true
is_in_mode extended (value.Tokens xs) = true
is_in_mode extended (value.Meaning m) = names_in_mode extended m
is_in_mode extended (value.Boxed b) = true
is_in_mode extended (value.Table ns) = true
