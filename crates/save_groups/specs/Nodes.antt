-- Which registers are held, and how many nodes those from 256 on take in trees of their hexadecimal digits, most
-- significant first (the e-TeX manual, on additional registers, which are kept in sparse arrays; etex.ch, on those
-- arrays, of which a name that `\countdef` made keeps an element alive). An environment is a function, so these
-- definitions are given the list of the keys that ever got a value.
use Rattle.std.specs.Prelude.{ℕ, ◌≡◌, ◌/◌, ◌==◌, nat_le, Bool, true, not, ◌&&◌, List, [], ◌∷◌, ◌++◌, length, filter, if◌then◌else◌}
use Rattle.std.specs.List.{list_any, list_all}
use Rattle.tokens.specs.declared.meaning.Meaning.{Meaning}
use Rattle.tokens.specs.declared.meaning.Meaning.TheVariants as meaning
use Rattle.tokens.specs.declared.meaning.RegKind.{RegKind}
use Rattle.tokens.specs.Meaning.{same_reg_kind}
use Rattle.save_groups.specs.declared.key.Key.{Key}
use Rattle.save_groups.specs.declared.key.Key.TheVariants.{Register, Parameter, Code, Name, Active, CurrentFont, Family, Shape, Penalties}
use Rattle.save_groups.specs.declared.value.Value.{Value}
use Rattle.save_groups.specs.declared.value.Value.TheVariants as value
use Rattle.save_groups.specs.declared.save.Save.{Save}
use Rattle.save_groups.specs.Keys.{same_key}
use Rattle.save_groups.specs.Values.{same_value}
use Rattle.save_groups.specs.StartValues.{start_value}
use Rattle.save_groups.specs.Environments.{Copies, beginning}
use Rattle.save_groups.specs.Calls.{Attempt, attempted, after_attempts, given_by, given}

-- the register that a meaning names, if it names one
abbrev pub named_by_meaning : Meaning → List Key
named_by_meaning meaning.Undefined = []
named_by_meaning (meaning.Primitive code) = []
named_by_meaning (meaning.Macro m) = []
named_by_meaning (meaning.Char cat byte) = []
named_by_meaning (meaning.CharDef byte) = []
named_by_meaning (meaning.MathCharDef code) = []
named_by_meaning (meaning.Register kind number) = Register kind number ∷ []
named_by_meaning (meaning.Font font) = []

abbrev pub named_by : Value → List Key
named_by (value.Number n) = []
named_by (value.Glue g) = []
named_by (value.Tokens xs) = []
named_by (value.Meaning m) = named_by_meaning m
named_by (value.Boxed b) = []
named_by (value.Table ns) = []

-- a key that is a register from 256 on
abbrev pub tree_register : Key → List Key
tree_register (Register kind number) = if nat_le 256 number then Register kind number ∷ [] else []
tree_register (Parameter place) = []
tree_register (Code table byte) = []
tree_register (Name id) = []
tree_register (Active byte) = []
tree_register CurrentFont = []
tree_register (Family size number) = []
tree_register Shape = []
tree_register (Penalties array) = []

abbrev pub tree_registers : List Key → List Key
tree_registers [] = []
tree_registers (key ∷ keys) = tree_register key ++ tree_registers keys

-- each key once
abbrev pub distinct_keys : List Key → List Key
distinct_keys [] = []
distinct_keys (key ∷ keys) = if list_any (same_key key) keys then distinct_keys keys else key ∷ distinct_keys keys

-- what a save holds: its register, and the one that a saved meaning names
abbrev pub held_by_saves : List Save → List Key
held_by_saves [] = []
held_by_saves (save ∷ saves) = save.key ∷ named_by save.value ++ held_by_saves saves

-- what the meanings in force hold
abbrev pub held_by_meanings : List Key → Copies → List Key
held_by_meanings [] c = []
held_by_meanings (key ∷ keys) c = named_by (c.last key).value ++ held_by_meanings keys c

-- the registers that are held, as often as they have holders: `keys` are those that ever got a value
abbrev pub held_registers : List Key → Copies → List Key
held_registers keys c = tree_registers (held_by_saves c.saves ++ held_by_meanings (distinct_keys keys) c)

-- whether an entry has its value of the start
abbrev pub is_initial : Copies → Key → Bool
is_initial c key = same_value (start_value c.extended key) (c.last key).value

-- the registers that aren't initial
abbrev pub set_registers : List Key → Copies → List Key
set_registers keys c = filter (λ key. not (is_initial c key)) (tree_registers keys)

-- a node: a kind of registers, and the first digits of some of its registers
pub record Prefix : Type 0 where
  pub kind : RegKind
  pub digits : ℕ
  pub number : ℕ

abbrev pub same_prefix : Prefix → Prefix → Bool
same_prefix p q = same_reg_kind p.kind q.kind && (p.digits == q.digits && p.number == q.number)

-- the four prefixes of a register of four digits
abbrev pub prefixes_of : Key → List Prefix
prefixes_of (Register kind number) =
    record { kind = kind; digits = 1; number = number / 4096 }
    ∷ record { kind = kind; digits = 2; number = number / 256 }
    ∷ record { kind = kind; digits = 3; number = number / 16 }
    ∷ record { kind = kind; digits = 4; number = number } ∷ []
prefixes_of (Parameter place) = []
prefixes_of (Code table byte) = []
prefixes_of (Name id) = []
prefixes_of (Active byte) = []
prefixes_of CurrentFont = []
prefixes_of (Family size number) = []
prefixes_of Shape = []
prefixes_of (Penalties array) = []

abbrev pub prefixes : List Key → List Prefix
prefixes [] = []
prefixes (key ∷ keys) = prefixes_of key ++ prefixes keys

-- each prefix once
abbrev pub distinct_prefixes : List Prefix → List Prefix
distinct_prefixes [] = []
distinct_prefixes (p ∷ ps) = if list_any (same_prefix p) ps then distinct_prefixes ps else p ∷ distinct_prefixes ps

-- the number of nodes: the prefixes of all registers that are held or aren't initial
abbrev pub nodes : List Key → Copies → ℕ
nodes keys c = length (distinct_prefixes (prefixes (held_registers keys c ++ set_registers keys c)))

-- how many there are after each of some calls on environments
abbrev pub nodes_after : List Key → List Attempt → Copies → List ℕ
nodes_after keys [] c = []
nodes_after keys (attempt ∷ attempts) c =
    nodes (given_by attempt ++ keys) (attempted attempt c) ∷ nodes_after (given_by attempt ++ keys) attempts (attempted attempt c)

-- ---- further keys in the list change nothing

-- further keys, of entries that have their values of the start, hold no register and take no node
abbrev pub FurtherKeysLaw : Type 0
FurtherKeysLaw = (further keys : List Key) (c : Copies) → list_all (is_initial c) further ≡ true
    → (held_registers (further ++ keys) c ≡ held_registers keys c) × (nodes (further ++ keys) c ≡ nodes keys c)

-- whether none of some calls gave an entry a value
abbrev pub is_never_given : List Attempt → Key → Bool
is_never_given attempts key = not (list_any (λ k. same_key k key) (given attempts))

-- so it is enough to know the keys that some calls gave a value
abbrev pub GivenKeysLaw : Type 0
GivenKeysLaw = (extended : Bool) (attempts : List Attempt) (further : List Key) → list_all (is_never_given attempts) further ≡ true
    → nodes (further ++ given attempts) (after_attempts attempts (beginning extended)) ≡ nodes (given attempts) (after_attempts attempts (beginning extended))
