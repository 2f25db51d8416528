-- Which registers from 256 on are held, and how often (etex.ch, on sparse arrays, where a save and a meaning that
-- `\countdef` made keep an element alive): once for each meaning in force that names one, once for each save of one,
-- and once for each saved meaning that names one.
use Rattle.std.specs.Prelude.{◌≡◌, ℕ, ◌+◌, ◌<◌, ◌≤◌, ◌^◌, true, List, [], ◌∷◌, Option, None, Some, if◌then◌else◌}
use Rattle.tokens.specs.declared.meaning.Meaning.{Meaning}
use Rattle.save_groups.specs.declared.key.Key.{Key}
use Rattle.save_groups.specs.declared.value.Value.{Value}
use Rattle.save_groups.specs.declared.entry.Entry.{Entry}
use Rattle.save_groups.specs.declared.save.Save.{Save}
use Rattle.save_groups.specs.declared.current.Current.{Current}
use Rattle.save_groups.specs.Entries.{Entries}
use Rattle.save_groups.specs.InTrees.{is_in_tree, count_of, holders_of}
use Rattle.save_groups.specs.Nodes.{named_by, named_by_meaning, held_by_saves}

-- the register that an entry with a value needs: itself, or the one that a meaning names
abbrev pub first_in_tree : List Key → Option Key
first_in_tree [] = None
first_in_tree (key ∷ keys) = if is_in_tree key then Some key else first_in_tree keys

abbrev pub needed_register : Key → Value → Option Key
needed_register key value = first_in_tree (key ∷ named_by value)

-- how often the meanings of a table name a register
abbrev pub named_in : Key → List (Entry Meaning) → ℕ
named_in key [] = 0
named_in key (entry ∷ entries) = count_of key (named_by_meaning entry.value) + named_in key entries

-- how often meanings in force do
abbrev pub named_count : Key → Entries → ℕ
named_count key e = named_in key e.names + named_in key e.actives

-- how often saves hold a register
abbrev pub held_in : List Save → Key → ℕ
held_in saves key = count_of key (held_by_saves saves)

-- with those that an entry with a value needs
abbrev pub with_needed : Key → Value → (Key → ℕ) → Key → ℕ
with_needed key value held other = count_of other (key ∷ named_by value) + held other

-- each register is held as often as meanings in force name it, and as a function says beside that
pub record IsHeldBy (c : Current) (held : Key → ℕ) : Type 0 where
  pub counts : (key : Key) → is_in_tree key ≡ true → holders_of c.trees key ≡ named_count key c.tables + held key

-- it is held so often at least: by the meanings in force, and these
pub record Holds (c : Current) (keys : List Key) : Type 0 where
  pub enough : (key : Key) → is_in_tree key ≡ true → named_count key c.tables + count_of key keys ≤ holders_of c.trees key

-- no register is held so often that it couldn't be held once more
pub record HasFewHolders (c : Current) : Type 0 where
  pub few : (key : Key) → is_in_tree key ≡ true → holders_of c.trees key < 2 ^ 127
