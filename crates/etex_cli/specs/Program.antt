-- What the program takes of its command line, and the status with which it ends.
use Rattle.std.specs.Prelude.{ℕ, Bool, true, false, List, [], ◌∷◌}
use Rattle.stomach.specs.declared.ending.Exit.{Exit}
use Rattle.stomach.specs.declared.ending.Exit.TheVariants.{Done, Trouble, Usage, Capacity, Spent, ReadFault, WriteFault, OutOfMemory}

-- the words behind the program's own name, which is the first
abbrev pub behind_name : {A : Type 0} → List A → List A
behind_name [] = []
behind_name (name ∷ words) = words

-- the status of each exit
abbrev pub status_of : Exit → ℕ
status_of Done = 0
status_of Trouble = 1
status_of Usage = 2
status_of Capacity = 3
status_of Spent = 4
status_of ReadFault = 5
status_of WriteFault = 6
status_of OutOfMemory = 7

-- the status where the words can't be had: for want of memory, or because one isn't text
abbrev pub status_without_words : Bool → ℕ
status_without_words true = 7
status_without_words false = 8
